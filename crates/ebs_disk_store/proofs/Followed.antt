-- One record more.
use Rattle.std.proofs.Common.{◌≡◌, ◌≢◌, inl, inr, ℕ, ◌+◌, ◌<◌, ◌≤◌, ◌^◌, Bool, true, false, cond, not, ◌==◌, List, [], ◌∷◌, Option, None, Some, Ok, Err, refl, sym, ap, subst, ◌∙◌, arith, eqb, max, nat_le, nat_lt}
use Rattle.std.specs.Prelude.{IsSome}
use Rattle.std.specs.FinMap as fin
use Rattle.std.specs.Ordering.{nat_cmp, eq_by_cmp}
use Rattle.std.specs.Cmp.{nat_cmp_total}
use Rattle.std.specs.declared.result.Result.{Result}
use Rattle.std.proofs.lemmas.Bool.{false≢true}
use Rattle.std.proofs.lemmas.Bool.Decides.{nat_tests}
use Rattle.ebs_slots.specs.inner.Slots.{SlotTable, placed}
use Rattle.ebs_slots.proofs.Maps.{gets_here, gets_there, got-insert}
use Rattle.ebs_model.specs.declared.keys.Moment.{Moment}
use Rattle.ebs_model.specs.declared.request.Request.{Request}
use Rattle.ebs_model.specs.declared.answer.Answer.{Answer}
use Rattle.ebs_model.specs.declared.answer.Failure.{Failure}
use Rattle.ebs_model.specs.declared.answer.Failure.TheVariants as failure
use Rattle.ebs_model.specs.Arrays.{WholeBlock}
use Rattle.ebs_model.specs.Kept.{same}
use Rattle.ebs_model.specs.Limits.{bad_member}
use Rattle.ebs_model.specs.Machine.{Machine, advance}
use Rattle.ebs_model.specs.Step.{act, writes_of}
use Rattle.ebs_model.specs.inner.Follows as of_call
use Rattle.ebs_lawful.specs.Calls.{is_within}
use Rattle.ebs_lawful.proofs.Lawful.{good-within}
use Rattle.ebs_kept.specs.inner.Requests.{write_at}
use Rattle.ebs_kept.specs.declared.place.Place.{Place}
use Rattle.ebs_kept.specs.declared.place.Place.TheVariants.{Upload, Volume}
use Rattle.ebs_records.specs.declared.record.AcceptedCall.{AcceptedCall}
use Rattle.ebs_records.specs.declared.record.Record.{Record}
use Rattle.ebs_records.specs.Records.{IsRecord, record_bytes}
use Rattle.ebs_recovery.specs.Made.{State, SlotOfStamp, Made, called, advanced, stated, is_taken, is_free, with_slot, if_changed, bind, made, followed, change_of}
use Rattle.ebs_recovery.specs.inner.Stands.{EachBlock}
use Rattle.ebs_recovery.specs.inner.Fits.{AgreeOn}
use Rattle.ebs_recovery.proofs.Agree.{free_agree}
use Rattle.ebs_recovery.proofs.Readers.{makes, one_spelling}
use Rattle.ebs_recovery.proofs.Outcomes.{IfWrites, IsAfter, comes, each_aged, is_after, moved, next_stamp, stayed}
use Rattle.ebs_recovery.proofs.OneMore.{get-itself, if_none}
use Rattle.ebs_disk_store.specs.inner.Shown.{AreGiven}
use Rattle.ebs_disk_store.specs.declared.following.Unfollowed.{Unfollowed}
use Rattle.ebs_disk_store.specs.declared.following.Unfollowed.TheVariants as why
use Rattle.ebs_disk_store.specs.Opened.{IsUnbuilt, is_unbuilt}
use Rattle.ebs_disk_store.specs.inner.Following.{IsBehind, IsKeptState, IsOf, judged, Makes, Follows, FollowsRecord, FollowsPayload}
use Rattle.ebs_disk_store.proofs.PutSets.{IndexFits, indexed_acts, indexed_aged, row_fits}
use Rattle.ebs_disk_store.proofs.Lawful.{laws_acts, laws_aged}
use Rattle.ebs_recovery.proofs.RecordCalls.{row_stated}
use Rattle.ebs_recovery.specs.inner.Changes.{IsRowChange}
use Rattle.ebs_disk_store.proofs.PutRecorded.{given_more, slotted_more, is_some_by}

-- ---- what the kept form makes of a request

off : (a b : ℕ) → a ≡ b → (a == b + 1) ≡ false
off a b e = grind (arith, nat_tests, e)

unmade : (s : State) (slot : Option ℕ) (n : Machine) (answer : Answer) → n.changes ≡ s.machine.changes → if_changed s slot (Ok (n, answer)) ≡ None
unmade s slot n answer e = ap (λ b. cond b (Some (record { machine = n; slots = with_slot s.slots s.machine.stamps slot })) None) (off n.changes s.machine.changes e)

one_more : (m : Machine) (request : Request) (n : Machine) → IsAfter m request n → n.changes ≢ m.changes → n.changes ≡ m.changes + 1
one_more m request n (stayed is) other = absurd (other (ap (λ (x : Machine). x.changes) is))
one_more m request n (moved c of is) other = ap (λ (x : Machine). x.changes) is

pub judged_makes : (m n : Machine) (at : Moment) (account : ℕ) (request : Request) (stays : Bool) (answered : Result Answer Failure)
    → of_call.Follows m n answered (act same (advance m at) account request) → (stays ≡ true → n.changes ≡ m.changes) → (stays ≡ false → n.changes ≢ m.changes)
    → Makes m n at account request (judged stays answered)
judged_makes m n at account request true (Ok answer) follows stay other = λ s slot is.
    ap (if_changed s slot) (sym follows) ∙ unmade s slot n answer (stay refl ∙ ap (λ (x : Machine). x.changes) (sym is))
judged_makes m n at account request false (Ok answer) follows stay other =
    (answer, sym follows, one_more (advance m at) request n (is_after same (advance m at) account request n answer (sym follows)) (other refl))
judged_makes m n at account request true (Err (failure.Refused r)) follows stay other = λ s slot is. ap (if_changed s slot) (sym follows.0)
judged_makes m n at account request false (Err (failure.Refused r)) follows stay other = λ s slot is. ap (if_changed s slot) (sym follows.0)
judged_makes m n at account request true (Err failure.Memory) follows stay other = tt
judged_makes m n at account request false (Err failure.Memory) follows stay other = tt

pub judged_as : (m n : Machine) (at : Moment) (account : ℕ) (request : Request) (now before : ℕ) (answered : Result Answer Failure) (result : Result (Unit {0}) Unfollowed) → now ≡ n.changes → before ≡ m.changes
    → of_call.Follows m n answered (act same (advance m at) account request) → result ≡ judged (eqb now before) answered → Makes m n at account request result
judged_as m n at account request now before answered result now_is before_is follows is =
    subst (Makes m n at account request) (sym is) (judged_makes m n at account request (eqb now before) answered follows
    (λ e. let same_count = alike now before e in omega (arith, now_is, before_is, same_count))
    (λ e level. unlike now before e (omega (arith, now_is, before_is, level))))
  where
    alike : (x y : ℕ) → eqb x y ≡ true → x ≡ y
    alike x y e = grind (arith, nat_tests, e)

    unlike : (x y : ℕ) → eqb x y ≡ false → x ≡ y → ⊥
    unlike x y e level = grind (arith, nat_tests, e, level)

-- ---- time has passed

lateness : (a b : ℕ) → a < b → nat_lt a b ≡ true
lateness a b e = grind (arith, nat_tests, e)

module _ (m : Machine) (slots : SlotTable) (at : Moment) where
  pub passed : (n : Machine) → IsKeptState m slots → m.clock.second < at.second → at.second ≤ 2 ^ 36 → n ≡ advance m at → Follows m slots n slots (advanced at) (Ok tt)
  passed n state late early is = subst (λ (x : Machine). Follows m slots x slots (advanced at) (Ok tt)) (sym is) (
    record {
      area = state.area;
      given = state.given;
      slotted = each_aged (λ b. IsSome (fin.get slots.keys b.stamp)) m at state.slotted;
      indexed = indexed_aged m at state.indexed;
      laws = laws_aged m at (omega (arith, late)) early state.laws;
      leases = state.leases;
    },
    λ k of. (
      record k { machine = advance k.machine at },
      ap (λ (b : Bool). cond b (Some (record k { machine = advance k.machine at })) None) (lateness _ _ (subst (λ (x : Machine). x.clock.second < at.second) of.machine late)),
      record {
        machine = ap (λ (x : Machine). advance x at) of.machine;
        keys = each_aged (λ b. fin.get slots.keys b.stamp ≡ fin.get k.slots b.stamp) k.machine at of.keys;
        given = of.given;
        below = of.below;
        behind = of.behind;
      },
    ),
  )

-- ---- a call

none_so : {A : Type 0} (b : Bool) (o : Option A) → o ≡ None → cond b o None ≡ None
none_so true o e = e
none_so false o e = refl

writes_one : (place : Place) (index : ℕ) (digest : List ℕ) → writes_of (write_at place index digest digest) ≡ 1
writes_one (Upload key) index digest = refl
writes_one (Volume key) index digest = refl

if_put : (P : ℕ → Type 0) (stamp : ℕ) (place : Place) (index : ℕ) (digest : List ℕ) → P stamp → IfWrites (λ b. P b.stamp) stamp (write_at place index digest digest)
if_put P stamp (Upload key) index digest p = p
if_put P stamp (Volume key) index digest p = p

put_within : (place : Place) (index : ℕ) (digest : List ℕ) → is_within (write_at place index digest digest) ≡ true
put_within (Upload key) index digest = refl
put_within (Volume key) index digest = refl

put_fits : (place : Place) (index : ℕ) (digest : List ℕ) → index < 2 ^ 25 → IndexFits (write_at place index digest digest)
put_fits (Upload key) index digest few = few
put_fits (Volume key) index digest few = tt

with_same : (a b : SlotOfStamp) (stamps stamp slot : ℕ) → fin.get a stamp ≡ fin.get b stamp → fin.get (fin.insert a stamps slot) stamp ≡ fin.get (fin.insert b stamps slot) stamp
with_same a b stamps stamp slot e =
    fin.get-insert nat_cmp_total a stamps slot stamp ∙ ap (cond (eq_by_cmp nat_cmp stamp stamps) (Some slot)) e ∙ sym (fin.get-insert nat_cmp_total b stamps slot stamp)

below_more : (u : SlotOfStamp) (stamps slot top : ℕ) → ((stamp at : ℕ) → fin.get u stamp ≡ Some at → at < top) → (stamp at : ℕ) → fin.get (fin.insert u stamps slot) stamp ≡ Some at → at < max top (slot + 1)
below_more u stamps slot top below stamp at e = elim (got-insert u stamps slot stamp at e) [
  | inl t ↦ let is = t.1 in omega (arith, is)
  | inr t ↦ let was = below stamp at t in omega (arith, was)
]

pub behind_more : (given : SlotOfStamp) (stamps slot top : ℕ) → AreGiven given stamps → IsBehind given top → IsBehind (fin.insert given stamps slot) (max top (slot + 1))
behind_more given stamps slot top early is = by (nat_le top (slot + 1)) refl is
  where
    low : nat_le top (slot + 1) ≡ true → top ≤ slot + 1
    low e = grind (arith, nat_tests, e)

    high : nat_le top (slot + 1) ≡ false → slot + 1 < top
    high e = grind (arith, nat_tests, e)

    by : (b : Bool) → nat_le top (slot + 1) ≡ b → IsBehind given top → IsBehind (fin.insert given stamps slot) (max top (slot + 1))
    by true e is = let less = low e in inr (stamps, slot, gets_here given stamps slot, omega (arith, less))
    by false e (inl none) = let more = high e in absurd (omega (arith, more, none))
    by false e (inr (stamp, at, found, end)) =
        let more = high e in
        let was = early stamp at found in
        inr (stamp, at, gets_there given stamps slot stamp (λ same. omega (arith, was, same)) ∙ found, omega (arith, more, end))

module _ (m : Machine) (slots : SlotTable) (a : AcceptedCall) (n : Machine) where
  -- its slot is taken
  pub taken_slot : (after : SlotTable) (slot : ℕ) → a.slot ≡ Some slot → not (is_taken (record { machine = m; slots = slots.keys }) slot) ≡ false → Follows m slots n after (called a) (Err why.Bad)
  taken_slot after slot is taken k of =
      ap (λ (b : Bool). cond b (cond (nat_le k.machine.clock.second a.at.second) (if_changed k a.slot (act same (advance k.machine a.at) a.account a.request)) None) None)
      (ap (is_free k) is ∙ sym (free_agree k.machine slots.keys k.slots of.keys (Some slot)) ∙ ap (λ (x : Machine). not (is_taken (record { machine = x; slots = slots.keys }) slot)) (sym of.machine) ∙ taken)

  -- the kept form makes no change of it
  pub refused : (after : SlotTable) → Makes m n a.at a.account a.request (Err why.Bad) → Follows m slots n after (called a) (Err why.Bad)
  refused after bad k of = none_so (is_free k a.slot) _ (none_so (nat_le k.machine.clock.second a.at.second) _
      (ap (λ (x : Machine). if_changed k a.slot (act same (advance x a.at) a.account a.request)) (sym of.machine) ∙ bad k a.slot (sym of.machine)))

  -- or there wasn't memory enough for it
  pub put_failed : (after : SlotTable) (why_not : Unfollowed) → Makes m n a.at a.account a.request (Err why_not) → Follows m slots n after (called a) (Err why_not)
  put_failed after why.Bad h = refused after h
  put_failed after why.NotBuilt h = absurd h
  put_failed after why.Memory h = tt

  -- it is one change more, and these slots are its state's
  module _ (makes_it : Makes m n a.at a.account a.request (Ok tt)) (late : m.clock.second ≤ a.at.second) (early : a.at.second ≤ 2 ^ 36) where
    abbrev next : State → State
    next k = record { machine = n; slots = with_slot k.slots k.machine.stamps a.slot }

    pub is_next : (k : State) → m ≡ k.machine → is_free k a.slot ≡ true → made same k (called a) ≡ Some (next k)
    is_next k is free = makes same k a (next k) (record {
      free = free;
      on_time = subst (λ (x : Machine). x.clock.second ≤ a.at.second) is late;
      answer = makes_it.0;
      acts = ap (λ (x : Machine). act same (advance x a.at) a.account a.request) (sym is) ∙ makes_it.1;
      changes = makes_it.2 ∙ ap (λ (x : Machine). x.changes + 1) is;
      slots = refl;
    })

    after : IsAfter (advance m a.at) a.request n
    after = is_after same (advance m a.at) a.account a.request n makes_it.0 makes_it.1

    stamps : n.stamps ≡ m.stamps + writes_of a.request
    stamps = next_stamp (advance m a.at) a.request n makes_it.2 after

    each_after : (P : WholeBlock → Type 0) → EachBlock P m → IfWrites P m.stamps a.request → EachBlock P n
    each_after P each one = comes P (advance m a.at) (each_aged P m a.at each) a.request n after one

    -- without a block
    pub made_plain : IsKeptState m slots → a.slot ≡ None → writes_of a.request ≡ 0 → IndexFits a.request → is_within a.request ≡ true → Follows m slots n slots (called a) (Ok tt)
    made_plain state no_slot plain fits within = (
      record {
        area = state.area;
        given = λ stamp slot e. let was = state.given stamp slot e in omega (arith, was, stamps, plain);
        slotted = each_after (λ b. IsSome (fin.get slots.keys b.stamp)) state.slotted (if_none (λ b. IsSome (fin.get slots.keys b.stamp)) m.stamps a.request plain);
        indexed = indexed_acts same m a.at a.account a.request n makes_it.0 makes_it.1 fits state.indexed;
        laws = laws_acts same m a.at a.account a.request n makes_it.0 makes_it.1 within late early state.laws;
        leases = state.leases;
      },
      λ k of.
          let slots_are : k.slots ≡ with_slot k.slots k.machine.stamps a.slot = ap (with_slot k.slots k.machine.stamps) (sym no_slot) in
          let stamps_are : n.stamps ≡ k.machine.stamps = omega (arith, stamps, plain, ap (λ (x : Machine). x.stamps) of.machine) in (
            next k,
            is_next k of.machine (ap (is_free k) no_slot),
            record {
              machine = refl;
              keys = subst (AgreeOn n slots.keys) slots_are
                  (each_after (λ b. fin.get slots.keys b.stamp ≡ fin.get k.slots b.stamp) (subst (λ (x : Machine). AgreeOn x slots.keys k.slots) (sym of.machine) of.keys) (if_none (λ b. fin.get slots.keys b.stamp ≡ fin.get k.slots b.stamp) m.stamps a.request plain));
              given = subst (λ (u : SlotOfStamp). AreGiven u n.stamps) slots_are (subst (AreGiven k.slots) (sym stamps_are) of.given);
              below = subst (λ (u : SlotOfStamp). (stamp slot : ℕ) → fin.get u stamp ≡ Some slot → slot < slots.top) slots_are of.below;
              behind = subst (λ (u : SlotOfStamp). IsBehind u slots.top) slots_are of.behind;
            },
          ),
    )

    -- with a block, in a slot that was free before it
    module _ (before : SlotTable) (state : IsKeptState m before) (agree : AgreeOn m before.keys slots.keys) (top : before.top ≡ slots.top)
        (place : Place) (index : ℕ) (digest : List ℕ) (slot : ℕ) (slot_is : a.slot ≡ Some slot) (request_is : a.request ≡ write_at place index digest digest) where
      one : n.stamps ≡ m.stamps + 1
      one = stamps ∙ ap (λ (q : Request). m.stamps + writes_of q) request_is ∙ ap (λ (w : ℕ). m.stamps + w) (writes_one place index digest)

      each_placed : (P : ℕ → Type 0) → EachBlock (λ b. P b.stamp) m → P m.stamps → EachBlock (λ b. P b.stamp) n
      each_placed P each new = each_after (λ b. P b.stamp) each (subst (IfWrites (λ b. P b.stamp) m.stamps) (sym request_is) (if_put P m.stamps place index digest new))

      placed_state : index < 2 ^ 25 → IsKeptState n (placed before m.stamps slot)
      placed_state few = record {
        area = state.area;
        given = subst (AreGiven (fin.insert before.keys m.stamps slot)) (sym one) (given_more before.keys m.stamps slot state.given);
        slotted = each_placed (λ stamp. IsSome (fin.get (fin.insert before.keys m.stamps slot) stamp)) (λ key i b found. slotted_more before.keys m.stamps slot b.stamp (state.slotted key i b found))
            (is_some_by _ _ (get-itself before.keys m.stamps slot) refl);
        indexed = indexed_acts same m a.at a.account a.request n makes_it.0 makes_it.1 (subst IndexFits (sym request_is) (put_fits place index digest few)) state.indexed;
        laws = laws_acts same m a.at a.account a.request n makes_it.0 makes_it.1 (ap is_within request_is ∙ put_within place index digest) late early state.laws;
        leases = state.leases;
      }

      placed_of : (k : State) → IsOf m slots k → IsOf n (placed before m.stamps slot) (next k)
      placed_of k of =
          let stamps_are : m.stamps ≡ k.machine.stamps = ap (λ (x : Machine). x.stamps) of.machine in
          let was : AgreeOn m slots.keys k.slots = subst (λ (x : Machine). AgreeOn x slots.keys k.slots) (sym of.machine) of.keys in
          let slots_are : fin.insert k.slots m.stamps slot ≡ with_slot k.slots k.machine.stamps a.slot =
          ap (λ (stamp : ℕ). fin.insert k.slots stamp slot) stamps_are ∙ ap (with_slot k.slots k.machine.stamps) (sym slot_is) in
          record {
            machine = refl;
            keys = subst (AgreeOn n (fin.insert before.keys m.stamps slot)) slots_are
                (each_placed (λ stamp. fin.get (fin.insert before.keys m.stamps slot) stamp ≡ fin.get (fin.insert k.slots m.stamps slot) stamp)
                (λ key i b found. with_same before.keys k.slots m.stamps b.stamp slot (agree key i b found ∙ was key i b found))
                (get-itself before.keys m.stamps slot ∙ sym (get-itself k.slots m.stamps slot)));
            given = subst (λ (u : SlotOfStamp). AreGiven u n.stamps) slots_are
                (subst (AreGiven (fin.insert k.slots m.stamps slot)) (sym one) (given_more k.slots m.stamps slot (subst (AreGiven k.slots) (sym stamps_are) of.given)));
            below = subst (λ (u : SlotOfStamp). (stamp at : ℕ) → fin.get u stamp ≡ Some at → at < max before.top (slot + 1)) slots_are
                (below_more k.slots m.stamps slot before.top (subst (λ (t : ℕ). (stamp at : ℕ) → fin.get k.slots stamp ≡ Some at → at < t) (sym top) of.below));
            behind = subst (λ (u : SlotOfStamp). IsBehind u (max before.top (slot + 1))) slots_are
                (behind_more k.slots m.stamps slot before.top (subst (AreGiven k.slots) (sym stamps_are) of.given) (subst (IsBehind k.slots) (sym top) of.behind));
          }

      pub made_block : index < 2 ^ 25 → not (is_taken (record { machine = m; slots = slots.keys }) slot) ≡ true → (now : SlotTable) → now ≡ placed before m.stamps slot → Follows m slots n now (called a) (Ok tt)
      made_block few free now is = subst (λ (u : SlotTable). Follows m slots n u (called a) (Ok tt)) (sym is) (
        placed_state few,
        λ k of. (
          next k,
          is_next k of.machine (ap (is_free k) slot_is ∙ sym (free_agree k.machine slots.keys k.slots of.keys (Some slot)) ∙ ap (λ (x : Machine). not (is_taken (record { machine = x; slots = slots.keys }) slot)) (sym of.machine) ∙ free),
          placed_of k of,
        ),
      )

-- a call without a block
pub plain_call : (m : Machine) (slots : SlotTable) (a : AcceptedCall) (n : Machine) (result : Result (Unit {0}) Unfollowed) → IsKeptState m slots → m.clock.second ≤ a.at.second → a.at.second ≤ 2 ^ 36 → IsRowChange a.request → a.slot ≡ None → bad_member a.request ≡ None
    → Makes m n a.at a.account a.request result → Follows m slots n slots (called (record a { request = stated a.request })) result
plain_call m slots a n result state late early row no_slot within makes_it =
    let plain = row_stated a.request row in
    subst (λ (q : Request). Follows m slots n slots (called (record a { request = q })) result) (sym plain.0) (by result makes_it)
  where
    by : (result : Result (Unit {0}) Unfollowed) → Makes m n a.at a.account a.request result → Follows m slots n slots (called a) result
    by (Ok done) h = made_plain m slots a n h late early state no_slot (row_stated a.request row).1 (row_fits a.request row) (good-within a.request within)
    by (Err why_not) h = put_failed m slots a n slots why_not h

-- ---- a record

one_change : (o : Option State) → bind o (λ t. followed t []) ≡ o
one_change None = refl
one_change (Some t) = refl

module _ (m : Machine) (slots : SlotTable) (n : Machine) (after : SlotTable) (r : Record) (e : Made) (is : change_of r ≡ Some e) (built : is_unbuilt r ≡ false) where
  its_change : (k : State) → followed k (r ∷ []) ≡ made same k e
  its_change k = ap (λ (o : Option Made). bind o (λ e. bind (made same k e) (λ t. followed t []))) is ∙ one_change (made same k e)

  pub of_change : (result : Result (Unit {0}) Unfollowed) → Follows m slots n after e result → FollowsRecord m slots n after r result
  of_change (Ok done) f = (built, (f.0, λ k of. let t = f.1 k of in (t.0, its_change k ∙ t.1, t.2)))
  of_change (Err why.Bad) f = (built, λ k of. its_change k ∙ f k of)
  of_change (Err why.NotBuilt) f = absurd f
  of_change (Err why.Memory) f = tt

-- ---- a payload

module _ (m : Machine) (slots : SlotTable) (n : Machine) (after : SlotTable) (payload : List ℕ) where
  module _ (r : Record) (value : IsRecord r) (is : payload ≡ record_bytes r) where
    the_one : (q : Record) → IsRecord q → payload ≡ record_bytes q → q ≡ r
    the_one q v e = one_spelling q r v value (sym e ∙ is)

    not_unbuilt : is_unbuilt r ≡ false → IsUnbuilt payload → ⊥
    not_unbuilt built u = false≢true (sym built ∙ ap is_unbuilt (sym (the_one u.made u.value u.is)) ∙ u.unbuilt)

    pub of_record : (result : Result (Unit {0}) Unfollowed) → FollowsRecord m slots n after r result → FollowsPayload m slots n after payload result
    of_record (Ok done) f = (not_unbuilt f.0, (f.1.0, λ k of. let t = f.1.1 k of in (t.0, record { made = r; value = value; is = is; gives = t.1 }, t.2)))
    of_record (Err why.Bad) f = (not_unbuilt f.0, λ k of q v e. ap (λ (x : Record). followed k (x ∷ [])) (the_one q v e) ∙ f.1 k of)
    of_record (Err why.NotBuilt) f = record { made = r; value = value; is = is; unbuilt = f }
    of_record (Err why.Memory) f = tt
