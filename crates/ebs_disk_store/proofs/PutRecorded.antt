-- A put that is recorded.
use Rattle.std.proofs.Common.{◌≡◌, ℕ, ◌<◌, ◌^◌, ◌+◌, ◌≤◌, ◌∷◌, ◌++◌, Bool, true, false, List, [], None, Some, Option, refl, sym, ap, subst, ◌∙◌, arith, nat_le}
use Rattle.std.specs.Prelude.{◌==◌, ◌≢◌, if◌then◌else◌, IsSome, cond, length}
use Rattle.std.specs.FinMap as fin
use Rattle.std.specs.Ordering.{nat_cmp, eq_by_cmp}
use Rattle.std.specs.Cmp.{nat_cmp_total}
use Rattle.std.proofs.lemmas.Bool.Decides.{nat_tests}
use Rattle.sha2.specs.Sha256.{sha256}
use Rattle.ebs_world.specs.declared.area.Area.TheVariants.{Blocks}
use Rattle.ebs_world.specs.View.{View, Ran, Leaves}
use Rattle.ebs_journal.specs.Opening.{OffJournal}
use Rattle.ebs_journal.specs.inner.Standing.{IsSettled, IsPending, IsOrAlso}
use Rattle.ebs_slots.specs.inner.Slots.{SlotTable, IsApart, abandoned, adopted}
use Rattle.ebs_slots.specs.inner.Standing.{Lies}
use Rattle.ebs_slots.proofs.Apart.{leased_free, apart_abandoned, apart_adopted}
use Rattle.ebs_lawful.specs.Calls.{is_within}
use Rattle.ebs_lineage.specs.Table.{NodeMap}
use Rattle.ebs_collect.specs.Slices.{IsCounted}
use Rattle.ebs_holds.specs.Counted.{without_stamp}
use Rattle.ebs_model.specs.declared.keys.Moment.{Moment}
use Rattle.ebs_model.specs.declared.request.Request.{Request}
use Rattle.ebs_model.specs.declared.answer.Answer.{Answer}
use Rattle.ebs_model.specs.declared.change.Change.{Change}
use Rattle.ebs_model.specs.Kept.{same, kept_request}
use Rattle.ebs_model.specs.Machine.{Machine, advance}
use Rattle.ebs_model.specs.Step.{act, changed, writes_of}
use Rattle.ebs_records.specs.declared.record.Record.{Record}
use Rattle.ebs_records.specs.declared.record.Record.TheVariants.{Accepted}
use Rattle.ebs_records.specs.Records.{IsRecord, record_bytes}
use Rattle.ebs_recovery.specs.Made.{State, SlotOfStamp, Made, called, IsValue, IsWhole, made, if_changed, is_free, record_of}
use Rattle.ebs_recovery.specs.inner.Made.{kept_change, Leads}
use Rattle.ebs_recovery.specs.inner.Fits.{Seen, Fit, IsStagedChange, IsStagedFor, KeepsSlots, kept_state, StandsOrAfter, recorded}
use Rattle.ebs_recovery.specs.inner.FitLaws.{KeptFormFinds, ImagesWhileAppended, AcknowledgedFits, FreedFits, FreedIsSame, UnsureFits, ClosedFits}
use Rattle.ebs_recovery.proofs.Agree.{free_unnamed}
use Rattle.ebs_recovery.proofs.Refill.{slot_bytes}
use Rattle.ebs_recovery.proofs.Frames.{fit_tells}
use Rattle.ebs_recovery.proofs.OneMore.{get-other}
use Rattle.ebs_recovery.proofs.Outcomes.{is_after, next_stamp}
use Rattle.ebs_disk_store.specs.inner.Shown.{AreGiven, AreIndexed, AreSlotted, HasLaws, IsSound, is_blocks}
use Rattle.ebs_disk_store.specs.declared.heads.PutHead.{PutHead}
use Rattle.ebs_disk_store.specs.declared.heads.PutHead.TheVariants as head
use Rattle.ebs_disk_store.specs.inner.Puts.{GivesUp, IsPutTaken, with_bytes, index_of, put_at, IsPutRuled}
use Rattle.ebs_disk_store.specs.inner.Told.{mended}
use Rattle.ebs_disk_store.proofs.Appends as appends
use Rattle.ebs_disk_store.proofs.Freed.{IsLess, area_without, fewer_without, frees_dead, less_without}
use Rattle.ebs_disk_store.proofs.PutSets.{IndexFits, indexed_acts}
use Rattle.ebs_disk_store.proofs.Lawful.{laws_acts}

-- ---- slots that a lease leaves

left_lease : (s : SlotTable) (slot q : ℕ) (digest : List ℕ) → fin.get (fin.remove s.leases slot) q ≡ Some digest → fin.get s.leases q ≡ Some digest
left_lease s slot q digest e = by (eq_by_cmp nat_cmp q slot) (sym (fin.get-remove nat_cmp_total s.leases slot q) ∙ e)
  where
    by : (b : Bool) → cond b None (fin.get s.leases q) ≡ Some digest → fin.get s.leases q ≡ Some digest
    by true e = absurd (cc)
    by false e = e

pub keeps_abandoned : (s t : Seen) (slot : ℕ) → IsApart s.slots → t.slots ≡ abandoned s.slots slot → KeepsSlots s t
keeps_abandoned s t slot apart is = record {
  area = ap (λ (u : SlotTable). u.area) is;
  top = ap (λ (u : SlotTable). u.top) is;
  apart = subst IsApart (sym is) (apart_abandoned s.slots apart slot);
  leases = λ q digest e. left_lease s.slots slot q digest (ap (λ (u : SlotTable). fin.get u.leases q) (sym is) ∙ e);
}

pub keeps_adopted : (s t : Seen) (slot key : ℕ) (digest : List ℕ) → IsApart s.slots → fin.get s.slots.leases slot ≡ Some digest → t.slots ≡ adopted s.slots slot key → KeepsSlots s t
keeps_adopted s t slot key digest apart lease is = record {
  area = ap (λ (u : SlotTable). u.area) is;
  top = ap (λ (u : SlotTable). u.top) is;
  apart = subst IsApart (sym is) (apart_adopted s.slots apart slot key digest lease);
  leases = λ q digest e. left_lease s.slots slot q digest (ap (λ (u : SlotTable). fin.get u.leases q) (sym is) ∙ e);
}

-- the stamp that comes next has no slot
pub next_is_new : (s : Seen) (nodes : NodeMap) → IsSound s nodes → fin.get s.slots.keys s.recorded.stamps ≡ None
next_is_new s nodes sound = at (fin.get s.slots.keys s.recorded.stamps) refl
  where
    at : (o : Option ℕ) → fin.get s.slots.keys s.recorded.stamps ≡ o → fin.get s.slots.keys s.recorded.stamps ≡ None
    at None e = e
    at (Some slot) e = let below = sound.given s.recorded.stamps slot e in absurd (omega (arith, below))

-- ---- the change

writes_one : (put : PutHead) (bytes : List ℕ) → writes_of (with_bytes put bytes) ≡ 1
writes_one (head.Snapshot key index stated) bytes = refl
writes_one (head.Volume key index stated) bytes = refl

put_record : (account : ℕ) (now : Moment) (put : PutHead) (slot : ℕ) (bytes : List ℕ) → record_of (called (put_at account now put slot bytes)) ≡ Accepted (put_at account now put slot [])
put_record account now (head.Snapshot key index stated) slot bytes = refl
put_record account now (head.Volume key index stated) slot bytes = refl

put_whole : (put : PutHead) (bytes : List ℕ) → length bytes ≡ 524288 → IsWhole (with_bytes put bytes)
put_whole (head.Snapshot key index stated) bytes e = e
put_whole (head.Volume key index stated) bytes e = e

put_staged : (v : View) (top : ℕ) (put : PutHead) (slot : ℕ) (bytes : List ℕ) → Lies v Blocks slot bytes → slot < top → IsStagedFor v top (with_bytes put bytes) (Some slot)
put_staged v top (head.Snapshot key index stated) slot bytes lies below = (lies, below)
put_staged v top (head.Volume key index stated) slot bytes lies below = (lies, below)

pub put_kept : (put : PutHead) (bytes : List ℕ) → kept_request (with_bytes put bytes) ≡ with_bytes put (sha256 bytes)
put_kept (head.Snapshot key index stated) bytes = refl
put_kept (head.Volume key index stated) bytes = refl

le_true : (m n : ℕ) → m ≤ n → nat_le m n ≡ true
le_true m n h = grind (arith, nat_tests)

same_number : (n : ℕ) → (n == n) ≡ true
same_number n = grind (arith, nat_tests)

-- a lease has the digest of what lies in its slot
pub hash_is : (v : View) (s : Seen) (fit : Fit v s) (slot : ℕ) (digest bytes : List ℕ) → fin.get s.slots.leases slot ≡ Some digest → Lies v Blocks slot bytes → digest ≡ sha256 bytes
hash_is v s fit slot digest bytes lease lies =
    let l = fit.right.leased slot digest lease in
    let told = fit_tells v s fit in
    l.is ∙ ap sha256 (sym (slot_bytes v.reads slot l.bytes (l.lies.reads told)) ∙ slot_bytes v.reads slot bytes (lies.reads told))

module _ (old new : View) (s : Seen) (account : ℕ) (now : Moment) (put : PutHead) (slot : ℕ) (digest : List ℕ) (change : Change) (answer : Answer)
    (ruled : IsPutRuled (advance s.recorded now) account put digest change answer) (r : Record) (r_is : r ≡ Accepted (put_at account now put slot [])) (value : IsRecord r)
    (late : s.recorded.clock.second ≤ now.second) (none : s.pending ≡ None) (fit : Fit old s) (finds : KeptFormFinds old)
    (apart : IsApart s.slots) (lease : fin.get s.slots.leases slot ≡ Some digest) (bytes : List ℕ) (lies : Lies old Blocks slot bytes) where
  abbrev pub e : Made
  e = called (put_at account now put slot bytes)

  abbrev pub next_form : Machine
  next_form = changed (advance s.recorded now) digest change

  abbrev k : State
  k = record { machine = next_form; slots = fin.insert s.slots.keys s.recorded.stamps slot }

  record_is : record_of e ≡ r
  record_is = put_record account now put slot bytes ∙ sym r_is

  is_value : IsValue e
  is_value = record { is_record = subst IsRecord (sym record_is) value; whole = put_whole put bytes (lies.reads (fit_tells old s fit)).size }

  staged : IsStagedChange old s.slots.top e
  staged = put_staged old s.slots.top put slot bytes lies (apart.leased slot digest lease)

  free : is_free (kept_state s) (Some slot) ≡ true
  free = free_unnamed (kept_state s) slot (leased_free s.slots slot digest apart lease)

  request_is : kept_request (with_bytes put bytes) ≡ with_bytes put digest
  request_is = put_kept put bytes ∙ ap (with_bytes put) (sym (hash_is old s fit slot digest bytes lease lies))

  is_made : made same (kept_state s) (kept_change e) ≡ Some k
  is_made =
      (λ i. if free i then (if le_true s.recorded.clock.second now.second late i then if_changed (kept_state s) (Some slot) (act same (advance s.recorded now) account (request_is i)) else None) else None)
      ∙ ap (if_changed (kept_state s) (Some slot)) ruled.acts
      ∙ ap (λ (b : Bool). if b then Some k else None) (same_number (s.recorded.changes + 1))

  -- at each moment
  pub while_appended : ImagesWhileAppended old new → Ran OffJournal old new
      → ((checkpoint : List ℕ) (rs : List (List ℕ)) → IsSettled old s.journal checkpoint rs → Leaves old new (λ c. IsOrAlso c s.journal checkpoint rs (record_bytes r)))
      → Leaves old new (StandsOrAfter old s e)
  while_appended = appends.while_appended old new s r e k record_is is_value staged is_made none fit finds

  -- it was made durable, and what it replaced is given up
  pub fit_taken : AcknowledgedFits old new → FreedFits new → FreedIsSame new → Ran OffJournal old new → (t : Seen) → t.recorded ≡ next_form → t.clock ≡ now
      → (m : Machine) → GivesUp m (adopted s.slots slot s.recorded.stamps) t.slots → AreSlotted t.slots.keys t.recorded → t.pending ≡ None
      → ((checkpoint : List ℕ) (rs : List (List ℕ)) → IsSettled old s.journal checkpoint rs → IsSettled new t.journal checkpoint (rs ++ record_bytes r ∷ []))
      → Fit new t × Leads (recorded old s) e (recorded new t)
  fit_taken law freed stays ran t is clock m gives slotted pending runs =
      let u : Seen = record t { slots = adopted s.slots slot s.recorded.stamps } in
      let keeps = keeps_adopted s u slot s.recorded.stamps digest apart lease refl in
      let made = appends.fit_taken old new s r e k record_is is_value staged is_made none fit finds law ran u is refl keeps clock pending runs in
      let less : IsLess u.slots t.slots = subst (IsLess u.slots) (sym gives.is) (less_without u.slots gives.gone keeps.apart) in
      let frees = frees_dead u t refl less slotted (omega arith) refl refl in
      (freed u t frees made.0, subst (Leads (recorded old s) e) (sym (stays u t frees made.0)) made.1)

  -- it wasn't acknowledged
  pub fit_refused : ClosedFits old new → UnsureFits old new → Ran OffJournal old new → (t : Seen) → t.recorded ≡ s.recorded → t.slots ≡ abandoned s.slots slot → t.clock ≡ s.clock
      → (t.journal.clean ≡ true → t.pending ≡ None) → (t.journal.clean ≡ false → t.pending ≡ Some r)
      → (t.journal.clean ≡ true → (checkpoint : List ℕ) (rs : List (List ℕ)) → IsSettled old s.journal checkpoint rs → IsSettled new t.journal checkpoint rs)
      → (t.journal.clean ≡ false → (checkpoint : List ℕ) (rs : List (List ℕ)) → IsSettled old s.journal checkpoint rs → IsPending new t.journal checkpoint rs (record_bytes r)) → Fit new t
  fit_refused closes unsures ran t recorded slots clock = appends.fit_refused old new s r e k record_is is_value staged is_made none fit finds t recorded (ap (λ (u : SlotTable). u.keys) slots)
      (keeps_abandoned s t slot apart slots) clock closes unsures ran

-- ---- what holds of a store by itself holds after a put

-- a stamp's slot after the next stamp was given one
pub given_more : (keys : SlotOfStamp) (stamps slot : ℕ) → AreGiven keys stamps → AreGiven (fin.insert keys stamps slot) (stamps + 1)
given_more keys stamps slot given stamp n e = by (nat_le stamps stamp) refl
  where
    by : (b : Bool) → nat_le stamps stamp ≡ b → stamp < stamps + 1
    by false is = below is
      where
        below : nat_le stamps stamp ≡ false → stamp < stamps + 1
        below is = grind (arith, nat_tests, is)
    by true is = at (nat_le stamp stamps) refl
      where
        at : (b : Bool) → nat_le stamp stamps ≡ b → stamp < stamps + 1
        at true le = most le
          where
            most : nat_le stamp stamps ≡ true → stamp < stamps + 1
            most le = grind (arith, nat_tests, le)
        at false more =
            let other : stamp ≢ stamps = λ same. above more same in
            let was = given stamp n (sym (get-other keys stamps slot stamp other) ∙ e) in
            omega (arith, was)
          where
            above : nat_le stamp stamps ≡ false → stamp ≡ stamps → ⊥
            above more same = grind (arith, nat_tests, more, same)

pub is_some_by : {A : Type 0} (o p : Option A) → o ≡ p → IsSome p → IsSome o
is_some_by o p e h = subst IsSome (sym e) h

some_there : (slot : ℕ) → IsSome (Some slot)
some_there slot = refl

-- a block keeps its slot, and the new one has its own
pub slotted_more : (keys : SlotOfStamp) (stamps slot stamp : ℕ) → IsSome (fin.get keys stamp) → IsSome (fin.get (fin.insert keys stamps slot) stamp)
slotted_more keys stamps slot stamp h = is_some_by _ _ (fin.get-insert nat_cmp_total keys stamps slot stamp) (by (eq_by_cmp nat_cmp stamp stamps))
  where
    by : (b : Bool) → IsSome (cond b (Some slot) (fin.get keys stamp))
    by true = some_there slot
    by false = h

put_fits : (put : PutHead) (bytes : List ℕ) → index_of put < 2 ^ 25 → IndexFits (with_bytes put bytes)
put_fits (head.Snapshot key index stated) bytes few = few
put_fits (head.Volume key index stated) bytes few = tt

put_within : (put : PutHead) (bytes : List ℕ) → is_within (with_bytes put bytes) ≡ true
put_within (head.Snapshot key index stated) bytes = refl
put_within (head.Volume key index stated) bytes = refl

pub sound_put : (s t : Seen) (account : ℕ) (now : Moment) (put : PutHead) (slot : ℕ) (digest : List ℕ) (change : Change) (answer : Answer) (old nodes : NodeMap) → IsSound s old → IsCounted t.slots nodes → AreSlotted t.slots.keys t.recorded → IsPutRuled (advance s.recorded now) account put digest change answer
    → t.recorded ≡ changed (advance s.recorded now) digest change → t.clock ≡ now → (m : Machine) → GivesUp m (adopted s.slots slot s.recorded.stamps) t.slots → t.journal.clean ≡ true
    → t.journal.end ≤ s.journal.end + 1048581 → s.recorded.changes < 2 ^ 40 → s.recorded.clock.second ≤ now.second → now.second ≤ 2 ^ 36 → index_of put < 2 ^ 25 → IsSound t nodes
sound_put s t account now put slot digest change answer old nodes sound counted slotted ruled is clock m gives clean end few later early few_blocks =
    let request : Request = with_bytes put digest in
    let next : Machine = changed (advance s.recorded now) digest change in
    let of = is_after same (advance s.recorded now) account request next answer ruled.acts in
    let more : t.recorded.changes ≡ s.recorded.changes + 1 = ap (λ (m : Machine). m.changes) is in
    let stamps : t.recorded.stamps ≡ s.recorded.stamps + 1 = ap (λ (m : Machine). m.stamps) is ∙ next_stamp (advance s.recorded now) request next refl of ∙ ap (λ (k : ℕ). s.recorded.stamps + k) (writes_one put digest) in
    record {
      late = omega (arith, ap (λ (m : Machine). m.clock.second) is, ap (λ (m : Moment). m.second) clock);
      early = omega (arith, early, ap (λ (m : Moment). m.second) clock);
      few = omega (arith, more, few);
      room = omega (arith, more, end, sound.room, later, ap (λ (m : Machine). m.clock.second) is);
      given = λ stamp n e. subst (λ (k : ℕ). stamp < k) (sym stamps) (given_more s.slots.keys s.recorded.stamps slot sound.given stamp n
          (fewer_without (adopted s.slots slot s.recorded.stamps) gives.gone stamp n (ap (λ (u : SlotTable). fin.get u.keys stamp) (sym gives.is) ∙ e)));
      slotted = slotted;
      counted = counted;
      indexed = subst AreIndexed (sym is) (indexed_acts same s.recorded now account request next answer ruled.acts (put_fits put digest few_blocks) sound.indexed);
      laws = subst HasLaws (sym is) (laws_acts same s.recorded now account request next answer ruled.acts (put_within put digest) later early sound.laws);
      area = ap (λ (u : SlotTable). is_blocks u.area) gives.is ∙ ap is_blocks (area_without (adopted s.slots slot s.recorded.stamps) gives.gone) ∙ sound.area;
      clean = λ none. clean;
    }

-- along two paths
pub gives_on : (m n : Machine) (old was new : SlotTable) → m ≡ n → old ≡ was → GivesUp m old new → GivesUp n was new
gives_on m n old was new machine slots gives = record {
  gone = gives.gone;
  is = gives.is ∙ ap (λ (u : SlotTable). without_stamp u gives.gone) slots;
  slotted = subst (AreSlotted new.keys) machine gives.slotted;
}

-- closing a gate leaves machine and slots
pub taken_mended : (s t : Seen) (now : Moment) (slot : ℕ) (next : Machine) → IsPutTaken (mended s) now slot next t → IsPutTaken s now slot next t
taken_mended s t now slot next taken = record { recorded = taken.recorded; clock = taken.clock; slots = taken.slots; pending = taken.pending }
