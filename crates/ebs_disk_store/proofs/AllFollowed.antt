-- All records of a journal, one after the other.
use Rattle.std.proofs.Common.{◌≡◌, ℕ, ◌+◌, ◌*◌, ◌<◌, ◌≤◌, List, [], ◌∷◌, ◌++◌, length, map, nat_lt, take, drop, get_or, Option, None, Some, Ok, Err, refl, sym, ap, subst, ◌∙◌, arith}
use Rattle.std.specs.List.{AllByRecursion}
use Rattle.std.proofs.lemmas.List.{append_assoc, length-append, length-take-le, take-append-drop, take_more}
use Rattle.ebs_journal.specs.Format.{entry, entries}
use Rattle.ebs_journal.specs.inner.Format.{places_from}
use Rattle.ebs_journal.proofs.Gates.{length-entry}
use Rattle.std.proofs.lemmas.Bool.Decides.{nat_tests}
use Rattle.ebs_slots.specs.inner.Slots.{SlotTable}
use Rattle.ebs_model.specs.declared.keys.Moment.{Moment}
use Rattle.ebs_model.specs.Kept.{same}
use Rattle.ebs_model.specs.Machine.{Machine, advance}
use Rattle.ebs_records.specs.inner.Numbers.{long-length}
use Rattle.ebs_records.specs.declared.record.AcceptedCall.{AcceptedCall}
use Rattle.ebs_records.specs.declared.record.Record.{Record}
use Rattle.ebs_records.specs.declared.record.Record.TheVariants.{Accepted, Advance, Moved}
use Rattle.ebs_records.specs.Records.{IsRecord, record_bytes}
use Rattle.ebs_recovery.specs.Made.{State, Made, called, stated, made, bind, change_of, followed}
use Rattle.ebs_recovery.specs.Replays.{Replays}
use Rattle.ebs_recovery.proofs.Readers.{is_called}
use Rattle.ebs_recovery.proofs.Outcomes.{is_after, same_clock}
use Rattle.ebs_recovery.proofs.OneMore.{some_is}
use Rattle.ebs_recovery.proofs.Replayed.{replays_on}
use Rattle.ebs_recovery.proofs.Short.{of_record}
use Rattle.ebs_disk_store.specs.declared.following.Unfollowed.{Unfollowed}
use Rattle.ebs_disk_store.specs.declared.following.Unfollowed.TheVariants as why
use Rattle.ebs_disk_store.specs.inner.Following.{IsKeptState, IsOf, IsStep, FollowsPayload, IsWhy, IsStopped, Leads}
use Rattle.ebs_disk_store.specs.Opened.{IsUnbuilt, AreBuilt}

pub leads_none : (m : Machine) (slots : SlotTable) → IsKeptState m slots → Leads m slots m slots []
leads_none m slots state = (tt, (state, λ k of. (k, record { records = []; values = tt; spelled = refl; gives = refl }, of)))

built_more : (payloads : List (List ℕ)) (payload : List ℕ) → AreBuilt payloads → (IsUnbuilt payload → ⊥) → AreBuilt (payloads ++ payload ∷ [])
built_more [] payload all one = (one, tt)
built_more (p ∷ payloads) payload all one = (all.0, built_more payloads payload all.1 one)

replays_more : (s t u : State) (payloads : List (List ℕ)) (payload : List ℕ) → Replays s payloads t → IsStep t payload u → Replays s (payloads ++ payload ∷ []) u
replays_more s t u payloads payload all step =
    subst (λ (p : List ℕ). Replays s (payloads ++ p ∷ []) u) (sym step.is) (replays_on s t u payloads step.made all step.value step.gives)

module _ (m : Machine) (slots : SlotTable) (n : Machine) (after : SlotTable) (payloads : List (List ℕ)) (index : ℕ) (payload item : List ℕ)
    (within : index < length payloads) (item_is : item ≡ get_or payloads index item) (payload_is : payload ≡ item) (leads : Leads m slots n after (take index payloads)) where
  longer : take (index + 1) payloads ≡ take index payloads ++ payload ∷ []
  longer = take_more payloads index item within ∙ ap (λ (p : List ℕ). take index payloads ++ p ∷ []) (sym (payload_is ∙ item_is))

  pub leads_more : (p : Machine) (late : SlotTable) → FollowsPayload n after p late payload (Ok tt) → Leads m slots p late (take (index + 1) payloads)
  leads_more p late one = subst (Leads m slots p late) (sym longer) (
    built_more (take index payloads) payload leads.0 one.0,
    (
      one.1.0,
      λ k of.
          let t = leads.1.1 k of in
          let u = one.1.1 t.0 t.2 in
          (u.0, replays_more k t.0 u.0 (take index payloads) payload t.1 u.1, u.2),
    ),
  )

  pub stopped_at : (p : Machine) (late : SlotTable) (behind : ℕ) (why_not : Unfollowed) → behind ≡ index → FollowsPayload n after p late payload (Err why_not)
      → (k : State) → IsOf m slots k → IsStopped k payloads (record { behind = behind; why = why_not })
  stopped_at p late behind why_not behind_is one k of =
      let t = leads.1.1 k of in
      record {
        before = take index payloads;
        payload = payload;
        rest = drop (index + 1) payloads;
        is = sym (take-append-drop (index + 1) payloads) ∙ ap (λ (l : List (List ℕ)). l ++ drop (index + 1) payloads) longer ∙ append_assoc (take index payloads) (payload ∷ []) (drop (index + 1) payloads);
        behind = behind_is ∙ sym (length-take-le index payloads (omega (arith, within)));
        built = leads.0;
        between = t.0;
        replays = t.1;
        why = reason why_not one t.0 t.2;
      }
    where
      reason : (w : Unfollowed) → FollowsPayload n after p late payload (Err w) → (t : State) → IsOf n after t → IsWhy t payload w
      reason why.Bad h t of = (h.0, h.1 t of)
      reason why.NotBuilt h t of = h
      reason why.Memory h t of = tt

-- ---- how long the records of a state can be

abbrev pub weight : Machine → ℕ
weight m = 1048581 * m.changes + 14 * m.clock.second

one_change : (o : Option State) (t : State) → bind o (λ t. followed t []) ≡ Some t → o ≡ Some t
one_change None t e = e
one_change (Some u) t e = e

advanced_grows : (k t : State) (at : Moment) (b : _) → (b ≡ Rattle.std.specs.Prelude.true → k.machine.clock.second < at.second) → Rattle.std.specs.Prelude.cond b (Some (record k { machine = advance k.machine at })) None ≡ Some t
    → 14 + weight k.machine ≤ weight t.machine
advanced_grows k t at Rattle.std.specs.Prelude.true late e =
    let is = some_is (record k { machine = advance k.machine at }) t e in
    let clock = ap (λ (s : State). s.machine.clock.second) is in
    let changes = ap (λ (s : State). s.machine.changes) is in
    let after = late refl in
    omega (arith, clock, changes, after)
advanced_grows k t at Rattle.std.specs.Prelude.false late e = absurd (cc)

call_grows : (k t : State) (a : AcceptedCall) → made same k (called a) ≡ Some t → 1048581 + weight k.machine ≤ weight t.machine
call_grows k t a e =
    let is = is_called same k a t e in
    let clock = ap (λ (x : Moment). x.second) (same_clock (advance k.machine a.at) a.request t.machine (is_after same (advance k.machine a.at) a.account a.request t.machine is.answer is.acts)) in
    let changes = is.changes in
    let late = is.on_time in
    omega (arith, clock, changes, late)

-- a record is no longer than what its change adds
record_grows : (k t : State) (r : Record) → IsRecord r → followed k (r ∷ []) ≡ Some t → 5 + length (record_bytes r) + weight k.machine ≤ weight t.machine
record_grows k t (Accepted a) value e =
    let short = (of_record (Accepted a) value).1 in
    let grows = call_grows k t (record a { request = stated a.request }) (one_change _ t e) in
    omega (arith, short, grows)
record_grows k t (Advance at) value e =
    let short = long-length at.second in
    let grows = advanced_grows k t at (nat_lt k.machine.clock.second at.second) (is_late k.machine.clock.second at.second) (one_change _ t e) in
    omega (arith, short, grows)
  where
    is_late : (a b : ℕ) → nat_lt a b ≡ Rattle.std.specs.Prelude.true → a < b
    is_late a b e = grind (arith, nat_tests, e)
record_grows k t (Moved transfer) value e = absurd (cc)

-- one record, and then those behind it
split : (s : State) (r : Record) (rs : List Record) (k : State) → followed s (r ∷ rs) ≡ Some k → (t : State) × (followed s (r ∷ []) ≡ Some t) × (followed t rs ≡ Some k)
split s r rs k e = by_change (change_of r) e
  where
    by_state : (o : Option State) → bind o (λ t. followed t rs) ≡ Some k → (t : State) × (bind o (λ t. followed t []) ≡ Some t) × (followed t rs ≡ Some k)
    by_state None e = absurd (cc)
    by_state (Some t) e = (t, refl, e)

    by_change : (o : Option Made) → bind o (λ e. bind (made same s e) (λ t. followed t rs)) ≡ Some k → (t : State) × (bind o (λ e. bind (made same s e) (λ t. followed t [])) ≡ Some t) × (followed t rs ≡ Some k)
    by_change None e = absurd (cc)
    by_change (Some c) e = by_state (made same s c) e

pub length-entries : (r : List ℕ) (rs : List (List ℕ)) → length (entries (r ∷ rs)) ≡ 5 + length r + length (entries rs)
length-entries r rs = length-append (1 ∷ entry r) (entries rs) ∙ omega (arith, length-entry r)

records_grow : (s k : State) (records : List Record) → AllByRecursion IsRecord records → followed s records ≡ Some k → length (entries (map record_bytes records)) + weight s.machine ≤ weight k.machine
records_grow s k [] values e = let is = ap (λ (x : State). weight x.machine) (some_is s k e) in omega (arith, is)
records_grow s k (r ∷ records) values e =
    let (t, one, rest) = split s r records k e in
    let first = record_grows s t r values.0 one in
    let others = records_grow t k records values.1 rest in
    let all = length-entries (record_bytes r) (map record_bytes records) in
    omega (arith, first, others, all)

pub replays_grow : (s k : State) (payloads : List (List ℕ)) → Replays s payloads k → length (entries payloads) + weight s.machine ≤ weight k.machine
replays_grow s k payloads is = subst (λ (ps : List (List ℕ)). length (entries ps) + weight s.machine ≤ weight k.machine) (sym is.spelled) (records_grow s k is.records is.values is.gives)

-- ---- places

pub length-places : (first : ℕ) (rs : List (List ℕ)) → length (places_from first rs) ≡ length rs
length-places first [] = refl
length-places first (r ∷ rs) = let rest = length-places (first + (5 + length r)) rs in omega (arith, rest)

pub place_at : (first : ℕ) (before : List (List ℕ)) (payload : List ℕ) (rest : List (List ℕ)) → get_or (places_from first (before ++ payload ∷ rest)) (length before) 0 ≡ first + length (entries before)
place_at first [] payload rest = omega arith
place_at first (r ∷ before) payload rest =
    let there = place_at (first + (5 + length r)) before payload rest in
    let all = length-entries r before in
    there ∙ omega (arith, all)
