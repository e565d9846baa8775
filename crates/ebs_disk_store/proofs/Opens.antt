-- A store that is opened.
use Rattle.std.proofs.Common.{◌≡◌, inl, inr, ℕ, ◌+◌, ◌<◌, ◌≤◌, ◌^◌, List, [], ◌∷◌, ◌++◌, map, length, get_or, Bool, true, false, cond, Option, Some, ◌==◌, refl, sym, ap, subst, ◌∙◌, arith}
use Rattle.std.specs.FinMap as fin
use Rattle.std.specs.FinMap.{find, nat_cmp-IsAntisymmetric}
use Rattle.std.specs.List as list
use Rattle.std.specs.List.{list_all}
use Rattle.std.specs.Option.{option_map}
use Rattle.std.specs.Cmp.{nat_cmp_total}
use Rattle.std.specs.Ordering.{nat_cmp, eq_by_cmp}
use Rattle.std.proofs.lemmas.List.{length-append}
use Rattle.std.specs.Prelude.{IsSome, ◌&&◌, nat_le}
use Rattle.std.proofs.lemmas.Bool.{and_parts, false≢true, ltb-true}
use Rattle.std.proofs.lemmas.Bool.Decides.{nat_tests}
use Rattle.ebs_tables.proofs.MapEdits.{is_same, tied}
use Rattle.ebs_world.specs.declared.area.Area.{Area}
use Rattle.ebs_world.specs.declared.area.Area.TheVariants.{Blocks}
use Rattle.ebs_world.specs.Image.{Image, Everywhere}
use Rattle.ebs_world.specs.View.{View, Ran}
use Rattle.ebs_journal.specs.Opening.{IsJournal, IsRefused}
use Rattle.ebs_journal.specs.inner.Reading.{Refuses}
use Rattle.ebs_journal.specs.declared.refusal.JournalRefusal.{JournalRefusal}
use Rattle.ebs_journal.specs.declared.refusal.JournalRefusal.TheVariants as of_journal
use Rattle.ebs_journal.specs.declared.replay.Replay.{Replay}
use Rattle.ebs_journal.specs.Format.{entries}
use Rattle.ebs_journal.specs.inner.Format.{places_from}
use Rattle.ebs_journal.specs.inner.Line.{Line}
use Rattle.ebs_journal.specs.inner.Standing.{IsMeasured, IsSettled}
use Rattle.ebs_slots.specs.inner.Slots.{SlotTable, IsApart}
use Rattle.ebs_lineage.specs.Table.{NodeMap}
use Rattle.ebs_collect.specs.Slices.{IsCounted, Frees}
use Rattle.ebs_model.specs.Keys.{snap_cmp}
use Rattle.ebs_model.specs.Time.{Snapshot}
use Rattle.ebs_model.specs.Machine.{Machine}
use Rattle.ebs_model.specs.Limits.{is_size}
use Rattle.ebs_model.specs.Quotas.{most_changes}
use Rattle.ebs_model.specs.inner.Orders.{snaps_total}
use Rattle.ebs_records.specs.Records.{is_moment, is_index}
use Rattle.ebs_checkpoints.specs.declared.nodes.SlotRow.{SlotRow}
use Rattle.ebs_checkpoints.specs.declared.snapshots.SnapPoint.{SnapPoint}
use Rattle.ebs_checkpoints.specs.declared.checkpoint.Checkpoint.{Checkpoint}
use Rattle.ebs_row_rules.specs.Limits.{is_account_within, is_snapshot_within, is_volume_within, is_rule_within, is_policy_within, is_node_within, has_moments, has_ends, is_told_within, has_copy_index}
use Rattle.ebs_node_rules.specs.Arrays.{arrays_of}
use Rattle.ebs_checkpoint_rules.specs.Rules.{HasRules}
use Rattle.ebs_regrown.specs.Counted as regrown
use Rattle.ebs_regrown.specs.Counted.{slot_in}
use Rattle.ebs_recovery.specs.Made.{State}
use Rattle.ebs_recovery.specs.Bases.{slots_of}
use Rattle.ebs_recovery.specs.Stands.{Records, unmade, as_recorded}
use Rattle.ebs_recovery.specs.inner.Bases.{machine_of, state_of, snaps_of, snapshot_of}
use Rattle.ebs_recovery.specs.inner.BaseLaws.{OneIsSaid}
use Rattle.ebs_recovery.specs.inner.FitLaws.{RecordedRests}
use Rattle.ebs_recovery.specs.inner.ReplayLaws.{OpenedFits}
use Rattle.ebs_recovery.specs.inner.Replays.{IsOpened}
use Rattle.ebs_recovery.specs.Replays.{Replays}
use Rattle.ebs_recovery.proofs.Bases.{base_stamped, found_in}
use Rattle.ebs_disk_store.specs.declared.following.Stopped.{Stopped}
use Rattle.ebs_disk_store.specs.declared.following.Unfollowed.{Unfollowed}
use Rattle.ebs_disk_store.specs.declared.following.Unfollowed.TheVariants as why
use Rattle.ebs_disk_store.specs.inner.Following.{IsBehind, IsKeptState, IsOf, IsStopped, IsWhy, Leads}
use Rattle.ebs_disk_store.specs.inner.Opened.{Begun, Gives, IsRead, IsUnread, OpensAs, opened_store, refusal_for}
use Rattle.ebs_disk_store.specs.Opened.{IsUnopened}
use Rattle.ebs_disk_store.specs.Collected.{IsShared}
use Rattle.ebs_disk_store.specs.inner.Creations.{refusal_of}
use Rattle.ebs_disk_store.specs.declared.refusal.OpenRefusal.{OpenRefusal}
use Rattle.ebs_disk_store.specs.declared.refusal.OpenRefusal.TheVariants.{DiskFailed, NotMade, AlreadyMade, NotAJournal, BadVersion, BadRecord, BadCheckpoint, NotBuilt, Memory}
use Rattle.ebs_disk_store.specs.inner.Shown.{AreGiven, AreSlotted, AreIndexed, HasIndexes, HasLaws, IsSound, is_blocks}
use Rattle.ebs_disk_store.proofs.AllFollowed.{length-places, place_at, replays_grow, weight}
use Rattle.ebs_disk_store.proofs.Lawful.{point_laws}
use Rattle.ebs_disk_store.proofs.Swept.{frees_less, keeps_shared, less_of, less_state}

-- ---- before the first record

-- what the rows say of a slot is what is found in the map of them
same_number : (m n : ℕ) → (m == n) ≡ true → m ≡ n
same_number m n t = grind (arith, nat_tests, t)

itself : (n : ℕ) → (n == n) ≡ true
itself n = grind (arith, nat_tests)

ties : (q a : ℕ) (b : Bool) → (a == q) ≡ b → eq_by_cmp nat_cmp q a ≡ b
ties q a true e = ap (λ (n : ℕ). eq_by_cmp nat_cmp q n) (same_number a q e) ∙ tied nat_cmp_total q
ties q a false e = by (eq_by_cmp nat_cmp q a) refl
  where
    by : (t : Bool) → eq_by_cmp nat_cmp q a ≡ t → eq_by_cmp nat_cmp q a ≡ false
    by true is = absurd (false≢true (sym e ∙ ap (λ (n : ℕ). n == q) (sym (is_same nat_cmp-IsAntisymmetric q a is)) ∙ itself q))
    by false is = is

found_slot : (rows : List SlotRow) (stamp : ℕ) → find nat_cmp stamp (map (λ (r : SlotRow). (r.key, r.slot)) rows) ≡ slot_in rows stamp
found_slot [] stamp = refl
found_slot (r ∷ rows) stamp = by (r.key == stamp) refl (found_slot rows stamp)
  where
    by : (b : Bool) → (r.key == stamp) ≡ b → find nat_cmp stamp (map (λ (r : SlotRow). (r.key, r.slot)) rows) ≡ slot_in rows stamp → cond (eq_by_cmp nat_cmp stamp r.key) (Some r.slot) (find nat_cmp stamp (map (λ (r : SlotRow). (r.key, r.slot)) rows)) ≡ option_map (λ (row : SlotRow). row.slot) (cond (r.key == stamp) (Some r) (list.find (λ (row : SlotRow). row.key == stamp) rows))
    by true e rest = rw (e, ties stamp r.key true e) refl
    by false e rest = rw (e, ties stamp r.key false e) rest

slot_said : (rows : List SlotRow) (stamp : ℕ) → fin.get (slots_of rows) stamp ≡ slot_in rows stamp
unfolding slots_of
slot_said rows stamp = fin.get-from_entries nat_cmp_total (map (λ (r : SlotRow). (r.key, r.slot)) rows) stamp ∙ found_slot rows stamp

-- an index that was put is one of the row's
put_in : (indexes : List ℕ) (test : ℕ → Bool) (index : ℕ) → list_all test indexes ≡ true → find nat_cmp index (map {B = ℕ × Unit {0}} (λ i. (i, tt)) indexes) ≡ Some tt → test index ≡ true
put_in [] test index all e = absurd (cc)
put_in (i ∷ indexes) test index all e = by (λ h. put_in indexes test index (and_parts _ _ all).1 h) (eq_by_cmp nat_cmp index i) refl e
  where
    by : (find nat_cmp index (map {B = ℕ × Unit {0}} (λ i. (i, tt)) indexes) ≡ Some tt → test index ≡ true) → (b : Bool) → eq_by_cmp nat_cmp index i ≡ b → cond b (Some tt) (find nat_cmp index (map {B = ℕ × Unit {0}} (λ i. (i, tt)) indexes)) ≡ Some tt → test index ≡ true
    by later true same h = ap test (is_same nat_cmp-IsAntisymmetric index i same) ∙ (and_parts _ _ all).0
    by later false other h = later h

low : (index : ℕ) → is_index index ≡ true → index < 2 ^ 25
low index e = ltb-true index (2 ^ 25) e

module _ (point : Checkpoint) (rules : HasRules point) where
  snapshots_within : list_all is_snapshot_within point.snapshots ≡ true
  snapshots_within =
      let rest = list_all is_volume_within point.volumes && (list_all is_rule_within point.rules && (list_all is_policy_within point.policies && list_all is_node_within point.nodes)) in
      (and_parts (list_all is_snapshot_within point.snapshots) rest (and_parts (list_all is_account_within point.accounts) (list_all is_snapshot_within point.snapshots && rest)
      (and_parts (nat_le point.accepted most_changes) (list_all is_account_within point.accounts && (list_all is_snapshot_within point.snapshots && rest))
      (and_parts (is_moment point.clock) (nat_le point.accepted most_changes && (list_all is_account_within point.accounts && (list_all is_snapshot_within point.snapshots && rest))) rules.within).1).1).1).0

  puts_within : (p : SnapPoint) → is_snapshot_within p ≡ true → list_all is_index p.put ≡ true
  puts_within p within =
      let rest = list_all is_index p.put && list_all has_copy_index p.copies in
      (and_parts (list_all is_index p.put) (list_all has_copy_index p.copies) (and_parts (is_told_within p) rest (and_parts (has_ends p) (is_told_within p && rest)
      (and_parts (has_moments p) (has_ends p && (is_told_within p && rest)) (and_parts (is_size p.size) (has_moments p && (has_ends p && (is_told_within p && rest))) within).1).1).1).1).0

  point_indexed : AreIndexed (machine_of point)
  unfolding snaps_of
  point_indexed key s e =
      let r = found_in snap_cmp (λ (p : SnapPoint). p.key) (snapshot_of (arrays_of point.nodes)) point.snapshots key s
      (sym (fin.get-from_entries snaps_total (map (λ (p : SnapPoint). (p.key, snapshot_of (arrays_of point.nodes) p)) point.snapshots) key) ∙ e) in
      subst (λ (x : Snapshot). HasIndexes x.row) (sym r.is)
      (λ index there. low index (put_in r.point.put is_index index (puts_within r.point (r.each is_snapshot_within snapshots_within))
      (sym (fin.get-from_entries nat_cmp_total (map {B = ℕ × Unit {0}} (λ i. (i, tt)) r.point.put) index) ∙ there)))

  module _ (m : Machine) (slots : SlotTable) (machine : m ≡ machine_of point) (keys : (stamp : ℕ) → fin.get slots.keys stamp ≡ slot_in point.standard stamp) (leases : slots.leases ≡ fin.empty) (area : slots.area ≡ Blocks)
      (behind : regrown.IsBehind slots) (apart : IsApart slots) (slotted : AreSlotted slots.keys m) where
    same_slots : (stamp : ℕ) → fin.get slots.keys stamp ≡ fin.get (slots_of point.standard) stamp
    same_slots stamp = keys stamp ∙ sym (slot_said point.standard stamp)

    given : AreGiven (slots_of point.standard) point.next_stamp
    given stamp slot e = base_stamped point rules stamp slot e

    pub begun_state : IsKeptState m slots
    begun_state = record {
      area = area;
      given = λ stamp slot e. subst (λ (x : Machine). stamp < x.stamps) (sym machine) (given stamp slot (sym (same_slots stamp) ∙ e));
      slotted = slotted;
      indexed = subst AreIndexed (sym machine) point_indexed;
      laws = subst HasLaws (sym machine) (point_laws point rules);
      leases = leases;
    }

    pub begun_of : IsOf m slots (state_of point)
    begun_of = record {
      machine = machine;
      keys = λ key index block e. same_slots block.stamp;
      given = given;
      below = λ stamp slot e. apart.keyed stamp slot (same_slots stamp ∙ e);
      behind = by behind;
    }
      where
        by : regrown.IsBehind slots → IsBehind (slots_of point.standard) slots.top
        by (inl none) = inl none
        by (inr (stamp, slot, there, top)) = inr (stamp, slot, sym (same_slots stamp) ∙ there, top)

-- ---- what the records give, and a sweep leaves of it

module _ (checkpoint : List ℕ) (payloads : List (List ℕ)) (m : Machine) (slots : SlotTable) (begun : Begun checkpoint m slots) where
  pub gives : (n : Machine) (after : SlotTable) → Leads m slots n after payloads
      → (swept : Machine) (left : SlotTable) → swept ≡ n → Frees after left → AreSlotted left.keys swept → ((stamp : ℕ) → IsSome (fin.get left.keys stamp) → IsShared swept stamp)
      → IsApart left → swept.clock.second ≤ 2 ^ 36 → swept.changes ≤ 2 ^ 40 → Gives checkpoint payloads swept left
  gives n after leads swept left same frees slotted shared apart early few =
      let k = leads.1.1 begun.base begun.of in
      let less = frees_less after left frees in
      record {
        base = begun.base;
        starts = begun.starts;
        built = leads.0;
        state = k.0;
        replays = k.1;
        of = less_of swept after left less slotted k.0 (subst (λ (x : Machine). IsOf x after k.0) (sym same) k.2);
        kept = less_state swept after left less slotted (subst (λ (x : Machine). IsKeptState x after) (sym same) leads.1.0);
        apart = apart;
        shared = shared;
        early = early;
        few = few;
      }

  pub within : (stopped : Stopped) → IsStopped begun.base payloads stopped → (places : List ℕ) → places ≡ places_from (29 + length checkpoint) payloads → stopped.behind < length places
  within stopped is places places_are =
      let all = ap length is.is ∙ length-append is.before (is.payload ∷ is.rest) in
      let long = ap length places_are ∙ length-places (29 + length checkpoint) payloads in
      let behind = is.behind in
      omega (arith, all, long, behind)

  pub unread : (stopped : Stopped) → IsStopped begun.base payloads stopped → (places : List ℕ) → places ≡ places_from (29 + length checkpoint) payloads
      → IsUnread checkpoint payloads (refusal_for stopped.why (get_or places stopped.behind 0))
  unread stopped is places places_are = by stopped.why is.why
    where
      place : get_or places stopped.behind 0 ≡ 29 + length checkpoint + length (entries is.before)
      place = ap (λ (l : List ℕ). get_or l stopped.behind 0) (places_are ∙ ap (places_from (29 + length checkpoint)) is.is)
          ∙ ap (λ (i : ℕ). get_or (places_from (29 + length checkpoint) (is.before ++ is.payload ∷ is.rest)) i 0) is.behind
          ∙ place_at (29 + length checkpoint) is.before is.payload is.rest

      by : (w : Unfollowed) → IsWhy is.between is.payload w → IsUnread checkpoint payloads (refusal_for w (get_or places stopped.behind 0))
      by why.Bad h = record {
        base = begun.base;
        starts = begun.starts;
        before = is.before;
        bad = record { payload = is.payload; rest = is.rest; is = is.is; between = is.between; replays = is.replays; bad = h.1 };
        built = h.0;
        place_is = place;
      }
      by why.NotBuilt h = inr (record {
        base = begun.base;
        starts = begun.starts;
        before = is.before;
        payload = is.payload;
        rest = is.rest;
        is = is.is;
        between = is.between;
        replays = is.replays;
        unbuilt = h;
      })
      by why.Memory h = tt

-- ---- the store

module _ (checkpoint : List ℕ) (payloads : List (List ℕ)) (m : Machine) (slots : SlotTable) (is : Gives checkpoint payloads m slots) where
  pub opened_sound : (journal : Line) (waiting : ℕ) (nodes : NodeMap) (replay : Replay) → replay.checkpoint ≡ checkpoint → replay.records ≡ payloads → IsMeasured journal replay → IsCounted slots nodes
      → IsSound (opened_store m slots journal waiting) nodes
  opened_sound journal waiting nodes replay checkpoint_is records_are measured counted =
      let grows = replays_grow is.base is.state payloads is.replays in
      let heavy = ap weight is.of.machine in
      let end = measured.end ∙ (λ i. 30 + length (checkpoint_is i) + length (entries (records_are i))) in
      let short = subst (λ (l : List ℕ). length l ≤ 2 ^ 40) checkpoint_is measured.short in
      record {
        late = omega arith;
        early = is.early;
        few = is.few;
        room = omega (arith, grows, heavy, end, short, is.early);
        given = is.kept.given;
        slotted = is.kept.slotted;
        counted = counted;
        indexed = is.kept.indexed;
        laws = is.kept.laws;
        area = ap is_blocks is.kept.area;
        clean = λ none. measured.clean;
      }

  pub is_opened : (journal : Line) (waiting : ℕ) → IsOpened (opened_store m slots journal waiting) is.state
  is_opened journal waiting = record {
    recorded = is.of.machine;
    keys = is.of.keys;
    area = is.kept.area;
    apart = is.apart;
    leases = λ slot. ap (λ leases. fin.get leases slot) is.kept.leases ∙ fin.get-empty {X = List ℕ} nat_cmp slot;
    below = is.of.below;
    clock = let clock = ap (λ (x : Machine). x.clock.second) is.of.machine in omega (arith, clock);
    pending = refl;
  }

-- ---- on a disk

reads_same : (old new : View) → Ran Everywhere old new → old.tells ≡ true → old.reads ≡ new.reads
reads_same old new ran told = λ k a i. sym (ran.kept told a i tt) k

-- a journal's refusal is the store's
pub refused_open : (old new : View) (refusal : JournalRefusal) → Refuses old new (λ r. old.tells ≡ true → IsRefused old.reads r) refusal → IsUnopened old new (refusal_of refusal)
refused_open old new of_journal.DiskFailed h = h
refused_open old new of_journal.NotMade h = h
refused_open old new (of_journal.NotAJournal nine) h = h
refused_open old new (of_journal.BadVersion version) h = h
refused_open old new of_journal.Memory h = tt
refused_open old new (of_journal.BadLength place) h = by (place == 21) refl
  where
    there : (n : ℕ) → (n == 21) ≡ true → n ≡ 21
    there n e = grind (arith, nat_tests, e)

    elsewhere : (n : ℕ) → (n == 21) ≡ false → n ≡ 21 → ⊥
    elsewhere n e is = grind (arith, nat_tests, e, is)

    by : (b : Bool) → (place == 21) ≡ b → IsUnopened old new (cond b BadCheckpoint (BadRecord place))
    by true e = λ told. inl (subst (λ (n : ℕ). IsRefused old.reads (of_journal.BadLength n)) (there place e) (h told))
    by false e = λ told. inl (elsewhere place e, h told)

-- and so is what of its records isn't followed
pub unread_open : (old new : View) (journal : Line) (checkpoint : List ℕ) (payloads : List (List ℕ)) → (old.tells ≡ true → IsJournal old.reads journal.area journal.epoch checkpoint payloads)
    → (refusal : OpenRefusal) → IsUnread checkpoint payloads refusal → IsUnopened old new refusal
unread_open old new journal checkpoint payloads there DiskFailed h = absurd h
unread_open old new journal checkpoint payloads there NotMade h = absurd h
unread_open old new journal checkpoint payloads there AlreadyMade h = absurd h
unread_open old new journal checkpoint payloads there (NotAJournal nine) h = absurd h
unread_open old new journal checkpoint payloads there (BadVersion version) h = absurd h
unread_open old new journal checkpoint payloads there (BadRecord place) h = λ told. inr (record { area = journal.area; epoch = journal.epoch; checkpoint = checkpoint; payloads = payloads; journal = there told; has = h })
unread_open old new journal checkpoint payloads there BadCheckpoint h = λ told. inr (record { area = journal.area; epoch = journal.epoch; checkpoint = checkpoint; payloads = payloads; journal = there told; has = h })
unread_open old new journal checkpoint payloads there NotBuilt h = λ told. record { area = journal.area; epoch = journal.epoch; checkpoint = checkpoint; payloads = payloads; journal = there told; has = h }
unread_open old new journal checkpoint payloads there Memory h = tt

module _ (checkpoint : List ℕ) (payloads : List (List ℕ)) (m : Machine) (slots : SlotTable) (is : Gives checkpoint payloads m slots) (journal : Line) (waiting : ℕ) where
  pub is_read : (c : Image) → IsJournal c journal.area journal.epoch checkpoint payloads → journal.end ≡ 30 + length checkpoint + length (entries payloads) → waiting ≡ 0
      → IsRead c (opened_store m slots journal waiting)
  is_read c there end none = record {
    checkpoint = checkpoint;
    base = is.base;
    starts = is.starts;
    payloads = payloads;
    journal = there;
    built = is.built;
    state = is.state;
    replays = is.replays;
    opened = is_opened checkpoint payloads m slots is journal waiting;
    held = keeps_shared m slots is.state is.of is.shared;
    waiting = none;
    behind = is.of.behind;
    clock = refl;
    end = end;
  }

  pub opens_as : (old new : View) → OneIsSaid → OpenedFits new → RecordedRests new → Ran Everywhere old new → old.tells ≡ true → IsJournal old.reads journal.area journal.epoch checkpoint payloads → IsSettled new journal checkpoint payloads
      → ((c : Image) → new.may_leave c → (a : Area) (i : ℕ) → c a i ≡ new.reads a i) → (machine : Machine) → OpensAs old new (opened_store m slots journal waiting) machine
  opens_as old new said fits rests ran told there settled durable machine (unmade zero e) = absurd (there.made zero)
  opens_as old new said fits rests ran told there settled durable machine (as_recorded records) =
      let s = opened_store m slots journal waiting in
      let both = fits machine s is.starts.point payloads is.state (subst (λ (c : Image). Records c machine) (reads_same old new ran told) records) is.starts.is_checkpoint
      (subst (λ (l : List ℕ). IsSettled new journal l payloads) is.starts.is settled) (λ c now i. durable c now Blocks i)
      (subst (λ (b : State). Replays b payloads is.state) (said is.starts.point is.base is.starts.says) is.replays) (is_opened checkpoint payloads m slots is journal waiting) in
      (both.0, both.1, rests s both.0 ∙ both.1)
