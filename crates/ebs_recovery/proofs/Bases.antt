-- What holds of the state that a checkpoint gives.
use Rattle.std.proofs.Common.{◌≡◌, ℕ, ◌+◌, ◌*◌, ◌≤◌, ◌<◌, Bool, true, false, not, ◌&&◌, ◌||◌, cond, List, [], ◌∷◌, ◌++◌, map, Option, None, Some, refl, sym, ap, subst, ◌∙◌, arith}
use Rattle.std.specs.Prelude.{◌==◌, nat_le, nat_lt}
use Rattle.std.proofs.lemmas.Bool.{eqb-true, leb-true, ltb-true}
use Rattle.std.specs.List.{list_all, filter}
use Rattle.std.specs.Option.{option_map, is_some}
use Rattle.std.specs.declared.cmp.Ordering.{Ordering}
use Rattle.std.specs.Ordering.{nat_cmp, eq_by_cmp}
use Rattle.std.specs.Cmp.{nat_cmp_total}
use Rattle.std.specs.FinMap as fin
use Rattle.std.specs.FinMap.{get, find, from_entries, get-from_entries}
use Rattle.ebs_tables.proofs.MapEdits.{is_same}
use Rattle.ebs_model.specs.declared.keys.SnapKey.{SnapKey}
use Rattle.ebs_model.specs.declared.rows.SnapRow.{SnapRow}
use Rattle.ebs_model.specs.declared.rows.RowStatus.{RowStatus}
use Rattle.ebs_model.specs.declared.rows.RowStatus.TheVariants.{Pending, Completed, Failed}
use Rattle.ebs_model.specs.declared.keys.VolKey.{VolKey}
use Rattle.ebs_model.specs.Keys.{snap_cmp}
use Rattle.ebs_model.specs.inner.Orders.{snaps_total}
use Rattle.ebs_model.specs.inner.MapValues.{map_values}
use Rattle.ebs_model.specs.Arrays.{WholeBlock, WholeArray}
use Rattle.ebs_model.specs.Time.{Snapshot, status_by, is_failed, rested}
use Rattle.ebs_model.specs.Limits.{is_size, is_retention, is_description, are_rule_tags}
use Rattle.ebs_model.specs.Machine.{Machine, rows_of, snap_rows, aged_rows}
use Rattle.ebs_model.specs.inner.Kept.{digested, digested_block, digested_snapshot}
use Rattle.ebs_model.proofs.Aged.{get-aged, aged_row}
use Rattle.ebs_model.proofs.RowLaws.{get-row, row_in, same_snaps}
use Rattle.ebs_model.proofs.Values.{get-map_values, map_values-empty}
use Rattle.ebs_checkpoints.specs.declared.nodes.SlotRow.{SlotRow}
use Rattle.ebs_checkpoints.specs.declared.snapshots.SnapPoint.{SnapPoint}
use Rattle.ebs_checkpoints.specs.declared.checkpoint.Checkpoint.{Checkpoint}
use Rattle.ebs_row_rules.specs.Numbers.{has}
use Rattle.ebs_row_rules.specs.Slots.{entry_blocks, stamps, keys, blocks_of, has_stamps, has_stored_entries, has_numbers, has_stored_copies, has_slots}
use Rattle.ebs_row_rules.specs.Stamps.{have_one_digest}
use Rattle.ebs_row_rules.specs.Limits.{is_account_within, is_snapshot_within, is_volume_within, is_policy_within, is_node_within, is_timeout_of, is_rule_within, is_rule_lock, has_moments, has_ends, is_told_within, has_copy_index}
use Rattle.ebs_records.specs.Records.{is_moment, is_index}
use Rattle.ebs_model.specs.Quotas.{most_changes}
use Rattle.ebs_node_rules.specs.Arrays.{row_array, arrays_of, array_in, with_copies}
use Rattle.ebs_node_rules.specs.States.{fits_state, status_of, is_none_of, has_puts_by, has_node_by, is_ahead, is_plain, is_standard, is_upload_or_done}
use Rattle.ebs_checkpoints.specs.declared.nodes.NodeRow.{NodeRow}
use Rattle.ebs_checkpoints.specs.declared.owned.AccountRow.{AccountRow}
use Rattle.ebs_model.specs.declared.keys.Moment.{Moment}
use Rattle.ebs_model.specs.declared.rules.Rule.{Rule}
use Rattle.ebs_model.specs.Rules.{Book}
use Rattle.ebs_model.specs.inner.Rules.{KeepsDays}
use Rattle.ebs_recovery.proofs.RowsKept.{HaveTimeouts, HasTimes}
use Rattle.ebs_checkpoint_rules.specs.Rules.{HasRules}
use Rattle.ebs_recovery.specs.inner.Bases.{kept_block, kept_array, snapshot_of, snaps_of, machine_of}
use Rattle.ebs_recovery.specs.Bases.{row_of, slots_of, books_of, book_of, has_book}

both_of : (a b : Bool) → (a && b) ≡ true → (a ≡ true) × (b ≡ true)
both_of true true e = (refl, refl)
both_of true false e = absurd (cc)
both_of false b e = absurd (cc)

some_is : {A : Type 0} (x y : A) → Some x ≡ Some y → x ≡ y
some_is x y e = cc

-- what is found in a list that is made of points is made of one of them
pub record FoundIn {P K X : Type 0} (R : K → K → Ordering) (key : P → K) (f : P → X) (ps : List P) (q : K) (x : X) : Type 0 where
  pub point : P
  pub is : x ≡ f point
  pub at : eq_by_cmp R q (key point) ≡ true
  pub each : (test : P → Bool) → list_all test ps ≡ true → test point ≡ true

pub found_in : {P K X : Type 0} (R : K → K → Ordering) (key : P → K) (f : P → X) (ps : List P) (q : K) (x : X) → find R q (map (λ p. (key p, f p)) ps) ≡ Some x → FoundIn R key f ps q x
found_in R key f [] q x e = absurd (cc)
found_in R key f (p ∷ ps) q x e = by (λ h. found_in R key f ps q x h) (eq_by_cmp R q (key p)) refl e
  where
    by : (find R q (map (λ p. (key p, f p)) ps) ≡ Some x → FoundIn R key f ps q x) → (b : Bool) → eq_by_cmp R q (key p) ≡ b → cond b (Some (f p)) (find R q (map (λ p. (key p, f p)) ps)) ≡ Some x
        → FoundIn R key f (p ∷ ps) q x
    by ih true t h = record { point = p; is = sym (some_is (f p) x h); at = t; each = λ test all. (both_of (test p) (list_all test ps) all).0 }
    by ih false t h = let r = ih h in record { point = r.point; is = r.is; at = r.at; each = λ test all. r.each test (both_of (test p) (list_all test ps) all).1 }

-- ---- stamps

has_all : (test : ℕ → Bool) (ns : List ℕ) (n : ℕ) → list_all test ns ≡ true → has ns n ≡ true → test n ≡ true
has_all test [] n all there = absurd (cc)
has_all test (m ∷ ns) n all there = by (has_all test ns n (both_of (test m) (list_all test ns) all).1) (m == n) refl there
  where
    by : (has ns n ≡ true → test n ≡ true) → (b : Bool) → (m == n) ≡ b → (b || has ns n) ≡ true → test n ≡ true
    by ih true e h = subst (λ (k : ℕ). test k ≡ true) (eqb-true m n e) (both_of (test m) (list_all test ns) all).0
    by ih false e h = ih h

keys-map : (rows : List SlotRow) (test : ℕ → Bool) → list_all test (keys rows) ≡ true → list_all (λ (r : SlotRow). test r.key) rows ≡ true
keys-map [] test all = refl
keys-map (r ∷ rows) test all = let two = both_of (test r.key) (list_all test (keys rows)) all in rw (two.0, keys-map rows test two.1) refl

front_all : (test : ℕ → Bool) (xs ys : List ℕ) → list_all test (xs ++ ys) ≡ true → list_all test xs ≡ true
front_all test [] ys all = refl
front_all test (x ∷ xs) ys all = let two = both_of (test x) (list_all test (xs ++ ys)) all in rw (two.0, front_all test xs ys two.1) refl

stamps-append : (a b : List _) → stamps (a ++ b) ≡ stamps a ++ stamps b
stamps-append [] b = refl
stamps-append (x ∷ a) b = λ i. x.stamp ∷ stamps-append a b i

module _ (point : Checkpoint) (rules : HasRules point) where
  stamps_fit : has_stamps point ≡ true
  stamps_fit = (both_of (has_stamps point) (has_stored_entries point && (has_numbers point && (has_stored_copies point && has_slots point))) rules.stored).0

  entries_fit : has_stored_entries point ≡ true
  entries_fit = (both_of (has_stored_entries point) (has_numbers point && (has_stored_copies point && has_slots point))
      (both_of (has_stamps point) (has_stored_entries point && (has_numbers point && (has_stored_copies point && has_slots point))) rules.stored).1).0

  has_stamps_all : list_all (λ n. nat_lt n point.next_stamp) (stamps (blocks_of point)) ≡ true
  has_stamps_all =
      (both_of (list_all (λ n. nat_lt n point.next_stamp) (stamps (blocks_of point))) (have_one_digest (blocks_of point))
      (both_of (nat_le point.next_stamp point.accepted) (list_all (λ n. nat_lt n point.next_stamp) (stamps (blocks_of point)) && have_one_digest (blocks_of point)) stamps_fit).1).0

  stored_entries : list_all (has (stamps (entry_blocks point.nodes))) (keys point.standard) ≡ true
  stored_entries = (both_of (list_all (has (keys point.standard)) (stamps (entry_blocks point.nodes))) (list_all (has (stamps (entry_blocks point.nodes))) (keys point.standard)) entries_fit).1

  pub base_stamped : (stamp slot : ℕ) → get (slots_of point.standard) stamp ≡ Some slot → stamp < point.next_stamp
  unfolding slots_of
  base_stamped stamp slot e =
      let r = found_in nat_cmp (λ (r : SlotRow). r.key) (λ (r : SlotRow). r.slot) point.standard stamp slot (sym (get-from_entries nat_cmp_total (map (λ (r : SlotRow). (r.key, r.slot)) point.standard) stamp) ∙ e) in
      let there : has (stamps (entry_blocks point.nodes)) r.point.key ≡ true = r.each (λ row. has (stamps (entry_blocks point.nodes)) row.key) (keys-map point.standard (has (stamps (entry_blocks point.nodes))) stored_entries) in
      let all : list_all (λ n. nat_lt n point.next_stamp) (stamps (entry_blocks point.nodes)) ≡ true = front_all (λ n. nat_lt n point.next_stamp) _ _ (subst (λ (l : List ℕ). list_all (λ n. nat_lt n point.next_stamp) l ≡ true) (stamps-append _ _) has_stamps_all) in
      let same : stamp ≡ r.point.key = is_same fin.nat_cmp-IsAntisymmetric stamp r.point.key r.at in
      subst (λ (n : ℕ). n < point.next_stamp) (sym same) (ltb-true r.point.key point.next_stamp (has_all (λ n. nat_lt n point.next_stamp) (stamps (entry_blocks point.nodes)) r.point.key all there))

-- ---- rows at rest

none_of : {X : Type 0} (xs : List X) → is_none_of xs ≡ true → xs ≡ []
none_of [] e = refl
none_of (x ∷ xs) e = absurd (cc)

nothing : {X : Type 0} (o : Option X) → not (is_some o) ≡ true → o ≡ None
nothing None e = refl
nothing (Some x) e = absurd (cc)

-- an array without digests has no blocks
pub no_array : (a : WholeArray) → map_values digested_block a ≡ fin.empty → a ≡ fin.empty
no_array a none = fin.same_map nat_cmp_total fin.nat_cmp-IsAntisymmetric a fin.empty (λ i. by i (get a i) refl)
  where
    never : {X : Type 0} (x : X) → Some x ≡ None → ⊥
    never x e = cc

    by : (i : ℕ) (o : Option WholeBlock) → get a i ≡ o → get a i ≡ get (fin.empty {X = WholeBlock} {R = nat_cmp}) i
    by i None e = e ∙ sym (fin.get-empty {X = WholeBlock} nat_cmp i)
    by i (Some b) e = absurd (never (digested_block b) (sym (get-map_values nat_cmp_total digested_block a i ∙ ap (option_map digested_block) e) ∙ ap (λ (m : WholeArray). get m i) none ∙ fin.get-empty {X = WholeBlock} nat_cmp i))

no_puts_by : (p : SnapPoint) (status : RowStatus) → has_puts_by status p ≡ true → is_failed status ≡ true → p.put ≡ []
no_puts_by p Pending h failed = absurd (cc)
no_puts_by p Completed h failed = absurd (cc)
no_puts_by p Failed h failed = none_of p.put h

no_node_by : (p : SnapPoint) (nodes : List NodeRow) (status : RowStatus) → has_node_by status nodes p ≡ true → is_failed status ≡ true → p.node ≡ None
no_node_by p nodes Pending h failed = absurd (cc)
no_node_by p nodes Completed h failed = absurd (cc)
no_node_by p nodes Failed h failed = nothing p.node h

no_copies_by : (p : SnapPoint) (late completed : Bool) → p.completed ≡ completed → is_failed (status_by completed late) ≡ true → is_plain p ≡ true → p.copies ≡ []
no_copies_by p late true is failed h = absurd (cc)
no_copies_by p late false is failed h =
    let plain : (not (is_some p.bin_end) && (is_none_of p.copies && is_standard p.tier)) ≡ true = subst (λ (b : Bool). (b || (not (is_some p.bin_end) && (is_none_of p.copies && is_standard p.tier))) ≡ true) is h in
    none_of p.copies (both_of _ _ (both_of _ _ plain).1).0

-- each of the tests that a snapshot's state asks for
module _ (now : ℕ) (point : Checkpoint) (p : SnapPoint) (fits : fits_state now point.nodes p ≡ true) where
  fits_node : has_node_by (status_of p now) point.nodes p ≡ true
  fits_node = (both_of (has_node_by (status_of p now) point.nodes p) (is_ahead p.bin_end now && (is_plain p && (is_upload_or_done p && has_puts_by (status_of p now) p))) fits).0

  fits_rest : (is_ahead p.bin_end now && (is_plain p && (is_upload_or_done p && has_puts_by (status_of p now) p))) ≡ true
  fits_rest = (both_of (has_node_by (status_of p now) point.nodes p) (is_ahead p.bin_end now && (is_plain p && (is_upload_or_done p && has_puts_by (status_of p now) p))) fits).1

  fits_end : is_ahead p.bin_end now ≡ true
  fits_end = (both_of (is_ahead p.bin_end now) (is_plain p && (is_upload_or_done p && has_puts_by (status_of p now) p)) fits_rest).0

  fits_last : (is_plain p && (is_upload_or_done p && has_puts_by (status_of p now) p)) ≡ true
  fits_last = (both_of (is_ahead p.bin_end now) (is_plain p && (is_upload_or_done p && has_puts_by (status_of p now) p)) fits_rest).1

  fits_plain : is_plain p ≡ true
  fits_plain = (both_of (is_plain p) (is_upload_or_done p && has_puts_by (status_of p now) p) fits_last).0

  fits_done : (is_upload_or_done p && has_puts_by (status_of p now) p) ≡ true
  fits_done = (both_of (is_plain p) (is_upload_or_done p && has_puts_by (status_of p now) p) fits_last).1

  pub is_done : is_upload_or_done p ≡ true
  is_done = (both_of (is_upload_or_done p) (has_puts_by (status_of p now) p) fits_done).0

  fits_puts : has_puts_by (status_of p now) p ≡ true
  fits_puts = (both_of (is_upload_or_done p) (has_puts_by (status_of p now) p) fits_done).1

  -- what has failed has no puts, no node and no copies
  no_blocks_there : is_failed (status_of p now) ≡ true → row_array (arrays_of point.nodes) p ≡ fin.empty
  no_blocks_there failed =
      let node = no_node_by p point.nodes (status_of p now) fits_node failed in
      let copies = no_copies_by p (nat_le (p.last.second + 60 * p.timeout) now) p.completed refl failed fits_plain in
      (λ i. with_copies (array_in (arrays_of point.nodes) (node i)) (copies i))

  module _ (array : WholeArray) (kept : map_values digested_block array ≡ kept_array (row_array (arrays_of point.nodes) p)) where
    abbrev made : Snapshot
    made = record { row = row_of p; array = array }

    put_at : (b : Bool) → is_failed (status_of p now) ≡ b → cond b fin.empty (row_of p).put ≡ (row_of p).put
    put_at true failed = ap (λ (l : List ℕ). from_entries {R = nat_cmp} (map (λ i. (i, tt)) l)) (sym (no_puts_by p (status_of p now) fits_puts failed))
    put_at false failed = refl

    array_at_rest : (b : Bool) → is_failed (status_of p now) ≡ b → cond b fin.empty array ≡ array
    array_at_rest true failed = sym (no_array array (kept ∙ ap kept_array (no_blocks_there failed) ∙ map_values-empty nat_cmp_total kept_block fin.nat_cmp-IsAntisymmetric))
    array_at_rest false failed = refl

    pub point_rests : aged_row now (Some (record { row = row_of p; array = array })) ≡ Some (record { row = row_of p; array = array })
    point_rests = ap (λ (b : Bool). option_map (rested now) (cond b (Some made) None)) fits_end
        ∙ (λ i. Some (record { row = record (row_of p) { put = put_at (is_failed (status_of p now)) refl i }; array = array_at_rest (is_failed (status_of p now)) refl i }))

-- ---- a base at rest

filter_all : {X : Type 0} (test keep : X → Bool) (xs : List X) → list_all test xs ≡ true → list_all test (filter keep xs) ≡ true
filter_all test keep [] all = refl
filter_all test keep (x ∷ xs) all = by (keep x) (filter_all test keep xs (both_of (test x) (list_all test xs) all).1)
  where
    by : (b : Bool) → list_all test (filter keep xs) ≡ true → list_all test (cond b (x ∷ filter keep xs) (filter keep xs)) ≡ true
    by true rest = rw ((both_of (test x) (list_all test xs) all).0, rest) refl
    by false rest = rest

minutes_of : (p : SnapPoint) → is_snapshot_within p ≡ true → is_timeout_of p.volume p.timeout ≡ true
minutes_of p inside =
    let rest = (both_of (is_size p.size) (has_moments p && (has_ends p && (is_told_within p && (list_all is_index p.put && list_all has_copy_index p.copies)))) inside).1 in
    let moments = (both_of (has_moments p) (has_ends p && (is_told_within p && (list_all is_index p.put && list_all has_copy_index p.copies))) rest).0 in
    let last = (both_of (is_moment p.start) (is_moment p.last && is_timeout_of p.volume p.timeout) moments).1 in
    (both_of (is_moment p.last) (is_timeout_of p.volume p.timeout) last).1

days_of : (r : Rule) → is_rule_within r ≡ true → nat_le 1 r.days ≡ true
days_of r inside =
    let days = (both_of (is_retention r.days) (are_rule_tags r.tags && (is_description r.description && is_rule_lock r.lock)) inside).0 in
    (both_of (nat_le 1 r.days) (nat_le r.days 365) days).0

module _ (point : Checkpoint) (rules : HasRules point) where
  snap_found : (key : SnapKey) (s : Snapshot) → get (snaps_of point) key ≡ Some s → FoundIn snap_cmp (λ (p : SnapPoint). p.key) (snapshot_of (arrays_of point.nodes)) point.snapshots key s
  unfolding snaps_of
  snap_found key s e = found_in snap_cmp (λ (p : SnapPoint). p.key) (snapshot_of (arrays_of point.nodes)) point.snapshots key s (sym (get-from_entries snaps_total (map (λ (p : SnapPoint). (p.key, snapshot_of (arrays_of point.nodes) p)) point.snapshots) key) ∙ e)

  pub within_0 : is_moment point.clock ≡ true
  within_0 = (both_of (is_moment point.clock) (nat_le point.accepted most_changes && (list_all is_account_within point.accounts && (list_all is_snapshot_within point.snapshots && (list_all is_volume_within point.volumes && (list_all is_rule_within point.rules && (list_all is_policy_within point.policies && list_all is_node_within point.nodes)))))) rules.within).0

  behind_0 : (nat_le point.accepted most_changes && (list_all is_account_within point.accounts && (list_all is_snapshot_within point.snapshots && (list_all is_volume_within point.volumes && (list_all is_rule_within point.rules && (list_all is_policy_within point.policies && list_all is_node_within point.nodes)))))) ≡ true
  behind_0 = (both_of (is_moment point.clock) (nat_le point.accepted most_changes && (list_all is_account_within point.accounts && (list_all is_snapshot_within point.snapshots && (list_all is_volume_within point.volumes && (list_all is_rule_within point.rules && (list_all is_policy_within point.policies && list_all is_node_within point.nodes)))))) rules.within).1

  within_1 : nat_le point.accepted most_changes ≡ true
  within_1 = (both_of (nat_le point.accepted most_changes) (list_all is_account_within point.accounts && (list_all is_snapshot_within point.snapshots && (list_all is_volume_within point.volumes && (list_all is_rule_within point.rules && (list_all is_policy_within point.policies && list_all is_node_within point.nodes))))) behind_0).0

  behind_1 : (list_all is_account_within point.accounts && (list_all is_snapshot_within point.snapshots && (list_all is_volume_within point.volumes && (list_all is_rule_within point.rules && (list_all is_policy_within point.policies && list_all is_node_within point.nodes))))) ≡ true
  behind_1 = (both_of (nat_le point.accepted most_changes) (list_all is_account_within point.accounts && (list_all is_snapshot_within point.snapshots && (list_all is_volume_within point.volumes && (list_all is_rule_within point.rules && (list_all is_policy_within point.policies && list_all is_node_within point.nodes))))) behind_0).1

  within_2 : list_all is_account_within point.accounts ≡ true
  within_2 = (both_of (list_all is_account_within point.accounts) (list_all is_snapshot_within point.snapshots && (list_all is_volume_within point.volumes && (list_all is_rule_within point.rules && (list_all is_policy_within point.policies && list_all is_node_within point.nodes)))) behind_1).0

  behind_2 : (list_all is_snapshot_within point.snapshots && (list_all is_volume_within point.volumes && (list_all is_rule_within point.rules && (list_all is_policy_within point.policies && list_all is_node_within point.nodes)))) ≡ true
  behind_2 = (both_of (list_all is_account_within point.accounts) (list_all is_snapshot_within point.snapshots && (list_all is_volume_within point.volumes && (list_all is_rule_within point.rules && (list_all is_policy_within point.policies && list_all is_node_within point.nodes)))) behind_1).1

  within_3 : list_all is_snapshot_within point.snapshots ≡ true
  within_3 = (both_of (list_all is_snapshot_within point.snapshots) (list_all is_volume_within point.volumes && (list_all is_rule_within point.rules && (list_all is_policy_within point.policies && list_all is_node_within point.nodes))) behind_2).0

  behind_3 : (list_all is_volume_within point.volumes && (list_all is_rule_within point.rules && (list_all is_policy_within point.policies && list_all is_node_within point.nodes))) ≡ true
  behind_3 = (both_of (list_all is_snapshot_within point.snapshots) (list_all is_volume_within point.volumes && (list_all is_rule_within point.rules && (list_all is_policy_within point.policies && list_all is_node_within point.nodes))) behind_2).1

  within_4 : list_all is_volume_within point.volumes ≡ true
  within_4 = (both_of (list_all is_volume_within point.volumes) (list_all is_rule_within point.rules && (list_all is_policy_within point.policies && list_all is_node_within point.nodes)) behind_3).0

  behind_4 : (list_all is_rule_within point.rules && (list_all is_policy_within point.policies && list_all is_node_within point.nodes)) ≡ true
  behind_4 = (both_of (list_all is_volume_within point.volumes) (list_all is_rule_within point.rules && (list_all is_policy_within point.policies && list_all is_node_within point.nodes)) behind_3).1

  within_5 : list_all is_rule_within point.rules ≡ true
  within_5 = (both_of (list_all is_rule_within point.rules) (list_all is_policy_within point.policies && list_all is_node_within point.nodes) behind_4).0

  behind_5 : (list_all is_policy_within point.policies && list_all is_node_within point.nodes) ≡ true
  behind_5 = (both_of (list_all is_rule_within point.rules) (list_all is_policy_within point.policies && list_all is_node_within point.nodes) behind_4).1

  timeout_by : (p : SnapPoint) (volume : Option VolKey) → p.volume ≡ volume → is_timeout_of volume p.timeout ≡ true → p.completed ≡ false → is_upload_or_done p ≡ true → 1 ≤ p.timeout
  timeout_by p None is minutes pending done = let ten : 10 ≤ p.timeout = leb-true 10 p.timeout (both_of (nat_le 10 p.timeout) (nat_le p.timeout 4320) minutes).0 in omega (arith, ten)
  timeout_by p (Some v) is minutes pending done = let no : (false || not true) ≡ true = subst (λ (b : Bool). (b || not true) ≡ true) pending (subst (λ (o : Option VolKey). (p.completed || not (is_some o)) ≡ true) is done) in absurd (cc)

  book_found : (account : ℕ) (b : Book) → get (books_of point) account ≡ Some b → FoundIn nat_cmp (λ (a : AccountRow). a.account) (book_of point.rules) (filter has_book point.accounts) account b
  unfolding books_of
  book_found account b e = found_in nat_cmp (λ (a : AccountRow). a.account) (book_of point.rules) (filter has_book point.accounts) account b (sym (get-from_entries nat_cmp_total (map (λ (a : AccountRow). (a.account, book_of point.rules a)) (filter has_book point.accounts)) account) ∙ e)

  rule_found : (a : AccountRow) (number : ℕ) (rule : Rule) → get (book_of point.rules a).rules number ≡ Some rule
      → FoundIn nat_cmp (λ (r : Rule). r.key.number) (λ (r : Rule). r) (filter (λ (r : Rule). r.key.account == a.account) point.rules) number rule
  rule_found a number rule e = found_in nat_cmp (λ (r : Rule). r.key.number) (λ (r : Rule). r) (filter (λ (r : Rule). r.key.account == a.account) point.rules) number rule
      (sym (get-from_entries nat_cmp_total (map (λ (r : Rule). (r.key.number, r)) (filter (λ (r : Rule). r.key.account == a.account) point.rules)) number) ∙ e)

  module _ (base : Machine) (kept : digested base ≡ machine_of point) where
    digest_found : (key : SnapKey) (s : Snapshot) → get base.snaps key ≡ Some s → get (snaps_of point) key ≡ Some (digested_snapshot s)
    digest_found key s e = ap (λ (m : Machine). get m.snaps key) (sym kept) ∙ get-map_values snaps_total digested_snapshot base.snaps key ∙ ap (option_map digested_snapshot) e

    one_rests : (key : SnapKey) (o : Option Snapshot) → get base.snaps key ≡ o → aged_row base.clock.second o ≡ o
    one_rests key None e = refl
    one_rests key (Some s) e =
        let r = snap_found key (digested_snapshot s) (digest_found key s e) in
        let fits : fits_state point.clock.second point.nodes r.point ≡ true = r.each (fits_state point.clock.second point.nodes) rules.states in
        let clock : base.clock ≡ point.clock = ap (λ (m : Machine). m.clock) kept in
        let row : s.row ≡ row_of r.point = ap (λ (x : Snapshot). x.row) r.is in
        subst (λ (n : ℕ). aged_row n (Some s) ≡ Some s) (ap (λ (c : Moment). c.second) (sym clock))
        (subst (λ (x : SnapRow). aged_row point.clock.second (Some (record { row = x; array = s.array })) ≡ Some (record { row = x; array = s.array })) (sym row)
        (point_rests point.clock.second point r.point fits s.array (ap (λ (x : Snapshot). x.array) r.is)))

    pub base_rests : aged_rows base.clock.second base.snaps ≡ base.snaps
    base_rests = same_snaps _ _ (λ q. get-aged base.clock.second base.snaps q ∙ one_rests q (get base.snaps q) refl)

    row_found : (o : Option Snapshot) (row : SnapRow) → row_in o ≡ Some row → (s : Snapshot) × (o ≡ Some s) × (s.row ≡ row)
    row_found None row e = absurd (cc)
    row_found (Some s) row e = (s, refl, some_is s.row row e)

    timeouts : HaveTimeouts (snap_rows base.snaps)
    timeouts key row e pending =
        let f = row_found (get base.snaps key) row (sym (get-row base.snaps key) ∙ e) in
        let r = snap_found key (digested_snapshot f.0) (digest_found key f.0 f.1) in
        let is : row ≡ row_of r.point = sym f.2 ∙ ap (λ (x : Snapshot). x.row) r.is in
        let inside : is_snapshot_within r.point ≡ true = r.each is_snapshot_within within_3 in
        let minutes : is_timeout_of r.point.volume r.point.timeout ≡ true = minutes_of r.point inside in
        subst (λ (x : SnapRow). 1 ≤ x.timeout) (sym is) (timeout_by r.point r.point.volume refl minutes (ap (λ (x : SnapRow). x.completed) (sym is) ∙ pending) (is_done point.clock.second point r.point (r.each (fits_state point.clock.second point.nodes) rules.states)))

    days : KeepsDays base.books
    days account b there number rule e =
        let books : get (books_of point) account ≡ Some b = ap (λ (m : Machine). get m.books account) (sym kept) ∙ there in
        let a = book_found account b books in
        let rule_there : get (book_of point.rules a.point).rules number ≡ Some rule = ap (λ (x : Book). get x.rules number) (sym a.is) ∙ e in
        let r = rule_found a.point number rule rule_there in
        let inside : is_rule_within r.point ≡ true = r.each is_rule_within (filter_all is_rule_within (λ (x : Rule). x.key.account == a.point.account) point.rules within_5) in
        let one : 1 ≤ r.point.days = leb-true 1 r.point.days (days_of r.point inside) in
        subst (λ (x : Rule). 1 ≤ x.days) (sym r.is) one

    pub base_times : HasTimes (rows_of base)
    base_times = record { timeouts = timeouts; days = days }
