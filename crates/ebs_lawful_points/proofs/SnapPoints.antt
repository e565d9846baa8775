-- The rows of snapshots that a checkpoint says are within their limits.
use Rattle.std.proofs.Common.{◌≡◌, ℕ, ◌*◌, ◌+◌, ◌^◌, ◌<◌, ◌≤◌, arith, Bool, true, false, not, ◌||◌, ◌==◌, List, [], ◌∷◌, length, map, Option, Some, None, is_some, refl, sym, ap, subst, ◌∙◌}
use Rattle.std.specs.Prelude.{nat_le, nat_lt}
use Rattle.std.proofs.lemmas.Bool.Decides.{nat_tests}
use Rattle.std.specs.declared.cmp.Ordering.{Ordering}
use Rattle.std.specs.declared.cmp.Ordering.TheVariants.{Less, Equal, Greater}
use Rattle.std.specs.List.{list_all, list_any}
use Rattle.std.specs.Ordering.{nat_cmp, is_lt, eq_by_cmp, MatchOrdering}
use Rattle.std.specs.Cmp.{nat_cmp_total, ranks}
use Rattle.std.specs.FinMap.{nat_cmp-IsAntisymmetric, get, contains_key, keys, empty, from_entries, get-from_entries, contains_key-keys}
use Rattle.ebs_tables.proofs.MapEdits.{is_same}
use Rattle.ebs_model.specs.declared.keys.Moment.{Moment}
use Rattle.ebs_model.specs.declared.keys.SnapKey.{SnapKey}
use Rattle.ebs_model.specs.declared.keys.VolKey.{VolKey}
use Rattle.ebs_model.specs.declared.rows.SnapRow.{SnapRow}
use Rattle.ebs_model.specs.declared.rows.LockState.{LockState}
use Rattle.ebs_model.specs.declared.rows.LockState.TheVariants as lock
use Rattle.ebs_model.specs.declared.rows.Tier.{Tier}
use Rattle.ebs_model.specs.declared.rows.Tier.TheVariants.{Standard, Archived, Temporary}
use Rattle.ebs_model.specs.Keys.{snap_cmp}
use Rattle.ebs_model.specs.inner.Orders.{snaps_total, exact_snaps}
use Rattle.ebs_model.specs.Limits.{is_size, is_timeout, is_description, are_tags, is_below}
use Rattle.ebs_model.specs.Limits as limits
use Rattle.ebs_model.specs.Quotas.{last_second, most_shared}
use Rattle.ebs_model.specs.Quotas as quotas
use Rattle.ebs_model.specs.Time.{Snapshot, status_by, is_pending}
use Rattle.ebs_model.specs.Machine.{rows_of, snap_rows}
use Rattle.ebs_model.proofs.RowLaws.{get-row, row_in}
use Rattle.ebs_records.specs.Records.{is_moment, is_index}
use Rattle.ebs_checkpoints.specs.declared.nodes.CopyRow.{CopyRow}
use Rattle.ebs_checkpoints.specs.declared.snapshots.SnapPoint.{SnapPoint}
use Rattle.ebs_checkpoints.specs.declared.checkpoint.Checkpoint.{Checkpoint}
use Rattle.ebs_row_rules.specs.Order.{has_ordered_parts}
use Rattle.ebs_row_rules.specs.Order as steps
use Rattle.ebs_row_rules.specs.Limits.{is_end, is_end_given, has_lock_end, has_restore_end, is_timeout_of, has_moments, has_ends, is_told_within, has_copy_index, is_snapshot_within}
use Rattle.ebs_node_rules.specs.Arrays.{Array, Arrays, arrays_of, row_array, all_keys, is_within, fits_array, copies_agree, gives_up, puts_are_in}
use Rattle.ebs_node_rules.specs.States.{is_none_of, is_standard, status_of, has_node_by, is_ahead, is_plain, is_upload_or_done, has_puts_by, fits_state}
use Rattle.ebs_checkpoint_rules.specs.Rules.{HasRules}
use Rattle.ebs_recovery.specs.inner.Bases.{snapshot_of, snaps_of, machine_of}
use Rattle.ebs_recovery.specs.Bases.{row_of}
use Rattle.ebs_recovery.proofs.Bases.{FoundIn, found_in}
use Rattle.ebs_lawful.specs.Ends.{IsMoment, IsEnd}
use Rattle.ebs_lawful.specs.Snapshots.{EndsLock, EndsRestore, EndsStay, IsTimeoutOf, IsUpload, IsSnapRow, AreSnapRows}
use Rattle.ebs_lawful_points.proofs.Parts.{two, three, four, five, six}
use Rattle.ebs_lawful_points.proofs.Taken.{within, arrays-fit, parts-ordered}

-- ---- numbers and ends

pub no_more : (a b : ℕ) → nat_le a b ≡ true → a ≤ b
no_more a b e = grind (arith, nat_tests)

pub less : (a b : ℕ) → nat_lt a b ≡ true → a < b
less a b e = grind (arith, nat_tests)

pub same : (a b : ℕ) → (a == b) ≡ true → a ≡ b
same a b e = grind (arith, nat_tests)

pub end-of : (at : Moment) → is_end at ≡ true → IsEnd at
end-of at e = no_more at.second (2 ^ 37) e

pub moment-of : (at : Moment) → is_moment at ≡ true → IsMoment at
moment-of at e = no_more at.second (2 ^ 36) e

stay-of : (o : Option Moment) → is_end_given o ≡ true → EndsStay o
stay-of None e = tt
stay-of (Some at) e = end-of at e

lock-of : (l : LockState) → has_lock_end l ≡ true → EndsLock l
lock-of lock.None e = tt
lock-of (lock.Governance until) e = end-of until e
lock-of (lock.Compliance until cool_end) e = let both = two (is_end until) (is_end cool_end) e in (end-of until both.0, end-of cool_end both.1)

restore-of : (t : Tier) → has_restore_end t ≡ true → EndsRestore t
restore-of Standard e = tt
restore-of Archived e = tt
restore-of (Temporary until) e = end-of until e

timeout-of : (volume : Option VolKey) (minutes : ℕ) → is_timeout_of volume minutes ≡ true → IsTimeoutOf volume minutes
timeout-of None minutes e = e
timeout-of (Some volume) minutes e = same minutes 0 e

-- ---- accounts that ascend

before : (a b : ℕ) → is_lt (nat_cmp a b) ≡ true → nat_lt a b ≡ true
before a b h = tested a b (by (nat_cmp a b) (ranks a b) h)
  where
    tested : (a b : ℕ) → a < b → nat_lt a b ≡ true
    tested a b l = grind (arith, nat_tests)

    by : (r : Ordering) → MatchOrdering r (a < b) (a ≡ b) (b < a) → is_lt r ≡ true → a < b
    by Less m h = m
    by Equal m h = absurd (cc)
    by Greater m h = absurd (cc)

ascending : (accounts : List ℕ) → steps.ascends nat_cmp (λ (n : ℕ). n) accounts ≡ true → limits.rises accounts ≡ true
ascending [] h = refl
ascending (a ∷ []) h = refl
ascending (a ∷ b ∷ accounts) h =
    let both = two (is_lt (nat_cmp a b)) (steps.ascends nat_cmp (λ (n : ℕ). n) (b ∷ accounts)) h in
    rw (before a b both.0, ascending (b ∷ accounts) both.1) refl

-- ---- what was put

listed-test : (test : ℕ → Bool) (ks : List ℕ) (q : ℕ) → list_all test ks ≡ true → list_any (eq_by_cmp nat_cmp q) ks ≡ true → test q ≡ true
listed-test test [] q all there = absurd (cc)
listed-test test (k ∷ ks) q all there = by (eq_by_cmp nat_cmp q k) refl (listed-test test ks q (two (test k) (list_all test ks) all).1) there
  where
    by : (b : Bool) → eq_by_cmp nat_cmp q k ≡ b → (list_any (eq_by_cmp nat_cmp q) ks ≡ true → test q ≡ true) → (b || list_any (eq_by_cmp nat_cmp q) ks) ≡ true → test q ≡ true
    by true is again h = ap test (is_same nat_cmp-IsAntisymmetric q k is) ∙ (two (test k) (list_all test ks) all).0
    by false is again h = again h

pub keys-test : (test : ℕ → Bool) (array : Array) (q : ℕ) → all_keys test array ≡ true → contains_key array q ≡ true → test q ≡ true
keys-test test array q all there = listed-test test (keys array) q all (sym (contains_key-keys array q) ∙ there)

pub put-found : (puts : List ℕ) (test : ℕ → Bool) (index : ℕ) → list_all test puts ≡ true → get (from_entries {X = Unit {0}} {R = nat_cmp} (map (λ i. (i, tt)) puts)) index ≡ Some tt → test index ≡ true
put-found puts test index all e =
    let r = found_in {X = Unit {0}} nat_cmp (λ (i : ℕ). i) (λ (i : ℕ). tt) puts index tt (sym (get-from_entries nat_cmp_total (map {B = ℕ × Unit {0}} (λ (i : ℕ). (i, tt)) puts) index) ∙ e) in
    ap test (is_same nat_cmp-IsAntisymmetric index r.point r.at) ∙ r.each test all

-- ---- the state

none-of : {X : Type 0} (o : Option X) → not (is_some o) ≡ true → o ≡ None
none-of None e = refl
none-of (Some x) e = absurd (cc)

standard-of : (t : Tier) → is_standard t ≡ true → t ≡ Standard
standard-of Standard e = refl
standard-of Archived e = absurd (cc)
standard-of (Temporary until) e = absurd (cc)

empty-of : {X : Type 0} (xs : List X) → is_none_of xs ≡ true → xs ≡ []
empty-of [] e = refl
empty-of (x ∷ xs) e = absurd (cc)

-- where the first doesn't hold
second : (a b : Bool) → a ≡ false → (a || b) ≡ true → b ≡ true
second true b is e = absurd (cc)
second false b is e = e

module _ (point : Checkpoint) (p : SnapPoint) (inside : is_snapshot_within p ≡ true) (ordered : has_ordered_parts p ≡ true) (state : fits_state point.clock.second point.nodes p ≡ true)
    (array : fits_array point.nodes (arrays_of point.nodes) p ≡ true) where
  abbrev now : ℕ
  now = point.clock.second

  limits-of : (is_size p.size ≡ true) × (has_moments p ≡ true) × (has_ends p ≡ true) × (is_told_within p ≡ true) × (list_all is_index p.put ≡ true) × (list_all has_copy_index p.copies ≡ true)
  limits-of = six (is_size p.size) (has_moments p) (has_ends p) (is_told_within p) (list_all is_index p.put) (list_all has_copy_index p.copies) inside

  states-of : (has_node_by (status_of p now) point.nodes p ≡ true) × (is_ahead p.bin_end now ≡ true) × (is_plain p ≡ true) × (is_upload_or_done p ≡ true) × (has_puts_by (status_of p now) p ≡ true)
  states-of = five (has_node_by (status_of p now) point.nodes p) (is_ahead p.bin_end now) (is_plain p) (is_upload_or_done p) (has_puts_by (status_of p now) p) state

  arrays : Arrays
  arrays = arrays_of point.nodes

  puts-fit : (index : ℕ) → get (row_of p).put index ≡ Some tt → index < quotas.blocks_of p.size
  puts-fit index e =
      let all = four (is_within p.size (row_array (arrays_of point.nodes) p)) (copies_agree point.nodes (arrays_of point.nodes) p) (gives_up (arrays_of point.nodes) p) (puts_are_in (arrays_of point.nodes) p) array in
      let there = put-found p.put (contains_key (row_array (arrays_of point.nodes) p)) index all.3 e in
      less index (quotas.blocks_of p.size) (keys-test (λ i. nat_lt i (quotas.blocks_of p.size)) (row_array (arrays_of point.nodes) p) index all.0 there)

  upload-of : p.completed ≡ false → IsUpload (row_of p)
  upload-of pending =
      let plain = three (not (is_some p.bin_end)) (is_none_of p.copies) (is_standard p.tier) (second p.completed _ pending states-of.2) in
      record { volume = none-of p.volume (second p.completed _ pending states-of.3); bin_end = none-of p.bin_end plain.0; tier = standard-of p.tier plain.2 }

  done-of : p.completed ≡ true → (row_of p).put ≡ empty
  done-of done = ap (λ (l : List ℕ). from_entries {R = nat_cmp} (map (λ i. (i, tt)) l)) (empty-of p.put (subst (λ (c : Bool). (is_pending (status_by c (nat_le (p.last.second + 60 * p.timeout) now)) || is_none_of p.put) ≡ true) done states-of.4))

  row-fits : IsSnapRow p.key (row_of p)
  row-fits =
      let moments = three (is_moment p.start) (is_moment p.last) (is_timeout_of p.volume p.timeout) limits-of.1 in
      let ends = three (has_lock_end p.lock) (has_restore_end p.tier) (is_end_given p.bin_end) limits-of.2 in
      let told = three (is_description p.description) (are_tags p.tags) (nat_le (length p.shared) most_shared) limits-of.3 in
      let lists = three (steps.ascends nat_cmp (λ n. n) p.put) (steps.ascends nat_cmp (λ n. n) p.shared) (steps.ascends nat_cmp (λ (c : CopyRow). c.index) p.copies) ordered in
      record {
        place = refl;
        size = limits-of.0;
        start = moment-of p.start moments.0;
        last = moment-of p.last moments.1;
        timeout = timeout-of p.volume p.timeout moments.2;
        description = told.0;
        tags = told.1;
        shared = record { few = no_more (length p.shared) most_shared told.2; ascend = ascending p.shared lists.1 };
        lock = lock-of p.lock ends.0;
        tier = restore-of p.tier ends.1;
        bin_end = stay-of p.bin_end ends.2;
        put = puts-fit;
        upload = upload-of;
        completed = done-of;
      }

-- ---- all of them

some_is : {A : Type 0} (x y : A) → Some x ≡ Some y → x ≡ y
some_is x y e = cc

module _ (point : Checkpoint) where
  pub of-snap : (key : SnapKey) (s : Snapshot) → get (snaps_of point) key ≡ Some s → FoundIn snap_cmp (λ (p : SnapPoint). p.key) (snapshot_of (arrays_of point.nodes)) point.snapshots key s
  unfolding snaps_of
  of-snap key s e = found_in snap_cmp (λ (p : SnapPoint). p.key) (snapshot_of (arrays_of point.nodes)) point.snapshots key s (sym (get-from_entries snaps_total (map (λ (p : SnapPoint). (p.key, snapshot_of (arrays_of point.nodes) p)) point.snapshots) key) ∙ e)

  -- a row that is found is made of one of the list
  pub row-found : (key : SnapKey) (row : SnapRow) → get (snap_rows (snaps_of point)) key ≡ Some row → FoundIn snap_cmp (λ (p : SnapPoint). p.key) row_of point.snapshots key row
  row-found key row e = at (get (snaps_of point) key) refl (sym (get-row (snaps_of point) key) ∙ e)
    where
      at : (o : Option Snapshot) → get (snaps_of point) key ≡ o → row_in o ≡ Some row → FoundIn snap_cmp (λ (p : SnapPoint). p.key) row_of point.snapshots key row
      at None is e = absurd (cc)
      at (Some s) is e = let r = of-snap key s is in record { point = r.point; is = sym (some_is s.row row e) ∙ ap (λ (x : Snapshot). x.row) r.is; at = r.at; each = r.each }

pub snaps-fit : (point : Checkpoint) → HasRules point → AreSnapRows (rows_of (machine_of point))
snaps-fit point rules key row e =
    let r = row-found point key row e in
    let p = r.point in
    let inside = within point rules in
    let fits = row-fits point p (r.each is_snapshot_within inside.snapshots) (r.each has_ordered_parts (parts-ordered point rules)) (r.each (fits_state point.clock.second point.nodes) rules.states)
    (r.each (fits_array point.nodes (arrays_of point.nodes)) (arrays-fit point rules).0) in
    subst (λ (k : SnapKey). IsSnapRow k row) (sym (is_same exact_snaps key p.key r.at)) (subst (IsSnapRow p.key) (sym r.is) fits)
