-- The states of a machine's rows at rest, as the rules of a checkpoint want them.
use Rattle.std.proofs.Common.{◌≡◌, ℕ, ◌+◌, ◌*◌, Bool, true, false, cond, not, ◌&&◌, ◌||◌, List, [], ◌∷◌, map, Option, Some, is_some, refl, sym, ap, subst, ◌∙◌}
use Rattle.std.specs.Prelude.{nat_le}
use Rattle.std.specs.List.{AllByRecursion}
use Rattle.std.specs.Ordering.{nat_cmp}
use Rattle.std.specs.Cmp.{nat_cmp_total}
use Rattle.std.specs.FinMap.{FinMap, get, empty, from_entries, get-empty}
use Rattle.ebs_model.specs.declared.keys.Moment.{Moment}
use Rattle.ebs_model.specs.declared.rows.SnapRow.{SnapRow}
use Rattle.ebs_model.specs.Keys.{snap_cmp}
use Rattle.ebs_model.specs.Time.{Snapshot, is_failed, is_pending, status_by}
use Rattle.ebs_model.specs.Machine.{Machine, aged_rows}
use Rattle.ebs_model.proofs.Aged.{get-aged, aged_row, found-stays, found-rested}
use Rattle.ebs_model.proofs.RowLaws.{get-row, row_in}
use Rattle.ebs_checkpoints.specs.declared.nodes.CopyRow.{CopyRow}
use Rattle.ebs_checkpoints.specs.declared.snapshots.SnapPoint.{SnapPoint}
use Rattle.ebs_checkpoints.specs.declared.checkpoint.Checkpoint.{Checkpoint}
use Rattle.ebs_row_rules.specs.Order.{ascends, is_ordered, has_ordered_parts}
use Rattle.ebs_node_rules.specs.Arrays.{arrays_of}
use Rattle.ebs_node_rules.specs.States.{is_none_of, is_standard, status_of, is_ahead, is_plain, has_puts_by, fits_state}
use Rattle.ebs_recovery.specs.inner.Bases.{snapshot_of, snaps_of, machine_of}
use Rattle.ebs_recovery.specs.Bases.{row_of}
use Rattle.ebs_lawful.specs.Lawful.{IsLawful}
use Rattle.ebs_lawful.specs.Snapshots.{IsSnapRow}
use Rattle.ebs_lawful.proofs.Maps.{none_some}
use Rattle.ebs_lawful_points.proofs.Parts.{three, each-of, all-of, weaker, both}
use Rattle.ebs_lawful_points.proofs.Ordered.{each-found}
use Rattle.ebs_lawful_points.proofs.RowRules.{uploads-done}
use Rattle.ebs_point_rules.specs.Moved.{AreMoved, is_moved_done}
use Rattle.ebs_point_rules.specs.Blocks.{has_node, have_nodes}
use Rattle.ebs_point_rules.specs.Laws.{IsAtRest, StatesFit}
use Rattle.ebs_point_rules.proofs.Rows.{parts-up, snaps-there}

-- a list whose set is empty is
no-puts : (puts : List ℕ) → ascends nat_cmp (λ (i : ℕ). i) puts ≡ true → from_entries {X = Unit {0}} {R = nat_cmp} (map (λ i. (i, tt)) puts) ≡ empty → is_none_of puts ≡ true
no-puts [] up none = refl
no-puts (x ∷ xs) up none =
    none_some (sym (get-empty {X = Unit {0}} nat_cmp x) ∙ ap (λ (m : FinMap nat_cmp (Unit {0})). get m x) (sym none) ∙ (each-found nat_cmp_total (λ (i : ℕ). i) (λ (i : ℕ). tt) (x ∷ xs) up).0)

-- where the first doesn't hold
pub second : (a b : Bool) → a ≡ false → (a || b) ≡ true → b ≡ true
second true b e h = absurd (cc)
second false b e h = h

-- ---- one row

module _ (now : ℕ) (p : SnapPoint) (s : Snapshot) (is : s.row ≡ row_of p) (rests : aged_row now (Some s) ≡ Some s) (law : IsSnapRow p.key (row_of p)) (up : has_ordered_parts p ≡ true) (moved : is_moved_done p ≡ true) where
  ahead : is_ahead p.bin_end now ≡ true
  ahead = subst (λ (r : SnapRow). is_ahead r.bin_end now ≡ true) is (found-stays now s s rests)

  abbrev late : Bool
  late = nat_le (p.last.second + 60 * p.timeout) now

  -- what has failed has no puts
  rested : is_failed (status_by p.completed late) ≡ true → (row_of p).put ≡ empty
  rested failed =
      let same : cond (is_failed (status_by s.row.completed (nat_le (s.row.last.second + 60 * s.row.timeout) now))) empty s.row.put ≡ s.row.put = ap (λ (x : Snapshot). x.row.put) (found-rested now s s rests) in
      sym (sym (ap (λ (b : Bool). cond b empty (row_of p).put) failed)
      ∙ subst (λ (r : SnapRow). cond (is_failed (status_by r.completed (nat_le (r.last.second + 60 * r.timeout) now))) empty r.put ≡ r.put) is same)

  put-up : ascends nat_cmp (λ (i : ℕ). i) p.put ≡ true
  put-up = (three (ascends nat_cmp (λ n. n) p.put) (ascends nat_cmp (λ n. n) p.shared) (ascends nat_cmp (λ (c : CopyRow). c.index) p.copies) up).0

  puts : has_puts_by (status_of p now) p ≡ true
  puts = by p.completed late refl refl
    where
      by : (c l : Bool) → p.completed ≡ c → late ≡ l → (is_pending (status_by c l) || is_none_of p.put) ≡ true
      by true l c-is l-is = no-puts p.put put-up (law.completed c-is)
      by false true c-is l-is = no-puts p.put put-up (rested (λ i. is_failed (status_by (c-is i) (l-is i))))
      by false false c-is l-is = refl

  plain : is_plain p ≡ true
  plain = by p.completed refl
    where
      by : (c : Bool) → p.completed ≡ c → (c || (not (is_some p.bin_end) && (is_none_of p.copies && is_standard p.tier))) ≡ true
      by true c-is = refl
      by false c-is =
          let upload = law.upload c-is in
          let copies = second p.completed (is_none_of p.copies) c-is moved in
          let end : not (is_some p.bin_end) ≡ true = ap (λ (o : Option Moment). not (is_some o)) upload.bin_end in
          let tier : is_standard p.tier ≡ true = ap is_standard upload.tier in
          λ i. end i && (copies i && tier i)

-- ---- all of them

module _ (point : Checkpoint) (up : is_ordered point ≡ true) (law : IsLawful (machine_of point)) (rests : IsAtRest (machine_of point)) (moved : AreMoved point) (nodes : have_nodes point ≡ true) where
  abbrev now : ℕ
  now = point.clock.second

  abbrev IsThere : SnapPoint → Type 0
  IsThere p = get (snaps_of point) p.key ≡ Some (snapshot_of (arrays_of point.nodes) p)

  record IsReady (p : SnapPoint) : Type 0 where
    there : IsThere p
    lists : has_ordered_parts p ≡ true
    done : is_moved_done p ≡ true
    node : has_node point p ≡ true

  ready : AllByRecursion IsReady point.snapshots
  ready =
      let ups = both IsThere (λ (p : SnapPoint). has_ordered_parts p ≡ true) point.snapshots (snaps-there point up) (each-of has_ordered_parts point.snapshots (parts-up point up)) in
      let fits = both (λ (p : SnapPoint). is_moved_done p ≡ true) (λ (p : SnapPoint). has_node point p ≡ true) point.snapshots (each-of is_moved_done point.snapshots moved.done) (each-of (has_node point) point.snapshots nodes) in
      weaker (λ (p : SnapPoint). (IsThere p × (has_ordered_parts p ≡ true)) × ((is_moved_done p ≡ true) × (has_node point p ≡ true))) IsReady (λ p h. record { there = h.0.0; lists = h.0.1; done = h.1.0; node = h.1.1 }) point.snapshots
      (both (λ (p : SnapPoint). IsThere p × (has_ordered_parts p ≡ true)) (λ (p : SnapPoint). (is_moved_done p ≡ true) × (has_node point p ≡ true)) point.snapshots ups fits)

  at-rest : aged_rows now (snaps_of point) ≡ snaps_of point
  at-rest = ap (λ (m : Machine). m.snaps) rests

  state-fits : (p : SnapPoint) → IsReady p → fits_state now point.nodes p ≡ true
  state-fits p h =
      let s : Snapshot = snapshot_of (arrays_of point.nodes) p in
      let stays : aged_row now (Some s) ≡ Some s =
      ap (aged_row now) (sym h.there) ∙ sym (get-aged now (snaps_of point) p.key) ∙ ap (λ (m : FinMap snap_cmp Snapshot). get m p.key) at-rest ∙ h.there in
      let row : IsSnapRow p.key (row_of p) = law.snaps p.key (row_of p) (get-row (snaps_of point) p.key ∙ ap row_in h.there) in
      let front = ahead now p s refl stays row h.lists h.done in
      let alone = plain now p s refl stays row h.lists h.done in
      let told = uploads-done p row in
      let left = puts now p s refl stays row h.lists h.done in
      λ i. h.node i && (front i && (alone i && (told i && left i)))

pub states-fit : StatesFit
states-fit point up law rests moved nodes = all-of (fits_state point.clock.second point.nodes) point.snapshots
    (weaker (IsReady point up law rests moved nodes) (λ (p : SnapPoint). fits_state point.clock.second point.nodes p ≡ true) (state-fits point up law rests moved nodes) point.snapshots (ready point up law rests moved nodes))
