-- What a checkpoint with all rules says is settled, and so is what time leaves of a lawful machine.
use Rattle.std.proofs.Common.{◌≡◌, ℕ, arith, Bool, true, false, cond, not, List, [], map, Option, Some, None, is_some, refl, sym, ap, ◌∙◌}
use Rattle.std.specs.Option.{option_map}
use Rattle.std.specs.Ordering.{nat_cmp}
use Rattle.std.specs.Cmp.{nat_cmp_total}
use Rattle.std.specs.FinMap.{nat_cmp-IsAntisymmetric, get, empty, from_entries}
use Rattle.ebs_model.specs.declared.keys.SnapKey.{SnapKey}
use Rattle.ebs_model.specs.declared.rows.RowStatus.{RowStatus}
use Rattle.ebs_model.specs.declared.rows.RowStatus.TheVariants.{Pending, Completed, Failed}
use Rattle.ebs_model.specs.Time.{Snapshot, is_failed, status_by, rested}
use Rattle.ebs_model.specs.Machine.{advance, aged_rows}
use Rattle.ebs_model.proofs.Aged.{get-aged, aged_row, aged-aged}
use Rattle.ebs_model.proofs.RowLaws.{same_snaps}
use Rattle.ebs_model.proofs.Values.{map_values-empty}
use Rattle.ebs_checkpoints.specs.declared.nodes.NodeRow.{NodeRow}
use Rattle.ebs_checkpoints.specs.declared.snapshots.SnapPoint.{SnapPoint}
use Rattle.ebs_checkpoints.specs.declared.checkpoint.Checkpoint.{Checkpoint}
use Rattle.ebs_node_rules.specs.Arrays.{array_in, arrays_of, row_array, with_copies}
use Rattle.ebs_node_rules.specs.States.{is_none_of, is_standard, status_of, has_node_by, is_ahead, is_plain, is_upload_or_done, has_puts_by, fits_state}
use Rattle.ebs_checkpoint_rules.specs.Rules.{HasRules}
use Rattle.ebs_recovery.specs.inner.Bases.{kept_block, kept_array, snapshot_of, snaps_of, machine_of}
use Rattle.ebs_recovery.specs.Bases.{row_of}
use Rattle.ebs_lawful.proofs.Lawful.{time-lawful}
use Rattle.ebs_lawful.proofs.ArrayKept.{time-arrays}
use Rattle.ebs_lawful_points.proofs.Parts.{three, five}
use Rattle.ebs_lawful_points.proofs.SnapPoints.{of-snap}
use Rattle.ebs_lawful_points.proofs.PointLaws.{points-lawful}
use Rattle.ebs_lawful_points.proofs.ArrayPoints.{points-arrays}
use Rattle.ebs_point_rules.specs.Laws.{PointsAreSettled, TimeSettles}
use Rattle.ebs_point_rules.proofs.Copies.{none-of}
use Rattle.ebs_point_rules.proofs.FitStates.{second}

-- ---- a row with the rules is as time leaves it

no-puts : (p : SnapPoint) (status : RowStatus) → has_puts_by status p ≡ true → is_failed status ≡ true → p.put ≡ []
no-puts p Pending e failed = absurd (cc)
no-puts p Completed e failed = absurd (cc)
no-puts p Failed e failed = none-of p.put e

nothing : {X : Type 0} (o : Option X) → not (is_some o) ≡ true → o ≡ None
nothing None e = refl
nothing (Some x) e = absurd (cc)

no-node : (p : SnapPoint) (nodes : List NodeRow) (status : RowStatus) → has_node_by status nodes p ≡ true → is_failed status ≡ true → p.node ≡ None
no-node p nodes Pending e failed = absurd (cc)
no-node p nodes Completed e failed = absurd (cc)
no-node p nodes Failed e failed = nothing p.node e

unfinished : (completed late : Bool) → is_failed (status_by completed late) ≡ true → completed ≡ false
unfinished true late e = absurd (cc)
unfinished false late e = refl

module _ (now : ℕ) (nodes : List NodeRow) (p : SnapPoint) (fits : fits_state now nodes p ≡ true) where
  states : (has_node_by (status_of p now) nodes p ≡ true) × (is_ahead p.bin_end now ≡ true) × (is_plain p ≡ true) × (is_upload_or_done p ≡ true) × (has_puts_by (status_of p now) p ≡ true)
  states = five (has_node_by (status_of p now) nodes p) (is_ahead p.bin_end now) (is_plain p) (is_upload_or_done p) (has_puts_by (status_of p now) p) fits

  no-copies : is_failed (status_of p now) ≡ true → p.copies ≡ []
  no-copies failed = none-of p.copies (three (not (is_some p.bin_end)) (is_none_of p.copies) (is_standard p.tier) (second p.completed _ (unfinished p.completed _ failed) states.2)).1

  put-left : (b : Bool) → is_failed (status_of p now) ≡ b → cond b empty (row_of p).put ≡ (row_of p).put
  put-left true failed = ap (λ (l : List ℕ). from_entries {X = Unit {0}} {R = nat_cmp} (map (λ i. (i, tt)) l)) (sym (no-puts p (status_of p now) states.4 failed))
  put-left false failed = refl

  array-left : (b : Bool) → is_failed (status_of p now) ≡ b → cond b empty (kept_array (row_array (arrays_of nodes) p)) ≡ kept_array (row_array (arrays_of nodes) p)
  array-left true failed =
      let node = no-node p nodes (status_of p now) states.0 failed in
      let copies = no-copies failed in
      sym (ap kept_array (λ i. with_copies (array_in (arrays_of nodes) (node i)) (copies i)) ∙ map_values-empty nat_cmp_total kept_block nat_cmp-IsAntisymmetric)
  array-left false failed = refl

  left : aged_row now (Some (snapshot_of (arrays_of nodes) p)) ≡ Some (snapshot_of (arrays_of nodes) p)
  left = ap (λ (b : Bool). option_map (rested now) (cond b (Some (snapshot_of (arrays_of nodes) p)) None)) states.1
      ∙ (λ i. Some (record { row = record (row_of p) { put = put-left (is_failed (status_of p now)) refl i }; array = array-left (is_failed (status_of p now)) refl i }))

module _ (point : Checkpoint) (rules : HasRules point) where
  one-rests : (key : SnapKey) (o : Option Snapshot) → get (snaps_of point) key ≡ o → aged_row point.clock.second o ≡ o
  one-rests key None e = refl
  one-rests key (Some s) e =
      let r = of-snap point key s e in
      ap (λ (x : Snapshot). aged_row point.clock.second (Some x)) r.is
      ∙ left point.clock.second point.nodes r.point (r.each (fits_state point.clock.second point.nodes) rules.states) ∙ ap Some (sym r.is)

  all-rest : aged_rows point.clock.second (snaps_of point) ≡ snaps_of point
  all-rest = same_snaps _ _ (λ q. get-aged point.clock.second (snaps_of point) q ∙ one-rests q (get (snaps_of point) q) refl)

pub points-settled : PointsAreSettled
points-settled point rules = record {
  lawful = points-lawful point rules;
  arrays = points-arrays point rules;
  rests = λ i. record (machine_of point) { snaps = all-rest point rules i };
}

pub time-settles : TimeSettles
time-settles m now later early lawful arrays = record {
  lawful = time-lawful m now later early lawful;
  arrays = time-arrays m now arrays;
  rests = λ i. record (advance m now) { snaps = aged-aged now.second now.second (omega arith) m.snaps i };
}
