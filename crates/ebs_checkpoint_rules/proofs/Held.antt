-- The rules one by one, of what was told of some together.
use Rattle.std.proofs.Common.{◌≡◌, Bool, true, ◌&&◌, ◌∙◌, sym}
use Rattle.std.proofs.lemmas.Bool.{and_parts}
use Rattle.std.specs.Cmp.Derive.{both_true}
use Rattle.ebs_checkpoints.specs.declared.checkpoint.Checkpoint.{Checkpoint}
use Rattle.ebs_row_rules.specs.Order.{is_ordered}
use Rattle.ebs_row_rules.specs.Limits.{is_within}
use Rattle.ebs_row_rules.specs.Counts.{are_in_quotas}
use Rattle.ebs_row_rules.specs.Owners.{is_owned}
use Rattle.ebs_row_rules.specs.Slots.{is_stored}
use Rattle.ebs_node_rules.specs.Nodes.{is_forest}
use Rattle.ebs_node_rules.specs.States.{fit_states}
use Rattle.ebs_node_rules.specs.Arrays.{fit_arrays}
use Rattle.ebs_checkpoint_rules.specs.Rules.{HasRules}

pub held : (point : Checkpoint) (rows nodes : Bool) → is_ordered point ≡ true
    → rows ≡ (is_within point && (are_in_quotas point && (is_owned point && is_stored point))) → rows ≡ true
    → nodes ≡ (is_forest point && (fit_states point && fit_arrays point))
    → (nodes ≡ true → HasRules point) × (HasRules point → nodes ≡ true)
held point rows nodes ordered row_rules hold node_rules = (all, λ has. node_rules ∙ both_true has.forest (both_true has.states has.arrays))
  where
    all : nodes ≡ true → HasRules point
    all are =
        let first = and_parts (is_within point) (are_in_quotas point && (is_owned point && is_stored point)) (sym row_rules ∙ hold) in
        let second = and_parts (are_in_quotas point) (is_owned point && is_stored point) first.1 in
        let third = and_parts (is_owned point) (is_stored point) second.1 in
        let fourth = and_parts (is_forest point) (fit_states point && fit_arrays point) (sym node_rules ∙ are) in
        let fifth = and_parts (fit_states point) (fit_arrays point) fourth.1 in
        record { ordered = ordered; within = first.0; in_quotas = second.0; owned = third.0; stored = third.1; forest = fourth.0; states = fifth.0; arrays = fifth.1 }
