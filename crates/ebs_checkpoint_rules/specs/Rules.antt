-- What a checkpoint is, beside its bytes.
use Rattle.std.specs.Prelude.{◌≡◌, true}
use Rattle.ebs_checkpoints.specs.declared.checkpoint.Checkpoint.{Checkpoint}
use Rattle.ebs_checkpoints.specs.Checkpoints.{HasSpelling}
use Rattle.ebs_row_rules.specs.Order.{is_ordered}
use Rattle.ebs_row_rules.specs.Limits.{is_within}
use Rattle.ebs_row_rules.specs.Counts.{are_in_quotas}
use Rattle.ebs_row_rules.specs.Owners.{is_owned}
use Rattle.ebs_row_rules.specs.Slots.{is_stored}
use Rattle.ebs_node_rules.specs.Nodes.{is_forest}
use Rattle.ebs_node_rules.specs.States.{fit_states}
use Rattle.ebs_node_rules.specs.Arrays.{fit_arrays}

-- lists ascend, numbers are within their limits and quotas, accounts have made their rows, blocks and copies have slots of their
-- own, nodes are trees that lead to rows, and what a row has is what its state and its array let it have
pub record HasRules (point : Checkpoint) : Type 0 where
  pub ordered : is_ordered point ≡ true
  pub within : is_within point ≡ true
  pub in_quotas : are_in_quotas point ≡ true
  pub owned : is_owned point ≡ true
  pub stored : is_stored point ≡ true
  pub forest : is_forest point ≡ true
  pub states : fit_states point ≡ true
  pub arrays : fit_arrays point ≡ true

-- a checkpoint that can be one of a store
pub record IsCheckpoint (point : Checkpoint) : Type 0 where
  pub spelling : HasSpelling point
  pub rules : HasRules point
