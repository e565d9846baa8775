-- What a checkpoint with all rules says of its lists, and that they say the rows of its machine.
use Rattle.std.specs.Prelude.{◌≡◌}
use Rattle.ebs_model.specs.Machine.{rows_of}
use Rattle.ebs_checkpoints.specs.declared.checkpoint.Checkpoint.{Checkpoint}
use Rattle.ebs_checkpoint_rules.specs.Rules.{HasRules}
use Rattle.ebs_recovery.specs.inner.Bases.{machine_of}
use Rattle.ebs_restored_rows.specs.Restores.{MayRestore}
use Rattle.ebs_restored_rows.specs.Said.{rows_said}

-- the rules let each row be put back
abbrev pub RulesLetRestore : Type 0
RulesLetRestore = (point : Checkpoint) → HasRules point → MayRestore point.accounts point.snapshots point.volumes point.rules point.policies

-- the lists of a checkpoint say its machine's rows
abbrev pub ListsSayRows : Type 0
ListsSayRows = (point : Checkpoint) → rows_said point.accounts point.snapshots point.volumes point.rules point.policies ≡ rows_of (machine_of point)
