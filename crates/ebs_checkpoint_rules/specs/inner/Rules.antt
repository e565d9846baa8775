-- Beside what is promised: what is read as a checkpoint.
use Rattle.std.specs.Prelude.{◌≡◌, ◌⊎◌}
use Rattle.ebs_records.specs.declared.records.Read.{Read}
use Rattle.ebs_records.specs.declared.records.Read.TheVariants.{Value, NoValue, Memory}
use Rattle.ebs_records.specs.inner.Whole.{Spells}
use Rattle.ebs_checkpoints.specs.declared.checkpoint.Checkpoint.{Checkpoint}
use Rattle.ebs_checkpoints.specs.Checkpoints.{spelled}
use Rattle.ebs_node_rules.specs.inner.Nodes.{EachBearsName}
use Rattle.ebs_checkpoint_rules.specs.Rules.{HasRules, IsCheckpoint}

-- it is a value exactly where it has the rules
abbrev pub IsJudged : Checkpoint → Read Checkpoint → Type 0
IsJudged point (Value read) = (read ≡ point) × HasRules point × EachBearsName point
IsJudged point NoValue = HasRules point → ⊥
IsJudged point Memory = Unit {0}

-- what holds of the value, where there is one
abbrev pub IfValue : Read Checkpoint → (Checkpoint → Type 0) → Type 0
IfValue (Value point) holds = holds point
IfValue NoValue holds = Unit {0}
IfValue Memory holds = Unit {0}

-- the bytes of a checkpoint are read as that one, or memory was wanting
abbrev pub WrittenIsRead : Type 0
WrittenIsRead = (point : Checkpoint) (read : Read Checkpoint) → IsCheckpoint point → Spells IsCheckpoint spelled (spelled point) read → (read ≡ Memory) ⊎ (read ≡ Value point)
