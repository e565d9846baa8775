-- A checkpoint that was read, where it is all of the bytes.
use Rattle.std.specs.Prelude.{Bool, if◌then◌else◌}
use Rattle.ebs_records.specs.declared.records.Read.{Read}
use Rattle.ebs_records.specs.declared.records.Read.TheVariants.{Value, NoValue}
use Rattle.ebs_checkpoints.specs.declared.checkpoint.Checkpoint.{Checkpoint}

abbrev pub judged : Checkpoint → Bool → Read Checkpoint
judged v ended = if ended then Value v else NoValue
