-- Lists that can be counted in 32 bits.
use Rattle.ebs_checkpoints.specs.declared.checkpoint.Checkpoint.{Checkpoint}
use Rattle.ebs_point_rules.specs.Values.{IsShort}

pub record HasShortRows (point : Checkpoint) : Type 0 where
  pub accounts : IsShort point.accounts
  pub snapshots : IsShort point.snapshots
  pub volumes : IsShort point.volumes
  pub rules : IsShort point.rules
  pub policies : IsShort point.policies

pub record HasShortBlocks (point : Checkpoint) : Type 0 where
  pub nodes : IsShort point.nodes
  pub standard : IsShort point.standard
  pub archive : IsShort point.archive
