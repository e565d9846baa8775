-- What a checkpoint's nodes are in a store.
use Rattle.std.specs.Prelude.{◌≡◌}
use Rattle.std.specs.FinMap as fin
use Rattle.ebs_checkpoints.specs.declared.checkpoint.Checkpoint.{Checkpoint}
use Rattle.ebs_node_rules.specs.Nodes.{is_among, names}
use Rattle.ebs_node_rules.specs.Arrays.{array_in, arrays_of}
use Rattle.ebs_holds.specs.declared.holder.Holder.{Holder}
use Rattle.ebs_holds.specs.Holds.{Holding, blocks_at, held_in}
use Rattle.ebs_regrown.specs.Regrown.{Numbers, IsRegrown}
use Rattle.ebs_restored.specs.Holders.{HaveNodes, named}

-- each node of the checkpoint has one in the lineage, held where a row names it, and each holder has the node that its row names, with the array that belongs to it
pub record AreRestored (point : Checkpoint) (h : Holding) : Type 0 where
  pub numbers : Numbers
  pub grown : IsRegrown point.nodes (is_among (names point.snapshots point.volumes)) numbers h.lines
  pub holders : HaveNodes numbers (named point.snapshots point.volumes) (held_in h)
  pub arrays : (q : Holder) → blocks_at h q ≡ array_in (arrays_of point.nodes) (fin.get (named point.snapshots point.volumes) q)
