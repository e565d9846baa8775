use Rattle.ebs_model.specs.declared.keys.SnapKey.{SnapKey}
use Rattle.ebs_catalog.specs.Held.{rows_in}
use Rattle.ebs_holds.specs.Holders.{of_snap}
use Rattle.ebs_holds.specs.Holds.{KeepsNode}
use Rattle.ebs_kept.specs.inner.Readied.{HasVolNode, KeepsArrays}
use Rattle.ebs_kept.proofs.Readied.{IsWalked}
use Rattle.ebs_kept.proofs.nodes.ready_volumes.Given as goal

abbrev pub invariant-loop-key : goal.invariant-loop-key
invariant-loop-key l = record {
  keeps : KeepsArrays l.fn.holdings l.holdings;
  snapshots : (key : SnapKey) → KeepsNode l.fn.holdings l.holdings (of_snap key);
  walked : IsWalked (rows_in l.catalog).vols (HasVolNode l.holdings) l.key-iterator;
}
