use Rattle.std.specs.Prelude.{map}
use Rattle.ebs_model.specs.declared.keys.SnapKey.{SnapKey}
use Rattle.ebs_catalog.specs.declared.rows.KeptRow.{KeptRow}
use Rattle.ebs_catalog.specs.Held.{rows_in, whole}
use Rattle.ebs_kept.specs.inner.Readied.{HasSnapNode, KeepsArrays}
use Rattle.ebs_kept.proofs.Readied.{IsWalked}
use Rattle.ebs_kept.proofs.nodes.ready_snapshots.Given as goal

abbrev pub invariant-loop-key : goal.invariant-loop-key
invariant-loop-key l = record {
  keeps : KeepsArrays l.fn.holdings l.holdings;
  walked : IsWalked (rows_in l.catalog).snaps (HasSnapNode l.at.second l.holdings) (map (λ (e : SnapKey × KeptRow). (e.0, whole e.1)) l.key-iterator);
}
