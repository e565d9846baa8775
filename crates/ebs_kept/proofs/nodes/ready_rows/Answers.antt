use Rattle.std.proofs.lemmas.Result.{on_ok_weaker}
use Rattle.ebs_catalog.specs.Held.{rows_in}
use Rattle.ebs_kept.proofs.Readied.{have-both}
use Rattle.ebs_kept.proofs.nodes.ready_rows.Goals as goal

pub returns-clause-nodes : goal.returns-clause-nodes
returns-clause-nodes c =
    on_ok_weaker c.ready_volumes.result
    (λ vols. have-both c.args.at.second (rows_in c.args.catalog.now) c.ready_snapshots.new.holdings c.ready_volumes.new.holdings c.in_ok-ready_snapshots.ensures.nodes c.ready_volumes.ensures.snapshots vols)
    c.ready_volumes.ensures.nodes
