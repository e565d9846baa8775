use Rattle.std.proofs.Common.{List, map, ap, ◌∙◌}
use Rattle.ebs_model.specs.declared.keys.SnapKey.{SnapKey}
use Rattle.ebs_model.specs.declared.rows.SnapRow.{SnapRow}
use Rattle.ebs_model.specs.inner.Orders.{exact_snaps, snaps_total}
use Rattle.ebs_catalog.specs.declared.rows.KeptRow.{KeptRow}
use Rattle.ebs_catalog.specs.Held.{rows_in, whole}
use Rattle.ebs_holds.specs.Holders.{of_snap}
use Rattle.ebs_kept.specs.inner.Readied.{HasSnapNode}
use Rattle.ebs_kept.proofs.Readied.{keeps-none, keeps-then, snap-kept, walked-all, walked-next, walked-none}
use Rattle.ebs_kept.proofs.nodes.ready_snapshots.Goals as goal

abbrev all_rows : List (SnapKey × KeptRow) → List (SnapKey × SnapRow)
all_rows rows = map (λ (e : SnapKey × KeptRow). (e.0, whole e.1)) rows

pub loop-key-init : goal.loop-key-init
loop-key-init c =
    let whole_rows = ap all_rows c.into_iter-key-iterator.ensures.into_iter_gives ∙ c.snapshots-key-items.ensures in
    record {
      keeps = keeps-none c.args.holdings.now;
      walked = walked-all snaps_total exact_snaps (rows_in c.args.catalog.now).snaps (HasSnapNode c.args.at.second c.args.holdings.now) (all_rows c.into_iter-key-iterator.result) whole_rows;
    }

pub loop-key-preserved : goal.loop-key-preserved
loop-key-preserved c =
    let now = c.args.at.second in
    let old = c.loop-key.holdings in
    let new = c.ready_snapshot.new.holdings in
    record {
      keeps = keeps-then c.args.holdings.now old new c.loop-key.invariant.keeps c.ready_snapshot.ensures.keeps;
      walked = walked-next snaps_total exact_snaps (rows_in c.args.catalog.now).snaps (HasSnapNode now old) (HasSnapNode now new)
          (all_rows c.loop-key.key-iterator) (all_rows c.next.new.self) c.in-Some.key.now (whole c.in-Some.kept.now)
          (ap all_rows c.in-Some.ensures.steps) c.loop-key.invariant.walked c.in_ok-ready_snapshot.ensures.node
          (λ key row off has. snap-kept now old new key row (c.ready_snapshot.ensures.others (of_snap key) off) has);
    }

pub returns-clause-nodes : goal.returns-clause-nodes
returns-clause-nodes c =
    walked-none snaps_total exact_snaps (rows_in c.args.catalog.now).snaps (HasSnapNode c.args.at.second c.loop-key.holdings)
    (all_rows c.loop-key.key-iterator) (ap all_rows c.in-None.ensures.steps.0) c.loop-key.invariant.walked
