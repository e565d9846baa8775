use Rattle.std.proofs.Common.{refl, ◌∙◌}
use Rattle.ebs_model.specs.inner.Orders.{exact_vols, vols_total}
use Rattle.ebs_catalog.specs.Held.{rows_in}
use Rattle.ebs_holds.specs.Holders.{of_snap, of_vol}
use Rattle.ebs_kept.specs.inner.Readied.{HasVolNode}
use Rattle.ebs_kept.proofs.Readied.{keeps-none, keeps-then, node-none, node-then, walked-all, walked-next, walked-none}
use Rattle.ebs_kept.proofs.nodes.ready_volumes.Goals as goal

pub loop-key-init : goal.loop-key-init
loop-key-init c = record {
  keeps = keeps-none c.args.holdings.now;
  snapshots = λ key. node-none c.args.holdings.now (of_snap key);
  walked = walked-all vols_total exact_vols (rows_in c.args.catalog.now).vols (HasVolNode c.args.holdings.now) c.into_iter-key-iterator.result (c.into_iter-key-iterator.ensures.into_iter_gives ∙ c.volumes-key-items.ensures);
}

pub loop-key-preserved : goal.loop-key-preserved
loop-key-preserved c =
    let old = c.loop-key.holdings in
    let new = c.ready_volume.new.holdings in
    record {
      keeps = keeps-then c.args.holdings.now old new c.loop-key.invariant.keeps c.ready_volume.ensures.keeps;
      snapshots = λ key. node-then c.args.holdings.now old new (of_snap key) (c.loop-key.invariant.snapshots key) (c.ready_volume.ensures.others (of_snap key) refl);
      walked = walked-next vols_total exact_vols (rows_in c.args.catalog.now).vols (HasVolNode old) (HasVolNode new) c.loop-key.key-iterator c.next.new.self c.in-Some.key.now c.in-Some.field-0-1.now
          c.in-Some.ensures.steps c.loop-key.invariant.walked c.in_ok-ready_volume.ensures.node (λ key row off has. (c.ready_volume.ensures.others (of_vol key) off).is_open has);
    }

pub returns-in_err-ready_volume-clause-snapshots : goal.returns-in_err-ready_volume-clause-snapshots
returns-in_err-ready_volume-clause-snapshots c = λ key. node-then c.args.holdings.now c.loop-key.holdings c.ready_volume.new.holdings (of_snap key) (c.loop-key.invariant.snapshots key) (c.ready_volume.ensures.others (of_snap key) refl)
