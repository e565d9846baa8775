use Rattle.std.proofs.Common.{sym, ap, subst, ◌∙◌}
use Rattle.ebs_model.specs.declared.request.Request.{Request}
use Rattle.ebs_holds.specs.declared.holder.Holder.{Holder}
use Rattle.ebs_holds.specs.Holds.{blocks_at, nodes_in}
use Rattle.ebs_holds.specs.Counted.{KeepsCounted, PutsCounted, replaced_by, replaced_in}
use Rattle.ebs_holds.specs.Changes.{runs, after}
use Rattle.ebs_holds.proofs.changes.write.Goals as goal

pub returns-in-RunPolicy-clause-arrays : goal.returns-in-RunPolicy-clause-arrays
returns-in-RunPolicy-clause-arrays c = λ q.
    let change = c.args.change.now in
    let arrays = blocks_at c.args.holdings.now in
    c.begin_run.ensures.arrays q ∙ (λ i. runs arrays (c.as_slice-made.ensures i) (c.as_slice.ensures i) q) ∙ ap (λ (r : Request). after change.made change.sources c.args.source.now c.args.block arrays r q) (sym c.in-RunPolicy.is)

pub returns-in-PutSnapshotBlock-clause-counted : goal.returns-in-PutSnapshotBlock-clause-counted
returns-in-PutSnapshotBlock-clause-counted c =
    let old = c.args.holdings.now in
    let new = c.put.new.self in
    let stamp = c.args.block.stamp in
    subst (λ (r : Request). KeepsCounted (nodes_in old) (nodes_in new) r stamp (replaced_in old r)) (sym c.in-PutSnapshotBlock.is)
    (subst (λ (q : Holder). PutsCounted (nodes_in old) (nodes_in new) stamp (replaced_by old q c.in-PutSnapshotBlock.index)) c.snapshot.ensures c.put.ensures.counted)

pub returns-in-WriteVolumeBlock-clause-counted : goal.returns-in-WriteVolumeBlock-clause-counted
returns-in-WriteVolumeBlock-clause-counted c =
    let old = c.args.holdings.now in
    let new = c.put-in-WriteVolumeBlock.new.self in
    let stamp = c.args.block.stamp in
    subst (λ (r : Request). KeepsCounted (nodes_in old) (nodes_in new) r stamp (replaced_in old r)) (sym c.in-WriteVolumeBlock.is)
    (subst (λ (q : Holder). PutsCounted (nodes_in old) (nodes_in new) stamp (replaced_by old q c.in-WriteVolumeBlock.index)) c.volume-in-WriteVolumeBlock.ensures c.put-in-WriteVolumeBlock.ensures.counted)
