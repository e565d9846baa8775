use Rattle.std.proofs.Common.{sym, ap, subst, ◌∙◌}
use Rattle.ebs_lineage.specs.Lines.{Lines}
use Rattle.ebs_collect.specs.Backlogs.{IsLinked, IsHidden, CoversBut}
use Rattle.ebs_holds.proofs.waiting.put_block.Goals as goal

pub enqueue_hidden-requires-clause-linked : goal.enqueue_hidden-requires-clause-linked
enqueue_hidden-requires-clause-linked c =
    let l = c.args.lineage.now in
    let left = c.putting_leaves_what_it_hides.ensures c.args.backlog.now l c.args.node.number c.args.index c.args.block c.keeps_lines.ensures c.requires.is_open c.ranges.index.fits c.requires.linked c.requires.covers in
    subst (λ (x : Lines). IsLinked c.args.backlog.now x) (sym c.in-Ok.ensures.ok) left.0

pub enqueue_hidden-requires-clause-covers : goal.enqueue_hidden-requires-clause-covers
enqueue_hidden-requires-clause-covers c =
    let l = c.args.lineage.now in
    let left = c.putting_leaves_what_it_hides.ensures c.args.backlog.now l c.args.node.number c.args.index c.args.block c.keeps_lines.ensures c.requires.is_open c.ranges.index.fits c.requires.linked c.requires.covers in
    subst (λ (x : Lines). CoversBut x (λ m i. IsHidden x.table.nodes c.args.node.number c.args.index m)) (sym c.in-Ok.ensures.ok) left.1

pub returns-clause-nodes : goal.returns-clause-nodes
returns-clause-nodes c = c.enqueue_hidden.ensures.nodes ∙ ap (λ (x : Lines). record x { places = c.enqueue_hidden.new.lineage.places }) c.in-Ok.ensures.ok
