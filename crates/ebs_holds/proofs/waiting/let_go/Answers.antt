use Rattle.std.proofs.Common.{sym, ap, subst, ◌∙◌}
use Rattle.ebs_lineage.specs.Live.{IsOnLine}
use Rattle.ebs_lineage.specs.Lines.{Lines}
use Rattle.ebs_collect.specs.Backlogs.{IsLinked, CoversBut}
use Rattle.ebs_holds.proofs.waiting.let_go.Goals as goal

pub enqueue-requires-clause-linked : goal.enqueue-requires-clause-linked
enqueue-requires-clause-linked c =
    let l = c.args.lineage.now in
    let left = c.dropping_leaves_its_line.ensures c.args.backlog.now l c.args.node.number c.requires.held c.requires.linked c.requires.covers in
    subst (λ (x : Lines). IsLinked c.args.backlog.now x) (sym c.drop_node.ensures.value) left.0

pub enqueue-requires-clause-covers : goal.enqueue-requires-clause-covers
enqueue-requires-clause-covers c =
    let l = c.args.lineage.now in
    let left = c.dropping_leaves_its_line.ensures c.args.backlog.now l c.args.node.number c.requires.held c.requires.linked c.requires.covers in
    subst (λ (x : Lines). CoversBut x (λ m i. IsOnLine x.table.nodes c.args.node.number m)) (sym c.drop_node.ensures.value) left.1

pub returns-clause-nodes : goal.returns-clause-nodes
returns-clause-nodes c = c.enqueue.ensures.nodes ∙ ap (λ (x : Lines). record x { places = c.enqueue.new.lineage.places }) c.drop_node.ensures.value
