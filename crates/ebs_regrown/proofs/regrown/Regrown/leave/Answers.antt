use Rattle.std.proofs.Common.{sym, subst, ◌∙◌}
use Rattle.ebs_lineage.specs.Live.{IsOnLine}
use Rattle.ebs_lineage.specs.Lines.{Lines}
use Rattle.ebs_collect.specs.Backlogs.{IsLinked, CoversBut}
use Rattle.ebs_regrown.specs.Regrown.{AreHeld}
use Rattle.ebs_regrown.proofs.regrown.Regrown.leave.Goals as goal

pub enqueue-requires-clause-linked : goal.enqueue-requires-clause-linked
enqueue-requires-clause-linked c =
    let l = c.args.self.now.lineage in
    let held = subst (AreHeld l.table.nodes) (sym c.get.ensures ∙ sym c.copied.ensures ∙ c.in-Some.is) c.requires.held in
    let left = c.dropping_leaves_its_line.ensures c.args.self.now.backlog l c.in-Some.number held c.requires.linked c.requires.covers in
    subst (λ (x : Lines). IsLinked c.args.self.now.backlog x) (sym c.drop_node.ensures.value) left.0

pub enqueue-requires-clause-covers : goal.enqueue-requires-clause-covers
enqueue-requires-clause-covers c =
    let l = c.args.self.now.lineage in
    let held = subst (AreHeld l.table.nodes) (sym c.get.ensures ∙ sym c.copied.ensures ∙ c.in-Some.is) c.requires.held in
    let left = c.dropping_leaves_its_line.ensures c.args.self.now.backlog l c.in-Some.number held c.requires.linked c.requires.covers in
    subst (λ (x : Lines). CoversBut x (λ m i. IsOnLine x.table.nodes c.in-Some.number m)) (sym c.drop_node.ensures.value) left.1
