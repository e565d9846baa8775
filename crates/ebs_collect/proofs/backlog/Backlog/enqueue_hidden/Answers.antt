use Rattle.std.proofs.Common.{inl, refl, sym}
use Rattle.ebs_collect.specs.Backlogs.{IsHidden}
use Rattle.ebs_collect.proofs.Enqueued.{hidden-to, hidden-from, nothing-hidden, covered}
use Rattle.ebs_collect.proofs.backlog.Backlog.enqueue_hidden.Goals as goal

pub returns-in_default-clause-covers : goal.returns-in_default-clause-covers
returns-in_default-clause-covers c =
    let l = c.args.lineage.now in
    covered l l c.keeps_lines.ensures (λ m. IsHidden l.table.nodes c.args.node.number c.args.index m) c.requires.covers refl (nothing-hidden l c.args.node.number c.args.index c.in_default.ensures)

pub returns-in_default-clause-nodes : goal.returns-in_default-clause-nodes
returns-in_default-clause-nodes c = refl

pub returns-in_default-clause-waits : goal.returns-in_default-clause-waits
returns-in_default-clause-waits c = λ m i. (λ w. inl w, nothing-hidden c.args.lineage.now c.args.node.number c.args.index c.in_default.ensures m i)

pub returns-clause-linked : goal.returns-clause-linked
returns-clause-linked c = c.visit.ensures.linked

pub returns-clause-nodes : goal.returns-clause-nodes
returns-clause-nodes c = c.visit.ensures.lines

pub returns-clause-waits : goal.returns-clause-waits
returns-clause-waits c = λ m i. (
  hidden-to c.args.lineage.now c.args.node.number c.args.index c.args.self.now c.visit.new.self c.visit.new.lineage c.in-Some.keeper.number (sym c.in-Some.ensures) c.visit.ensures m i,
  hidden-from c.args.lineage.now c.args.node.number c.args.index c.args.self.now c.visit.new.self c.visit.new.lineage c.in-Some.keeper.number (sym c.in-Some.ensures) c.visit.ensures m i,
)

pub returns-clause-covers : goal.returns-clause-covers
returns-clause-covers c =
    let l = c.args.lineage.now in
    covered l c.visit.new.lineage c.keeps_lines.ensures (λ m. IsHidden l.table.nodes c.args.node.number c.args.index m) c.requires.covers c.visit.ensures.lines
    (hidden-from l c.args.node.number c.args.index c.args.self.now c.visit.new.self c.visit.new.lineage c.in-Some.keeper.number (sym c.in-Some.ensures) c.visit.ensures)

pub returns-clause-grows : goal.returns-clause-grows
returns-clause-grows c = c.visit.ensures.grows
