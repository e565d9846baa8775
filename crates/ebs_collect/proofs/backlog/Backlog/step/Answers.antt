use Rattle.std.proofs.Common.{arith, sym, subst}
use Rattle.ebs_lineage.specs.Table.{Table}
use Rattle.ebs_lineage.specs.Lines.{IsFree}
use Rattle.ebs_collect.specs.Slices.{IsCounted}
use Rattle.ebs_collect.proofs.Judged.{leaves-same}
use Rattle.ebs_collect.proofs.Releases.{frees-same}
use Rattle.ebs_collect.proofs.Enqueued.{same-table}
use Rattle.ebs_collect.proofs.Sliced.{step-covers, step-linked, leaves-after}
use Rattle.ebs_collect.proofs.backlog.Backlog.step.Goals as goal

pub returns-in_default-clause-nodes : goal.returns-in_default-clause-nodes
returns-in_default-clause-nodes c = leaves-same c.args.lineage.now

pub returns-in_default-clause-slots : goal.returns-in_default-clause-slots
returns-in_default-clause-slots c = frees-same c.args.slots.now

pub returns-in_default-clause-waiting : goal.returns-in_default-clause-waiting
returns-in_default-clause-waiting c = absurd (omega (arith, c.in_default.ensures.none, c.requires.some))

pub pass-requires-clause-linked : goal.pass-requires-clause-linked
pass-requires-clause-linked c = c.requires.linked

pub pass-requires-clause-next : goal.pass-requires-clause-next
pass-requires-clause-next c = c.in-Some.ensures.some

pub judge-requires-clause-free : goal.judge-requires-clause-free
judge-requires-clause-free c = subst (λ (t : Table). IsFree t.nodes c.in-Some.next.number) (sym (same-table c.args.lineage.now c.pass.new.lineage c.pass.ensures.lines)) c.pass.ensures.free.free

pub judge-requires-clause-counted : goal.judge-requires-clause-counted
judge-requires-clause-counted c = subst (λ (t : Table). IsCounted c.args.slots.now t.nodes) (sym (same-table c.args.lineage.now c.pass.new.lineage c.pass.ensures.lines)) c.requires.counted

pub returns-clause-linked : goal.returns-clause-linked
returns-clause-linked c = step-linked c.args.self.now c.args.lineage.now c.in-Some.next c.pass.new.self c.pass.new.lineage c.judge.new.lineage c.pass.ensures c.judge.ensures.judged

pub returns-clause-covers : goal.returns-clause-covers
returns-clause-covers c = step-covers c.args.self.now c.args.lineage.now c.in-Some.next c.pass.new.self c.pass.new.lineage c.judge.new.lineage c.pass.ensures c.judge.ensures.judged c.requires.covers

pub returns-clause-counted : goal.returns-clause-counted
returns-clause-counted c = c.judge.ensures.counted

pub returns-clause-nodes : goal.returns-clause-nodes
returns-clause-nodes c = leaves-after c.args.lineage.now c.pass.new.lineage c.judge.new.lineage c.pass.ensures.lines c.judge.ensures.judged.leaves

pub returns-clause-slots : goal.returns-clause-slots
returns-clause-slots c = c.judge.ensures.slots

pub returns-clause-waiting : goal.returns-clause-waiting
returns-clause-waiting c = c.pass.ensures.count
