use Rattle.std.proofs.Common.{arith, sym, ◌∙◌}
use Rattle.ebs_collect.proofs.Adding.{node-counted, nothing-added, none-loose, held-loose}
use Rattle.ebs_collect.proofs.backlog.Backlog.visit.Goals as goal

pub returns-then-count-eq0 : goal.returns-then-count-eq0
returns-then-count-eq0 c = nothing-added c.args.self.now c.args.lineage.now c.args.number c.requires (none-loose c.args.lineage.now.table.nodes c.args.number (sym c.own_len-count.ensures ∙ c.if-count-eq0.true))

pub returns-then-is_held : goal.returns-then-is_held
returns-then-is_held c = nothing-added c.args.self.now c.args.lineage.now c.args.number c.requires (held-loose c.args.lineage.now.table.nodes c.args.number (c.is_held.ensures.held c.if-is_held.true))

pub rewind-requires-clause-free : goal.rewind-requires-clause-free
rewind-requires-clause-free c = c.is_held.ensures.free c.if-is_held.false (node-counted c.args.lineage.now.table.nodes c.args.number (λ e. omega (arith, e, c.own_len-count.ensures, c.if-count-eq0.false)))

pub push-requires-clause-free : goal.push-requires-clause-free
push-requires-clause-free c = c.is_held.ensures.free c.if-is_held.false (node-counted c.args.lineage.now.table.nodes c.args.number (λ e. omega (arith, e, c.own_len-count.ensures, c.if-count-eq0.false)))

pub rewind-requires-clause-place : goal.rewind-requires-clause-place
rewind-requires-clause-place c = sym c.in-Some.ensures

pub push-requires-clause-new : goal.push-requires-clause-new
push-requires-clause-new c = sym c.in-None.ensures
