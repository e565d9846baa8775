use Rattle.std.proofs.Common.{sym, ap, ◌∙◌}
use Rattle.ebs_collect.specs.Backlogs.{Queue}
use Rattle.ebs_collect.proofs.Maps.{none_some, on_none}
use Rattle.ebs_collect.proofs.Passing.{none-waits, first-placed, some-waits}
use Rattle.ebs_collect.proofs.backlog.Backlog.next.Goals as goal

pub returns-in_err-number-clause-none : goal.returns-in_err-number-clause-none
returns-in_err-number-clause-none c = on_none c.from_residual.result (none-waits c.args.self.now c.args.lineage.now c.requires (sym (ap (λ (q : Queue). q.first) c.self.view_is) ∙ c.in_err-number.was))

pub returns-in_err-place-clause-none : goal.returns-in_err-place-clause-none
returns-in_err-place-clause-none c =
    let found = first-placed c.args.self.now c.args.lineage.now c.requires c.in_ok-number.number (sym (ap (λ (q : Queue). q.first) c.self.view_is) ∙ c.in_ok-number.was) in
    none_some found.0 (c.in_err-place.ensures ∙ found.1)

pub returns-in_err-least-clause-none : goal.returns-in_err-least-clause-none
returns-in_err-least-clause-none c = absurd (some-waits c.args.self.now c.args.lineage.now c.requires c.in_ok-number.number c.in_ok-place.place (sym c.in_ok-place.ensures) c.in_err-least.ensures)

pub returns-clause-some : goal.returns-clause-some
returns-clause-some c = record {
  first = sym (ap (λ (q : Queue). q.first) c.self.view_is) ∙ c.in_ok-number.was;
  here = sym c.in_ok-place.ensures;
  block = c.in_ok-least.least.1;
  least = c.in_ok-least.ensures;
}
