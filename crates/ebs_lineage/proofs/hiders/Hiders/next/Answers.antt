use Rattle.std.proofs.Common.{ℕ, Option, sym, subst}
use Rattle.ebs_lineage.specs.declared.hiders.Hiding.{Hiding}
use Rattle.ebs_lineage.specs.Hiders.{HiderTable, IsNextHider, Hides}
use Rattle.ebs_lineage.proofs.Hidings.{none-in, other-in, first-there, first-from, first-least}
use Rattle.ebs_lineage.proofs.hiders.Hiders.next.Goals as goal
use Rattle.ebs_lineage.proofs.hiders.Hiders.next.Goals.{then-hiding-node-via-then-hiding-node, then-hiding-node-via-else-hiding-node+then-hiding-index}

pub returns-in_err-hiding : goal.returns-in_err-hiding
returns-in_err-hiding c =
    subst (λ (r : Option ℕ). IsNextHider c.args.self.now c.args.node c.args.index c.args.from r) (sym c.from_residual.ensures)
    (λ b hides high. none-in c.self.inside.hidings c.args.node c.args.index c.args.from c.range.result (c.range.ensures.in_range tt) c.in_err-hiding.ensures.steps.0 b
    (subst (λ (h : HiderTable). Hides h c.args.node c.args.index b) (sym c.self.view_is) hides) high)

pub returns-then-hiding-node : goal.returns-then-hiding-node
returns-then-hiding-node c = λ b hides high.
    other-in c.self.inside.hidings c.args.node c.args.index c.args.from (c.in_ok-hiding.hiding.now, c.in_ok-hiding.field-0-1.now) c.range.result _ (c.range.ensures.in_range tt) c.in_ok-hiding.ensures.steps
    (elim c.then-hiding-node.branch [
      | then-hiding-node-via-then-hiding-node w ↦ λ both. w.if-hiding-node.true both.0
      | then-hiding-node-via-else-hiding-node+then-hiding-index w ↦ λ both. w.if-hiding-index.true both.1
    ]) b (subst (λ (h : HiderTable). Hides h c.args.node c.args.index b) (sym c.self.view_is) hides) high

pub returns : goal.returns
returns c =
    let e : Hiding × Unit {0} = (c.in_ok-hiding.hiding.now, c.in_ok-hiding.field-0-1.now) in
    let range = c.range.ensures.in_range tt in (
      subst (λ (h : HiderTable). Hides h c.args.node c.args.index c.in_ok-hiding.hiding.now.by) c.self.view_is
          (first-there c.self.inside.hidings c.args.node c.args.index c.args.from e c.range.result _ range c.in_ok-hiding.ensures.steps c.if-hiding-node.false c.if-hiding-index.false),
      first-from c.self.inside.hidings c.args.node c.args.index c.args.from e c.range.result _ range c.in_ok-hiding.ensures.steps c.if-hiding-node.false c.if-hiding-index.false,
      λ b hides high. first-least c.self.inside.hidings c.args.node c.args.index c.args.from e c.range.result _ range c.in_ok-hiding.ensures.steps c.if-hiding-node.false c.if-hiding-index.false b
          (subst (λ (h : HiderTable). Hides h c.args.node c.args.index b) (sym c.self.view_is) hides) high,
    )
