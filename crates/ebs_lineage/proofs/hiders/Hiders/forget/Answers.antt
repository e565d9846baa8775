use Rattle.std.proofs.Common.{arith, ℕ, ◌<◌, ◌≤◌, sym, subst}
use Rattle.std.specs.FinMap as map
use Rattle.ebs_lineage.specs.Hiders.{HiderTable}
use Rattle.ebs_lineage.proofs.Hidings.{IsForgetting, forgetting-self, forgetting-on, forgotten, removed-less}
use Rattle.ebs_lineage.proofs.hiders.Hiders.forget.Goals as goal

pub loop-by-init : goal.loop-by-init
loop-by-init c = forgetting-self c.args.self.now c.args.node c.args.index

pub loop-by-smaller : goal.loop-by-smaller
loop-by-smaller c =
    subst (λ (h : HiderTable). map.len h.hidings < map.len c.loop-by.self.hidings) (sym c.remove.ensures)
    (removed-less c.loop-by.self c.args.node c.args.index c.in-Some.by c.in-Some.ensures.0)

pub loop-by-preserved : goal.loop-by-preserved
loop-by-preserved c =
    subst (λ (h : HiderTable). IsForgetting c.args.self.now h c.args.node c.args.index) (sym c.remove.ensures)
    (forgetting-on c.args.self.now c.loop-by.self c.args.node c.args.index c.in-Some.by c.loop-by.invariant)

pub returns : goal.returns
returns c = forgotten c.args.self.now c.loop-by.self c.args.node c.args.index c.loop-by.invariant (λ b hides. c.in_default.ensures b hides (zero_least b))
  where
    zero_least : (b : ℕ) → 0 ≤ b
    zero_least b = omega arith
