use Rattle.std.proofs.Common.{ℕ, ◌+◌, arith, sym, subst}
use Rattle.ebs_lineage.specs.Owned.{Blocks}
use Rattle.ebs_listing.proofs.Windowed.{IsBelow, below-none, below-one}
use Rattle.ebs_listing.proofs.window.first_part.Goals as goal

pub loop-from-init : goal.loop-from-init
loop-from-init c = (subst (λ (m : Blocks). IsBelow c.args.blocks.now 0 m) (sym c.new-kept.ensures) (below-none c.args.blocks.now), omega arith)

pub loop-from-preserved : goal.loop-from-preserved
loop-from-preserved c =
    let blocks = c.args.blocks.now in
    let is = c.from-from.ensures in
    let less = c.requires.within c.in-Some.index c.in-Some.block c.in-Some.ensures.1 in
    let top = c.requires.top in (
      subst (λ (p : ℕ × Blocks). IsBelow blocks (p.0 + 1) p.1) (sym (λ i. (is i, c.in_ok-insert.ensures.ok i)))
          (below-one blocks c.loop-from.from c.loop-from.kept c.in-Some.index c.in-Some.block c.loop-from.invariant.0 c.in-Some.ensures),
      omega (arith, is, less, top),
    )
