use Rattle.std.proofs.Common.{sym, subst, ◌∙◌}
use Rattle.std.specs.FinMap.{get}
use Rattle.ebs_lineage.specs.Owned.{Blocks}
use Rattle.ebs_listing.specs.Windows.{AddsOne}
use Rattle.ebs_listing.proofs.Windowed.{adds-new, absent}
use Rattle.ebs_listing.proofs.window.add.Goals as goal

pub returns-in_ok-insert : goal.returns-in_ok-insert
returns-in_ok-insert c =
    subst (λ (m : Blocks). AddsOne c.args.index c.args.block c.args.blocks.now m) (sym c.in_ok-insert.ensures.ok)
    (adds-new c.args.index c.args.block c.args.blocks.now (absent (get c.args.blocks.now c.args.index) (sym c.contains.ensures ∙ c.if-not-contains.true)))
