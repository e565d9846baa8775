use Rattle.std.proofs.Common.{sym, ap, subst, ◌∙◌}
use Rattle.std.specs.FinMap.{insert}
use Rattle.ebs_tables.specs.Full.{held}
use Rattle.ebs_model.specs.Keys.{snap_cmp}
use Rattle.ebs_catalog.specs.Sound.{AreAwaited}
use Rattle.ebs_catalog.proofs.Awaited.{awaited-marked}
use Rattle.ebs_catalog.proofs.Stale.{Waits}
use Rattle.ebs_catalog.proofs.catalog.Catalog.begin_wait.Goals as goal

pub invariant_of-self-2 : goal.invariant_of-self-2
invariant_of-self-2 c =
    let m = held snap_cmp c.self.inside.snaps in
    let w = held snap_cmp c.self.inside.waits in
    let key = c.args.row.now.key in
    let is = c.fill.ensures.held ∙ ap (λ (x : Waits). insert x key tt) c.prepare.ensures.held in
    ((c.self.invariant.0.0, (c.self.invariant.0.1.0, subst (λ x. AreAwaited m x c.self.inside.latest.second) (sym is) (awaited-marked m w key c.self.inside.latest.second c.self.invariant.0.1.1))), c.self.invariant.1)
