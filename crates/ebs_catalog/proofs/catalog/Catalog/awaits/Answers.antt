use Rattle.std.proofs.Common.{◌≤◌, sym, ap, subst, ◌∙◌}
use Rattle.std.specs.FinMap.{get, contains_key}
use Rattle.ebs_tables.specs.Full.{full, held}
use Rattle.ebs_model.specs.Keys.{snap_cmp}
use Rattle.ebs_catalog.specs.Held.{Held, rows_in}
use Rattle.ebs_catalog.proofs.Awaited.{awaits-found}
use Rattle.ebs_catalog.proofs.catalog.Catalog.awaits.Goals as goal

pub returns : goal.returns
returns c = λ row e p.
    let k = c.args.key.now in
    let now = c.args.at.second in
    let later = subst (λ (h : Held). h.latest ≤ now) (sym c.self.view_is) c.requires in
    ap (λ (h : Held). contains_key (full h.waits) k) (sym c.self.view_is)
    ∙ awaits-found (held snap_cmp c.self.inside.snaps) (held snap_cmp c.self.inside.waits) c.self.inside.latest.second now c.self.invariant.0.1.1 later k row (ap (λ (h : Held). get (rows_in h).snaps k) c.self.view_is ∙ e) p
