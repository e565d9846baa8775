use Rattle.std.proofs.Common.{None, sym, ap, subst, ◌∙◌}
use Rattle.std.specs.Ordering.{nat_cmp}
use Rattle.std.specs.Cmp.{nat_cmp_total}
use Rattle.std.specs.FinMap.{nat_cmp-IsAntisymmetric, get, insert}
use Rattle.ebs_tables.specs.Full.{full, held}
use Rattle.ebs_model.specs.Keys.{snap_cmp, vol_cmp, token_cmp}
use Rattle.ebs_model.specs.inner.MapValues.{map_values}
use Rattle.ebs_model.proofs.Values.{map_values-insert}
use Rattle.ebs_catalog.specs.Held.{Held, rows_in, own_in}
use Rattle.ebs_catalog.specs.Sound.{AreCounted, AreUsed, AreVolumes, rows_at, tokens_at, volumes_at}
use Rattle.ebs_catalog.proofs.CountedVolumes.{rows-kept, volumes-kept}
use Rattle.ebs_catalog.proofs.UsedTokens.{used-added}
use Rattle.ebs_catalog.proofs.catalog.Catalog.fill_own.Goals as goal

pub invariant_of-self : goal.invariant_of-self
invariant_of-self c =
    let m = held snap_cmp c.self.inside.snaps in
    let owns = held nat_cmp c.self.inside.owns in
    let account = c.args.account in
    let rows = c.account_row-found.ensures.rows ∙ ap (λ (h : Held). rows_at (get (full h.owns) account)) (sym c.self.view_is) in
    let volumes = c.account_row-found.ensures.volumes ∙ ap (λ (h : Held). volumes_at (get (full h.owns) account)) (sym c.self.view_is) in
    let tokens = c.account_row-found.ensures.tokens ∙ ap (λ (h : Held). tokens_at (get (full h.owns) account)) (sym c.self.view_is) in (
      (c.self.invariant.0.0, (subst (AreCounted m) (sym c.fill.ensures.held) (rows-kept m owns account _ rows c.self.invariant.0.1.0), c.self.invariant.0.1.1)),
      (
        subst (AreUsed (held token_cmp c.self.inside.tokens)) (sym c.fill.ensures.held) (used-added owns account _ (held token_cmp c.self.inside.tokens) c.self.inside.latest 0 None tt tokens c.self.invariant.1.0),
        (subst (AreVolumes (held vol_cmp c.self.inside.vols)) (sym c.fill.ensures.held) (volumes-kept (held vol_cmp c.self.inside.vols) owns account _ volumes c.self.invariant.1.1.0), c.self.invariant.1.1.1),
      ),
    )

pub returns-clause-rows : goal.returns-clause-rows
returns-clause-rows c =
    let account = c.args.account in
    let old = ap rows_in c.self.view_is in
    let own = ap (map_values own_in) c.fill.ensures.held ∙ map_values-insert nat_cmp_total own_in nat_cmp-IsAntisymmetric (held nat_cmp c.self.inside.owns) account _
    ∙ (λ i. insert (old i).own account c.args.own) in
    λ i. record { snaps = (old i).snaps; own = own i; tokens = (old i).tokens; vols = (old i).vols; books = (old i).books; policies = (old i).policies }
