use Rattle.std.proofs.Common.{sym, ap, subst, ◌∙◌}
use Rattle.ebs_tables.specs.Full.{held}
use Rattle.ebs_model.specs.Keys.{snap_cmp}
use Rattle.ebs_model.specs.inner.Orders.{snaps_total, exact_snaps}
use Rattle.ebs_model.specs.inner.MapValues.{map_values}
use Rattle.ebs_bin.specs.Books.{book}
use Rattle.ebs_catalog.specs.Held.{whole, own_in}
use Rattle.ebs_catalog.specs.Sound.{IsSound, AreCounted, AreUsed, AreVolumes, AreSoundVolumes, AreBooks, AreAwaited}
use Rattle.ebs_catalog.proofs.RowsKept.{rows_of, sound-empty}
use Rattle.ebs_catalog.proofs.Stale.{stale_in}
use Rattle.std.specs.Cmp.{nat_cmp_total}
use Rattle.std.specs.FinMap.{nat_cmp-IsAntisymmetric}
use Rattle.ebs_model.proofs.Values.{map_values-empty}
use Rattle.ebs_catalog.proofs.Stale.{stale-empty}
use Rattle.ebs_catalog.proofs.RowsKept.{Kept}
use Rattle.ebs_catalog.proofs.CountedRows.{Accounts, counted-empty}
use Rattle.ebs_catalog.proofs.UsedTokens.{Tokens, used-empty}
use Rattle.ebs_catalog.proofs.CountedVolumes.{Volumes, volumes-empty}
use Rattle.ebs_catalog.proofs.Awaited.{awaited-empty}
use Rattle.ebs_catalog.proofs.SoundVolumes.{no-volumes}
use Rattle.ebs_catalog.proofs.Shelves.{no-books}
use Rattle.ebs_catalog.proofs.catalog.Catalog.new.Goals as goal

pub invariant_of-result : goal.invariant_of-result
invariant_of-result c = ((subst IsSound (sym c.new.ensures.held) sound-empty, (subst (λ (x : Kept × Accounts). AreCounted x.0 x.1) (λ i. (sym c.new.ensures.held i, sym c.new-2.ensures.held i)) counted-empty, subst (λ x. AreAwaited x (held snap_cmp c.new-6.result) 0) (sym c.new.ensures.held) (awaited-empty (held snap_cmp c.new-6.result) 0))), (subst (λ (x : Tokens × Accounts). AreUsed x.0 x.1) (λ i. (sym c.new-3.ensures.held i, sym c.new-2.ensures.held i)) used-empty, (subst (λ (x : Volumes × Accounts). AreVolumes x.0 x.1) (λ i. (sym c.new-4.ensures.held i, sym c.new-2.ensures.held i)) volumes-empty, (subst AreSoundVolumes (sym c.new-4.ensures.held) no-volumes, subst AreBooks (sym c.new-5.ensures.held) no-books))))

pub returns-clause-rows : goal.returns-clause-rows
returns-clause-rows c =
    let snaps = ap (map_values whole) c.new.ensures.held ∙ map_values-empty snaps_total whole exact_snaps in
    let own = ap (map_values own_in) c.new-2.ensures.held ∙ map_values-empty nat_cmp_total own_in nat_cmp-IsAntisymmetric in
    let books = ap (map_values book) c.new-5.ensures.held ∙ map_values-empty nat_cmp_total book nat_cmp-IsAntisymmetric in
    λ i. record { snaps = snaps i; own = own i; tokens = c.new-3.ensures.held i; vols = c.new-4.ensures.held i; books = books i; policies = c.new-7.ensures.policies i }

pub returns-clause-stale : goal.returns-clause-stale
returns-clause-stale c = λ now. ap (λ w. stale_in (rows_of (held snap_cmp c.new.result)) w now) c.new-6.ensures.held ∙ stale-empty _ now
