use Rattle.std.proofs.Common.{sym, ap, subst, ◌∙◌}
use Rattle.std.specs.Ordering.{nat_cmp}
use Rattle.std.specs.FinMap.{remove}
use Rattle.ebs_tables.specs.Full.{full, held}
use Rattle.ebs_tables.proofs.FullLaws.{remove-none}
use Rattle.ebs_model.specs.Keys.{snap_cmp, vol_cmp, token_cmp}
use Rattle.ebs_model.specs.inner.Orders.{vols_total, exact_vols}
use Rattle.ebs_model.specs.inner.MapValues.{map_values}
use Rattle.ebs_bin.specs.Books.{book}
use Rattle.ebs_catalog.specs.Held.{Held, rows_in, own_in}
use Rattle.ebs_catalog.specs.Sound.{AreVolumes, AreSoundVolumes, AreBooks}
use Rattle.ebs_catalog.proofs.RowsKept.{rows_of}
use Rattle.ebs_catalog.proofs.CountedVolumes.{volumes-removed, one-volume, rows-stay, tokens-stay}
use Rattle.ebs_catalog.proofs.SoundVolumes.{volume-removed}
use Rattle.ebs_catalog.proofs.catalog.Catalog.commit_drop.Goals as goal

pub invariant_of-self : goal.invariant_of-self
invariant_of-self c =
    let v = held vol_cmp c.self.inside.vols in
    let same = c.remove.ensures.held ∙ remove-none vols_total exact_vols v c.args.key.now (sym c.in_default.ensures.value) in
    (c.self.invariant.0, (c.self.invariant.1.0, subst (λ x. AreVolumes x (held nat_cmp c.self.inside.owns) × (AreSoundVolumes x × AreBooks (held nat_cmp c.self.inside.books))) (sym same) c.self.invariant.1.1))

pub returns-in_default-clause-rows : goal.returns-in_default-clause-rows
returns-in_default-clause-rows c =
    (λ i. record { snaps = rows_of (held snap_cmp c.self.inside.snaps); own = map_values own_in (held nat_cmp c.self.inside.owns); tokens = held token_cmp c.self.inside.tokens; vols = c.remove.ensures.held i; books = map_values book (held nat_cmp c.self.inside.books); policies = full c.self.inside.policies })
    ∙ ap (λ (h : Held). record (rows_in h) { vols = remove (rows_in h).vols c.args.key.now }) c.self.view_is

pub one_volume_less-requires : goal.one_volume_less-requires
one_volume_less-requires c = one-volume (held vol_cmp c.self.inside.vols) (held nat_cmp c.self.inside.owns) c.args.key.now c.in-Some._gone (sym c.in-Some.ensures.value) c.self.invariant.1.1.0

pub invariant_of-self-2 : goal.invariant_of-self-2
invariant_of-self-2 c =
    let less = c.one_volume_less.ensures in
    let left = volumes-removed (held vol_cmp c.self.inside.vols) _ _ c.args.key.now c.in-Some._gone (sym c.in-Some.ensures.value) less c.self.invariant.1.1.0 in (
      (c.self.invariant.0.0, (rows-stay _ _ _ _ less c.self.invariant.0.1.0, c.self.invariant.0.1.1)),
      (tokens-stay _ _ _ _ less c.self.invariant.1.0, (subst (λ x. AreVolumes x (held nat_cmp c.one_volume_less.new.owns)) (sym c.remove.ensures.held) left, (subst AreSoundVolumes (sym c.remove.ensures.held) (volume-removed (held vol_cmp c.self.inside.vols) c.args.key.now c.self.invariant.1.1.1.0), c.self.invariant.1.1.1.1))),
    )

pub returns-clause-rows : goal.returns-clause-rows
returns-clause-rows c =
    (λ i. record { snaps = rows_of (held snap_cmp c.self.inside.snaps); own = c.one_volume_less.ensures.own i; tokens = held token_cmp c.self.inside.tokens; vols = c.remove.ensures.held i; books = map_values book (held nat_cmp c.self.inside.books); policies = full c.self.inside.policies })
    ∙ ap (λ (h : Held). record (rows_in h) { vols = remove (rows_in h).vols c.args.key.now }) c.self.view_is
