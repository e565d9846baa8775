use Rattle.std.proofs.Common.{ap, ◌∙◌}
use Rattle.std.specs.List.{filter}
use Rattle.std.specs.FinMap.{entries}
use Rattle.std.specs.Ordering.{is_le}
use Rattle.ebs_tables.specs.Seen.{is_within}
use Rattle.ebs_tables.specs.Full.{full, held}
use Rattle.ebs_model.specs.Keys.{vol_cmp}
use Rattle.ebs_catalog.specs.Held.{Held}
use Rattle.ebs_catalog.specs.Runs.{is_own_target}
use Rattle.ebs_catalog.proofs.VolumeWalks.{first_volume, targets-until, targets-from}
use Rattle.ebs_catalog.proofs.catalog.Catalog.volumes_from.Goals as goal

pub returns-in-Some-clause-values : goal.returns-in-Some-clause-values
returns-in-Some-clause-values c = λ p.
    let account = c.args.account in
    let own = is_own_target account p in
    let m = held vol_cmp c.self.inside.vols in
    ap (filter own) (c.until.ensures.values ∙ (λ i. filter (λ e. is_within vol_cmp (c.first_volume-start.ensures i) (c.first_volume.ensures i) e.0) (entries m)) ∙ ap (λ n. filter (λ e. is_within vol_cmp (first_volume account) (first_volume n) e.0) (entries m)) c.in-Some.ensures)
    ∙ targets-until account p (entries m)
    ∙ ap (λ (h : Held). filter own (entries (full h.vols))) c.self.view_is

pub returns-in-None-clause-values : goal.returns-in-None-clause-values
returns-in-None-clause-values c = λ p.
    let account = c.args.account in
    let own = is_own_target account p in
    let m = held vol_cmp c.self.inside.vols in
    ap (filter own) (c.from.ensures.values ∙ (λ i. filter (λ e. is_le (vol_cmp (c.first_volume-start.ensures i) e.0)) (entries m)))
    ∙ targets-from account p (entries m)
    ∙ ap (λ (h : Held). filter own (entries (full h.vols))) c.self.view_is
