use Rattle.std.proofs.Common.{ap, ◌∙◌}
use Rattle.std.specs.List.{filter}
use Rattle.std.specs.Ordering.{is_le}
use Rattle.std.specs.FinMap.{entries}
use Rattle.ebs_tables.specs.Full.{held}
use Rattle.ebs_model.specs.Keys.{vol_cmp}
use Rattle.ebs_catalog.specs.Held.{Held, rows_in}
use Rattle.ebs_catalog.proofs.VolumeWalks.{first_volume}
use Rattle.ebs_catalog.proofs.AllRows.{all-kept, least-volume}
use Rattle.ebs_catalog.proofs.catalog.Catalog.volumes.Goals as goal

pub returns : goal.returns
returns c =
    let m = held vol_cmp c.self.inside.vols in
    let first = c.first_volume.ensures ∙ ap first_volume c.new.ensures in
    c.from.ensures.values ∙ (λ i. filter (λ e. is_le (vol_cmp (first i) e.0)) (entries m)) ∙ all-kept _ (λ e. least-volume e.0) (entries m) ∙ ap (λ (h : Held). entries (rows_in h).vols) c.self.view_is
