use Rattle.std.proofs.Common.{map, sym, ap, ◌∙◌}
use Rattle.std.specs.List.{filter}
use Rattle.std.specs.Ordering.{is_le}
use Rattle.std.specs.FinMap.{entries}
use Rattle.ebs_tables.specs.Full.{held}
use Rattle.ebs_model.specs.declared.keys.SnapKey.{SnapKey}
use Rattle.ebs_model.specs.Keys.{snap_cmp}
use Rattle.ebs_model.specs.inner.Orders.{snaps_total}
use Rattle.ebs_model.proofs.Values.{entries-map_values}
use Rattle.ebs_catalog.specs.declared.rows.KeptRow.{KeptRow}
use Rattle.ebs_catalog.specs.Held.{Held, rows_in, whole}
use Rattle.ebs_catalog.proofs.CountLaws.{first_of, le_first}
use Rattle.ebs_catalog.proofs.AllRows.{all-kept}
use Rattle.ebs_catalog.proofs.catalog.Catalog.snapshots.Goals as goal

pub returns : goal.returns
returns c =
    let m = held snap_cmp c.self.inside.snaps in
    let first = c.first_of.ensures ∙ ap first_of c.new.ensures in
    ap (map (λ (e : SnapKey × KeptRow). (e.0, whole e.1))) (c.from.ensures.values ∙ (λ i. filter (λ e. is_le (snap_cmp (first i) e.0)) (entries m)) ∙ all-kept _ (λ e. le_first e.0) (entries m))
    ∙ sym (entries-map_values snaps_total whole m) ∙ ap (λ (h : Held). entries (rows_in h).snaps) c.self.view_is
