use Rattle.std.proofs.Common.{List, ℕ, map, ap, ◌∙◌}
use Rattle.std.specs.Ordering.{nat_cmp}
use Rattle.std.specs.Cmp.{nat_cmp_total}
use Rattle.std.specs.FinMap.{nat_cmp-IsAntisymmetric, from_entries}
use Rattle.ebs_tables.specs.Full.{full}
use Rattle.ebs_tables.proofs.FullLaws.{full-empty}
use Rattle.ebs_restored_rows.specs.Placed.{put_all}
use Rattle.ebs_restored_rows.proofs.Putting.{Indexes, all-indexes, put-next, with_index}
use Rattle.ebs_restored_rows.proofs.snapshots.index_slots.Goals as goal

pub index-init : goal.index-init
index-init c =
    ap (λ (m : Indexes). put_all with_index m c.into_vec-rest.result.items) (ap full c.new-put.ensures ∙ full-empty nat_cmp_total nat_cmp-IsAntisymmetric)
    ∙ all-indexes c.into_vec-rest.result.items ∙ ap (λ (indexes : List ℕ). from_entries {R = nat_cmp} (map (λ i. (i, tt)) indexes)) c.into_vec-rest.ensures

pub index-preserved : goal.index-preserved
index-preserved c =
    put-next with_index (full c.index.put) (full c.fill.new.self) c.index.rest.items c.pop.new.self.items c.in-Some.index _ c.in-Some.ensures.items
    (c.fill.ensures.values ∙ ap (λ m. with_index m c.in-Some.index) c.in_ok-prepare.ensures.values) c.index.invariant
