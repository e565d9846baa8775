use Rattle.std.proofs.Common.{◌≡◌}
use Rattle.std.specs.List.{AllByRecursion}
use Rattle.ebs_model.specs.declared.rows.VolRow.{VolRow}
use Rattle.ebs_checkpoints.specs.declared.owned.VolPoint.{VolPoint}
use Rattle.ebs_holds.specs.Holders.{of_vol}
use Rattle.ebs_point_rules.specs.Values.{HasVolValues}
use Rattle.ebs_pointed.specs.Nodes.{number_or}
use Rattle.ebs_pointed.proofs.Listing.{IsListing}
use Rattle.ebs_pointed.proofs.volumes.points_of.Given as goal

abbrev pub invariant-loop-row : goal.invariant-loop-row
invariant-loop-row l = record {
  listed : IsListing (λ (v : VolPoint). (v.row.key, v.row)) (λ (row : VolRow). row.key) l.points l.row-iterator l.initial.row-iterator;
  nodes : AllByRecursion (λ (v : VolPoint). v.node ≡ number_or l.holdings (of_vol v.row.key)) l.points;
  values : AllByRecursion HasVolValues l.points;
}
