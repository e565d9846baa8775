-- Where the machine has what a checkpoint in order lists.
use Rattle.std.proofs.Common.{◌≡◌, true, Some}
use Rattle.std.specs.List.{list_all, AllByRecursion}
use Rattle.std.specs.FinMap.{get}
use Rattle.ebs_model.specs.declared.policy.Policy.{Policy}
use Rattle.ebs_model.specs.declared.rules.Rule.{Rule}
use Rattle.ebs_model.specs.Keys.{snap_cmp, vol_cmp}
use Rattle.ebs_model.specs.inner.Orders.{snaps_total, vols_total}
use Rattle.ebs_checkpoints.specs.declared.owned.VolPoint.{VolPoint}
use Rattle.ebs_checkpoints.specs.declared.snapshots.SnapPoint.{SnapPoint}
use Rattle.ebs_checkpoints.specs.declared.checkpoint.Checkpoint.{Checkpoint}
use Rattle.ebs_row_rules.specs.Order.{ascends, is_ordered, rule_cmp, policy_cmp, has_ordered_accounts, has_ordered_rows, has_ordered_blocks, has_ordered_members, has_ordered_tokens, has_ordered_parts, has_ordered_entries}
use Rattle.ebs_node_rules.specs.Arrays.{array_in, arrays_of}
use Rattle.ebs_recovery.specs.inner.Bases.{kept_array, snapshot_of, snaps_of, disks_of}
use Rattle.ebs_recovery.specs.Bases.{vols_of}
use Rattle.ebs_lawful_points.proofs.Parts.{three, five}
use Rattle.ebs_lawful_points.proofs.Ordered.{each-found}

module _ (point : Checkpoint) (up : is_ordered point ≡ true) where
  ordered : (has_ordered_rows point ≡ true) × (has_ordered_blocks point ≡ true) × (has_ordered_members point ≡ true)
  ordered = three (has_ordered_rows point) (has_ordered_blocks point) (has_ordered_members point) up

  rows-up : (has_ordered_accounts point.accounts ≡ true) × (ascends snap_cmp (λ (s : SnapPoint). s.key) point.snapshots ≡ true) × (ascends vol_cmp (λ (v : VolPoint). v.row.key) point.volumes ≡ true)
      × (ascends rule_cmp (λ (r : Rule). r.key) point.rules ≡ true) × (ascends policy_cmp (λ (p : Policy). p.key) point.policies ≡ true)
  rows-up = five (has_ordered_accounts point.accounts) (ascends snap_cmp (λ (s : SnapPoint). s.key) point.snapshots) (ascends vol_cmp (λ (v : VolPoint). v.row.key) point.volumes)
      (ascends rule_cmp (λ (r : Rule). r.key) point.rules) (ascends policy_cmp (λ (p : Policy). p.key) point.policies) ordered.0

  members-up : (list_all has_ordered_tokens point.accounts ≡ true) × (list_all has_ordered_parts point.snapshots ≡ true) × (list_all has_ordered_entries point.nodes ≡ true)
  members-up = three (list_all has_ordered_tokens point.accounts) (list_all has_ordered_parts point.snapshots) (list_all has_ordered_entries point.nodes) ordered.2

  pub parts-up : list_all has_ordered_parts point.snapshots ≡ true
  parts-up = members-up.1

  pub entries-up : list_all has_ordered_entries point.nodes ≡ true
  entries-up = members-up.2

  pub snaps-there : AllByRecursion (λ (p : SnapPoint). get (snaps_of point) p.key ≡ Some (snapshot_of (arrays_of point.nodes) p)) point.snapshots
  unfolding snaps_of
  snaps-there = each-found snaps_total (λ (p : SnapPoint). p.key) (snapshot_of (arrays_of point.nodes)) point.snapshots rows-up.1

  pub vols-there : AllByRecursion (λ (v : VolPoint). get (vols_of point) v.row.key ≡ Some v.row) point.volumes
  unfolding vols_of
  vols-there = each-found vols_total (λ (v : VolPoint). v.row.key) (λ (v : VolPoint). v.row) point.volumes rows-up.2

  pub disks-there : AllByRecursion (λ (v : VolPoint). get (disks_of point) v.row.key ≡ Some (kept_array (array_in (arrays_of point.nodes) (Some v.node)))) point.volumes
  unfolding disks_of
  disks-there = each-found vols_total (λ (v : VolPoint). v.row.key) (λ (v : VolPoint). kept_array (array_in (arrays_of point.nodes) (Some v.node))) point.volumes rows-up.2
