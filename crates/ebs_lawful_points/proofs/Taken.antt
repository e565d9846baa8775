-- The rules of a checkpoint, one by one.
use Rattle.std.proofs.Common.{◌≡◌, true, ◌&&◌}
use Rattle.std.specs.Prelude.{nat_le, nat_lt}
use Rattle.std.specs.List.{list_all}
use Rattle.ebs_model.specs.Quotas.{most_changes}
use Rattle.ebs_records.specs.Records.{is_moment}
use Rattle.ebs_checkpoints.specs.declared.checkpoint.Checkpoint.{Checkpoint}
use Rattle.ebs_row_rules.specs.Order.{has_ordered_rows, has_ordered_blocks, has_ordered_members, has_ordered_accounts, has_ordered_tokens, has_ordered_parts, has_ordered_entries}
use Rattle.ebs_row_rules.specs.Limits.{is_account_within, is_snapshot_within, is_volume_within, is_rule_within, is_policy_within, is_node_within}
use Rattle.ebs_row_rules.specs.Owners.{is_owned_snapshot, is_owned_volume, is_owned_rule, is_owned_policy, has_used_tokens}
use Rattle.ebs_row_rules.specs.Slots.{has_stamps, has_stored_entries, has_numbers, has_stored_copies, has_slots, stamps, blocks_of}
use Rattle.ebs_row_rules.specs.Stamps.{have_one_digest}
use Rattle.ebs_node_rules.specs.Arrays.{arrays_of, fits_array, volume_fits}
use Rattle.ebs_checkpoint_rules.specs.Rules.{HasRules}
use Rattle.ebs_lawful_points.proofs.Parts.{two, three, four, five}

-- each of its rows passes these tests
pub record AreWithin (point : Checkpoint) : Type 0 where
  pub clock : is_moment point.clock ≡ true
  pub accepted : nat_le point.accepted most_changes ≡ true
  pub accounts : list_all is_account_within point.accounts ≡ true
  pub snapshots : list_all is_snapshot_within point.snapshots ≡ true
  pub volumes : list_all is_volume_within point.volumes ≡ true
  pub rules : list_all is_rule_within point.rules ≡ true
  pub policies : list_all is_policy_within point.policies ≡ true

pub record AreOwned (point : Checkpoint) : Type 0 where
  pub snapshots : list_all (is_owned_snapshot point.accounts) point.snapshots ≡ true
  pub volumes : list_all (is_owned_volume point.accounts) point.volumes ≡ true
  pub rules : list_all (is_owned_rule point.accounts) point.rules ≡ true
  pub policies : list_all (is_owned_policy point.accounts) point.policies ≡ true
  pub tokens : list_all has_used_tokens point.accounts ≡ true

module _ (point : Checkpoint) (rules : HasRules point) where
  pub within : AreWithin point
  within =
      let snapshots = list_all is_snapshot_within point.snapshots in
      let volumes = list_all is_volume_within point.volumes in
      let rest = list_all is_rule_within point.rules && (list_all is_policy_within point.policies && list_all is_node_within point.nodes) in
      let front = four (is_moment point.clock) (nat_le point.accepted most_changes) (list_all is_account_within point.accounts) (snapshots && (volumes && rest)) rules.within in
      let back = five snapshots volumes (list_all is_rule_within point.rules) (list_all is_policy_within point.policies) (list_all is_node_within point.nodes) front.3 in
      record { clock = front.0; accepted = front.1; accounts = front.2; snapshots = back.0; volumes = back.1; rules = back.2; policies = back.3 }

  pub owned : AreOwned point
  owned =
      let all = five (list_all (is_owned_snapshot point.accounts) point.snapshots) (list_all (is_owned_volume point.accounts) point.volumes)
      (list_all (is_owned_rule point.accounts) point.rules) (list_all (is_owned_policy point.accounts) point.policies) (list_all has_used_tokens point.accounts) rules.owned in
      record { snapshots = all.0; volumes = all.1; rules = all.2; policies = all.3; tokens = all.4 }

  pub stamped : nat_le point.next_stamp point.accepted ≡ true
  stamped =
      let all = two (has_stamps point) (has_stored_entries point && (has_numbers point && (has_stored_copies point && has_slots point))) rules.stored in
      (two (nat_le point.next_stamp point.accepted) (list_all (λ n. nat_lt n point.next_stamp) (stamps (blocks_of point)) && have_one_digest (blocks_of point)) all.0).0

  pub arrays-fit : (list_all (fits_array point.nodes (arrays_of point.nodes)) point.snapshots ≡ true) × (list_all (volume_fits (arrays_of point.nodes)) point.volumes ≡ true)
  arrays-fit = two (list_all (fits_array point.nodes (arrays_of point.nodes)) point.snapshots) (list_all (volume_fits (arrays_of point.nodes)) point.volumes) rules.arrays

  parts : (has_ordered_rows point ≡ true) × (has_ordered_blocks point ≡ true) × (has_ordered_members point ≡ true)
  parts = three (has_ordered_rows point) (has_ordered_blocks point) (has_ordered_members point) rules.ordered

  members : (list_all has_ordered_tokens point.accounts ≡ true) × (list_all has_ordered_parts point.snapshots ≡ true) × (list_all has_ordered_entries point.nodes ≡ true)
  members = three (list_all has_ordered_tokens point.accounts) (list_all has_ordered_parts point.snapshots) (list_all has_ordered_entries point.nodes) parts.2

  pub parts-ordered : list_all has_ordered_parts point.snapshots ≡ true
  parts-ordered = members.1

  pub accounts-ordered : has_ordered_accounts point.accounts ≡ true
  accounts-ordered = (two (has_ordered_accounts point.accounts) _ parts.0).0
