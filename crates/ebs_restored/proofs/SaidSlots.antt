-- What a checkpoint's rules say of its slots, and that these count the entries of its lineage.
use Rattle.std.proofs.Common.{◌≡◌, true, List, subst}
use Rattle.std.specs.List.{list_all}
use Rattle.std.specs.Ordering.{nat_cmp}
use Rattle.ebs_model.specs.declared.policy.Policy.{Policy}
use Rattle.ebs_model.specs.declared.rules.Rule.{Rule}
use Rattle.ebs_model.specs.Keys.{snap_cmp, vol_cmp}
use Rattle.ebs_checkpoints.specs.declared.nodes.NodeRow.{NodeRow}
use Rattle.ebs_checkpoints.specs.declared.nodes.SlotRow.{SlotRow}
use Rattle.ebs_checkpoints.specs.declared.owned.VolPoint.{VolPoint}
use Rattle.ebs_checkpoints.specs.declared.snapshots.SnapPoint.{SnapPoint}
use Rattle.ebs_checkpoints.specs.declared.checkpoint.Checkpoint.{Checkpoint}
use Rattle.ebs_row_rules.specs.Numbers.{are_same, are_distinct}
use Rattle.ebs_row_rules.specs.Order.{ascends, policy_cmp, rule_cmp, has_ordered_rows, has_ordered_blocks, has_ordered_members, has_ordered_accounts}
use Rattle.ebs_row_rules.specs.Slots.{entry_blocks, keys, stamps, slots, is_block_slot, is_copy_slot, has_stamps, has_stored_entries, has_numbers, has_stored_copies, has_slots}
use Rattle.ebs_checkpoint_rules.specs.Rules.{HasRules}
use Rattle.ebs_checkpoint_rules.proofs.Ascents.{pairwise}
use Rattle.ebs_lawful_points.proofs.Parts.{three, four, five}
use Rattle.ebs_slots.specs.inner.Slots.{SlotTable}
use Rattle.ebs_regrown.specs.Counted.{HaveSlots, IsCountedBy}

module _ (point : Checkpoint) (rules : HasRules point) where
  lists : (has_ordered_rows point ≡ true) × (has_ordered_blocks point ≡ true) × (has_ordered_members point ≡ true)
  lists = three (has_ordered_rows point) (has_ordered_blocks point) (has_ordered_members point) rules.ordered

  stored : (has_stamps point ≡ true) × (has_stored_entries point ≡ true) × (has_numbers point ≡ true) × (has_stored_copies point ≡ true) × (has_slots point ≡ true)
  stored = five (has_stamps point) (has_stored_entries point) (has_numbers point) (has_stored_copies point) (has_slots point) rules.stored

  pub snaps-ascend : ascends snap_cmp (λ (s : SnapPoint). s.key) point.snapshots ≡ true
  snaps-ascend = (five (has_ordered_accounts point.accounts) (ascends snap_cmp (λ (s : SnapPoint). s.key) point.snapshots) (ascends vol_cmp (λ (v : VolPoint). v.row.key) point.volumes)
      (ascends rule_cmp (λ (r : Rule). r.key) point.rules) (ascends policy_cmp (λ (p : Policy). p.key) point.policies) lists.0).1

  pub slots-fit : HaveSlots point.standard
  slots-fit =
      let blocks = three (ascends nat_cmp (λ (n : NodeRow). n.number) point.nodes) (ascends nat_cmp (λ (s : SlotRow). s.key) point.standard) (ascends nat_cmp (λ (s : SlotRow). s.key) point.archive) lists.1 in
      let places = four (list_all is_block_slot (slots point.standard)) (are_distinct (slots point.standard)) (list_all is_copy_slot (slots point.archive)) (are_distinct (slots point.archive)) stored.4 in
      record { ascend = pairwise (λ (s : SlotRow). s.key) point.standard blocks.1; apart = places.1; small = places.0 }

  pub entries-stored : are_same (stamps (entry_blocks point.nodes)) (keys point.standard) ≡ true
  entries-stored = stored.1

pub counted-is : (rows nodes : List NodeRow) (given standard : List SlotRow) (s : SlotTable) → rows ≡ nodes → given ≡ standard → IsCountedBy rows given s → IsCountedBy nodes standard s
counted-is rows nodes given standard s is same counted = subst (λ (p : List NodeRow × List SlotRow). IsCountedBy p.0 p.1 s) (λ i. (is i, same i)) counted
