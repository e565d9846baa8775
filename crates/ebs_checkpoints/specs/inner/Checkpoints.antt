-- Beside what is promised: checkpoints.
use Rattle.std.proofs.Common.{◌++◌, refl}
use Rattle.ebs_checkpoints.specs.declared.checkpoint.Checkpoint.{Checkpoint}
use Rattle.ebs_records.specs.inner.Apart.{Apart, apart_pair, apart_by}
use Rattle.ebs_records.specs.Fields.{IsLong, long, IsMoment, moment, IsDigest, digest, AreMembers, members}
use Rattle.ebs_records.specs.inner.Numbers.{apart_long}
use Rattle.ebs_records.specs.inner.Keys.{apart_moment}
use Rattle.ebs_records.specs.inner.Lists.{apart_digest, apart_members}
use Rattle.ebs_checkpoints.specs.Owned.{IsAccountRow, account_row, IsVolPoint, vol_point}
use Rattle.ebs_checkpoints.specs.inner.Owned.{apart_account_row, apart_vol_point}
use Rattle.ebs_checkpoints.specs.Snapshots.{IsSnapPoint, snap_point}
use Rattle.ebs_checkpoints.specs.inner.Snapshots.{apart_snap_point}
use Rattle.ebs_records.specs.inner.Policies.{apart_rule_row, apart_policy}
use Rattle.ebs_records.specs.Policies.{IsRuleRow, rule_row, IsPolicy, policy}
use Rattle.ebs_checkpoints.specs.Nodes.{IsNode, node, IsSlot, slot}
use Rattle.ebs_checkpoints.specs.inner.Nodes.{apart_node, apart_slot}
use Rattle.ebs_checkpoints.specs.Checkpoints.{AreBlocks, AreRows, HasSpelling, IsHead, blocks, head, rows, spelled}

apart_accounts : Apart (AreMembers IsAccountRow) (members account_row)
apart_accounts = apart_members IsAccountRow account_row apart_account_row

apart_snapshots : Apart (AreMembers IsSnapPoint) (members snap_point)
apart_snapshots = apart_members IsSnapPoint snap_point apart_snap_point

apart_volumes : Apart (AreMembers IsVolPoint) (members vol_point)
apart_volumes = apart_members IsVolPoint vol_point apart_vol_point

apart_rules : Apart (AreMembers IsRuleRow) (members rule_row)
apart_rules = apart_members IsRuleRow rule_row apart_rule_row

apart_policies : Apart (AreMembers IsPolicy) (members policy)
apart_policies = apart_members IsPolicy policy apart_policy

apart_nodes : Apart (AreMembers IsNode) (members node)
apart_nodes = apart_members IsNode node apart_node

apart_slots : Apart (AreMembers IsSlot) (members slot)
apart_slots = apart_members IsSlot slot apart_slot

apart_head : Apart IsHead head
apart_head = apart_pair IsMoment moment _ _ apart_moment (apart_pair IsLong long _ _ apart_long (apart_pair IsLong long _ _ apart_long (apart_pair IsLong long IsDigest digest apart_long apart_digest)))

apart_rows : Apart AreRows rows
apart_rows = apart_pair (AreMembers IsAccountRow) (members account_row) _ _ apart_accounts (apart_pair (AreMembers IsSnapPoint) (members snap_point) _ _ apart_snapshots (apart_pair (AreMembers IsVolPoint) (members vol_point) _ _ apart_volumes (apart_pair (AreMembers IsRuleRow) (members rule_row) (AreMembers IsPolicy) (members policy) apart_rules apart_policies)))

apart_blocks : Apart AreBlocks blocks
apart_blocks = apart_pair (AreMembers IsNode) (members node) _ _ apart_nodes (apart_pair (AreMembers IsSlot) (members slot) (AreMembers IsSlot) (members slot) apart_slots apart_slots)

pub apart_checkpoint : Apart HasSpelling spelled
apart_checkpoint = apart_by {V = Checkpoint} (λ v. ((v.clock, (v.accepted, (v.next_stamp, (v.next_copy, v.secret)))), ((v.accounts, (v.snapshots, (v.volumes, (v.rules, v.policies)))), (v.nodes, (v.standard, v.archive))))) (λ p. record { clock = p.0.0; accepted = p.0.1.0; next_stamp = p.0.1.1.0; next_copy = p.0.1.1.1.0; secret = p.0.1.1.1.1; accounts = p.1.0.0; snapshots = p.1.0.1.0; volumes = p.1.0.1.1.0; rules = p.1.0.1.1.1.0; policies = p.1.0.1.1.1.1; nodes = p.1.1.0; standard = p.1.1.1.0; archive = p.1.1.1.1 })
    (λ p. IsHead p.0 × (AreRows p.1.0 × AreBlocks p.1.1)) (λ p. head p.0 ++ (rows p.1.0 ++ blocks p.1.1)) (λ v. refl)
    (apart_pair IsHead head _ _ apart_head (apart_pair AreRows rows AreBlocks blocks apart_rows apart_blocks))
