-- Checkpoints: all that a store is, without the bytes of its blocks.
use Rattle.std.proofs.Common.{ℕ, List, ◌++◌}
use Rattle.ebs_model.specs.declared.keys.Moment.{Moment}
use Rattle.ebs_model.specs.declared.rules.Rule.{Rule}
use Rattle.ebs_model.specs.declared.policy.Policy.{Policy}
use Rattle.ebs_checkpoints.specs.declared.owned.AccountRow.{AccountRow}
use Rattle.ebs_checkpoints.specs.declared.owned.VolPoint.{VolPoint}
use Rattle.ebs_checkpoints.specs.declared.snapshots.SnapPoint.{SnapPoint}
use Rattle.ebs_checkpoints.specs.declared.nodes.NodeRow.{NodeRow}
use Rattle.ebs_checkpoints.specs.declared.nodes.SlotRow.{SlotRow}
use Rattle.ebs_checkpoints.specs.declared.checkpoint.Checkpoint.{Checkpoint}
use Rattle.ebs_records.specs.Fields.{IsLong, long, IsMoment, moment, IsDigest, digest, AreMembers, members}
use Rattle.ebs_checkpoints.specs.Owned.{IsAccountRow, account_row, IsVolPoint, vol_point}
use Rattle.ebs_checkpoints.specs.Snapshots.{IsSnapPoint, snap_point}
use Rattle.ebs_records.specs.Policies.{IsRuleRow, rule_row, IsPolicy, policy}
use Rattle.ebs_checkpoints.specs.Nodes.{IsNode, node, IsSlot, slot}

-- the clock, the accepted changes, the next stamp and copy, and the secret
abbrev pub Head : Type 0
Head = Moment × (ℕ × (ℕ × (ℕ × List ℕ)))

abbrev pub IsHead : Head → Type 0
IsHead g = IsMoment g.0 × (IsLong g.1.0 × (IsLong g.1.1.0 × (IsLong g.1.1.1.0 × IsDigest g.1.1.1.1)))

abbrev pub head : Head → List ℕ
head g = moment g.0 ++ (long g.1.0 ++ (long g.1.1.0 ++ (long g.1.1.1.0 ++ digest g.1.1.1.1)))

-- accounts, snapshots, volumes, rules and policies
abbrev pub Rows : Type 0
Rows = List AccountRow × (List SnapPoint × (List VolPoint × (List Rule × List Policy)))

abbrev pub AreRows : Rows → Type 0
AreRows g = AreMembers IsAccountRow g.0 × (AreMembers IsSnapPoint g.1.0 × (AreMembers IsVolPoint g.1.1.0 × (AreMembers IsRuleRow g.1.1.1.0 × AreMembers IsPolicy g.1.1.1.1)))

abbrev pub rows : Rows → List ℕ
rows g = members account_row g.0 ++ (members snap_point g.1.0 ++ (members vol_point g.1.1.0 ++ (members rule_row g.1.1.1.0 ++ members policy g.1.1.1.1)))

-- nodes, and the slots of both areas
abbrev pub Blocks : Type 0
Blocks = List NodeRow × (List SlotRow × List SlotRow)

abbrev pub AreBlocks : Blocks → Type 0
AreBlocks g = AreMembers IsNode g.0 × (AreMembers IsSlot g.1.0 × AreMembers IsSlot g.1.1)

abbrev pub blocks : Blocks → List ℕ
blocks g = members node g.0 ++ (members slot g.1.0 ++ members slot g.1.1)

-- a whole checkpoint
abbrev pub HasSpelling : Checkpoint → Type 0
HasSpelling v = IsHead (v.clock, (v.accepted, (v.next_stamp, (v.next_copy, v.secret)))) × (AreRows (v.accounts, (v.snapshots, (v.volumes, (v.rules, v.policies)))) × AreBlocks (v.nodes, (v.standard, v.archive)))

abbrev pub spelled : Checkpoint → List ℕ
spelled v = head (v.clock, (v.accepted, (v.next_stamp, (v.next_copy, v.secret)))) ++ (rows (v.accounts, (v.snapshots, (v.volumes, (v.rules, v.policies)))) ++ blocks (v.nodes, (v.standard, v.archive)))
