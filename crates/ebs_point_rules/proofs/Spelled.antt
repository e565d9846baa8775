-- A checkpoint that has the rules has a spelling.
use Rattle.std.proofs.Common.{◌≡◌, ◌≤◌, ◌^◌, arith, Bool, true, ◌&&◌, nat_le, List}
use Rattle.std.specs.Prelude.{nat_lt}
use Rattle.std.specs.List.{list_all, AllByRecursion}
use Rattle.ebs_model.specs.Quotas.{most_changes}
use Rattle.ebs_records.specs.Records.{is_moment}
use Rattle.ebs_records.specs.Policies.{IsRuleRow, IsPolicy}
use Rattle.ebs_checkpoints.specs.declared.owned.AccountRow.{AccountRow}
use Rattle.ebs_checkpoints.specs.declared.snapshots.SnapPoint.{SnapPoint}
use Rattle.ebs_checkpoints.specs.declared.nodes.NodeRow.{NodeRow}
use Rattle.ebs_checkpoints.specs.declared.checkpoint.Checkpoint.{Checkpoint}
use Rattle.ebs_checkpoints.specs.Nodes.{IsNode}
use Rattle.ebs_checkpoints.specs.Owned.{IsAccountRow, IsVolPoint}
use Rattle.ebs_checkpoints.specs.Snapshots.{IsSnapPoint}
use Rattle.ebs_checkpoints.specs.Checkpoints.{IsHead, AreRows}
use Rattle.ebs_row_rules.specs.Numbers.{are_distinct}
use Rattle.ebs_row_rules.specs.Order.{has_ordered_parts, has_ordered_entries}
use Rattle.ebs_row_rules.specs.Limits.{is_account_within, is_snapshot_within, is_volume_within, is_rule_within, is_policy_within, is_node_within}
use Rattle.ebs_row_rules.specs.Owners.{has_used_tokens}
use Rattle.ebs_row_rules.specs.Slots.{has_stamps, has_stored_entries, has_numbers, has_stored_copies, has_slots, numbers, copies_of}
use Rattle.ebs_checkpoint_rules.specs.Rules.{HasRules}
use Rattle.ebs_lawful_points.proofs.Parts.{three, four, five, each-of, weaker, both}
use Rattle.ebs_lawful_points.proofs.SnapPoints.{no_more}
use Rattle.ebs_lawful_points.proofs.Taken.{within, owned, stamped}
use Rattle.ebs_point_rules.specs.Values.{HasAccountValues, HasSnapValues, HasVolValues, HasRuleValues, HasPolicyValues, HasNodeValues, HasValues}
use Rattle.ebs_point_rules.specs.Laws.{RulesGiveSpelling}
use Rattle.ebs_point_rules.proofs.Rows.{parts-up, entries-up}
use Rattle.ebs_point_rules.proofs.Calls.{moment-long}
use Rattle.ebs_point_rules.proofs.SpelledRows.{account-spelled, snap-spelled, vol-spelled, rule-spelled, policy-spelled, node-spelled}

-- what passes a test and has its values
module _ {X : Type 0} (test : X → Bool) (V S : X → Type 0) (spelled : (x : X) → test x ≡ true → V x → S x) where
  each-spelled : (xs : List X) → list_all test xs ≡ true → AllByRecursion V xs → AllByRecursion S xs
  each-spelled xs all values = weaker (λ (x : X). (test x ≡ true) × V x) S (λ x h. spelled x h.0 h.1) xs (both (λ (x : X). test x ≡ true) V xs (each-of test xs all) values)

module _ (point : Checkpoint) (rules : HasRules point) (values : HasValues point) where
  next-copy : point.next_copy ≤ 2 ^ 42
  next-copy =
      let all = four (has_stamps point) (has_stored_entries point) (has_numbers point) (has_stored_copies point && has_slots point) rules.stored in
      let numbered = three (nat_le point.next_copy (2 ^ 42)) (list_all (λ n. nat_lt n point.next_copy) (numbers (copies_of point.snapshots))) (are_distinct (numbers (copies_of point.snapshots))) all.2 in
      no_more point.next_copy (2 ^ 42) numbered.0

  nodes-within : list_all is_node_within point.nodes ≡ true
  nodes-within =
      let snapshots = list_all is_snapshot_within point.snapshots in
      let volumes = list_all is_volume_within point.volumes in
      let rest = list_all is_rule_within point.rules && (list_all is_policy_within point.policies && list_all is_node_within point.nodes) in
      let front = four (is_moment point.clock) (nat_le point.accepted most_changes) (list_all is_account_within point.accounts) (snapshots && (volumes && rest)) rules.within in
      (five snapshots volumes (list_all is_rule_within point.rules) (list_all is_policy_within point.policies) (list_all is_node_within point.nodes) front.3).4

  head-spelled : IsHead (point.clock, (point.accepted, (point.next_stamp, (point.next_copy, point.secret))))
  head-spelled =
      let inside = within point rules in
      let accepted = no_more point.accepted most_changes inside.accepted in
      let stamps = no_more point.next_stamp point.accepted (stamped point rules) in
      let copies = next-copy in
      (moment-long point.clock inside.clock, (omega (arith, accepted), (omega (arith, stamps, accepted), (omega (arith, copies), values.secret))))

  accounts-spelled : AllByRecursion IsAccountRow point.accounts
  accounts-spelled =
      let inside = within point rules in
      let mine = owned point rules in
      weaker (λ (a : AccountRow). (is_account_within a ≡ true) × ((has_used_tokens a ≡ true) × HasAccountValues a)) IsAccountRow (λ a h. account-spelled a h.0 h.1.0 h.1.1) point.accounts
      (both (λ (a : AccountRow). is_account_within a ≡ true) (λ (a : AccountRow). (has_used_tokens a ≡ true) × HasAccountValues a) point.accounts (each-of is_account_within point.accounts inside.accounts)
      (both (λ (a : AccountRow). has_used_tokens a ≡ true) HasAccountValues point.accounts (each-of has_used_tokens point.accounts mine.tokens) values.accounts))

  snaps-spelled : AllByRecursion IsSnapPoint point.snapshots
  snaps-spelled =
      let inside = within point rules in
      weaker (λ (p : SnapPoint). (is_snapshot_within p ≡ true) × ((has_ordered_parts p ≡ true) × HasSnapValues p)) IsSnapPoint (λ p h. snap-spelled p h.0 h.1.0 h.1.1) point.snapshots
      (both (λ (p : SnapPoint). is_snapshot_within p ≡ true) (λ (p : SnapPoint). (has_ordered_parts p ≡ true) × HasSnapValues p) point.snapshots (each-of is_snapshot_within point.snapshots inside.snapshots)
      (both (λ (p : SnapPoint). has_ordered_parts p ≡ true) HasSnapValues point.snapshots (each-of has_ordered_parts point.snapshots (parts-up point rules.ordered)) values.snapshots))

  nodes-spelled : AllByRecursion IsNode point.nodes
  nodes-spelled =
      weaker (λ (n : NodeRow). (is_node_within n ≡ true) × ((has_ordered_entries n ≡ true) × HasNodeValues n)) IsNode (λ n h. node-spelled n h.0 h.1.0 h.1.1) point.nodes
      (both (λ (n : NodeRow). is_node_within n ≡ true) (λ (n : NodeRow). (has_ordered_entries n ≡ true) × HasNodeValues n) point.nodes (each-of is_node_within point.nodes nodes-within)
      (both (λ (n : NodeRow). has_ordered_entries n ≡ true) HasNodeValues point.nodes (each-of has_ordered_entries point.nodes (entries-up point rules.ordered)) values.nodes))

  rows-spelled : AreRows (point.accounts, (point.snapshots, (point.volumes, (point.rules, point.policies))))
  rows-spelled =
      let inside = within point rules in
      let short = values.short in (
        (short.accounts, accounts-spelled),
        (
          (short.snapshots, snaps-spelled),
          (
            (short.volumes, each-spelled is_volume_within HasVolValues IsVolPoint vol-spelled point.volumes inside.volumes values.volumes),
            (
              (short.rules, each-spelled is_rule_within HasRuleValues IsRuleRow rule-spelled point.rules inside.rules values.rules),
              (short.policies, each-spelled is_policy_within HasPolicyValues IsPolicy policy-spelled point.policies inside.policies values.policies),
            ),
          ),
        ),
      )

pub rules-spell : RulesGiveSpelling
rules-spell point rules values =
    let short = values.short in
    (head-spelled point rules values, (rows-spelled point rules values, ((short.nodes, nodes-spelled point rules values), ((short.standard, values.standard), (short.archive, values.archive)))))
