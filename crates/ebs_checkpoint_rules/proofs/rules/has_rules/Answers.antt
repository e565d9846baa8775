use Rattle.std.proofs.Common.{rules, ◌≡◌, true}
use Rattle.ebs_row_rules.specs.Order.{is_ordered}
use Rattle.ebs_checkpoint_rules.proofs.Held.{held}
use Rattle.ebs_checkpoint_rules.proofs.rules.has_rules.Goals as goal

pub returns-in_ok-nodes_have_rules-clause-rules : goal.returns-in_ok-nodes_have_rules-clause-rules
returns-in_ok-nodes_have_rules-clause-rules c =
    let ordered : is_ordered c.args.point.now ≡ true = search rules in
    held c.args.point.now c.in_ok-rows_have_rules.field-0 c.in_ok-nodes_have_rules.field-0 ordered c.in_ok-rows_have_rules.ensures c.if-branch.true c.in_ok-nodes_have_rules.ensures.rules
