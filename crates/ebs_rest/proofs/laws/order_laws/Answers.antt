use Rattle.ebs_rest.proofs.OrderLaws.{start_names, put_names, complete_names, get_names, list_names, changed_names, describe_names, rows_names, permission_names, delete_names, lock_names, unlock_names, archive_names, restore_names, create_names, create_snapshot_names, write_block_names, read_block_names, describe_volume_names, delete_volume_names}
use Rattle.ebs_rest.proofs.RuleOrderLaws.{create_rule_names, get_rule_names, update_rule_names, delete_rule_names, list_rules_names, lock_rule_names, unlock_rule_names, list_bin_names, restore_from_bin_names}
use Rattle.ebs_rest.proofs.PolicyOrderLaws.{create_policy_names, get_policy_names, delete_policy_names, run_policy_names}
use Rattle.ebs_rest.proofs.laws.order_laws.Goals as goal

pub returns : goal.returns
returns c = record {
  start = start_names;
  put = put_names;
  complete = complete_names;
  get = get_names;
  list = list_names;
  changed = changed_names;
  describe = describe_names;
  rows = rows_names;
  permission = permission_names;
  delete = delete_names;
  lock = lock_names;
  unlock = unlock_names;
  archive = archive_names;
  restore = restore_names;
  create = create_names;
  create_snapshot = create_snapshot_names;
  write_block = write_block_names;
  read_block = read_block_names;
  describe_volume = describe_volume_names;
  delete_volume = delete_volume_names;
  create_rule = create_rule_names;
  get_rule = get_rule_names;
  update_rule = update_rule_names;
  delete_rule = delete_rule_names;
  list_rules = list_rules_names;
  lock_rule = lock_rule_names;
  unlock_rule = unlock_rule_names;
  list_bin = list_bin_names;
  restore_from_bin = restore_from_bin_names;
  create_policy = create_policy_names;
  get_policy = get_policy_names;
  delete_policy = delete_policy_names;
  run_policy = run_policy_names;
}
