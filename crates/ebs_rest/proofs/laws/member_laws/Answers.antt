use Rattle.ebs_rest.proofs.OrderLaws.{get_others, list_others, changed_others, describe_others, rows_others, permission_others, delete_others, lock_others, unlock_others, archive_others, restore_others, create_others, create_snapshot_others, write_block_others, read_block_others, describe_volume_others, delete_volume_others}
use Rattle.ebs_rest.proofs.RuleOrderLaws.{create_rule_others, get_rule_others, update_rule_others, delete_rule_others, lock_rule_others, unlock_rule_others, list_bin_others, restore_from_bin_others}
use Rattle.ebs_rest.proofs.PolicyOrderLaws.{create_policy_others, get_policy_others, delete_policy_others, run_policy_others}
use Rattle.ebs_rest.proofs.laws.member_laws.Goals as goal

pub returns : goal.returns
returns c = record {
  get = get_others;
  list = list_others;
  changed = changed_others;
  describe = describe_others;
  rows = rows_others;
  permission = permission_others;
  delete = delete_others;
  lock = lock_others;
  unlock = unlock_others;
  archive = archive_others;
  restore = restore_others;
  create = create_others;
  create_snapshot = create_snapshot_others;
  write_block = write_block_others;
  read_block = read_block_others;
  describe_volume = describe_volume_others;
  delete_volume = delete_volume_others;
  create_rule = create_rule_others;
  get_rule = get_rule_others;
  update_rule = update_rule_others;
  delete_rule = delete_rule_others;
  lock_rule = lock_rule_others;
  unlock_rule = unlock_rule_others;
  list_bin = list_bin_others;
  restore_from_bin = restore_from_bin_others;
  create_policy = create_policy_others;
  get_policy = get_policy_others;
  delete_policy = delete_policy_others;
  run_policy = run_policy_others;
}
