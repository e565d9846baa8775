use Rattle.ebs_laws.proofs.Ordered.{get-refused, put-refused, complete-refused, list-refused, comparison-refused}
use Rattle.ebs_laws.proofs.StartOrder.{start-refused}
use Rattle.ebs_laws.proofs.RowOrder.{describe-refused, own-list-refused, permission-refused, delete-refused, lock-refused, unlock-refused, archive-refused, restore-refused}
use Rattle.ebs_laws.proofs.VolumeOrder.{create-refused, snapshot-refused, write-refused, read-refused, describe-volume-refused, drop-refused}
use Rattle.ebs_laws.proofs.RuleOrder.{create_rule-refused, get_rule-refused, update_rule-refused, delete_rule-refused, list_rules-refused, lock_rule-refused, unlock_rule-refused, bin-list-refused, restore-bin-refused}
use Rattle.ebs_laws.proofs.PolicyOrder.{create_policy-refused, get_policy-refused, drop_policy-refused, run-refused}
use Rattle.ebs_laws.proofs.orders.refusals_have_order.Goals as goal

pub returns-clause-get : goal.returns-clause-get
returns-clause-get c = get-refused

pub returns-clause-put : goal.returns-clause-put
returns-clause-put c = put-refused

pub returns-clause-complete : goal.returns-clause-complete
returns-clause-complete c = complete-refused

pub returns-clause-list : goal.returns-clause-list
returns-clause-list c = list-refused

pub returns-clause-comparison : goal.returns-clause-comparison
returns-clause-comparison c = comparison-refused

pub returns-clause-start : goal.returns-clause-start
returns-clause-start c = start-refused

pub returns-clause-describe : goal.returns-clause-describe
returns-clause-describe c = describe-refused

pub returns-clause-own_list : goal.returns-clause-own_list
returns-clause-own_list c = own-list-refused

pub returns-clause-permission : goal.returns-clause-permission
returns-clause-permission c = permission-refused

pub returns-clause-delete : goal.returns-clause-delete
returns-clause-delete c = delete-refused

pub returns-clause-lock : goal.returns-clause-lock
returns-clause-lock c = lock-refused

pub returns-clause-unlock : goal.returns-clause-unlock
returns-clause-unlock c = unlock-refused

pub returns-clause-archive : goal.returns-clause-archive
returns-clause-archive c = archive-refused

pub returns-clause-restore : goal.returns-clause-restore
returns-clause-restore c = restore-refused

pub returns-clause-create : goal.returns-clause-create
returns-clause-create c = create-refused

pub returns-clause-describe_volume : goal.returns-clause-describe_volume
returns-clause-describe_volume c = describe-volume-refused

pub returns-clause-delete_volume : goal.returns-clause-delete_volume
returns-clause-delete_volume c = drop-refused

pub returns-clause-create_snapshot : goal.returns-clause-create_snapshot
returns-clause-create_snapshot c = snapshot-refused

pub returns-clause-write : goal.returns-clause-write
returns-clause-write c = write-refused

pub returns-clause-read : goal.returns-clause-read
returns-clause-read c = read-refused

pub returns-clause-create_rule : goal.returns-clause-create_rule
returns-clause-create_rule c = create_rule-refused

pub returns-clause-get_rule : goal.returns-clause-get_rule
returns-clause-get_rule c = get_rule-refused

pub returns-clause-update_rule : goal.returns-clause-update_rule
returns-clause-update_rule c = update_rule-refused

pub returns-clause-delete_rule : goal.returns-clause-delete_rule
returns-clause-delete_rule c = delete_rule-refused

pub returns-clause-list_rules : goal.returns-clause-list_rules
returns-clause-list_rules c = list_rules-refused

pub returns-clause-lock_rule : goal.returns-clause-lock_rule
returns-clause-lock_rule c = lock_rule-refused

pub returns-clause-unlock_rule : goal.returns-clause-unlock_rule
returns-clause-unlock_rule c = unlock_rule-refused

pub returns-clause-bin_list : goal.returns-clause-bin_list
returns-clause-bin_list c = bin-list-refused

pub returns-clause-restore_bin : goal.returns-clause-restore_bin
returns-clause-restore_bin c = restore-bin-refused

pub returns-clause-create_policy : goal.returns-clause-create_policy
returns-clause-create_policy c = create_policy-refused

pub returns-clause-get_policy : goal.returns-clause-get_policy
returns-clause-get_policy c = get_policy-refused

pub returns-clause-delete_policy : goal.returns-clause-delete_policy
returns-clause-delete_policy c = drop_policy-refused

pub returns-clause-run_policy : goal.returns-clause-run_policy
returns-clause-run_policy c = run-refused
