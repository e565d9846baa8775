use Rattle.ebs_restored_rows.proofs.PointRows.{rules-let-restore}
use Rattle.ebs_restored_rows.proofs.laws.rules_let_restore.Goals as goal

pub returns : goal.returns
returns c = rules-let-restore
