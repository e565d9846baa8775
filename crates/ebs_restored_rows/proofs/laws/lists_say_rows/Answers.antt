use Rattle.ebs_restored_rows.proofs.PointRows.{lists-say-rows}
use Rattle.ebs_restored_rows.proofs.laws.lists_say_rows.Goals as goal

pub returns : goal.returns
returns c = lists-say-rows
