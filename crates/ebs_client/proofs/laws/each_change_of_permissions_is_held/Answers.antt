use Rattle.ebs_client.proofs.Held.{are_changes_held}
use Rattle.ebs_client.proofs.laws.each_change_of_permissions_is_held.Goals as goal

pub returns : goal.returns
returns c = are_changes_held
