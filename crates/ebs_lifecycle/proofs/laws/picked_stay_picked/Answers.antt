use Rattle.ebs_lifecycle.proofs.Kept.{picked}
use Rattle.ebs_lifecycle.proofs.laws.picked_stay_picked.Goals as goal

pub returns : goal.returns
returns c = picked
