use Rattle.ebs_point_rules.proofs.FitStates.{states-fit}
use Rattle.ebs_point_rules.proofs.groups.states_fit.Goals as goal

pub returns : goal.returns
returns c = states-fit
