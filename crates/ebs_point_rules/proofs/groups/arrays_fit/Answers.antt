use Rattle.ebs_point_rules.proofs.FitArrays.{arrays-fit}
use Rattle.ebs_point_rules.proofs.groups.arrays_fit.Goals as goal

pub returns : goal.returns
returns c = arrays-fit
