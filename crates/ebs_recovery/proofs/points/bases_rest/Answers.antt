use Rattle.ebs_recovery.proofs.Replayed.{base_are_stamped}
use Rattle.ebs_recovery.proofs.Resting.{base_rest}
use Rattle.ebs_recovery.proofs.points.bases_rest.Goals as goal

pub returns-clause-rest : goal.returns-clause-rest
returns-clause-rest c = base_rest

pub returns-clause-stamped : goal.returns-clause-stamped
returns-clause-stamped c = base_are_stamped
