use Rattle.ebs_laws.proofs.Writes.{start-step}
use Rattle.ebs_laws.proofs.Accepts.{starts-step}
use Rattle.ebs_laws.proofs.uploads.start_gives_number.Goals as goal

pub returns-clause-accepted : goal.returns-clause-accepted
returns-clause-accepted c = starts-step

pub returns-clause-starts : goal.returns-clause-starts
returns-clause-starts c = start-step
