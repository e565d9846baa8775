use Rattle.ebs_laws.proofs.Fields.{is-reached, is-passed, is-cut}
use Rattle.ebs_laws.proofs.time.clock_follows_reading.Goals as goal

pub returns-clause-reached : goal.returns-clause-reached
returns-clause-reached c = is-reached

pub returns-clause-passed : goal.returns-clause-passed
returns-clause-passed c = is-passed

pub returns-clause-cut : goal.returns-clause-cut
returns-clause-cut c = is-cut
