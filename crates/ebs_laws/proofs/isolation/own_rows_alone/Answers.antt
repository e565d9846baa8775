use Rattle.ebs_laws.proofs.SameCalls.{own-alone}
use Rattle.ebs_laws.proofs.SameItself.{agrees-itself}
use Rattle.ebs_laws.proofs.isolation.own_rows_alone.Goals as goal

pub returns-clause-alone : goal.returns-clause-alone
returns-clause-alone c = own-alone

pub returns-clause-itself : goal.returns-clause-itself
returns-clause-itself c = agrees-itself
