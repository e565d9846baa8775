use Rattle.ebs_print.proofs.Statuses.{refused_not_ok, memory_not_ok}
use Rattle.ebs_print.proofs.laws.faults_are_told.Goals as goal

pub returns-clause-refused : goal.returns-clause-refused
returns-clause-refused c = refused_not_ok

pub returns-clause-memory : goal.returns-clause-memory
returns-clause-memory c = memory_not_ok
