use Rattle.ebs_laws.proofs.Locked.{locked-kept, locked-run}
use Rattle.ebs_laws.proofs.locks.locked_is_kept.Goals as goal

pub returns-clause-call : goal.returns-clause-call
returns-clause-call c = locked-kept

pub returns-clause-run : goal.returns-clause-run
returns-clause-run c = locked-run
