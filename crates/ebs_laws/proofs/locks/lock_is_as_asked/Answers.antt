use Rattle.ebs_laws.proofs.Locked.{lock-asked, unlock-asked}
use Rattle.ebs_laws.proofs.locks.lock_is_as_asked.Goals as goal

pub returns-clause-lock : goal.returns-clause-lock
returns-clause-lock c = lock-asked

pub returns-clause-unlock : goal.returns-clause-unlock
returns-clause-unlock c = unlock-asked
