use Rattle.ebs_lock.proofs.Lasting.{expired}
use Rattle.ebs_lock.proofs.laws.expired_is_none.Goals as goal

pub returns : goal.returns
returns c = expired
