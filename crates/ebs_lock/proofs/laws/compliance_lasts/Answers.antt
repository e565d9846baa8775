use Rattle.ebs_lock.proofs.Lasting.{all_last}
use Rattle.ebs_lock.proofs.laws.compliance_lasts.Goals as goal

pub returns : goal.returns
returns c until cool_end now gs cool between = let l = all_last gs until cool_end now cool between in (l.later, l.is, l.longer)
