use Rattle.ebs_laws.proofs.Locked.{compliance-kept}
use Rattle.ebs_laws.proofs.locks.compliance_is_kept.Goals as goal

pub returns : goal.returns
returns c = compliance-kept
