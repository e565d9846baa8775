use Rattle.ebs_laws.proofs.PolicyLaws.{leaves-the-newest}
use Rattle.ebs_laws.proofs.policies.newest_stays.Goals as goal

pub returns : goal.returns
returns c = leaves-the-newest
