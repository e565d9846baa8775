use Rattle.ebs_laws.proofs.PolicyLaws.{created-as-asked, deleted-leaves}
use Rattle.ebs_laws.proofs.policies.policy_is_as_asked.Goals as goal

pub returns-clause-created : goal.returns-clause-created
returns-clause-created c = created-as-asked

pub returns-clause-deleted : goal.returns-clause-deleted
returns-clause-deleted c = deleted-leaves
