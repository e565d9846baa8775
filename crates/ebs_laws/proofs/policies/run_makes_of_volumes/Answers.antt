use Rattle.ebs_laws.proofs.PolicyLaws.{makes-of-volumes, gives-numbers}
use Rattle.ebs_laws.proofs.policies.run_makes_of_volumes.Goals as goal

pub returns-clause-made : goal.returns-clause-made
returns-clause-made c = makes-of-volumes

pub returns-clause-numbers : goal.returns-clause-numbers
returns-clause-numbers c = gives-numbers
