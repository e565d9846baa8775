use Rattle.ebs_laws.proofs.PolicyLaws.{again-nothing}
use Rattle.ebs_laws.proofs.policies.run_again_makes_nothing.Goals as goal

pub returns : goal.returns
returns c = again-nothing
