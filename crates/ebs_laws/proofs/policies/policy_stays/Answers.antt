use Rattle.ebs_laws.proofs.PolicyRows.{policy-stays, owner-shown-policy, shown-policy, created-shown}
use Rattle.ebs_laws.proofs.policies.policy_stays.Goals as goal

pub returns-clause-stays : goal.returns-clause-stays
returns-clause-stays c = policy-stays

pub returns-clause-shown : goal.returns-clause-shown
returns-clause-shown c = owner-shown-policy

pub returns-clause-row : goal.returns-clause-row
returns-clause-row c = shown-policy

pub returns-clause-created : goal.returns-clause-created
returns-clause-created c = created-shown
