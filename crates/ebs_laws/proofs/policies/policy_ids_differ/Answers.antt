use Rattle.ebs_laws.proofs.PolicyRows.{policies-given, policies-run, policies-never-fall, created-new, policies-differ}
use Rattle.ebs_laws.proofs.policies.policy_ids_differ.Goals as goal

pub returns-clause-each_call : goal.returns-clause-each_call
returns-clause-each_call c = policies-given

pub returns-clause-run : goal.returns-clause-run
returns-clause-run c = policies-run

pub returns-clause-numbers : goal.returns-clause-numbers
returns-clause-numbers c = policies-never-fall

pub returns-clause-created : goal.returns-clause-created
returns-clause-created c = created-new

pub returns-clause-ids : goal.returns-clause-ids
returns-clause-ids c = policies-differ
