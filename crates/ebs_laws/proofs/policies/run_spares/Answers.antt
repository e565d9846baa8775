use Rattle.ebs_laws.proofs.PolicyLaws.{spares-locked, leaves-other-policies, leaves-other-accounts, leaves-young, leaves-newest}
use Rattle.ebs_laws.proofs.policies.run_spares.Goals as goal

pub returns-clause-locked : goal.returns-clause-locked
returns-clause-locked c = spares-locked

pub returns-clause-other_policies : goal.returns-clause-other_policies
returns-clause-other_policies c = leaves-other-policies

pub returns-clause-other_accounts : goal.returns-clause-other_accounts
returns-clause-other_accounts c = leaves-other-accounts

pub returns-clause-young : goal.returns-clause-young
returns-clause-young c = leaves-young

pub returns-clause-newest : goal.returns-clause-newest
returns-clause-newest c = leaves-newest
