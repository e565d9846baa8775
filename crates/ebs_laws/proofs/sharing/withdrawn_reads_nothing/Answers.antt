use Rattle.ebs_laws.proofs.Withdrawn.{removed-hidden, hidden-stays, hidden-refused, hidden-not-compared}
use Rattle.ebs_laws.proofs.sharing.withdrawn_reads_nothing.Goals as goal

pub returns-clause-hides : goal.returns-clause-hides
returns-clause-hides c = removed-hidden

pub returns-clause-stays : goal.returns-clause-stays
returns-clause-stays c = hidden-stays

pub returns-clause-refused : goal.returns-clause-refused
returns-clause-refused c = hidden-refused

pub returns-clause-compared : goal.returns-clause-compared
returns-clause-compared c = hidden-not-compared
