use Rattle.ebs_laws.proofs.Settles.{accepts-or-refuses, accepted-step, accepted-answers, accepted-counts}
use Rattle.ebs_laws.proofs.Decided.{accepted-decided}
use Rattle.ebs_laws.proofs.turns.step_accepts_or_refuses.Goals as goal

pub returns-clause-either : goal.returns-clause-either
returns-clause-either c = accepts-or-refuses

pub returns-clause-accepted : goal.returns-clause-accepted
returns-clause-accepted c = accepted-step

pub returns-clause-answered : goal.returns-clause-answered
returns-clause-answered c = accepted-answers

pub returns-clause-counted : goal.returns-clause-counted
returns-clause-counted c = accepted-counts

pub returns-clause-decided : goal.returns-clause-decided
returns-clause-decided c = accepted-decided
