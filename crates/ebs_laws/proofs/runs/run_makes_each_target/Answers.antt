use Rattle.ebs_laws.proofs.RunMade.{makes-each, tells-made, not-due-nothing, tells-deleted}
use Rattle.ebs_laws.proofs.runs.run_makes_each_target.Goals as goal

pub returns-clause-each : goal.returns-clause-each
returns-clause-each c = makes-each

pub returns-clause-told : goal.returns-clause-told
returns-clause-told c = tells-made

pub returns-clause-not_due : goal.returns-clause-not_due
returns-clause-not_due c = not-due-nothing

pub returns-clause-deleted : goal.returns-clause-deleted
returns-clause-deleted c = tells-deleted
