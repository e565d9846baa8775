use Rattle.ebs_lawful.proofs.Own.{calls_own, steps_own}
use Rattle.ebs_lawful.proofs.answers.answers_are_own.Goals as goal

pub returns-clause-call : goal.returns-clause-call
returns-clause-call c = calls_own

pub returns-clause-step : goal.returns-clause-step
returns-clause-step c = steps_own
