use Rattle.ebs_laws.proofs.KeptTokens.{acts-once, other-conflicts, repeat-tells, repeat-nothing}
use Rattle.ebs_laws.proofs.client_tokens.start_acts_once.Goals as goal

pub returns-clause-once : goal.returns-clause-once
returns-clause-once c = acts-once

pub returns-clause-conflict : goal.returns-clause-conflict
returns-clause-conflict c = other-conflicts

pub returns-clause-again : goal.returns-clause-again
returns-clause-again c = repeat-tells

pub returns-clause-nothing : goal.returns-clause-nothing
returns-clause-nothing c = repeat-nothing
