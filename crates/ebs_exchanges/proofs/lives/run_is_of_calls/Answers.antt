use Rattle.ebs_exchanges.proofs.TurnsMade.{is_of_calls}
use Rattle.ebs_exchanges.proofs.lives.run_is_of_calls.Goals as goal

pub returns : goal.returns
returns c = is_of_calls
