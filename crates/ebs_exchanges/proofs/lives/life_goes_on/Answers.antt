use Rattle.ebs_exchanges.proofs.Passing.{lives_on, lives_again, lives_untold, lives_on_by_command, command_is_lost, lives_aged}
use Rattle.ebs_exchanges.proofs.lives.life_goes_on.Goals as goal

pub returns-clause-on : goal.returns-clause-on
returns-clause-on c = lives_on

pub returns-clause-again : goal.returns-clause-again
returns-clause-again c = lives_again

pub returns-clause-untold : goal.returns-clause-untold
returns-clause-untold c = lives_untold

pub returns-clause-command : goal.returns-clause-command
returns-clause-command c = lives_on_by_command

pub returns-clause-untold_command : goal.returns-clause-untold_command
returns-clause-untold_command c = command_is_lost

pub returns-clause-aged : goal.returns-clause-aged
returns-clause-aged c = lives_aged
