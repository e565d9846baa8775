use Rattle.ebs_laws.proofs.Clocks.{clock-moment, clock-forward, clock-below}
use Rattle.ebs_laws.proofs.time.call_moves_clock.Goals as goal

pub returns-clause-moment : goal.returns-clause-moment
returns-clause-moment c = clock-moment

pub returns-clause-forward : goal.returns-clause-forward
returns-clause-forward c = clock-forward

pub returns-clause-below : goal.returns-clause-below
returns-clause-below c = clock-below
