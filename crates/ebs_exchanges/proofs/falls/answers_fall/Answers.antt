use Rattle.ebs_exchanges.proofs.OneWay.{falls}
use Rattle.ebs_exchanges.proofs.falls.answers_fall.Goals as goal

pub returns : goal.returns
returns c = falls c.answers_split.ensures.lists
