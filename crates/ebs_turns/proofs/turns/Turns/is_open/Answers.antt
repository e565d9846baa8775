use Rattle.std.proofs.Common.{arith}
use Rattle.ebs_turns.proofs.Steps.{looks}
use Rattle.ebs_turns.proofs.turns.Turns.is_open.Goals as goal

pub load-requires : goal.load-requires
load-requires g c = (c.requires.at.table_is, omega arith, looks g.T.Subject.follows _ _ _ _ c.requires.live)
