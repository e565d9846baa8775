use Rattle.std.proofs.Common.{arith}
use Rattle.ebs_turns.proofs.Passes.{views}
use Rattle.ebs_turns.proofs.turns.Turns.has_others.Goals as goal

pub load-requires : goal.load-requires
load-requires g c = (c.requires.at.table_is, omega arith, views g.T.Subject.follows _ _ _ _ c.requires.rests.tally)
