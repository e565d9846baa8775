use Rattle.std.proofs.Common.{rules, arith}
use Rattle.ebs_turns.proofs.Passes.{starts}
use Rattle.ebs_turns.proofs.turns.Turns.new.Goals as goal

pub new-requires : goal.new-requires
new-requires g c = starts g.T.Subject.follows _ _ c.args.value (search rules) (search rules) c.requires.some (omega arith) c.requires.first
