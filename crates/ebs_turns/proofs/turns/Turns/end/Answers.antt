use Rattle.std.proofs.Common.{rules, arith}
use Rattle.ebs_turns.proofs.Steps.{ends}
use Rattle.ebs_turns.proofs.Turning.{is_due}
use Rattle.ebs_turns.proofs.turns.Turns.end.Goals as goal

pub fetch_add-requires : goal.fetch_add-requires
fetch_add-requires g c = (search rules, omega arith, ends g.T.Subject.follows _ _ _ _ c.args.value (record { item = c.args.item; deed = c.args.deed }) (is_due g.T.Subject.follows _ _ c.args.value (record { item = c.args.item; deed = c.args.deed }) c.requires.due c.lay.ensures.hand))
