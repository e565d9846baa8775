use Rattle.ebs_slots.proofs.Starts.{top_small}
use Rattle.ebs_slots.proofs.slots.Slots.top.Goals as goal

pub returns-clause-small : goal.returns-clause-small
returns-clause-small c = top_small c.self.inside.area c.self.inside.top c.self.invariant.4
