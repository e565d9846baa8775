use Rattle.ebs_slots.proofs.Starts.{told_slot}
use Rattle.ebs_slots.proofs.place.is_slot.Goals as goal

pub returns : goal.returns
returns c = told_slot c.args.area c.args.number c.slots_of.result c.slots_of.ensures
