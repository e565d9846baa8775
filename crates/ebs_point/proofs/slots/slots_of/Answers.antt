use Rattle.std.proofs.Common.{subst}
use Rattle.std.specs.List.{AllByRecursion}
use Rattle.ebs_checkpoints.specs.Nodes.{IsSlot}
use Rattle.ebs_point.proofs.slots.slots_of.Goals as goal

pub returns : goal.returns
returns c = record {
  stored = c.in_ok-rows.ensures.stored;
  slots = c.in_ok-rows.ensures.slots;
  ascend = c.in_ok-rows.ensures.ascend;
  places = c.in_ok-rows.ensures.places;
  apart = c.in_ok-rows.ensures.apart;
  values = subst (AllByRecursion IsSlot) c.as_slice.ensures c.check_slots.ensures;
}
