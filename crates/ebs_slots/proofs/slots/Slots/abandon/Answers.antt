use Rattle.std.proofs.Common.{arith}
use Rattle.ebs_slots.proofs.Apart.{apart_abandoned}
use Rattle.ebs_slots.proofs.Maps.{len-taken}
use Rattle.ebs_slots.proofs.Freeing.{listed_abandoned, counted_same}
use Rattle.ebs_slots.proofs.slots.Slots.abandon.Goals as goal

pub invariant_of-self : goal.invariant_of-self
invariant_of-self c =
    let lease = rw (← c.self.view_is, ← c.into_slot-spent.ensures) at c.requires in
    let less = len-taken c.self.inside.leases.entries c.into_slot-spent.result c.args.lease.digest lease in
    let keys = c.self.invariant.2 in
    let owners = c.self.invariant.3 in
    let counts = c.self.invariant.6 in
    let back = c.give_back-self-inside.ensures in (
      rw c.remove.ensures.entries (apart_abandoned _ c.self.invariant.0 c.into_slot-spent.result),
      c.self.invariant.1,
      rw c.remove.ensures.entries (omega (arith, less, keys)),
      rw c.remove.ensures.entries (omega (arith, less, owners)),
      c.self.invariant.4,
      counted_same _ c.self.invariant.5 _ _ _,
      rw c.remove.ensures.entries (omega (arith, less, counts)),
      rw c.remove.ensures.entries (listed_abandoned c.self.inside.owners.entries c.self.inside.leases.entries c.self.inside.freed.items c.self.inside.low c.self.invariant.7 c.into_slot-spent.result _ _ back.stay back.here back.below),
      omega (arith, back.below, c.self.invariant.8),
    )
