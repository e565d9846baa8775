use Rattle.std.proofs.Common.{arith}
use Rattle.ebs_slots.proofs.Apart.{apart_placed, owns_more}
use Rattle.ebs_slots.proofs.Starts.{top_max}
use Rattle.ebs_slots.proofs.Freeing.{listed_placed, counted_placed}
use Rattle.ebs_slots.proofs.slots.Slots.place.Goals as goal

pub invariant_of-self-2 : goal.invariant_of-self-2
invariant_of-self-2 c =
    let free = rw (← c.self.view_is) at c.requires.free in
    let new = rw (← c.self.view_is) at c.requires.new in
    let fits = rw (← c.self.view_is) at c.requires.fits in (
      rw (c.insert.ensures.entries, c.insert-3.ensures.entries, c.reserve.ensures.entries, c.reserve-3.ensures.entries, c.max-self-inside.ensures) (apart_placed _ c.self.invariant.0 c.args.key c.args.slot free),
      rw (c.insert.ensures.entries, c.insert-2.ensures.entries, c.reserve.ensures.entries, c.reserve-2.ensures.entries) (owns_more _ _ c.args.key c.args.slot c.self.invariant.1 new free.no_key),
      omega (arith, c.insert.ensures.spare, c.in_ok-reserve.ensures.room, c.len.ensures.len),
      omega (arith, c.insert-2.ensures.spare, c.in_ok-reserve-2.ensures.room, c.len-2.ensures.len),
      rw c.max-self-inside.ensures (top_max c.self.inside.area c.self.inside.top c.args.slot c.self.invariant.4 fits),
      rw (c.insert.ensures.entries, c.insert-3.ensures.entries, c.reserve.ensures.entries, c.reserve-3.ensures.entries, c.max-self-inside.ensures) (counted_placed _ c.self.invariant.5 c.args.key c.args.slot),
      omega (arith, c.insert-3.ensures.spare, c.in_ok-reserve-3.ensures.room, c.len-3.ensures.len),
      rw (c.insert-2.ensures.entries, c.reserve-2.ensures.entries, c.reserve-4.ensures.items) (listed_placed c.self.inside.owners.entries c.self.inside.leases.entries c.self.inside.freed.items c.self.inside.low c.self.invariant.7 c.args.slot c.args.key),
      rw c.max-self-inside.ensures (omega (arith, c.self.invariant.8)),
    )
