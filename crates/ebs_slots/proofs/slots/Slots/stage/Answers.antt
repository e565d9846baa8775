use Rattle.std.proofs.Common.{sym, ◌∙◌, arith}
use Rattle.std.proofs.lemmas.Bool.{false≢true}
use Rattle.ebs_world.specs.inner.Runs.{ran_not}
use Rattle.ebs_slots.proofs.Apart.{apart_staged, top_free}
use Rattle.ebs_slots.proofs.Maps.{gets_here, len-more}
use Rattle.ebs_slots.proofs.Starts.{slot_below, top_max}
use Rattle.ebs_slots.proofs.Freeing.{chosen_next, listed_staged, listed_failed, listed_full, counted_same}
use Rattle.ebs_slots.proofs.Blocks.{stage_moments, still_all, staged_all, durably}
use Rattle.ebs_slots.proofs.slots.Slots.stage.Goals as goal

pub start_of-requires : goal.start_of-requires
start_of-requires g c = c.is_slot.ensures.0 c.if-not-is_slot.false

pub write_durably-requires : goal.write_durably-requires
write_durably-requires g c = rw (c.start_of.ensures, c.deref.ensures.value, c.block.invariant.0) (c.is_slot.ensures.0 c.if-not-is_slot.false)

pub returns-in_default-clause-err_ran : goal.returns-in_default-clause-err_ran
returns-in_default-clause-err_ran g c =
    record { slot = c.args.self.now.top; free = rw (← c.self.view_is) (top_free _ c.self.invariant.0); ran = ran_not _ (g.D.Disk.view c.args.disk.now) (g.met.D.Disk.true_to_itself c.args.disk.now) }

pub returns-then-not-is_slot-clause-err_ran : goal.returns-then-not-is_slot-clause-err_ran
returns-then-not-is_slot-clause-err_ran g c =
    record { slot = c.args.self.now.top; free = rw (← c.self.view_is) (top_free _ c.self.invariant.0); ran = ran_not _ (g.D.Disk.view c.args.disk.now) (g.met.D.Disk.true_to_itself c.args.disk.now) }

pub returns-clause-next : goal.returns-clause-next
returns-clause-next g c =
    let chosen = rw (c.make_room.ensures.owners.0, c.make_room.ensures.leases) at c.choose-slot.ensures in
    let next = chosen_next _ c.self.inside.owners.entries c.choose-slot.new.freed.items c.choose-slot.result.slot c.choose-slot.result.low c.self.invariant.0 c.self.invariant.1 chosen in
    rw (← c.self.view_is) next

pub returns-clause-leased : goal.returns-clause-leased
returns-clause-leased g c = rw c.insert.ensures.entries (gets_here c.make_room.new.leases.entries c.choose-slot.result.slot c.block.inside.digest)

pub returns-in_default-write_durably-clause-err_stand : goal.returns-in_default-write_durably-clause-err_stand
returns-in_default-write_durably-clause-err_stand g c bytes all =
    let chosen = rw (c.make_room.ensures.owners.0, c.make_room.ensures.leases) at c.choose-slot.ensures in
    let next = chosen_next _ c.self.inside.owners.entries c.choose-slot.new.freed.items c.choose-slot.result.slot c.choose-slot.result.low c.self.invariant.0 c.self.invariant.1 chosen in
    let ran = rw (c.start_of.ensures, c.deref.ensures.value, c.block.invariant.0) at c.write_durably.ensures.ran in
    let was = rw (← c.self.view_is) at all in
    rw (c.make_room.ensures.keys.0, c.make_room.ensures.counts.0, c.make_room.ensures.leases) (still_all _ _ _ c.choose-slot.result.slot next.free ran bytes was)

pub returns-in_default-write_durably-clause-moments : goal.returns-in_default-write_durably-clause-moments
returns-in_default-write_durably-clause-moments g c tells honest bytes all =
    let chosen = rw (c.make_room.ensures.owners.0, c.make_room.ensures.leases) at c.choose-slot.ensures in
    let next = chosen_next _ c.self.inside.owners.entries c.choose-slot.new.freed.items c.choose-slot.result.slot c.choose-slot.result.low c.self.invariant.0 c.self.invariant.1 chosen in
    let ran = rw (c.start_of.ensures, c.deref.ensures.value, c.block.invariant.0) at c.write_durably.ensures.ran in
    let was = rw (← c.self.view_is) at all in
    rw (← c.self.view_is) (stage_moments _ _ _ c.choose-slot.result.slot next.free ran bytes was tells honest)

pub returns-in_default-write_durably-clause-err_ran : goal.returns-in_default-write_durably-clause-err_ran
returns-in_default-write_durably-clause-err_ran g c =
    let chosen = rw (c.make_room.ensures.owners.0, c.make_room.ensures.leases) at c.choose-slot.ensures in
    let next = chosen_next _ c.self.inside.owners.entries c.choose-slot.new.freed.items c.choose-slot.result.slot c.choose-slot.result.low c.self.invariant.0 c.self.invariant.1 chosen in
    let ran = rw (c.start_of.ensures, c.deref.ensures.value, c.block.invariant.0) at c.write_durably.ensures.ran in
    rw (← c.self.view_is) (record { slot = c.choose-slot.result.slot; free = next.free; ran = ran })

pub invariant_of-self-then-not-is_slot : goal.invariant_of-self-then-not-is_slot
invariant_of-self-then-not-is_slot g c =
    let chosen = rw (c.make_room.ensures.owners.0, c.make_room.ensures.leases) at c.choose-slot.ensures in (
      rw (c.make_room.ensures.keys.0, c.make_room.ensures.counts.0, c.make_room.ensures.leases) c.self.invariant.0,
      rw (c.make_room.ensures.keys.0, c.make_room.ensures.owners.0) c.self.invariant.1,
      rw c.make_room.ensures.leases (omega (arith, c.self.invariant.2, c.make_room.ensures.keys.1)),
      rw c.make_room.ensures.leases (omega (arith, c.self.invariant.3, c.make_room.ensures.owners.1)),
      c.self.invariant.4,
      rw (c.make_room.ensures.keys.0, c.make_room.ensures.counts.0, c.make_room.ensures.leases) c.self.invariant.5,
      rw c.make_room.ensures.leases (omega (arith, c.self.invariant.6, c.make_room.ensures.counts.1)),
      rw (c.make_room.ensures.owners.0, c.make_room.ensures.leases) (listed_full c.self.inside.owners.entries c.self.inside.leases.entries c.choose-slot.new.freed.items c.self.inside.top c.choose-slot.result.slot c.choose-slot.result.low chosen
          (λ less. false≢true (sym c.if-not-is_slot.true ∙ c.is_slot.ensures.1 (slot_below c.self.inside.area c.choose-slot.result.slot c.self.inside.top less c.self.invariant.4)))),
      chosen.below,
    )

pub invariant_of-self-in_default-write_durably : goal.invariant_of-self-in_default-write_durably
invariant_of-self-in_default-write_durably g c =
    let chosen = rw (c.make_room.ensures.owners.0, c.make_room.ensures.leases) at c.choose-slot.ensures in
    let back = c.give_back-self-inside.ensures in (
      rw (c.make_room.ensures.keys.0, c.make_room.ensures.counts.0, c.make_room.ensures.leases) c.self.invariant.0,
      rw (c.make_room.ensures.keys.0, c.make_room.ensures.owners.0) c.self.invariant.1,
      rw c.make_room.ensures.leases (omega (arith, c.self.invariant.2, c.make_room.ensures.keys.1)),
      rw c.make_room.ensures.leases (omega (arith, c.self.invariant.3, c.make_room.ensures.owners.1)),
      c.self.invariant.4,
      rw (c.make_room.ensures.keys.0, c.make_room.ensures.counts.0, c.make_room.ensures.leases) c.self.invariant.5,
      rw c.make_room.ensures.leases (omega (arith, c.self.invariant.6, c.make_room.ensures.counts.1)),
      rw (c.make_room.ensures.owners.0, c.make_room.ensures.leases) (listed_failed c.self.inside.owners.entries c.self.inside.leases.entries c.choose-slot.new.freed.items c.choose-slot.result.slot c.choose-slot.result.low _ _ chosen.listed back.stay back.here back.below),
      omega (arith, chosen.below, back.below),
    )

pub invariant_of-self-2 : goal.invariant_of-self-2
invariant_of-self-2 g c =
    let chosen = rw (c.make_room.ensures.owners.0, c.make_room.ensures.leases) at c.choose-slot.ensures in
    let next = chosen_next _ c.self.inside.owners.entries c.choose-slot.new.freed.items c.choose-slot.result.slot c.choose-slot.result.low c.self.invariant.0 c.self.invariant.1 chosen in
    let is = c.is_slot.ensures.0 c.if-not-is_slot.false in
    let more = len-more c.self.inside.leases.entries c.choose-slot.result.slot c.block.inside.digest in
    let room = c.in-Ok.ensures.room in (
      rw (c.make_room.ensures.keys.0, c.make_room.ensures.counts.0, c.insert.ensures.entries, c.make_room.ensures.leases, c.max-self-inside.ensures) (apart_staged _ c.self.invariant.0 c.choose-slot.result.slot c.block.inside.digest next.free),
      rw (c.make_room.ensures.keys.0, c.make_room.ensures.owners.0) c.self.invariant.1,
      rw (c.insert.ensures.entries, c.make_room.ensures.leases) (omega (arith, more, room.0)),
      rw (c.insert.ensures.entries, c.make_room.ensures.leases) (omega (arith, more, room.1)),
      rw c.max-self-inside.ensures (top_max c.self.inside.area c.self.inside.top c.choose-slot.result.slot c.self.invariant.4 is),
      rw (c.make_room.ensures.keys.0, c.make_room.ensures.counts.0, c.insert.ensures.entries, c.make_room.ensures.leases) (counted_same _ c.self.invariant.5 _ _ _),
      rw (c.insert.ensures.entries, c.make_room.ensures.leases) (omega (arith, more, room.2)),
      rw (c.make_room.ensures.owners.0, c.insert.ensures.entries, c.make_room.ensures.leases) (listed_staged c.self.inside.owners.entries c.self.inside.leases.entries c.choose-slot.new.freed.items c.choose-slot.result.slot c.choose-slot.result.low c.block.inside.digest chosen.listed),
      rw c.max-self-inside.ensures (omega (arith, chosen.below)),
    )

pub returns-clause-stand : goal.returns-clause-stand
returns-clause-stand g c bytes all =
    let chosen = rw (c.make_room.ensures.owners.0, c.make_room.ensures.leases) at c.choose-slot.ensures in
    let next = chosen_next _ c.self.inside.owners.entries c.choose-slot.new.freed.items c.choose-slot.result.slot c.choose-slot.result.low c.self.invariant.0 c.self.invariant.1 chosen in
    let ran = rw (c.start_of.ensures, c.deref.ensures.value, c.block.invariant.0) at c.write_durably.ensures.ran in
    let was = rw (← c.self.view_is) at all in
    let written = rw (c.start_of.ensures, c.deref.ensures.value) at c.in-Ok-write_durably.ensures.written in
    let lies = durably (g.D.Disk.view c.args.disk.now) (g.D.Disk.view c.write_durably.new.disk) c.self.inside.area c.choose-slot.result.slot c.block.inside.bytes.items ran.told ran.kept_honest c.block.invariant.0 written c.in-Ok-write_durably.ensures.durable in
    rw (← c.block.view_is, c.make_room.ensures.keys.0, c.make_room.ensures.counts.0, c.insert.ensures.entries, c.make_room.ensures.leases, c.max-self-inside.ensures, c.block.invariant.1)
    (staged_all _ _ _ c.choose-slot.result.slot next.free ran bytes was c.block.inside.bytes.items lies)

pub returns-clause-moments : goal.returns-clause-moments
returns-clause-moments g c tells honest bytes all =
    let chosen = rw (c.make_room.ensures.owners.0, c.make_room.ensures.leases) at c.choose-slot.ensures in
    let next = chosen_next _ c.self.inside.owners.entries c.choose-slot.new.freed.items c.choose-slot.result.slot c.choose-slot.result.low c.self.invariant.0 c.self.invariant.1 chosen in
    let ran = rw (c.start_of.ensures, c.deref.ensures.value, c.block.invariant.0) at c.write_durably.ensures.ran in
    let was = rw (← c.self.view_is) at all in
    rw (← c.self.view_is) (stage_moments _ _ _ c.choose-slot.result.slot next.free ran bytes was tells honest)
