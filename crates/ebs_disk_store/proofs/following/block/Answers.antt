use Rattle.std.proofs.Common.{◌≤◌, ◌∙◌, sym, subst, arith}
use Rattle.ebs_world.specs.declared.area.Area.{Area}
use Rattle.ebs_slots.specs.inner.Slots.{IsSlot}
use Rattle.ebs_model.specs.Machine.{Machine}
use Rattle.ebs_holds.specs.Holds.{nodes_in}
use Rattle.ebs_records.specs.declared.record.AcceptedCall.{AcceptedCall}
use Rattle.ebs_recovery.specs.Made.{stated}
use Rattle.ebs_disk_store.proofs.Followed.{taken_slot}
use Rattle.ebs_disk_store.proofs.Placed.{block_counted, block_failed, block_follows, there_placed}
use Rattle.ebs_disk_store.proofs.Swept.{slotted_by}
use Rattle.ebs_disk_store.proofs.following.block.Goals as goal

pub put-requires-clause-later : goal.put-requires-clause-later
put-requires-clause-later c = subst (λ (m : Machine). m.clock.second ≤ c.args.call.now.at.second) (sym c.free_slot.ensures.machine) c.requires.later

pub place-requires-clause-fits : goal.place-requires-clause-fits
place-requires-clause-fits c = subst (λ (area : Area). IsSlot area c.args.block.now.slot) (sym c.free_slot.ensures.state.area) (omega (arith, c.requires.brought.small))

pub release_old-requires : goal.release_old-requires
release_old-requires c =
    there_placed c.replaced_at-replaced.result (nodes_in c.free_slot.new.kept.holding) c.free_slot.new.slots c.place.new.self c.stamps-stamp.result c.args.block.now.slot c.replaced_at-replaced.ensures.there
    c.free_slot.ensures.counted c.in-Ok-place.ensures.ok

pub returns-then-not-free_slot-clause-follows : goal.returns-then-not-free_slot-clause-follows
returns-then-not-free_slot-clause-follows c =
    let a : AcceptedCall = record c.args.call.now { request = stated c.args.call.now.request } in
    taken_slot c.args.kept.now.machine c.args.slots.now a c.free_slot.new.kept.machine c.free_slot.new.slots c.args.block.now.slot c.requires.brought.slot (sym c.free_slot.ensures.taken ∙ c.if-not-free_slot.true)

pub returns-in-Err-clause-follows : goal.returns-in-Err-clause-follows
returns-in-Err-clause-follows c =
    let a : AcceptedCall = record c.args.call.now { request = stated c.args.call.now.request } in
    let b = c.args.block.now in
    block_failed c.args.kept.now.machine c.args.slots.now a c.free_slot.new.kept.machine c.free_slot.ensures.machine c.free_slot.new.slots c.put.new.kept.machine c.free_slot.new.slots
    b.place b.index b.digest c.in-Err.why c.requires.brought.request c.in-Err.ensures.makes

pub returns-in-Ok-place-clause-follows : goal.returns-in-Ok-place-clause-follows
returns-in-Ok-place-clause-follows c =
    let a : AcceptedCall = record c.args.call.now { request = stated c.args.call.now.request } in
    let b = c.args.block.now in
    let n = c.put.new.kept in
    let counted = block_counted c.free_slot.new.kept n c.in-Ok.ensures.makes.2 c.free_slot.new.slots c.free_slot.ensures.state c.free_slot.ensures.counted b.slot b.place b.index b.digest c.replaced_at-replaced.result
    c.stamps-stamp.result c.place.new.self c.release_old.new.slots c.in-Ok.ensures.counted c.replaced_at-replaced.ensures.value c.stamps-stamp.ensures c.in-Ok-place.ensures.ok c.release_old.ensures in
    let slotted = slotted_by n.machine (nodes_in n.holding) c.release_old.new.slots c.blocks_have_slots.ensures.snapshots c.blocks_have_slots.ensures.volumes counted in
    block_follows c.args.kept.now.machine c.args.slots.now a c.free_slot.new.kept.machine c.free_slot.ensures.machine c.free_slot.new.slots n.machine c.free_slot.ensures.state c.free_slot.ensures.frees c.requires.later c.requires.early
    b.place b.index b.digest b.slot c.in-Ok.ensures.makes c.requires.brought.few c.requires.brought.slot c.requires.brought.request c.stamps-stamp.result c.place.new.self c.release_old.new.slots c.replaced_at-replaced.result
    c.stamps-stamp.ensures c.in-Ok-place.ensures.ok c.release_old.ensures slotted (sym c.free_slot.ensures.taken ∙ c.if-not-free_slot.false)

pub returns-in-Ok-place-clause-counted : goal.returns-in-Ok-place-clause-counted
returns-in-Ok-place-clause-counted c =
    let b = c.args.block.now in
    block_counted c.free_slot.new.kept c.put.new.kept c.in-Ok.ensures.makes.2 c.free_slot.new.slots c.free_slot.ensures.state c.free_slot.ensures.counted b.slot b.place b.index b.digest c.replaced_at-replaced.result
    c.stamps-stamp.result c.place.new.self c.release_old.new.slots c.in-Ok.ensures.counted c.replaced_at-replaced.ensures.value c.stamps-stamp.ensures c.in-Ok-place.ensures.ok c.release_old.ensures
