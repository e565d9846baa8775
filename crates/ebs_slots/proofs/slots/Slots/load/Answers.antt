use Rattle.std.proofs.Common.{◌∙◌, sym, ap}
use Rattle.ebs_slots.specs.inner.Slots.{SlotTable}
use Rattle.ebs_slots.proofs.Starts.{slot_below}
use Rattle.ebs_slots.proofs.Blocks.{read_is, read_exact}
use Rattle.ebs_slots.proofs.slots.Slots.load.Goals as goal

pub read_slot-requires-clause-fits : goal.read_slot-requires-clause-fits
read_slot-requires-clause-fits g c =
    let has = sym c.slot_of.ensures ∙ c.unwrap-slot.ensures in
    let slot = c.unwrap-slot.result in
    slot_below c.self.inside.area slot c.self.inside.top (c.self.invariant.0.keyed c.args.key slot (rw (← c.self.view_is) at has)) c.self.invariant.4

pub returns-clause-exact : goal.returns-clause-exact
returns-clause-exact g c slot bytes has tells stands =
    let area = ap (λ (s : SlotTable). s.area) c.self.view_is in
    let was = read_is (g.D.Disk.view c.args.disk.now) c.args.self.now c.self.inside.area c.args.key c.unwrap-slot.result c.read_slot.new.room.items
    area (sym c.slot_of.ensures ∙ c.unwrap-slot.ensures) c.read_slot.ensures.size c.in-Ok-read_slot.ensures.bytes in
    c.from_vec.ensures ∙ read_exact _ _ _ _ was slot bytes has tells stands
