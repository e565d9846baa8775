use Rattle.std.proofs.Common.{◌∙◌, refl, arith}
use Rattle.ebs_holds.specs.Holds.{nodes_in}
use Rattle.ebs_collect.proofs.Releases.{frees-same}
use Rattle.ebs_collect.proofs.Sliced.{frees-both}
use Rattle.ebs_disk_store.proofs.Swept.{finished-none, more-some, shared_by, slotted_by}
use Rattle.ebs_disk_store.proofs.sweeping.collect_all.Goals as goal

pub slices-init : goal.slices-init
slices-init c = record { machine = refl; counted = c.requires; frees = frees-same c.args.slots.now; shown = λ all. all }

pub slices-smaller : goal.slices-smaller
slices-smaller c =
    let some = more-some c.collect.new.self.holding.queue.waiting c.collect.result c.collect.ensures.progress c.in-More.is in
    let waiting = c.collect.ensures.waiting in
    omega (arith, some, waiting)

pub slices-preserved : goal.slices-preserved
slices-preserved c = record {
  machine = c.collect.ensures.machine ∙ c.slices.invariant.machine;
  counted = c.collect.ensures.counted;
  frees = frees-both c.args.slots.now c.slices.slots c.collect.new.slots c.slices.invariant.frees c.collect.ensures.slots;
  shown = λ all. c.collect.ensures.shown (c.slices.invariant.shown all);
}

pub returns-clause-machine : goal.returns-clause-machine
returns-clause-machine c = c.collect.ensures.machine ∙ c.slices.invariant.machine

pub returns-clause-counted : goal.returns-clause-counted
returns-clause-counted c = c.collect.ensures.counted

pub returns-clause-frees : goal.returns-clause-frees
returns-clause-frees c = frees-both c.args.slots.now c.slices.slots c.collect.new.slots c.slices.invariant.frees c.collect.ensures.slots

pub returns-clause-waiting : goal.returns-clause-waiting
returns-clause-waiting c = finished-none c.collect.new.self.holding.queue.waiting c.collect.result c.collect.ensures.progress c.in_default.not-More

pub returns-clause-shared : goal.returns-clause-shared
returns-clause-shared c all stamp has =
    let none = finished-none c.collect.new.self.holding.queue.waiting c.collect.result c.collect.ensures.progress c.in_default.not-More in
    shared_by c.collect.new.self.machine stamp (c.collect.ensures.shared none (c.collect.ensures.shown (c.slices.invariant.shown all)) stamp has)

pub returns-clause-slotted : goal.returns-clause-slotted
returns-clause-slotted c =
    let kept = c.collect.new.self in
    slotted_by kept.machine (nodes_in kept.holding) c.collect.new.slots c.blocks_have_slots.ensures.snapshots c.blocks_have_slots.ensures.volumes c.collect.ensures.counted
