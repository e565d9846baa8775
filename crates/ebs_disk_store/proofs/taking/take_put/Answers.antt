use Rattle.std.proofs.Common.{◌≡◌, ◌∙◌, ℕ, None, List, ap, sym, subst}
use Rattle.std.specs.Prelude.{IfSome, IsSome}
use Rattle.std.specs.FinMap as fin
use Rattle.ebs_slots.specs.inner.Slots.{SlotTable, adopted}
use Rattle.ebs_collect.specs.Slices.{IsCounted}
use Rattle.ebs_holds.specs.Counted.{KeepsCounted, without_stamp}
use Rattle.ebs_holds.specs.Holds.{nodes_in}
use Rattle.ebs_kept.specs.inner.Requests.{Brings}
use Rattle.ebs_disk_store.proofs.Freed.{all_slotted, still_there}
use Rattle.ebs_disk_store.proofs.Taken.{put_counted}
use Rattle.ebs_disk_store.proofs.taking.take_put.Goals as goal

pub adopt-requires-clause-new : goal.adopt-requires-clause-new
adopt-requires-clause-new c = subst (λ (n : ℕ). fin.get c.args.slots.now.keys n ≡ None) (sym c.stamps-stamp.ensures) c.requires.new

pub release_old-requires : goal.release_old-requires
release_old-requires c =
    subst (λ (u : SlotTable). IfSome c.replaced-replaced.result (λ key. IsSome (fin.get u.keys key)))
    (sym (c.adopt.ensures ∙ ap (adopted c.args.slots.now c.args.lease.slot) c.stamps-stamp.ensures))
    (still_there c.args.slots.now (nodes_in c.args.kept.now.holding) c.args.lease.slot c.args.kept.now.machine.stamps c.replaced-replaced.result c.requires.counted c.requires.new c.replaced-replaced.ensures.there)

pub returns-clause-machine : goal.returns-clause-machine
returns-clause-machine c = c.commit.ensures.changed c.args.lease.digest (subst (λ (d : List ℕ). Brings c.args.change.request d c.args.lease.digest) (sym c.digest-digest.ensures) c.requires.brings)

pub returns-clause-counted : goal.returns-clause-counted
returns-clause-counted c =
    let stamp = c.args.kept.now.machine.stamps in
    let gone = c.replaced-replaced.result in
    let is : c.release_old.new.slots ≡ without_stamp (adopted c.args.slots.now c.args.lease.slot stamp) gone =
    c.release_old.ensures ∙ ap (λ (u : SlotTable). without_stamp u gone) (c.adopt.ensures ∙ ap (adopted c.args.slots.now c.args.lease.slot) c.stamps-stamp.ensures) in
    let old = nodes_in c.args.kept.now.holding in
    let new = nodes_in c.commit.new.self.holding in
    subst (λ (u : SlotTable). IsCounted u new) (sym is)
    (put_counted old new c.args.change.request c.args.slots.now stamp c.args.lease.slot gone c.requires.put
    (subst (KeepsCounted old new c.args.change.request stamp) (sym c.replaced-replaced.ensures.value) c.commit.ensures.counted) c.requires.counted c.requires.new)

pub returns-clause-slotted : goal.returns-clause-slotted
returns-clause-slotted c =
    let counted = returns-clause-counted c in
    all_slotted c.release_old.new.slots.keys c.commit.new.self.machine
    (λ key index block e. c.blocks_have_slots.ensures.snapshots c.release_old.new.slots key index block counted e)
    (λ key index block e. c.blocks_have_slots.ensures.volumes c.release_old.new.slots key index block counted e)

pub returns-clause-slots : goal.returns-clause-slots
returns-clause-slots c =
    let stamp = c.args.kept.now.machine.stamps in
    let gone = c.replaced-replaced.result in
    let is : c.release_old.new.slots ≡ without_stamp (adopted c.args.slots.now c.args.lease.slot stamp) gone =
    c.release_old.ensures ∙ ap (λ (u : SlotTable). without_stamp u gone) (c.adopt.ensures ∙ ap (adopted c.args.slots.now c.args.lease.slot) c.stamps-stamp.ensures) in
    record { gone = gone; is = is; slotted = returns-clause-slotted c }
