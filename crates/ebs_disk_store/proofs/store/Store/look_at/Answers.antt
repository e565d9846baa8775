use Rattle.std.proofs.Common.{◌∙◌, sym, subst, ap}
use Rattle.ebs_holds.specs.Holds.{nodes_in}
use Rattle.ebs_recovery.specs.inner.Fits.{Fit, Seen, recorded}
use Rattle.ebs_disk_store.specs.inner.Collected.{IsLooked, Sweeps}
use Rattle.ebs_disk_store.specs.inner.Shown.{shown}
use Rattle.ebs_disk_store.proofs.Collects.{sound_swept, sweeps, swept_dead}
use Rattle.ebs_disk_store.proofs.Swept.{shared_by}
use Rattle.ebs_disk_store.proofs.Freed.{all_slotted}
use Rattle.ebs_disk_store.proofs.store.Store.look_at.Goals as goal

pub collect-progress-requires : goal.collect-progress-requires
collect-progress-requires g c = c.blocks_stay.ensures.counted (nodes_in c.self.inside.kept.holding) (nodes_in c.give_up_ended.new.self.holding) c.self.inside.slots c.give_up_ended.ensures.blocks c.self.invariant.counted

pub invariant_of-self : goal.invariant_of-self
invariant_of-self g c =
    let kept = c.collect-progress.new.self in
    let slots = c.collect-progress.new.slots in
    let counted = c.collect-progress.ensures.counted in
    let slotted = all_slotted slots.keys kept.machine (λ key index block e. c.blocks_have_slots.ensures.snapshots slots key index block counted e) (λ key index block e. c.blocks_have_slots.ensures.volumes slots key index block counted e) in
    sound_swept (shown c.self.inside) _ (nodes_in kept.holding) kept.machine slots kept.holding.queue.waiting c.self.invariant (c.collect-progress.ensures.machine ∙ c.give_up_ended.ensures.machine) counted slotted c.collect-progress.ensures.slots

pub returns-clause-fits : goal.returns-clause-fits
returns-clause-fits g c sound told honest =
    let v = g.D.Disk.view c.args.disk.now in
    let kept = c.collect-progress.new.self in
    let slots = c.collect-progress.new.slots in
    let counted = c.collect-progress.ensures.counted in
    let slotted = all_slotted slots.keys kept.machine (λ key index block e. c.blocks_have_slots.ensures.snapshots slots key index block counted e) (λ key index block e. c.blocks_have_slots.ensures.volumes slots key index block counted e) in
    c.slots_fit.ensures.freed c.args.disk.now (shown c.self.inside) _
    (swept_dead (shown c.self.inside) kept.machine slots kept.holding.queue.waiting (c.collect-progress.ensures.machine ∙ c.give_up_ended.ensures.machine) slotted c.collect-progress.ensures.slots c.top-top.ensures.apart)
    (subst (Fit v) (sym c.self.view_is) (c.requires.fits sound told honest))

pub returns-clause-sweeps : goal.returns-clause-sweeps
returns-clause-sweeps g c =
    let kept = c.collect-progress.new.self in
    let slots = c.collect-progress.new.slots in
    let counted = c.collect-progress.ensures.counted in
    let slotted = all_slotted slots.keys kept.machine (λ key index block e. c.blocks_have_slots.ensures.snapshots slots key index block counted e) (λ key index block e. c.blocks_have_slots.ensures.volumes slots key index block counted e) in
    let t : Seen = record (shown c.self.inside) { recorded = kept.machine; slots = slots; waiting = kept.holding.queue.waiting } in
    subst (λ (s : Seen). Sweeps s t) c.self.view_is
    (sweeps (shown c.self.inside) kept.machine slots kept.holding.queue.waiting (c.collect-progress.ensures.machine ∙ c.give_up_ended.ensures.machine) slotted c.collect-progress.ensures.slots
    (λ none stamp has. shared_by kept.machine stamp (c.collect-progress.ensures.shared none (c.collect-progress.ensures.shown c.give_up_ended.ensures.shown) stamp has)))

pub returns-clause-looked : goal.returns-clause-looked
returns-clause-looked g c =
    let kept = c.collect-progress.new.self in
    let t : Seen = record (shown c.self.inside) { recorded = kept.machine; slots = c.collect-progress.new.slots; waiting = kept.holding.queue.waiting } in
    subst (λ (s : Seen). IsLooked s t c.args.work) c.self.view_is
    (record { waited = c.give_up_ended.new.self.holding.queue.waiting; all = c.give_up_ended.ensures.waiting; left = c.collect-progress.ensures.waiting })

pub returns-clause-same : goal.returns-clause-same
returns-clause-same g c sound told honest =
    let v = g.D.Disk.view c.args.disk.now in
    let kept = c.collect-progress.new.self in
    let slots = c.collect-progress.new.slots in
    let counted = c.collect-progress.ensures.counted in
    let slotted = all_slotted slots.keys kept.machine (λ key index block e. c.blocks_have_slots.ensures.snapshots slots key index block counted e) (λ key index block e. c.blocks_have_slots.ensures.volumes slots key index block counted e) in
    c.slots_fit.ensures.same c.args.disk.now (shown c.self.inside) (record (shown c.self.inside) { recorded = kept.machine; slots = slots; waiting = kept.holding.queue.waiting })
    (swept_dead (shown c.self.inside) kept.machine slots kept.holding.queue.waiting (c.collect-progress.ensures.machine ∙ c.give_up_ended.ensures.machine) slotted c.collect-progress.ensures.slots c.top-top.ensures.apart)
    (subst (Fit v) (sym c.self.view_is) (c.requires.fits sound told honest))
    ∙ ap (recorded v) c.self.view_is
