use Rattle.std.proofs.Common.{◌∙◌, sym, subst, ap}
use Rattle.ebs_holds.specs.Holds.{nodes_in}
use Rattle.ebs_recovery.specs.inner.Fits.{Fit, Seen, recorded}
use Rattle.ebs_disk_store.specs.inner.Collected.{Sweeps}
use Rattle.ebs_disk_store.specs.inner.Shown.{shown}
use Rattle.ebs_disk_store.proofs.Collects.{sound_swept, sweeps, swept_dead}
use Rattle.ebs_disk_store.proofs.store.Store.look_at_all.Goals as goal

pub sweep-requires : goal.sweep-requires
sweep-requires g c = c.self.invariant.counted

pub invariant_of-self : goal.invariant_of-self
invariant_of-self g c =
    let kept = c.sweep.new.kept in
    sound_swept (shown c.self.inside) _ (nodes_in kept.holding) kept.machine c.sweep.new.slots kept.holding.queue.waiting c.self.invariant c.sweep.ensures.machine c.sweep.ensures.counted c.sweep.ensures.slotted c.sweep.ensures.frees

pub returns-clause-fits : goal.returns-clause-fits
returns-clause-fits g c sound told honest =
    let v = g.D.Disk.view c.args.disk.now in
    let kept = c.sweep.new.kept in
    c.slots_fit.ensures.freed c.args.disk.now (shown c.self.inside) _
    (swept_dead (shown c.self.inside) kept.machine c.sweep.new.slots kept.holding.queue.waiting c.sweep.ensures.machine c.sweep.ensures.slotted c.sweep.ensures.frees c.top-top.ensures.apart)
    (subst (Fit v) (sym c.self.view_is) (c.requires.fits sound told honest))

pub returns-clause-sweeps : goal.returns-clause-sweeps
returns-clause-sweeps g c =
    let kept = c.sweep.new.kept in
    let t : Seen = record (shown c.self.inside) { recorded = kept.machine; slots = c.sweep.new.slots; waiting = kept.holding.queue.waiting } in
    subst (λ (s : Seen). Sweeps s t) c.self.view_is
    (sweeps (shown c.self.inside) kept.machine c.sweep.new.slots kept.holding.queue.waiting c.sweep.ensures.machine c.sweep.ensures.slotted c.sweep.ensures.frees (λ none stamp has. c.sweep.ensures.shared stamp has))

pub returns-clause-same : goal.returns-clause-same
returns-clause-same g c sound told honest =
    let v = g.D.Disk.view c.args.disk.now in
    let kept = c.sweep.new.kept in
    c.slots_fit.ensures.same c.args.disk.now (shown c.self.inside) (record (shown c.self.inside) { recorded = kept.machine; slots = c.sweep.new.slots; waiting = kept.holding.queue.waiting })
    (swept_dead (shown c.self.inside) kept.machine c.sweep.new.slots kept.holding.queue.waiting c.sweep.ensures.machine c.sweep.ensures.slotted c.sweep.ensures.frees c.top-top.ensures.apart)
    (subst (Fit v) (sym c.self.view_is) (c.requires.fits sound told honest))
    ∙ ap (recorded v) c.self.view_is
