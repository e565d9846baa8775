use Rattle.std.proofs.Common.{inl, inr, ap, sym, subst}
use Rattle.ebs_recovery.specs.Made.{advanced}
use Rattle.ebs_recovery.specs.inner.Fits.{Fit, Seen, recorded}
use Rattle.ebs_disk_store.proofs.Collects.{on_ok, passes_aged, passes_clock, stays_on}
use Rattle.ebs_disk_store.proofs.Held.{fit_clock}
use Rattle.ebs_disk_store.proofs.Timed.{stays_aged}
use Rattle.ebs_disk_store.proofs.Turns.{idle}
use Rattle.ebs_disk_store.proofs.store.Store.pass.Goals as goal

pub settle_time-requires-clause-later : goal.settle_time-requires-clause-later
settle_time-requires-clause-later g c = c.is_behind.ensures.later c.if-is_behind.true

pub returns-then-is_behind-clause-passes : goal.returns-then-is_behind-clause-passes
returns-then-is_behind-clause-passes g c = on_ok c.settle_time.result _ _ (λ is. passes_aged c.args.self.now c.settle_time.new.self c.args.now is) c.settle_time.ensures.ok

pub returns-then-is_behind-clause-slots : goal.returns-then-is_behind-clause-slots
returns-then-is_behind-clause-slots g c = on_ok c.settle_time.result _ _ (λ is. ap (λ (s : Seen). s.slots) is) c.settle_time.ensures.ok

pub returns-then-is_behind-clause-waiting : goal.returns-then-is_behind-clause-waiting
returns-then-is_behind-clause-waiting g c = on_ok c.settle_time.result _ _ (λ is. ap (λ (s : Seen). s.waiting) is) c.settle_time.ensures.ok

pub returns-then-is_behind-clause-stays : goal.returns-then-is_behind-clause-stays
returns-then-is_behind-clause-stays g c = on_ok c.settle_time.result _ _ (λ is. stays_on _ c.settle_time.new.self.recorded c.args.now (ap (λ (s : Seen). s.recorded) is) (stays_aged c.args.self.now.recorded c.args.now)) c.settle_time.ensures.ok

pub returns-then-is_behind-clause-aged : goal.returns-then-is_behind-clause-aged
returns-then-is_behind-clause-aged g c = on_ok c.settle_time.result _ _ (λ aged sound told honest. inr (aged sound told honest)) c.settle_time.ensures.aged

pub returns-clause-fits : goal.returns-clause-fits
returns-clause-fits g c sound told honest =
    let v = g.D.Disk.view c.args.disk.now in
    subst (Fit v) (sym c.tick.ensures) (fit_clock v c.args.self.now c.args.now c.requires.late (c.requires.fits sound told honest))

pub returns-clause-passes : goal.returns-clause-passes
returns-clause-passes g c = passes_clock c.args.self.now c.tick.new.self c.args.now c.tick.ensures

pub returns-clause-stays : goal.returns-clause-stays
returns-clause-stays g c = stays_on c.args.self.now.recorded c.tick.new.self.recorded c.args.now (ap (λ (s : Seen). s.recorded) c.tick.ensures) (c.is_behind.ensures.stays c.if-is_behind.false)

pub returns-clause-aged : goal.returns-clause-aged
returns-clause-aged g c sound told honest = inl (ap (recorded (g.D.Disk.view c.args.disk.now)) c.tick.ensures)

pub returns-clause-moments : goal.returns-clause-moments
returns-clause-moments g c sound told honest =
    let v = g.D.Disk.view c.args.disk.now in
    idle _ v (g.met.D.Disk.true_to_itself c.args.disk.now) (c.fit_stays.ensures.moments c.args.disk.now c.args.disk.now) c.args.self.now c.tick.new.self (c.requires.fits sound told honest) (advanced c.args.now)

pub returns-then-is_behind-clause-settled : goal.returns-then-is_behind-clause-settled
returns-then-is_behind-clause-settled g c = on_ok c.settle_time.result _ _ (λ is sound told honest. inl (ap (λ (s : Seen). s.pending) is)) c.settle_time.ensures.ok

pub returns-clause-settled : goal.returns-clause-settled
returns-clause-settled g c sound told honest = inr (ap (recorded (g.D.Disk.view c.args.disk.now)) c.tick.ensures)
