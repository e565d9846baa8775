use Rattle.std.proofs.Common.{◌≡◌, ◌+◌, ◌∙◌, sym, subst, ap, refl, arith}
use Rattle.ebs_world.specs.View.{Leaves}
use Rattle.ebs_journal.specs.inner.Areas.{other}
use Rattle.ebs_journal.specs.inner.Line.{Line, line}
use Rattle.ebs_model.specs.Machine.{advance}
use Rattle.ebs_collect.specs.Slices.{IsCounted}
use Rattle.ebs_holds.specs.Holds.{Holding, nodes_in}
use Rattle.ebs_recovery.specs.Made.{advanced}
use Rattle.ebs_recovery.specs.inner.Fits.{Seen, Fit, StandsOrAfter, recorded}
use Rattle.ebs_disk_store.specs.inner.Shown.{shown}
use Rattle.ebs_disk_store.specs.inner.Pointed.{IsNext, IsUnpointed}
use Rattle.ebs_disk_store.proofs.Left.{left_unsure}
use Rattle.ebs_disk_store.proofs.Pointed as lemma
use Rattle.ebs_disk_store.proofs.Timed.{left_aged}
use Rattle.ebs_disk_store.proofs.store.Store.turn_to.Goals as goal

pub invariant_of-self : goal.invariant_of-self
invariant_of-self g c =
    lemma.sound_unpointed (shown c.self.inside) _ _ _ c.self.invariant c.self.invariant.counted refl refl refl (ap (λ (l : Line). l.end) c.in_default.ensures.err) (λ e. c.keep_unsure.ensures.unsure (c.is_clean.ensures ∙ e))

pub returns-in_default-clause-fits : goal.returns-in_default-clause-fits
returns-in_default-clause-fits g c sound told honest =
    let old = g.D.Disk.view c.args.disk.now in
    let new = g.D.Disk.view c.rotate.new.disk in
    let ran = c.rotate.ensures.ran in
    let s = shown c.self.inside in
    let fit = subst (Fit old) (sym c.self.view_is) (c.requires.fits sound (sym ran.told ∙ told) (sym ran.kept_honest ∙ honest)) in
    let none = ap (λ (s : Seen). s.pending) c.self.view_is ∙ c.requires.clean in
    let next = subst (λ (s : Seen). IsNext s c.args.bytes.now) (sym c.self.view_is) c.requires.next in
    lemma.fit_unpointed old new s c.args.bytes.now next none fit ran (c.outcomes_fit.ensures.closed c.args.disk.now c.rotate.new.disk) (c.points_turn.ensures.doubt c.args.disk.now c.rotate.new.disk) _ refl refl refl
    (λ e. c.keep_unsure.ensures.known (c.is_clean.ensures ∙ e) ∙ none) (λ e. c.keep_unsure.ensures.unsure (c.is_clean.ensures ∙ e)) c.in_default.ensures.refused_clean c.in_default.ensures.refused_unclean

pub returns-in_default-clause-err : goal.returns-in_default-clause-err
returns-in_default-clause-err g c =
    let none = ap (λ (s : Seen). s.pending) c.self.view_is ∙ c.requires.clean in
    subst (λ (s : Seen). IsUnpointed s (record (shown c.self.inside) { journal = line c.rotate.new.self; pending = c.keep_unsure.new.pending })) c.self.view_is
    (lemma.unpointed (shown c.self.inside) _ refl refl refl refl c.in_default.ensures.err
    (λ e. c.keep_unsure.ensures.known (c.is_clean.ensures ∙ e) ∙ none) (λ e. c.keep_unsure.ensures.unsure (c.is_clean.ensures ∙ e)))

pub returns-in_default-clause-same : goal.returns-in_default-clause-same
returns-in_default-clause-same g c sound told honest =
    c.fit_stays.ensures.machine c.args.disk.now c.rotate.new.disk c.args.self.now (record c.args.self.now { recorded = c.self.inside.kept.machine; slots = c.self.inside.slots }) (c.requires.fits sound told honest)
    (c.held_is_kept.ensures.journal c.args.disk.now c.rotate.new.disk c.args.self.now.slots.top c.rotate.ensures.ran)
    (ap (λ (s : Seen). s.recorded) c.self.view_is) (ap (λ (s : Seen). s.slots.keys) c.self.view_is)

pub returns-in_default-clause-moments : goal.returns-in_default-clause-moments
returns-in_default-clause-moments g c sound told honest =
    let old = g.D.Disk.view c.args.disk.now in
    let new = g.D.Disk.view c.rotate.new.disk in
    let s = shown c.self.inside in
    let fit = subst (Fit old) (sym c.self.view_is) (c.requires.fits sound told honest) in
    let none = ap (λ (s : Seen). s.pending) c.self.view_is ∙ c.requires.clean in
    let next = subst (λ (s : Seen). IsNext s c.args.bytes.now) (sym c.self.view_is) c.requires.next in
    let t : Seen = record s { journal = line c.rotate.new.self; pending = c.keep_unsure.new.pending } in
    let turned : Leaves old new (StandsOrAfter old c.args.self.now (advanced c.args.self.now.clock)) =
    subst (λ (s : Seen). Leaves old new (StandsOrAfter old s (advanced s.clock))) c.self.view_is
    (lemma.while_pointed old new s c.args.bytes.now next none fit c.rotate.ensures.ran (c.points_turn.ensures.moments c.args.disk.now c.rotate.new.disk) c.rotate.ensures.any_moment) in
    left_unsure _ old new c.args.self.now t (advanced c.args.self.now.clock) refl turned

pub tick-requires-clause-later : goal.tick-requires-clause-later
tick-requires-clause-later g c = c.self.invariant.late

pub tick-requires-clause-early : goal.tick-requires-clause-early
tick-requires-clause-early g c = c.self.invariant.early

pub invariant_of-self-2 : goal.invariant_of-self-2
invariant_of-self-2 g c =
    let short = c.requires.next.short in
    lemma.sound_pointed (shown c.self.inside) _ _ _ c.self.invariant (subst (λ (h : Holding). IsCounted c.self.inside.slots (nodes_in h)) (sym c.tick.ensures.holding) c.self.invariant.counted)
    c.tick.ensures.machine refl refl (ap (λ (l : Line). l.clean) c.in-Ok.ensures.ok) (omega (arith, ap (λ (l : Line). l.end) c.in-Ok.ensures.ok, short))

pub returns-clause-fits : goal.returns-clause-fits
returns-clause-fits g c sound told honest =
    let old = g.D.Disk.view c.args.disk.now in
    let new = g.D.Disk.view c.rotate.new.disk in
    let ran = c.rotate.ensures.ran in
    let s = shown c.self.inside in
    let fit = subst (Fit old) (sym c.self.view_is) (c.requires.fits sound (sym ran.told ∙ told) (sym ran.kept_honest ∙ honest)) in
    let none = ap (λ (s : Seen). s.pending) c.self.view_is ∙ c.requires.clean in
    let next = subst (λ (s : Seen). IsNext s c.args.bytes.now) (sym c.self.view_is) c.requires.next in
    (lemma.fit_pointed old new s c.args.bytes.now next none fit ran (c.points_turn.ensures.fit c.args.disk.now c.rotate.new.disk) _ c.tick.ensures.machine refl refl none c.in-Ok.ensures.rotated).0

pub returns-clause-ok : goal.returns-clause-ok
returns-clause-ok g c =
    let none = ap (λ (s : Seen). s.pending) c.self.view_is ∙ c.requires.clean in
    let is = c.tick.ensures.machine ∙ ap (λ (s : Seen). advance s.recorded s.clock) c.self.view_is in
    let waiting = ap (λ (h : Holding). h.queue.waiting) c.tick.ensures.holding ∙ ap (λ (s : Seen). s.waiting) c.self.view_is in
    record {
      is = λ i. record { recorded = is i; clock = (ap (λ (s : Seen). s.clock) c.self.view_is) i; slots = (ap (λ (s : Seen). s.slots) c.self.view_is) i; waiting = waiting i; journal = line c.rotate.new.self; pending = none i };
      area = ap (λ (l : Line). l.area) c.in-Ok.ensures.ok ∙ ap (λ (s : Seen). other s.journal.area) c.self.view_is;
      epoch = ap (λ (l : Line). l.epoch) c.in-Ok.ensures.ok ∙ ap (λ (s : Seen). s.journal.epoch + 1) c.self.view_is;
      records = ap (λ (l : Line). l.since_checkpoint) c.in-Ok.ensures.ok;
    }

pub returns-clause-aged : goal.returns-clause-aged
returns-clause-aged g c sound told honest =
    let old = g.D.Disk.view c.args.disk.now in
    let new = g.D.Disk.view c.rotate.new.disk in
    let s = shown c.self.inside in
    let fit = subst (Fit old) (sym c.self.view_is) (c.requires.fits sound told honest) in
    let none = ap (λ (s : Seen). s.pending) c.self.view_is ∙ c.requires.clean in
    let next = subst (λ (s : Seen). IsNext s c.args.bytes.now) (sym c.self.view_is) c.requires.next in
    let t : Seen = record s { recorded = c.tick.new.self.machine; waiting = c.tick.new.self.holding.queue.waiting; journal = line c.rotate.new.self } in
    subst (λ (s : Seen). recorded new t ≡ advance (recorded old s) s.clock) c.self.view_is
    (lemma.fit_pointed old new s c.args.bytes.now next none fit c.rotate.ensures.ran (c.points_turn.ensures.fit c.args.disk.now c.rotate.new.disk) t c.tick.ensures.machine refl refl none c.in-Ok.ensures.rotated).1

pub returns-clause-moments : goal.returns-clause-moments
returns-clause-moments g c sound told honest =
    let old = g.D.Disk.view c.args.disk.now in
    let new = g.D.Disk.view c.rotate.new.disk in
    let s = shown c.self.inside in
    let fit = subst (Fit old) (sym c.self.view_is) (c.requires.fits sound told honest) in
    let none = ap (λ (s : Seen). s.pending) c.self.view_is ∙ c.requires.clean in
    let next = subst (λ (s : Seen). IsNext s c.args.bytes.now) (sym c.self.view_is) c.requires.next in
    let t : Seen = record s { recorded = c.tick.new.self.machine; waiting = c.tick.new.self.holding.queue.waiting; journal = line c.rotate.new.self } in
    let turned : Leaves old new (StandsOrAfter old c.args.self.now (advanced c.args.self.now.clock)) =
    subst (λ (s : Seen). Leaves old new (StandsOrAfter old s (advanced s.clock))) c.self.view_is
    (lemma.while_pointed old new s c.args.bytes.now next none fit c.rotate.ensures.ran (c.points_turn.ensures.moments c.args.disk.now c.rotate.new.disk) c.rotate.ensures.any_moment) in
    left_aged _ old new c.args.self.now t c.args.self.now.clock (returns-clause-aged g c sound told honest) turned
