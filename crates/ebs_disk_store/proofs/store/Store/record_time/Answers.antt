use Rattle.std.proofs.Common.{◌≡◌, ◌∙◌, ◌<◌, ◌∷◌, ◌++◌, sym, subst, ap, ℕ, false, List, [], length, refl, arith, rules}
use Rattle.ebs_world.specs.View.{Leaves}
use Rattle.ebs_journal.specs.inner.Line.{Line, line}
use Rattle.ebs_journal.specs.inner.Standing.{IsSettled, IsPending, IsOrAlso}
use Rattle.ebs_model.specs.Machine.{advance}
use Rattle.ebs_collect.specs.Slices.{IsCounted}
use Rattle.ebs_holds.specs.Holds.{Holding, nodes_in}
use Rattle.ebs_records.specs.declared.record.Record.TheVariants.{Advance}
use Rattle.ebs_recovery.specs.Made.{advanced}
use Rattle.ebs_recovery.specs.inner.Fits.{Seen, Fit, StandsOrAfter, recorded}
use Rattle.ebs_disk_store.specs.inner.Shown.{shown}
use Rattle.ebs_disk_store.proofs.Left.{left_unsure}
use Rattle.ebs_disk_store.proofs.Recorded.{left_as, sound_left}
use Rattle.ebs_disk_store.proofs.Timed as lemma
use Rattle.ebs_disk_store.proofs.store.Store.record_time.Goals as goal

pub invariant_of-self : goal.invariant_of-self
invariant_of-self g c =
    sound_left (shown c.self.inside) _ (Advance c.args.now) _ _ c.self.invariant c.self.invariant.counted refl refl refl refl (ap (λ (l : Line). l.end) c.in_default.ensures.err) (λ e. c.keep_unsure.ensures.unsure (c.is_clean.ensures ∙ e))

pub returns-in_default-clause-fits : goal.returns-in_default-clause-fits
returns-in_default-clause-fits g c sound told honest =
    let old = g.D.Disk.view c.args.disk.now in
    let new = g.D.Disk.view c.append.new.disk in
    let ran = c.append.ensures.ran in
    let view = sym c.self.view_is in
    let fit = subst (Fit old) view (c.requires.fits sound (sym ran.told ∙ told) (sym ran.kept_honest ∙ honest)) in
    let none = ap (λ (s : Seen). s.pending) c.self.view_is ∙ c.requires.clean in
    let later = subst (λ (s : Seen). s.recorded.clock.second < c.args.now.second) view c.requires.later in
    let at = line c.append.new.self in
    lemma.fit_refused old new (shown c.self.inside) c.args.now c.requires.early later none fit (c.kept_form_finds.ensures c.args.disk.now)
    (c.outcomes_fit.ensures.closed c.args.disk.now c.append.new.disk) (c.outcomes_fit.ensures.unsure c.args.disk.now c.append.new.disk) ran _ refl refl refl
    (λ e. c.keep_unsure.ensures.known (c.is_clean.ensures ∙ e) ∙ none) (λ e. c.keep_unsure.ensures.unsure (c.is_clean.ensures ∙ e))
    c.in_default.ensures.refused_clean
    (subst (λ (bytes : List ℕ). at.clean ≡ false → (checkpoint : List ℕ) (rs : List (List ℕ)) → IsSettled old (line c.self.inside.journal) checkpoint rs → IsPending new at checkpoint rs bytes) c.write_advance.ensures c.in_default.ensures.refused_unclean)

pub returns-in_default-clause-err : goal.returns-in_default-clause-err
returns-in_default-clause-err g c =
    let none = ap (λ (s : Seen). s.pending) c.self.view_is ∙ c.requires.clean in
    left_as (shown c.self.inside) _ (Advance c.args.now) c.args.self.now c.self.view_is refl refl refl refl none (c.self.invariant.clean none) c.in_default.ensures.err
    (λ e. c.keep_unsure.ensures.known (c.is_clean.ensures ∙ e) ∙ none) (λ e. c.keep_unsure.ensures.unsure (c.is_clean.ensures ∙ e))

pub returns-in_default-clause-same : goal.returns-in_default-clause-same
returns-in_default-clause-same g c sound told honest =
    c.fit_stays.ensures.machine c.args.disk.now c.append.new.disk c.args.self.now (record c.args.self.now { recorded = c.self.inside.kept.machine; slots = c.self.inside.slots }) (c.requires.fits sound told honest)
    (c.held_is_kept.ensures.journal c.args.disk.now c.append.new.disk c.args.self.now.slots.top c.append.ensures.ran)
    (ap (λ (s : Seen). s.recorded) c.self.view_is) (ap (λ (s : Seen). s.slots.keys) c.self.view_is)

pub returns-in_default-clause-moments : goal.returns-in_default-clause-moments
returns-in_default-clause-moments g c sound told honest =
    let old = g.D.Disk.view c.args.disk.now in
    let new = g.D.Disk.view c.append.new.disk in
    let view = sym c.self.view_is in
    let fit = subst (Fit old) view (c.requires.fits sound told honest) in
    let none = ap (λ (s : Seen). s.pending) c.self.view_is ∙ c.requires.clean in
    let later = subst (λ (s : Seen). s.recorded.clock.second < c.args.now.second) view c.requires.later in
    let runs = subst (λ (bytes : List ℕ). (checkpoint : List ℕ) (rs : List (List ℕ)) → IsSettled old (line c.self.inside.journal) checkpoint rs → Leaves old new (λ i. IsOrAlso i (line c.self.inside.journal) checkpoint rs bytes)) c.write_advance.ensures c.append.ensures.any_moment in
    let t : Seen = record (shown c.self.inside) { journal = line c.append.new.self; pending = c.keep_unsure.new.pending } in
    let appended : Leaves old new (StandsOrAfter old c.args.self.now (advanced c.args.now)) =
    subst (λ (s : Seen). Leaves old new (StandsOrAfter old s (advanced c.args.now))) c.self.view_is
    (lemma.while_appended old new (shown c.self.inside) c.args.now c.requires.early later none fit (c.kept_form_finds.ensures c.args.disk.now) (c.moments_stand.ensures.appended c.args.disk.now c.append.new.disk) c.append.ensures.ran runs) in
    left_unsure _ old new c.args.self.now t (advanced c.args.now) refl appended

pub invariant_of-self-2 : goal.invariant_of-self-2
invariant_of-self-2 g c =
    let none = ap (λ (s : Seen). s.pending) c.self.view_is ∙ c.requires.clean in
    let later = subst (λ (s : Seen). s.recorded.clock.second < c.args.now.second) (sym c.self.view_is) c.requires.later in
    let sized : length c.write_advance.result ≡ 9 = search rules in
    lemma.sound_aged (shown c.self.inside) _ c.args.now _ _ c.self.invariant (subst (λ (h : Holding). IsCounted c.self.inside.slots (nodes_in h)) (sym c.tick.ensures.holding) c.self.invariant.counted)
    c.tick.ensures.machine refl refl (ap (λ (l : Line). l.clean) c.in-Ok.ensures.ok ∙ c.self.invariant.clean none) (omega (arith, ap (λ (l : Line). l.end) c.in-Ok.ensures.ok, sized)) later c.requires.early

pub returns-clause-fits : goal.returns-clause-fits
returns-clause-fits g c sound told honest =
    let old = g.D.Disk.view c.args.disk.now in
    let new = g.D.Disk.view c.append.new.disk in
    let ran = c.append.ensures.ran in
    let view = sym c.self.view_is in
    let fit = subst (Fit old) view (c.requires.fits sound (sym ran.told ∙ told) (sym ran.kept_honest ∙ honest)) in
    let none = ap (λ (s : Seen). s.pending) c.self.view_is ∙ c.requires.clean in
    let later = subst (λ (s : Seen). s.recorded.clock.second < c.args.now.second) view c.requires.later in
    let runs = subst (λ (bytes : List ℕ). (checkpoint : List ℕ) (rs : List (List ℕ)) → IsSettled old (line c.self.inside.journal) checkpoint rs → IsSettled new (line c.append.new.self) checkpoint (rs ++ bytes ∷ [])) c.write_advance.ensures c.in-Ok.ensures.acknowledged in
    (lemma.fit_taken old new (shown c.self.inside) c.args.now c.requires.early later none fit (c.kept_form_finds.ensures c.args.disk.now)
    (c.outcomes_fit.ensures.acknowledged c.args.disk.now c.append.new.disk) ran _ c.tick.ensures.machine refl refl none runs).0

pub returns-clause-ok : goal.returns-clause-ok
returns-clause-ok g c =
    let none = ap (λ (s : Seen). s.pending) c.self.view_is ∙ c.requires.clean in
    let is = c.tick.ensures.machine ∙ ap (λ (s : Seen). advance s.recorded c.args.now) c.self.view_is in
    let waiting = ap (λ (h : Holding). h.queue.waiting) c.tick.ensures.holding ∙ ap (λ (s : Seen). s.waiting) c.self.view_is in
    λ i. record { recorded = is i; clock = c.args.now; slots = (ap (λ (s : Seen). s.slots) c.self.view_is) i; waiting = waiting i; journal = line c.append.new.self; pending = none i }

pub returns-clause-aged : goal.returns-clause-aged
returns-clause-aged g c sound told honest =
    let old = g.D.Disk.view c.args.disk.now in
    let new = g.D.Disk.view c.append.new.disk in
    let view = sym c.self.view_is in
    let fit = subst (Fit old) view (c.requires.fits sound told honest) in
    let none = ap (λ (s : Seen). s.pending) c.self.view_is ∙ c.requires.clean in
    let later = subst (λ (s : Seen). s.recorded.clock.second < c.args.now.second) view c.requires.later in
    let runs = subst (λ (bytes : List ℕ). (checkpoint : List ℕ) (rs : List (List ℕ)) → IsSettled old (line c.self.inside.journal) checkpoint rs → IsSettled new (line c.append.new.self) checkpoint (rs ++ bytes ∷ [])) c.write_advance.ensures c.in-Ok.ensures.acknowledged in
    let t : Seen = record (shown c.self.inside) { recorded = c.tick.new.self.machine; clock = c.args.now; waiting = c.tick.new.self.holding.queue.waiting; journal = line c.append.new.self } in
    subst (λ (s : Seen). recorded new t ≡ advance (recorded old s) c.args.now) c.self.view_is
    (lemma.fit_taken old new (shown c.self.inside) c.args.now c.requires.early later none fit (c.kept_form_finds.ensures c.args.disk.now)
    (c.outcomes_fit.ensures.acknowledged c.args.disk.now c.append.new.disk) c.append.ensures.ran t c.tick.ensures.machine refl refl none runs).1

pub returns-clause-moments : goal.returns-clause-moments
returns-clause-moments g c sound told honest =
    let old = g.D.Disk.view c.args.disk.now in
    let new = g.D.Disk.view c.append.new.disk in
    let view = sym c.self.view_is in
    let fit = subst (Fit old) view (c.requires.fits sound told honest) in
    let none = ap (λ (s : Seen). s.pending) c.self.view_is ∙ c.requires.clean in
    let later = subst (λ (s : Seen). s.recorded.clock.second < c.args.now.second) view c.requires.later in
    let runs = subst (λ (bytes : List ℕ). (checkpoint : List ℕ) (rs : List (List ℕ)) → IsSettled old (line c.self.inside.journal) checkpoint rs → Leaves old new (λ i. IsOrAlso i (line c.self.inside.journal) checkpoint rs bytes)) c.write_advance.ensures c.append.ensures.any_moment in
    let t : Seen = record (shown c.self.inside) { recorded = c.tick.new.self.machine; clock = c.args.now; waiting = c.tick.new.self.holding.queue.waiting; journal = line c.append.new.self } in
    let appended : Leaves old new (StandsOrAfter old c.args.self.now (advanced c.args.now)) =
    subst (λ (s : Seen). Leaves old new (StandsOrAfter old s (advanced c.args.now))) c.self.view_is
    (lemma.while_appended old new (shown c.self.inside) c.args.now c.requires.early later none fit (c.kept_form_finds.ensures c.args.disk.now) (c.moments_stand.ensures.appended c.args.disk.now c.append.new.disk) c.append.ensures.ran runs) in
    lemma.left_aged _ old new c.args.self.now t c.args.now (returns-clause-aged g c sound told honest) appended
