use Rattle.std.proofs.Common.{◌≡◌, ◌∙◌, ◌≤◌, sym, subst, ap, ℕ, Bool, true, false, [], Err, refl, arith}
use Rattle.ebs_world.specs.View.{Leaves}
use Rattle.ebs_journal.specs.inner.Line.{Line, line}
use Rattle.ebs_model.specs.Machine.{Machine, advance}
use Rattle.ebs_model.specs.Step.{changed}
use Rattle.ebs_records.specs.declared.record.Record.TheVariants.{Accepted}
use Rattle.ebs_recovery.specs.inner.Made.{Leads}
use Rattle.ebs_recovery.specs.Made.{called}
use Rattle.ebs_recovery.specs.inner.Fits.{Seen, Fit, StandsForOne, StandsOrAfter, recorded}
use Rattle.ebs_disk_store.specs.inner.Calls.{IsRuled}
use Rattle.ebs_disk_store.specs.declared.store.Stop.{Stop}
use Rattle.ebs_disk_store.specs.inner.Told.{called_at}
use Rattle.ebs_collect.specs.Backlogs.{Queue}
use Rattle.ebs_holds.specs.Holds.{nodes_in}
use Rattle.ebs_disk_store.specs.inner.Shown.{shown}
use Rattle.ebs_recovery.proofs.Short.{of_record}
use Rattle.ebs_disk_store.proofs.RowCalls.{is_record}
use Rattle.ebs_disk_store.proofs.Counts.{counted, sized}
use Rattle.ebs_disk_store.proofs.Left.{left_before, left_made, left_stopped}
use Rattle.ebs_disk_store.proofs.Recorded as lemma
use Rattle.ebs_disk_store.proofs.Taken.{keeps_blocks}
use Rattle.ebs_disk_store.proofs.Turns.{still}
use Rattle.ebs_disk_store.proofs.store.Store.record.Goals as goal

later : {a b c : ℕ} → a ≤ b → b ≤ c → a ≤ c
later {a} {b} {c} first second = omega (arith, first, second)

truths : {A : Type 0} (b : Bool) → b ≡ true → b ≡ false → A
truths b e f = absurd (cc)

pub invariant_of-self : goal.invariant_of-self
invariant_of-self g c =
    let none = ap (λ (s : Seen). s.pending) c.self.view_is ∙ c.requires.clean in
    lemma.sound_left (shown c.self.inside) _ (Accepted (called_at c.args.account c.args.now c.args.request)) _ _ c.self.invariant
    (c.blocks_stay.ensures.counted (nodes_in c.self.inside.kept.holding) (nodes_in c.reserve.new.self.holding) c.self.inside.slots c.reserve.ensures.blocks c.self.invariant.counted)
    c.reserve.ensures.machine refl refl refl refl (λ e. truths (line c.self.inside.journal).clean (c.self.invariant.clean none) e)

pub returns-in_default-clause-moments : goal.returns-in_default-clause-moments
returns-in_default-clause-moments g c sound told honest =
    let old = g.D.Disk.view c.args.disk.now in
    let t : Seen = record { recorded = c.reserve.new.self.machine; clock = c.self.inside.clock; slots = c.self.inside.slots; waiting = c.reserve.new.self.holding.queue.waiting; journal = line c.self.inside.journal; pending = c.self.inside.pending } in
    left_before _ old old c.args.self.now t (called (called_at c.args.account c.args.now c.args.request))
    (still old (g.met.D.Disk.true_to_itself c.args.disk.now) (c.fit_stays.ensures.moments c.args.disk.now c.args.disk.now) c.args.self.now (c.requires.fits sound told honest))

pub append-requires-clause-value : goal.append-requires-clause-value
append-requires-clause-value g c = is_record c.args.request c.requires.row c.check_fields.ensures c.requires.within
    (counted c.self.inside.kept.machine c.args.now c.args.account c.args.request _ c.args.answer (subst (λ (s : Seen). IsRuled (advance s.recorded c.args.now) c.args.account c.args.request c.args.change c.args.answer) (sym c.self.view_is) c.requires.ruled).acts c.self.invariant.indexed)
    (sized _ c.args.account c.args.request _ c.args.answer c.requires.ruled.acts) c.args.now c.args.account c.requires.early c.number-number.ensures.below

pub append-requires-clause-short : goal.append-requires-clause-short
append-requires-clause-short g c = of_record (Accepted (called_at c.args.account c.args.now c.args.request))
    (is_record c.args.request c.requires.row c.check_fields.ensures c.requires.within
    (counted c.self.inside.kept.machine c.args.now c.args.account c.args.request _ c.args.answer (subst (λ (s : Seen). IsRuled (advance s.recorded c.args.now) c.args.account c.args.request c.args.change c.args.answer) (sym c.self.view_is) c.requires.ruled).acts c.self.invariant.indexed)
    (sized _ c.args.account c.args.request _ c.args.answer c.requires.ruled.acts) c.args.now c.args.account c.requires.early c.number-number.ensures.below)

pub invariant_of-self-in-Err : goal.invariant_of-self-in-Err
invariant_of-self-in-Err g c =
    lemma.sound_left _ _ _ _ _ c.self.invariant
    (c.blocks_stay.ensures.counted (nodes_in c.self.inside.kept.holding) (nodes_in c.release.new.self.holding) c.self.inside.slots (λ n. c.release.ensures.blocks n ∙ c.reserve.ensures.blocks n) c.self.invariant.counted)
    (c.release.ensures.machine ∙ c.reserve.ensures.machine) refl refl refl (ap (λ (l : Line). l.end) c.in-Err.ensures.err) (λ e. c.keep_unsure.ensures.unsure (c.is_clean.ensures ∙ e))

pub returns-in-Err-clause-fits : goal.returns-in-Err-clause-fits
returns-in-Err-clause-fits g c sound told honest =
    let old = g.D.Disk.view c.args.disk.now in
    let new = g.D.Disk.view c.append.new.disk in
    let ran = c.append.ensures.ran in
    let view = sym c.self.view_is in
    let fit = subst (Fit old) view (c.requires.fits sound (sym ran.told ∙ told) (sym ran.kept_honest ∙ honest)) in
    let ruled = subst (λ (s : Seen). IsRuled (advance s.recorded c.args.now) c.args.account c.args.request c.args.change c.args.answer) view c.requires.ruled in
    let none = ap (λ (s : Seen). s.pending) c.self.view_is ∙ c.requires.clean in
    let late = later c.self.invariant.late (subst (λ (s : Seen). s.clock.second ≤ c.args.now.second) view c.requires.late) in
    lemma.fit_refused old new _ c.args.account c.args.now c.args.request c.requires.row c.args.change c.args.answer ruled
    (is_record c.args.request c.requires.row c.check_fields.ensures c.requires.within
    (counted c.self.inside.kept.machine c.args.now c.args.account c.args.request _ c.args.answer (subst (λ (s : Seen). IsRuled (advance s.recorded c.args.now) c.args.account c.args.request c.args.change c.args.answer) (sym c.self.view_is) c.requires.ruled).acts c.self.invariant.indexed)
    (sized _ c.args.account c.args.request _ c.args.answer c.requires.ruled.acts) c.args.now c.args.account c.requires.early c.number-number.ensures.below)
    late none fit (c.kept_form_finds.ensures c.args.disk.now)
    (c.outcomes_fit.ensures.closed c.args.disk.now c.append.new.disk) (c.outcomes_fit.ensures.unsure c.args.disk.now c.append.new.disk) ran _
    (c.release.ensures.machine ∙ c.reserve.ensures.machine) refl refl
    (λ e. c.keep_unsure.ensures.known (c.is_clean.ensures ∙ e) ∙ none) (λ e. c.keep_unsure.ensures.unsure (c.is_clean.ensures ∙ e))
    c.in-Err.ensures.refused_clean c.in-Err.ensures.refused_unclean

pub returns-in-Err-clause-err : goal.returns-in-Err-clause-err
returns-in-Err-clause-err g c =
    let none = ap (λ (s : Seen). s.pending) c.self.view_is ∙ c.requires.clean in
    lemma.left_as _ _ (Accepted (called_at c.args.account c.args.now c.args.request)) c.args.self.now c.self.view_is
    (c.release.ensures.machine ∙ c.reserve.ensures.machine) refl (ap (λ (q : Queue). q.waiting) (c.release.ensures.queue ∙ c.reserve.ensures.queue)) refl none (c.self.invariant.clean none) c.in-Err.ensures.err
    (λ e. c.keep_unsure.ensures.known (c.is_clean.ensures ∙ e) ∙ none) (λ e. c.keep_unsure.ensures.unsure (c.is_clean.ensures ∙ e))

pub returns-in-Err-clause-memory : goal.returns-in-Err-clause-memory
returns-in-Err-clause-memory g c = λ is.
    let none = ap (λ (s : Seen). s.pending) c.self.view_is ∙ c.requires.clean in
    let journal = c.append.ensures.memory (c.in-Err.is ∙ ap (λ (stop : Stop). Err stop) (lemma.stop_is _ _ is)) in
    lemma.left_still (shown c.self.inside) _ c.args.self.now c.self.view_is
    (c.release.ensures.machine ∙ c.reserve.ensures.machine) refl (ap (λ (q : Queue). q.waiting) (c.release.ensures.queue ∙ c.reserve.ensures.queue)) refl journal
    (c.keep_unsure.ensures.known (c.is_clean.ensures ∙ ap (λ (l : Line). l.clean) journal ∙ c.self.invariant.clean none))

pub returns-in-Err-clause-same : goal.returns-in-Err-clause-same
returns-in-Err-clause-same g c sound told honest =
    c.fit_stays.ensures.machine c.args.disk.now c.append.new.disk c.args.self.now (record c.args.self.now { recorded = c.release.new.self.machine; slots = c.self.inside.slots }) (c.requires.fits sound told honest)
    (c.held_is_kept.ensures.journal c.args.disk.now c.append.new.disk c.args.self.now.slots.top c.append.ensures.ran)
    (c.release.ensures.machine ∙ c.reserve.ensures.machine ∙ ap (λ (s : Seen). s.recorded) c.self.view_is) (ap (λ (s : Seen). s.slots.keys) c.self.view_is)

pub returns-in-Err-clause-moments : goal.returns-in-Err-clause-moments
returns-in-Err-clause-moments g c sound told honest =
    let old = g.D.Disk.view c.args.disk.now in
    let new = g.D.Disk.view c.append.new.disk in
    let ran = c.append.ensures.ran in
    let view = sym c.self.view_is in
    let fit = subst (Fit old) view (c.requires.fits sound told honest) in
    let ruled = subst (λ (s : Seen). IsRuled (advance s.recorded c.args.now) c.args.account c.args.request c.args.change c.args.answer) view c.requires.ruled in
    let none = ap (λ (s : Seen). s.pending) c.self.view_is ∙ c.requires.clean in
    let late = later c.self.invariant.late (subst (λ (s : Seen). s.clock.second ≤ c.args.now.second) view c.requires.late) in
    let t : Seen = record { recorded = c.release.new.self.machine; clock = c.self.inside.clock; slots = c.self.inside.slots; waiting = c.release.new.self.holding.queue.waiting; journal = line c.append.new.journal; pending = c.keep_unsure.new.pending } in
    let e = called (called_at c.args.account c.args.now c.args.request) in
    let appended : Leaves old new (StandsOrAfter old c.args.self.now e) =
    subst (λ (s : Seen). Leaves old new (StandsOrAfter old s (called (called_at c.args.account c.args.now c.args.request)))) c.self.view_is
    (lemma.while_appended old new _ c.args.account c.args.now c.args.request c.requires.row c.args.change c.args.answer ruled
    (is_record c.args.request c.requires.row c.check_fields.ensures c.requires.within
    (counted c.self.inside.kept.machine c.args.now c.args.account c.args.request _ c.args.answer (subst (λ (s : Seen). IsRuled (advance s.recorded c.args.now) c.args.account c.args.request c.args.change c.args.answer) (sym c.self.view_is) c.requires.ruled).acts c.self.invariant.indexed)
    (sized _ c.args.account c.args.request _ c.args.answer c.requires.ruled.acts) c.args.now c.args.account c.requires.early c.number-number.ensures.below)
    late none fit (c.kept_form_finds.ensures c.args.disk.now) (c.moments_stand.ensures.appended c.args.disk.now c.append.new.disk) ran c.append.ensures.any_moment) in
    left_stopped (Err c.in-Err.stop) c.in-Err.stop refl old new c.args.self.now t e
    (λ is. subst (λ d. Leaves old (g.D.Disk.view d) (StandsForOne old c.args.self.now)) (sym (c.append.ensures.still (c.in-Err.is ∙ ap (λ (stop : Stop). Err stop) is)))
    (still old (g.met.D.Disk.true_to_itself c.args.disk.now) (c.fit_stays.ensures.moments c.args.disk.now c.args.disk.now) c.args.self.now (c.requires.fits sound told honest)))
    appended

pub invariant_of-self-2 : goal.invariant_of-self-2
invariant_of-self-2 g c =
    let view = sym c.self.view_is in
    let ruled = subst (λ (s : Seen). IsRuled (advance s.recorded c.args.now) c.args.account c.args.request c.args.change c.args.answer) view c.requires.ruled in
    let keeps = keeps_blocks (nodes_in c.reserve.new.self.holding) (nodes_in c.commit.new.self.holding) _ _ c.args.change.request c.requires.ruled.brings c.commit.ensures.counted in
    let late = later c.self.invariant.late (subst (λ (s : Seen). s.clock.second ≤ c.args.now.second) view c.requires.late) in
    lemma.sound_taken _ _ c.args.account c.args.now c.args.request c.args.change c.args.answer _ _ c.self.invariant
    (c.blocks_stay.ensures.counted (nodes_in c.self.inside.kept.holding) (nodes_in c.commit.new.self.holding) c.self.inside.slots (λ n. keeps n ∙ c.reserve.ensures.blocks n) c.self.invariant.counted) c.requires.row c.requires.within ruled
    (c.commit.ensures.changed [] (c.requires.ruled.brings _) ∙ ap (λ (m : Machine). changed (advance m c.args.now) [] c.args.change) c.reserve.ensures.machine) refl refl
    c.in_default-append.ensures.ok.0 c.in_default-append.ensures.ok.1 (lemma.unspent c.self.inside.kept.machine c.args.now ruled.unspent) late c.requires.early

pub returns-clause-fits : goal.returns-clause-fits
returns-clause-fits g c sound told honest =
    let old = g.D.Disk.view c.args.disk.now in
    let new = g.D.Disk.view c.append.new.disk in
    let ran = c.append.ensures.ran in
    let view = sym c.self.view_is in
    let fit = subst (Fit old) view (c.requires.fits sound (sym ran.told ∙ told) (sym ran.kept_honest ∙ honest)) in
    let ruled = subst (λ (s : Seen). IsRuled (advance s.recorded c.args.now) c.args.account c.args.request c.args.change c.args.answer) view c.requires.ruled in
    let none = ap (λ (s : Seen). s.pending) c.self.view_is ∙ c.requires.clean in
    let late = later c.self.invariant.late (subst (λ (s : Seen). s.clock.second ≤ c.args.now.second) view c.requires.late) in
    (lemma.fit_taken old new _ c.args.account c.args.now c.args.request c.requires.row c.args.change c.args.answer ruled
    (is_record c.args.request c.requires.row c.check_fields.ensures c.requires.within
    (counted c.self.inside.kept.machine c.args.now c.args.account c.args.request _ c.args.answer (subst (λ (s : Seen). IsRuled (advance s.recorded c.args.now) c.args.account c.args.request c.args.change c.args.answer) (sym c.self.view_is) c.requires.ruled).acts c.self.invariant.indexed)
    (sized _ c.args.account c.args.request _ c.args.answer c.requires.ruled.acts) c.args.now c.args.account c.requires.early c.number-number.ensures.below)
    late none fit (c.kept_form_finds.ensures c.args.disk.now)
    (c.outcomes_fit.ensures.acknowledged c.args.disk.now c.append.new.disk) ran _
    (c.commit.ensures.changed [] (c.requires.ruled.brings _) ∙ ap (λ (m : Machine). changed (advance m c.args.now) [] c.args.change) c.reserve.ensures.machine) refl refl none
    c.in_default-append.ensures.acknowledged).0

pub returns-clause-ok : goal.returns-clause-ok
returns-clause-ok g c =
    let is = c.commit.ensures.changed [] (c.requires.ruled.brings _) ∙ ap (λ (m : Machine). changed (advance m c.args.now) [] c.args.change) (c.reserve.ensures.machine ∙ ap (λ (s : Seen). s.recorded) c.self.view_is) in
    let none = ap (λ (s : Seen). s.pending) c.self.view_is ∙ c.requires.clean in
    λ i. record { recorded = is i; clock = c.args.now; slots = (ap (λ (s : Seen). s.slots) c.self.view_is) i; waiting = c.commit.new.self.holding.queue.waiting; journal = line c.append.new.journal; pending = none i }

pub returns-clause-leads : goal.returns-clause-leads
returns-clause-leads g c sound told honest =
    let old = g.D.Disk.view c.args.disk.now in
    let new = g.D.Disk.view c.append.new.disk in
    let ran = c.append.ensures.ran in
    let view = sym c.self.view_is in
    let fit = subst (Fit old) view (c.requires.fits sound told honest) in
    let ruled = subst (λ (s : Seen). IsRuled (advance s.recorded c.args.now) c.args.account c.args.request c.args.change c.args.answer) view c.requires.ruled in
    let none = ap (λ (s : Seen). s.pending) c.self.view_is ∙ c.requires.clean in
    let late = later c.self.invariant.late (subst (λ (s : Seen). s.clock.second ≤ c.args.now.second) view c.requires.late) in
    let t : Seen = record { recorded = c.commit.new.self.machine; clock = c.args.now; slots = c.self.inside.slots; waiting = c.commit.new.self.holding.queue.waiting; journal = line c.append.new.journal; pending = c.self.inside.pending } in
    subst (λ (s : Seen). Leads (recorded old s) (called (called_at c.args.account c.args.now c.args.request)) (recorded new t)) c.self.view_is
    (lemma.fit_taken old new _ c.args.account c.args.now c.args.request c.requires.row c.args.change c.args.answer ruled
    (is_record c.args.request c.requires.row c.check_fields.ensures c.requires.within
    (counted c.self.inside.kept.machine c.args.now c.args.account c.args.request _ c.args.answer (subst (λ (s : Seen). IsRuled (advance s.recorded c.args.now) c.args.account c.args.request c.args.change c.args.answer) (sym c.self.view_is) c.requires.ruled).acts c.self.invariant.indexed)
    (sized _ c.args.account c.args.request _ c.args.answer c.requires.ruled.acts) c.args.now c.args.account c.requires.early c.number-number.ensures.below)
    late none fit (c.kept_form_finds.ensures c.args.disk.now)
    (c.outcomes_fit.ensures.acknowledged c.args.disk.now c.append.new.disk) ran t
    (c.commit.ensures.changed [] (c.requires.ruled.brings _) ∙ ap (λ (m : Machine). changed (advance m c.args.now) [] c.args.change) c.reserve.ensures.machine) refl refl none
    c.in_default-append.ensures.acknowledged).1

pub returns-clause-moments : goal.returns-clause-moments
returns-clause-moments g c sound told honest =
    let old = g.D.Disk.view c.args.disk.now in
    let new = g.D.Disk.view c.append.new.disk in
    let ran = c.append.ensures.ran in
    let view = sym c.self.view_is in
    let fit = subst (Fit old) view (c.requires.fits sound told honest) in
    let ruled = subst (λ (s : Seen). IsRuled (advance s.recorded c.args.now) c.args.account c.args.request c.args.change c.args.answer) view c.requires.ruled in
    let none = ap (λ (s : Seen). s.pending) c.self.view_is ∙ c.requires.clean in
    let late = later c.self.invariant.late (subst (λ (s : Seen). s.clock.second ≤ c.args.now.second) view c.requires.late) in
    let t : Seen = record { recorded = c.commit.new.self.machine; clock = c.args.now; slots = c.self.inside.slots; waiting = c.commit.new.self.holding.queue.waiting; journal = line c.append.new.journal; pending = c.self.inside.pending } in
    let a = called_at c.args.account c.args.now c.args.request in
    let appended : Leaves old new (StandsOrAfter old c.args.self.now (called a)) =
    subst (λ (s : Seen). Leaves old new (StandsOrAfter old s (called (called_at c.args.account c.args.now c.args.request)))) c.self.view_is
    (lemma.while_appended old new _ c.args.account c.args.now c.args.request c.requires.row c.args.change c.args.answer ruled
    (is_record c.args.request c.requires.row c.check_fields.ensures c.requires.within
    (counted c.self.inside.kept.machine c.args.now c.args.account c.args.request _ c.args.answer (subst (λ (s : Seen). IsRuled (advance s.recorded c.args.now) c.args.account c.args.request c.args.change c.args.answer) (sym c.self.view_is) c.requires.ruled).acts c.self.invariant.indexed)
    (sized _ c.args.account c.args.request _ c.args.answer c.requires.ruled.acts) c.args.now c.args.account c.requires.early c.number-number.ensures.below)
    late none fit (c.kept_form_finds.ensures c.args.disk.now) (c.moments_stand.ensures.appended c.args.disk.now c.append.new.disk) ran c.append.ensures.any_moment) in
    left_made _ old new c.args.self.now t a (returns-clause-leads g c sound told honest) appended
