use Rattle.std.proofs.Common.{◌≡◌, ◌∙◌, Ok, ap, refl, sym, subst}
use Rattle.ebs_model.specs.inner.Rules.{KeepsDays}
use Rattle.ebs_recovery.specs.inner.Fits.{Fit, Seen}
use Rattle.ebs_disk_store.specs.declared.ruling.Ruling.{Ruling}
use Rattle.ebs_disk_store.proofs.Held.{fit_clock}
use Rattle.ebs_model.specs.Machine.{advance}
use Rattle.ebs_recovery.specs.Made.{called}
use Rattle.ebs_disk_store.specs.inner.Calls.{Rules}
use Rattle.ebs_disk_store.specs.inner.Told.{called_at}
use Rattle.ebs_disk_store.proofs.Turns as lemma
use Rattle.ebs_model.specs.Kept.{same}
use Rattle.ebs_model.specs.Step.{act}
use Rattle.ebs_disk_store.proofs.Wants.{failed_wants, ruled_wants, rules_wants}
use Rattle.ebs_disk_store.proofs.store.Store.turn.Goals as goal

lasting : {s t : Seen} → s ≡ t → KeepsDays s.recorded.books → KeepsDays t.recorded.books
lasting e h = subst (λ (s : Seen). KeepsDays s.recorded.books) e h

pub make_change-requires-clause-decides : goal.make_change-requires-clause-decides
make_change-requires-clause-decides g c = (subst (Rules (advance c.args.self.now.recorded c.args.now) c.args.account c.args.request) (c.in-Ok-Change.is ∙ ap (λ (r : Ruling). Ok r) c.in-Ok-Change.field-0-is) c.rule.ensures).1

pub make_change-requires-clause-ruled : goal.make_change-requires-clause-ruled
make_change-requires-clause-ruled g c = (subst (Rules (advance c.args.self.now.recorded c.args.now) c.args.account c.args.request) (c.in-Ok-Change.is ∙ ap (λ (r : Ruling). Ok r) c.in-Ok-Change.field-0-is) c.rule.ensures).0

pub returns-in-Err-clause-fits : goal.returns-in-Err-clause-fits
returns-in-Err-clause-fits g c sound told honest = lemma.fit_failed _ c.args.self.now _ c.args.now c.in-Err.failure c.fail.result c.requires.late c.fail.ensures (c.requires.fits sound told honest)

pub returns-in-Err-clause-told : goal.returns-in-Err-clause-told
returns-in-Err-clause-told g c =
    let rules = subst (Rules (advance c.args.self.now.recorded c.args.now) c.args.account c.args.request) c.in-Err.is c.rule.ensures in
    lemma.told_failed c.args.self.now c.args.account c.args.now c.args.request c.requires.within _ _ _ c.in-Err.failure c.fail.result rules c.fail.ensures refl

pub returns-in-Err-clause-step : goal.returns-in-Err-clause-step
returns-in-Err-clause-step g c sound told honest =
    let rules = subst (Rules (advance c.args.self.now.recorded c.args.now) c.args.account c.args.request) c.in-Err.is c.rule.ensures in
    lemma.turn_failed (g.D.Disk.view c.args.disk.now) (g.met.D.Disk.true_to_itself c.args.disk.now) c.kept_form.ensures.acts c.kept_form.ensures.ages c.args.self.now (c.requires.fits sound told honest) c.args.now
    c.args.account c.args.request c.requires.row c.requires.within c.fail.new.self c.in-Err.failure c.fail.result rules c.fail.ensures

pub returns-in-Err-clause-moments : goal.returns-in-Err-clause-moments
returns-in-Err-clause-moments g c sound told honest =
    lemma.idle _ (g.D.Disk.view c.args.disk.now) (g.met.D.Disk.true_to_itself c.args.disk.now) (c.fit_stays.ensures.moments c.args.disk.now c.args.disk.now) c.args.self.now c.fail.new.self (c.requires.fits sound told honest)
    (called (called_at c.args.account c.args.now c.args.request))

pub returns-in-Ok-Answer-clause-fits : goal.returns-in-Ok-Answer-clause-fits
returns-in-Ok-Answer-clause-fits g c sound told honest = subst (Fit (g.D.Disk.view c.args.disk.now)) (sym c.tick.ensures) (fit_clock (g.D.Disk.view c.args.disk.now) c.args.self.now c.args.now c.requires.late (c.requires.fits sound told honest))

pub returns-in-Ok-Answer-clause-told : goal.returns-in-Ok-Answer-clause-told
returns-in-Ok-Answer-clause-told g c =
    let rules = subst (Rules (advance c.args.self.now.recorded c.args.now) c.args.account c.args.request) (c.in-Ok-Answer.is ∙ ap (λ (r : Ruling). Ok r) c.in-Ok-Answer.field-0-is) c.rule.ensures in
    lemma.told_answered c.args.self.now c.args.account c.args.now c.args.request c.requires.within _ _ _ c.in-Ok-Answer.answer rules c.tick.ensures refl

pub returns-in-Ok-Answer-clause-step : goal.returns-in-Ok-Answer-clause-step
returns-in-Ok-Answer-clause-step g c sound told honest =
    let rules = subst (Rules (advance c.args.self.now.recorded c.args.now) c.args.account c.args.request) (c.in-Ok-Answer.is ∙ ap (λ (r : Ruling). Ok r) c.in-Ok-Answer.field-0-is) c.rule.ensures in
    lemma.turn_answered (g.D.Disk.view c.args.disk.now) (g.met.D.Disk.true_to_itself c.args.disk.now) c.kept_form.ensures.acts c.kept_form.ensures.ages c.args.self.now (c.requires.fits sound told honest) c.args.now
    c.args.account c.args.request c.requires.row c.requires.within (lasting c.self.view_is c.keeps_days.ensures) c.tick.new.self c.in-Ok-Answer.answer rules c.tick.ensures

pub returns-in-Ok-Answer-clause-moments : goal.returns-in-Ok-Answer-clause-moments
returns-in-Ok-Answer-clause-moments g c sound told honest =
    lemma.idle _ (g.D.Disk.view c.args.disk.now) (g.met.D.Disk.true_to_itself c.args.disk.now) (c.fit_stays.ensures.moments c.args.disk.now c.args.disk.now) c.args.self.now c.tick.new.self (c.requires.fits sound told honest)
    (called (called_at c.args.account c.args.now c.args.request))

pub returns-in-Ok-Change-clause-memory : goal.returns-in-Ok-Change-clause-memory
returns-in-Ok-Change-clause-memory g c = λ _. ruled_wants (advance c.args.self.now.recorded c.args.now) c.args.account c.args.request c.rule.result _ (c.in-Ok-Change.is ∙ ap (λ (r : Ruling). Ok r) c.in-Ok-Change.field-0-is) c.rule.ensures

pub returns-in-Ok-Answer-clause-memory : goal.returns-in-Ok-Answer-clause-memory
returns-in-Ok-Answer-clause-memory g c = λ _. ruled_wants (advance c.args.self.now.recorded c.args.now) c.args.account c.args.request c.rule.result _ (c.in-Ok-Answer.is ∙ ap (λ (r : Ruling). Ok r) c.in-Ok-Answer.field-0-is) c.rule.ensures

pub returns-in-Err-clause-memory : goal.returns-in-Err-clause-memory
returns-in-Err-clause-memory g c =
    let rules = subst (Rules (advance c.args.self.now.recorded c.args.now) c.args.account c.args.request) c.in-Err.is c.rule.ensures in
    failed_wants c.args.self.now c.fail.new.self c.args.now (act same (advance c.args.self.now.recorded c.args.now) c.args.account c.args.request) c.in-Err.failure c.fail.result c.fail.ensures
    (rules_wants (advance c.args.self.now.recorded c.args.now) c.args.account c.args.request c.in-Err.failure rules)
