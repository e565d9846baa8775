use Rattle.std.proofs.Common.{sym, subst}
use Rattle.ebs_model.specs.declared.keys.Moment.{Moment}
use Rattle.ebs_model.specs.Machine.{advance}
use Rattle.ebs_recovery.specs.inner.Fits.{Fit}
use Rattle.ebs_disk_store.specs.inner.Turned.{TurnAt, kept_call}
use Rattle.ebs_disk_store.specs.inner.Viewed.{Shows, Viewed}
use Rattle.ebs_disk_store.proofs.Held.{fit_clock}
use Rattle.ebs_disk_store.proofs.Turns.{fit_failed, turn_reading}
use Rattle.ebs_disk_store.proofs.Looks as lemma
use Rattle.ebs_kept.specs.inner.Wants.{MayRunOut}
use Rattle.ebs_disk_store.proofs.Wants.{answered, failed_wants, shows_wants}
use Rattle.ebs_disk_store.proofs.store.Store.view.Goals as goal

pub returns-in-Ok-clause-fits : goal.returns-in-Ok-clause-fits
returns-in-Ok-clause-fits g c sound told honest = subst (Fit (g.D.Disk.view c.args.disk.now)) (sym c.tick.ensures)
    (fit_clock (g.D.Disk.view c.args.disk.now) c.args.self.now c.moment-now.result c.moment-now.ensures.later (c.requires.fits sound told honest))

pub returns-in-Ok-clause-told : goal.returns-in-Ok-clause-told
returns-in-Ok-clause-told g c =
    let shows = subst (Shows (advance c.args.self.now.recorded c.moment-now.result) c.args.account c.args.request.now) c.in-Ok.is c.look.ensures in
    subst (λ (now : Moment). Viewed c.args.self.now c.tick.new.self c.args.account now c.args.request.now c.in-Ok.answer) c.moment-now.ensures.moment
    (lemma.told_shown c.args.self.now c.tick.new.self c.args.account c.moment-now.result c.args.request.now c.in-Ok.answer shows c.tick.ensures)

pub returns-in-Ok-clause-step : goal.returns-in-Ok-clause-step
returns-in-Ok-clause-step g c sound told honest =
    let v = g.D.Disk.view c.args.disk.now in
    let shows = subst (Shows (advance c.args.self.now.recorded c.moment-now.result) c.args.account c.args.request.now) c.in-Ok.is c.look.ensures in
    let viewed = lemma.told_shown c.args.self.now c.tick.new.self c.args.account c.moment-now.result c.args.request.now c.in-Ok.answer shows c.tick.ensures in
    turn_reading v v c.args.self.now c.tick.new.self c.args.account c.args.reading c.args.request.now c.in-Ok.answer
    (subst (λ (now : Moment). TurnAt v v c.args.self.now c.tick.new.self c.args.account now c.args.request.now c.in-Ok.answer) c.moment-now.ensures.moment
    (lemma.turn_viewed v (g.met.D.Disk.true_to_itself c.args.disk.now) c.kept_form.ensures.acts c.kept_form.ensures.ages c.args.self.now (c.requires.fits sound told honest) c.moment-now.result
    c.args.account c.args.request.now c.requires.view c.tick.new.self c.in-Ok.answer viewed))

pub returns-in-Err-clause-fits : goal.returns-in-Err-clause-fits
returns-in-Err-clause-fits g c sound told honest = fit_failed _ c.args.self.now _ c.moment-now.result c.in-Err.failure c.fail.result c.moment-now.ensures.later c.fail.ensures (c.requires.fits sound told honest)

pub returns-in-Err-clause-told : goal.returns-in-Err-clause-told
returns-in-Err-clause-told g c =
    let shows = subst (Shows (advance c.args.self.now.recorded c.moment-now.result) c.args.account c.args.request.now) c.in-Err.is c.look.ensures in
    subst (λ (now : Moment). Viewed c.args.self.now c.fail.new.self c.args.account now c.args.request.now c.fail.result) c.moment-now.ensures.moment
    (lemma.told_unshown c.args.self.now c.fail.new.self c.args.account c.moment-now.result c.args.request.now c.in-Err.failure c.fail.result shows c.fail.ensures)

pub returns-in-Err-clause-step : goal.returns-in-Err-clause-step
returns-in-Err-clause-step g c sound told honest =
    let v = g.D.Disk.view c.args.disk.now in
    let shows = subst (Shows (advance c.args.self.now.recorded c.moment-now.result) c.args.account c.args.request.now) c.in-Err.is c.look.ensures in
    let viewed = lemma.told_unshown c.args.self.now c.fail.new.self c.args.account c.moment-now.result c.args.request.now c.in-Err.failure c.fail.result shows c.fail.ensures in
    turn_reading v v c.args.self.now c.fail.new.self c.args.account c.args.reading c.args.request.now c.fail.result
    (subst (λ (now : Moment). TurnAt v v c.args.self.now c.fail.new.self c.args.account now c.args.request.now c.fail.result) c.moment-now.ensures.moment
    (lemma.turn_viewed v (g.met.D.Disk.true_to_itself c.args.disk.now) c.kept_form.ensures.acts c.kept_form.ensures.ages c.args.self.now (c.requires.fits sound told honest) c.moment-now.result
    c.args.account c.args.request.now c.requires.view c.fail.new.self c.fail.result viewed))

pub returns-in-Ok-clause-memory : goal.returns-in-Ok-clause-memory
returns-in-Ok-clause-memory g c =
    let shows = subst (Shows (advance c.args.self.now.recorded c.moment-now.result) c.args.account c.args.request.now) c.in-Ok.is c.look.ensures in
    λ _. subst (λ (now : Moment). MayRunOut (kept_call (advance c.args.self.now.recorded now) c.args.account c.args.request.now)) c.moment-now.ensures.moment (answered (kept_call (advance c.args.self.now.recorded c.moment-now.result) c.args.account c.args.request.now) ((advance c.args.self.now.recorded c.moment-now.result), c.in-Ok.answer) shows)

pub returns-in-Err-clause-memory : goal.returns-in-Err-clause-memory
returns-in-Err-clause-memory g c =
    let shows = subst (Shows (advance c.args.self.now.recorded c.moment-now.result) c.args.account c.args.request.now) c.in-Err.is c.look.ensures in
    λ is. subst (λ (now : Moment). MayRunOut (kept_call (advance c.args.self.now.recorded now) c.args.account c.args.request.now)) c.moment-now.ensures.moment
    (failed_wants c.args.self.now c.fail.new.self c.moment-now.result (kept_call (advance c.args.self.now.recorded c.moment-now.result) c.args.account c.args.request.now) c.in-Err.failure c.fail.result c.fail.ensures
    (shows_wants (advance c.args.self.now.recorded c.moment-now.result) c.args.account c.args.request.now c.in-Err.failure shows) is)
