use Rattle.std.proofs.Common.{◌≡◌, ◌∙◌, ℕ, None, Ok, Err, Result, refl, sym, subst, ap}
use Rattle.std.specs.Prelude.{IsErrOf, OnErr}
use Rattle.ebs_model.specs.Quotas.{Rose}
use Rattle.ebs_model.specs.declared.keys.Moment.{Moment}
use Rattle.ebs_model.specs.declared.request.Request.{Request}
use Rattle.ebs_model.specs.declared.change.Change.{Change}
use Rattle.ebs_model.specs.declared.change.Decision.TheVariants as decision
use Rattle.ebs_model.specs.declared.answer.Answer.{Answer}
use Rattle.ebs_model.specs.Decide.{decide}
use Rattle.ebs_model.specs.Limits.{bad_member}
use Rattle.ebs_model.specs.Machine.{advance, rows_of}
use Rattle.ebs_model.specs.inner.Rules.{KeepsDays}
use Rattle.ebs_kept.specs.inner.Shown.{AreGoodRows}
use Rattle.ebs_recovery.specs.inner.Changes.{IsRowChange}
use Rattle.ebs_disk_store.specs.inner.Calls.{IsRuled, size_of, with_size}
use Rattle.ebs_recovery.specs.inner.Fits.{Seen}
use Rattle.ebs_disk_store.specs.declared.store.Stop.{Stop}
use Rattle.ebs_disk_store.specs.declared.store.Stop.TheVariants.{Unavailable}
use Rattle.ebs_disk_store.specs.inner.Turned.{Told, TurnAt, unavailable, memory}
use Rattle.ebs_disk_store.proofs.Turns as lemma
use Rattle.ebs_disk_store.proofs.Owned.{IsOwned, owned, good_sizes}
use Rattle.ebs_disk_store.proofs.Owned as own
use Rattle.ebs_disk_store.proofs.Left.{no_err, one_stop}
use Rattle.ebs_disk_store.proofs.store.Store.make_change.Goals as goal

lasting : {s t : Seen} → s ≡ t → KeepsDays s.recorded.books → KeepsDays t.recorded.books
lasting e h = subst (λ (s : Seen). KeepsDays s.recorded.books) e h

-- what is recorded does the same
owns : {s : Seen} (u : Seen) → s ≡ u → (account : ℕ) (now : Moment) (request : Request) (change : Change) (answer : Answer) (made : Request) → AreGoodRows s.recorded.snaps → IsRowChange request → bad_member request ≡ None
    → IsRuled (advance u.recorded now) account request change answer → decide (rows_of (advance u.recorded now)) now account request ≡ Ok (decision.Change change answer) → made ≡ with_size (size_of change.request) request
    → IsOwned (advance u.recorded now) account request change answer made
owns u view account now request change answer made good row within ruled decides is =
    subst (IsOwned (advance u.recorded now) account request change answer) (sym is)
    (owned (advance u.recorded now) account change answer (good_sizes u.recorded now (subst (λ (s : Seen). AreGoodRows s.recorded.snaps) view good)) request row within ruled decides)

err_of : {T E P : Type 0} (r : Result T E) (e : E) → r ≡ Err e → OnErr r P → P
err_of (Ok x) e is h = absurd (cc)
err_of (Err x) e is h = h

pub returns-in-Err-Unavailable-clause-told : goal.returns-in-Err-Unavailable-clause-told
returns-in-Err-Unavailable-clause-told g c =
    let rose : Rose (g.D.Disk.view c.args.disk.now).faults (g.D.Disk.view c.settle.new.disk).faults = c.settle.ensures.unavailable (c.in-Err-Unavailable.is ∙ ap (λ (stop : Stop). Err stop) c.in-Err-Unavailable.field-0-is) in
    let o = owns c.args.self.now c.self.view_is c.args.account c.args.now c.args.request c.args.change c.args.answer c.own_request-own.result c.keeps_rows.ensures c.requires.row c.requires.within c.requires.ruled c.requires.decides c.own_request-own.ensures in
    unavailable rose (lemma.would_change c.args.self.now c.args.account c.args.now c.args.request c.requires.within c.args.change c.args.answer c.requires.ruled) (own.left_asked c.args.self.now c.settle.new.self c.args.account c.args.now c.args.request c.own_request-own.result c.args.change c.args.answer o (err_of c.settle.result c.in-Err-Unavailable.field-0 c.in-Err-Unavailable.is c.settle.ensures.err))

pub returns-in-Err-Memory-clause-told : goal.returns-in-Err-Memory-clause-told
returns-in-Err-Memory-clause-told g c = memory (c.settle.ensures.memory (c.in-Err-Memory.is ∙ ap (λ (stop : Stop). Err stop) c.in-Err-Memory.field-0-is))

pub returns-in-Ok-clause-told : goal.returns-in-Ok-clause-told
returns-in-Ok-clause-told g c =
    subst (Told _ _ c.args.self.now c.settle.new.self c.args.account c.args.now c.args.request) (sym c.in-Ok.ensures.answered)
    (lemma.told_made c.args.self.now c.args.account c.args.now c.args.request c.requires.within _ _ c.settle.new.self c.args.change c.args.answer c.requires.ruled c.in-Ok.ensures.ok)

pub returns-in-Ok-clause-step : goal.returns-in-Ok-clause-step
returns-in-Ok-clause-step g c sound told honest =
    let o = owns c.args.self.now c.self.view_is c.args.account c.args.now c.args.request c.args.change c.args.answer c.own_request-own.result c.keeps_rows.ensures c.requires.row c.requires.within c.requires.ruled c.requires.decides c.own_request-own.ensures in
    let old = g.D.Disk.view c.args.disk.now in
    let new = g.D.Disk.view c.settle.new.disk in
    subst (TurnAt old new c.args.self.now c.settle.new.self c.args.account c.args.now c.args.request) (sym c.in-Ok.ensures.answered)
    (lemma.turn_made old (g.met.D.Disk.true_to_itself c.args.disk.now) c.kept_form.ensures.acts c.kept_form.ensures.ages c.args.self.now (c.requires.fits sound told honest) c.args.now
    c.args.account c.args.request c.requires.row c.requires.within (lasting c.self.view_is c.keeps_days.ensures) new c.settle.new.self c.args.change c.args.answer c.requires.ruled c.in-Ok.ensures.ok
    (own.leads_asked old (g.met.D.Disk.true_to_itself c.args.disk.now) c.kept_form.ensures.acts c.kept_form.ensures.ages c.args.self.now (c.requires.fits sound told honest) c.args.now c.args.account c.args.request c.own_request-own.result c.args.change c.args.answer o _ (c.in-Ok.ensures.leads sound told honest)))

pub settle-requires-clause-row : goal.settle-requires-clause-row
settle-requires-clause-row g c = (owns c.args.self.now c.self.view_is c.args.account c.args.now c.args.request c.args.change c.args.answer c.own_request-own.result c.keeps_rows.ensures c.requires.row c.requires.within c.requires.ruled c.requires.decides c.own_request-own.ensures).row

pub settle-requires-clause-within : goal.settle-requires-clause-within
settle-requires-clause-within g c = (owns c.args.self.now c.self.view_is c.args.account c.args.now c.args.request c.args.change c.args.answer c.own_request-own.result c.keeps_rows.ensures c.requires.row c.requires.within c.requires.ruled c.requires.decides c.own_request-own.ensures).within

pub settle-requires-clause-ruled : goal.settle-requires-clause-ruled
settle-requires-clause-ruled g c = (owns c.args.self.now c.self.view_is c.args.account c.args.now c.args.request c.args.change c.args.answer c.own_request-own.result c.keeps_rows.ensures c.requires.row c.requires.within c.requires.ruled c.requires.decides c.own_request-own.ensures).ruled

pub returns-in-Ok-clause-moments : goal.returns-in-Ok-clause-moments
returns-in-Ok-clause-moments g c sound told honest =
    let old = g.D.Disk.view c.args.disk.now in
    let o = owns c.args.self.now c.self.view_is c.args.account c.args.now c.args.request c.args.change c.args.answer c.own_request-own.result c.keeps_rows.ensures c.requires.row c.requires.within c.requires.ruled c.requires.decides c.own_request-own.ensures in
    own.moments_asked old (g.met.D.Disk.true_to_itself c.args.disk.now) c.kept_form.ensures.acts c.kept_form.ensures.ages c.args.self.now (c.requires.fits sound told honest) c.args.now c.args.account c.args.request c.own_request-own.result c.args.change c.args.answer o (IsErrOf c.settle.result Unavailable) _ (λ err. no_err c.settle.result c.in-Ok.answer Unavailable c.in-Ok.is err)
    (g.D.Disk.view c.settle.new.disk) c.settle.new.self (c.settle.ensures.moments sound told honest)

pub returns-in-Err-Unavailable-clause-moments : goal.returns-in-Err-Unavailable-clause-moments
returns-in-Err-Unavailable-clause-moments g c sound told honest =
    let old = g.D.Disk.view c.args.disk.now in
    let o = owns c.args.self.now c.self.view_is c.args.account c.args.now c.args.request c.args.change c.args.answer c.own_request-own.result c.keeps_rows.ensures c.requires.row c.requires.within c.requires.ruled c.requires.decides c.own_request-own.ensures in
    own.moments_asked old (g.met.D.Disk.true_to_itself c.args.disk.now) c.kept_form.ensures.acts c.kept_form.ensures.ages c.args.self.now (c.requires.fits sound told honest) c.args.now c.args.account c.args.request c.own_request-own.result c.args.change c.args.answer o (IsErrOf c.settle.result Unavailable) _ (λ err. refl)
    (g.D.Disk.view c.settle.new.disk) c.settle.new.self (c.settle.ensures.moments sound told honest)

pub returns-in-Err-Memory-clause-moments : goal.returns-in-Err-Memory-clause-moments
returns-in-Err-Memory-clause-moments g c sound told honest =
    let old = g.D.Disk.view c.args.disk.now in
    let o = owns c.args.self.now c.self.view_is c.args.account c.args.now c.args.request c.args.change c.args.answer c.own_request-own.result c.keeps_rows.ensures c.requires.row c.requires.within c.requires.ruled c.requires.decides c.own_request-own.ensures in
    own.moments_asked old (g.met.D.Disk.true_to_itself c.args.disk.now) c.kept_form.ensures.acts c.kept_form.ensures.ages c.args.self.now (c.requires.fits sound told honest) c.args.now c.args.account c.args.request c.own_request-own.result c.args.change c.args.answer o (IsErrOf c.settle.result Unavailable) _ (λ err. one_stop c.settle.result (c.in-Err-Memory.is ∙ ap (λ (stop : Stop). Err stop) c.in-Err-Memory.field-0-is) err)
    (g.D.Disk.view c.settle.new.disk) c.settle.new.self (c.settle.ensures.moments sound told honest)
