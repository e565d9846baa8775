use Rattle.std.proofs.Common.{ap, subst, sym, ◌∙◌, ◌<◌, ◌^◌}
use Rattle.ebs_model.specs.declared.request.Request.{Request}
use Rattle.ebs_model.specs.declared.answer.Answer.{Answer}
use Rattle.ebs_turns.specs.declared.line.Deed.TheVariants.{Nothing}
use Rattle.ebs_recovery.specs.Made.{called}
use Rattle.ebs_disk_store.specs.inner.Told.{at_reading, called_at}
use Rattle.ebs_disk_store.specs.inner.Fetched.{answer_of}
use Rattle.ebs_desk.specs.Turns.{Follows, whole}
use Rattle.ebs_desk.specs.Tasks.{request_of}
use Rattle.ebs_desk.specs.Calls.{Answered, in_one}
use Rattle.ebs_desk.proofs.StoreCalls.{applied_leases}
use Rattle.ebs_desk.proofs.Ran.{goes_for, moves_for}
use Rattle.ebs_desk.proofs.Calling.{small, did_left, due, answers}
use Rattle.ebs_desk.proofs.Staging.{rests_on}
use Rattle.ebs_desk.proofs.one_turn.call_in_one.Goals as goal

pub apply_task-loaded-requires-clause-fits : goal.apply_task-loaded-requires-clause-fits
apply_task-loaded-requires-clause-fits g c = (c.begin-store.ensures.began.stands c.args.turns.now.board.shared.key c.requires.at.about).fits

pub leave-item-requires : goal.leave-item-requires
leave-item-requires g c = small g.S.Promise.sound g.D.Disk.view c.args.turns.now.board.shared.key _ _ c.begin-store.result c.begin-store.ensures.began c.requires.at.about

pub end-requires-clause-due : goal.end-requires-clause-due
end-requires-clause-due g c = let a = c.apply_task-loaded.ensures in let r = request_of c.args.task in
    let s = c.begin-store.result.store in let t = c.apply_task-loaded.new.store in let d = c.begin-store.result.disk in let e = c.apply_task-loaded.new.disk in
    let l = did_left g.S.Promise.sound g.D.Disk.view s t d e c.args.account c.args.reading r c.args.asked c.of-before.result (answer_of c.apply_task-loaded.result)
    c.begin-store.result.entries c.leave-item.result c.requires.asked c.of-before.ensures c.leave-item.ensures (goes_for c.args.task _ _ _ a.ran) (whole a.told) a.cause a.step c.answers_are_own.ensures.step
    (called (called_at c.args.account (at_reading s c.args.reading) r)) a.moments in
    due g.S.Promise.sound g.D.Disk.view _ _ c.begin-store.result c.leave-item.result.0 Nothing (record { store = t; disk = e; entries = c.leave-item.result.2 }) c.begin-store.ensures.began l.0 a.fits l.1
    (moves_for c.args.task _ _ s t c.leave-item.result.0 a.ran (applied_leases _ _ _ s t c.args.account (at_reading s c.args.reading) r (answer_of c.apply_task-loaded.result) a.told)) tt

pub returns-clause-rests : goal.returns-clause-rests
returns-clause-rests g c = rests_on (Follows g.S.Promise.sound g.D.Disk.view) 1 c.args.caller.now.seat.me c.begin-store.new.pass.seat.me c.end.new.pass.seat.me c.begin-store.result c.leave-item.result.0 c.requires.may c.begin-store.ensures.began c.end.ensures.ended

pub returns-clause-called : goal.returns-clause-called
returns-clause-called g c = let a = c.apply_task-loaded.ensures in let r = request_of c.args.task in
    let s = c.begin-store.result.store in let t = c.apply_task-loaded.new.store in let d = c.begin-store.result.disk in let e = c.apply_task-loaded.new.disk in
    let l = did_left g.S.Promise.sound g.D.Disk.view s t d e c.args.account c.args.reading r c.args.asked c.of-before.result (answer_of c.apply_task-loaded.result)
    c.begin-store.result.entries c.leave-item.result c.requires.asked c.of-before.ensures c.leave-item.ensures (goes_for c.args.task _ _ _ a.ran) (whole a.told) a.cause a.step c.answers_are_own.ensures.step
    (called (called_at c.args.account (at_reading s c.args.reading) r)) a.moments in
    let v = c.args.caller.now.seat.me.0 in let w = c.end.new.pass.seat.me.0 in
    let about = c.args.turns.now.board.shared.key in
    in_one (subst (λ n. n < 2 ^ 42) (sym (ap (λ z. z.0.ticket_word) c.end.ensures.ended ∙ ap (λ u. u.ticket_word) c.begin-store.ensures.began.view)) c.requires.may.few)
    (subst (λ (z : Request × Answer). Answered g.S.Promise.sound g.D.Disk.view about.first.value v.number v.seen w.seen Nothing c.args.account c.args.reading z.0 (record { answer = z.1; place = c.leave-item.result.1 }))
    (λ i. (sym c.requires.asked i, sym c.judge-answer.ensures i))
    (answers g.S.Promise.sound g.D.Disk.view about v w c.begin-store.new.pass.seat.me c.begin-store.result (record { store = t; disk = e; entries = c.leave-item.result.2 }) Nothing c.args.account c.args.reading r c.args.asked c.of-before.result (answer_of c.apply_task-loaded.result) c.leave-item.result
    c.requires.at.about c.begin-store.ensures.began (due g.S.Promise.sound g.D.Disk.view _ _ c.begin-store.result c.leave-item.result.0 Nothing (record { store = t; disk = e; entries = c.leave-item.result.2 }) c.begin-store.ensures.began l.0 a.fits l.1 (moves_for c.args.task _ _ s t c.leave-item.result.0 a.ran (applied_leases _ _ _ s t c.args.account (at_reading s c.args.reading) r (answer_of c.apply_task-loaded.result) a.told)) tt) (λ i. (c.end.ensures.ended i).0) c.requires.asked c.answers_are_own.ensures.call (whole a.told) c.leave-item.ensures))
