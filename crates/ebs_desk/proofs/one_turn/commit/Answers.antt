use Rattle.std.proofs.Common.{◌≡◌, refl, ap, subst, sym, ◌∙◌, List, [], ℕ, Some}
use Rattle.sha2.specs.Sha256.{sha256}
use Rattle.ebs_turns.specs.declared.line.Deed.TheVariants.{Spends}
use Rattle.ebs_turns.specs.Known.{MayEnd}
use Rattle.ebs_turns.specs.Tells.{behind}
use Rattle.ebs_model.specs.Quotas.{Rose}
use Rattle.ebs_model.specs.declared.request.Request.{Request}
use Rattle.ebs_model.specs.declared.answer.Answer.{Answer}
use Rattle.ebs_recovery.specs.Made.{called}
use Rattle.ebs_disk_store.specs.inner.Told.{at_reading}
use Rattle.ebs_disk_store.specs.inner.Puts.{PutTold, put_at, with_bytes}
use Rattle.ebs_desk.specs.Turns.{Follows, put}
use Rattle.ebs_desk.specs.Calls.{Answered}
use Rattle.ebs_desk.proofs.StoreCalls.{commit_leases, commit_cause}
use Rattle.ebs_desk.proofs.Leases.{spent}
use Rattle.ebs_desk.proofs.Calling.{small, goes_of, did_left, due, answers}
use Rattle.ebs_desk.proofs.Staging.{ended_at, still_staged, rests_spent}
use Rattle.ebs_desk.proofs.one_turn.commit.Goals as goal

pub commit_put-answer-requires-clause-leased : goal.commit_put-answer-requires-clause-leased
commit_put-answer-requires-clause-leased g c =
    let is = still_staged g.S.Promise.sound g.D.Disk.view c.args.turns.now.board.shared.key c.args.caller.now.seat.me _ c.begin-store.result c.args.lease c.args.block.value c.requires.at.about c.requires.keeps c.begin-store.ensures.began in
    is.leased ∙ ap Some (sym c.requires.keeps.digest)

pub commit_put-answer-requires-clause-fits : goal.commit_put-answer-requires-clause-fits
commit_put-answer-requires-clause-fits g c = (c.begin-store.ensures.began.stands c.args.turns.now.board.shared.key c.requires.at.about).fits

pub leave-item-requires : goal.leave-item-requires
leave-item-requires g c = small g.S.Promise.sound g.D.Disk.view c.args.turns.now.board.shared.key _ _ c.begin-store.result c.begin-store.ensures.began c.requires.at.about

pub end-requires-clause-due : goal.end-requires-clause-due
end-requires-clause-due g c = let a = c.commit_put-answer.ensures in
    let s = c.begin-store.result.store in let t = c.commit_put-answer.new.self in let d = c.begin-store.result.disk in let e = c.commit_put-answer.new.disk in
    let bytes = c.args.block.value in let r = with_bytes c.args.head bytes in let slot = c.args.lease.slot in let at = c.slot-slot.ensures in
    let is = still_staged g.S.Promise.sound g.D.Disk.view c.args.turns.now.board.shared.key c.args.caller.now.seat.me _ c.begin-store.result c.args.lease bytes c.requires.at.about c.requires.keeps c.begin-store.ensures.began in
    let told : PutTold (e ≡ d) (Rose (g.D.Disk.view d).faults (g.D.Disk.view e).faults) s t c.args.account (at_reading s c.args.reading) c.args.head slot (sha256 bytes) c.commit_put-answer.result =
    subst (λ (digest : List ℕ). PutTold (e ≡ d) (Rose (g.D.Disk.view d).faults (g.D.Disk.view e).faults) s t c.args.account (at_reading s c.args.reading) c.args.head slot digest c.commit_put-answer.result) c.requires.keeps.digest a.told in
    let l = did_left g.S.Promise.sound g.D.Disk.view s t d e c.args.account c.args.reading r c.args.asked c.of-before.result c.commit_put-answer.result
    c.begin-store.result.entries c.leave-item.result c.requires.asked c.of-before.ensures c.leave-item.ensures (goes_of g.S.Promise.sound g.D.Disk.view _ _ _ a.ran) (put c.args.head slot bytes refl told)
    (commit_cause c.answers_are_own.ensures.call _ _ s t c.args.account (at_reading s c.args.reading) c.args.head slot (sha256 bytes) c.commit_put-answer.result told)
    (λ sure tells honest. a.step sure tells honest bytes is.lies) c.answers_are_own.ensures.step
    (called (put_at c.args.account (at_reading s c.args.reading) c.args.head slot bytes)) (λ sure tells honest. a.moments sure tells honest bytes is.lies) in
    subst (λ n. MayEnd (Follows g.S.Promise.sound g.D.Disk.view) c.begin-store.new.pass.seat.me (record { store = t; disk = e; entries = c.leave-item.result.2 }) c.leave-item.result.0 (Spends n)) (sym at)
    (due g.S.Promise.sound g.D.Disk.view _ _ c.begin-store.result c.leave-item.result.0 (Spends slot) (record { store = t; disk = e; entries = c.leave-item.result.2 }) c.begin-store.ensures.began l.0 a.fits l.1
    (spent _ _ s t c.leave-item.result.0 slot a.ran (commit_leases _ _ s t c.args.account (at_reading s c.args.reading) c.args.head slot (sha256 bytes) c.commit_put-answer.result told)) c.requires.keeps.own)

pub returns-clause-rests : goal.returns-clause-rests
returns-clause-rests g c = let item = c.leave-item.result.0 in let n = c.begin-store.new.pass.seat.me in
    rests_spent g.S.Promise.sound g.D.Disk.view c.args.caller.now.seat.me n c.end.new.pass.seat.me c.begin-store.result item c.args.lease c.args.block.value
    c.requires.keeps c.begin-store.ensures.began (c.end.ensures.ended ∙ ap (λ slot. (behind (record { item = item; deed = Spends slot }) n.0, [])) c.slot-slot.ensures)

pub returns-clause-answered : goal.returns-clause-answered
returns-clause-answered g c = let a = c.commit_put-answer.ensures in
    let s = c.begin-store.result.store in let t = c.commit_put-answer.new.self in let d = c.begin-store.result.disk in let e = c.commit_put-answer.new.disk in
    let bytes = c.args.block.value in let r = with_bytes c.args.head bytes in let slot = c.args.lease.slot in let at = c.slot-slot.ensures in
    let is = still_staged g.S.Promise.sound g.D.Disk.view c.args.turns.now.board.shared.key c.args.caller.now.seat.me _ c.begin-store.result c.args.lease bytes c.requires.at.about c.requires.keeps c.begin-store.ensures.began in
    let told : PutTold (e ≡ d) (Rose (g.D.Disk.view d).faults (g.D.Disk.view e).faults) s t c.args.account (at_reading s c.args.reading) c.args.head slot (sha256 bytes) c.commit_put-answer.result =
    subst (λ (digest : List ℕ). PutTold (e ≡ d) (Rose (g.D.Disk.view d).faults (g.D.Disk.view e).faults) s t c.args.account (at_reading s c.args.reading) c.args.head slot digest c.commit_put-answer.result) c.requires.keeps.digest a.told in
    let l = did_left g.S.Promise.sound g.D.Disk.view s t d e c.args.account c.args.reading r c.args.asked c.of-before.result c.commit_put-answer.result
    c.begin-store.result.entries c.leave-item.result c.requires.asked c.of-before.ensures c.leave-item.ensures (goes_of g.S.Promise.sound g.D.Disk.view _ _ _ a.ran) (put c.args.head slot bytes refl told)
    (commit_cause c.answers_are_own.ensures.call _ _ s t c.args.account (at_reading s c.args.reading) c.args.head slot (sha256 bytes) c.commit_put-answer.result told)
    (λ sure tells honest. a.step sure tells honest bytes is.lies) c.answers_are_own.ensures.step
    (called (put_at c.args.account (at_reading s c.args.reading) c.args.head slot bytes)) (λ sure tells honest. a.moments sure tells honest bytes is.lies) in
    let left = ended_at c.begin-store.new.pass.seat.me c.end.new.pass.seat.me c.leave-item.result.0 c.slot-slot.result slot at c.end.ensures.ended in
    let v = c.args.caller.now.seat.me.0 in let w = c.end.new.pass.seat.me.0 in let about = c.args.turns.now.board.shared.key in
    subst (λ (z : Request × Answer). Answered g.S.Promise.sound g.D.Disk.view about.first.value v.number v.seen w.seen (Spends slot) c.args.account c.args.reading z.0 (record { answer = z.1; place = c.leave-item.result.1 }))
    (λ i. (sym c.requires.asked i, sym c.judge-answer.ensures i))
    (answers g.S.Promise.sound g.D.Disk.view about v w c.begin-store.new.pass.seat.me c.begin-store.result (record { store = t; disk = e; entries = c.leave-item.result.2 }) (Spends slot) c.args.account c.args.reading r c.args.asked c.of-before.result c.commit_put-answer.result c.leave-item.result
    c.requires.at.about c.begin-store.ensures.began (due g.S.Promise.sound g.D.Disk.view _ _ c.begin-store.result c.leave-item.result.0 (Spends slot) (record { store = t; disk = e; entries = c.leave-item.result.2 }) c.begin-store.ensures.began l.0 a.fits l.1 (spent _ _ s t c.leave-item.result.0 slot a.ran (commit_leases _ _ s t c.args.account (at_reading s c.args.reading) c.args.head slot (sha256 bytes) c.commit_put-answer.result told)) c.requires.keeps.own) (λ i. (left i).0) c.requires.asked c.answers_are_own.ensures.call (put c.args.head slot bytes refl told) c.leave-item.ensures)
