use Rattle.std.proofs.Common.{arith}
use Rattle.ebs_desk.proofs.Calling.{goes_of, due}
use Rattle.ebs_desk.proofs.Staging.{Stages, did_staged, moves_staged, deed_staged, line_staged, keeps_staged, rests_staged}
use Rattle.ebs_desk.proofs.one_turn.stage.Goals as goal

pub begin-store-requires-clause-free : goal.begin-store-requires-clause-free
begin-store-requires-clause-free g c = let two = c.requires.may.may in (c.requires.may.rests.hand, c.requires.may.rests.stage, omega arith)

pub stage_put-done-requires : goal.stage_put-done-requires
stage_put-done-requires g c = record { fits = (c.begin-store.ensures.began.stands c.args.turns.now.board.shared.key c.requires.at.about).fits }

pub end-requires-clause-due : goal.end-requires-clause-due
end-requires-clause-due g c = let a = c.stage_put-done.ensures in
    let s = c.begin-store.result.store in let t = c.stage_put-done.new.self in let d = c.begin-store.result.disk in let e = c.stage_put-done.new.disk in
    let done = c.stage_put-done.result in let left = c.leave_staged-item.result in let about = c.args.turns.now.board.shared.key in
    let st : Stages g.S.Promise.sound g.D.Disk.view (g.D.Disk.view d) (g.D.Disk.view e) s t c.args.block.now done = record { lease = a.lease; ok = a.ok; lies = a.block; err = a.err; same = a.same; moments = a.moments; ran = a.ran; cause = a.unavailable } in
    let l = did_staged g.S.Promise.sound g.D.Disk.view s t d e c.args.block.now c.of-before.result done left c.of-before.ensures c.leave_staged-item.ensures (goes_of g.S.Promise.sound g.D.Disk.view _ _ _ a.ran.ran) st in
    due g.S.Promise.sound g.D.Disk.view _ _ c.begin-store.result left.0 left.1 (record { store = t; disk = e; entries = c.begin-store.result.entries }) c.begin-store.ensures.began l.0 a.fits
    (λ x. let n = l.1 x in omega arith) (moves_staged g.S.Promise.sound g.D.Disk.view s t d e c.args.block.now c.of-before.result done left c.leave_staged-item.ensures st)
    (deed_staged g.S.Promise.sound g.D.Disk.view about.first.value c.begin-store.ensures.began.line c.begin-store.result t e c.args.caller.now.seat.me.0.lease c.args.block.now c.of-before.result done left
    (c.begin-store.ensures.began.stands about c.requires.at.about) c.requires.may.rests.lease c.leave_staged-item.ensures st)

pub returns-clause-ok : goal.returns-clause-ok
returns-clause-ok g c = let a = c.stage_put-done.ensures in
    let s = c.begin-store.result.store in let t = c.stage_put-done.new.self in let d = c.begin-store.result.disk in let e = c.stage_put-done.new.disk in
    let st : Stages g.S.Promise.sound g.D.Disk.view (g.D.Disk.view d) (g.D.Disk.view e) s t c.args.block.now c.stage_put-done.result = record { lease = a.lease; ok = a.ok; lies = a.block; err = a.err; same = a.same; moments = a.moments; ran = a.ran; cause = a.unavailable } in
    keeps_staged g.S.Promise.sound g.D.Disk.view c.args.caller.now.seat.me c.begin-store.new.pass.seat.me c.end.new.pass.seat.me c.begin-store.result s t d e c.args.block.now c.of-before.result c.stage_put-done.result c.leave_staged-item.result
    c.requires.may c.begin-store.ensures.began c.end.ensures.ended c.leave_staged-item.ensures st

pub returns-clause-err : goal.returns-clause-err
returns-clause-err g c = rests_staged g.S.Promise.sound g.D.Disk.view c.args.caller.now.seat.me c.begin-store.new.pass.seat.me c.end.new.pass.seat.me c.begin-store.result c.stage_put-done.new.disk c.args.block.now c.of-before.result c.stage_put-done.result c.leave_staged-item.result
    c.requires.may c.begin-store.ensures.began c.end.ensures.ended c.leave_staged-item.ensures

pub returns-clause-staged : goal.returns-clause-staged
returns-clause-staged g c = let a = c.stage_put-done.ensures in
    let s = c.begin-store.result.store in let t = c.stage_put-done.new.self in let d = c.begin-store.result.disk in let e = c.stage_put-done.new.disk in
    let done = c.stage_put-done.result in let left = c.leave_staged-item.result in let about = c.args.turns.now.board.shared.key in
    let st : Stages g.S.Promise.sound g.D.Disk.view (g.D.Disk.view d) (g.D.Disk.view e) s t c.args.block.now done = record { lease = a.lease; ok = a.ok; lies = a.block; err = a.err; same = a.same; moments = a.moments; ran = a.ran; cause = a.unavailable } in
    let l = did_staged g.S.Promise.sound g.D.Disk.view s t d e c.args.block.now c.of-before.result done left c.of-before.ensures c.leave_staged-item.ensures (goes_of g.S.Promise.sound g.D.Disk.view _ _ _ a.ran.ran) st in
    line_staged g.S.Promise.sound g.D.Disk.view c.args.turns.now.board.shared.key c.args.caller.now.seat.me.0 c.end.new.pass.seat.me.0 c.begin-store.new.pass.seat.me c.begin-store.result
    (record { store = t; disk = e; entries = c.begin-store.result.entries }) c.args.block.now c.of-before.result done left
    c.requires.at.about c.begin-store.ensures.began (due g.S.Promise.sound g.D.Disk.view _ _ c.begin-store.result left.0 left.1 (record { store = t; disk = e; entries = c.begin-store.result.entries }) c.begin-store.ensures.began l.0 a.fits (λ x. let n = l.1 x in omega arith) (moves_staged g.S.Promise.sound g.D.Disk.view s t d e c.args.block.now c.of-before.result done left c.leave_staged-item.ensures st) (deed_staged g.S.Promise.sound g.D.Disk.view about.first.value c.begin-store.ensures.began.line c.begin-store.result t e c.args.caller.now.seat.me.0.lease c.args.block.now c.of-before.result done left (c.begin-store.ensures.began.stands about c.requires.at.about) c.requires.may.rests.lease c.leave_staged-item.ensures st)) (λ i. (c.end.ensures.ended i).0) c.leave_staged-item.ensures
