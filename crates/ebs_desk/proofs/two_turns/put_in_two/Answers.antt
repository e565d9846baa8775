use Rattle.std.proofs.Common.{Result, ◌∙◌, ◌<◌, ◌^◌, sym, subst}
use Rattle.ebs_slots.specs.inner.Slots.{Leased}
use Rattle.ebs_disk_store.specs.declared.store.Stop.{Stop}
use Rattle.ebs_desk.specs.Staging.{HasStaged}
use Rattle.ebs_desk.proofs.Staging.{unstaged, in_two_turns}
use Rattle.ebs_desk.proofs.two_turns.put_in_two.Goals as goal

pub returns-in-Ok-clause-called : goal.returns-in-Ok-clause-called
returns-in-Ok-clause-called g c = let k = c.args.turns.now.board.shared.key in let v = c.args.caller.now.seat.me.0 in let u = c.stage-done.new.caller.seat.me.0 in
    let told = subst (λ (r : Result Leased Stop). HasStaged g.S.Promise.sound g.D.Disk.view k.first.value v.number v.seen u.seen c.args.block r) c.in-Ok.is c.stage-done.ensures.staged in
    in_two_turns g.S.Promise.sound g.D.Disk.view k.first.value v u c.commit.new.caller.seat.me.0 c.args.account c.args.reading c.args.asked.value c.args.head c.args.block c.in-Ok.lease c.commit.result
    (subst (λ n. n < 2 ^ 42) (sym (c.commit.ensures.word ∙ c.stage-done.ensures.word)) c.requires.may.few) c.requires.asked c.stage-done.ensures.same.number told c.commit.ensures.answered

pub returns-in-Err-clause-called : goal.returns-in-Err-clause-called
returns-in-Err-clause-called g c = let k = c.args.turns.now.board.shared.key in let v = c.args.caller.now.seat.me.0 in let u = c.stage-done.new.caller.seat.me.0 in
    let told = subst (λ (r : Result Leased Stop). HasStaged g.S.Promise.sound g.D.Disk.view k.first.value v.number v.seen u.seen c.args.block r) c.in-Err.is c.stage-done.ensures.staged in
    unstaged g.S.Promise.sound g.D.Disk.view k.first.value v u c.args.account c.args.reading c.args.asked.value c.args.head c.args.block c.answer_of.result c.in-Err.stop
    (subst (λ n. n < 2 ^ 42) (sym c.stage-done.ensures.word) c.requires.may.few) c.requires.asked c.answer_of.ensures.unavailable c.answer_of.ensures.memory told
