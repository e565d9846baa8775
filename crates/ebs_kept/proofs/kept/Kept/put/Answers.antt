use Rattle.std.proofs.Common.{[], sym, ap, subst, ◌∙◌}
use Rattle.ebs_model.specs.Machine.{advance, rows_of}
use Rattle.ebs_model.specs.Decide.{decide}
use Rattle.ebs_model.specs.inner.Follows.{Follows, Agrees}
use Rattle.ebs_catalog.specs.Held.{IsFit}
use Rattle.ebs_kept.specs.inner.Requests.{ReadsNoBlock, write_at}
use Rattle.ebs_model.specs.declared.answer.Answer.{Answer}
use Rattle.ebs_model.specs.declared.request.Request.{Request}
use Rattle.ebs_catalog.specs.Wants.{MayWant}
use Rattle.ebs_kept.proofs.Decided.{decides, decides-asked, put-done, put-failed, write-fits, write-reads}
use Rattle.ebs_kept.proofs.Wants.{handed, weaker, accepted, write-wants}
use Rattle.ebs_holds.specs.Counted.{put_place}
use Rattle.ebs_kept.proofs.Counted.{counted_as, nothing_counted, write-place}
use Rattle.ebs_kept.proofs.kept.Kept.put.Goals as goal

pub finish-answer-requires-clause-bare : goal.finish-answer-requires-clause-bare
finish-answer-requires-clause-bare c = subst ReadsNoBlock (sym c.write_at-head.ensures) (write-reads c.args.place.now c.args.index c.args.digest [])

pub finish-answer-requires-clause-decided : goal.finish-answer-requires-clause-decided
finish-answer-requires-clause-decided c =
    let rows = rows_of (advance c.args.self.now.machine c.args.now) in
    let request = c.write_at-head.result in
    let given = subst (λ r. Agrees r (decide rows c.args.now c.args.account request)) c.in-Ok.is c.decide.ensures.decided in
    decides rows c.args.now c.args.account request c.args.digest c.in-Ok.decision (subst IsFit (sym c.write_at-head.ensures) (write-fits c.args.place.now c.args.index c.args.digest [])) (sym given)

pub returns-in-Ok-clause-follows : goal.returns-in-Ok-clause-follows
returns-in-Ok-clause-follows c =
    let m = advance c.args.self.now.machine c.args.now in
    let request = c.write_at-head.result in
    let given = subst (λ r. Agrees r (decide (rows_of m) c.args.now c.args.account request)) c.in-Ok.is c.decide.ensures.decided in
    subst (Follows c.args.self.now.machine c.finish-answer.new.self.machine c.finish-answer.result)
    (put-done m c.args.account c.args.place.now c.args.index c.args.digest request c.in-Ok.decision c.write_at-head.ensures (sym given)) c.finish-answer.ensures.follows

pub returns-in-Ok-clause-memory : goal.returns-in-Ok-clause-memory
returns-in-Ok-clause-memory c =
    let m = advance c.args.self.now.machine c.args.now in
    let request = c.write_at-head.result in
    let given = subst (λ r. Agrees r (decide (rows_of m) c.args.now c.args.account request)) c.in-Ok.is c.decide.ensures.decided in
    handed _ _ c.finish-answer.result (accepted _ _ (put-done m c.args.account c.args.place.now c.args.index c.args.digest request c.in-Ok.decision c.write_at-head.ensures (sym given))) c.finish-answer.ensures.memory

pub returns-in-Err-clause-follows : goal.returns-in-Err-clause-follows
returns-in-Err-clause-follows c =
    let m = advance c.args.self.now.machine c.args.now in
    let request = c.write_at-head.result in
    let given = subst (λ r. Agrees r (decide (rows_of m) c.args.now c.args.account request)) c.in-Err.is c.decide.ensures.decided in
    put-failed m c.args.account c.args.place.now c.args.index c.args.digest request c.in-Err.failure c.write_at-head.ensures given c.args.self.now.machine

pub returns-in-Err-clause-memory : goal.returns-in-Err-clause-memory
returns-in-Err-clause-memory c =
    let m = advance c.args.self.now.machine c.args.now in
    let decided = decide (rows_of m) c.args.now c.args.account c.write_at-head.result in
    let never = λ (h : MayWant c.write_at-head.result decided). absurd (write-wants c.args.place.now c.args.index c.args.digest [] decided (subst (λ (q : Request). MayWant q decided) c.write_at-head.ensures h)) in
    weaker Answer _ _ c.decide.result c.in-Err.failure c.in-Err.is never c.decide.ensures.memory

pub finish-answer-requires-clause-asked : goal.finish-answer-requires-clause-asked
finish-answer-requires-clause-asked c =
    let rows = rows_of (advance c.args.self.now.machine c.args.now) in
    let request = c.write_at-head.result in
    let given = subst (λ r. Agrees r (decide rows c.args.now c.args.account request)) c.in-Ok.is c.decide.ensures.decided in
    decides-asked rows c.args.now c.args.account request c.in-Ok.decision (sym given)

pub returns-in-Ok-clause-counted : goal.returns-in-Ok-clause-counted
returns-in-Ok-clause-counted c =
    let place = c.args.place.now in
    let index = c.args.index in
    let digest = c.args.digest in
    counted_as c.args.self.now c.finish-answer.new.self c.write_at-head.result (write_at place index digest digest) (ap put_place c.write_at-head.ensures ∙ write-place place index digest [] digest) c.finish-answer.ensures.counted

pub returns-in-Err-clause-counted : goal.returns-in-Err-clause-counted
returns-in-Err-clause-counted c = nothing_counted c.args.self.now (write_at c.args.place.now c.args.index c.args.digest c.args.digest)
