use Rattle.std.proofs.Common.{Result, Err, sym, subst, ◌∙◌}
use Rattle.ebs_model.specs.declared.change.Decision.{Decision}
use Rattle.ebs_model.specs.declared.answer.Failure.{Failure}
use Rattle.ebs_model.specs.Kept.{same}
use Rattle.ebs_model.specs.Step.{act}
use Rattle.ebs_model.specs.Machine.{advance, rows_of}
use Rattle.ebs_model.specs.Decide.{decide}
use Rattle.ebs_model.specs.inner.Follows.{Follows, Agrees}
use Rattle.ebs_catalog.specs.Wants.{OnMemory, MayWant}
use Rattle.ebs_kept.proofs.Decided.{decides, decides-asked, fits, acts}
use Rattle.ebs_kept.proofs.Wants.{handed, accepted, follows-told, memory-told}
use Rattle.ebs_kept.proofs.kept.Kept.act.Goals as goal

pub finish-requires-clause-decided : goal.finish-requires-clause-decided
finish-requires-clause-decided c =
    let rows = rows_of (advance c.args.self.now.machine c.args.now) in
    let given = subst (λ r. Agrees r (decide rows c.args.now c.args.account c.args.request.now)) c.in-Ok.is c.decide.ensures.decided in
    decides rows c.args.now c.args.account c.args.request.now _ c.in-Ok.decision
    (fits c.args.request.now c.requires.within (sym c.check_size.ensures ∙ c.in_default.is)) (sym given)

pub returns-in-Ok-clause-follows : goal.returns-in-Ok-clause-follows
returns-in-Ok-clause-follows c =
    let m = advance c.args.self.now.machine c.args.now in
    let given = subst (λ r. Agrees r (decide (rows_of m) c.args.now c.args.account c.args.request.now)) c.in-Ok.is c.decide.ensures.decided in
    subst (Follows c.args.self.now.machine c.finish.new.self.machine c.finish.result)
    (acts m c.args.account c.args.request.now _ c.in-Ok.decision c.requires.bare (sym c.check_size.ensures ∙ c.in_default.is) (sym given)) c.finish.ensures.follows

pub returns-in-Ok-clause-memory : goal.returns-in-Ok-clause-memory
returns-in-Ok-clause-memory c =
    let m = advance c.args.self.now.machine c.args.now in
    let given = subst (λ r. Agrees r (decide (rows_of m) c.args.now c.args.account c.args.request.now)) c.in-Ok.is c.decide.ensures.decided in
    handed _ _ c.finish.result (accepted _ _ (acts m c.args.account c.args.request.now _ c.in-Ok.decision c.requires.bare (sym c.check_size.ensures ∙ c.in_default.is) (sym given))) c.finish.ensures.memory

pub undecided-requires-clause-sized : goal.undecided-requires-clause-sized
undecided-requires-clause-sized c = sym c.check_size.ensures ∙ c.in_default.is

pub undecided-requires-clause-wants : goal.undecided-requires-clause-wants
undecided-requires-clause-wants c =
    let m = advance c.args.self.now.machine c.args.now in
    let wanted = MayWant c.args.request.now (decide (rows_of m) c.args.now c.args.account c.args.request.now) in
    subst (λ (f : Failure). OnMemory {A = Decision} (Err f) wanted) c.in-Err-Memory.field-0-is
    (subst (λ (r : Result Decision Failure). OnMemory r wanted) c.in-Err-Memory.is c.decide.ensures.memory)

pub returns-in-Err-Memory-clause-follows : goal.returns-in-Err-Memory-clause-follows
returns-in-Err-Memory-clause-follows c = follows-told c.args.self.now.machine c.undecided.result (act same (advance c.args.self.now.machine c.args.now) c.args.account c.args.request.now) c.undecided.ensures

pub returns-in-Err-Memory-clause-memory : goal.returns-in-Err-Memory-clause-memory
returns-in-Err-Memory-clause-memory c = memory-told c.undecided.result (act same (advance c.args.self.now.machine c.args.now) c.args.account c.args.request.now) c.undecided.ensures

pub finish-requires-clause-asked : goal.finish-requires-clause-asked
finish-requires-clause-asked c =
    let rows = rows_of (advance c.args.self.now.machine c.args.now) in
    let given = subst (λ r. Agrees r (decide rows c.args.now c.args.account c.args.request.now)) c.in-Ok.is c.decide.ensures.decided in
    decides-asked rows c.args.now c.args.account c.args.request.now c.in-Ok.decision (sym given)
