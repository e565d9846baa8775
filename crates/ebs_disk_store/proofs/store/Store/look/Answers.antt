use Rattle.std.proofs.Common.{Result, Err, subst}
use Rattle.ebs_model.specs.Machine.{advance, rows_of}
use Rattle.ebs_model.specs.Decide.{decide}
use Rattle.ebs_model.specs.inner.Follows.{Agrees}
use Rattle.ebs_disk_store.proofs.Looks.{is_shown, look, show_refused, show_told, unshown}
use Rattle.ebs_model.specs.declared.change.Decision.{Decision}
use Rattle.ebs_model.specs.declared.answer.Failure.{Failure}
use Rattle.ebs_model.specs.declared.answer.Failure.TheVariants.{Refused}
use Rattle.ebs_model.specs.Limits.{bad_member}
use Rattle.ebs_model.specs.Refuse.{refuse_bad}
use Rattle.ebs_recovery.specs.inner.Fits.{Seen}
use Rattle.ebs_disk_store.specs.inner.Viewed.{Shows}
use Rattle.ebs_catalog.specs.Wants.{OnMemory, MayWant}
use Rattle.ebs_disk_store.proofs.store.Store.look.Goals as goal

pub unreachable-requires : goal.unreachable-requires
unreachable-requires g c =
    let rows = rows_of (advance c.self.inside.kept.machine c.args.now) in
    let given = subst (λ r. Agrees r (decide rows c.args.now c.args.account c.args.request.now)) c.in-Ok.is c.decide.ensures.decided in
    unshown c.in-Ok.decision (is_shown rows c.args.now c.args.account c.args.request.now c.in-Ok.decision c.requires.view given) c.in_default-decision.not-View c.in_default-decision.not-Read

pub undecided-requires-clause-bare : goal.undecided-requires-clause-bare
undecided-requires-clause-bare g c = (look c.args.request.now c.requires.view).none

pub undecided-requires-clause-sized : goal.undecided-requires-clause-sized
undecided-requires-clause-sized g c = (look c.args.request.now c.requires.view).sized

pub undecided-requires-clause-wants : goal.undecided-requires-clause-wants
undecided-requires-clause-wants g c =
    let m = advance c.self.inside.kept.machine c.args.now in
    let wanted = MayWant c.args.request.now (decide (rows_of m) c.args.now c.args.account c.args.request.now) in
    subst (λ (f : Failure). OnMemory {A = Decision} (Err f) wanted) c.in-Err-Memory.field-0-is
    (subst (λ (r : Result Decision Failure). OnMemory r wanted) c.in-Err-Memory.is c.decide.ensures.memory)

pub returns-in-Err-Refused : goal.returns-in-Err-Refused
returns-in-Err-Refused g c =
    let at = advance c.self.inside.kept.machine c.args.now in
    let wanted = decide (rows_of at) c.args.now c.args.account c.args.request.now in
    let given = subst (λ (f : Failure). Agrees {A = Decision} (Err f) wanted) c.in-Err-Refused.field-0-is (subst (λ (r : Result Decision Failure). Agrees r wanted) c.in-Err-Refused.is c.decide.ensures.decided) in
    let passed = subst (λ r. Agrees r (refuse_bad (bad_member c.args.request.now))) c.in_default.is c.check_members.ensures.within in
    subst (λ (s : Seen). Shows (advance s.recorded c.args.now) c.args.account c.args.request.now (Err (Refused c.in-Err-Refused.refusal))) c.self.view_is
    (show_refused at c.args.account c.args.request.now c.requires.view passed c.in-Err-Refused.refusal given)

pub returns-in-Err-Memory : goal.returns-in-Err-Memory
returns-in-Err-Memory g c =
    let at = advance c.self.inside.kept.machine c.args.now in
    let passed = subst (λ r. Agrees r (refuse_bad (bad_member c.args.request.now))) c.in_default.is c.check_members.ensures.within in
    subst (λ (s : Seen). Shows (advance s.recorded c.args.now) c.args.account c.args.request.now (Err c.undecided.result)) c.self.view_is
    (show_told at c.args.account c.args.request.now c.requires.view passed c.undecided.result c.undecided.ensures)
