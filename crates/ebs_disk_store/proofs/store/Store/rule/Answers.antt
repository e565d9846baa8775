use Rattle.std.proofs.Common.{◌∙◌, Result, Err, ap, sym, subst}
use Rattle.ebs_model.specs.Kept.{same}
use Rattle.ebs_model.specs.Step.{refuse_linear}
use Rattle.ebs_model.specs.Machine.{advance, rows_of}
use Rattle.ebs_model.specs.Decide.{decide}
use Rattle.ebs_model.specs.inner.Follows.{Agrees}
use Rattle.ebs_recovery.specs.inner.Fits.{Seen}
use Rattle.ebs_disk_store.specs.inner.Calls.{Rules}
use Rattle.ebs_disk_store.proofs.RowCalls.{plain}
use Rattle.ebs_disk_store.proofs.Ruled.{rules_err, rules_of, rules_told}
use Rattle.ebs_model.specs.declared.change.Decision.{Decision}
use Rattle.ebs_model.specs.declared.answer.Failure.{Failure}
use Rattle.ebs_model.specs.declared.answer.Failure.TheVariants.{Refused}
use Rattle.ebs_catalog.specs.Wants.{OnMemory, MayWant}
use Rattle.ebs_disk_store.proofs.store.Store.rule.Goals as goal

pub returns : goal.returns
returns g c =
    let m = advance c.self.inside.kept.machine c.args.now in
    let given = subst (λ r. Agrees r (decide (rows_of m) c.args.now c.args.account c.args.request.now)) c.in-Ok.is c.decide.ensures.decided in
    subst (λ (s : Seen). Rules (advance s.recorded c.args.now) c.args.account c.args.request.now c.ruling_of.result) c.self.view_is
    (subst (Rules m c.args.account c.args.request.now) (sym c.ruling_of.ensures)
    (rules_of m c.args.account c.args.request.now c.requires.change c.requires.within (sym c.check_image.ensures ∙ c.in_default.is) c.in-Ok.decision c.check_linear-tested.result c.is_spent-spent.result
    (c.check_linear-tested.ensures ∙ ap (λ (s : Seen). refuse_linear same (advance s.recorded c.args.now) c.args.request.now) (sym c.self.view_is)) c.is_spent-spent.ensures.test (sym given)))

pub undecided-requires-clause-bare : goal.undecided-requires-clause-bare
undecided-requires-clause-bare g c = (plain c.args.request.now c.requires.change).none

pub undecided-requires-clause-sized : goal.undecided-requires-clause-sized
undecided-requires-clause-sized g c = sym c.check_image.ensures ∙ c.in_default.is

pub undecided-requires-clause-wants : goal.undecided-requires-clause-wants
undecided-requires-clause-wants g c =
    let m = advance c.self.inside.kept.machine c.args.now in
    let wanted = MayWant c.args.request.now (decide (rows_of m) c.args.now c.args.account c.args.request.now) in
    subst (λ (f : Failure). OnMemory {A = Decision} (Err f) wanted) c.in-Err-Memory.field-0-is
    (subst (λ (r : Result Decision Failure). OnMemory r wanted) c.in-Err-Memory.is c.decide.ensures.memory)

pub returns-in-Err-Memory : goal.returns-in-Err-Memory
returns-in-Err-Memory g c =
    subst (λ (s : Seen). Rules (advance s.recorded c.args.now) c.args.account c.args.request.now (Err c.undecided.result)) c.self.view_is
    (rules_told (advance c.self.inside.kept.machine c.args.now) c.args.account c.args.request.now c.undecided.result c.undecided.ensures)

pub returns-in-Err-Refused : goal.returns-in-Err-Refused
returns-in-Err-Refused g c =
    let m = advance c.self.inside.kept.machine c.args.now in
    let wanted = decide (rows_of m) c.args.now c.args.account c.args.request.now in
    let given = subst (λ (f : Failure). Agrees {A = Decision} (Err f) wanted) c.in-Err-Refused.field-0-is (subst (λ (r : Result Decision Failure). Agrees r wanted) c.in-Err-Refused.is c.decide.ensures.decided) in
    subst (λ (s : Seen). Rules (advance s.recorded c.args.now) c.args.account c.args.request.now (Err (Refused c.in-Err-Refused.refusal))) c.self.view_is
    (rules_err m c.args.account c.args.request.now c.requires.change c.requires.within (sym c.check_image.ensures ∙ c.in_default.is) c.in-Err-Refused.refusal given)
