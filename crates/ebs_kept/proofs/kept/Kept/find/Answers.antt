use Rattle.std.proofs.Common.{ap, sym, subst, ◌∙◌}
use Rattle.ebs_model.specs.Machine.{advance, rows_of}
use Rattle.ebs_model.specs.Decide.{decide}
use Rattle.ebs_model.specs.inner.Follows.{Agrees}
use Rattle.ebs_kept.proofs.Decided.{only-read}
use Rattle.ebs_model.specs.declared.request.Request.{Request}
use Rattle.ebs_catalog.specs.Wants.{MayWant}
use Rattle.ebs_kept.proofs.Wants.{weaker}
use Rattle.ebs_model.specs.declared.array.Block.{Block}
use Rattle.ebs_kept.proofs.kept.Kept.find.Goals as goal

pub unreachable-requires : goal.unreachable-requires
unreachable-requires c =
    let rows = rows_of (advance c.args.self.now.machine c.args.now) in
    let given = subst (λ r. Agrees r (decide rows c.args.now c.args.account c.args.request.now)) c.in-Ok.is c.decide.ensures.decided in
    only-read rows c.args.now c.args.account c.args.key.now c.args.index c.args.token.now c.in-Ok.decision
    (sym (given ∙ ap (decide rows c.args.now c.args.account) c.requires.get)) c.in_default.not-Read

pub returns-in-Err-clause-memory : goal.returns-in-Err-clause-memory
returns-in-Err-clause-memory c =
    let decided = decide (rows_of (advance c.args.self.now.machine c.args.now)) c.args.now c.args.account c.args.request.now in
    weaker Block _ _ c.decide.result c.in-Err.failure c.in-Err.is (λ h. subst (λ (q : Request). MayWant q decided) c.requires.get h) c.decide.ensures.memory
