use Rattle.std.proofs.Common.{Result, Ok, Err, ap, subst, ◌∙◌}
use Rattle.ebs_model.specs.declared.keys.SnapKey.{SnapKey}
use Rattle.ebs_model.specs.declared.change.Decision.{Decision}
use Rattle.ebs_model.specs.declared.change.Decision.TheVariants as decision
use Rattle.ebs_model.specs.declared.answer.Refusal.{Refusal}
use Rattle.ebs_model.specs.declared.answer.Failure.TheVariants.{Memory}
use Rattle.ebs_model.specs.Refuse.{◌>>=◌}
use Rattle.ebs_model.specs.inner.Rows.{aged}
use Rattle.ebs_model.specs.Decisions.{makes}
use Rattle.ebs_catalog.specs.Held.{rows_in}
use Rattle.ebs_catalog.specs.Wants.{IsSettled}
use Rattle.ebs_catalog.proofs.Wants.{always}
use Rattle.ebs_catalog.proofs.Begins.{begun, begins}
use Rattle.ebs_catalog.proofs.catalog.Catalog.fresh_start.Goals as goal

pub returns-in-Ok-start_request-clause-decided : goal.returns-in-Ok-start_request-clause-decided
returns-in-Ok-start_request-clause-decided c =
    let a = c.args in
    let f : SnapKey → Result Decision Refusal = λ key. Ok (begun a.at a.account a.size a.parent.now a.description.now a.tags.now a.token.now a.timeout key) in
    let change = c.change-change.ensures ∙ (λ i. makes a.account a.at (c.in-Ok-start_request.ensures i) (c.in_ok-made-in-Ok.ensures i)) in
    (λ i. Ok (decision.Change (change i) (c.in_ok-answer-in-Ok.ensures i)))
    ∙ ap (λ (x : Result SnapKey Refusal). x >>= f) c.in-Ok.ensures
    ∙ begins (aged a.at.second (rows_in a.self.now)) a.at a.account a.size a.parent.now a.description.now a.tags.now a.token.now a.timeout

pub returns-in-Err-clause-decided : goal.returns-in-Err-clause-decided
returns-in-Err-clause-decided c =
    let a = c.args in
    let f : SnapKey → Result Decision Refusal = λ key. Ok (begun a.at a.account a.size a.parent.now a.description.now a.tags.now a.token.now a.timeout key) in
    ap (λ (x : Result SnapKey Refusal). x >>= f) c.in-Err.ensures
    ∙ begins (aged a.at.second (rows_in a.self.now)) a.at a.account a.size a.parent.now a.description.now a.tags.now a.token.now a.timeout

pub returns-in-Err-start_request-clause-memory : goal.returns-in-Err-start_request-clause-memory
returns-in-Err-start_request-clause-memory c =
    let a = c.args in
    always {A = Decision} (Err Memory) _ (subst IsSettled (ap (λ (x : Result SnapKey Refusal). x >>= (λ key. Ok (begun a.at a.account a.size a.parent.now a.description.now a.tags.now a.token.now a.timeout key))) c.in-Ok.ensures
    ∙ begins (aged a.at.second (rows_in a.self.now)) a.at a.account a.size a.parent.now a.description.now a.tags.now a.token.now a.timeout) tt)

pub returns-in_err-made-in-Ok-clause-memory : goal.returns-in_err-made-in-Ok-clause-memory
returns-in_err-made-in-Ok-clause-memory c =
    let a = c.args in
    always _ _ (subst IsSettled (ap (λ (x : Result SnapKey Refusal). x >>= (λ key. Ok (begun a.at a.account a.size a.parent.now a.description.now a.tags.now a.token.now a.timeout key))) c.in-Ok.ensures
    ∙ begins (aged a.at.second (rows_in a.self.now)) a.at a.account a.size a.parent.now a.description.now a.tags.now a.token.now a.timeout) tt)

pub returns-in_err-answer-in-Ok-clause-memory : goal.returns-in_err-answer-in-Ok-clause-memory
returns-in_err-answer-in-Ok-clause-memory c =
    let a = c.args in
    always _ _ (subst IsSettled (ap (λ (x : Result SnapKey Refusal). x >>= (λ key. Ok (begun a.at a.account a.size a.parent.now a.description.now a.tags.now a.token.now a.timeout key))) c.in-Ok.ensures
    ∙ begins (aged a.at.second (rows_in a.self.now)) a.at a.account a.size a.parent.now a.description.now a.tags.now a.token.now a.timeout) tt)
