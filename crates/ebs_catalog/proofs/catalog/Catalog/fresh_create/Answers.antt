use Rattle.std.proofs.Common.{ℕ, Result, Ok, ap, ◌∙◌}
use Rattle.ebs_model.specs.declared.keys.VolKey.{VolKey}
use Rattle.ebs_model.specs.declared.change.Decision.{Decision}
use Rattle.ebs_model.specs.declared.change.Decision.TheVariants as decision
use Rattle.ebs_model.specs.declared.answer.Refusal.{Refusal}
use Rattle.ebs_model.specs.Refuse.{◌>>=◌}
use Rattle.ebs_model.specs.inner.Rows.{aged}
use Rattle.ebs_model.specs.Decisions.{makes}
use Rattle.ebs_catalog.specs.Held.{rows_in}
use Rattle.ebs_catalog.proofs.Creates.{created, creates}
use Rattle.ebs_catalog.proofs.catalog.Catalog.fresh_create.Goals as goal

pub returns-in-Ok-create_request-clause-decided : goal.returns-in-Ok-create_request-clause-decided
returns-in-Ok-create_request-clause-decided c =
    let a = c.args in
    let f : VolKey × ℕ → Result Decision Refusal = λ new. Ok (created a.at a.account a.origin.now a.tags.now a.token.now new) in
    let change = c.change-change.ensures ∙ (λ i. makes a.account a.at (c.in-Ok-create_request.ensures i) (c.in_ok-made-in-Ok.ensures i)) in
    (λ i. Ok (decision.Change (change i) (c.in_ok-answer-in-Ok.ensures i)))
    ∙ ap (λ (x : Result (VolKey × ℕ) Refusal). x >>= f) c.in-Ok.ensures
    ∙ creates (aged a.at.second (rows_in a.self.now)) a.at a.account a.origin.now a.size a.tags.now a.token.now

pub returns-in-Err-clause-decided : goal.returns-in-Err-clause-decided
returns-in-Err-clause-decided c =
    let a = c.args in
    let f : VolKey × ℕ → Result Decision Refusal = λ new. Ok (created a.at a.account a.origin.now a.tags.now a.token.now new) in
    ap (λ (x : Result (VolKey × ℕ) Refusal). x >>= f) c.in-Err.ensures
    ∙ creates (aged a.at.second (rows_in a.self.now)) a.at a.account a.origin.now a.size a.tags.now a.token.now
