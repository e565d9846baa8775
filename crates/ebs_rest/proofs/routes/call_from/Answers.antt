use Rattle.std.proofs.Common.{refl}
use Rattle.ebs_members.proofs.Outcomes.{fails_first, hands_on}
use Rattle.ebs_rest.proofs.routes.call_from.Goals as goal

pub returns-in_err-operation-clause-value : goal.returns-in_err-operation-clause-value
returns-in_err-operation-clause-value c =
    hands_on _ _ c.in_err-operation.field-0.0 c.from_residual.ensures.1 (fails_first _ _ _ c.in_err-operation.ensures.value)

pub returns-in_err-account-clause-value : goal.returns-in_err-account-clause-value
returns-in_err-account-clause-value c =
    hands_on _ _ c.in_err-account.field-0.0 c.from_residual-in_err-account.ensures.1
    (rw (c.in_ok-operation.ensures.value) (fails_first _ _ _ c.in_err-account.ensures.value))

pub returns-in_err-request-clause-value : goal.returns-in_err-request-clause-value
returns-in_err-request-clause-value c =
    hands_on _ _ c.in_err-request.field-0.0 c.from_residual-in_err-request.ensures.1
    (rw (c.in_ok-operation.ensures.value, c.in_ok-account.ensures.value, ← c.requires) (fails_first _ _ _ c.in_err-request.ensures.value))

pub returns-clause-value : goal.returns-clause-value
returns-clause-value c = rw (c.in_ok-operation.ensures.value, c.in_ok-account.ensures.value, ← c.requires, c.in_ok-request.ensures.value) refl
