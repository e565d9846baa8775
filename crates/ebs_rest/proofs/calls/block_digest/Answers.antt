use Rattle.ebs_members.proofs.Outcomes.{fails_first, fails_test, hands_on}
use Rattle.ebs_rest.proofs.calls.block_digest.Goals as goal

pub returns-in_err-digest-clause-value : goal.returns-in_err-digest-clause-value
returns-in_err-digest-clause-value c =
    hands_on _ _ c.in_err-digest.field-0.0 c.from_residual-in_err-digest.ensures.1
    (rw (c.in_ok-required.ensures.value) (fails_first _ _ _ c.in_err-digest.ensures.value))

pub returns-in_err-required-2-clause-value : goal.returns-in_err-required-2-clause-value
returns-in_err-required-2-clause-value c =
    hands_on _ _ c.in_err-required-2.field-0.0 c.from_residual-in_err-required-2.ensures.1
    (rw (c.in_ok-required.ensures.value, c.in_ok-digest.ensures.value) (fails_test _ _ _ c.in_err-required-2.ensures.value))

pub returns-in_err-optional-clause-value : goal.returns-in_err-optional-clause-value
returns-in_err-optional-clause-value c =
    hands_on _ _ c.in_err-optional.field-0.0 c.from_residual-in_err-optional.ensures.1
    (rw (c.in_ok-required.ensures.value, c.in_ok-digest.ensures.value, c.in_ok-required-2.ensures.value) (fails_first _ _ _ c.in_err-optional.ensures.value))
