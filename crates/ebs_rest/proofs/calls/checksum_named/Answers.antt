use Rattle.ebs_members.proofs.Outcomes.{fails_first, hands_on}
use Rattle.ebs_rest.proofs.calls.checksum_named.Goals as goal

pub returns-in_err-optional-2-clause-value : goal.returns-in_err-optional-2-clause-value
returns-in_err-optional-2-clause-value c =
    hands_on _ _ c.in_err-optional-2.field-0.0 c.from_residual-in_err-optional-2.ensures.1
    (rw (c.in_ok-optional.ensures.value) (fails_first _ _ _ c.in_err-optional-2.ensures.value))
