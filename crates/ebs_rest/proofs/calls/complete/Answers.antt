use Rattle.std.proofs.Common.{refl, codes}
use Rattle.ebs_members.proofs.Outcomes.{fails_first, fails_test, hands_on}
use Rattle.ebs_rest.proofs.LimitLaws.{index_needed}
use Rattle.ebs_members.specs.inner.Sources.{found}
use Rattle.ebs_rest.proofs.calls.complete.Goals as goal

pub returns-in_err-checksum-clause-value : goal.returns-in_err-checksum-clause-value
returns-in_err-checksum-clause-value c =
    hands_on _ _ c.in_err-checksum.field-0.0 c.from_residual-in_err-checksum.ensures.1
    (rw (c.in_ok-key.ensures.value, c.in_ok-count.ensures.value) (fails_first _ _ _ c.in_err-checksum.ensures.value))

pub returns-in_err-count-clause-value : goal.returns-in_err-count-clause-value
returns-in_err-count-clause-value c =
    hands_on _ _ c.in_err-count.field-0.0 c.from_residual-in_err-count.ensures.1
    (rw (c.in_ok-key.ensures.value) (fails_first _ _ _ c.in_err-count.ensures.value))

pub returns-in_err-stated-clause-value : goal.returns-in_err-stated-clause-value
returns-in_err-stated-clause-value c =
    hands_on _ _ c.in_err-stated.field-0.0 c.from_residual-in_err-stated.ensures.1
    (rw (c.in_ok-key.ensures.value, c.in_ok-count.ensures.value, c.in_ok-checksum.ensures.value) (fails_test _ _ _ c.in_err-stated.ensures.value))

pub returns-clause-value : goal.returns-clause-value
returns-clause-value c = rw (c.in_ok-key.ensures.value, c.in_ok-count.ensures.value, c.in_ok-checksum.ensures.value, c.in_ok-stated.ensures.value) refl

pub returns-clause-limits : goal.returns-clause-limits
returns-clause-limits c =
    rw (index_needed (codes "x-amz-ChangedBlocksCount") (found c.args.fields.now (codes "x-amz-ChangedBlocksCount")) c.in_ok-count.count c.in_ok-count.ensures.value) refl
