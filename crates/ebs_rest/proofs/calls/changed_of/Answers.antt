use Rattle.std.proofs.Common.{refl, codes}
use Rattle.ebs_members.proofs.Outcomes.{fails_first, hands_on}
use Rattle.ebs_rest.proofs.LimitLaws.{start_kept, page_kept}
use Rattle.ebs_members.specs.inner.Sources.{found}
use Rattle.ebs_rest.proofs.calls.changed_of.Goals as goal

pub returns-in_err-first-clause-value : goal.returns-in_err-first-clause-value
returns-in_err-first-clause-value c =
    hands_on _ _ c.in_err-first.field-0.0 c.from_residual.ensures.1
    (fails_first _ _ _ c.in_err-first.ensures.value)

pub returns-clause-limits : goal.returns-clause-limits
returns-clause-limits c =
    rw (
      c.unwrap_or.ensures,
      c.unwrap_or-2.ensures,
      page_kept (codes "maxResults") (found c.args.query.now (codes "maxResults")) c.in_ok-max.max c.in_ok-max.ensures.value,
      start_kept (codes "startingBlockIndex") (found c.args.query.now (codes "startingBlockIndex")) c.in_ok-start.start c.in_ok-start.ensures.value,
    ) refl
