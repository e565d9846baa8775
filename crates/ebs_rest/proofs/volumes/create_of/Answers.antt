use Rattle.std.proofs.Common.{refl, codes}
use Rattle.ebs_model.specs.Limits.{is_sized}
use Rattle.ebs_members.proofs.Outcomes.{fails_first, fails_test, hands_on}
use Rattle.ebs_rest.proofs.LimitLaws.{tags_kept, token_kept, test_kept}
use Rattle.ebs_members.specs.inner.Sources.{found}
use Rattle.ebs_rest.proofs.volumes.create_of.Goals as goal

pub returns-in_err-sized-clause-value : goal.returns-in_err-sized-clause-value
returns-in_err-sized-clause-value c =
    hands_on _ _ c.in_err-sized.field-0.0 c.from_residual-in_err-sized.ensures.1
    (rw (c.in_ok-origin.ensures.value, c.in_ok-size.ensures.value) (fails_test _ _ _ c.in_err-sized.ensures.value))

pub returns-in_err-tags-clause-value : goal.returns-in_err-tags-clause-value
returns-in_err-tags-clause-value c =
    hands_on _ _ c.in_err-tags.field-0.0 c.from_residual-in_err-tags.ensures.1
    (rw (c.in_ok-origin.ensures.value, c.in_ok-size.ensures.value, c.in_ok-sized.ensures.value) (fails_first _ _ _ c.in_err-tags.ensures.value))

pub returns-in_err-client_token-clause-value : goal.returns-in_err-client_token-clause-value
returns-in_err-client_token-clause-value c =
    hands_on _ _ c.in_err-client_token.field-0.0 c.from_residual-in_err-client_token.ensures.1
    (rw (c.in_ok-origin.ensures.value, c.in_ok-size.ensures.value, c.in_ok-sized.ensures.value, c.in_ok-tags.ensures.value) (fails_first _ _ _ c.in_err-client_token.ensures.value))

pub returns-clause-value : goal.returns-clause-value
returns-clause-value c =
    rw (c.in_ok-origin.ensures.value, c.in_ok-size.ensures.value, c.in_ok-sized.ensures.value, c.in_ok-tags.ensures.value, c.in_ok-client_token.ensures.value, c.unwrap_or.ensures, c.new.ensures) refl

pub returns-clause-limits : goal.returns-clause-limits
returns-clause-limits c =
    rw (
      c.unwrap_or.ensures,
      c.new.ensures,
      test_kept (is_sized c.in_ok-origin.origin c.in_ok-size.size) (codes "Size") c.in_ok-sized.ensures.value,
      tags_kept (codes "Tags") (found c.args.body.now (codes "Tags")) c.in_ok-tags.tags c.in_ok-tags.ensures.value,
      token_kept (codes "ClientToken") (found c.args.body.now (codes "ClientToken")) c.in_ok-client_token.client_token c.in_ok-client_token.ensures.value,
    ) refl
