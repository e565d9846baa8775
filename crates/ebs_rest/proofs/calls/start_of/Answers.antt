use Rattle.std.proofs.Common.{refl, codes}
use Rattle.ebs_members.proofs.Outcomes.{fails_first, hands_on}
use Rattle.ebs_rest.proofs.LimitLaws.{timeout_kept, description_kept, tags_kept, token_kept}
use Rattle.ebs_members.specs.inner.Sources.{found}
use Rattle.ebs_rest.proofs.calls.start_of.Goals as goal

pub returns-in_err-description-clause-value : goal.returns-in_err-description-clause-value
returns-in_err-description-clause-value c =
    hands_on _ _ c.in_err-description.field-0.0 c.from_residual-in_err-description.ensures.1
    (rw (c.in_ok-size.ensures.value, c.in_ok-parent.ensures.value) (fails_first _ _ _ c.in_err-description.ensures.value))

pub returns-in_err-tags-clause-value : goal.returns-in_err-tags-clause-value
returns-in_err-tags-clause-value c =
    hands_on _ _ c.in_err-tags.field-0.0 c.from_residual-in_err-tags.ensures.1
    (rw (c.in_ok-size.ensures.value, c.in_ok-parent.ensures.value, c.in_ok-description.ensures.value) (fails_first _ _ _ c.in_err-tags.ensures.value))

pub returns-in_err-client_token-clause-value : goal.returns-in_err-client_token-clause-value
returns-in_err-client_token-clause-value c =
    hands_on _ _ c.in_err-client_token.field-0.0 c.from_residual-in_err-client_token.ensures.1
    (rw (c.in_ok-size.ensures.value, c.in_ok-parent.ensures.value, c.in_ok-description.ensures.value, c.in_ok-tags.ensures.value) (fails_first _ _ _ c.in_err-client_token.ensures.value))

pub returns-in_err-timeout-clause-value : goal.returns-in_err-timeout-clause-value
returns-in_err-timeout-clause-value c =
    hands_on _ _ c.in_err-timeout.field-0.0 c.from_residual-in_err-timeout.ensures.1
    (rw (c.in_ok-size.ensures.value, c.in_ok-parent.ensures.value, c.in_ok-description.ensures.value, c.in_ok-tags.ensures.value, c.in_ok-client_token.ensures.value) (fails_first _ _ _ c.in_err-timeout.ensures.value))

pub returns-in_err-optional-clause-value : goal.returns-in_err-optional-clause-value
returns-in_err-optional-clause-value c =
    hands_on _ _ c.in_err-optional.field-0.0 c.from_residual-in_err-optional.ensures.1
    (rw (c.in_ok-size.ensures.value, c.in_ok-parent.ensures.value, c.in_ok-description.ensures.value, c.in_ok-tags.ensures.value, c.in_ok-client_token.ensures.value, c.in_ok-timeout.ensures.value) (fails_first _ _ _ c.in_err-optional.ensures.value))

pub returns-in_err-optional-2-clause-value : goal.returns-in_err-optional-2-clause-value
returns-in_err-optional-2-clause-value c =
    hands_on _ _ c.in_err-optional-2.field-0.0 c.from_residual-in_err-optional-2.ensures.1
    (rw (c.in_ok-size.ensures.value, c.in_ok-parent.ensures.value, c.in_ok-description.ensures.value, c.in_ok-tags.ensures.value, c.in_ok-client_token.ensures.value, c.in_ok-timeout.ensures.value, c.in_ok-optional.ensures.value) (fails_first _ _ _ c.in_err-optional-2.ensures.value))

pub returns-clause-value : goal.returns-clause-value
returns-clause-value c =
    rw (c.in_ok-size.ensures.value, c.in_ok-parent.ensures.value, c.in_ok-description.ensures.value, c.in_ok-tags.ensures.value, c.in_ok-client_token.ensures.value, c.in_ok-timeout.ensures.value, c.in_ok-optional.ensures.value, c.in_ok-optional-2.ensures.value, c.unwrap_or.ensures, c.new.ensures, c.unwrap_or-2.ensures) refl

pub returns-clause-limits : goal.returns-clause-limits
returns-clause-limits c =
    rw (
      c.unwrap_or.ensures,
      c.new.ensures,
      c.unwrap_or-2.ensures,
      description_kept (codes "Description") (found c.args.body.now (codes "Description")) c.in_ok-description.description c.in_ok-description.ensures.value,
      tags_kept (codes "Tags") (found c.args.body.now (codes "Tags")) c.in_ok-tags.tags c.in_ok-tags.ensures.value,
      token_kept (codes "ClientToken") (found c.args.body.now (codes "ClientToken")) c.in_ok-client_token.client_token c.in_ok-client_token.ensures.value,
      timeout_kept (codes "Timeout") (found c.args.body.now (codes "Timeout")) c.in_ok-timeout.timeout c.in_ok-timeout.ensures.value,
    ) refl
