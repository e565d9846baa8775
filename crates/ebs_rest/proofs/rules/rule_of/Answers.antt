use Rattle.std.proofs.Common.{refl, codes}
use Rattle.ebs_members.proofs.Outcomes.{fails_first, fails_test, hands_on}
use Rattle.ebs_members.specs.inner.Sources.{found}
use Rattle.ebs_rest.proofs.LimitLaws.{retention_needed, rule_tags_kept, description_kept, test_kept}
use Rattle.ebs_rest.proofs.rules.rule_of.Goals as goal

pub returns-in_err-delay-clause-value : goal.returns-in_err-delay-clause-value
returns-in_err-delay-clause-value c =
    hands_on _ _ c.in_err-delay.field-0.0 c.from_residual-in_err-delay.ensures.1
    (rw (c.in_ok-days.ensures.value, c.in_ok-required.ensures.value, c.in_ok-tags.ensures.value, c.in_ok-description.ensures.value) (fails_first _ _ _ c.in_err-delay.ensures.value))

pub returns-in_err-untagged-clause-value : goal.returns-in_err-untagged-clause-value
returns-in_err-untagged-clause-value c =
    let wanted = rw (c.as_slice.ensures, c.unwrap_or-tags.ensures, c.new.ensures) at c.in_err-untagged.ensures.value in
    hands_on _ _ c.in_err-untagged.field-0.0 c.from_residual-in_err-untagged.ensures.1
    (rw (c.in_ok-days.ensures.value, c.in_ok-required.ensures.value, c.in_ok-tags.ensures.value, c.in_ok-description.ensures.value, c.in_ok-delay.ensures.value) (fails_test _ _ _ wanted))

pub returns-clause-value : goal.returns-clause-value
returns-clause-value c =
    let good = rw (c.as_slice.ensures, c.unwrap_or-tags.ensures, c.new.ensures) at c.in_ok-untagged.ensures.value in
    rw (c.in_ok-days.ensures.value, c.in_ok-required.ensures.value, c.in_ok-tags.ensures.value, c.in_ok-description.ensures.value, c.in_ok-delay.ensures.value, good, c.unwrap_or-tags.ensures, c.new.ensures) refl

pub returns-clause-limits : goal.returns-clause-limits
returns-clause-limits c =
    rw (
      retention_needed (codes "RetentionPeriod") (found c.args.body.now (codes "RetentionPeriod")) c.in_ok-days.days c.in_ok-days.ensures.value,
      c.unwrap_or-tags.ensures,
      c.new.ensures,
      rule_tags_kept (codes "ResourceTags") (found c.args.body.now (codes "ResourceTags")) c.in_ok-tags.tags c.in_ok-tags.ensures.value,
      description_kept (codes "Description") (found c.args.body.now (codes "Description")) c.in_ok-description.description c.in_ok-description.ensures.value,
      test_kept _ (codes "LockConfiguration") (rw (c.as_slice.ensures, c.unwrap_or-tags.ensures, c.new.ensures) at c.in_ok-untagged.ensures.value),
    ) refl
