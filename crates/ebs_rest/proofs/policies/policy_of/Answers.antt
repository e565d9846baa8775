use Rattle.std.proofs.Common.{refl, codes}
use Rattle.ebs_members.specs.inner.Sources.{found}
use Rattle.ebs_members.proofs.Outcomes.{fails_first, hands_on}
use Rattle.ebs_rest.proofs.LimitLaws.{tags_kept}
use Rattle.ebs_rest.proofs.PolicyLimits.{targets_needed, schedule_needed, retain_needed}
use Rattle.ebs_rest.proofs.policies.policy_of.Goals as goal

pub returns-in_err-add-clause-value : goal.returns-in_err-add-clause-value
returns-in_err-add-clause-value c =
    hands_on _ _ c.in_err-add.field-0.0 c.from_residual-in_err-add.ensures.1
    (rw (c.in_ok-targets.ensures.value, c.in_ok-schedule.ensures.value, c.in_ok-retain.ensures.value) (fails_first _ _ _ c.in_err-add.ensures.value))

pub returns-clause-value : goal.returns-clause-value
returns-clause-value c =
    rw (c.in_ok-targets.ensures.value, c.in_ok-schedule.ensures.value, c.in_ok-retain.ensures.value, c.in_ok-add.ensures.value, c.unwrap_or.ensures, c.new.ensures) refl

pub returns-clause-limits : goal.returns-clause-limits
returns-clause-limits c =
    rw (
      targets_needed (codes "TargetTags") (found c.args.body.now (codes "TargetTags")) c.in_ok-targets.targets c.in_ok-targets.ensures.value,
      schedule_needed (codes "Schedule") (found c.args.body.now (codes "Schedule")) c.in_ok-schedule.schedule c.in_ok-schedule.ensures.value,
      retain_needed (codes "RetainRule") (found c.args.body.now (codes "RetainRule")) c.in_ok-retain.retain c.in_ok-retain.ensures.value,
      c.unwrap_or.ensures,
      c.new.ensures,
      tags_kept (codes "TagsToAdd") (found c.args.body.now (codes "TagsToAdd")) c.in_ok-add.add c.in_ok-add.ensures.value,
    ) refl
