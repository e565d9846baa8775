-- A rule as it is shown.
use Rattle.std.proofs.Common.{◌≡◌, ℕ, Bool, true, false, cond, nat_le, Some, None, ap, subst, ◌∙◌, refl}
use Rattle.ebs_model.specs.declared.rules.Rule.{Rule}
use Rattle.ebs_model.specs.declared.rules.RuleLock.{RuleLock}
use Rattle.ebs_model.specs.declared.rules.RuleLock.TheVariants as lock
use Rattle.ebs_model.specs.declared.rules.RuleView.{RuleView}
use Rattle.ebs_model.specs.declared.request.Request.TheVariants.{GetRule}
use Rattle.ebs_model.specs.declared.answer.Answer.TheVariants.{RuleShown}
use Rattle.ebs_model.specs.Rows.{book_of}
use Rattle.ebs_model.specs.Rules.{lock_at, lock_name, lock_end, rule_view}
use Rattle.ebs_model.specs.Machine.{rows_of, advance}
use Rattle.ebs_model.specs.Step.{settled}
use Rattle.ebs_laws.specs.Words.{second_of, moment_at}
use Rattle.ebs_laws.specs.RuleWords.{rule_at}
use Rattle.ebs_laws.specs.RuleLaws.{lock_in, end_in, ShowsRule, ShownRuleIsTheRule, OwnRuleIsShown}
use Rattle.ebs_laws.proofs.Acts.{call-whole}
use Rattle.ebs_laws.proofs.Cases.{step-cases}
use Rattle.ebs_laws.proofs.Commanded.{found-own}
use Rattle.ebs_laws.proofs.Readers.{number_is}

name-same : (l : RuleLock) (now : ℕ) → lock_name (lock_at l now) ≡ lock_in l now
name-same lock.Unlocked now = refl
name-same (lock.Locked delay) now = refl
name-same (lock.Pending end) now = by (nat_le end.second now)
  where
    by : (b : Bool) → lock_name (cond b lock.Unlocked (lock.Pending end)) ≡ cond b (lock_name lock.Unlocked) (lock_name (lock.Pending end))
    by true = refl
    by false = refl

end-same : (l : RuleLock) (now : ℕ) → lock_end (lock_at l now) ≡ end_in l now
end-same lock.Unlocked now = refl
end-same (lock.Locked delay) now = refl
end-same (lock.Pending end) now = by (nat_le end.second now)
  where
    by : (b : Bool) → lock_end (cond b lock.Unlocked (lock.Pending end)) ≡ cond b None (Some end)
    by true = refl
    by false = refl

pub shows-rule : (now : ℕ) (rule : Rule) → ShowsRule now rule (rule_view now rule)
shows-rule now rule = record { key_is = refl; days_are = refl; tags_are = refl; description_is = refl; lock_is = name-same rule.lock now; ends = end-same rule.lock now }

told : {created : Bool} {a b : RuleView} → RuleShown false a ≡ RuleShown created b → (created ≡ false) × (a ≡ b)
told e = (cc, cc)

pub shown-rule : ShownRuleIsTheRule
shown-rule m account reading key created view =
    let at = advance m (moment_at m reading) in
    step-cases (λ d. d.1 ≡ RuleShown created view → (rule : Rule) × (key.account ≡ account) × (rule_at m account key.number ≡ Some rule) × (created ≡ false) × ShowsRule (second_of m reading) rule view) m account reading (GetRule key)
    (λ rule is e.
    let own = found-own account (book_of (rows_of at) account) key rule is in
    let same = told e in
    (rule, own.0, own.1, same.0, subst (ShowsRule (second_of m reading) rule) same.1 (shows-rule (second_of m reading) rule)))
    (λ refusal e. cc)

pub own-rule : OwnRuleIsShown
own-rule m reading key rule is =
    let at = advance m (moment_at m reading) in
    let mine = number_is key.account key.account refl in
    (rule_view at.clock.second rule, ap (λ r. (settled at r).1) (call-whole at key.account (GetRule key)) ∙ (rw (mine, is) refl))
