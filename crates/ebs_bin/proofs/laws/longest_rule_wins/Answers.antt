use Rattle.std.proofs.Common.{◌≡◌, refl, ℕ, subst, map, Option, Some, None}
use Rattle.std.specs.FinMap.{entries}
use Rattle.ebs_model.specs.Rules.{longest}
use Rattle.ebs_bin.proofs.Longest.{IsUpTo, bounded, reached, matching, matched}
use Rattle.ebs_bin.proofs.laws.longest_rule_wins.Goals as goal

pub returns-clause-some : goal.returns-clause-some
returns-clause-some c b tags days e =
    let rules = map (λ x. x.1) (entries b.rules) in
    let got = reached tags rules days e in (
      (got.rule, (got.in_rules, matching got.rule.tags tags got.does_match), got.same),
      λ rule h. subst (IsUpTo rule.days) e (bounded tags rules rule h.0 (matched rule.tags tags h.1)),
    )

empty : (x found : Option ℕ) → found ≡ x → ((days : ℕ) → found ≡ Some days → ⊥) → found ≡ None
empty None found e h = e
empty (Some days) found e h = absurd (h days e)

pub returns-clause-none : goal.returns-clause-none
returns-clause-none c b tags =
    let rules = map (λ x. x.1) (entries b.rules) in (
      λ e rule h. subst (IsUpTo rule.days) e (bounded tags rules rule h.0 (matched rule.tags tags h.1)),
      λ none. empty (longest tags rules) (longest tags rules) refl (λ days e. let got = reached tags rules days e in none got.rule (got.in_rules, matching got.rule.tags tags got.does_match)),
    )
