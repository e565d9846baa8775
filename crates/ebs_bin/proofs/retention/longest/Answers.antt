use Rattle.std.proofs.Common.{List, Option, sym, ap, map, ◌∙◌, ℕ}
use Rattle.ebs_model.specs.declared.rules.Rule.{Rule}
use Rattle.ebs_model.specs.Rules.{longest}
use Rattle.ebs_bin.proofs.Longest.{joined, joined-none, counted, passed}
use Rattle.ebs_bin.proofs.retention.longest.Goals as goal

pub loop-rule-preserved-then-matches : goal.loop-rule-preserved-then-matches
loop-rule-preserved-then-matches c =
    let tags = c.args.tags.now in
    let rest = map (λ e. e.1) c.next.new.self in
    ap (λ (most : Option ℕ). joined most (longest tags rest)) c.longer-most.ensures
    ∙ counted c.loop-rule.most tags c.in-Some.rule.now rest (sym c.matches.ensures ∙ c.if-matches.true)
    ∙ ap (λ (es : List (ℕ × Rule)). joined c.loop-rule.most (longest tags (map (λ e. e.1) es))) (sym c.in-Some.ensures.steps) ∙ c.loop-rule.invariant

pub loop-rule-preserved : goal.loop-rule-preserved
loop-rule-preserved c =
    let tags = c.args.tags.now in
    let rest = map (λ e. e.1) c.next.new.self in
    passed c.loop-rule.most tags c.in-Some.rule.now rest (sym c.matches.ensures ∙ c.if-matches.false)
    ∙ ap (λ (es : List (ℕ × Rule)). joined c.loop-rule.most (longest tags (map (λ e. e.1) es))) (sym c.in-Some.ensures.steps) ∙ c.loop-rule.invariant

pub returns : goal.returns
returns c =
    let tags = c.args.tags.now in
    sym (joined-none c.loop-rule.most) ∙ ap (λ (es : List (ℕ × Rule)). joined c.loop-rule.most (longest tags (map (λ e. e.1) es))) (sym c.in-None.ensures.steps.0) ∙ c.loop-rule.invariant
    ∙ ap (λ (es : List (ℕ × Rule)). longest tags (map (λ e. e.1) es)) c.into_iter-rule-iterator.ensures.into_iter_gives
