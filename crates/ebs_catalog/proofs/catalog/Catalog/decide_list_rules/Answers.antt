use Rattle.std.proofs.Common.{ℕ, List, map, Ok, sym, ap, ◌∙◌}
use Rattle.std.specs.FinMap.{entries}
use Rattle.ebs_model.specs.declared.answer.Answer.TheVariants.{RuleList}
use Rattle.ebs_model.specs.declared.change.Decision.TheVariants.{View}
use Rattle.ebs_model.specs.declared.rules.Rule.{Rule}
use Rattle.ebs_model.specs.declared.rules.RuleView.{RuleView}
use Rattle.ebs_model.specs.Rows.{book_of}
use Rattle.ebs_model.specs.Rules.{Book, rule_view}
use Rattle.ebs_catalog.specs.Held.{rows_in}
use Rattle.ebs_catalog.proofs.Listed.{twice}
use Rattle.ebs_catalog.proofs.catalog.Catalog.decide_list_rules.Goals as goal

pub returns-clause-decided : goal.returns-clause-decided
returns-clause-decided c =
    let show : Rule → RuleView = rule_view c.args.at.second in
    let rule : ℕ × Rule → Rule = λ e. e.1 in
    let es = entries (book_of (rows_in c.args.self.now) c.args.account).rules in
    ap (λ rows. Ok (View (RuleList rows)))
    (c.in_ok-rows.ensures ∙ ap (λ (xs : List (ℕ × Rule)). map (λ e. rule_view c.args.at.second e.1) xs) (c.all-rules.ensures ∙ ap (λ (b : Book). entries b.rules) c.rules_or.ensures.rules)
    ∙ sym (twice rule show es))
