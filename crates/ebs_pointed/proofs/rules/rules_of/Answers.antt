use Rattle.std.proofs.Common.{sym, ap, subst, ◌∙◌}
use Rattle.ebs_model.specs.declared.rules.Rule.{Rule}
use Rattle.ebs_row_rules.specs.Order.{ascends, rule_cmp}
use Rattle.ebs_catalog.specs.Held.{rows_in}
use Rattle.ebs_pointed.specs.Rules.{AreRulesOf, all_in_order}
use Rattle.ebs_pointed.proofs.Numbered.{all-are, all-ascend}
use Rattle.ebs_pointed.proofs.rules.rules_of.Goals as goal

pub returns-clause-listed : goal.returns-clause-listed
returns-clause-listed c =
    let books = (rows_in c.args.catalog.now).books in
    subst (AreRulesOf books) (sym (c.in_ok-rows.ensures.all ∙ ap all_in_order c.rules.ensures)) (all-are books c.requires)

pub returns-clause-ascend : goal.returns-clause-ascend
returns-clause-ascend c =
    ap (ascends {X = Rule} rule_cmp (λ r. r.key)) (c.in_ok-rows.ensures.all ∙ ap all_in_order c.rules.ensures) ∙ all-ascend (rows_in c.args.catalog.now).books c.requires
