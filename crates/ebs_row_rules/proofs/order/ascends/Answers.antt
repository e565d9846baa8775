use Rattle.std.proofs.Common.{rules}
use Rattle.std.proofs.lemmas.Fn.{always_returns_same}
use Rattle.std.specs.Ordering.{is_lt}
use Rattle.ebs_row_rules.proofs.Ascending.{answered}
use Rattle.ebs_row_rules.proofs.order.ascends.Goals as goal

pub returns : goal.returns
returns g c =
    answered (λ a b. is_lt (g.T.Key.Ord.cmp (g.T.Keyed.key a) (g.T.Keyed.key b))) c.args.rows.now c.is_sorted_by.result
    (c.is_sorted_by.ensures.cases (λ a b. is_lt (g.T.Key.Ord.cmp (g.T.Keyed.key a) (g.T.Keyed.key b))) (always_returns_same _ _ _ (λ a r f called. search (rules, called))))
