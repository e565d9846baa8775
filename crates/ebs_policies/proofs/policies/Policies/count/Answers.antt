use Rattle.std.proofs.Common.{ap, ◌∙◌}
use Rattle.std.specs.List.{count_by, filter}
use Rattle.std.specs.FinMap.{entries}
use Rattle.std.specs.Ordering.{is_le}
use Rattle.ebs_tables.specs.Seen.{is_within}
use Rattle.ebs_tables.specs.Full.{full, held}
use Rattle.ebs_model.specs.Keys.{policy_cmp}
use Rattle.ebs_policies.specs.Table.{Places}
use Rattle.ebs_policies.proofs.Counts.{owned, walked-until, walked-from, first_of}
use Rattle.ebs_policies.proofs.policies.Policies.count.Goals as goal

pub returns-in-Some : goal.returns-in-Some
returns-in-Some c =
    let account = c.args.account in
    let m = held policy_cmp c.self.inside.slots in
    c.count_of.ensures
    ∙ ap (count_by (owned account)) (c.until.ensures.values ∙ (λ i. filter (λ e. is_within policy_cmp (c.first_of-start.ensures i) (c.first_of.ensures i) e.0) (entries m)) ∙ ap (λ n. filter (λ e. is_within policy_cmp (first_of account) (first_of n) e.0) (entries m)) c.in-Some.ensures)
    ∙ walked-until account m
    ∙ ap (λ (h : Places). count_by (owned account) (entries (full h))) c.self.view_is

pub returns-in-None : goal.returns-in-None
returns-in-None c =
    let account = c.args.account in
    let m = held policy_cmp c.self.inside.slots in
    c.count_of-in-None.ensures
    ∙ ap (count_by (owned account)) (c.from.ensures.values ∙ (λ i. filter (λ e. is_le (policy_cmp (c.first_of-start.ensures i) e.0)) (entries m)))
    ∙ walked-from account m
    ∙ ap (λ (h : Places). count_by (owned account) (entries (full h))) c.self.view_is
