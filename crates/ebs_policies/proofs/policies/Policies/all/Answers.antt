use Rattle.std.proofs.Common.{ap, ◌∙◌}
use Rattle.std.specs.List.{filter}
use Rattle.std.specs.FinMap.{entries}
use Rattle.std.specs.Ordering.{is_le}
use Rattle.ebs_tables.specs.Full.{full, held}
use Rattle.ebs_model.specs.Keys.{policy_cmp}
use Rattle.ebs_policies.specs.Table.{Places}
use Rattle.ebs_policies.proofs.Counts.{all-from, first_of}
use Rattle.ebs_policies.proofs.policies.Policies.all.Goals as goal

pub returns : goal.returns
returns c =
    let m = held policy_cmp c.self.inside.slots in
    c.from.ensures.values ∙ (λ i. filter (λ e. is_le (policy_cmp ((c.first_of.ensures ∙ ap first_of c.new.ensures) i) e.0)) (entries m)) ∙ all-from m ∙ ap (λ (h : Places). entries (full h)) c.self.view_is
