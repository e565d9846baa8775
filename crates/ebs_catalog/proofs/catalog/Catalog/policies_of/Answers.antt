use Rattle.std.proofs.Common.{ap, ◌∙◌}
use Rattle.ebs_model.specs.Rows.{policy_count}
use Rattle.ebs_catalog.specs.Held.{Held, rows_in}
use Rattle.ebs_catalog.proofs.catalog.Catalog.policies_of.Goals as goal

pub returns : goal.returns
returns c = c.count.ensures ∙ ap (λ (h : Held). policy_count (rows_in h) c.args.account) c.self.view_is
