use Rattle.std.proofs.Common.{sym, ◌∙◌}
use Rattle.ebs_model.specs.declared.policy.Policy.{Policy}
use Rattle.ebs_model.specs.inner.Orders.{policies_total}
use Rattle.ebs_catalog.specs.Held.{rows_in}
use Rattle.ebs_pointed.proofs.Keys.{have_keys}
use Rattle.ebs_pointed.proofs.policies.policies_of.Goals as goal

pub rows_of-requires : goal.rows_of-requires
rows_of-requires c = have_keys policies_total (λ (policy : Policy). policy.key) (rows_in c.args.catalog.now).policies c.whole_policies.result c.whole_policies.ensures c.requires

pub returns-clause-listed : goal.returns-clause-listed
returns-clause-listed c = sym c.whole_policies.ensures ∙ c.in_ok-rows.ensures.listed
