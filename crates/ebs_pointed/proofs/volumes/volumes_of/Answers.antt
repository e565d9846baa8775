use Rattle.std.proofs.Common.{sym, ◌∙◌}
use Rattle.ebs_model.specs.declared.rows.VolRow.{VolRow}
use Rattle.ebs_model.specs.inner.Orders.{vols_total}
use Rattle.ebs_catalog.specs.Held.{rows_in}
use Rattle.ebs_pointed.proofs.Keys.{have_keys}
use Rattle.ebs_pointed.proofs.volumes.volumes_of.Goals as goal

pub points_of-requires : goal.points_of-requires
points_of-requires c = have_keys vols_total (λ (row : VolRow). row.key) (rows_in c.args.catalog.now).vols c.volumes.result c.volumes.ensures c.requires

pub returns-clause-listed : goal.returns-clause-listed
returns-clause-listed c = sym c.volumes.ensures ∙ c.in_ok-points.ensures.listed
