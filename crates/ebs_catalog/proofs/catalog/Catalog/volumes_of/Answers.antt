use Rattle.std.proofs.Common.{ap, ◌∙◌}
use Rattle.ebs_model.specs.Rows.{volume_count}
use Rattle.ebs_catalog.specs.Held.{Held, rows_in}
use Rattle.ebs_catalog.specs.Sound.{volumes_at}
use Rattle.ebs_catalog.proofs.catalog.Catalog.volumes_of.Goals as goal

pub returns-in-Some-clause-value : goal.returns-in-Some-clause-value
returns-in-Some-clause-value c = ap volumes_at c.in-Some.ensures ∙ c.self.invariant.1.1.0.each c.args.account ∙ ap (λ (h : Held). volume_count (rows_in h) c.args.account) c.self.view_is

pub returns-in-None-clause-value : goal.returns-in-None-clause-value
returns-in-None-clause-value c = ap volumes_at c.in-None.ensures ∙ c.self.invariant.1.1.0.each c.args.account ∙ ap (λ (h : Held). volume_count (rows_in h) c.args.account) c.self.view_is
