use Rattle.std.proofs.Common.{ap, ◌∙◌}
use Rattle.std.specs.FinMap.{get}
use Rattle.ebs_tables.specs.Full.{full}
use Rattle.ebs_catalog.specs.Held.{Held}
use Rattle.ebs_catalog.proofs.catalog.Catalog.volume_at.Goals as goal

pub returns-clause-sound : goal.returns-clause-sound
returns-clause-sound c = λ row e. c.self.invariant.1.1.1.0.each c.args.key.now row (ap (λ (h : Held). get (full h.vols) c.args.key.now) c.self.view_is ∙ e)
