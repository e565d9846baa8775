use Rattle.std.proofs.Common.{ap, ◌∙◌}
use Rattle.std.specs.FinMap.{get}
use Rattle.ebs_tables.specs.Full.{full}
use Rattle.ebs_catalog.specs.Held.{Held}
use Rattle.ebs_catalog.proofs.catalog.Catalog.policy_at.Goals as goal

pub returns-clause-sound : goal.returns-clause-sound
returns-clause-sound c = λ p e. c.get.ensures.sound p (ap (λ (h : Held). get (full h.policies) c.args.key.now) c.self.view_is ∙ e)
