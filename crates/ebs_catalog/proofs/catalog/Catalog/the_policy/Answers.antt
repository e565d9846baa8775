use Rattle.std.proofs.Common.{sym, ◌∙◌}
use Rattle.ebs_catalog.proofs.catalog.Catalog.the_policy.Goals as goal

pub returns-clause-sound : goal.returns-clause-sound
returns-clause-sound c = λ p e. c.policy_at.ensures.sound p (sym c.policy_at.ensures.value ∙ e)
