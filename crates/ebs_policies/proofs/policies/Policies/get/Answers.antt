use Rattle.std.proofs.Common.{ap, ◌∙◌}
use Rattle.std.specs.FinMap.{get}
use Rattle.ebs_tables.specs.Full.{full}
use Rattle.ebs_policies.specs.Table.{Places}
use Rattle.ebs_policies.proofs.policies.Policies.get.Goals as goal

pub returns-clause-sound : goal.returns-clause-sound
returns-clause-sound c = λ p e. c.self.invariant.each c.args.key.now p (ap (λ (h : Places). get (full h) c.args.key.now) c.self.view_is ∙ e)
