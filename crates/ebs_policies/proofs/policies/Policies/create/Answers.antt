use Rattle.std.proofs.Common.{sym, ap, subst, ◌∙◌}
use Rattle.std.specs.FinMap.{insert}
use Rattle.ebs_tables.specs.Full.{full, held}
use Rattle.ebs_model.specs.Keys.{policy_cmp}
use Rattle.ebs_policies.specs.Table.{Places, AreSound}
use Rattle.ebs_policies.proofs.Places.{sound-insert}
use Rattle.ebs_policies.proofs.policies.Policies.create.Goals as goal

pub invariant_of-self : goal.invariant_of-self
invariant_of-self c = subst AreSound (sym c.fill.ensures.held) (sound-insert (held policy_cmp c.self.inside.slots) c.args.policy.key c.args.policy c.self.invariant c.requires.sound)

pub returns : goal.returns
returns c = c.fill.ensures.held ∙ ap (λ (h : Places). insert (full h) c.args.policy.key c.args.policy) c.self.view_is
