use Rattle.std.proofs.Common.{sym, ap, subst, ◌∙◌}
use Rattle.std.specs.FinMap.{remove}
use Rattle.ebs_tables.specs.Full.{full, held}
use Rattle.ebs_model.specs.Keys.{policy_cmp}
use Rattle.ebs_policies.specs.Table.{Places, AreSound}
use Rattle.ebs_policies.proofs.Places.{sound-remove}
use Rattle.ebs_policies.proofs.policies.Policies.delete.Goals as goal

pub invariant_of-self : goal.invariant_of-self
invariant_of-self c = subst AreSound (sym c.remove-gone.ensures.held) (sound-remove (held policy_cmp c.self.inside.slots) c.args.key.now c.self.invariant)

pub returns : goal.returns
returns c = c.remove-gone.ensures.held ∙ ap (λ (h : Places). remove (full h) c.args.key.now) c.self.view_is
