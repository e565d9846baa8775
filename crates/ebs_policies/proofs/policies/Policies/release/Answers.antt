use Rattle.std.proofs.Common.{◌≡◌, sym, subst}
use Rattle.std.specs.FinMap.{contains_key}
use Rattle.ebs_tables.specs.Full.{full, slots_of}
use Rattle.ebs_model.specs.Keys.{policy_cmp}
use Rattle.ebs_policies.specs.Table.{Places}
use Rattle.ebs_policies.proofs.Places.{released-free}
use Rattle.ebs_policies.proofs.policies.Policies.release.Goals as goal

pub returns-clause-free : goal.returns-clause-free
returns-clause-free c =
    let key = c.args.key.now in
    subst (λ (m : Places). contains_key m key ≡ contains_key (full m) key) (sym c.release.ensures.slots) (released-free (slots_of policy_cmp c.self.inside.slots) key)
