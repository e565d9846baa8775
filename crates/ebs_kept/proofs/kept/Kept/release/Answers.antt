use Rattle.std.proofs.Common.{◌≤◌, sym, ap, subst, refl}
use Rattle.ebs_kept.specs.inner.Shown.{Form, IsSound}
use Rattle.ebs_kept.proofs.Making as making
use Rattle.ebs_kept.proofs.Slotted.{all-shown}
use Rattle.ebs_kept.proofs.kept.Kept.release.Goals as goal

pub invariant_of-self : goal.invariant_of-self
invariant_of-self c =
    let k = c.self.inside in
    let is = ap (λ (f : Form). f.machine) c.self.view_is in
    let new = record k { catalog = c.release.new.self; holdings = c.give_back.new.holdings } in
    let before = making.unchanged k c.args.self.now.machine is new refl c.release.ensures.rows c.give_back.ensures.arrays refl in
    (subst IsSound (sym before) (subst IsSound is c.self.invariant.0), (subst (λ n. n ≤ k.clock.second) (sym c.release.ensures.latest) c.self.invariant.1.0, λ set. all-shown k.clock.second k new c.release.ensures.rows c.give_back.ensures.arrays (c.self.invariant.1.1 set)))

pub returns-clause-machine : goal.returns-clause-machine
returns-clause-machine c =
    let k = c.self.inside in
    let new = record k { catalog = c.release.new.self; holdings = c.give_back.new.holdings } in
    making.unchanged k c.args.self.now.machine (ap (λ (f : Form). f.machine) c.self.view_is) new refl c.release.ensures.rows c.give_back.ensures.arrays refl
