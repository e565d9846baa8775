use Rattle.std.proofs.Common.{refl, sym, ap, subst}
use Rattle.ebs_kept.specs.inner.Shown.{Form, IsSound}
use Rattle.ebs_kept.proofs.Making as making
use Rattle.ebs_kept.proofs.Slotted.{all-shown, stamp-block}
use Rattle.ebs_kept.proofs.kept.Kept.collect.Goals as goal

pub collect-requires : goal.collect-requires
collect-requires c = rw (← c.self.view_is) at c.requires

pub invariant_of-self : goal.invariant_of-self
invariant_of-self c =
    let k = c.self.inside in
    let is = ap (λ (f : Form). f.machine) c.self.view_is in
    let new = record k { holdings = c.collect.new.self } in
    (subst IsSound (sym (making.unchanged k c.args.self.now.machine is new refl refl c.collect.ensures.arrays refl)) (subst IsSound is c.self.invariant.0), (c.self.invariant.1.0, λ set. all-shown k.clock.second k new refl c.collect.ensures.arrays (c.self.invariant.1.1 set)))

pub returns-clause-machine : goal.returns-clause-machine
returns-clause-machine c =
    let k = c.self.inside in
    let new = record k { holdings = c.collect.new.self } in
    making.unchanged k c.args.self.now.machine (ap (λ (f : Form). f.machine) c.self.view_is) new refl refl c.collect.ensures.arrays refl

pub returns-clause-shown : goal.returns-clause-shown
returns-clause-shown c = λ before.
    let k = c.self.inside in
    let all = rw (← c.self.view_is) at before in
    all-shown k.clock.second k (record k { holdings = c.collect.new.self }) refl c.collect.ensures.arrays all

pub returns-clause-shared : goal.returns-clause-shared
returns-clause-shared c = λ none all stamp has.
    let held = c.collect.ensures.shared none stamp has in
    stamp-block (record c.self.inside { holdings = c.collect.new.self }) all stamp held.0 held.1
