use Rattle.std.proofs.Common.{refl, sym, ap, subst}
use Rattle.ebs_kept.specs.inner.Shown.{Form, IsSound}
use Rattle.ebs_kept.proofs.Making as making
use Rattle.ebs_kept.proofs.Slotted.{all-shown}
use Rattle.ebs_kept.proofs.kept.Kept.ready_nodes.Goals as goal

pub invariant_of-self : goal.invariant_of-self
invariant_of-self c =
    let k = c.self.inside in
    let is = ap (λ (f : Form). f.machine) c.self.view_is in
    let new = record k { holdings = c.ready_rows.new.holdings } in
    let arrays = c.ready_rows.ensures.keeps.arrays in
    (subst IsSound (sym (making.unchanged k c.args.self.now.machine is new refl refl arrays refl)) (subst IsSound is c.self.invariant.0), (c.self.invariant.1.0, λ set. all-shown k.clock.second k new refl arrays (c.self.invariant.1.1 set)))

pub returns-clause-machine : goal.returns-clause-machine
returns-clause-machine c =
    let k = c.self.inside in
    let new = record k { holdings = c.ready_rows.new.holdings } in
    making.unchanged k c.args.self.now.machine (ap (λ (f : Form). f.machine) c.self.view_is) new refl refl c.ready_rows.ensures.keeps.arrays refl

pub returns-clause-blocks : goal.returns-clause-blocks
returns-clause-blocks c = rw (← c.self.view_is) c.ready_rows.ensures.keeps.blocks

pub returns-clause-queue : goal.returns-clause-queue
returns-clause-queue c = rw (← c.self.view_is) c.ready_rows.ensures.keeps.queue
