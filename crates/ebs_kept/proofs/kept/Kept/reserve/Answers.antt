use Rattle.std.proofs.Common.{◌≡◌, ◌≤◌, Result, Ok, Err, OnOk, IfOk, sym, ap, subst, refl}
use Rattle.ebs_model.specs.declared.change.Change.{Change}
use Rattle.ebs_holds.specs.Changes.{HasRoom}
use Rattle.ebs_catalog.specs.Rooms.{IsReady}
use Rattle.ebs_kept.specs.declared.kept.Reserved.{Reserved}
use Rattle.ebs_kept.specs.inner.Shown.{Form, form, IsSound}
use Rattle.ebs_kept.specs.inner.Room.{IsReserved}
use Rattle.ebs_kept.proofs.Making as making
use Rattle.ebs_kept.proofs.Slotted.{all-shown}
use Rattle.ebs_kept.proofs.kept.Kept.reserve.Goals as goal

gathered : {E : Type 0} (r : Result Reserved E) (f : Form) (change : Change) → IfOk r (λ x. IsReady f.catalog change x.room) → OnOk r (HasRoom f.holding change.made change.request) → IfOk r (λ x. x.ended ≡ change.ended)
    → IfOk r (λ x. IsReserved f change x)
gathered (Ok x) f change ready arrays ended = record { rows = ready; arrays = arrays; ended = ended }
gathered (Err e) f change ready arrays ended = tt

pub invariant_of-self : goal.invariant_of-self
invariant_of-self c =
    let k = c.self.inside in
    let is = ap (λ (f : Form). f.machine) c.self.view_is in
    let new = record k { catalog = c.reserve_all.new.catalog; holdings = c.reserve_all.new.holdings } in
    let before = making.unchanged k c.args.self.now.machine is new refl c.reserve_all.ensures.rows c.reserve_all.ensures.arrays refl in
    (subst IsSound (sym before) (subst IsSound is c.self.invariant.0), (subst (λ n. n ≤ k.clock.second) (sym c.reserve_all.ensures.latest) c.self.invariant.1.0, λ set. all-shown k.clock.second k new c.reserve_all.ensures.rows c.reserve_all.ensures.arrays (c.self.invariant.1.1 set)))

pub returns-clause-machine : goal.returns-clause-machine
returns-clause-machine c =
    let k = c.self.inside in
    let new = record k { catalog = c.reserve_all.new.catalog; holdings = c.reserve_all.new.holdings } in
    making.unchanged k c.args.self.now.machine (ap (λ (f : Form). f.machine) c.self.view_is) new refl c.reserve_all.ensures.rows c.reserve_all.ensures.arrays refl

pub returns-clause-reserved : goal.returns-clause-reserved
returns-clause-reserved c =
    let new = record c.self.inside { catalog = c.reserve_all.new.catalog; holdings = c.reserve_all.new.holdings } in
    gathered c.reserve_all.result (form new) c.args.change.now c.reserve_all.ensures.ready c.reserve_all.ensures.room c.reserve_all.ensures.ended
