use Rattle.std.proofs.Common.{◌∙◌, refl, sym, ap, subst}
use Rattle.std.specs.Prelude.{IsSome}
use Rattle.std.specs.FinMap.{get}
use Rattle.ebs_slots.specs.inner.Slots.{SlotTable}
use Rattle.ebs_collect.specs.Slices.{IsCounted}
use Rattle.ebs_holds.specs.Counted.{replaced_by}
use Rattle.ebs_holds.specs.Holds.{nodes_in}
use Rattle.lineages.proofs.Placed.{put_counted, still_there, without_none, without_old}
use Rattle.lineages.proofs.played.Played.put.Goals as goal

pub release-requires : goal.release-requires
release-requires c =
    let s = c.self.inside.slots in
    subst (λ (u : SlotTable). IsSome (get u.keys c.in-Some.old)) (sym c.in_ok-place.ensures.ok)
    (still_there s c.self.inside.stamps c.self.inside.stamps c.in-Some.old (c.if-not-can_place.ensures.new refl) (c.in-Some.ensures.there s c.self.invariant))

pub invariant_of-self-in-Some : goal.invariant_of-self-in-Some
invariant_of-self-in-Some c =
    let s = c.self.inside.slots in
    let stamp = c.self.inside.stamps in
    let new = nodes_in c.put.new.self in
    let here = c.reserve_put.ensures.replaced c.args.holder.now c.args.index ∙ sym (c.replaced-replaced.ensures.value ∙ ap (replaced_by c.self.inside.holdings c.args.holder.now) c.from.ensures) in
    let counted = put_counted (nodes_in c.self.inside.holdings) (nodes_in c.reserve_put.new.self) new s stamp stamp c.numbered.result.stamp c.replaced-replaced.result _
    c.blocks_stay.ensures.counted c.reserve_put.ensures.blocks c.put.ensures.counted c.numbered.ensures here c.self.invariant (c.if-not-can_place.ensures.new refl) in
    without_old new s c.place.new.self c.release.new.self stamp stamp c.in-Some.old c.replaced-replaced.result counted c.in-Some.is c.in_ok-place.ensures.ok c.release.ensures

pub invariant_of-self-in_default : goal.invariant_of-self-in_default
invariant_of-self-in_default c =
    let s = c.self.inside.slots in
    let stamp = c.self.inside.stamps in
    let new = nodes_in c.put.new.self in
    let here = c.reserve_put.ensures.replaced c.args.holder.now c.args.index ∙ sym (c.replaced-replaced.ensures.value ∙ ap (replaced_by c.self.inside.holdings c.args.holder.now) c.from.ensures) in
    let counted = put_counted (nodes_in c.self.inside.holdings) (nodes_in c.reserve_put.new.self) new s stamp stamp c.numbered.result.stamp c.replaced-replaced.result _
    c.blocks_stay.ensures.counted c.reserve_put.ensures.blocks c.put.ensures.counted c.numbered.ensures here c.self.invariant (c.if-not-can_place.ensures.new refl) in
    without_none new s c.place.new.self stamp stamp c.replaced-replaced.result counted c.in_default.is c.in_ok-place.ensures.ok

pub invariant_of-self : goal.invariant_of-self
invariant_of-self c = c.blocks_stay.ensures.counted (nodes_in c.self.inside.holdings) (nodes_in c.reserve_put.new.self) c.self.inside.slots c.reserve_put.ensures.blocks c.self.invariant

pub invariant_of-self-then-not-can_place : goal.invariant_of-self-then-not-can_place
invariant_of-self-then-not-can_place c = c.blocks_stay.ensures.counted (nodes_in c.self.inside.holdings) (nodes_in c.reserve_put.new.self) c.self.inside.slots c.reserve_put.ensures.blocks c.self.invariant

pub invariant_of-self-in_err-place : goal.invariant_of-self-in_err-place
invariant_of-self-in_err-place c =
    subst (λ (s : SlotTable). IsCounted s (nodes_in c.reserve_put.new.self)) (sym c.in_err-place.ensures.err)
    (c.blocks_stay.ensures.counted (nodes_in c.self.inside.holdings) (nodes_in c.reserve_put.new.self) c.self.inside.slots c.reserve_put.ensures.blocks c.self.invariant)
