use Rattle.std.proofs.Common.{IsSome, None, refl, sym, ap, subst, ◌∙◌}
use Rattle.std.specs.FinMap as map
use Rattle.ebs_lineage.specs.Lines.{Lines}
use Rattle.ebs_lineage.proofs.Sound.{place-sound, none-shown}
use Rattle.ebs_lineage.proofs.lineage.Lineage.clear_place.Goals as goal

pub invariant_of-self : goal.invariant_of-self
invariant_of-self c =
    let n = c.args.node.number in
    let there = subst (λ (l : Lines). IsSome (map.get l.table.nodes n)) (sym c.self.view_is) c.requires in
    place-sound c.self.inside c.self.invariant c.set_place.new.self n None c.set_place.ensures.links c.set_place.ensures.spare there

pub returns : goal.returns
returns c =
    let n = c.args.node.number in
    let there = subst (λ (l : Lines). IsSome (map.get l.table.nodes n)) (sym c.self.view_is) c.requires in
    none-shown c.self.inside c.self.invariant c.set_place.new.self n None c.set_place.ensures.links c.set_place.ensures.spare there refl
    ∙ ap (λ (l : Lines). record l { places = map.remove l.places n }) c.self.view_is
