use Rattle.std.proofs.Common.{refl, subst}
use Rattle.ebs_lineage.specs.Lines.{Lines, IsHeld}
use Rattle.ebs_lineage.proofs.Sound.{taken-sound, owners_stay, taken_shown, stays_shown}
use Rattle.ebs_lineage.proofs.lineage.Lineage.take_dead.Goals as goal

pub take_dead-requires-clause-lines : goal.take_dead-requires-clause-lines
take_dead-requires-clause-lines c = c.self.invariant.lines

pub take_dead-requires-clause-kin : goal.take_dead-requires-clause-kin
take_dead-requires-clause-kin c = c.self.invariant.linked.kin

pub take_dead-requires-clause-ways : goal.take_dead-requires-clause-ways
take_dead-requires-clause-ways c = c.self.invariant.ways

pub take_dead-requires-clause-known : goal.take_dead-requires-clause-known
take_dead-requires-clause-known c = c.self.invariant.known

pub take_dead-requires-clause-free : goal.take_dead-requires-clause-free
take_dead-requires-clause-free c = λ held. c.requires (subst (λ (l : Lines). IsHeld l.table.nodes c.args.node.number) c.self.view_is held)

pub invariant_of-self : goal.invariant_of-self
invariant_of-self c =
    let a = c.self.inside in
    let e = c.take_dead.ensures in
    taken-sound a.nodes c.take_dead.new.nodes c.args.node.number c.args.index a refl c.take_dead.result e.taken e.stays c.take_dead.new.kin e.noted c.take_dead.new.hiders c.self.invariant e.ways e.known e.spare

pub returns-clause-arrays : goal.returns-clause-arrays
returns-clause-arrays c = rw (← c.self.view_is) c.take_dead.ensures.arrays

pub returns-clause-owners : goal.returns-clause-owners
returns-clause-owners c =
    let e = c.take_dead.ensures in
    rw (← c.self.view_is) (λ h i held. owners_stay c.self.inside.nodes c.take_dead.new.nodes c.args.node.number c.args.index c.take_dead.result e.taken e.stays e.dead h i held)

pub returns-clause-taken : goal.returns-clause-taken
returns-clause-taken c =
    let a = c.self.inside in
    let e = c.take_dead.ensures in
    rw (← c.self.view_is) (taken_shown a.nodes c.take_dead.new.nodes c.args.node.number c.args.index a refl c.take_dead.result e.taken e.stays c.take_dead.new.kin e.noted c.take_dead.new.hiders)

pub returns-clause-stays : goal.returns-clause-stays
returns-clause-stays c =
    let a = c.self.inside in
    let e = c.take_dead.ensures in
    rw (← c.self.view_is) (stays_shown a.nodes c.take_dead.new.nodes c.args.node.number c.args.index a refl c.take_dead.result e.taken e.stays c.take_dead.new.kin e.noted c.take_dead.new.hiders)
