use Rattle.ebs_holds.specs.Holds.{nodes_in}
use Rattle.lineages.proofs.played.Played.begin.Goals as goal

pub invariant_of-self : goal.invariant_of-self
invariant_of-self c = c.blocks_stay.ensures.counted (nodes_in c.self.inside.holdings) (nodes_in c.prepare.new.self) c.self.inside.slots c.prepare.ensures.blocks c.self.invariant

pub invariant_of-self-in_err-reserve_nodes : goal.invariant_of-self-in_err-reserve_nodes
invariant_of-self-in_err-reserve_nodes c =
    let ready = c.blocks_stay.ensures.counted (nodes_in c.self.inside.holdings) (nodes_in c.prepare.new.self) c.self.inside.slots c.prepare.ensures.blocks c.self.invariant in
    c.blocks_stay.ensures.counted (nodes_in c.prepare.new.self) (nodes_in c.reserve_nodes.new.self) c.self.inside.slots c.reserve_nodes.ensures.blocks ready

pub invariant_of-self-2 : goal.invariant_of-self-2
invariant_of-self-2 c =
    let ready = c.blocks_stay.ensures.counted (nodes_in c.self.inside.holdings) (nodes_in c.prepare.new.self) c.self.inside.slots c.prepare.ensures.blocks c.self.invariant in
    let roomy = c.blocks_stay.ensures.counted (nodes_in c.prepare.new.self) (nodes_in c.reserve_nodes.new.self) c.self.inside.slots c.reserve_nodes.ensures.blocks ready in
    c.blocks_stay.ensures.counted (nodes_in c.reserve_nodes.new.self) (nodes_in c.begin.new.self) c.self.inside.slots c.begin.ensures.blocks roomy
