use Rattle.ebs_holds.specs.Holds.{nodes_in}
use Rattle.lineages.proofs.played.Played.seal.Goals as goal

pub invariant_of-self : goal.invariant_of-self
invariant_of-self c = c.blocks_stay.ensures.counted (nodes_in c.self.inside.holdings) (nodes_in c.seal.new.self) c.self.inside.slots c.seal.ensures.blocks c.self.invariant
