use Rattle.ebs_holds.specs.Holds.{nodes_in}
use Rattle.lineages.proofs.played.Played.drop_array.Goals as goal

pub invariant_of-self : goal.invariant_of-self
invariant_of-self c = c.blocks_stay.ensures.counted (nodes_in c.self.inside.holdings) (nodes_in c.drop_array.new.self) c.self.inside.slots c.drop_array.ensures.blocks c.self.invariant
