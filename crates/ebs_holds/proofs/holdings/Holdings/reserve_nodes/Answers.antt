use Rattle.ebs_holds.proofs.Backed.{maybe_roomy}
use Rattle.ebs_holds.proofs.holdings.Holdings.reserve_nodes.Goals as goal

pub invariant_of-self : goal.invariant_of-self
invariant_of-self c = maybe_roomy c.reserve_nodes.result c.self.inside.backlog c.self.inside.lineage c.reserve_nodes.new.self _ c.args.count c.reserve_nodes.ensures.ok c.reserve_nodes.ensures.err c.self.invariant
