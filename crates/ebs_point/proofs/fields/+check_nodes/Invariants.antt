use Rattle.std.proofs.Common.{length}
use Rattle.ebs_point.proofs.fields.+check_nodes.Given as goal

abbrev pub decreases-check_nodes : goal.decreases-check_nodes
decreases-check_nodes l = length l.nodes.now
