use Rattle.ebs_node_rules.proofs.Tops.{within_then, within_else}
use Rattle.ebs_node_rules.proofs.arrays.is_within.Goals as goal

pub returns-then-top_in-blocks : goal.returns-then-top_in-blocks
returns-then-top_in-blocks c = λ rows are. within_then c.args.tops.now rows are c.args.snapshot.now c.as_slice.result.now c.top_in.result c.blocks_of-blocks.result c.top_in.ensures c.blocks_of-blocks.ensures c.as_slice.ensures c.are_below.result c.if-top_in-blocks.true c.are_below.ensures

pub returns-else-top_in-blocks : goal.returns-else-top_in-blocks
returns-else-top_in-blocks c = λ rows are. within_else c.args.tops.now rows are c.args.snapshot.now c.args.snapshot.now.copies c.top_in.result c.blocks_of-blocks.result c.top_in.ensures c.blocks_of-blocks.ensures (λ i. c.args.snapshot.now.copies) c.if-top_in-blocks.false
