use Rattle.std.proofs.Common.{eqb, length, ap, ◌∙◌}
use Rattle.std.specs.FinMap.{len}
use Rattle.ebs_node_rules.proofs.Marks.{as_many}
use Rattle.ebs_node_rules.proofs.nodes.are_distinct.Goals as goal

pub returns : goal.returns
returns c = ap (λ n. eqb n (length c.args.numbers.now)) (c.len.ensures.len ∙ ap len c.requires) ∙ as_many c.args.numbers.now
