use Rattle.std.proofs.Common.{ap, ◌∙◌}
use Rattle.ebs_node_rules.specs.Arrays.{all_keys, is_copied, array_in, arrays_of}
use Rattle.ebs_node_rules.proofs.Moved.{keeps, gives}
use Rattle.ebs_node_rules.proofs.arrays.gives_up.Goals as goal

pub returns-then-may_keep : goal.returns-then-may_keep
returns-then-may_keep c = keeps (arrays_of c.args.nodes.now) c.args.snapshot.now c.may_keep.result c.may_keep.ensures c.if-may_keep.true

pub returns-else-may_keep : goal.returns-else-may_keep
returns-else-may_keep c =
    gives (arrays_of c.args.nodes.now) c.args.snapshot.now c.may_keep.result c.may_keep.ensures c.if-may_keep.false c.are_copied.result
    (c.are_copied.ensures ∙ ap (λ copies. all_keys (is_copied copies) (array_in (arrays_of c.args.nodes.now) c.args.snapshot.now.node)) c.as_slice.ensures)
