use Rattle.std.proofs.Common.{◌||◌, is_some, sym, ap, ◌∙◌}
use Rattle.std.specs.FinMap.{contains_key}
use Rattle.ebs_node_rules.specs.Arrays.{array_in, arrays_of, is_copied}
use Rattle.ebs_node_rules.proofs.Moved.{in_row}
use Rattle.ebs_node_rules.proofs.arrays.is_in.Goals as goal

pub returns-then-is_copied : goal.returns-then-is_copied
returns-then-is_copied c =
    let copied = c.is_copied.ensures ∙ ap (λ copies. is_copied copies c.args.index) c.as_slice.ensures in
    c.if-is_copied.true
    ∙ ap (λ b. b || contains_key (array_in (arrays_of c.args.nodes.now) c.args.snapshot.now.node) c.args.index) (sym c.if-is_copied.true ∙ copied)
    ∙ sym (in_row (arrays_of c.args.nodes.now) c.args.snapshot.now c.args.index)

pub returns-else-is_copied : goal.returns-else-is_copied
returns-else-is_copied c =
    let copied = c.is_copied.ensures ∙ ap (λ copies. is_copied copies c.args.index) c.as_slice.ensures in
    c.is_some.ensures ∙ ap is_some c.block_at.ensures
    ∙ ap (λ b. b || contains_key (array_in (arrays_of c.args.nodes.now) c.args.snapshot.now.node) c.args.index) (sym c.if-is_copied.false ∙ copied)
    ∙ sym (in_row (arrays_of c.args.nodes.now) c.args.snapshot.now c.args.index)
