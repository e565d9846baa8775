use Rattle.std.proofs.Common.{◌≡◌, true, Some, sym, ap, ◌∙◌}
use Rattle.std.specs.Option.{option_map}
use Rattle.std.specs.FinMap as map
use Rattle.ebs_lineage.specs.declared.node_id.NodeId.{NodeId}
use Rattle.ebs_lineage.specs.Lines.{parent_of}
use Rattle.ebs_node_rows.proofs.Marking.{marks_one, some_same}
use Rattle.ebs_node_rows.proofs.marks.mark_parent.Goals as goal

pub returns-in_ok-insert : goal.returns-in_ok-insert
returns-in_ok-insert c =
    let nodes = c.args.lineage.now.table.nodes in
    let above : parent_of nodes c.args.node.number ≡ Some c.in-Some.parent.number = sym c.parent.ensures ∙ ap (option_map (λ (n : NodeId). n.number)) c.in-Some.is in
    let marked : map.contains_key c.args.wanted.now c.args.node.number ≡ true = sym c.contains.ensures ∙ c.if-not-contains.false in
    marks_one (λ q. (map.contains_key c.args.wanted.now c.args.node.number ≡ true) × (parent_of nodes c.args.node.number ≡ Some q)) c.args.wanted.now c.insert.new.self c.in-Some.parent.number c.in_ok-insert.ensures.ok
    (marked, above) (λ q h. some_same q c.in-Some.parent.number (sym h.1 ∙ above))
