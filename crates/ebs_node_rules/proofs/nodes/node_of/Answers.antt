use Rattle.std.proofs.Common.{Some, Ok, Err, sym, ap, ◌∙◌, rules}
use Rattle.std.proofs.lemmas.List.Sorted.{answers_always}
use Rattle.ebs_checkpoints.specs.declared.nodes.NodeRow.{NodeRow}
use Rattle.ebs_node_rules.specs.Nodes.{node_of}
use Rattle.ebs_node_rules.proofs.Found.{searched}
use Rattle.ebs_node_rules.proofs.nodes.node_of.Goals as goal

pub returns-in-Ok : goal.returns-in-Ok
returns-in-Ok c =
    let by_number = c.in-Ok.ensures.position (λ (node : NodeRow). node.number) (answers_always _ _ _ (λ f a r g called. search rules)) in
    ap Some c.index-nodes-at.is
    ∙ sym (searched (λ (node : NodeRow). node.number) c.args.nodes.now c.requires c.in_ok-number.field-0 (Ok c.in-Ok.at) c.in-Ok.ensures.bound by_number c.index-nodes-at.result)
    ∙ ap (node_of c.args.nodes.now) (sym c.in_ok-number.was)

pub returns-in-Err : goal.returns-in-Err
returns-in-Err c =
    let by_number = c.in-Err.ensures.position (λ (node : NodeRow). node.number) (answers_always _ _ _ (λ f a r g called. search rules)) in
    sym (searched (λ (node : NodeRow). node.number) c.args.nodes.now c.requires c.in_ok-number.field-0 (Err c.in-Err.field-0) c.in-Err.ensures.bound by_number)
    ∙ ap (node_of c.args.nodes.now) (sym c.in_ok-number.was)
