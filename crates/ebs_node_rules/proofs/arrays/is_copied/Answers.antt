use Rattle.std.proofs.Common.{◌∙◌, rules}
use Rattle.std.proofs.lemmas.List.Sorted.{answers_always}
use Rattle.ebs_checkpoints.specs.declared.nodes.CopyRow.{CopyRow}
use Rattle.ebs_node_rules.proofs.Found.{searched_any}
use Rattle.ebs_node_rules.proofs.arrays.is_copied.Goals as goal

pub returns : goal.returns
returns c =
    let by_index = c.binary_search_by_key.ensures.position (λ (copy : CopyRow). copy.index) (answers_always _ _ _ (λ f a r g called. search rules)) in
    c.is_ok.ensures.value ∙ searched_any (λ (copy : CopyRow). copy.index) c.args.copies.now c.requires c.args.index c.binary_search_by_key.result c.binary_search_by_key.ensures.bound by_index
