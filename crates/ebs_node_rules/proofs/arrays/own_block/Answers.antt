use Rattle.std.proofs.Common.{Ok, Err, sym, ap, rules}
use Rattle.std.proofs.lemmas.List.Sorted.{answers_always}
use Rattle.std.specs.Option.{option_map}
use Rattle.ebs_checkpoints.specs.declared.nodes.EntryRow.{EntryRow}
use Rattle.ebs_node_rules.proofs.Found.{searched}
use Rattle.ebs_node_rules.proofs.arrays.own_block.Goals as goal

pub returns-in-Ok : goal.returns-in-Ok
returns-in-Ok c =
    let by_index = c.in-Ok.ensures.position (λ (entry : EntryRow). entry.index) (answers_always _ _ _ (λ f a r g called. search rules)) in
    sym (ap (option_map (λ (entry : EntryRow). entry.block)) (searched (λ (entry : EntryRow). entry.index) c.args.entries.now c.requires c.args.index (Ok c.in-Ok.at) c.in-Ok.ensures.bound by_index _))

pub returns-in-Err : goal.returns-in-Err
returns-in-Err c =
    let by_index = c.in-Err.ensures.position (λ (entry : EntryRow). entry.index) (answers_always _ _ _ (λ f a r g called. search rules)) in
    sym (ap (option_map (λ (entry : EntryRow). entry.block)) (searched (λ (entry : EntryRow). entry.index) c.args.entries.now c.requires c.args.index (Err c.in-Err.field-0) c.in-Err.ensures.bound by_index))
