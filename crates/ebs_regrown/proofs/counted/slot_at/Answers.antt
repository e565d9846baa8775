use Rattle.std.proofs.Common.{Ok, Err, sym, ap, rules}
use Rattle.std.proofs.lemmas.List.Sorted.{answers_always}
use Rattle.std.specs.Option.{option_map}
use Rattle.ebs_checkpoints.specs.declared.nodes.SlotRow.{SlotRow}
use Rattle.ebs_node_rules.proofs.Found.{searched}
use Rattle.ebs_regrown.proofs.counted.slot_at.Goals as goal

pub returns-in-Ok : goal.returns-in-Ok
returns-in-Ok c =
    let by_key = c.in-Ok.ensures.position (λ (row : SlotRow). row.key) (answers_always _ _ _ (λ f a r g called. search rules)) in
    sym (ap (option_map (λ (row : SlotRow). row.slot)) (searched (λ (row : SlotRow). row.key) c.args.standard.now c.requires c.args.stamp (Ok c.in-Ok.at) c.in-Ok.ensures.bound by_key _))

pub returns-in-Err : goal.returns-in-Err
returns-in-Err c =
    let by_key = c.in-Err.ensures.position (λ (row : SlotRow). row.key) (answers_always _ _ _ (λ f a r g called. search rules)) in
    sym (ap (option_map (λ (row : SlotRow). row.slot)) (searched (λ (row : SlotRow). row.key) c.args.standard.now c.requires c.args.stamp (Err c.in-Err.field-0) c.in-Err.ensures.bound by_key))
