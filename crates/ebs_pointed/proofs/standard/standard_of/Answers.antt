use Rattle.std.proofs.Common.{◌≤◌, ◌^◌, subst, sym, ap, ◌∙◌}
use Rattle.std.specs.FinMap.{contains_key}
use Rattle.ebs_slots.specs.Slots.{start_of}
use Rattle.ebs_row_rules.specs.Slots.{entry_blocks, keys, stamps}
use Rattle.ebs_node_rules.specs.inner.Lookups.{set_of}
use Rattle.ebs_node_rules.proofs.Marks.{marks}
use Rattle.ebs_pointed.proofs.Slotted.{all_apart, all_fit, keys_rise, rows_ascend, same_keys}
use Rattle.ebs_pointed.proofs.standard.standard_of.Goals as goal

pub slots_of-requires : goal.slots_of-requires
slots_of-requires c =
    let numbers = stamps (entry_blocks c.args.nodes.now) in
    λ stamp there. c.requires.stored stamp (sym (ap (λ s. contains_key s stamp) (c.in_ok-found.ensures ∙ ap set_of (c.as_slice.ensures.value ∙ c.in_ok-numbers.ensures)) ∙ marks numbers stamp) ∙ there)

pub returns-clause-stored : goal.returns-clause-stored
returns-clause-stored c =
    let numbers = stamps (entry_blocks c.args.nodes.now) in
    same_keys numbers (keys c.in_ok-rows.rows) c.in_ok-found.found (λ n. ap (λ s. contains_key s n) (c.in_ok-found.ensures ∙ ap set_of (c.as_slice.ensures.value ∙ c.in_ok-numbers.ensures)) ∙ marks numbers n) c.in_ok-rows.ensures.keys

pub returns-clause-ascend : goal.returns-clause-ascend
returns-clause-ascend c = rows_ascend c.in_ok-rows.rows c.in_ok-found.found c.in_ok-rows.ensures.keys

pub returns-clause-places : goal.returns-clause-places
returns-clause-places c = all_fit c.args.kept.now c.top-top.ensures.apart c.requires.area (subst (λ n. start_of c.args.kept.now.area n ≤ 2 ^ 62) c.top-top.ensures.top c.top-top.ensures.within) c.in_ok-rows.rows c.in_ok-rows.ensures.slots

pub returns-clause-apart : goal.returns-clause-apart
returns-clause-apart c = all_apart c.args.kept.now c.top-top.ensures.apart c.in_ok-rows.rows c.in_ok-rows.ensures.slots (keys_rise c.in_ok-rows.rows c.in_ok-found.found c.in_ok-rows.ensures.keys)
