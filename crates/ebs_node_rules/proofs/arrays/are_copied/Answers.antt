use Rattle.std.proofs.Common.{sym, ap, ◌∙◌}
use Rattle.std.specs.List.{list_all}
use Rattle.ebs_checkpoints.specs.declared.nodes.EntryRow.{EntryRow}
use Rattle.ebs_node_rules.specs.Arrays.{is_copied}
use Rattle.ebs_node_rules.proofs.Chains.{falls, keys_here, keys_above, keys_none}
use Rattle.ebs_node_rules.proofs.arrays.are_copied.Goals as goal

pub returns-then-not-own_are_copied : goal.returns-then-not-own_are_copied
returns-then-not-own_are_copied c =
    let own = ap (list_all (λ (entry : EntryRow). is_copied c.args.copies.now entry.index)) (sym c.as_slice.ensures) ∙ sym c.own_are_copied.ensures ∙ c.if-not-own_are_copied.true in
    keys_here c.args.nodes.now c.requires.nodes (is_copied c.args.copies.now) c.loop-found.at c.in-Some.found.now (sym c.in-Some.ensures) own ∙ c.loop-found.invariant

pub loop-found-smaller : goal.loop-found-smaller
loop-found-smaller c = falls c.args.nodes.now c.requires.nodes c.loop-found.at c.in-Some.found.now (sym c.in-Some.ensures)

pub loop-found-preserved : goal.loop-found-preserved
loop-found-preserved c =
    let own = ap (list_all (λ (entry : EntryRow). is_copied c.args.copies.now entry.index)) (sym c.as_slice.ensures) ∙ sym c.own_are_copied.ensures ∙ c.if-not-own_are_copied.false in
    keys_above c.args.nodes.now c.requires.nodes (is_copied c.args.copies.now) c.loop-found.at c.in-Some.found.now (sym c.in-Some.ensures) own ∙ c.loop-found.invariant

pub returns : goal.returns
returns c = keys_none c.args.nodes.now c.requires.nodes (is_copied c.args.copies.now) c.loop-found.at (sym c.in_default.ensures) ∙ c.loop-found.invariant
