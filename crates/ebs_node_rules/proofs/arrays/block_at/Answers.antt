use Rattle.std.proofs.Common.{List, sym, ap, ◌∙◌}
use Rattle.ebs_checkpoints.specs.declared.nodes.EntryRow.{EntryRow}
use Rattle.ebs_node_rules.specs.inner.Nodes.{ascends}
use Rattle.ebs_node_rules.specs.inner.Lookups.{own_block}
use Rattle.ebs_node_rules.proofs.Chains.{falls, entries_ascend, block_here, block_above, block_none}
use Rattle.ebs_node_rules.proofs.arrays.block_at.Goals as goal

pub own_block-requires : goal.own_block-requires
own_block-requires c =
    ap (ascends (λ (entry : EntryRow). entry.index)) c.as_slice.ensures
    ∙ entries_ascend c.args.nodes.now c.requires c.loop-found.at c.in-Some.found.now (sym c.in-Some.ensures)

pub returns-in-Some-own_block : goal.returns-in-Some-own_block
returns-in-Some-own_block c =
    let own = ap (λ (entries : List EntryRow). own_block entries c.args.index) (sym c.as_slice.ensures) ∙ sym c.own_block.ensures ∙ c.in-Some-own_block.is in
    block_here c.args.nodes.now c.requires c.loop-found.at c.in-Some.found.now c.args.index c.in-Some-own_block.block (sym c.in-Some.ensures) own ∙ c.loop-found.invariant

pub loop-found-smaller : goal.loop-found-smaller
loop-found-smaller c = falls c.args.nodes.now c.requires c.loop-found.at c.in-Some.found.now (sym c.in-Some.ensures)

pub loop-found-preserved : goal.loop-found-preserved
loop-found-preserved c =
    let own = ap (λ (entries : List EntryRow). own_block entries c.args.index) (sym c.as_slice.ensures) ∙ sym c.own_block.ensures ∙ c.in_default-own_block.is in
    block_above c.args.nodes.now c.requires c.loop-found.at c.in-Some.found.now c.args.index (sym c.in-Some.ensures) own ∙ c.loop-found.invariant

pub returns : goal.returns
returns c = block_none c.args.nodes.now c.requires c.loop-found.at c.args.index (sym c.in_default.ensures) ∙ c.loop-found.invariant
