use Rattle.std.proofs.Common.{T, List, sym, ap, subst, ◌∙◌}
use Rattle.std.specs.List.{filter}
use Rattle.std.specs.Ordering.{is_le}
use Rattle.std.specs.FinMap.{entries}
use Rattle.std.specs.FinMap.Entries.{is_sorted}
use Rattle.ebs_lineage.specs.declared.node_id.NodeId.{NodeId}
use Rattle.ebs_holds.specs.declared.holder.Holder.{Holder}
use Rattle.ebs_holds.specs.Holders.{holder_cmp}
use Rattle.ebs_holds.specs.Holds.{held_in}
use Rattle.ebs_catalog.specs.Held.{rows_in}
use Rattle.ebs_kept.proofs.Walked.{IsLeft, left-from, left-next, left-none, left-there, left-before, rises-from, rises-next}
use Rattle.ebs_kept.proofs.collecting.next_unshown.Goals as goal

pub loop-holder-init : goal.loop-holder-init
loop-holder-init c =
    let now = c.args.now.second in
    let rows = rows_in c.args.catalog.now in
    let g = held_in c.args.holdings.now in
    let from = c.args.from.now in
    let whole = c.into_iter-holder-iterator.ensures.into_iter_gives ∙ c.from-holder-items.ensures.values ∙ ap (λ m. filter (λ e. is_le (holder_cmp from e.0)) (entries m)) c.nodes.ensures in
    record {
      left = subst (IsLeft now rows g) (sym whole) (left-from now rows g from c.requires);
      rises = subst (λ (es : List (Holder × NodeId)). T (is_sorted holder_cmp es)) (sym whole) (rises-from now rows g from);
    }

pub returns-then-not-is_shown-clause-hidden : goal.returns-then-not-is_shown-clause-hidden
returns-then-not-is_shown-clause-hidden c = sym c.is_shown.ensures ∙ c.if-not-is_shown.true

pub returns-then-not-is_shown-clause-there : goal.returns-then-not-is_shown-clause-there
returns-then-not-is_shown-clause-there c =
    let hidden = sym c.is_shown.ensures ∙ c.if-not-is_shown.true in
    left-there c.args.now.second (rows_in c.args.catalog.now) (held_in c.args.holdings.now) c.in-Some.holder.now _ c.loop-holder.holder-iterator c.next.new.self c.in-Some.ensures.steps hidden c.loop-holder.invariant.left

pub returns-then-not-is_shown-clause-before : goal.returns-then-not-is_shown-clause-before
returns-then-not-is_shown-clause-before c =
    left-before c.args.now.second (rows_in c.args.catalog.now) (held_in c.args.holdings.now) c.in-Some.holder.now _ c.loop-holder.holder-iterator c.next.new.self c.in-Some.ensures.steps c.loop-holder.invariant.rises c.loop-holder.invariant.left

pub loop-holder-preserved : goal.loop-holder-preserved
loop-holder-preserved c =
    let now = c.args.now.second in
    let rows = rows_in c.args.catalog.now in
    let g = held_in c.args.holdings.now in
    let q = c.in-Some.holder.now in
    let shows = sym c.is_shown.ensures ∙ c.if-not-is_shown.false in
    record {
      left = left-next now rows g q _ c.loop-holder.holder-iterator c.next.new.self c.in-Some.ensures.steps shows c.loop-holder.invariant.left;
      rises = rises-next q _ c.loop-holder.holder-iterator c.next.new.self c.in-Some.ensures.steps c.loop-holder.invariant.rises;
    }

pub returns-clause-none : goal.returns-clause-none
returns-clause-none c = left-none c.args.now.second (rows_in c.args.catalog.now) (held_in c.args.holdings.now) c.loop-holder.holder-iterator c.in-None.ensures.steps.0 c.loop-holder.invariant.left
