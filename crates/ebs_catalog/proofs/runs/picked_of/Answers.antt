use Rattle.std.proofs.Common.{List, subst, sym, ◌∙◌}
use Rattle.std.specs.List.{AllByRecursion}
use Rattle.std.specs.FinMap.{entries}
use Rattle.ebs_tables.specs.Seen.{seen}
use Rattle.ebs_model.specs.declared.keys.VolKey.{VolKey}
use Rattle.ebs_model.specs.declared.policy.Made.{Made}
use Rattle.ebs_model.specs.Keys.{vol_cmp}
use Rattle.ebs_lifecycle.specs.Retention.{AreStarted}
use Rattle.ebs_catalog.proofs.Picked.{all-started, of_all, nothing-yet, group-more, all-in-order, ended_of, released_of}
use Rattle.ebs_catalog.proofs.runs.picked_of.Goals as goal

pub loop-made-init : goal.loop-made-init
loop-made-init c =
    let retain = c.args.policy.now.retain in
    let now = c.args.at.second in
    let m = seen vol_cmp c.args.groups.now in record {
      ended = nothing-yet (ended_of retain now) c.into_iter-made-iterator.result _ c.new-ended.ensures.items;
      released = nothing-yet (released_of retain now) c.into_iter-made-iterator.result _ c.new-released.ensures.items;
      starts = subst (AllByRecursion (λ e. AreStarted e.1)) (sym (c.into_iter-made-iterator.ensures.into_iter_gives ∙ c.iter-made-items.ensures.values)) (all-started m c.requires.starts);
    }

pub loop-made-preserved : goal.loop-made-preserved
loop-made-preserved c =
    let retain = c.args.policy.now.retain in
    let now = c.args.at.second in
    let e : VolKey × List Made = (c.in-Some.field-0-0.now, c.in-Some.made.now) in record {
      ended = group-more (ended_of retain now) (of_all (ended_of retain now) c.into_iter-made-iterator.result) c.loop-made.ended.items c.add_picked.new.ended.items e c.as_slice.result.now c.loop-made.made-iterator c.next.new.self c.in-Some.ensures.steps c.as_slice.ensures c.loop-made.invariant.ended c.in_ok-add_picked.ensures.ended;
      released = group-more (released_of retain now) (of_all (released_of retain now) c.into_iter-made-iterator.result) c.loop-made.released.items c.add_picked.new.released.items e c.as_slice.result.now c.loop-made.made-iterator c.next.new.self c.in-Some.ensures.steps c.as_slice.ensures c.loop-made.invariant.released c.in_ok-add_picked.ensures.released;
      starts = (subst (AllByRecursion (λ e. AreStarted e.1)) c.in-Some.ensures.steps c.loop-made.invariant.starts).1;
    }

pub returns-clause-ended : goal.returns-clause-ended
returns-clause-ended c =
    all-in-order (ended_of c.args.policy.now.retain c.args.at.second) c.into_iter-made-iterator.result (entries (seen vol_cmp c.args.groups.now)) c.loop-made.made-iterator c.loop-made.ended.items _ (c.into_iter-made-iterator.ensures.into_iter_gives ∙ c.iter-made-items.ensures.values) c.in-None.ensures.steps.0 c.loop-made.invariant.ended c.in_ok-in_order.ensures

pub returns-clause-released : goal.returns-clause-released
returns-clause-released c =
    all-in-order (released_of c.args.policy.now.retain c.args.at.second) c.into_iter-made-iterator.result (entries (seen vol_cmp c.args.groups.now)) c.loop-made.made-iterator c.loop-made.released.items _ (c.into_iter-made-iterator.ensures.into_iter_gives ∙ c.iter-made-items.ensures.values) c.in-None.ensures.steps.0 c.loop-made.invariant.released c.in_ok-in_order-2.ensures
