use Rattle.std.proofs.Common.{◌+◌, zero-add, sym, ap, ◌∙◌}
use Rattle.std.specs.List.{count_by}
use Rattle.ebs_catalog.specs.Runs.{is_own_target}
use Rattle.ebs_catalog.proofs.CountLaws.{few, one_more, one_on}
use Rattle.ebs_catalog.proofs.runs.count_targets.Goals as goal

pub loop-volume-init : goal.loop-volume-init
loop-volume-init c = (zero-add _, few _ _ _ c.into_iter-volume-iterator.ensures.into_iter_gives c.requires)

pub loop-volume-preserved-then-is_own_target : goal.loop-volume-preserved-then-is_own_target
loop-volume-preserved-then-is_own_target c =
    let p = is_own_target c.args.account c.args.policy.now in (
      one_on _ _ ∙ ap (λ n. c.loop-volume.count + n) (sym (one_more p (c.in-Some.volume.now, c.in-Some.row.now) c.next.new.self (sym c.is_own_target.ensures ∙ c.if-is_own_target.true)) ∙ ap (count_by p) (sym c.in-Some.ensures.steps)) ∙ c.loop-volume.invariant.0,
      c.loop-volume.invariant.1,
    )
