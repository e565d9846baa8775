use Rattle.std.proofs.Common.{◌∙◌, refl, sym, ap}
use Rattle.ebs_world.specs.inner.Held.{shown}
use Rattle.ebs_world.specs.inner.Log.{State, after, synced}
use Rattle.ebs_world.specs.inner.Crash.{picked}
use Rattle.ebs_world.proofs.Crashed.{picked_synced, next_call, none_left}
use Rattle.ebs_world.proofs.crash.crash_image.Goals as goal

pub loop-rest-init : goal.loop-rest-init
loop-rest-init c = (
  synced (shown c.args.first.now),
  c.in_ok-now.ensures.bytes,
  λ a i. c.in_ok-image.ensures.bytes a i ∙ picked_synced c.args.pick (shown c.args.first.now) a i,
  refl,
)

pub loop-rest-preserved : goal.loop-rest-preserved
loop-rest-preserved c =
    let s = c.loop-rest.invariant in (
      after s.0 c.step-item.result,
      c.in_ok-crash_step.ensures.now s.0 s.1,
      c.in_ok-crash_step.ensures.image s.0 s.1 s.2,
      next_call s.0 c.loop-rest.rest.now c.step-item.result c.step-item.is c.in-len1-up.len_at_least ∙ s.3,
    )

pub returns : goal.returns
returns c a i =
    let s = c.loop-rest.invariant in
    s.2 a i ∙ ap (λ (u : State). picked c.args.pick u a i) (sym (none_left s.0 c.loop-rest.rest.now c.in_default.len_below) ∙ s.3)
