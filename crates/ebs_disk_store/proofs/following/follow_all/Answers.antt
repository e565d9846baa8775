use Rattle.std.proofs.Common.{◌+◌, refl, ap, subst, arith}
use Rattle.std.proofs.lemmas.List.{take_all}
use Rattle.ebs_disk_store.specs.inner.Following.{Leads}
use Rattle.ebs_disk_store.proofs.AllFollowed.{leads_none, leads_more, stopped_at}
use Rattle.ebs_disk_store.proofs.following.follow_all.Goals as goal

pub loop-payload-init : goal.loop-payload-init
loop-payload-init c = (leads_none c.args.kept.now.machine c.args.slots.now c.requires.state, refl, c.requires.counted)

pub follow_payload-requires-clause-counted : goal.follow_payload-requires-clause-counted
follow_payload-requires-clause-counted c = c.loop-payload.invariant.2

pub returns-in-Err-clause-follows : goal.returns-in-Err-clause-follows
returns-in-Err-clause-follows c =
    stopped_at c.args.kept.now.machine c.args.slots.now c.loop-payload.kept.machine c.loop-payload.slots c.args.payloads.now c.loop-payload.payload-index c.as_slice.result.now c.payload-item.result
    c.loop-payload-test.true c.payload-item.is c.as_slice.ensures c.loop-payload.invariant.0 c.follow_payload.new.kept.machine c.follow_payload.new.slots c.loop-payload.behind c.in-Err.why c.loop-payload.invariant.1 c.in-Err.ensures.follows

pub loop-payload-preserved : goal.loop-payload-preserved
loop-payload-preserved c = (
  leads_more c.args.kept.now.machine c.args.slots.now c.loop-payload.kept.machine c.loop-payload.slots c.args.payloads.now c.loop-payload.payload-index c.as_slice.result.now c.payload-item.result
      c.loop-payload-test.true c.payload-item.is c.as_slice.ensures c.loop-payload.invariant.0 c.follow_payload.new.kept.machine c.follow_payload.new.slots c.in_default.ensures.follows,
  ap (λ n. n + 1) c.loop-payload.invariant.1,
  c.in_default.ensures.counted,
)

pub returns-clause-follows : goal.returns-clause-follows
returns-clause-follows c =
    let stop = c.loop-payload-test.false in
    subst (Leads c.args.kept.now.machine c.args.slots.now c.loop-payload.kept.machine c.loop-payload.slots) (take_all c.loop-payload.payload-index c.args.payloads.now (omega (arith, stop))) c.loop-payload.invariant.0

pub returns-clause-counted : goal.returns-clause-counted
returns-clause-counted c = c.loop-payload.invariant.2
