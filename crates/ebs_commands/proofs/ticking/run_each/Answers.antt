use Rattle.std.proofs.Common.{◌≡◌, Err, rules, suc, take, drop}
use Rattle.ebs_commands.specs.Ticks.{policy_keys}
use Rattle.ebs_commands.proofs.SoFar.{item_is, keys_from, keys_more, last_run, one_more}
use Rattle.ebs_commands.proofs.ticking.run_each.Goals as goal
use Rattle.ebs_commands.proofs.ticking.run_each.Goals.{in-Policy+in_ok-run_policy, in_default}

pub returns-in_err-run_policy-clause-ran : goal.returns-in_err-run_policy-clause-ran
returns-in_err-run_policy-clause-ran g c =
    let keys = policy_keys c.args.store.now.recorded in
    let from = keys_from c.args.ids.now keys c.loop-id.id-index c.id-item.result c.requires.policies c.loop-id-test.true c.id-item.is c.in-Policy.key c.in-Policy.is in
    let is : c.from_residual.result ≡ Err c.in_err-run_policy.field-0.0 = search rules in
    rw is
    (last_run g.D.Disk.view g.S.Promise.sound c.args.reading (take c.loop-id.id-index keys) c.in-Policy.key c.args.disk.now c.args.store.now c.loop-id.disk c.loop-id.store
    c.run_policy.new.disk c.run_policy.new.store (g.O.Sink.outlet c.args.output.now) (g.O.Sink.outlet c.loop-id.output) (g.O.Sink.outlet c.run_policy.new.output)
    c.in_err-run_policy.field-0.0 keys (drop (suc c.loop-id.id-index) keys) from c.loop-id.invariant.ran c.in_err-run_policy.ensures.ran)

pub loop-id-preserved : goal.loop-id-preserved
loop-id-preserved g c =
    let keys = policy_keys c.args.store.now.recorded in
    elim c.match-id.branch [
      | in-Policy+in_ok-run_policy w ↦
          let more = keys_more c.args.ids.now keys c.loop-id.id-index c.id-item.result c.requires.policies c.loop-id-test.true c.id-item.is w.in-Policy.key w.in-Policy.is in
          let so =
          one_more g.D.Disk.view g.S.Promise.sound c.args.reading (take c.loop-id.id-index keys) w.in-Policy.key c.args.disk.now c.args.store.now c.loop-id.disk c.loop-id.store
          w.run_policy.new.disk w.run_policy.new.store (g.O.Sink.outlet c.args.output.now) (g.O.Sink.outlet c.loop-id.output) (g.O.Sink.outlet w.run_policy.new.output)
          w.in_ok-run_policy.field-0 c.loop-id.invariant.ran w.in_ok-run_policy.ensures.ran in
          rw (w.store-is, w.disk-is, w.output-is) record {
            fits = w.run_policy.ensures.fits;
            ran = rw more at so;
          }
      | in_default w ↦ absurd (w.in_default.not-Policy _ (item_is c.args.ids.now keys c.loop-id.id-index c.id-item.result c.requires.policies c.loop-id-test.true c.id-item.is (record { account = 0; number = 0 })))
    ]
