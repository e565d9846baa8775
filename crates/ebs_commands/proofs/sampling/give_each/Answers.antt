use Rattle.std.proofs.Common.{◌≡◌, Err, cond, rules, arith}
use Rattle.ebs_commands.proofs.Given.{at_most_one, more_at, stopped_at}
use Rattle.ebs_commands.proofs.sampling.give_each.Goals as goal

pub returns-in_err-give : goal.returns-in_err-give
returns-in_err-give g c =
    let is : c.from_residual.result ≡ Err c.in_err-give.field-0.0 = search rules in
    rw is record {
      gives =
          stopped_at g.D.Disk.view g.S.Promise.sound c.args.calls.now c.loop-asked.asked-index _ c.args.disk.now c.args.store.now c.loop-asked.disk c.loop-asked.store c.give.new.disk c.give.new.store
          c.loop-asked.accepted c.loop-asked-test.true c.loop-asked.invariant.given c.in_err-give.field-0.0 c.in_err-give.ensures.gives;
      fits = c.give.ensures.fits;
    }

pub loop-asked-preserved : goal.loop-asked-preserved
loop-asked-preserved g c =
    let is : c.from.result ≡ cond c.in_ok-give.field-0 1 0 = search rules in
    let one = at_most_one c.in_ok-give.field-0 c.from.result is in
    record {
      fits = c.give.ensures.fits;
      few = omega (arith, c.loop-asked.invariant.few, one);
      given =
          more_at g.D.Disk.view g.S.Promise.sound c.args.calls.now c.loop-asked.asked-index _ c.args.disk.now c.args.store.now c.loop-asked.disk c.loop-asked.store c.give.new.disk c.give.new.store
          c.loop-asked.accepted c.loop-asked-test.true c.loop-asked.invariant.given c.from.result c.in_ok-give.field-0 is c.in_ok-give.ensures.gives;
    }
