use Rattle.std.proofs.Common.{refl}
use Rattle.ebs_commands.specs.Ticks.{run_calls}
use Rattle.ebs_cli.specs.Done.{unbegun, by_store}
use Rattle.ebs_cli.specs.Left.{own_calls}
use Rattle.ebs_cli.proofs.Calling.{commanded_by, own_chain, runs_within}
use Rattle.ebs_cli.proofs.Had.{kept_or_new, lie_in_blocks}
use Rattle.ebs_cli.proofs.Told.{kept_of, own_replies_are}
use Rattle.ebs_cli.proofs.commanding.tick_on_disk.Goals as goal

pub returns-in-Err : goal.returns-in-Err
returns-in-Err g c = unbegun c.in-Err.refusal refl
    (record { cause = c.in-Err.ensures.refused; opening = record { ran = c.in-Err.ensures.ran; unwritten = c.in-Err.ensures.unwritten }; stays = λ told honest m stands all image since. (c.in-Err.ensures.moments told honest m stands all).each image since })
    (refl, refl)

pub returns : goal.returns
returns g c = by_store c.open_or_make.new.disk (kept_of c.in-Ok.store) c.tick.result refl
    (record { read = λ told. kept_or_new (g.D.Disk.view c.args.disk.now) c.in-Ok.store (c.in-Ok.ensures.read told); opening = record { ran = c.in-Ok.ensures.ran; unwritten = c.in-Ok.ensures.unwritten } })
    (record {
      reading = c.tick.ensures.ticked.reading;
      ticks = c.tick.ensures.ticked.ticks;
      runs = c.tick.ensures.ticked.runs.runs;
      ends = c.tick.ensures.ticked.runs.ends;
      last = kept_of c.tick.new.store;
      replies =
          own_replies_are g.D.Disk.view g.S.Promise.sound (own_calls (run_calls c.tick.ensures.ticked.reading c.tick.ensures.ticked.runs.runs)) c.in-Ok.store c.tick.new.store c.open_or_make.new.disk c.tick.new.disk
          (lie_in_blocks (g.D.Disk.view c.args.disk.now) (g.D.Disk.view c.open_or_make.new.disk) c.in-Ok.store c.in-Ok.ensures.ran.told c.in-Ok.ensures.read)
          (own_chain g.D.Disk.view g.S.Promise.sound (run_calls c.tick.ensures.ticked.reading c.tick.ensures.ticked.runs.runs) c.open_or_make.new.disk c.tick.new.disk c.in-Ok.store c.tick.new.store
          (runs_within c.tick.ensures.ticked.reading c.tick.ensures.ticked.runs.runs) c.tick.ensures.ticked.runs.chain);
      commanded =
          commanded_by g.D.Disk.view g.S.Promise.sound c.args.disk.now c.open_or_make.new.disk c.tick.new.disk c.in-Ok.store c.tick.new.store (run_calls c.tick.ensures.ticked.reading c.tick.ensures.ticked.runs.runs)
          (record { on = c.life_goes_on.ensures.command; again = c.life_goes_on.ensures.again; untold = c.life_goes_on.ensures.untold_command })
          (g.met.D.Disk.true_to_itself c.tick.new.disk) (runs_within c.tick.ensures.ticked.reading c.tick.ensures.ticked.runs.runs) c.in-Ok.ensures.ran c.in-Ok.ensures.machine c.in-Ok.ensures.moments c.tick.ensures.ticked.runs.chain
          (λ chain. c.own_calls_stand.ensures c.in-Ok.store c.tick.new.store c.open_or_make.new.disk c.tick.new.disk _ chain c.tick.ensures.fits c.in-Ok.ensures.clean);
    })
