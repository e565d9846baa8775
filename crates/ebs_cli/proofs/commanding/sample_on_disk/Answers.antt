use Rattle.std.proofs.Common.{refl}
use Rattle.ebs_recovery.specs.inner.Fits.{new_store}
use Rattle.ebs_commands.specs.Samples.{zeros}
use Rattle.ebs_cli.specs.Left.{own_calls}
use Rattle.ebs_cli.proofs.Living.{sampled_on}
use Rattle.ebs_cli.proofs.Sampling.{samples_with}
use Rattle.ebs_cli.proofs.commanding.sample_on_disk.Goals as goal

pub returns : goal.returns
returns g c =
    samples_with g.D.Disk.view g.S.Promise.sound c.args.rounds c.args.disk.now c.sample.new.disk (g.O.Sink.outlet c.args.output.now) (g.O.Sink.outlet c.sample.new.output) c.sample.result c.sample.ensures.kept
    (λ made. sampled_on g.D.Disk.view g.S.Promise.sound c.sample.result c.args.rounds c.args.disk.now c.sample.new.disk (g.O.Sink.outlet c.args.output.now) (g.O.Sink.outlet c.sample.new.output) made
    (record { on = c.life_goes_on.ensures.command; again = c.life_goes_on.ensures.again; untold = c.life_goes_on.ensures.untold_command })
    (record { again = c.life_goes_on.ensures.again; aged = c.life_goes_on.ensures.aged })
    c.standing_rests.ensures g.met.D.Disk.true_to_itself
    (λ chain. c.own_calls_stand.ensures (new_store zeros made.journal) made.last made.mid made.given (own_calls made.answers) chain made.fits refl)
    (c.own_calls_stand.ensures (new_store zeros made.journal) (new_store zeros made.journal) made.mid made.mid _ (refl, refl) made.made refl)) c.sample.ensures.sampled
