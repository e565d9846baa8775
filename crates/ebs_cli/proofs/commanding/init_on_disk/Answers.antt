use Rattle.std.proofs.Common.{refl}
use Rattle.ebs_recovery.specs.inner.Fits.{new_store}
use Rattle.ebs_cli.proofs.Had.{all_made, inits_with}
use Rattle.ebs_cli.proofs.commanding.init_on_disk.Goals as goal

pub returns : goal.returns
returns g c = record {
  inits = inits_with (λ made. record {
    unmarked = made.unmarked;
    stands = λ is_sound told honest.
        let disk = c.init.new.disk in
        let law = g.met.D.Disk.true_to_itself disk in
        let store = new_store c.args.secret made.journal in
        all_made (g.D.Disk.view disk) c.args.secret made.journal law honest (c.own_calls_stand.ensures store store disk disk _ (refl, refl) made.fits refl is_sound told honest);
  }) c.init.result (g.D.Disk.view c.args.disk.now) (g.D.Disk.view c.init.new.disk) (g.O.Sink.outlet c.args.output.now) (g.O.Sink.outlet c.init.new.output) c.init.ensures.ends;
  moments = c.init.ensures.moments;
  opening = record { ran = c.init.ensures.ran; unwritten = c.init.ensures.kept };
}
