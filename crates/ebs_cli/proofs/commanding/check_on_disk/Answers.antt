use Rattle.std.proofs.Common.{refl, ◌∙◌}
use Rattle.ebs_cli.specs.Done.{unbegun, by_store}
use Rattle.ebs_world.specs.inner.Runs.{leaves_weaker}
use Rattle.ebs_recovery.specs.inner.Fits.{StandsForOne}
use Rattle.ebs_recovery.specs.Stands.{Stands}
use Rattle.ebs_cli.proofs.Had.{kept_or_new, stands_recorded}
use Rattle.ebs_opening.proofs.Having.{still_after}
use Rattle.ebs_cli.proofs.Told.{kept_of}
use Rattle.ebs_cli.proofs.commanding.check_on_disk.Goals as goal

pub returns-in-Err : goal.returns-in-Err
returns-in-Err g c = unbegun c.in-Err.refusal refl
    (record { cause = c.in-Err.ensures.refused; opening = record { ran = c.in-Err.ensures.ran; unwritten = c.in-Err.ensures.unwritten }; stays = λ told honest m stands all image since. (c.in-Err.ensures.moments told honest m stands all).each image since })
    refl

pub returns : goal.returns
returns g c = by_store c.open_or_make.new.disk (kept_of c.in-Ok.store) c.check.result refl
    (record { read = λ told. kept_or_new (g.D.Disk.view c.args.disk.now) c.in-Ok.store (c.in-Ok.ensures.read told); opening = record { ran = c.in-Ok.ensures.ran; unwritten = c.in-Ok.ensures.unwritten } })
    (record {
      checks = c.check.ensures.ends;
      ran = c.check.ensures.ran;
      whole = λ is_sound told honest. c.check.ensures.sound is_sound (c.in-Ok.ensures.ran.told ∙ told) (c.in-Ok.ensures.ran.kept_honest ∙ honest);
      moments = λ is_sound told honest m stands.
          let opened = g.D.Disk.view c.open_or_make.new.disk in
          leaves_weaker opened (g.D.Disk.view c.check.new.disk) (StandsForOne opened c.in-Ok.store) (λ d. Stands d m)
          (stands_recorded opened c.in-Ok.store m c.in-Ok.ensures.clean (c.in-Ok.ensures.machine told honest m stands).records)
          (c.check.ensures.moments is_sound (c.in-Ok.ensures.ran.told ∙ told) (c.in-Ok.ensures.ran.kept_honest ∙ honest));
      from_first = λ told honest m stands all image since.
          let opened = g.D.Disk.view c.open_or_make.new.disk in
          (still_after (g.D.Disk.view c.args.disk.now) opened (g.D.Disk.view c.check.new.disk) m (g.met.D.Disk.true_to_itself c.open_or_make.new.disk) (c.in-Ok.ensures.ran.kept_honest ∙ honest)
          (c.in-Ok.ensures.moments told honest m stands all) c.check.ensures.ran).each image since;
    })
