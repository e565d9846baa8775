use Rattle.std.proofs.Common.{refl, subst}
use Rattle.ebs_disk_store.specs.declared.collecting.Usage.{Usage}
use Rattle.ebs_commands.specs.Collects.{TellsUsage}
use Rattle.ebs_cli.specs.Done.{unbegun, by_store}
use Rattle.ebs_cli.proofs.Aging.{usage_is}
use Rattle.ebs_cli.proofs.Had.{kept_or_new}
use Rattle.ebs_cli.proofs.Told.{kept_of}
use Rattle.ebs_cli.proofs.commanding.usage_on_disk.Goals as goal

pub returns-in-Err : goal.returns-in-Err
returns-in-Err g c = unbegun c.in-Err.refusal refl
    (record { cause = c.in-Err.ensures.refused; opening = record { ran = c.in-Err.ensures.ran; unwritten = c.in-Err.ensures.unwritten }; stays = λ told honest m stands all image since. (c.in-Err.ensures.moments told honest m stands all).each image since })
    refl

pub returns : goal.returns
returns g c = by_store c.open_or_make.new.disk (kept_of c.in-Ok.store) c.usage.result refl
    (record { read = λ told. kept_or_new (g.D.Disk.view c.args.disk.now) c.in-Ok.store (c.in-Ok.ensures.read told); opening = record { ran = c.in-Ok.ensures.ran; unwritten = c.in-Ok.ensures.unwritten } })
    (record {
      tells = subst (λ (u : Usage). TellsUsage c.usage.result u (g.O.Sink.outlet c.args.output.now) (g.O.Sink.outlet c.usage.new.output)) (usage_is c.in-Ok.store c.in-Ok.ensures.unleased) c.usage.ensures;
      still = refl;
      from_first = λ told honest m stands all. (c.in-Ok.ensures.moments told honest m stands all).each;
    })
