use Rattle.std.proofs.Common.{refl, ◌∙◌}
use Rattle.ebs_cli.specs.Done.{unbegun, by_store}
use Rattle.ebs_cli.specs.Told.{moment_at}
use Rattle.ebs_commands.specs.Collects.{Promised}
use Rattle.ebs_cli.proofs.Aging.{Laws, all_left, all_since, ends_at, ends_with, in_time, kept_still, usage_is}
use Rattle.ebs_cli.proofs.Had.{kept_or_new}
use Rattle.ebs_cli.proofs.Told.{kept_of}
use Rattle.ebs_cli.proofs.commanding.collect_on_disk.Goals as goal

pub returns-in-Err : goal.returns-in-Err
returns-in-Err g c = unbegun c.in-Err.refusal refl
    (record { cause = c.in-Err.ensures.refused; opening = record { ran = c.in-Err.ensures.ran; unwritten = c.in-Err.ensures.unwritten }; stays = λ told honest m stands all image since. (c.in-Err.ensures.moments told honest m stands all).each image since })
    (refl, refl)

pub returns : goal.returns
returns g c =
    let start = g.D.Disk.view c.args.disk.now in
    let opened = g.D.Disk.view c.open_or_make.new.disk in
    let end = g.D.Disk.view c.collect.new.disk in
    let store = c.in-Ok.store in
    let behind = c.collect.new.store in
    let reading = c.collect.ensures.collects.reading in
    let second = (moment_at (kept_of store) reading.second).second in
    let laws : Laws = record { again = c.life_goes_on.ensures.again; aged = c.life_goes_on.ensures.aged } in
    by_store c.open_or_make.new.disk (kept_of store) c.collect.result refl
    (record { read = λ told. kept_or_new start store (c.in-Ok.ensures.read told); opening = record { ran = c.in-Ok.ensures.ran; unwritten = c.in-Ok.ensures.unwritten } })
    (record {
      reading = reading;
      ticks = c.collect.ensures.collects.ticks;
      last = kept_of behind;
      ends = ends_with _ _ _ _
          (λ failed. (failed.rose, kept_still g.S.Promise.sound opened end store behind failed))
          (ends_at g.D.Disk.view g.S.Promise.sound (Promised g.S.Promise.sound start) c.open_or_make.new.disk c.collect.new.disk store behind reading (λ p. (p.0, c.in-Ok.ensures.ran.told ∙ p.1, c.in-Ok.ensures.ran.kept_honest ∙ p.2)))
          (λ point ended. usage_is behind (ended.finished.leases ∙ c.in-Ok.ensures.unleased))
          c.collect.result c.collect.ensures.collects.at.ends;
      ran = c.collect.ensures.collects.at.collects.ran;
      leaves = λ is told honest m stands.
          let has = c.in-Ok.ensures.machine told honest m stands in
          all_left laws m second (in_time opened store m reading has) opened store c.in-Ok.ensures.clean has.records end
          (c.collect.ensures.collects.at.collects.moments is (c.in-Ok.ensures.ran.told ∙ told) (c.in-Ok.ensures.ran.kept_honest ∙ honest));
      from_first = λ is told honest m stands all.
          let has = c.in-Ok.ensures.machine told honest m stands in
          (all_since laws m second (in_time opened store m reading has) opened store c.in-Ok.ensures.clean has.records start end (c.in-Ok.ensures.moments told honest m stands all)
          (c.collect.ensures.collects.at.collects.moments is (c.in-Ok.ensures.ran.told ∙ told) (c.in-Ok.ensures.ran.kept_honest ∙ honest))).each;
    })
