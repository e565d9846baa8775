use Rattle.std.proofs.Common.{inl}
use Rattle.ebs_world.specs.inner.Runs.{ran_on}
use Rattle.ebs_journal.specs.Opening.{OffJournal}
use Rattle.ebs_disk_store.specs.inner.Told.{at_reading}
use Rattle.ebs_commands.specs.inner.Collects.{Ended, Failed}
use Rattle.ebs_commands.proofs.Collected.{by_point, ended, failed, images_age, images_on, images_stay}
use Rattle.ebs_commands.proofs.collecting.collect_store.Goals as goal

pub returns-in_default-clause-collects : goal.returns-in_default-clause-collects
returns-in_default-clause-collects g c = record {
  moments = images_stay g.S.Promise.sound (g.D.Disk.view c.args.disk.now) (g.D.Disk.view c.collect.new.disk) c.args.store.now c.collect.new.self (at_reading c.args.store.now c.args.reading) _ c.in_default.ensures.same c.collect.ensures.moments;
  ran = c.collect.ensures.ran;
}

pub returns-in_default-clause-end : goal.returns-in_default-clause-end
returns-in_default-clause-end g c =
    inl (failed g.S.Promise.sound (g.D.Disk.view c.args.disk.now) (g.D.Disk.view c.collect.new.disk) c.args.store.now c.collect.new.self (at_reading c.args.store.now c.args.reading) c.in_default.ensures.told c.in_default.ensures.same c.in_default.ensures.cause)

pub returns-clause-collects : goal.returns-clause-collects
returns-clause-collects g c =
    let sound = g.S.Promise.sound in
    let first = g.D.Disk.view c.args.disk.now in
    let mid = g.D.Disk.view c.collect.new.disk in
    let new = g.D.Disk.view c.checkpoint-point.new.disk in
    let now = at_reading c.args.store.now c.args.reading in
    record {
      moments = images_on c.time_passes_in_parts.ensures sound first mid new c.args.store.now c.collect.new.self c.checkpoint-point.new.self now c.in-Ok.ensures.told.0 c.in-Ok.ensures.told.1 c.collect.ensures.ran
          c.checkpoint-point.result c.in-Ok.ensures.aged c.in-Ok.ensures.settled c.checkpoint-point.ensures.aged c.checkpoint-point.ensures.same
          (images_age sound first mid c.args.store.now c.collect.new.self now _ c.in-Ok.ensures.aged c.collect.ensures.moments) c.checkpoint-point.ensures.moments;
      ran = ran_on OffJournal first mid new c.collect.ensures.ran c.checkpoint-point.ensures.ran;
    }

pub returns-clause-end : goal.returns-clause-end
returns-clause-end g c =
    let sound = g.S.Promise.sound in
    let first = g.D.Disk.view c.args.disk.now in
    let mid = g.D.Disk.view c.collect.new.disk in
    let new = g.D.Disk.view c.checkpoint-point.new.disk in
    let now = at_reading c.args.store.now c.args.reading in
    rw c.after_point.ensures (by_point (Failed sound first new c.args.store.now c.checkpoint-point.new.self) (Ended sound first new c.args.store.now c.checkpoint-point.new.self now) c.checkpoint-point.result
    (ended c.time_passes_in_parts.ensures sound first mid new c.args.store.now c.collect.new.self c.checkpoint-point.new.self now c.in-Ok.ensures.told.0 c.in-Ok.ensures.told.1 c.collect.ensures.ran
    (g.met.D.Disk.true_to_itself c.checkpoint-point.new.disk) (c.fit_tells.ensures.journal c.checkpoint-point.new.disk) c.one_base.ensures.said c.checkpoint-point.ensures.fits c.checkpoint-point.ensures.ran.told c.checkpoint-point.ensures.ran.kept_honest
    c.checkpoint-point.result c.checkpoint-point.ensures.told c.checkpoint-point.ensures.unavailable c.checkpoint-point.ensures.machine c.in-Ok.ensures.machine))
