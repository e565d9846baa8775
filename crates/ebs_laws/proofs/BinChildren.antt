-- What becomes of children of a snapshot that was in the bin.
use Rattle.std.proofs.Common.{◌≡◌, ap, refl}
use Rattle.std.specs.FinMap as fin
use Rattle.ebs_model.specs.declared.request.Request.TheVariants.{RestoreFromBin}
use Rattle.ebs_model.specs.inner.Orders.{snaps_total, exact_snaps}
use Rattle.ebs_model.specs.Time.{is_reached}
use Rattle.ebs_model.specs.Machine.{advance}
use Rattle.ebs_laws.specs.Words.{moment_at}
use Rattle.ebs_laws.specs.DeletionLaws.{binned_until}
use Rattle.ebs_laws.specs.BinLaws.{RestoreLeavesOthers, ChildOutlivesEnd, ChildKeepsBytesThroughout}
use Rattle.ebs_laws.proofs.Maps.{get-other}
use Rattle.ebs_laws.proofs.Ages.{time-gone, time-left}
use Rattle.ebs_laws.proofs.Cases.{step-cases}
use Rattle.ebs_laws.proofs.Holds.{keeps-run}
use Rattle.ebs_laws.proofs.Standing.{child-has}
use Rattle.ebs_laws.proofs.Binned.{is-reached, stood}

pub restore-others : RestoreLeavesOthers
restore-others m account reading key other apart =
    let at = advance m (moment_at m reading) in
    step-cases (λ d. fin.get d.0.snaps other ≡ fin.get at.snaps other) m account reading (RestoreFromBin key)
    (λ s is passes. get-other snaps_total exact_snaps at.snaps key _ other apart)
    (λ refusal. refl)

pub child-outlives : ChildOutlivesEnd
child-outlives m now parent child old s end there late is named whole out = (
  time-gone m now parent (binned_until end old) there (is-reached now.second end late),
  time-left m now child s is (ap (λ end. is_reached end now.second) out) (stood s.row.completed _ whole),
)

pub child-throughout : ChildKeepsBytesThroughout
child-throughout m account reading size parent text tags token timeout told owner from child begin shown gib index bytes turns given unused has e none =
    let first = child-has m account reading size parent text tags token timeout told owner from child begin shown gib index bytes unused has e in
    let last = keeps-run child index (record { stamp = first.1; bytes = bytes }) turns _ (first.2, first.0) none in
    (last.1, first.1, last.0)
