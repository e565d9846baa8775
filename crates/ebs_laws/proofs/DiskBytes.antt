-- The bytes that stand in volumes.
use Rattle.std.proofs.Common.{◌≡◌, ◌⊎◌, inl, inr, ℕ, Option, Some, None, unwrap_or, sym, ap, ◌∙◌, refl, arith}
use Rattle.std.specs.FinMap as fin
use Rattle.std.specs.Ordering.{nat_cmp}
use Rattle.sha2.specs.Sha256.{sha256}
use Rattle.ebs_model.specs.declared.keys.SnapKey.{SnapKey}
use Rattle.ebs_model.specs.declared.request.Request.TheVariants.{CreateSnapshot, ReadVolumeBlock, CreateVolume}
use Rattle.ebs_model.specs.declared.answer.Answer.TheVariants.{BlockRead, ZeroBlockRead, Refused}
use Rattle.ebs_model.specs.declared.answer.Refusal.{Refusal}
use Rattle.ebs_model.specs.Arrays.{WholeBlock, WholeArray}
use Rattle.ebs_model.specs.Calls.Disk.{block_or_zeros}
use Rattle.ebs_model.specs.Time.{Snapshot}
use Rattle.ebs_model.specs.Step.{step}
use Rattle.ebs_laws.specs.Words.{next_number, next_volume_number}
use Rattle.ebs_laws.specs.DiskLaws.{WriteLeavesBytes, OtherCallKeepsDisk, OtherCallKeepsBlank, ReadAnswersBytes, BlankReadsZeros, VolumeHasBytes, NewVolumeIsBlank, SnapshotHasBytes}
use Rattle.ebs_laws.proofs.Begun.{numbered}
use Rattle.ebs_laws.proofs.Cases.{step-cases}
use Rattle.ebs_laws.proofs.DiskMade.{snapshot-asked, write-asked}
use Rattle.ebs_laws.proofs.DiskRows.{holds-step}
use Rattle.ebs_laws.proofs.Stays.{never_failed}
use Rattle.ebs_laws.proofs.VolumeMade.{volume-asked}
use Rattle.ebs_laws.proofs.VolumeRows.{above-volumes}

pub write-leaves : WriteLeavesBytes
write-leaves m account reading key index digest bytes stated given e =
    let made = (write-asked m account reading key index digest bytes stated e).2 in
    let below = given key made.row made.was_there in
    let same = ap (λ own. next_volume_number (record m { own = own }) key.account) made.accounts in
    (omega (arith, below, same), m.stamps, λ row is. made.block)

pub other-keeps : OtherCallKeepsDisk
other-keeps m account reading request key index bytes has none =
    let below = has.0 in
    let more = above-volumes m (record { call = record { account = account; request = request }; reading = reading }) key.account in
    (omega (arith, below, more), has.1, holds-step key index (Some (record { stamp = has.1; bytes = bytes })) m account reading request has.2 has.0 none)

pub other-keeps-blank : OtherCallKeepsBlank
other-keeps-blank m account reading request key index has none =
    let below = has.0 in
    let more = above-volumes m (record { call = record { account = account; request = request }; reading = reading }) key.account in
    (omega (arith, below, more), holds-step key index None m account reading request has.1 has.0 none)

pub read-answers : ReadAnswersBytes
read-answers m account reading key index bytes has =
    step-cases (λ d. (d.1 ≡ BlockRead (sha256 bytes) bytes) ⊎ ((refusal : Refusal) × (d.1 ≡ Refused refusal))) m account reading (ReadVolumeBlock key index)
    (λ row owned is within. inl (ap (block_or_zeros sha256) (has.2 row is)))
    (λ refusal. inr (refusal, refl))

pub blank-reads : BlankReadsZeros
blank-reads m account reading key index has =
    step-cases (λ d. (d.1 ≡ ZeroBlockRead) ⊎ ((refusal : Refusal) × (d.1 ≡ Refused refusal))) m account reading (ReadVolumeBlock key index)
    (λ row owned is within. inl (ap (block_or_zeros sha256) (has.1 row is)))
    (λ refusal. inr (refusal, refl))

abbrev block_in : ℕ → Option WholeArray → Option WholeBlock
block_in index o = fin.get (unwrap_or o fin.empty) index

pub volume-has : VolumeHasBytes
volume-has m account reading origin size tags token created gib from shown key index bytes unused has e =
    let new = (step m account reading (CreateVolume (Some origin) size tags token)).0 in
    let made = (volume-asked m account reading (Some origin) size tags token created gib from shown key unused e).1 in
    let (s, may, tier, line, blocks, least, size_is) = made.begins in
    let there = has.2 s may.is_there (never_failed s.row.completed _ may.completed) in
    let number = made.number_is in
    let next = made.volume_numbers in
    let owner = ap (next_volume_number new) made.owned in
    (omega (arith, number, next, owner), has.1, λ row is. ap (block_in index) made.disk_is ∙ ap (λ a. fin.get a index) blocks ∙ there)

pub new-blank : NewVolumeIsBlank
new-blank m account reading size tags token created gib from shown key index unused e =
    let new = (step m account reading (CreateVolume None size tags token)).0 in
    let made = (volume-asked m account reading None size tags token created gib from shown key unused e).1 in
    let number = made.number_is in
    let next = made.volume_numbers in
    let owner = ap (next_volume_number new) made.owned in
    (omega (arith, number, next, owner), λ row is. ap (block_in index) made.disk_is ∙ ap (λ a. fin.get a index) made.begins.2 ∙ fin.get-empty {X = WholeBlock} nat_cmp index)

pub snapshot-has : SnapshotHasBytes
snapshot-has m account reading volume text tags created view index bytes has e =
    let new = (step m account reading (CreateSnapshot volume text tags)).0 in
    let made = (snapshot-asked m account reading volume text tags created view e).1 in
    let number = ap (λ (k : SnapKey). k.number) made.key_is in
    let owner = ap (λ (k : SnapKey). next_number new k.account) made.key_is in
    let next = made.snapshot_numbers in
    let same = numbered (fin.get new.own view.key.account) in (
      omega (arith, number, owner, next, same),
      has.1,
      λ s is stands. ap (λ (s : Snapshot). fin.get s.array index) (only (sym is ∙ made.is_there)) ∙ ap (λ a. fin.get a index) made.blocks ∙ has.2 made.of made.was_there,
    )
  where
    only : {a b : Snapshot} → Some a ≡ Some b → a ≡ b
    only e = cc
