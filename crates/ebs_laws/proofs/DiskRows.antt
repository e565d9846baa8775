-- What calls do to the blocks of volumes.
use Rattle.std.proofs.Common.{◌≡◌, ◌≢◌, ℕ, ◌<◌, List, Option, Some, None, unwrap_or, sym, ap, subst, ◌∙◌, refl, arith}
use Rattle.std.specs.FinMap as fin
use Rattle.std.specs.FinMap.{nat_cmp-IsAntisymmetric}
use Rattle.std.specs.Cmp.{nat_cmp_total}
use Rattle.ebs_model.specs.declared.keys.VolKey.{VolKey}
use Rattle.ebs_model.specs.declared.keys.Moment.{Moment}
use Rattle.ebs_model.specs.declared.rows.VolRow.{VolRow}
use Rattle.ebs_model.specs.declared.request.Request.{Request}
use Rattle.ebs_model.specs.declared.request.Request.TheVariants.{StartSnapshot, PutSnapshotBlock, CompleteSnapshot, DeleteSnapshot, CreateVolume, CreateSnapshot, WriteVolumeBlock, ReadVolumeBlock, DescribeVolume, DeleteVolume}
use Rattle.ebs_model.specs.inner.Orders.{vols_total, exact_vols}
use Rattle.ebs_model.specs.Arrays.{WholeBlock, WholeArray}
use Rattle.ebs_model.specs.Machine.{Machine, advance, disk_of}
use Rattle.ebs_model.specs.Step.{step}
use Rattle.ebs_laws.specs.Words.{moment_at, next_volume_number}
use Rattle.ebs_laws.specs.Puts as puts
use Rattle.ebs_laws.specs.AccessLaws.{IsAccepted, OthersChangeNoDisk, NamesVolume, VolumeIsForOwner}
use Rattle.ebs_laws.specs.DiskLaws.{AsksWrite, IsOnVolume, VolumesLeaveSnapshots, VolumeDeletionLeavesOthers, SnapshotDeletionLeavesVolumes}
use Rattle.ebs_laws.proofs.Cases.{Outcome, Accepted, step-cases}
use Rattle.ebs_laws.proofs.Others.{others}
use Rattle.ebs_laws.proofs.Maps.{get-itself, get-other, get-gone, get-left, by_key}
use Rattle.ebs_laws.proofs.VolumeOrder.{volume-numbered}
use Rattle.ebs_laws.proofs.Whole.{own_of, written, block_now}

-- another's volumes keep their blocks
module _ (m : Machine) (account : ℕ) (key : VolKey) (other : key.account ≢ account) where
  abbrev SameDisk : Outcome → Type 0
  SameDisk d = fin.get d.0.disks key ≡ fin.get m.disks key

  disk-accepted : (request : Request) → Accepted SameDisk m account request
  disk-accepted (StartSnapshot size parent text tags token timeout) = (λ from tests. refl, λ row tests. refl)
  disk-accepted (PutSnapshotBlock k index digest bytes) = λ s is passes tests. refl
  disk-accepted (CompleteSnapshot k count checksum) = λ s is passes tests. refl
  disk-accepted request = others SameDisk m account request (λ answer says. refl) (λ k s row answer is same says. refl) (λ k s answer is same says. refl)
      (λ v row array token answer is says. get-other vols_total exact_vols m.disks v array key (λ e. other (ap (λ (k : VolKey). k.account) (e ∙ is.key_is))))
      (λ v row answer there is says. get-left vols_total exact_vols m.disks v key (λ e. other (ap (λ (k : VolKey). k.account) e ∙ sym is.owned)))
      (λ v row text tags is made. refl)
      (λ v row i digest bytes is asked. get-other vols_total exact_vols m.disks v _ key (λ e. other (ap (λ (k : VolKey). k.account) e ∙ sym asked.owned)))
      (λ command change answer is says. refl)
      (λ snaps own policies answer is says. refl)

pub others-disks : OthersChangeNoDisk
others-disks m account reading request key other =
    let at = advance m (moment_at m reading) in
    step-cases (SameDisk at account key other) m account reading request (disk-accepted at account key other request) (λ refusal. refl)

-- who names a volume owns it
module _ (m : Machine) (account : ℕ) (key : VolKey) where
  abbrev Owned : Outcome → Type 0
  Owned d = IsAccepted d.1 → (row : VolRow) × (fin.get m.vols key ≡ Some row) × (account ≡ key.account)

  found-so : (k : VolKey) (row : VolRow) → k ≡ key → account ≡ k.account → fin.get m.vols k ≡ Some row → (row : VolRow) × (fin.get m.vols key ≡ Some row) × (account ≡ key.account)
  found-so k row same owned is = (row, ap (fin.get m.vols) (sym same) ∙ is, owned ∙ ap (λ (k : VolKey). k.account) same)

  owned-accepted : (request : Request) → NamesVolume key request → Accepted Owned m account request
  owned-accepted (CreateSnapshot k text tags) same = λ row owned is tests accepted. found-so k row same owned is
  owned-accepted (WriteVolumeBlock k index digest bytes) same = λ row owned is tests accepted. found-so k row same owned is
  owned-accepted (ReadVolumeBlock k index) same = λ row owned is within accepted. found-so k row same owned is
  owned-accepted (DescribeVolume k) same = λ row owned is accepted. found-so k row same owned is
  owned-accepted (DeleteVolume k) same = λ row owned is accepted. found-so k row same owned is
  owned-accepted request same = absurd same

pub volume-owner : VolumeIsForOwner
volume-owner m account reading request key names =
    let at = advance m (moment_at m reading) in
    step-cases (Owned at account key) m account reading request (owned-accepted at account key request names) (λ refusal accepted. absurd (accepted refusal refl))

-- what stands at an index, or that nothing does, stays until a write there
module _ (key : VolKey) (index : ℕ) (block : Option WholeBlock) where
  abbrev pub Holds : Machine → Type 0
  Holds m = (row : VolRow) → fin.get m.vols key ≡ Some row → fin.get (disk_of m key) index ≡ block

  module _ (m : Machine) (h : Holds m) (given : key.number < next_volume_number m key.account) where
    abbrev Kept : Request → Outcome → Type 0
    Kept request d = (AsksWrite key index request → puts.IsAccepted d.1 → ⊥) → Holds d.0

    abbrev block_in : Option WholeArray → Option WholeBlock
    block_in o = fin.get (unwrap_or o fin.empty) index

    nothing : {row : VolRow} → None ≡ Some row → ⊥
    nothing e = cc

    -- beside another volume that is created or taken out
    holds-created : (caller : ℕ) (v : VolKey) (new : VolRow) (array : WholeArray) → v ≡ record { account = caller; number = (own_of m caller).next_vol } → (row : VolRow) → fin.get (fin.insert m.vols v new) key ≡ Some row → block_in (fin.get (fin.insert m.disks v array) key) ≡ block
    holds-created caller v new array is row e =
        let other : key ≢ v = λ same.
        let number = ap (λ (k : VolKey). k.number) (same ∙ is) in
        let next = ap (λ (k : VolKey). next_volume_number m k.account) (same ∙ is) in
        let was = volume-numbered (fin.get m.own caller) in
        absurd (omega (arith, number, next, was, given)) in
        ap block_in (get-other vols_total exact_vols m.disks v array key other) ∙ h row (sym (get-other vols_total exact_vols m.vols v new key other) ∙ e)

    holds-dropped : (v : VolKey) (row : VolRow) → fin.get (fin.remove m.vols v) key ≡ Some row → block_in (fin.get (fin.remove m.disks v) key) ≡ block
    holds-dropped v row e = by_key vols_total exact_vols (block_in (fin.get (fin.remove m.disks v) key) ≡ block) key v
        (λ same. absurd (nothing (sym (ap (fin.get (fin.remove m.vols v)) same ∙ get-gone vols_total exact_vols m.vols v) ∙ e)))
        (λ other. ap block_in (get-left vols_total exact_vols m.disks v key other) ∙ h row (sym (get-left vols_total exact_vols m.vols v key other) ∙ e))

    holds-written : (v : VolKey) (i : ℕ) (bytes : List ℕ) → (v ≡ key → i ≡ index → ⊥) → Holds (written m v i bytes)
    holds-written v i bytes elsewhere row e = by_key vols_total exact_vols (block_in (fin.get (written m v i bytes).disks key) ≡ block) key v
        (λ same.
        ap block_in (ap (fin.get (written m v i bytes).disks) same ∙ get-itself vols_total exact_vols m.disks v (fin.insert (disk_of m v) i (block_now m bytes)))
        ∙ get-other nat_cmp_total nat_cmp-IsAntisymmetric (disk_of m v) i (block_now m bytes) index (λ at. elsewhere (sym same) (sym at))
        ∙ ap (λ k. fin.get (disk_of m k) index) (sym same) ∙ h row e)
        (λ other. ap block_in (get-other vols_total exact_vols m.disks v (fin.insert (disk_of m v) i (block_now m bytes)) key other) ∙ h row e)

    holds-accepted : (caller : ℕ) (request : Request) → Accepted (Kept request) m caller request
    holds-accepted caller (StartSnapshot size parent text tags token timeout) = (λ from tests none. h, λ row tests none. h)
    holds-accepted caller (PutSnapshotBlock k i digest bytes) = λ s is passes tests none. h
    holds-accepted caller (CompleteSnapshot k count checksum) = λ s is passes tests none. h
    holds-accepted caller request = others (Kept request) m caller request (λ answer says none. h) (λ k s row answer is same says none. h) (λ k s answer is same says none. h)
        (λ v row array token answer is says none. holds-created caller v row array is.key_is) (λ v row answer there is says none. holds-dropped v) (λ v row text tags is made none. h)
        (λ v row i digest bytes is asked none. holds-written v i bytes (λ same at. none (subst (AsksWrite key index) (sym asked.request_is) (same, at)) (digest, refl)))
        (λ command change answer is says none. h)
        (λ snaps own policies answer is says none. h)

  pub holds-step : (m : Machine) (account : ℕ) (reading : Moment) (request : Request) → Holds m → key.number < next_volume_number m key.account → (AsksWrite key index request → puts.IsAccepted (step m account reading request).1 → ⊥) → Holds (step m account reading request).0
  holds-step m account reading request h given =
      let at = advance m (moment_at m reading) in
      step-cases (Kept at h given request) m account reading request (holds-accepted at h given account request) (λ refusal none. h)

-- what calls leave
module _ (m : Machine) (account : ℕ) where
  abbrev SameSnaps : Outcome → Type 0
  SameSnaps d = d.0.snaps ≡ m.snaps

  snaps-accepted : (request : Request) → IsOnVolume request → Accepted SameSnaps m account request
  snaps-accepted (CreateVolume from size tags token) on = (λ begun tests. refl, λ row tests. refl)
  snaps-accepted (WriteVolumeBlock key index digest bytes) on = λ row owned is tests. refl
  snaps-accepted (ReadVolumeBlock key index) on = λ row owned is within. refl
  snaps-accepted (DescribeVolume key) on = λ row owned is. refl
  snaps-accepted (DeleteVolume key) on = λ row owned is. refl
  snaps-accepted request on = absurd on

pub leave-snapshots : VolumesLeaveSnapshots
leave-snapshots m account reading request on =
    let at = advance m (moment_at m reading) in
    step-cases (SameSnaps at account) m account reading request (snaps-accepted at account request on) (λ refusal. refl)

pub deletion-leaves : VolumeDeletionLeavesOthers
deletion-leaves m account reading key other apart =
    step-cases (λ d. (fin.get d.0.vols other ≡ fin.get m.vols other) × (fin.get d.0.disks other ≡ fin.get m.disks other)) m account reading (DeleteVolume key)
    (λ row owned is. (get-left vols_total exact_vols m.vols key other apart, get-left vols_total exact_vols m.disks key other apart))
    (λ refusal. (refl, refl))

pub deletion-leaves-volumes : SnapshotDeletionLeavesVolumes
deletion-leaves-volumes m account reading key =
    step-cases (λ d. (d.0.vols ≡ m.vols) × (d.0.disks ≡ m.disks)) m account reading (DeleteSnapshot key) (λ s is passes closed unlocked. (λ none. (refl, refl), λ days some. (refl, refl))) (λ refusal. (refl, refl))
