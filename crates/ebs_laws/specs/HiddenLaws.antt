-- What a snapshot that was withdrawn from an account is to it, in fields of rows.
use Rattle.std.specs.Prelude.{◌≡◌, ◌≢◌, ◌⊎◌, ℕ, Bool, true, false, List}
use Rattle.std.specs.FinMap as fin
use Rattle.sha2.specs.Sha256.{sha256}
use Rattle.std.specs.declared.option.Option.{Option}
use Rattle.std.specs.declared.option.Option.TheVariants.{None, Some}
use Rattle.std.specs.declared.result.Result.TheVariants.{Ok}
use Rattle.ebs_model.specs.declared.keys.SnapKey.{SnapKey}
use Rattle.ebs_model.specs.declared.keys.Moment.{Moment}
use Rattle.ebs_model.specs.declared.request.Request.{Request}
use Rattle.ebs_model.specs.declared.request.Request.TheVariants.{StartSnapshot, PutSnapshotBlock, CompleteSnapshot, ListSnapshotBlocks, ListChangedBlocks, GetSnapshotBlock, DescribeSnapshot, DeleteSnapshot, ModifyPermission, LockSnapshot, UnlockSnapshot, ArchiveSnapshot, RestoreTier, CreateVolume, RestoreFromBin}
use Rattle.ebs_model.specs.declared.answer.Answer.TheVariants.{Done, Refused}
use Rattle.ebs_model.specs.declared.answer.Kind.TheVariants.{Snapshot as snapshot}
use Rattle.ebs_model.specs.declared.answer.Refusal.TheVariants.{NotFound}
use Rattle.ebs_model.specs.Limits.{bad_member, is_page_size, has_ten_digits}
use Rattle.ebs_model.specs.Time.{Snapshot}
use Rattle.ebs_model.specs.Machine.{Machine}
use Rattle.ebs_model.specs.Step.{refuse_size, refuse_digest, step}
use Rattle.ebs_laws.specs.Words.{second_of, MayRead, is_repeat}
use Rattle.ebs_laws.specs.SharingLaws.{is_among}
use Rattle.ebs_laws.specs.ShownLaws.{IsHidden}

-- the account is removed, and the snapshot isn't public afterwards: it is hidden from the account
abbrev pub RemovedIsHidden : Type 0
RemovedIsHidden =
    (m : Machine) (account : ℕ) (reading : Moment) (key : SnapKey) (add : List ℕ) (add_all : Bool) (remove : List ℕ) (remove_all : Bool) (other : ℕ)
    → let s = step m account reading (ModifyPermission key add add_all remove remove_all) in s.1 ≡ Done → is_among other remove ≡ true → other ≢ key.account
    → ((new : Snapshot) → fin.get s.0.snaps key ≡ Some new → new.row.public ≡ false) → IsHidden s.0 other key

-- the snapshot is shared with the account by this request, or with all
abbrev pub AddsTo : ℕ → SnapKey → Request → Type 0
AddsTo account key (ModifyPermission k add add_all remove remove_all) = (k ≡ key) × ((is_among account add ≡ true) ⊎ (add_all ≡ true))
AddsTo account key request = ⊥

-- and it stays hidden by any call that doesn't add the account again
abbrev pub HiddenStays : Type 0
HiddenStays =
    (m : Machine) (caller : ℕ) (reading : Moment) (request : Request) (account : ℕ) (key : SnapKey) → IsHidden m account key → account ≢ key.account
    → (AddsTo account key request → ⊥) → IsHidden (step m caller reading request).0 account key

-- the first snapshot that a request names: of an upload that begins its parent, of a volume its origin
abbrev pub Names : SnapKey → Request → Type 0
Names key (StartSnapshot size parent description tags token timeout) = parent ≡ Some key
Names key (PutSnapshotBlock k index digest bytes) = k ≡ key
Names key (CompleteSnapshot k count checksum) = k ≡ key
Names key (ListSnapshotBlocks k page most start) = k ≡ key
Names key (ListChangedBlocks first second page most start) = first ≡ key
Names key (GetSnapshotBlock k index token) = k ≡ key
Names key (DescribeSnapshot k) = k ≡ key
Names key (DeleteSnapshot k) = k ≡ key
Names key (ModifyPermission k add add_all remove remove_all) = k ≡ key
Names key (LockSnapshot k mode term cool_hours) = k ≡ key
Names key (UnlockSnapshot k) = k ≡ key
Names key (ArchiveSnapshot k) = k ≡ key
Names key (RestoreTier k days) = k ≡ key
Names key (CreateVolume origin size tags token) = origin ≡ Some key
Names key (RestoreFromBin k) = k ≡ key
Names key request = ⊥

-- it is asked to be taken out of the bin
abbrev pub AsksRestore : Request → Type 0
AsksRestore (RestoreFromBin key) = Unit {0}
AsksRestore request = ⊥

-- a request within its limits that names it, and repeats no start and no creation, is refused as if it weren't there
abbrev pub HiddenIsRefused : Type 0
HiddenIsRefused =
    (m : Machine) (account : ℕ) (reading : Moment) (request : Request) (key : SnapKey) → IsHidden m account key → Names key request → is_repeat m account request ≡ false
    → bad_member request ≡ None → refuse_size request ≡ Ok tt → refuse_digest sha256 request ≡ Ok tt → (step m account reading request).1 ≡ Refused (NotFound snapshot)

-- and so is a comparison of one that may be read with it
abbrev pub HiddenIsNotCompared : Type 0
HiddenIsNotCompared =
    (m : Machine) (account : ℕ) (reading : Moment) (first second : SnapKey) (page : Option (List ℕ)) (most start : ℕ) (a : Snapshot) → MayRead m account first (second_of m reading) a → IsHidden m account second
    → is_page_size most ≡ true → has_ten_digits start ≡ true → (step m account reading (ListChangedBlocks first second page most start)).1 ≡ Refused (NotFound snapshot)
