-- The tier of a snapshot, in fields of its row.
use Rattle.std.specs.Prelude.{◌≡◌, ◌≢◌, ℕ, ◌+◌, ◌*◌, ◌≤◌, true, false, List, map, take, nat_le}
use Rattle.std.specs.List.{filter}
use Rattle.std.specs.FinMap as fin
use Rattle.sha2.specs.Sha256.{sha256}
use Rattle.std.specs.declared.option.Option.{Option}
use Rattle.std.specs.declared.option.Option.TheVariants.{None, Some}
use Rattle.std.specs.declared.result.Result.TheVariants.{Ok}
use Rattle.ebs_model.specs.declared.keys.SnapKey.{SnapKey}
use Rattle.ebs_model.specs.declared.keys.Moment.{Moment}
use Rattle.ebs_model.specs.declared.rows.Tier.{Tier}
use Rattle.ebs_model.specs.declared.rows.Tier.TheVariants.{Standard, Archived, Temporary}
use Rattle.ebs_model.specs.declared.entries.BlockEntry.{BlockEntry}
use Rattle.ebs_model.specs.declared.request.Request.{Request}
use Rattle.ebs_model.specs.declared.request.Request.TheVariants.{ListSnapshotBlocks, ListChangedBlocks, GetSnapshotBlock, ArchiveSnapshot, RestoreTier}
use Rattle.ebs_model.specs.declared.answer.Answer.TheVariants.{BlockRead, BlockList, Refused}
use Rattle.ebs_model.specs.declared.answer.Kind.TheVariants.{Snapshot as snapshot}
use Rattle.ebs_model.specs.declared.answer.StateName.TheVariants as state
use Rattle.ebs_model.specs.declared.answer.Refusal.TheVariants.{NotFound, WrongState}
use Rattle.ebs_model.specs.Arrays.{WholeBlock}
use Rattle.ebs_model.specs.Limits.{bad_member, is_page_size, has_ten_digits}
use Rattle.ebs_model.specs.Tokens.{is_block_token}
use Rattle.ebs_model.specs.Time.{Snapshot}
use Rattle.ebs_model.specs.Machine.{Machine, advance}
use Rattle.ebs_model.specs.Step.{refuse_size, refuse_digest, step}
use Rattle.ebs_laws.specs.Words.{second_of, moment_at, MayRead, is_repeat}
use Rattle.ebs_model.specs.Timed.{Timed, after_all}
use Rattle.ebs_laws.specs.Uploads.{NumbersGiven}
use Rattle.ebs_laws.specs.HiddenLaws.{Names}
use Rattle.ebs_laws.specs.OneRow.{WritesRow}

-- a snapshot of the standard tier is archived, and nothing else of its row changes
pub record IsArchivedSo (old new : Machine) (account : ℕ) (key : SnapKey) : Type 0 where
  pub one : WritesRow old new account key
  pub was_standard : one.found.row.tier ≡ Standard
  pub rest : one.row ≡ record one.found.row { tier = Archived }

-- for good, or so many days of 86400 seconds from this second on
abbrev pub tier_for : Option ℕ → ℕ → Tier
tier_for None now = Standard
tier_for (Some days) now = Temporary (record { second = now + 86400 * days })

-- a snapshot that wasn't of the standard tier is restored, and nothing else of its row changes
pub record IsRestoredSo (old new : Machine) (account : ℕ) (key : SnapKey) (days : Option ℕ) (now : ℕ) : Type 0 where
  pub one : WritesRow old new account key
  pub not_standard : one.found.row.tier ≢ Standard
  pub rest : one.row ≡ record one.found.row { tier = tier_for days now }

-- an accepted archive and an accepted restore
abbrev pub ArchiveIsAsAsked : Type 0
ArchiveIsAsAsked =
    (m : Machine) (account : ℕ) (reading : Moment) (key : SnapKey) → let s = step m account reading (ArchiveSnapshot key) in
    s.0.changes ≡ m.changes + 1 → IsArchivedSo (advance m (moment_at m reading)) s.0 account key

abbrev pub RestoreIsAsAsked : Type 0
RestoreIsAsAsked =
    (m : Machine) (account : ℕ) (reading : Moment) (key : SnapKey) (days : Option ℕ) → let s = step m account reading (RestoreTier key days) in
    s.0.changes ≡ m.changes + 1 → IsRestoredSo (advance m (moment_at m reading)) s.0 account key days (second_of m reading)

-- a block that is read of a completed snapshot after some calls is the one that was there before them
abbrev pub LaterReadIsTheBlock : Type 0
LaterReadIsTheBlock =
    (m : Machine) (turns : List Timed) (key : SnapKey) (s : Snapshot) (index : ℕ) (block : WholeBlock) (account : ℕ) (reading : Moment) (token digest bytes : List ℕ)
    → NumbersGiven m → fin.get m.snaps key ≡ Some s → s.row.completed ≡ true → fin.get s.array index ≡ Some block
    → (step (after_all m turns) account reading (GetSnapshotBlock key index token)).1 ≡ BlockRead digest bytes → (bytes ≡ block.bytes) × (digest ≡ sha256 block.bytes)

-- and each who may read the snapshot then reads it
abbrev pub LaterReaderGetsBlock : Type 0
LaterReaderGetsBlock =
    (m : Machine) (turns : List Timed) (key : SnapKey) (s : Snapshot) (index : ℕ) (block : WholeBlock) (account : ℕ) (reading : Moment) (token : List ℕ) (t : Snapshot)
    → let later = after_all m turns in let now = second_of later reading in
    NumbersGiven m → fin.get m.snaps key ≡ Some s → s.row.completed ≡ true → fin.get s.array index ≡ Some block
    → MayRead later account key now t → is_block_token later.secret key index now token ≡ true
    → (step later account reading (GetSnapshotBlock key index token)).1 ≡ BlockRead (sha256 block.bytes) block.bytes

-- a list of it then has the indexes of all the blocks that were there
abbrev pub LaterListIsOfTheBlocks : Type 0
LaterListIsOfTheBlocks =
    (m : Machine) (turns : List Timed) (key : SnapKey) (s : Snapshot) (account : ℕ) (reading : Moment) (most start : ℕ) (entries : List BlockEntry) (expiry : Moment) (next : Option (List ℕ)) (size : ℕ)
    → NumbersGiven m → fin.get m.snaps key ≡ Some s → s.row.completed ≡ true
    → (step (after_all m turns) account reading (ListSnapshotBlocks key None most start)).1 ≡ BlockList entries expiry next size
    → map (λ e. e.index) entries ≡ take most (filter (λ index. nat_le start index) (fin.keys s.array))

-- the archive, or a restore whose end is reached
abbrev pub IsArchived : Tier → ℕ → Type 0
IsArchived Standard now = ⊥
IsArchived Archived now = Unit {0}
IsArchived (Temporary until) now = until.second ≤ now

-- a completed snapshot outside the bin that is archived at this second
pub record StandsArchived (m : Machine) (key : SnapKey) (now : ℕ) : Type 0 where
  pub found : Snapshot
  pub is_there : fin.get m.snaps key ≡ Some found
  pub completed : found.row.completed ≡ true
  pub not_binned : found.row.bin_end ≡ None
  pub archived : IsArchived found.row.tier now

-- to its owner it is archived: no block of it is read, and no list
abbrev pub ArchivedBlockIsRefused : Type 0
ArchivedBlockIsRefused =
    (m : Machine) (account : ℕ) (reading : Moment) (key : SnapKey) (index : ℕ) (token : List ℕ) → StandsArchived m key (second_of m reading) → account ≡ key.account
    → has_ten_digits index ≡ true → (step m account reading (GetSnapshotBlock key index token)).1 ≡ Refused (WrongState state.Archived)

abbrev pub ArchivedListIsRefused : Type 0
ArchivedListIsRefused =
    (m : Machine) (account : ℕ) (reading : Moment) (key : SnapKey) (page : Option (List ℕ)) (most start : ℕ) → StandsArchived m key (second_of m reading) → account ≡ key.account
    → is_page_size most ≡ true → has_ten_digits start ≡ true → (step m account reading (ListSnapshotBlocks key page most start)).1 ≡ Refused (WrongState state.Archived)

-- nor a comparison with any other, or of one that may be read with it
abbrev pub ArchivedFirstIsRefused : Type 0
ArchivedFirstIsRefused =
    (m : Machine) (account : ℕ) (reading : Moment) (first second : SnapKey) (page : Option (List ℕ)) (most start : ℕ) → StandsArchived m first (second_of m reading) → account ≡ first.account
    → is_page_size most ≡ true → has_ten_digits start ≡ true → (step m account reading (ListChangedBlocks first second page most start)).1 ≡ Refused (WrongState state.Archived)

abbrev pub ArchivedSecondIsRefused : Type 0
ArchivedSecondIsRefused =
    (m : Machine) (account : ℕ) (reading : Moment) (first second : SnapKey) (a : Snapshot) (page : Option (List ℕ)) (most start : ℕ)
    → MayRead m account first (second_of m reading) a → StandsArchived m second (second_of m reading) → account ≡ second.account
    → is_page_size most ≡ true → has_ten_digits start ≡ true → (step m account reading (ListChangedBlocks first second page most start)).1 ≡ Refused (WrongState state.Archived)

-- to anybody else it isn't there, but for a start or a creation that repeats another
abbrev pub ArchivedIsHidden : Type 0
ArchivedIsHidden =
    (m : Machine) (account : ℕ) (reading : Moment) (request : Request) (key : SnapKey) → StandsArchived m key (second_of m reading) → account ≢ key.account → Names key request → is_repeat m account request ≡ false
    → bad_member request ≡ None → refuse_size request ≡ Ok tt → refuse_digest sha256 request ≡ Ok tt → (step m account reading request).1 ≡ Refused (NotFound snapshot)
