-- What a volume's row is, and to whom it is there (EBS API reference, CreateVolume, DescribeVolumes, DeleteVolume; EBS User Guide, volumes).
use Rattle.std.specs.Prelude.{◌≡◌, ◌≢◌, ◌⊎◌, ℕ, ◌+◌, ◌^◌, ◌≤◌, ◌<◌, ◌==◌, Bool, true, false, List, [], ◌∷◌}
use Rattle.std.specs.List.{count_by}
use Rattle.std.specs.FinMap as fin
use Rattle.std.specs.declared.option.Option.{Option}
use Rattle.std.specs.declared.option.Option.TheVariants.{None, Some}
use Rattle.std.specs.declared.result.Result.TheVariants.{Ok}
use Rattle.ebs_model.specs.declared.keys.SnapKey.{SnapKey}
use Rattle.ebs_model.specs.declared.keys.VolKey.{VolKey}
use Rattle.ebs_model.specs.declared.keys.TokenKey.{TokenKey}
use Rattle.ebs_model.specs.declared.keys.Moment.{Moment}
use Rattle.ebs_model.specs.declared.tags.Tag.{Tag}
use Rattle.ebs_model.specs.declared.rows.Line.{Line}
use Rattle.ebs_model.specs.declared.rows.VolRow.{VolRow}
use Rattle.ebs_model.specs.declared.rows.TokenRow.{TokenRow}
use Rattle.ebs_model.specs.declared.request.Request.{Request}
use Rattle.ebs_model.specs.declared.request.Request.TheVariants.{StartSnapshot, CreateVolume, DescribeVolume, DeleteVolume}
use Rattle.ebs_model.specs.declared.answer.Answer.TheVariants.{Started, VolumeShown, Done, Refused}
use Rattle.ebs_model.specs.declared.answer.Kind.TheVariants.{Volume as volume}
use Rattle.ebs_model.specs.declared.answer.FirstKey.TheVariants.{Snap, Vol}
use Rattle.ebs_model.specs.declared.answer.Refusal.TheVariants.{NotFound, TokenConflict}
use Rattle.sha2.specs.Sha256.{sha256}
use Rattle.ebs_model.specs.Arrays.{WholeArray}
use Rattle.ebs_model.specs.Limits.{bad_member}
use Rattle.ebs_model.specs.Calls.Start.{first_key}
use Rattle.ebs_model.specs.Time.{Snapshot}
use Rattle.ebs_model.specs.Machine.{Machine, advance, empty_machine}
use Rattle.ebs_model.specs.Step.{refuse_size, refuse_digest, step}
use Rattle.ebs_laws.specs.AccessLaws.{IsAccepted, NamesVolume}
use Rattle.ebs_model.specs.Timed.{Timed, turn, after_all}
use Rattle.ebs_laws.specs.Words.{second_of, moment_at, MayRead, IsNoRestore, IsUnused, use_of, is_repeat, created_id, next_number, next_volume_number}

-- the line of a volume that begins with nothing
abbrev pub own_line : VolKey → Line
own_line key = record { of_volume = true; account = key.account; number = key.number }

-- a volume of nothing has the asked size, a line of its own and no block; one of a snapshot has the snapshot's line and blocks and at least its size, and its
-- very size where none is asked: the caller may read the snapshot then, and it isn't restored for a time
abbrev pub BeginsWith : Machine → ℕ → ℕ → Option SnapKey → Option ℕ → VolKey → VolRow → WholeArray → Type 0
BeginsWith m account now None size key row blocks = (size ≡ Some row.size) × (row.line ≡ own_line key) × (blocks ≡ fin.empty)
BeginsWith m account now (Some from) size key row blocks =
    (s : Snapshot) × MayRead m account from now s × IsNoRestore s.row.tier × (row.line ≡ s.row.line) × (blocks ≡ s.array) × (s.row.size ≤ row.size) × ((size ≡ Some row.size) ⊎ ((size ≡ None) × (row.size ≡ s.row.size)))

-- one volume more, with the account's next number and what was asked for, and its client token's use; all else is what time leaves of it
pub record IsCreated (m : Machine) (account : ℕ) (reading : Moment) (from : Option SnapKey) (size : Option ℕ) (tags : List Tag) (token : Option (List ℕ)) (gib : ℕ) (shown_from : Option SnapKey) (shown : List Tag) (key : VolKey) (new : Machine) : Type 0 where
  pub row : VolRow
  pub is_there : fin.get new.vols key ≡ Some row
  pub owned : key.account ≡ account
  pub number_is : key.number ≡ next_volume_number m account
  pub number_fits : key.number < 2 ^ 28
  pub key_is : row.key ≡ key
  pub origin_is : row.origin ≡ from
  pub tags_are : row.tags ≡ tags
  pub blocks : WholeArray
  pub disk_is : fin.get new.disks key ≡ Some blocks
  pub begins : BeginsWith m account (second_of m reading) from size key row blocks
  pub size_is : gib ≡ row.size
  pub from_is : shown_from ≡ from
  pub shown_are : shown ≡ tags
  pub few : count_by (λ (e : VolKey × VolRow). account == e.0.account) (fin.entries m.vols) < 1000
  pub other_volumes : (k : VolKey) → k ≢ key → fin.get new.vols k ≡ fin.get m.vols k
  pub other_disks : (k : VolKey) → k ≢ key → fin.get new.disks k ≡ fin.get m.disks k
  pub rules : new.books ≡ m.books
  pub policies : new.policies ≡ m.policies
  pub snapshots : new.snaps ≡ (advance m (moment_at m reading)).snaps
  pub other_tokens : (k : TokenKey) → (k.account ≡ account → token ≡ Some k.text → ⊥) → fin.get new.tokens k ≡ fin.get m.tokens k
  pub snapshot_numbers : (a : ℕ) → next_number new a ≡ next_number m a
  pub volume_numbers : next_volume_number new account ≡ next_volume_number m account + 1
  pub other_numbers : (a : ℕ) → a ≢ account → fin.get new.own a ≡ fin.get m.own a

-- an accepted creation that repeats no other
abbrev pub VolumeIsAsAsked : Type 0
VolumeIsAsAsked =
    (m : Machine) (account : ℕ) (reading : Moment) (from : Option SnapKey) (size : Option ℕ) (tags : List Tag) (token : Option (List ℕ)) (created : Bool) (gib : ℕ) (shown_from : Option SnapKey) (shown : List Tag) (key : VolKey)
    → let s = step m account reading (CreateVolume from size tags token) in IsUnused m account token → s.1 ≡ VolumeShown created gib shown_from shown key
    → (created ≡ true) × IsCreated m account reading from size tags token gib shown_from shown key s.0

-- the owner is shown its volume's row, and nothing changes but by time
abbrev pub OwnerIsShown : Type 0
OwnerIsShown =
    (m : Machine) (account : ℕ) (reading : Moment) (key : VolKey) (row : VolRow) → account ≡ key.account → fin.get m.vols key ≡ Some row
    → step m account reading (DescribeVolume key) ≡ (advance m (moment_at m reading), VolumeShown false row.size row.origin row.tags key)

-- a volume is taken out with its blocks; its number isn't given again, and all else is what time leaves of it
pub record IsTakenOut (m : Machine) (reading : Moment) (key : VolKey) (new : Machine) : Type 0 where
  pub gone : fin.get new.vols key ≡ None
  pub no_blocks : fin.get new.disks key ≡ None
  pub other_volumes : (k : VolKey) → k ≢ key → fin.get new.vols k ≡ fin.get m.vols k
  pub other_disks : (k : VolKey) → k ≢ key → fin.get new.disks k ≡ fin.get m.disks k
  pub rules : new.books ≡ m.books
  pub policies : new.policies ≡ m.policies
  pub snapshots : new.snaps ≡ (advance m (moment_at m reading)).snaps
  pub tokens : new.tokens ≡ m.tokens
  pub accounts : new.own ≡ m.own

-- the owner's deletion is accepted, whatever became of the volume's origin, while the store has room for a further change
abbrev pub OwnerTakesOut : Type 0
OwnerTakesOut =
    (m : Machine) (account : ℕ) (reading : Moment) (key : VolKey) (row : VolRow) → account ≡ key.account → fin.get m.vols key ≡ Some row → m.changes < 2 ^ 40
    → let s = step m account reading (DeleteVolume key) in (s.1 ≡ Done) × IsTakenOut m reading key s.0

-- to every other account, and where there is no row, each request within its limits that names the volume is answered that it isn't there, and nothing
-- changes but by time
abbrev pub VolumeIsUnknown : Type 0
VolumeIsUnknown =
    (m : Machine) (account : ℕ) (reading : Moment) (request : Request) (key : VolKey) → NamesVolume key request → bad_member request ≡ None → refuse_digest sha256 request ≡ Ok tt
    → (account ≢ key.account) ⊎ (fin.get m.vols key ≡ None) → step m account reading request ≡ (advance m (moment_at m reading), Refused (NotFound volume))

-- so what is shown is the row of the caller's own volume
abbrev pub ShownVolumeIsTheRow : Type 0
ShownVolumeIsTheRow =
    (m : Machine) (account : ℕ) (reading : Moment) (key : VolKey) (created : Bool) (gib : ℕ) (from : Option SnapKey) (shown : List Tag) (told : VolKey)
    → (step m account reading (DescribeVolume key)).1 ≡ VolumeShown created gib from shown told
    → (row : VolRow) × (fin.get m.vols key ≡ Some row) × (account ≡ key.account) × (created ≡ false) × (gib ≡ row.size) × (from ≡ row.origin) × (shown ≡ row.tags) × (told ≡ key)

-- and what is taken out is the caller's own volume
abbrev pub DeletedVolumeIsOwn : Type 0
DeletedVolumeIsOwn =
    (m : Machine) (account : ℕ) (reading : Moment) (key : VolKey) → let s = step m account reading (DeleteVolume key) in
    IsAccepted s.1 → (row : VolRow) × (fin.get m.vols key ≡ Some row) × (account ≡ key.account) × (s.1 ≡ Done) × IsTakenOut m reading key s.0

-- a creation that was answered is answered alike when it is repeated, whatever was called in between by whomever, and then nothing
-- changes but by time: also where the volume that it made, or its origin, isn't there any more
abbrev pub CreationActsOnce : Type 0
CreationActsOnce =
    (m : Machine) (turns : List Timed) (account : ℕ) (reading later : Moment) (origin : Option SnapKey) (size : Option ℕ) (tags : List Tag) (token : List ℕ) (created : Bool) (gib : ℕ) (from : Option SnapKey) (shown : List Tag) (key : VolKey)
    → let request = CreateVolume origin size tags (Some token) in let s = step m account reading request in let n = after_all s.0 turns in
    s.1 ≡ VolumeShown created gib from shown key → step n account later request ≡ (advance n (moment_at n later), s.1)

-- a size that isn't given counts as the one that was made
abbrev pub IsSizeMade : Option ℕ → ℕ → Type 0
IsSizeMade size gib = (size ≡ None) ⊎ (size ≡ Some gib)

-- and so is one, within its limits, whose size was absent at first or is absent now
abbrev pub SizeMadeIsTheSame : Type 0
SizeMadeIsTheSame =
    (m : Machine) (turns : List Timed) (account : ℕ) (reading later : Moment) (origin : Option SnapKey) (size : Option ℕ) (tags : List Tag) (token : List ℕ) (created : Bool) (gib : ℕ) (from : Option SnapKey) (shown : List Tag) (key : VolKey) (again : Option ℕ)
    → let s = step m account reading (CreateVolume origin size tags (Some token)) in let n = after_all s.0 turns in let request = CreateVolume origin again tags (Some token) in
    IsUnused m account (Some token) → s.1 ≡ VolumeShown created gib from shown key → IsSizeMade again gib → bad_member request ≡ None → refuse_size request ≡ Ok tt
    → step n account later request ≡ (advance n (moment_at n later), s.1)

-- another creation of the account with its token, within its limits, is refused by the volume that the first one made, and changes nothing but by time
abbrev pub OtherCreationConflicts : Type 0
OtherCreationConflicts =
    (m : Machine) (turns : List Timed) (account : ℕ) (reading later : Moment) (origin : Option SnapKey) (size : Option ℕ) (tags : List Tag) (token : List ℕ) (created : Bool) (gib : ℕ) (from : Option SnapKey) (shown : List Tag) (key : VolKey)
    (other_origin : Option SnapKey) (other_size : Option ℕ) (other_tags : List Tag)
    → let s = step m account reading (CreateVolume origin size tags (Some token)) in let n = after_all s.0 turns in let other = CreateVolume other_origin other_size other_tags (Some token) in
    s.1 ≡ VolumeShown created gib from shown key → ((other_origin ≡ origin) × (other_tags ≡ tags) × IsSizeMade other_size gib → ⊥) → bad_member other ≡ None → refuse_size other ≡ Ok tt
    → step n account later other ≡ (advance n (moment_at n later), Refused (TokenConflict (Vol key)))

-- and so is a start with the token of a creation
abbrev pub StartConflictsWithVolume : Type 0
StartConflictsWithVolume =
    (m : Machine) (turns : List Timed) (account : ℕ) (reading later : Moment) (origin : Option SnapKey) (size : Option ℕ) (tags : List Tag) (token : List ℕ) (created : Bool) (gib : ℕ) (from : Option SnapKey) (shown : List Tag) (key : VolKey)
    (other_size : ℕ) (parent : Option SnapKey) (text : Option (List ℕ)) (other_tags : List Tag) (timeout : ℕ)
    → let s = step m account reading (CreateVolume origin size tags (Some token)) in let n = after_all s.0 turns in let other = StartSnapshot other_size parent text other_tags (Some token) timeout in
    s.1 ≡ VolumeShown created gib from shown key → bad_member other ≡ None → refuse_size other ≡ Ok tt
    → step n account later other ≡ (advance n (moment_at n later), Refused (TokenConflict (Vol key)))

-- a creation with the token of a start is refused by the snapshot that the start made
abbrev pub CreationConflictsWithStart : Type 0
CreationConflictsWithStart =
    (m : Machine) (turns : List Timed) (account : ℕ) (reading later : Moment) (size : ℕ) (parent : Option SnapKey) (text : Option (List ℕ)) (tags : List Tag) (token : List ℕ) (timeout : ℕ)
    (told : Option (List ℕ)) (owner : ℕ) (from : Option SnapKey) (key : SnapKey) (begin : Moment) (shown : List Tag) (gib : ℕ)
    (origin : Option SnapKey) (other_size : Option ℕ) (other_tags : List Tag)
    → let s = step m account reading (StartSnapshot size parent text tags (Some token) timeout) in let n = after_all s.0 turns in let other = CreateVolume origin other_size other_tags (Some token) in
    s.1 ≡ Started told owner from key begin shown gib → bad_member other ≡ None → refuse_size other ≡ Ok tt
    → step n account later other ≡ (advance n (moment_at n later), Refused (TokenConflict (Snap key)))

-- a creation that is answered keeps its unused token, with its moment, itself with the size that it made, and the number that it made
abbrev pub CreationKeepsToken : Type 0
CreationKeepsToken =
    (m : Machine) (account : ℕ) (reading : Moment) (origin : Option SnapKey) (size : Option ℕ) (tags : List Tag) (token : List ℕ) (created : Bool) (gib : ℕ) (from : Option SnapKey) (shown : List Tag) (key : VolKey)
    → let s = step m account reading (CreateVolume origin size tags (Some token)) in IsUnused m account (Some token) → s.1 ≡ VolumeShown created gib from shown key
    → use_of s.0 account (Some token) ≡ Some (record { at = moment_at m reading; first = CreateVolume origin (Some gib) tags (Some token); number = key.number })

-- a creation whose token was used is answered, if at all, by the id of the volume that is kept with the token
abbrev pub CreationTellsFirst : Type 0
CreationTellsFirst =
    (m : Machine) (account : ℕ) (reading : Moment) (origin : Option SnapKey) (size : Option ℕ) (tags : List Tag) (token : Option (List ℕ)) (row : TokenRow) (key : VolKey)
    → use_of m account token ≡ Some row → created_id (step m account reading (CreateVolume origin size tags token)).1 ≡ Some key
    → first_key account row ≡ Vol key

-- each volume has a number below its account's next one
abbrev pub VolumesGiven : Machine → Type 0
VolumesGiven m = (key : VolKey) (row : VolRow) → fin.get m.vols key ≡ Some row → key.number < next_volume_number m key.account

abbrev pub VolumesStayGiven : Type 0
VolumesStayGiven = (m : Machine) (account : ℕ) (reading : Moment) (request : Request) → VolumesGiven m → VolumesGiven (step m account reading request).0

abbrev pub RunsGiveVolumes : Type 0
RunsGiveVolumes = (secret : List ℕ) (turns : List Timed) → VolumesGiven (after_all (empty_machine secret) turns)

-- a deletion of this volume is asked for
abbrev pub AsksDeletion : VolKey → Request → Type 0
AsksDeletion key (DeleteVolume k) = k ≡ key
AsksDeletion key request = ⊥

-- none of these calls is an accepted deletion of this volume by its owner
abbrev pub NoDeletion : VolKey → Machine → List Timed → Type 0
NoDeletion key m [] = Unit {0}
NoDeletion key m (t ∷ ts) = (AsksDeletion key t.call.request → t.call.account ≡ key.account → IsAccepted (turn m t).1 → ⊥) × NoDeletion key (turn m t).0 ts

-- a volume's row stays as it is by every other call, whatever becomes of its origin
abbrev pub VolumeStays : Type 0
VolumeStays = (m : Machine) (turns : List Timed) (key : VolKey) (row : VolRow) → VolumesGiven m → fin.get m.vols key ≡ Some row → NoDeletion key m turns → fin.get (after_all m turns).vols key ≡ Some row

-- no account's next volume number ever falls
abbrev pub VolumeNumbersNeverFall : Type 0
VolumeNumbersNeverFall = (m : Machine) (turns : List Timed) (account : ℕ) → next_volume_number m account ≤ next_volume_number (after_all m turns) account

-- two volumes that were created by calls that repeat no other differ in their ids, whatever was called between them
abbrev pub CreatedIdsDiffer : Type 0
CreatedIdsDiffer =
    (m : Machine) (first second : Timed) (between : List Timed) (a b : VolKey)
    → let n = after_all (turn m first).0 between in is_repeat m first.call.account first.call.request ≡ false → is_repeat n second.call.account second.call.request ≡ false
    → created_id (turn m first).1 ≡ Some a → created_id (turn n second).1 ≡ Some b → a ≢ b
