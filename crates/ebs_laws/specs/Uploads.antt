-- How an upload begins and ends.
use Rattle.std.specs.Prelude.{◌≡◌, ◌≢◌, ℕ, ◌+◌, ◌^◌, ◌<◌, ◌≤◌, true, List}
use Rattle.std.specs.FinMap as fin
use Rattle.sha2.specs.Sha256.{sha256}
use Rattle.std.specs.declared.option.Option.TheVariants.{None, Some}
use Rattle.ebs_model.specs.declared.keys.SnapKey.{SnapKey}
use Rattle.ebs_model.specs.declared.keys.Moment.{Moment}
use Rattle.ebs_model.specs.Time.{Snapshot, status_at, is_pending, is_completed}
use Rattle.std.specs.declared.option.Option.{Option}
use Rattle.std.specs.declared.result.Result.TheVariants.{Ok}
use Rattle.ebs_model.specs.Access.{base}
use Rattle.ebs_model.specs.Calls.Start.{new_line}
use Rattle.ebs_model.specs.Calls.Put.{put_row}
use Rattle.ebs_model.specs.Arrays.{linear}
use Rattle.ebs_model.specs.Rows.{own_of}
use Rattle.ebs_model.specs.Machine.{Machine, rows_of}

-- every snapshot has a number that its account has given out
abbrev pub NumbersGiven : Machine → Type 0
NumbersGiven m = (key : SnapKey) (s : Snapshot) → fin.get m.snaps key ≡ Some s → key.number < (own_of (rows_of m) key.account).next_snap

-- every snapshot has its key in its row
abbrev pub KeysStand : Machine → Type 0
KeysStand m = (key : SnapKey) (s : Snapshot) → fin.get m.snaps key ≡ Some s → s.row.key ≡ key

-- no account has given out more than 2^28 numbers
abbrev pub CountersFit : Machine → Type 0
CountersFit m = (account : ℕ) → (own_of (rows_of m) account).next_snap ≤ 2 ^ 28

-- the LINEAR checksum of the blocks that were put in an upload, by ascending index (EBS direct APIs reference, CompleteSnapshot)
abbrev pub checksum_of : Snapshot → List ℕ
checksum_of s = linear sha256 s.array (fin.keys s.row.put)

-- an upload after a put
abbrev pub put : Snapshot → Moment → ℕ → ℕ → List ℕ → Snapshot
put s now stamp index bytes = record { row = put_row now index s.row; array = fin.insert s.array index (record { stamp = stamp; bytes = bytes }) }

-- the parent has all the blocks that the snapshot has, is of its line, and is no larger
pub record IsParentOf (parent child : Snapshot) : Type 0 where
  pub array : child.array ≡ parent.array
  pub line : child.row.line ≡ parent.row.line
  pub size : parent.row.size ≤ child.row.size

-- what an upload may begin with: nothing, or a snapshot that the account may read, of at most this size in GiB
abbrev pub MayBegin : Machine → ℕ → Option SnapKey → ℕ → Type 0
MayBegin m account None size = Unit {0}
MayBegin m account (Some parent) size =
    (from : Snapshot) × (fin.get m.snaps parent ≡ Some from) × (base account parent m.clock.second from.row ≡ Ok tt) × (from.row.size ≤ size)

-- what a new upload has: no block and a line of its own, or its parent's blocks and line
abbrev pub BeginsAs : Machine → SnapKey → Option SnapKey → Snapshot → Type 0
BeginsAs m key None s = (s.array ≡ fin.empty) × (s.row.line ≡ new_line key)
BeginsAs m key (Some parent) s = (from : Snapshot) × (fin.get m.snaps parent ≡ Some from) × IsParentOf from s

-- an upload is there under the account's next number, with its parent's blocks if it has a parent, and all other
-- snapshots and accounts stay
pub record StartsUpload (old new : Machine) (account : ℕ) (parent : Option SnapKey) (key : SnapKey) : Type 0 where
  pub key_is : key ≡ record { account = account; number = (own_of (rows_of old) account).next_snap }
  pub next : own_of (rows_of new) account ≡ record (own_of (rows_of old) account) { next_snap = key.number + 1 }
  pub other_accounts : (a : ℕ) → a ≢ account → fin.get new.own a ≡ fin.get old.own a
  pub snapshot : Snapshot
  pub is_there : fin.get new.snaps key ≡ Some snapshot
  pub parent_is : snapshot.row.parent ≡ parent
  pub begins : BeginsAs old key parent snapshot
  pub no_put : snapshot.row.put ≡ fin.empty
  pub is_open : is_pending (status_at snapshot.row new.clock.second) ≡ true
  pub other_snapshots : (k : SnapKey) → k ≢ key → fin.get new.snaps k ≡ fin.get old.snaps k
  pub volumes : new.vols ≡ old.vols
  pub disks : new.disks ≡ old.disks
  pub rules : new.books ≡ old.books
  pub policies : new.policies ≡ old.policies

-- a new upload begins as its parent, which stays
pub record BeginsFromParent (old new : Machine) (parent key : SnapKey) : Type 0 where
  pub found : Snapshot
  pub was_there : fin.get old.snaps parent ≡ Some found
  pub stays : fin.get new.snaps parent ≡ Some found
  pub child : Snapshot
  pub is_there : fin.get new.snaps key ≡ Some child
  pub names_it : child.row.parent ≡ Some parent
  pub begins : IsParentOf found child

-- the upload is completed with its blocks, which are as many as stated and have the checksum that is stated, and all other
-- snapshots and accounts stay
pub record CompletesUpload (old new : Machine) (key : SnapKey) (count : ℕ) (checksum : Option (List ℕ)) : Type 0 where
  pub found : Snapshot
  pub was_there : fin.get old.snaps key ≡ Some found
  pub was_open : is_pending (status_at found.row old.clock.second) ≡ true
  pub count_is : fin.len found.row.put ≡ count
  pub checksum_is : (stated : List ℕ) → checksum ≡ Some stated → stated ≡ checksum_of found
  pub snapshot : Snapshot
  pub is_there : fin.get new.snaps key ≡ Some snapshot
  pub blocks : snapshot.array ≡ found.array
  pub no_put : snapshot.row.put ≡ fin.empty
  pub is_completed : is_completed (status_at snapshot.row new.clock.second) ≡ true
  pub rest : snapshot.row ≡ record found.row { completed = true; put = snapshot.row.put }
  pub other_snapshots : (k : SnapKey) → k ≢ key → fin.get new.snaps k ≡ fin.get old.snaps k
  pub accounts : new.own ≡ old.own
  pub tokens : new.tokens ≡ old.tokens
  pub volumes : new.vols ≡ old.vols
  pub disks : new.disks ≡ old.disks
  pub rules : new.books ≡ old.books
  pub policies : new.policies ≡ old.policies
