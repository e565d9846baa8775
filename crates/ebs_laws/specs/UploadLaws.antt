-- How an upload begins and ends.
use Rattle.std.specs.Prelude.{◌≡◌, ◌≢◌, ℕ, ◌^◌, ◌<◌, true, List, Option, Some, None}
use Rattle.std.specs.FinMap as fin
use Rattle.sha2.specs.Sha256.{sha256}
use Rattle.ebs_model.specs.declared.keys.SnapKey.{SnapKey}
use Rattle.ebs_model.specs.declared.keys.Moment.{Moment}
use Rattle.ebs_model.specs.declared.tags.Tag.{Tag}
use Rattle.ebs_model.specs.declared.request.Request.{Request}
use Rattle.ebs_model.specs.declared.request.Request.TheVariants.{StartSnapshot, CompleteSnapshot}
use Rattle.ebs_model.specs.declared.answer.Answer.TheVariants.{Started, Completed}
use Rattle.ebs_model.specs.Arrays.{digest_of}
use Rattle.std.specs.declared.result.Result.TheVariants.{Ok}
use Rattle.ebs_model.specs.Limits.{bad_start, has_ten_digits, is_size}
use Rattle.ebs_model.specs.Access.{open_upload}
use Rattle.ebs_model.specs.Time.{Snapshot}
use Rattle.ebs_model.specs.Rows.{own_of, open_count, kept_count, token_count}
use Rattle.ebs_model.specs.Machine.{Machine, advance, moment_of, rows_of}
use Rattle.ebs_model.specs.Step.{step}
use Rattle.ebs_model.specs.Timed.{Timed, after_all}
use Rattle.ebs_laws.specs.Words.{IsUnused}
use Rattle.ebs_laws.specs.Uploads.{NumbersGiven, KeysStand, CountersFit, checksum_of, put, MayBegin, StartsUpload, BeginsFromParent, CompletesUpload}

-- an account that has room for one more snapshot, and for a client token that it gives, may start one, with a parent that it may read and that isn't larger
abbrev pub RoomIsEnough : Type 0
RoomIsEnough =
    (m : Machine) (account : ℕ) (reading : Moment) (size : ℕ) (parent : Option SnapKey) (text : Option (List ℕ)) (tags : List Tag) (token : Option (List ℕ)) (timeout : ℕ)
    → let at = advance m (moment_of m reading) in bad_start text tags token timeout ≡ None → is_size size ≡ true → IsUnused m account token → MayBegin at account parent size → open_count (rows_of at) account at.clock.second < 100
    → kept_count (rows_of at) account < 10000 → (token ≢ None → token_count (rows_of m) account < 65536) → (own_of (rows_of m) account).next_snap < 2 ^ 28 → m.changes < 2 ^ 40
    → (step m account reading (StartSnapshot size parent text tags token timeout)).1 ≡ Started text account parent (record { account = account; number = (own_of (rows_of m) account).next_snap }) at.clock tags size

-- StartSnapshot, where it repeats no start, gives the account's next number to an upload with the blocks of its parent, or with none
abbrev pub StartGivesNumber : Type 0
StartGivesNumber =
    (m : Machine) (account : ℕ) (reading : Moment) (size : ℕ) (parent : Option SnapKey) (text : Option (List ℕ)) (tags : List Tag) (token : Option (List ℕ)) (timeout : ℕ) (told : Option (List ℕ)) (owner : ℕ) (from : Option SnapKey) (key : SnapKey) (begin : Moment) (shown : List Tag) (gib : ℕ)
    → let s = step m account reading (StartSnapshot size parent text tags token timeout) in IsUnused m account token → s.1 ≡ Started told owner from key begin shown gib
    → StartsUpload (advance m (moment_of m reading)) s.0 account parent key

-- an upload with a parent begins as its parent, which stays
abbrev pub ChildBeginsAsParent : Type 0
ChildBeginsAsParent =
    (m : Machine) (account : ℕ) (reading : Moment) (size : ℕ) (parent : SnapKey) (text : Option (List ℕ)) (tags : List Tag) (token : Option (List ℕ)) (timeout : ℕ) (told : Option (List ℕ)) (owner : ℕ) (from : Option SnapKey) (key : SnapKey) (begin : Moment) (shown : List Tag) (gib : ℕ)
    → let s = step m account reading (StartSnapshot size (Some parent) text tags token timeout) in NumbersGiven m → IsUnused m account token → s.1 ≡ Started told owner from key begin shown gib
    → BeginsFromParent (advance m (moment_of m reading)) s.0 parent key

-- every snapshot keeps to a number that its account has given out
abbrev pub CallKeepsNumbers : Type 0
CallKeepsNumbers =
    (m : Machine) (account : ℕ) (reading : Moment) (request : Request) → NumbersGiven m → NumbersGiven (step m account reading request).0

-- every snapshot keeps its key in its row
abbrev pub CallKeepsKeys : Type 0
CallKeepsKeys = (m : Machine) (account : ℕ) (reading : Moment) (request : Request) → KeysStand m → KeysStand (step m account reading request).0

-- no account gives out more numbers than it has
abbrev pub CallKeepsCounters : Type 0
CallKeepsCounters = (m : Machine) (account : ℕ) (reading : Moment) (request : Request) → CountersFit m → CountersFit (step m account reading request).0

-- a new upload takes the place of no snapshot
abbrev pub NextNumberIsFree : Type 0
NextNumberIsFree =
    (m : Machine) (account : ℕ) (parent : Option SnapKey) (key : SnapKey) (new : Machine) → NumbersGiven m → StartsUpload m new account parent key → fin.get m.snaps key ≡ None

-- an open upload is completed by the number of its blocks and their checksum
abbrev pub RightChecksumIsAccepted : Type 0
RightChecksumIsAccepted =
    (m : Machine) (account : ℕ) (reading : Moment) (key : SnapKey) (s : Snapshot)
    → let at = advance m (moment_of m reading) in fin.get at.snaps key ≡ Some s → open_upload account key at.clock.second s.row ≡ Ok tt
    → has_ten_digits (fin.len s.row.put) ≡ true → m.changes < 2 ^ 40
    → (step m account reading (CompleteSnapshot key (fin.len s.row.put) (Some (checksum_of s)))).1 ≡ Completed

-- CompleteSnapshot ends an upload of so many blocks, with the stated checksum, and keeps its blocks
abbrev pub CompleteEndsUpload : Type 0
CompleteEndsUpload =
    (m : Machine) (account : ℕ) (reading : Moment) (key : SnapKey) (count : ℕ) (checksum : Option (List ℕ))
    → let s = step m account reading (CompleteSnapshot key count checksum) in s.1 ≡ Completed
    → CompletesUpload (advance m (moment_of m reading)) s.0 key count checksum

-- the blocks of a completed snapshot never change while it is there, whatever is called
abbrev pub CompletedBlocksStay : Type 0
CompletedBlocksStay =
    (m : Machine) (turns : List Timed) (key : SnapKey) (old new : Snapshot) → NumbersGiven m → fin.get m.snaps key ≡ Some old
    → old.row.completed ≡ true → fin.get (after_all m turns).snaps key ≡ Some new → (new.row.completed ≡ true) × (new.array ≡ old.array)

-- the checksum depends only on the indexes that were put, and on the bytes that are there
abbrev pub ChecksumIsOfBytes : Type 0
ChecksumIsOfBytes =
    (s t : Snapshot) → s.row.put ≡ t.row.put
    → ((index : ℕ) → fin.contains_key s.row.put index ≡ true → digest_of sha256 (fin.get s.array index) ≡ digest_of sha256 (fin.get t.array index))
    → checksum_of s ≡ checksum_of t

-- two puts at two indexes give one checksum in either order
abbrev pub ChecksumIgnoresOrder : Type 0
ChecksumIgnoresOrder =
    (s : Snapshot) (now first second then : Moment) (a b c d i j : ℕ) (bytes others : List ℕ) → i ≢ j
    → checksum_of (put (put s now a i bytes) first b j others) ≡ checksum_of (put (put s second c j others) then d i bytes)
