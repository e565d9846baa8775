-- The clock, the end of an upload, its checksum and its list, in fields of rows.
use Rattle.std.specs.Prelude.{◌≡◌, ℕ, ◌+◌, ◌*◌, ◌^◌, ◌<◌, ◌≤◌, false, nat_le, List, [], ◌∷◌, ◌++◌, map, take}
use Rattle.std.specs.List.{filter}
use Rattle.std.specs.FinMap as fin
use Rattle.sha2.specs.Sha256.{sha256}
use Rattle.std.specs.declared.option.Option.{Option}
use Rattle.std.specs.declared.option.Option.TheVariants.{None, Some}
use Rattle.ebs_model.specs.declared.keys.SnapKey.{SnapKey}
use Rattle.ebs_model.specs.declared.keys.Moment.{Moment}
use Rattle.ebs_model.specs.declared.entries.BlockEntry.{BlockEntry}
use Rattle.ebs_model.specs.declared.request.Request.{Request}
use Rattle.ebs_model.specs.declared.request.Request.TheVariants.{PutSnapshotBlock, CompleteSnapshot, ListSnapshotBlocks}
use Rattle.ebs_model.specs.declared.answer.Answer.TheVariants.{BlockWritten, Completed, BlockList}
use Rattle.ebs_model.specs.Arrays.{WholeBlock, WholeArray}
use Rattle.ebs_model.specs.Time.{Snapshot}
use Rattle.ebs_model.specs.Machine.{Machine, advance}
use Rattle.ebs_model.specs.Step.{step}
use Rattle.ebs_laws.specs.Words.{second_of, moment_at, MayWrite, MayRead}

-- a reading up to 2^36 that is later than the clock is reached exactly
abbrev pub ReadingIsReached : Type 0
ReadingIsReached =
    (m : Machine) (account : ℕ) (reading : Moment) (request : Request) → m.clock.second ≤ reading.second → reading.second ≤ 2 ^ 36
    → (step m account reading request).0.clock.second ≡ reading.second

-- an earlier reading leaves the clock
abbrev pub EarlierReadingIsPassed : Type 0
EarlierReadingIsPassed =
    (m : Machine) (account : ℕ) (reading : Moment) (request : Request) → reading.second ≤ m.clock.second → (step m account reading request).0.clock.second ≡ m.clock.second

-- a later one than 2^36 counts as that
abbrev pub LateReadingIsCut : Type 0
LateReadingIsCut =
    (m : Machine) (account : ℕ) (reading : Moment) (request : Request) → m.clock.second ≤ 2 ^ 36 → 2 ^ 36 ≤ reading.second → (step m account reading request).0.clock.second ≡ 2 ^ 36

-- an upload is as a put left it before so many minutes after the put as its timeout says, and is empty from then on
pub record LastsSo (new : Machine) (key : SnapKey) (now : Moment) (s : Snapshot) : Type 0 where
  pub is_there : fin.get new.snaps key ≡ Some s
  pub last_is : s.row.last ≡ now
  pub not_completed : s.row.completed ≡ false
  pub before : (then : Moment) → then.second < now.second + 60 * s.row.timeout → fin.get (advance new then).snaps key ≡ Some s
  pub after : (then : Moment) → now.second + 60 * s.row.timeout ≤ then.second
      → fin.get (advance new then).snaps key ≡ Some (record { row = record s.row { put = fin.empty }; array = fin.empty })

abbrev pub PutLastsTimeout : Type 0
PutLastsTimeout =
    (m : Machine) (account : ℕ) (reading : Moment) (key : SnapKey) (index : ℕ) (digest bytes stated : List ℕ)
    → let s = step m account reading (PutSnapshotBlock key index digest bytes) in s.1 ≡ BlockWritten stated
    → (new : Snapshot) × LastsSo s.0 key (moment_at m reading) new

-- the digests of the blocks at these indexes, one after the other
abbrev pub digest_at : Option WholeBlock → List ℕ
digest_at None = []
digest_at (Some block) = sha256 block.bytes

abbrev pub digests_at : WholeArray → List ℕ → List ℕ
digests_at array [] = []
digests_at array (index ∷ indexes) = digest_at (fin.get array index) ++ digests_at array indexes

-- the checksum with which an upload is completed is the SHA-256 of the digests of what was put, by ascending index
abbrev pub ChecksumIsOfDigests : Type 0
ChecksumIsOfDigests =
    (m : Machine) (account : ℕ) (reading : Moment) (key : SnapKey) (count : ℕ) (stated : List ℕ)
    → (step m account reading (CompleteSnapshot key count (Some stated))).1 ≡ Completed
    → (s : Snapshot) × MayWrite m account key (second_of m reading) s × (stated ≡ sha256 (digests_at s.array (fin.keys s.row.put))) × (count ≡ fin.len s.row.put)

-- a list's first page has the indexes of all blocks from the starting one upwards, as many as it holds at most, and no other
abbrev pub ListHasEachBlock : Type 0
ListHasEachBlock =
    (m : Machine) (account : ℕ) (reading : Moment) (key : SnapKey) (most start : ℕ) (entries : List BlockEntry) (expiry : Moment) (next : Option (List ℕ)) (size : ℕ)
    → (step m account reading (ListSnapshotBlocks key None most start)).1 ≡ BlockList entries expiry next size
    → (s : Snapshot) × MayRead m account key (second_of m reading) s
    × (map (λ e. e.index) entries ≡ take most (filter (λ index. nat_le start index) (fin.keys s.array))) × (size ≡ s.row.size)
    × (expiry.second ≡ second_of m reading + 604800)
