-- What a put writes, how long it stays, and how puts are counted.
use Rattle.std.specs.Prelude.{◌≡◌, ℕ, ◌+◌, ◌*◌, ◌^◌, ◌<◌, true, List, length, Some}
use Rattle.std.specs.FinMap as fin
use Rattle.std.specs.declared.result.Result.TheVariants.{Ok}
use Rattle.sha2.specs.Sha256.{sha256}
use Rattle.ebs_model.specs.declared.keys.SnapKey.{SnapKey}
use Rattle.ebs_model.specs.declared.keys.Moment.{Moment}
use Rattle.ebs_model.specs.declared.request.Request.{Request}
use Rattle.ebs_model.specs.declared.request.Request.TheVariants.{PutSnapshotBlock, GetSnapshotBlock}
use Rattle.ebs_model.specs.declared.answer.Answer.TheVariants.{BlockWritten, BlockRead}
use Rattle.ebs_model.specs.Arrays.{WholeBlock}
use Rattle.ebs_model.specs.Quotas.{block_size}
use Rattle.ebs_model.specs.Limits.{has_ten_digits}
use Rattle.ebs_model.specs.Tokens.{is_block_token}
use Rattle.ebs_model.specs.Time.{Snapshot}
use Rattle.ebs_model.specs.Access.{open_upload, ready}
use Rattle.ebs_model.specs.Machine.{Machine, advance, moment_of}
use Rattle.ebs_model.specs.Step.{step}
use Rattle.ebs_model.specs.Timed.{Timed, turn, after_all}
use Rattle.ebs_laws.specs.Puts.{block_at, WritesOneBlock, StampsGiven, StampsTell, IsWithinSize, IndexesFit, blocks_written, changes_by, CountsFit, AsksPut, IsAccepted, NoPutAt, HoldsBlock}
use Rattle.ebs_laws.specs.Uploads.{NumbersGiven}

-- a whole block with its SHA-256 is accepted at an index of an open upload
abbrev pub WholeBlockIsAccepted : Type 0
WholeBlockIsAccepted =
    (m : Machine) (account : ℕ) (reading : Moment) (key : SnapKey) (s : Snapshot) (index : ℕ) (bytes : List ℕ)
    → let at = advance m (moment_of m reading) in fin.get at.snaps key ≡ Some s → open_upload account key at.clock.second s.row ≡ Ok tt
    → has_ten_digits index ≡ true → index < 2048 * s.row.size → length bytes ≡ block_size → m.changes < 2 ^ 40
    → (step m account reading (PutSnapshotBlock key index (sha256 bytes) bytes)).1 ≡ BlockWritten (sha256 bytes)

-- the digest of an accepted put is the SHA-256 of its bytes, and is answered
abbrev pub DigestIsChecked : Type 0
DigestIsChecked =
    (m : Machine) (account : ℕ) (reading : Moment) (key : SnapKey) (index : ℕ) (digest bytes stated : List ℕ)
    → (step m account reading (PutSnapshotBlock key index digest bytes)).1 ≡ BlockWritten stated → (digest ≡ sha256 bytes) × (stated ≡ digest)

-- an accepted put writes its block and marks its index, and changes no other block, mark, snapshot or account
abbrev pub PutWritesOneBlock : Type 0
PutWritesOneBlock =
    (m : Machine) (account : ℕ) (reading : Moment) (key : SnapKey) (index : ℕ) (digest bytes stated : List ℕ)
    → let s = step m account reading (PutSnapshotBlock key index digest bytes) in s.1 ≡ BlockWritten stated
    → WritesOneBlock (advance m (moment_of m reading)) s.0 key index bytes

-- the next stamp rises by one with each block that is written
abbrev pub StampsAreCounted : Type 0
StampsAreCounted =
    (m : Machine) (account : ℕ) (reading : Moment) (request : Request)
    → let s = step m account reading request in s.0.stamps ≡ m.stamps + blocks_written s.1

-- the number of changes rises by one with each accepted change, and stays at reads, at refusals and where a start is repeated
abbrev pub ChangesAreCounted : Type 0
ChangesAreCounted =
    (m : Machine) (account : ℕ) (reading : Moment) (request : Request)
    → let s = step m account reading request in s.0.changes ≡ m.changes + changes_by m account request s.1

-- there never are more than 2^40 changes, nor more stamps than changes
abbrev pub CallKeepsCounts : Type 0
CallKeepsCounts = (m : Machine) (account : ℕ) (reading : Moment) (request : Request) → CountsFit m → CountsFit (step m account reading request).0

-- the next stamp stays above that of every block
abbrev pub CallKeepsStamps : Type 0
CallKeepsStamps =
    (m : Machine) (account : ℕ) (reading : Moment) (request : Request) → StampsGiven m → StampsGiven (step m account reading request).0

-- blocks of one stamp stay one block
abbrev pub CallKeepsTelling : Type 0
CallKeepsTelling =
    (m : Machine) (account : ℕ) (reading : Moment) (request : Request) → StampsGiven m → StampsTell m → StampsTell (step m account reading request).0

-- every block stays within the size of its snapshot or volume
abbrev pub CallKeepsIndexes : Type 0
CallKeepsIndexes =
    (m : Machine) (account : ℕ) (reading : Moment) (request : Request) → IndexesFit m → IndexesFit (step m account reading request).0

-- what stands within a snapshot's size has an index of 32 bits
abbrev pub IndexIsSmall : Type 0
IndexIsSmall = (s : Snapshot) (index : ℕ) (block : WholeBlock) → IsWithinSize s → fin.get s.array index ≡ Some block → index < 2 ^ 32

-- a snapshot that may be read answers to a good token of its block with the block's bytes and their SHA-256
abbrev pub ReadyBlockIsRead : Type 0
ReadyBlockIsRead =
    (m : Machine) (account : ℕ) (reading : Moment) (key : SnapKey) (index : ℕ) (token : List ℕ) (s : Snapshot) (block : WholeBlock)
    → let at = advance m (moment_of m reading) in fin.get at.snaps key ≡ Some s → ready account key at.clock.second s.row ≡ Ok tt
    → is_block_token m.secret key index at.clock.second token ≡ true → fin.get s.array index ≡ Some block
    → step m account reading (GetSnapshotBlock key index token) ≡ (at, BlockRead (sha256 block.bytes) block.bytes)

-- what is read is a block that is there, by a good token of it
abbrev pub ReadIsOfBlock : Type 0
ReadIsOfBlock =
    (m : Machine) (account : ℕ) (reading : Moment) (key : SnapKey) (index : ℕ) (token digest bytes : List ℕ)
    → (step m account reading (GetSnapshotBlock key index token)).1 ≡ BlockRead digest bytes
    → let at = advance m (moment_of m reading) in (is_block_token m.secret key index at.clock.second token ≡ true)
    × ((block : WholeBlock) × (block_at at key index ≡ Some block) × (bytes ≡ block.bytes) × (digest ≡ sha256 block.bytes))

-- a read leaves the machine as time alone makes it
abbrev pub ReadChangesNothing : Type 0
ReadChangesNothing =
    (m : Machine) (account : ℕ) (reading : Moment) (key : SnapKey) (index : ℕ) (token : List ℕ)
    → (step m account reading (GetSnapshotBlock key index token)).0 ≡ advance m (moment_of m reading)

-- no call but a put at its index changes a block, unless the snapshot was taken out or its upload has failed
abbrev pub CallKeepsBlock : Type 0
CallKeepsBlock =
    (m : Machine) (t : Timed) (key : SnapKey) (index : ℕ) (block : WholeBlock) → NumbersGiven m → (s : Snapshot) → fin.get m.snaps key ≡ Some s
    → HoldsBlock m key index block → (AsksPut key index t.call.request → IsAccepted (turn m t).1 → ⊥) → HoldsBlock (turn m t).0 key index block

-- the block of an accepted put stays through any calls but puts at its index, unless the snapshot was taken out or its upload has failed
abbrev pub RunKeepsBlock : Type 0
RunKeepsBlock =
    (m : Machine) (turns : List Timed) (account : ℕ) (reading : Moment) (key : SnapKey) (index : ℕ) (digest bytes stated : List ℕ)
    → let s = step m account reading (PutSnapshotBlock key index digest bytes) in NumbersGiven m → s.1 ≡ BlockWritten stated
    → NoPutAt key index s.0 turns → HoldsBlock (after_all s.0 turns) key index (record { stamp = m.stamps; bytes = bytes })

-- a block that is read is the last one that was put there
abbrev pub RunReadsLastPut : Type 0
RunReadsLastPut =
    (m : Machine) (turns : List Timed) (account reader : ℕ) (reading later : Moment) (key : SnapKey) (index : ℕ) (digest bytes stated token found read : List ℕ)
    → let s = step m account reading (PutSnapshotBlock key index digest bytes) in NumbersGiven m → s.1 ≡ BlockWritten stated
    → NoPutAt key index s.0 turns → (step (after_all s.0 turns) reader later (GetSnapshotBlock key index token)).1 ≡ BlockRead found read
    → (read ≡ bytes) × (found ≡ sha256 bytes)
