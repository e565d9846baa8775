-- What a call that reads a block tells.
use Rattle.std.specs.Prelude.{◌≡◌, Some, ℕ, Result, Ok, Err, Option, None, ◌≢◌, List, if◌then◌else◌}
use Rattle.std.specs.Str.{bytes_eq}
use Rattle.std.specs.FinMap as fin
use Rattle.sha2.specs.Sha256.{sha256}
use Rattle.ebs_world.specs.View.{View}
use Rattle.ebs_model.specs.declared.keys.Moment.{Moment}
use Rattle.ebs_model.specs.declared.array.Block.{Block}
use Rattle.ebs_model.specs.declared.request.Request.{Request}
use Rattle.ebs_model.specs.declared.request.Request.TheVariants.{GetSnapshotBlock, ReadVolumeBlock}
use Rattle.ebs_model.specs.declared.answer.Answer.{Answer}
use Rattle.ebs_model.specs.declared.answer.Answer.TheVariants as answers
use Rattle.ebs_model.specs.declared.answer.Refusal.{Refusal}
use Rattle.ebs_model.specs.declared.answer.Refusal.TheVariants as refusals
use Rattle.ebs_model.specs.declared.answer.Failure.{Failure}
use Rattle.ebs_model.specs.declared.answer.Failure.TheVariants.{Refused, Memory}
use Rattle.ebs_model.specs.Machine.{Machine, advance}
use Rattle.ebs_recovery.specs.Stands.{snapshot, volume, blocks_at}
use Rattle.ebs_disk_store.specs.declared.loading.Loaded.{Loaded}
use Rattle.ebs_disk_store.specs.declared.loading.Loaded.TheVariants as loaded
use Rattle.ebs_disk_store.specs.inner.Told.{at_clock}
use Rattle.ebs_disk_store.specs.inner.Turned.{kept_call}
use Rattle.ebs_kept.specs.inner.Shown.{kept_block}
use Rattle.ebs_kept.specs.inner.Wants.{MayRunOut}
use Rattle.ebs_recovery.specs.inner.Fits.{Seen}
use Rattle.ebs_slots.specs.inner.Standing.{IsRead}

-- a block of a snapshot or of a volume is read
abbrev pub IsFetch : Request → Type 0
IsFetch (GetSnapshotBlock key index token) = Unit {0}
IsFetch (ReadVolumeBlock key index) = Unit {0}
IsFetch request = ⊥

-- the kept form has the block where the request reads
abbrev pub IsThere : Machine → Request → Block → Type 0
IsThere m (GetSnapshotBlock key index token) block = fin.get (blocks_at m (snapshot key)) index ≡ Some (kept_block block)
IsThere m (ReadVolumeBlock key index) block = fin.get (blocks_at m (volume key)) index ≡ Some (kept_block block)
IsThere m request block = ⊥

-- what the kept form, which stands at its moment, finds for the request: a block by its digest, or none where all is zeros
abbrev pub Finds : Machine → ℕ → Request → Result (Option Block) Failure → Type 0
Finds at account request (Ok (Some block)) = (kept_call at account request ≡ Ok (at, answers.BlockRead block.digest block.digest)) × IsThere at request block
Finds at account request (Ok None) = kept_call at account request ≡ Ok (at, answers.ZeroBlockRead)
Finds at account request (Err (Refused refusal)) = kept_call at account request ≡ Err refusal
Finds at account request (Err Memory) = MayRunOut (kept_call at account request)

-- what is answered of a block that was loaded: its bytes where they have the digest that is kept, and else that it is damaged
abbrev pub answer_of : Loaded → Answer
answer_of (loaded.Answered answer) = answer
answer_of (loaded.Block stored bytes) = if bytes_eq (sha256 bytes) stored then answers.BlockRead stored bytes else answers.Refused (refusals.Damaged stored (sha256 bytes))

-- a block that is answered has the digest that is kept of it, whatever the disk; one that is damaged was read in its slot with another. These,
-- zeros and a refusal move the clock alone; E17, of a block that is there, where the disk's count of faults rose, and want of memory, with no call of the
-- disk, nothing
pub data Fetched (Still Rose : Type 0) (v : View) (s t : Seen) (account : ℕ) (now : Moment) (request : Request) : Answer → Type 0 where
  fetched : (digest bytes : List ℕ) → kept_call (advance s.recorded now) account request ≡ Ok (advance s.recorded now, answers.BlockRead digest digest) → sha256 bytes ≡ digest
      → t ≡ at_clock s now → Fetched Still Rose v s t account now request (answers.BlockRead digest bytes)
  zeros : kept_call (advance s.recorded now) account request ≡ Ok (advance s.recorded now, answers.ZeroBlockRead) → t ≡ at_clock s now → Still → Fetched Still Rose v s t account now request answers.ZeroBlockRead
  damaged : (stored found : List ℕ) → kept_call (advance s.recorded now) account request ≡ Ok (advance s.recorded now, answers.BlockRead stored stored) → found ≢ stored
      → ((block : Block) × IsThere (advance s.recorded now) request block × ((bytes : List ℕ) × IsRead v s.slots block.stamp bytes × (found ≡ sha256 bytes)))
      → t ≡ at_clock s now → Fetched Still Rose v s t account now request (answers.Refused (refusals.Damaged stored found))
  refused : (refusal : Refusal) → kept_call (advance s.recorded now) account request ≡ Err refusal → t ≡ at_clock s now → Still → Fetched Still Rose v s t account now request (answers.Refused refusal)
  unavailable : (digest : List ℕ) → Rose → kept_call (advance s.recorded now) account request ≡ Ok (advance s.recorded now, answers.BlockRead digest digest) → t ≡ s
      → Fetched Still Rose v s t account now request (answers.Refused refusals.Unavailable)
  memory : Still → t ≡ s → Fetched Still Rose v s t account now request answers.Memory
