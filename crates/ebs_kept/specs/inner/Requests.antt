-- Requests as the kept form reads them.
use Rattle.std.specs.Prelude.{ℕ, List, ◌≡◌, Result, Ok, Err, Option, None, Some, false}
use Rattle.ebs_model.specs.declared.array.Block.{Block}
use Rattle.ebs_model.specs.declared.request.Request.{Request}
use Rattle.ebs_model.specs.declared.request.Request.TheVariants.{PutSnapshotBlock, WriteVolumeBlock, GetSnapshotBlock, ReadVolumeBlock}
use Rattle.ebs_model.specs.declared.change.Decision.{Decision}
use Rattle.ebs_model.specs.declared.change.Decision.TheVariants as decision
use Rattle.ebs_model.specs.declared.answer.Answer.{Answer}
use Rattle.ebs_model.specs.declared.answer.Answer.TheVariants.{BlockRead, ZeroBlockRead}
use Rattle.ebs_model.specs.declared.answer.Failure.{Failure}
use Rattle.ebs_model.specs.declared.answer.Failure.TheVariants.{Refused, Memory}
use Rattle.ebs_model.specs.declared.answer.Refusal.{Refusal}
use Rattle.ebs_model.specs.declared.keys.Moment.{Moment}
use Rattle.ebs_model.specs.declared.change.Change.{Change}
use Rattle.ebs_model.specs.declared.answer.Refusal.TheVariants.{Exhausted}
use Rattle.ebs_model.specs.declared.answer.Spent.TheVariants.{Changes}
use Rattle.ebs_model.specs.Refuse.{◌>>◌, refuse_if}
use Rattle.ebs_model.specs.Kept.{same}
use Rattle.ebs_model.specs.Step.{refuse_linear, changed}
use Rattle.ebs_model.specs.Machine.{Machine, is_spent}
use Rattle.ebs_model.specs.Rows.{Rows}
use Rattle.ebs_catalog.specs.Held.{IsDecided}
use Rattle.ebs_kept.specs.declared.place.Place.{Place}
use Rattle.ebs_kept.specs.declared.place.Place.TheVariants.{Upload, Volume}

-- a block is put into an upload or written to a volume
abbrev pub write_at : Place → ℕ → List ℕ → List ℕ → Request
write_at (Upload key) index digest bytes = PutSnapshotBlock key index digest bytes
write_at (Volume key) index digest bytes = WriteVolumeBlock key index digest bytes

-- a block that is brought has its digest in the place of its bytes
abbrev pub with_digest : List ℕ → Request → Request
with_digest digest (PutSnapshotBlock key index stated bytes) = PutSnapshotBlock key index stated digest
with_digest digest (WriteVolumeBlock key index stated bytes) = WriteVolumeBlock key index stated digest
with_digest digest request = request

-- no block is read
abbrev pub ReadsNoBlock : Request → Type 0
ReadsNoBlock (GetSnapshotBlock key index token) = ⊥
ReadsNoBlock (ReadVolumeBlock key index) = ⊥
ReadsNoBlock request = Unit {0}

-- nor written
abbrev pub HasNoBlock : Request → Type 0
HasNoBlock (PutSnapshotBlock key index digest bytes) = ⊥
HasNoBlock (GetSnapshotBlock key index token) = ⊥
HasNoBlock (WriteVolumeBlock key index digest bytes) = ⊥
HasNoBlock (ReadVolumeBlock key index) = ⊥
HasNoBlock request = Unit {0}

-- the bytes that a change brings are these, where it brings any
abbrev pub Brings : Request → List ℕ → List ℕ → Type 0
Brings (PutSnapshotBlock key index stated left) digest bytes = bytes ≡ digest
Brings (WriteVolumeBlock key index stated left) digest bytes = bytes ≡ digest
Brings request digest bytes = Unit {0}

-- rows at the moment decide this
abbrev pub Decides : Rows → Moment → List ℕ → List ℕ → Decision → Type 0
Decides rows now digest bytes (decision.Change change answer) = (change.at ≡ now) × IsDecided rows change × Brings change.request digest bytes
Decides rows now digest bytes (decision.Kept answer) = Unit {0}
Decides rows now digest bytes (decision.View answer) = Unit {0}
Decides rows now digest bytes (decision.Read row) = Unit {0}

-- the block that is read, by its digest
abbrev pub Finds : Machine → Result Block Failure → Result (Machine × Answer) Refusal → Type 0
Finds at (Ok block) wanted = wanted ≡ Ok (at, BlockRead block.digest block.digest)
Finds at (Err (Refused r)) wanted = wanted ≡ Err r
Finds at (Err Memory) wanted = Unit {0}

-- the block of a volume that is read, or that it is all zeros
abbrev pub FindsOrZeros : Machine → Result (Option Block) Failure → Result (Machine × Answer) Refusal → Type 0
FindsOrZeros at (Ok (Some block)) wanted = wanted ≡ Ok (at, BlockRead block.digest block.digest)
FindsOrZeros at (Ok None) wanted = wanted ≡ Ok (at, ZeroBlockRead)
FindsOrZeros at (Err (Refused r)) wanted = wanted ≡ Err r
FindsOrZeros at (Err Memory) wanted = Unit {0}

-- a change is made with the bytes that it brings, unless the checksum of its blocks differs or changes are spent
abbrev pub Settles : Machine → Machine → Machine → List ℕ → Request → Change → Result (Unit {0}) Failure → Type 0
Settles old new at digest request change (Ok done) =
    (refuse_linear same at request ≡ Ok tt) × (is_spent at ≡ false) × ((bytes : List ℕ) → Brings change.request digest bytes → new ≡ changed at bytes change)
Settles old new at digest request change (Err (Refused r)) = (new ≡ old) × ((refuse_linear same at request >> refuse_if (is_spent at) (Exhausted Changes)) ≡ Err r)
Settles old new at digest request change (Err Memory) = new ≡ old

-- no block is brought
abbrev pub BringsNoBlock : Request → Type 0
BringsNoBlock (PutSnapshotBlock key index digest bytes) = ⊥
BringsNoBlock (WriteVolumeBlock key index digest bytes) = ⊥
BringsNoBlock request = Unit {0}
