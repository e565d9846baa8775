-- A call that is ready for its turn, by what was asked.
use Rattle.std.specs.Prelude.{◌≡◌, None}
use Rattle.ebs_world.specs.Image.{Everywhere}
use Rattle.ebs_world.specs.View.{View, Ran}
use Rattle.ebs_model.specs.declared.request.Request.{Request}
use Rattle.ebs_model.specs.Limits.{bad_member}
use Rattle.ebs_slots.specs.inner.Slots.{SlotTable}
use Rattle.ebs_disk_store.specs.inner.Told.{RanOffJournalAndOne}
use Rattle.ebs_disk_store.specs.inner.Fetched.{IsFetch}
use Rattle.ebs_disk_store.specs.inner.Puts.{with_bytes}
use Rattle.ebs_disk_store.specs.inner.Applied.{IsPut}
use Rattle.ebs_desk.specs.declared.task.Task.{Task}
use Rattle.ebs_desk.specs.declared.task.Task.TheVariants.{Put, Fetch, Call}

-- a put within its limits, so of a block that has its size
abbrev pub IsWholePut : Request → Type 0
IsWholePut request = IsPut request × (bad_member request ≡ None)

-- what was asked: a put has the bytes that were hashed
abbrev pub request_of : Task → Request
request_of (Put head block) = with_bytes head block
request_of (Fetch request) = request
request_of (Call request) = request

-- just the puts within their limits were hashed, and just the reads of blocks are to be hashed
abbrev pub IsPrepared : Task → Type 0
IsPrepared (Put head block) = bad_member (with_bytes head block) ≡ None
IsPrepared (Fetch request) = IsFetch request
IsPrepared (Call request) = (IsWholePut request → ⊥) × (IsFetch request → ⊥)

-- what a turn changed of the disk: nothing where a block is read, and else journals and one slot that nothing had
abbrev pub RanFor : Task → SlotTable → View → View → Type 0
RanFor (Put head block) slots old new = RanOffJournalAndOne slots old new
RanFor (Fetch request) slots old new = Ran Everywhere old new
RanFor (Call request) slots old new = RanOffJournalAndOne slots old new
