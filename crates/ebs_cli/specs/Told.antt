-- What is told of calls over any disk, by what is kept of the machine.
use Rattle.std.specs.Prelude.{ℕ, List, min, max, Result, ◌≡◌, Some, true, ◌+◌, Ok, ◌≢◌, ◌⊎◌, Err, Option, None, [], ◌∷◌}
use Rattle.std.specs.FinMap as fin
use Rattle.sha2.specs.Sha256.{sha256}
use Rattle.ebs_world.specs.declared.area.Area.TheVariants.{Blocks}
use Rattle.ebs_world.specs.View.{View, Ran}
use Rattle.ebs_http.specs.declared.message.Message.{Message}
use Rattle.ebs_model.specs.Arrays.{WholeBlock}
use Rattle.ebs_model.specs.Quotas.{last_second, Rose}
use Rattle.ebs_model.specs.Kept.{same, kept_request}
use Rattle.ebs_model.specs.Limits.{bad_member}
use Rattle.ebs_model.specs.Machine.{Machine, advance, array_of, disk_of}
use Rattle.ebs_model.specs.Step.{act, refuse_digest}
use Rattle.ebs_model.specs.declared.keys.Moment.{Moment}
use Rattle.ebs_model.specs.declared.request.Request.{Request}
use Rattle.ebs_model.specs.declared.request.Request.TheVariants.{PutSnapshotBlock, WriteVolumeBlock, GetSnapshotBlock, ReadVolumeBlock}
use Rattle.ebs_model.specs.declared.request.Call.{Call}
use Rattle.ebs_model.specs.declared.answer.Answer.{Answer}
use Rattle.ebs_model.specs.declared.answer.Answer.TheVariants.{BlockRead, Refused, Memory}
use Rattle.ebs_model.specs.declared.answer.Refusal.{Refusal}
use Rattle.ebs_model.specs.declared.answer.Refusal.TheVariants.{Unavailable, Damaged}
use Rattle.ebs_rest.specs.CallOf.{call_of}
use Rattle.ebs_recovery.specs.Made.{State, start, SlotOfStamp, with_slot}
use Rattle.ebs_disk_store.specs.Collected.{IsShared}
use Rattle.ebs_disk_store.specs.Opened.{OffJournalAndSlot}
use Rattle.ebs_exchanges.specs.Stops.{OwnCall}
use Rattle.ebs_session.specs.Session.{Replying}
use Rattle.ebs_slots.specs.Slots.{IsBlock}

-- what the records give, each block's digest in the place of its bytes, and its slot; and the clock of the machine that answers calls
pub record Kept : Type 0 where
  pub state : State
  pub clock : Moment

-- what a store keeps that has no record yet
abbrev pub new_kept : List ℕ → Kept
new_kept secret = record { state = start secret; clock = record { second = 0 } }

abbrev pub at_clock : Kept → Moment → Kept
at_clock k now = record k { clock = now }

-- the moment of a call: the later of the clock and the reading, which counts as 2^36 where it is above that
abbrev pub moment_at : Kept → ℕ → Moment
moment_at k reading = record { second = max k.clock.second (min reading last_second) }

-- the kept machine at a moment
abbrev pub machine_at : Kept → Moment → Machine
machine_at k now = advance k.state.machine now

-- what it makes of a request, whose block's digest stands in the place of its bytes
abbrev pub outcome : Kept → Moment → ℕ → Request → Result (Machine × Answer) Refusal
outcome k now account request = act same (machine_at k now) account (kept_request request)

-- a block is put into an upload, or written to a volume
abbrev pub BringsBlock : Request → Type 0
BringsBlock (PutSnapshotBlock key index digest bytes) = Unit {0}
BringsBlock (WriteVolumeBlock key index digest bytes) = Unit {0}
BringsBlock request = ⊥

-- the machine has this block where the request reads
abbrev pub IsAt : Machine → Request → WholeBlock → Type 0
IsAt m (GetSnapshotBlock key index token) block = fin.get (array_of m key) index ≡ Some block
IsAt m (ReadVolumeBlock key index) block = fin.get (disk_of m key) index ≡ Some block
IsAt m request block = ⊥

-- what a read gives in the slot of the block has this SHA-256
abbrev pub IsFoundIn : View → SlotOfStamp → WholeBlock → List ℕ → Type 0
IsFoundIn v slots block found =
    (bytes : List ℕ) × (found ≡ sha256 bytes) × ((slot : ℕ) → fin.get slots block.stamp ≡ Some slot → v.tells ≡ true → IsBlock v.reads Blocks slot bytes)

-- why a call may be E17: it would be one change more; the block that it reads is there; or it is a put with the digest that it states, which couldn't be staged
pub data MayFail (k : Kept) (now : Moment) (account : ℕ) (request : Request) : Type 0 where
  change : (next : Machine) (answer : Answer) → outcome k now account request ≡ Ok (next, answer) → next.changes ≡ k.state.machine.changes + 1 → MayFail k now account request
  read : (digest : List ℕ) → outcome k now account request ≡ Ok (machine_at k now, BlockRead digest digest) → MayFail k now account request
  put : BringsBlock request → refuse_digest same (kept_request request) ≡ Ok tt → MayFail k now account request

abbrev pub HasNoBytes : Answer → Type 0
HasNoBytes (BlockRead digest bytes) = ⊥
HasNoBytes answer = Unit {0}

-- these slots without that of a stamp
abbrev pub without : SlotOfStamp → Option ℕ → SlotOfStamp
without slots None = slots
without slots (Some stamp) = fin.remove slots stamp

-- the block that a call brings has this slot; and a stamp that no snapshot and no volume has any more may have lost its own
pub record BringsIn (k l : Kept) (slot : ℕ) : Type 0 where
  pub gone : Option ℕ
  pub dead : (stamp : ℕ) → gone ≡ Some stamp → IsShared l.state.machine stamp → ⊥
  pub slots : l.state.slots ≡ without (with_slot k.state.slots k.state.machine.stamps (Some slot)) gone

-- the slots stay but for those of the block that a call brings and of the one that it replaces
abbrev pub TakesSlot : Kept → Kept → Option ℕ → Type 0
TakesSlot k l None = l.state.slots ≡ k.state.slots
TakesSlot k l (Some slot) = BringsIn k l slot

-- what a call tells at its moment
pub data Tells (Still Rose : Type 0) (v : View) (k l : Kept) (account : ℕ) (now : Moment) (request : Request) : Answer → Type 0 where
  -- it is one change more, which is recorded; a block that it brings has a slot, and the one that it replaces may have none any more
  changed : (answer : Answer) (slot : Option ℕ) → outcome k now account request ≡ Ok (l.state.machine, answer) → l.state.machine.changes ≡ k.state.machine.changes + 1 → l.state.machine.clock ≡ now → l.clock ≡ now
      → TakesSlot k l slot → Tells Still Rose v k l account now request answer
  -- an answer that isn't a block's bytes, or a refusal: the clock has moved, and nothing is called of the disk, but where a block with the digest that it states was brought
  answered : (answer : Answer) → outcome k now account request ≡ Ok (machine_at k now, answer) → HasNoBytes answer → l ≡ at_clock k now → Still → Tells Still Rose v k l account now request answer
  refused : (refusal : Refusal) → outcome k now account request ≡ Err refusal → l ≡ at_clock k now → Still ⊎ (BringsBlock request × (refuse_digest same (kept_request request) ≡ Ok tt)) → Tells Still Rose v k l account now request (Refused refusal)
  -- a block that is answered has the digest that is kept of it; of one that has another E18 tells both
  fetched : (digest bytes : List ℕ) → outcome k now account request ≡ Ok (machine_at k now, BlockRead digest digest) → sha256 bytes ≡ digest → l ≡ at_clock k now
      → Tells Still Rose v k l account now request (BlockRead digest bytes)
  damaged : (stored found : List ℕ) (block : WholeBlock) → outcome k now account request ≡ Ok (machine_at k now, BlockRead stored stored) → found ≢ stored → IsAt (machine_at k now) request block
      → IsFoundIn v k.state.slots block found → l ≡ at_clock k now → Tells Still Rose v k l account now request (Refused (Damaged stored found))
  -- E17, where the disk's count of faults rose, and want of memory leave all as it was
  unavailable : Rose → MayFail k now account request → l ≡ k → Tells Still Rose v k l account now request (Refused Unavailable)
  memory : l ≡ k → Tells Still Rose v k l account now request Memory

-- a call, within its limits, was answered so at this reading; of the disk nothing was written but the journal's areas and one slot, which
-- no block had
pub record IsTold (Still : Type 0) (old new : View) (k l : Kept) (call : Call) (reading : ℕ) (answer : Answer) : Type 0 where
  pub within : bad_member call.request ≡ None
  pub tells : Tells Still (Rose old.faults new.faults) old k l call.account (moment_at k reading) call.request answer
  pub cause : answer ≡ Refused Unavailable → Rose old.faults new.faults
  pub slot : ℕ
  pub free : (stamp : ℕ) → fin.get k.state.slots stamp ≢ Some slot
  pub ran : Ran (OffJournalAndSlot slot) old new

-- and so was a message
pub data Replies (Still : Type 0) (old new : View) (k l : Kept) (message : Message) (reading : ℕ) (answer : Answer) : Type 0 where
  -- it makes no call, and is answered by its refusal
  no_call : (refusal : Refusal) → call_of message ≡ Err refusal → answer ≡ Refused refusal → Still → l ≡ k → Replies Still old new k l message reading answer
  -- memory was wanting to read it
  unread : answer ≡ Memory → Still → l ≡ k → Replies Still old new k l message reading answer
  told : (call : Call) → call_of message ≡ Ok call → IsTold Still old new k l call reading answer → Replies Still old new k l message reading answer

abbrev pub replies_on : {D : Type 0} → (D → View) → Replying Kept D
replies_on view k disk message reading answer l after = Replies (after ≡ disk) (view disk) (view after) k l message reading.second answer

-- and so were the calls that a command makes by itself, one after another
abbrev pub OwnReplies : {D : Type 0} → (D → View) → Kept → D → List OwnCall → Kept → D → Type 0
OwnReplies view k d [] l e = (l ≡ k) × (e ≡ d)
OwnReplies {D} view k d (x ∷ xs) l e = (between : Kept) × (mid : D) × IsTold (mid ≡ d) (view d) (view mid) k between x.call x.reading x.answer × OwnReplies view between mid xs l e
