-- What exchanges do to the machine and to what is recorded of it, and what a stop may leave beside all that was answered.
use Rattle.std.specs.Prelude.{◌≡◌, ◌+◌, Ok, Err, List, [], ◌∷◌, ◌⊎◌, ℕ, ◌++◌, length, ◌≤◌, None}
use Rattle.sha2.specs.Sha256.{sha256}
use Rattle.ebs_model.specs.Machine.{Machine, moment_of, advance}
use Rattle.ebs_model.specs.Step.{step, act}
use Rattle.ebs_model.specs.declared.request.Call.{Call}
use Rattle.ebs_model.specs.Limits.{bad_member}
use Rattle.ebs_model.specs.declared.answer.Answer.{Answer}
use Rattle.ebs_model.specs.declared.answer.Answer.TheVariants.{Refused, Memory}
use Rattle.ebs_model.specs.declared.answer.Refusal.{Refusal}
use Rattle.ebs_model.specs.declared.answer.Refusal.TheVariants.{Unavailable}
use Rattle.ebs_model.specs.declared.request.Request.{Request}
use Rattle.ebs_model.specs.declared.request.Request.TheVariants.{PutSnapshotBlock, WriteVolumeBlock}
use Rattle.ebs_rest.specs.CallOf.{call_of}
use Rattle.ebs_exchanges.specs.Exchanges.{Exchange}
use Rattle.ebs_model.specs.Quotas.{block_size}

-- the machine that the records give, and the one that answers calls, whose clock a call without a change moves too
pub record Point : Type 0 where
  pub recorded : Machine
  pub running : Machine

-- what an exchange does to both
pub data Does (p : Point) (x : Exchange) (q : Point) : Type 0 where
  -- the message makes no call: it is answered by its refusal
  no_call : (refusal : Refusal) → call_of x.message ≡ Err refusal → x.answer ≡ Refused refusal → q ≡ p → Does p x q
  -- memory was wanting, which is told
  starved : x.answer ≡ Memory → q ≡ p → Does p x q
  -- E17
  unavailable : (call : Call) → call_of x.message ≡ Ok call → x.answer ≡ Refused Unavailable → q ≡ p → Does p x q
  -- one change more, which is recorded
  changed : (call : Call) → call_of x.message ≡ Ok call → step p.running call.account (record { second = x.reading }) call.request ≡ (q.running, x.answer)
      → q.running.changes ≡ p.running.changes + 1 → q.recorded ≡ q.running → Does p x q
  -- an answer or a refusal without a change, which isn't recorded
  answered : (call : Call) → call_of x.message ≡ Ok call → step p.running call.account (record { second = x.reading }) call.request ≡ (q.running, x.answer)
      → q.running.changes ≡ p.running.changes → q.recorded ≡ p.recorded → Does p x q

-- both went through all of these in their order, each of which did its part
abbrev pub Along : {X : Type 0} → (Point → X → Point → Type 0) → Point → List X → Point → Type 0
Along Part p [] q = q ≡ p
Along Part p (x ∷ xs) q = (next : Point) × Part p x next × Along Part next xs q

-- through these exchanges
abbrev pub Runs : Point → List Exchange → Point → Type 0
Runs p xs q = Along Does p xs q

-- one change more, which is recorded; or none, and what is recorded stays
abbrev pub Records : Point → Point → Type 0
Records p q = ((q.running.changes ≡ p.running.changes + 1) × (q.recorded ≡ q.running)) ⊎ ((q.running.changes ≡ p.running.changes) × (q.recorded ≡ p.recorded))

-- a call that a command of the program makes by itself, the reading of the clock at which it is made, in seconds, and its answer
pub record OwnCall : Type 0 where
  pub call : Call
  pub reading : ℕ
  pub answer : Answer

-- what such a call does to both; want of memory and E17 leave them
abbrev pub Obeys : Point → OwnCall → Point → Type 0
Obeys p x q =
    ((step p.running x.call.account (record { second = x.reading }) x.call.request ≡ (q.running, x.answer)) × Records p q)
    ⊎ (((x.answer ≡ Memory) ⊎ (x.answer ≡ Refused Unavailable)) × (q ≡ p))

-- the message makes this call, at the same reading and with the same answer
pub record Makes (x : Exchange) (made : OwnCall) : Type 0 where
  pub call : call_of x.message ≡ Ok made.call
  pub reading : made.reading ≡ x.reading
  pub answer : made.answer ≡ x.answer

-- a command's own call is itself
abbrev pub IsOwn : OwnCall → OwnCall → Type 0
IsOwn x made = made ≡ x

-- the second at which a call is made of the machines at this point: the later of the running clock and the reading, which counts as 2^36 where it is above that
abbrev pub second_at : Point → OwnCall → ℕ
second_at p made = (moment_of p.running (record { second = made.reading })).second

-- of some that are asked, this call is answered by E17: it is in hand behind the first of them; or it is one of these, and no change was accepted since
pub record IsOpen {X : Type 0} (Makes : X → OwnCall → Type 0) (Part : Point → X → Point → Type 0) (start : Point) (xs front : List X) (reached : Point) (made : OwnCall) (at : Point) : Type 0 where
  pub before : List X
  pub x : X
  pub later : List X
  pub is : xs ≡ before ++ x ∷ later
  pub makes : Makes x made
  pub told : made.answer ≡ Refused Unavailable
  -- the machines when it came
  pub runs : Along Part start before at
  pub untouched : reached.recorded ≡ at.recorded
  pub last : (front ≡ before) ⊎ ((since : List X) × (front ≡ before ++ x ∷ since))

-- a whole block stands for the one that was brought, and the call's own test finds that it has the stated digest; all else is done as it was asked
abbrev pub IsDoneAs : Request → Request → Type 0
IsDoneAs done (PutSnapshotBlock key index digest bytes) = (found : List ℕ) × (length found ≡ block_size) × (done ≡ PutSnapshotBlock key index digest found)
IsDoneAs done (WriteVolumeBlock key index digest bytes) = (found : List ℕ) × (length found ≡ block_size) × (done ≡ WriteVolumeBlock key index digest found)
IsDoneAs done asked = done ≡ asked

-- the call, which is within its limits, was done at this second, no earlier than the recorded clock, as one change more
pub record IsUntold (call : Call) (second : ℕ) (old new : Machine) : Type 0 where
  pub within : bad_member call.request ≡ None
  pub done : Request
  pub is_done : IsDoneAs done call.request
  pub on_time : old.clock.second ≤ second
  pub answer : Answer
  pub acts : act sha256 (advance old (record { second = second })) call.account done ≡ Ok (new, answer)
  pub one_more : new.changes ≡ old.changes + 1
