-- Beside what is promised: changes that were recorded, with the bytes of the blocks that they wrote, and what they make of a machine.
use Rattle.std.specs.Prelude.{◌≤◌, ◌≡◌, ◌+◌, true, Ok}
use Rattle.sha2.specs.Sha256.{sha256}
use Rattle.ebs_model.specs.declared.answer.Answer.{Answer}
use Rattle.ebs_model.specs.Arrays.{Hash}
use Rattle.ebs_model.specs.Machine.{advance, Machine}
use Rattle.ebs_model.specs.Kept.{kept_request}
use Rattle.ebs_model.specs.Step.{act}
use Rattle.ebs_records.specs.declared.record.AcceptedCall.{AcceptedCall}
use Rattle.ebs_model.specs.inner.Kept.{digested}
use Rattle.ebs_recovery.specs.Made.{State, is_free, with_slot, Made, advanced, called}

-- ---- what it makes of a state

-- what it is that a call was made
pub record IsCalled (hash : Hash) (s : State) (a : AcceptedCall) (t : State) : Type 0 where
  pub free : is_free s a.slot ≡ true
  pub on_time : s.machine.clock.second ≤ a.at.second
  pub answer : Answer
  pub acts : act hash (advance s.machine a.at) a.account a.request ≡ Ok (t.machine, answer)
  pub changes : t.machine.changes ≡ s.machine.changes + 1
  pub slots : t.slots ≡ with_slot s.slots s.machine.stamps a.slot

-- what a change makes of a machine
abbrev pub Leads : Machine → Made → Machine → Type 0
Leads m (called a) next = (answer : Answer) × (act sha256 (advance m a.at) a.account a.request ≡ Ok (next, answer))
Leads m (advanced at) next = next ≡ advance m at

-- ---- the kept form, in which each block has its digest in the place of its bytes

abbrev pub digested_state : State → State
digested_state s = record s { machine = digested s.machine }

abbrev pub kept_change : Made → Made
kept_change (called a) = called (record a { request = kept_request a.request })
kept_change (advanced at) = advanced at
