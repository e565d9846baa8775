-- The laws of histories.
use Rattle.std.specs.Prelude.{◌≡◌, Some, true, List, ℕ, Option, Ok, ◌<◌, ◌≢◌, [], ◌∷◌, ◌++◌, map, ◌≤◌, length}
use Rattle.std.specs.Option.{option_map}
use Rattle.std.specs.FinMap as fin
use Rattle.sha2.specs.Sha256.{sha256}
use Rattle.ebs_records.specs.declared.record.Record.{Record}
use Rattle.ebs_records.specs.Records.{IsRecord, record_bytes}
use Rattle.ebs_model.specs.Arrays.{Hash}
use Rattle.ebs_model.specs.declared.keys.Moment.{Moment}
use Rattle.ebs_model.specs.declared.keys.SnapKey.{SnapKey}
use Rattle.ebs_model.specs.declared.tags.Tag.{Tag}
use Rattle.ebs_model.specs.declared.request.Request.TheVariants.{CreateVolume}
use Rattle.ebs_model.specs.declared.answer.Answer.{Answer}
use Rattle.ebs_model.specs.declared.change.Change.{Change}
use Rattle.ebs_model.specs.declared.change.Decision.TheVariants as decision
use Rattle.ebs_model.specs.Limits.{is_size}
use Rattle.ebs_model.specs.Decide.{decide}
use Rattle.ebs_model.specs.Machine.{Machine, rows_of, advance}
use Rattle.ebs_model.specs.Step.{act}
use Rattle.ebs_model.specs.Kept.{same}
use Rattle.ebs_records.specs.declared.record.AcceptedCall.{AcceptedCall}
use Rattle.ebs_recovery.specs.Made.{State, called, made, IsValue, advanced, is_free, Made, bind, after, record_of, IsHistory, followed, spelled}
use Rattle.ebs_model.specs.inner.Turns.{Changes}
use Rattle.ebs_recovery.specs.inner.Made.{IsCalled, digested_state, kept_change}
use Rattle.ebs_recovery.specs.Bases.{Begins}

-- a call is made where its slot is free, it is on time, and the machine accepts it as one change more
abbrev pub CallsAreMade : Type 0
CallsAreMade = (hash : Hash) (s : State) (a : AcceptedCall) (t : State) → IsCalled hash s a t → made hash s (called a) ≡ Some t

-- and nowhere else
abbrev pub MadeCallsAreAccepted : Type 0
MadeCallsAreAccepted = (hash : Hash) (s : State) (a : AcceptedCall) (t : State) → made hash s (called a) ≡ Some t → IsCalled hash s a t

-- such a call within its limits is the machine's own, at the record's moment
abbrev pub CallsAreTheMachines : Type 0
CallsAreTheMachines = (s : State) (a : AcceptedCall) (t : State) → IsValue (called a) → made sha256 s (called a) ≡ Some t
    → (answer : Answer) × Changes s.machine (record { account = a.account; request = a.request }) a.at t.machine answer

-- a creation that rows decide is recorded with the size that is made; where that is a volume's size, the call that is recorded does the same
abbrev pub RecordedCreationsActAlike : Type 0
RecordedCreationsActAlike = (hash : Hash) (m : Machine) (account : ℕ) (origin : Option SnapKey) (size : Option ℕ) (tags : List Tag) (token : Option (List ℕ)) (c : Change) (answer : Answer)
    → decide (rows_of m) m.clock account (CreateVolume origin size tags token) ≡ Ok (decision.Change c answer)
    → (made : ℕ) × (c.request ≡ CreateVolume origin (Some made) tags token) × (is_size made ≡ true → act hash m account c.request ≡ act hash m account (CreateVolume origin size tags token))

-- and an advance is what time does
abbrev pub AdvancesAreTimes : Type 0
AdvancesAreTimes = (s : State) (at : Moment) (t : State) → made sha256 s (advanced at) ≡ Some t → (s.machine.clock.second < at.second) × (t.machine ≡ advance s.machine at) × (t.slots ≡ s.slots)

-- a slot that no stamp has is free
abbrev pub NewSlotsAreFree : Type 0
NewSlotsAreFree = (s : State) (slot : ℕ) → ((stamp : ℕ) → fin.get s.slots stamp ≢ Some slot) → is_free s (Some slot) ≡ true

-- a change at the end of a history
abbrev pub OneChangeMore : Type 0
OneChangeMore = (hash : Hash) (s : State) (es : List Made) (e : Made) → after hash s (es ++ e ∷ []) ≡ bind (after hash s es) (λ t. made hash t e)

-- what is made of a state, is made of its kept form
abbrev pub ChangesAlike : Type 0
ChangesAlike = (s : State) (e : Made) → made same (digested_state s) (kept_change e) ≡ option_map digested_state (made sha256 s e)

abbrev pub HistoriesAlike : Type 0
HistoriesAlike = (s : State) (es : List Made) → after same (digested_state s) (map kept_change es) ≡ option_map digested_state (after sha256 s es)

-- what a reader makes of a history's records is the kept form of its state
abbrev pub ReadersFollow : Type 0
ReadersFollow = (base : State) (es : List Made) (s : State) → IsHistory base es s → followed (digested_state base) (map record_of es) ≡ Some (digested_state s)

-- the same spelled records are of states with the same kept form
abbrev pub OneHistory : Type 0
OneHistory = (a b : State) (es ds : List Made) (s t : State) → digested_state a ≡ digested_state b → spelled es ≡ spelled ds → IsHistory a es s → IsHistory b ds t → digested_state s ≡ digested_state t

-- a record's spelling is as long as a journal's records may be
abbrev pub RecordsAreShort : Type 0
RecordsAreShort = (r : Record) → IsRecord r → (1 ≤ length (record_bytes r)) × (length (record_bytes r) ≤ 1048576)

-- time has passed, at its clock, for a machine that a history gives
abbrev pub HistoriesRest : Type 0
HistoriesRest = (checkpoint : List ℕ) (base : State) (es : List Made) (s : State) → Begins checkpoint base → IsHistory base es s → advance s.machine s.machine.clock ≡ s.machine
