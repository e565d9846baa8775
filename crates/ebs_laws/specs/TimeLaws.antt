-- What time does, and what a refused call leaves.
use Rattle.std.specs.Prelude.{◌≡◌, ◌≤◌, ℕ, ◌^◌, true, false, List, Some, None}
use Rattle.std.specs.FinMap as fin
use Rattle.ebs_model.specs.declared.keys.SnapKey.{SnapKey}
use Rattle.ebs_model.specs.Time.{Snapshot, status_at, is_failed, is_reached}
use Rattle.ebs_model.specs.declared.keys.Moment.{Moment}
use Rattle.ebs_model.specs.declared.request.Request.{Request}
use Rattle.ebs_model.specs.declared.answer.Answer.TheVariants.{Refused}
use Rattle.ebs_model.specs.declared.answer.Refusal.{Refusal}
use Rattle.ebs_model.specs.Machine.{Machine, advance, moment_of, empty_machine}
use Rattle.ebs_model.specs.Step.{step}
use Rattle.ebs_model.specs.Timed.{Timed, after_all}

-- a refused call leaves the machine as time alone makes it
abbrev pub RefusedCallChangesNothing : Type 0
RefusedCallChangesNothing =
    (m : Machine) (account : ℕ) (reading : Moment) (request : Request) (refusal : Refusal)
    → (step m account reading request).1 ≡ Refused refusal → (step m account reading request).0 ≡ advance m (moment_of m reading)

-- after a call the clock stands at the call's moment
abbrev pub ClockIsMoment : Type 0
ClockIsMoment =
    (m : Machine) (account : ℕ) (reading : Moment) (request : Request) → (step m account reading request).0.clock ≡ moment_of m reading

-- the clock never goes back
abbrev pub ClockGoesForward : Type 0
ClockGoesForward =
    (m : Machine) (account : ℕ) (reading : Moment) (request : Request) → m.clock.second ≤ (step m account reading request).0.clock.second

-- the clock of a run never passes 2^36 seconds
abbrev pub ClockStaysBelow : Type 0
ClockStaysBelow = (secret : List ℕ) (turns : List Timed) → (after_all (empty_machine secret) turns).clock.second ≤ 2 ^ 36

-- time may pass in parts
abbrev pub TimePassesInParts : Type 0
TimePassesInParts =
    (m : Machine) (now later : Moment) → now.second ≤ later.second → advance (advance m now) later ≡ advance m later

-- an upload that has failed has no block, and no index is marked as put
abbrev pub FailedUploadIsEmpty : Type 0
FailedUploadIsEmpty =
    (m : Machine) (now : Moment) (key : SnapKey) (s : Snapshot) → fin.get (advance m now).snaps key ≡ Some s
    → is_failed (status_at s.row now.second) ≡ true → (s.array ≡ fin.empty) × (s.row.put ≡ fin.empty)

-- a snapshot whose stay in the bin has ended is taken out
abbrev pub BinnedSnapshotGoes : Type 0
BinnedSnapshotGoes =
    (m : Machine) (now : Moment) (key : SnapKey) (s : Snapshot) → fin.get m.snaps key ≡ Some s → is_reached s.row.bin_end now.second ≡ true
    → fin.get (advance m now).snaps key ≡ None

-- every other snapshot stays as it is
abbrev pub OtherSnapshotStays : Type 0
OtherSnapshotStays =
    (m : Machine) (now : Moment) (key : SnapKey) (s : Snapshot) → fin.get m.snaps key ≡ Some s → is_reached s.row.bin_end now.second ≡ false
    → is_failed (status_at s.row now.second) ≡ false → fin.get (advance m now).snaps key ≡ Some s

-- time makes no snapshot
abbrev pub NoSnapshotComes : Type 0
NoSnapshotComes =
    (m : Machine) (now : Moment) (key : SnapKey) → fin.get m.snaps key ≡ None → fin.get (advance m now).snaps key ≡ None
