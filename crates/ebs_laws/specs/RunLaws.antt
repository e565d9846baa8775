-- What a run of a policy makes, and what it leaves of each volume (Amazon Data Lifecycle Manager).
use Rattle.std.specs.Prelude.{◌≡◌, ◌≢◌, ◌⊎◌, ℕ, ◌+◌, ◌*◌, ◌<◌, ◌≤◌, false, List, [], ◌∷◌, length, map}
use Rattle.std.specs.List.{AllByRecursion}
use Rattle.std.specs.FinMap as fin
use Rattle.std.specs.declared.option.Option.TheVariants.{None, Some}
use Rattle.ebs_model.specs.declared.keys.SnapKey.{SnapKey}
use Rattle.ebs_model.specs.declared.keys.VolKey.{VolKey}
use Rattle.ebs_model.specs.declared.keys.PolicyKey.{PolicyKey}
use Rattle.ebs_model.specs.declared.keys.AnyKey.{AnyKey}
use Rattle.ebs_model.specs.declared.keys.AnyKey.TheVariants.{Snap}
use Rattle.ebs_model.specs.declared.keys.Moment.{Moment}
use Rattle.ebs_model.specs.declared.tags.Tag.{Tag}
use Rattle.ebs_model.specs.declared.policy.Policy.{Policy}
use Rattle.ebs_model.specs.declared.policy.Retain.{Retain}
use Rattle.ebs_model.specs.declared.policy.Retain.TheVariants.{Count, Days, Weeks, Months, Years}
use Rattle.ebs_model.specs.declared.rows.VolRow.{VolRow}
use Rattle.ebs_model.specs.declared.request.Request.{Request}
use Rattle.ebs_model.specs.declared.request.Request.TheVariants.{RunPolicy}
use Rattle.ebs_model.specs.declared.answer.Answer.TheVariants.{PolicyRan}
use Rattle.ebs_model.specs.Retention.{months_after}
use Rattle.ebs_model.specs.Time.{Snapshot}
use Rattle.ebs_model.specs.Machine.{Machine, advance, empty_machine, disk_of}
use Rattle.ebs_model.specs.Step.{step}
use Rattle.ebs_model.specs.Timed.{Timed, turn, after_all, IsIn}
use Rattle.ebs_laws.specs.Words.{second_of, moment_at, next_number, started_id, is_repeat}
use Rattle.ebs_laws.specs.Uploads.{NumbersGiven}
use Rattle.ebs_laws.specs.DiskLaws.{IsTakenRow}
use Rattle.ebs_laws.specs.PolicyLaws.{IsSpared, IsDueMoment, NoneDueBetween}

-- ---- what always holds

-- no snapshot was started after the clock
abbrev pub StartsPassed : Machine → Type 0
StartsPassed m = (key : SnapKey) (s : Snapshot) → fin.get m.snaps key ≡ Some s → s.row.start.second ≤ m.clock.second

abbrev pub StartsStayPassed : Type 0
StartsStayPassed = (m : Machine) (account : ℕ) (reading : Moment) (request : Request) → StartsPassed m → StartsPassed (step m account reading request).0

abbrev pub RunsPassStarts : Type 0
RunsPassStarts = (secret : List ℕ) (turns : List Timed) → StartsPassed (after_all (empty_machine secret) turns)

-- it keeps one at least, or each for a day at least
abbrev pub KeepsSome : Retain → Type 0
KeepsSome (Count n) = 1 ≤ n
KeepsSome (Days n) = 1 ≤ n
KeepsSome (Weeks n) = 1 ≤ n
KeepsSome (Months n) = 1 ≤ n
KeepsSome (Years n) = 1 ≤ n

-- each policy does, and has an interval of an hour at least
abbrev pub PoliciesFit : Machine → Type 0
PoliciesFit m = (key : PolicyKey) (p : Policy) → fin.get m.policies key ≡ Some p → KeepsSome p.retain × (1 ≤ p.hours)

abbrev pub PoliciesStayFit : Type 0
PoliciesStayFit = (m : Machine) (account : ℕ) (reading : Moment) (request : Request) → PoliciesFit m → PoliciesFit (step m account reading request).0

abbrev pub RunsFitPolicies : Type 0
RunsFitPolicies = (secret : List ℕ) (turns : List Timed) → PoliciesFit (after_all (empty_machine secret) turns)

-- ---- what a run makes

-- one of its tags is a target tag
abbrev pub IsTarget : Policy → VolRow → Type 0
IsTarget p row = (tag : Tag) × IsIn p.targets tag × IsIn row.tags tag

-- a volume of the account's own that is a target
abbrev pub IsTargetVolume : Machine → ℕ → Policy → VolKey → Type 0
IsTargetVolume m account p volume = (volume.account ≡ account) × (row : VolRow) × (fin.get m.vols volume ≡ Some row) × IsTarget p row

-- each number is below those after it
abbrev pub Ascend : List ℕ → Type 0
Ascend [] = Unit {0}
Ascend (n ∷ ns) = AllByRecursion (λ later. n < later) ns × Ascend ns

-- these are all of them, each once, in ascending id
pub record AreTargets (m : Machine) (account : ℕ) (p : Policy) (volumes : List VolKey) : Type 0 where
  pub ascending : Ascend (map (λ (v : VolKey). v.number) volumes)
  pub are : (v : VolKey) → IsIn volumes v → IsTargetVolume m account p v
  pub all : (v : VolKey) → IsTargetVolume m account p v → IsIn volumes v

-- a snapshot of this volume is there, by the policy: its row is that of one that is taken of the volume at this moment, with the tags that the policy adds, and its blocks are all that the volume has
pub record IsRunOf (m : Machine) (now : Moment) (policy : PolicyKey) (p : Policy) (volume : VolKey) (key : SnapKey) (new : Machine) : Type 0 where
  pub of : VolRow
  pub was_there : fin.get m.vols volume ≡ Some of
  pub snapshot : Snapshot
  pub is_there : fin.get new.snaps key ≡ Some snapshot
  pub by_policy : snapshot.row.policy ≡ Some policy
  pub row : IsTakenRow key now volume of None p.add (record snapshot.row { policy = None })
  pub blocks : snapshot.array ≡ disk_of m volume

-- one of each of these volumes, in their order, numbered one after another
abbrev pub EachIsMade : Machine → Moment → PolicyKey → Policy → Machine → SnapKey → List VolKey → List AnyKey → Type 0
EachIsMade m now policy p new first [] [] = Unit {0}
EachIsMade m now policy p new first (v ∷ volumes) (id ∷ made) =
    (id ≡ Snap first) × IsRunOf m now policy p v first new × EachIsMade m now policy p new (record first { number = first.number + 1 }) volumes made
EachIsMade m now policy p new first volumes made = ⊥

-- a due moment has come since its last run
abbrev pub IsDue : Policy → ℕ → Type 0
IsDue p now = (due : ℕ) × IsDueMoment p due × (p.last.second < due) × (due ≤ now)

-- the account's next snapshot
abbrev pub next_own : Machine → ℕ → SnapKey
next_own m account = record { account = account; number = next_number m account }

-- by the calendar so many months later is later
abbrev pub PassesTime : Retain → ℕ → Type 0
PassesTime (Months n) now = now < months_after now n
PassesTime (Years n) now = now < months_after now (12 * n)
PassesTime retain now = Unit {0}

-- a run at a due moment makes one snapshot of each target volume and no other, under new numbers, and answers them; all are there afterwards
abbrev pub RunMakesEachTarget : Type 0
RunMakesEachTarget =
    (m : Machine) (account : ℕ) (reading : Moment) (policy : PolicyKey) (p : Policy) (deleted made : List AnyKey) → let s = step m account reading (RunPolicy policy) in let now = moment_at m reading in
    NumbersGiven m → StartsPassed m → PoliciesFit m → fin.get m.policies policy ≡ Some p → PassesTime p.retain (second_of m reading) → IsDue p (second_of m reading) → s.1 ≡ PolicyRan deleted made
    → (volumes : List VolKey) × AreTargets m account p volumes × EachIsMade m now policy p s.0 (next_own m account) volumes made × (next_number s.0 account ≡ next_number m account + length volumes)

-- and whatever run it is, what is there afterwards and wasn't there before is among what it answers that it made
abbrev pub RunTellsMade : Type 0
RunTellsMade =
    (m : Machine) (account : ℕ) (reading : Moment) (policy : PolicyKey) (deleted made : List AnyKey) (key : SnapKey) (new : Snapshot) → let s = step m account reading (RunPolicy policy) in
    s.1 ≡ PolicyRan deleted made → fin.get (advance m (moment_at m reading)).snaps key ≡ None → fin.get s.0.snaps key ≡ Some new → IsIn made (Snap key)

-- where no due moment has come it makes nothing, and gives no number
abbrev pub RunNotDueMakesNothing : Type 0
RunNotDueMakesNothing =
    (m : Machine) (account : ℕ) (reading : Moment) (policy : PolicyKey) (p : Policy) (deleted made : List AnyKey) → let s = step m account reading (RunPolicy policy) in
    fin.get m.policies policy ≡ Some p → NoneDueBetween p p.last.second (second_of m reading) → s.1 ≡ PolicyRan deleted made → (made ≡ []) × (next_number s.0 account ≡ next_number m account)

-- a snapshot that it doesn't say it deleted is there as it was, but maybe without its policy
abbrev pub RunTellsDeleted : Type 0
RunTellsDeleted =
    (m : Machine) (account : ℕ) (reading : Moment) (policy : PolicyKey) (deleted made : List AnyKey) (key : SnapKey) (old : Snapshot) → let s = step m account reading (RunPolicy policy) in
    NumbersGiven m → s.1 ≡ PolicyRan deleted made → fin.get (advance m (moment_at m reading)).snaps key ≡ Some old → (IsIn deleted (Snap key) → ⊥) → IsSpared s.0 key old

-- ---- what it leaves under a count

-- the policy has this snapshot of the volume, outside the bin
pub record IsHad (m : Machine) (policy : PolicyKey) (volume : VolKey) (key : SnapKey) (s : Snapshot) : Type 0 where
  pub is_there : fin.get m.snaps key ≡ Some s
  pub owned : policy.account ≡ key.account
  pub by_policy : s.row.policy ≡ Some policy
  pub of : s.row.volume ≡ Some volume
  pub not_binned : s.row.bin_end ≡ None

-- it was started later, or at the same second under a higher number
abbrev pub IsNewer : SnapKey → Snapshot → SnapKey → Snapshot → Type 0
IsNewer key s newer t = (s.row.start.second < t.row.start.second) ⊎ ((s.row.start.second ≡ t.row.start.second) × (key.number < newer.number))

-- the policy had or has so many newer ones of the volume, each once
pub record HasNewer (old new : Machine) (policy : PolicyKey) (volume : VolKey) (key : SnapKey) (s : Snapshot) (n : ℕ) : Type 0 where
  pub newer : List SnapKey
  pub many : n ≤ length newer
  pub once : Ascend (map (λ (k : SnapKey). k.number) newer)
  pub each : (k : SnapKey) → IsIn newer k → (t : Snapshot) × (IsHad old policy volume k t ⊎ IsHad new policy volume k t) × IsNewer key s k t

-- under a count of n each of the n newest of a volume stays, those that the run makes among them: one that doesn't stay as it was has n newer ones, before the run or after it
abbrev pub RunKeepsNewest : Type 0
RunKeepsNewest =
    (m : Machine) (account : ℕ) (reading : Moment) (policy : PolicyKey) (p : Policy) (n : ℕ) (volume : VolKey) (key : SnapKey) (old : Snapshot)
    → let at = advance m (moment_at m reading) in let s = step m account reading (RunPolicy policy) in
    NumbersGiven m → StartsPassed m → fin.get m.policies policy ≡ Some p → p.retain ≡ Count n → 1 ≤ n → IsHad at policy volume key old
    → (fin.get s.0.snaps key ≡ Some old) ⊎ HasNewer at s.0 policy volume key old n

-- ---- the ids of snapshots

-- the call gives this id to a new snapshot: it starts an upload or takes a snapshot of a volume, and repeats no other call, or it runs a policy
pub data GivesOut (m : Machine) (t : Timed) (key : SnapKey) : Type 0 where
  by_start : is_repeat m t.call.account t.call.request ≡ false → started_id (turn m t).1 ≡ Some key → GivesOut m t key
  by_run : (policy : PolicyKey) (deleted made : List AnyKey) → t.call.request ≡ RunPolicy policy → (turn m t).1 ≡ PolicyRan deleted made → IsIn made (Snap key) → GivesOut m t key

-- no id of a snapshot is given twice, whatever is called between
abbrev pub GivenIdsDiffer : Type 0
GivenIdsDiffer =
    (m : Machine) (first second : Timed) (between : List Timed) (a b : SnapKey) → GivesOut m first a → GivesOut (after_all (turn m first).0 between) second b → a ≢ b
