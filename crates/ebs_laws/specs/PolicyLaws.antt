-- What a run of a policy leaves, makes and gives up (Amazon Data Lifecycle Manager).
use Rattle.std.specs.Prelude.{◌≡◌, ◌≢◌, ℕ, ◌+◌, ◌*◌, ◌<◌, ◌≤◌, Bool, true, not, ◌&&◌, List, []}
use Rattle.std.specs.List.{count_by}
use Rattle.std.specs.FinMap as fin
use Rattle.std.specs.declared.option.Option.{Option}
use Rattle.std.specs.declared.option.Option.TheVariants.{None, Some}
use Rattle.ebs_model.specs.declared.keys.SnapKey.{SnapKey}
use Rattle.ebs_model.specs.declared.keys.VolKey.{VolKey}
use Rattle.ebs_model.specs.declared.keys.PolicyKey.{PolicyKey}
use Rattle.ebs_model.specs.declared.keys.AnyKey.{AnyKey}
use Rattle.ebs_model.specs.declared.keys.AnyKey.TheVariants.{Snap}
use Rattle.ebs_model.specs.declared.keys.Moment.{Moment}
use Rattle.ebs_model.specs.declared.policy.Policy.{Policy}
use Rattle.ebs_model.specs.declared.policy.Made.{Made}
use Rattle.ebs_model.specs.declared.policy.Retain.{Retain}
use Rattle.ebs_model.specs.declared.policy.Retain.TheVariants.{Count, Days, Weeks, Months, Years}
use Rattle.ebs_model.specs.declared.rows.SnapRow.{SnapRow}
use Rattle.ebs_model.specs.declared.rows.VolRow.{VolRow}
use Rattle.ebs_model.specs.declared.request.Request.TheVariants.{CreatePolicy, DeletePolicy, RunPolicy}
use Rattle.ebs_model.specs.declared.answer.Answer.TheVariants.{PolicyShown, PolicyRan, Done}
use Rattle.ebs_model.specs.Retention.{months_after, newer}
use Rattle.ebs_model.specs.Policies.{managed, made_of, of_volume}
use Rattle.ebs_model.specs.Calls.Run.{made_rows}
use Rattle.ebs_model.specs.Time.{Snapshot}
use Rattle.ebs_model.specs.declared.tags.Tag.{Tag}
use Rattle.ebs_model.specs.Rows.{own_of}
use Rattle.ebs_model.specs.Machine.{Machine, advance, rows_of, disk_of}
use Rattle.ebs_model.specs.Step.{step}
use Rattle.ebs_laws.specs.Words.{second_of, moment_at, next_number}
use Rattle.ebs_model.specs.Timed.{IsIn}
use Rattle.ebs_laws.specs.Uploads.{NumbersGiven}
use Rattle.ebs_laws.specs.LockLaws.{IsLocked}

-- ---- what a run leaves

-- it is there with all its fields, but maybe without its policy, and with all its blocks
abbrev pub IsSpared : Machine → SnapKey → Snapshot → Type 0
IsSpared new key old = (s : Snapshot) × (fin.get new.snaps key ≡ Some s) × (s.row ≡ record old.row { policy = s.row.policy }) × (s.array ≡ old.array)

-- a run never ends a snapshot under a lock that hasn't expired
abbrev pub RunSparesLocked : Type 0
RunSparesLocked =
    (m : Machine) (account : ℕ) (reading : Moment) (policy : PolicyKey) (key : SnapKey) (old : Snapshot)
    → NumbersGiven m → fin.get (advance m (moment_at m reading)).snaps key ≡ Some old → IsLocked old.row.lock (second_of m reading) → IsSpared (step m account reading (RunPolicy policy)).0 key old

-- nor does it touch one that this policy hasn't made
abbrev pub RunLeavesOtherPolicies : Type 0
RunLeavesOtherPolicies =
    (m : Machine) (account : ℕ) (reading : Moment) (policy : PolicyKey) (key : SnapKey) (old : Snapshot)
    → NumbersGiven m → fin.get (advance m (moment_at m reading)).snaps key ≡ Some old → old.row.policy ≢ Some policy → fin.get (step m account reading (RunPolicy policy)).0.snaps key ≡ Some old

-- nor one of another account
abbrev pub RunLeavesOtherAccounts : Type 0
RunLeavesOtherAccounts =
    (m : Machine) (account : ℕ) (reading : Moment) (policy : PolicyKey) (key : SnapKey) → key.account ≢ account
    → fin.get (step m account reading (RunPolicy policy)).0.snaps key ≡ fin.get (advance m (moment_at m reading)).snaps key

-- it hasn't reached the age: so many days or weeks of 86400 and 604800 seconds, or months and years of the calendar
abbrev pub IsYoung : Retain → Moment → ℕ → Type 0
IsYoung (Count n) start now = ⊥
IsYoung (Days n) start now = now < start.second + 86400 * n
IsYoung (Weeks n) start now = now < start.second + 604800 * n
IsYoung (Months n) start now = now < months_after start.second n
IsYoung (Years n) start now = now < months_after start.second (12 * n)

-- nor one that is younger than the age
abbrev pub RunLeavesYoung : Type 0
RunLeavesYoung =
    (m : Machine) (account : ℕ) (reading : Moment) (policy : PolicyKey) (p : Policy) (key : SnapKey) (old : Snapshot)
    → NumbersGiven m → fin.get m.policies policy ≡ Some p → fin.get (advance m (moment_at m reading)).snaps key ≡ Some old → IsYoung p.retain old.row.start (second_of m reading)
    → fin.get (step m account reading (RunPolicy policy)).0.snaps key ≡ Some old

-- those of a volume that the run counts: the policy's own outside the bin, and what it makes
abbrev pub counted : Machine → PolicyKey → Policy → Option VolKey → List Made
counted m policy p volume = of_volume m.clock.second volume (managed (made_rows (rows_of m) m.clock policy p) policy m.clock.second)

-- how many of them are newer than it
abbrev pub newer_than : Machine → PolicyKey → Policy → SnapKey → SnapRow → ℕ
newer_than m policy p key row = newer (counted m policy p row.volume) (made_of m.clock.second (key, row))

-- nor one among the n newest of its volume
abbrev pub RunLeavesNewest : Type 0
RunLeavesNewest =
    (m : Machine) (account : ℕ) (reading : Moment) (policy : PolicyKey) (p : Policy) (n : ℕ) (key : SnapKey) (old : Snapshot) → let at = advance m (moment_at m reading) in
    NumbersGiven m → fin.get m.policies policy ≡ Some p → p.retain ≡ Count n → fin.get at.snaps key ≡ Some old → newer_than at policy p key old.row < n
    → fin.get (step m account reading (RunPolicy policy)).0.snaps key ≡ Some old

-- so the newest of each volume always stays
abbrev pub RunLeavesTheNewest : Type 0
RunLeavesTheNewest =
    (m : Machine) (account : ℕ) (reading : Moment) (policy : PolicyKey) (p : Policy) (n : ℕ) (key : SnapKey) (old : Snapshot) → let at = advance m (moment_at m reading) in
    NumbersGiven m → fin.get m.policies policy ≡ Some p → p.retain ≡ Count n → 1 ≤ n → fin.get at.snaps key ≡ Some old → newer_than at policy p key old.row ≡ 0
    → fin.get (step m account reading (RunPolicy policy)).0.snaps key ≡ Some old

-- without a lock, and in the standard tier
abbrev pub is_loose : Made → Bool
is_loose one = not one.locked && not one.archived

-- of those of a volume that the policy has, a run leaves at most n so
abbrev pub AtMostAreLeft : Type 0
AtMostAreLeft =
    (m : Machine) (account : ℕ) (reading : Moment) (policy : PolicyKey) (p : Policy) (n : ℕ) (volume : Option VolKey) (deleted made : List AnyKey)
    → let s = step m account reading (RunPolicy policy) in let now = second_of m reading in
    fin.get m.policies policy ≡ Some p → p.retain ≡ Count n → s.1 ≡ PolicyRan deleted made → count_by is_loose (of_volume now volume (managed (rows_of s.0) policy now)) ≤ n

-- ---- what a run makes

-- a snapshot of a volume of the account's own, of this moment: completed, with the volume's size and line, the policy's tags and the volume's whole array
pub record IsMade (m : Machine) (account : ℕ) (now : Moment) (p : Policy) (s : Snapshot) : Type 0 where
  pub volume : VolKey
  pub row : VolRow
  pub was_there : fin.get m.vols volume ≡ Some row
  pub owned : account ≡ volume.account
  pub blocks : s.array ≡ disk_of m volume
  pub of : s.row.volume ≡ Some volume
  pub size : s.row.size ≡ row.size
  pub line : s.row.line ≡ row.line
  pub tags : s.row.tags ≡ p.add
  pub starts : s.row.start ≡ now
  pub completed : s.row.completed ≡ true

-- what wasn't there before a run and is afterwards, the run has made
abbrev pub RunMakesOfVolumes : Type 0
RunMakesOfVolumes =
    (m : Machine) (account : ℕ) (reading : Moment) (policy : PolicyKey) (p : Policy) (key : SnapKey) (new : Snapshot)
    → fin.get m.policies policy ≡ Some p → fin.get (advance m (moment_at m reading)).snaps key ≡ None → fin.get (step m account reading (RunPolicy policy)).0.snaps key ≡ Some new
    → IsMade m account (moment_at m reading) p new

-- the ids that a run says it made are of the account's own, with numbers that no call has given out before, and that are given out then
abbrev pub RunGivesNumbers : Type 0
RunGivesNumbers =
    (m : Machine) (account : ℕ) (reading : Moment) (policy : PolicyKey) (deleted made : List AnyKey) (id : AnyKey) → let s = step m account reading (RunPolicy policy) in
    s.1 ≡ PolicyRan deleted made → IsIn made id → (number : ℕ) × (id ≡ Snap (record { account = account; number = number })) × (next_number m account ≤ number) × (number < next_number s.0 account)

-- a whole number of intervals after the time of day
abbrev pub IsDueMoment : Policy → ℕ → Type 0
IsDueMoment p due = (n : ℕ) × (due ≡ p.at + n * (3600 * p.hours))

-- no due moment is above one moment and at most another
abbrev pub NoneDueBetween : Policy → ℕ → ℕ → Type 0
NoneDueBetween p since now = (due : ℕ) → IsDueMoment p due → due ≤ now → due ≤ since

-- a run after which no due moment came makes nothing
abbrev pub RunAgainMakesNothing : Type 0
RunAgainMakesNothing =
    (m : Machine) (account : ℕ) (reading later : Moment) (policy : PolicyKey) (p : Policy) (deleted made ended made_again : List AnyKey)
    → let first = step m account reading (RunPolicy policy) in let second = step first.0 account later (RunPolicy policy) in
    fin.get m.policies policy ≡ Some p → first.1 ≡ PolicyRan deleted made → NoneDueBetween p (second_of m reading) (second_of first.0 later) → second.1 ≡ PolicyRan ended made_again
    → made_again ≡ []

-- ---- a policy itself

-- no snapshot, volume, block, rule, client token or other policy changes
pub record OnePolicy (old new : Machine) (policy : PolicyKey) (becomes : Option Policy) : Type 0 where
  pub is : fin.get new.policies policy ≡ becomes
  pub other_policies : (other : PolicyKey) → other ≢ policy → fin.get new.policies other ≡ fin.get old.policies other
  pub snapshots : new.snaps ≡ old.snaps
  pub volumes : new.vols ≡ old.vols
  pub disks : new.disks ≡ old.disks
  pub rules : new.books ≡ old.books
  pub tokens : new.tokens ≡ old.tokens

-- the account's policy under its next number
abbrev pub next_own_policy : Machine → ℕ → PolicyKey
next_own_policy m account = record { account = account; number = (own_of (rows_of m) account).next_policy }

-- a created policy is as it was asked for, and its creation counts as its last run
abbrev pub CreatedPolicyIsAsAsked : Type 0
CreatedPolicyIsAsAsked =
    (m : Machine) (account : ℕ) (reading : Moment) (targets : List Tag) (hours at : ℕ) (retain : Retain) (add : List Tag) (created : Bool) (key : PolicyKey) (last : Moment)
    → let s = step m account reading (CreatePolicy targets hours at retain add) in let now = moment_at m reading in
    s.1 ≡ PolicyShown created key last
    → (created ≡ true) × (key ≡ next_own_policy m account) × (last ≡ now)
    × OnePolicy (advance m now) s.0 key (Some (record { key = key; targets = targets; hours = hours; at = at; retain = retain; add = add; last = now }))

-- a deletion takes the policy out, and leaves its snapshots
abbrev pub DeletedPolicyLeavesSnapshots : Type 0
DeletedPolicyLeavesSnapshots =
    (m : Machine) (account : ℕ) (reading : Moment) (policy : PolicyKey) → let s = step m account reading (DeletePolicy policy) in
    s.1 ≡ Done → (policy.account ≡ account) × OnePolicy (advance m (moment_at m reading)) s.0 policy None
