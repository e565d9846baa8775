-- What a deletion takes, and what it leaves.
use Rattle.std.specs.Prelude.{◌≡◌, ◌≢◌, ◌⊎◌, ℕ, ◌+◌, ◌*◌, ◌<◌, ◌≤◌, true, false, List}
use Rattle.std.specs.FinMap as fin
use Rattle.sha2.specs.Sha256.{sha256}
use Rattle.std.specs.declared.option.Option.{Option}
use Rattle.std.specs.declared.option.Option.TheVariants.{None, Some}
use Rattle.std.specs.declared.result.Result.TheVariants.{Ok}
use Rattle.ebs_model.specs.declared.keys.SnapKey.{SnapKey}
use Rattle.ebs_model.specs.declared.keys.Moment.{Moment}
use Rattle.ebs_model.specs.declared.tags.Tag.{Tag}
use Rattle.ebs_model.specs.declared.request.Request.{Request}
use Rattle.ebs_model.specs.declared.request.Request.TheVariants.{StartSnapshot, DeleteSnapshot}
use Rattle.ebs_model.specs.declared.answer.Answer.TheVariants.{Started, Refused}
use Rattle.ebs_model.specs.declared.answer.Kind.TheVariants.{Snapshot as snapshot}
use Rattle.ebs_model.specs.declared.answer.Refusal.TheVariants.{NotFound}
use Rattle.ebs_model.specs.Limits.{bad_member}
use Rattle.ebs_model.specs.declared.rows.SnapRow.{SnapRow}
use Rattle.ebs_model.specs.Time.{Snapshot}
use Rattle.ebs_model.specs.Machine.{Machine, advance}
use Rattle.ebs_model.specs.Step.{refuse_size, refuse_digest, step}
use Rattle.ebs_laws.specs.Words.{next_number, moment_at, IsUnused, is_repeat, started_id}
use Rattle.ebs_laws.specs.RuleWords.{NoneMatches, IsLongest}
use Rattle.ebs_model.specs.Timed.{Timed, after_all}
use Rattle.ebs_laws.specs.Uploads.{NumbersGiven}
use Rattle.ebs_laws.specs.BlockLaws.{HasBytes}
use Rattle.ebs_laws.specs.HiddenLaws.{Names}
use Rattle.ebs_laws.specs.LockLaws.{IsLocked}

-- it isn't kept in the bin: its upload had failed, or no rule of its owner matches
abbrev pub IsForGood : Machine → SnapKey → SnapRow → Type 0
IsForGood m key row = (row.completed ≡ false) ⊎ NoneMatches m key.account row.tags

-- it is kept for so many days: it was completed, and they are the most of a rule of its owner that matches
abbrev pub IsForDays : Machine → SnapKey → SnapRow → ℕ → Type 0
IsForDays m key row days = (row.completed ≡ true) × IsLongest m key.account row.tags days

-- in the bin until this second, with all its other fields and all its blocks
abbrev pub binned_until : ℕ → Snapshot → Snapshot
binned_until end s = record { row = record s.row { bin_end = Some (record { second = end }) }; array = s.array }

-- a snapshot goes for good, or stays in the bin
abbrev pub EndsUp : Machine → Machine → SnapKey → Snapshot → Type 0
EndsUp old new key s =
    (IsForGood old key s.row × (fin.get new.snaps key ≡ None))
    ⊎ ((days : ℕ) × IsForDays old key s.row days × (fin.get new.snaps key ≡ Some (binned_until (old.clock.second + 86400 * days) s)))

-- a snapshot that was there outside the bin, no open upload and without a lock that lasts, goes as its owner's rules say; every other one, the volumes,
-- the accounts and their rules stay
pub record Deletes (old new : Machine) (account : ℕ) (key : SnapKey) : Type 0 where
  pub found : Snapshot
  pub was_there : fin.get old.snaps key ≡ Some found
  pub owned : account ≡ key.account
  pub not_binned : found.row.bin_end ≡ None
  pub closed : (found.row.completed ≡ true) ⊎ (found.row.last.second + 60 * found.row.timeout ≤ old.clock.second)
  pub unlocked : IsLocked found.row.lock old.clock.second → ⊥
  pub ends_up : EndsUp old new key found
  pub other_snapshots : (k : SnapKey) → k ≢ key → fin.get new.snaps k ≡ fin.get old.snaps k
  pub accounts : new.own ≡ old.own
  pub tokens : new.tokens ≡ old.tokens
  pub volumes : new.vols ≡ old.vols
  pub disks : new.disks ≡ old.disks
  pub rules : new.books ≡ old.books
  pub policies : new.policies ≡ old.policies

-- an accepted deletion
abbrev pub DeletedGoesByRules : Type 0
DeletedGoesByRules =
    (m : Machine) (account : ℕ) (reading : Moment) (key : SnapKey) → let s = step m account reading (DeleteSnapshot key) in
    s.0.changes ≡ m.changes + 1 → Deletes (advance m (moment_at m reading)) s.0 account key

-- the account has given out its number, and it isn't there
abbrev pub IsGone : Machine → SnapKey → Type 0
IsGone m key = (key.number < next_number m key.account) × (fin.get m.snaps key ≡ None)

-- what a deletion took for good had a number that was given out
abbrev pub DeletionLeavesGone : Type 0
DeletionLeavesGone =
    (m : Machine) (account : ℕ) (reading : Moment) (key : SnapKey) (old : Snapshot) → let at = advance m (moment_at m reading) in let s = step m account reading (DeleteSnapshot key) in
    NumbersGiven m → s.0.changes ≡ m.changes + 1 → fin.get at.snaps key ≡ Some old → IsForGood at key old.row → IsGone s.0 key

-- and so had what it put in the bin
abbrev pub DeletionLeavesNumber : Type 0
DeletionLeavesNumber =
    (m : Machine) (account : ℕ) (reading : Moment) (key : SnapKey) → let s = step m account reading (DeleteSnapshot key) in
    NumbersGiven m → s.0.changes ≡ m.changes + 1 → key.number < next_number s.0 key.account

-- no call brings it back
abbrev pub GoneStaysGone : Type 0
GoneStaysGone = (m : Machine) (turns : List Timed) (key : SnapKey) → IsGone m key → IsGone (after_all m turns) key

-- no snapshot that a later call makes, and that repeats no start, gets a number that was given out, whatever became of the one that had it
abbrev pub GoneIsNotGiven : Type 0
GoneIsNotGiven =
    (m : Machine) (turns : List Timed) (gone : SnapKey) (account : ℕ) (reading : Moment) (request : Request) (key : SnapKey)
    → gone.number < next_number m gone.account → is_repeat (after_all m turns) account request ≡ false → started_id (step (after_all m turns) account reading request).1 ≡ Some key → key ≢ gone

-- a request within its limits that names it, and repeats no start and no creation, is refused as of what isn't there
abbrev pub GoneIsNotFound : Type 0
GoneIsNotFound =
    (m : Machine) (turns : List Timed) (key : SnapKey) (account : ℕ) (reading : Moment) (request : Request) → IsGone m key → Names key request → is_repeat (after_all m turns) account request ≡ false
    → bad_member request ≡ None → refuse_size request ≡ Ok tt → refuse_digest sha256 request ≡ Ok tt → (step (after_all m turns) account reading request).1 ≡ Refused (NotFound snapshot)

-- whatever becomes of a deletion, every other snapshot is what time leaves of it
abbrev pub DeletionLeavesOthers : Type 0
DeletionLeavesOthers =
    (m : Machine) (account : ℕ) (reading : Moment) (key other : SnapKey) → other ≢ key
    → fin.get (step m account reading (DeleteSnapshot key)).0.snaps other ≡ fin.get (advance m (moment_at m reading)).snaps other

-- a child keeps its row and its blocks when its parent is deleted
abbrev pub ChildStaysWhole : Type 0
ChildStaysWhole =
    (m : Machine) (account : ℕ) (reading : Moment) (parent child : SnapKey) (s : Snapshot) → child ≢ parent → fin.get (advance m (moment_at m reading)).snaps child ≡ Some s → s.row.parent ≡ Some parent
    → fin.get (step m account reading (DeleteSnapshot parent)).0.snaps child ≡ Some s

-- what a parent had when its child began stands in the child after the parent's deletion
abbrev pub ChildKeepsBytes : Type 0
ChildKeepsBytes =
    (m : Machine) (account : ℕ) (reading : Moment) (size : ℕ) (parent : SnapKey) (text : Option (List ℕ)) (tags : List Tag) (token : Option (List ℕ)) (timeout : ℕ)
    (told : Option (List ℕ)) (owner : ℕ) (from : Option SnapKey) (child : SnapKey) (begin : Moment) (shown : List Tag) (gib index : ℕ) (bytes : List ℕ) (deleter : ℕ) (later : Moment)
    → let s = step m account reading (StartSnapshot size (Some parent) text tags token timeout) in NumbersGiven m → IsUnused m account token → HasBytes m parent index bytes
    → s.1 ≡ Started told owner from child begin shown gib → HasBytes (step s.0 deleter later (DeleteSnapshot parent)).0 child index bytes
