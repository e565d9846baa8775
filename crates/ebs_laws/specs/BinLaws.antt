-- What the bin keeps and until when, and who finds it there (Recycle Bin documentation).
use Rattle.std.specs.Prelude.{◌≡◌, ◌≢◌, ◌↔◌, ℕ, ◌+◌, ◌*◌, ◌^◌, ◌<◌, ◌≤◌, true, false, List, [], ◌∷◌}
use Rattle.std.specs.FinMap as fin
use Rattle.std.specs.declared.option.Option.{Option}
use Rattle.std.specs.declared.option.Option.TheVariants.{None, Some}
use Rattle.ebs_model.specs.declared.keys.SnapKey.{SnapKey}
use Rattle.ebs_model.specs.declared.keys.Moment.{Moment}
use Rattle.ebs_model.specs.declared.request.Request.{Request}
use Rattle.ebs_model.specs.declared.request.Request.TheVariants.{StartSnapshot, ListChangedBlocks, DeleteSnapshot, RestoreFromBin}
use Rattle.ebs_model.specs.declared.answer.Answer.TheVariants.{Started, SnapshotShown, Refused}
use Rattle.ebs_model.specs.declared.views.SnapView.{SnapView}
use Rattle.ebs_model.specs.Time.{Snapshot}
use Rattle.ebs_model.specs.Machine.{Machine, advance}
use Rattle.sha2.specs.Sha256.{sha256}
use Rattle.std.specs.declared.result.Result.TheVariants.{Ok}
use Rattle.ebs_model.specs.declared.answer.Kind.TheVariants.{Snapshot as snapshot}
use Rattle.ebs_model.specs.declared.answer.Refusal.TheVariants.{NotFound}
use Rattle.ebs_model.specs.Limits.{bad_member, is_page_size, has_ten_digits}
use Rattle.ebs_model.specs.Step.{refuse_size, refuse_digest, step}
use Rattle.ebs_laws.specs.Words.{second_of, moment_at, next_number, IsUnused, is_repeat, MayRead}
use Rattle.ebs_laws.specs.HiddenLaws.{Names, AsksRestore}
use Rattle.ebs_laws.specs.OwnLaws.{IsPlaced, IsOwnRow}
use Rattle.ebs_laws.specs.ShownLaws.{ShowsRow}
use Rattle.ebs_laws.specs.Uploads.{NumbersGiven}
use Rattle.ebs_model.specs.Timed.{Timed, turn, after_all}
use Rattle.ebs_model.specs.declared.tags.Tag.{Tag}
use Rattle.ebs_laws.specs.Puts.{NoPutAt}
use Rattle.ebs_laws.specs.BlockLaws.{HasBytes}
use Rattle.ebs_laws.specs.AccessLaws.{IsAccepted}
use Rattle.ebs_laws.specs.RuleWords.{IsLongest}
use Rattle.ebs_laws.specs.RuleLaws.{RulesFit}
use Rattle.ebs_laws.specs.DeletionLaws.{IsForGood, IsForDays, IsGone, binned_until}

-- a completed snapshot that was outside the bin is in it until this second, which lies ahead, and its number was given out
pub record IsBinned (m : Machine) (key : SnapKey) (s : Snapshot) (end : ℕ) : Type 0 where
  pub is_there : fin.get m.snaps key ≡ Some (binned_until end s)
  pub was_whole : s.row.completed ≡ true
  pub was_out : s.row.bin_end ≡ None
  pub ahead : m.clock.second < end
  pub given : key.number < next_number m key.account

-- a completed snapshot that a rule of its owner matches is in the bin after its deletion, for so many days from that second on
abbrev pub DeletionBins : Type 0
DeletionBins =
    (m : Machine) (account : ℕ) (reading : Moment) (key : SnapKey) (old : Snapshot) (days : ℕ) → let at = advance m (moment_at m reading) in let s = step m account reading (DeleteSnapshot key) in
    NumbersGiven m → RulesFit m → s.0.changes ≡ m.changes + 1 → fin.get at.snaps key ≡ Some old → IsForDays at key old.row days → IsBinned s.0 key old (second_of m reading + 86400 * days)

-- its restore is asked for
abbrev pub AsksRestoreOf : SnapKey → Request → Type 0
AsksRestoreOf key (RestoreFromBin k) = k ≡ key
AsksRestoreOf key request = ⊥

-- none of these calls is an accepted restore of it
abbrev pub NoRestore : SnapKey → Machine → List Timed → Type 0
NoRestore key m [] = Unit {0}
NoRestore key m (t ∷ ts) = (AsksRestoreOf key t.call.request → IsAccepted (turn m t).1 → ⊥) × NoRestore key (turn m t).0 ts

-- whatever is called by whomever, also on rules, it stays in the bin whole and until the same second, where it isn't restored before
abbrev pub EndsStay : Type 0
EndsStay =
    (m : Machine) (turns : List Timed) (key : SnapKey) (s : Snapshot) (end : ℕ) → IsBinned m key s end → NoRestore key m turns
    → (after_all m turns).clock.second < end → IsBinned (after_all m turns) key s end

-- and from that second on it is gone
abbrev pub BinnedGoesAtEnd : Type 0
BinnedGoesAtEnd =
    (m : Machine) (turns : List Timed) (key : SnapKey) (s : Snapshot) (end : ℕ) → IsBinned m key s end → NoRestore key m turns
    → end ≤ (after_all m turns).clock.second → IsGone (after_all m turns) key

-- one snapshot is as it was before its deletion, and all else stays
pub record Restores (old new : Machine) (key : SnapKey) (s : Snapshot) : Type 0 where
  pub is_there : fin.get new.snaps key ≡ Some s
  pub other_snapshots : (k : SnapKey) → k ≢ key → fin.get new.snaps k ≡ fin.get old.snaps k
  pub accounts : new.own ≡ old.own
  pub tokens : new.tokens ≡ old.tokens
  pub volumes : new.vols ≡ old.vols
  pub disks : new.disks ≡ old.disks
  pub rules : new.books ≡ old.books
  pub policies : new.policies ≡ old.policies

-- before that second its owner restores it: its row with all its fields, and its blocks; and is shown the row
abbrev pub BinnedIsRestored : Type 0
BinnedIsRestored =
    (m : Machine) (reading : Moment) (key : SnapKey) (s : Snapshot) (end : ℕ) → let r = step m key.account reading (RestoreFromBin key) in
    IsBinned m key s end → second_of m reading < end → m.changes < 2 ^ 40
    → (view : SnapView) × (r.1 ≡ SnapshotShown false view) × ShowsRow key.account key (second_of m reading) s.row view × Restores (advance m (moment_at m reading)) r.0 key s

-- so a deleted snapshot that a rule matched comes back whole, whatever was called in between by whomever, but for its own restore
abbrev pub DeletedIsRestored : Type 0
DeletedIsRestored =
    (m : Machine) (account : ℕ) (reading later : Moment) (key : SnapKey) (old : Snapshot) (days : ℕ) (turns : List Timed)
    → let at = advance m (moment_at m reading) in let s = step m account reading (DeleteSnapshot key) in let n = after_all s.0 turns in let r = step n key.account later (RestoreFromBin key) in
    NumbersGiven m → RulesFit m → s.0.changes ≡ m.changes + 1 → fin.get at.snaps key ≡ Some old → IsForDays at key old.row days
    → NoRestore key s.0 turns → second_of n later < second_of m reading + 86400 * days → n.changes < 2 ^ 40
    → IsAccepted r.1 × (fin.get r.0.snaps key ≡ Some old)

-- while its end lies ahead a request within its limits that names it, and repeats no start and no creation, is refused as of what isn't there, whoever asks: but
-- for its owner's restore
abbrev pub BinnedIsNotFound : Type 0
BinnedIsNotFound =
    (m : Machine) (account : ℕ) (reading : Moment) (request : Request) (key : SnapKey) (s : Snapshot) (end : ℕ) → IsBinned m key s end → second_of m reading < end
    → Names key request → (AsksRestore request → account ≢ key.account) → is_repeat m account request ≡ false → bad_member request ≡ None → refuse_size request ≡ Ok tt → refuse_digest sha256 request ≡ Ok tt
    → (step m account reading request).1 ≡ Refused (NotFound snapshot)

-- and so is a comparison of one that may be read with it
abbrev pub BinnedIsNotCompared : Type 0
BinnedIsNotCompared =
    (m : Machine) (account : ℕ) (reading : Moment) (first second : SnapKey) (page : Option (List ℕ)) (most start : ℕ) (a s : Snapshot) (end : ℕ) → MayRead m account first (second_of m reading) a
    → IsBinned m second s end → second_of m reading < end → is_page_size most ≡ true → has_ten_digits start ≡ true
    → (step m account reading (ListChangedBlocks first second page most start)).1 ≡ Refused (NotFound snapshot)

-- it is one of the rows of its owner that ListBin lists, and none of those that DescribeSnapshots lists
abbrev pub BinnedIsListed : Type 0
BinnedIsListed =
    (m : Machine) (reading : Moment) (key : SnapKey) (s : Snapshot) (end : ℕ) → IsBinned m key s end → second_of m reading < end
    → IsOwnRow true m key.account (second_of m reading) 0 key.number (binned_until end s) × ((t : Snapshot) → IsOwnRow false m key.account (second_of m reading) 0 key.number t → ⊥)

-- only the owner takes a snapshot out of the bin, while its end lies ahead
abbrev pub RestoreIsFromBin : Type 0
RestoreIsFromBin =
    (m : Machine) (account : ℕ) (reading : Moment) (key : SnapKey) → IsAccepted (step m account reading (RestoreFromBin key)).1
    → (s : Snapshot) × (fin.get m.snaps key ≡ Some s) × (account ≡ key.account) × IsPlaced true (second_of m reading) s.row

-- a deleted snapshot is gone exactly where its upload had failed or no rule of its owner matches
abbrev pub GoneWithoutRule : Type 0
GoneWithoutRule =
    (m : Machine) (account : ℕ) (reading : Moment) (key : SnapKey) (old : Snapshot) → let at = advance m (moment_at m reading) in let s = step m account reading (DeleteSnapshot key) in
    s.0.changes ≡ m.changes + 1 → fin.get at.snaps key ≡ Some old → (fin.get s.0.snaps key ≡ None) ↔ IsForGood at key old.row

-- and where it is there, its end is that of a rule of its owner that matches, of which none has more days
abbrev pub LongestRuleDecides : Type 0
LongestRuleDecides =
    (m : Machine) (account : ℕ) (reading : Moment) (key : SnapKey) (old new : Snapshot) → let at = advance m (moment_at m reading) in let s = step m account reading (DeleteSnapshot key) in
    s.0.changes ≡ m.changes + 1 → fin.get at.snaps key ≡ Some old → fin.get s.0.snaps key ≡ Some new
    → (days : ℕ) × IsLongest at key.account old.row.tags days × (new.row.bin_end ≡ Some (record { second = second_of m reading + 86400 * days }))

-- a restore from the bin leaves every other snapshot what time leaves of it, and so each child
abbrev pub RestoreLeavesOthers : Type 0
RestoreLeavesOthers =
    (m : Machine) (account : ℕ) (reading : Moment) (key other : SnapKey) → other ≢ key
    → fin.get (step m account reading (RestoreFromBin key)).0.snaps other ≡ fin.get (advance m (moment_at m reading)).snaps other

-- where time takes a parent out of the bin at its end, a completed child outside it stays with its row and its blocks
abbrev pub ChildOutlivesEnd : Type 0
ChildOutlivesEnd =
    (m : Machine) (now : Moment) (parent child : SnapKey) (old s : Snapshot) (end : ℕ) → fin.get m.snaps parent ≡ Some (binned_until end old) → end ≤ now.second
    → fin.get m.snaps child ≡ Some s → s.row.parent ≡ Some parent → s.row.completed ≡ true → s.row.bin_end ≡ None
    → (fin.get (advance m now).snaps parent ≡ None) × (fin.get (advance m now).snaps child ≡ Some s)

-- what a parent had when its child began stands in the child through all calls and at all moments, while the parent is in the bin, behind its end and after its restore,
-- until another put is accepted there
abbrev pub ChildKeepsBytesThroughout : Type 0
ChildKeepsBytesThroughout =
    (m : Machine) (account : ℕ) (reading : Moment) (size : ℕ) (parent : SnapKey) (text : Option (List ℕ)) (tags : List Tag) (token : Option (List ℕ)) (timeout : ℕ)
    (told : Option (List ℕ)) (owner : ℕ) (from : Option SnapKey) (child : SnapKey) (begin : Moment) (shown : List Tag) (gib index : ℕ) (bytes : List ℕ) (turns : List Timed)
    → let s = step m account reading (StartSnapshot size (Some parent) text tags token timeout) in NumbersGiven m → IsUnused m account token → HasBytes m parent index bytes
    → s.1 ≡ Started told owner from child begin shown gib → NoPutAt child index s.0 turns → HasBytes (after_all s.0 turns) child index bytes
