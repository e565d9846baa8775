-- What stays in the bin, and what is restored from it.
use Rattle.std.proofs.Common.{◌≡◌, ◌≢◌, ◌↔◌, inl, inr, ℕ, ◌+◌, ◌*◌, ◌^◌, ◌<◌, ◌≤◌, Bool, true, false, nat_le, nat_lt, arith, List, [], ◌∷◌, Option, Some, None, Ok, sym, ap, subst, ◌∙◌, refl}
use Rattle.std.proofs.lemmas.Bool.Decides.{nat_tests}
use Rattle.std.specs.FinMap as fin
use Rattle.ebs_model.specs.declared.keys.SnapKey.{SnapKey}
use Rattle.ebs_model.specs.declared.keys.Moment.{Moment}
use Rattle.ebs_model.specs.declared.rows.SnapRow.{SnapRow}
use Rattle.ebs_model.specs.declared.request.Request.{Request}
use Rattle.ebs_model.specs.declared.request.Request.TheVariants.{StartSnapshot, PutSnapshotBlock, CompleteSnapshot, DeleteSnapshot, RestoreFromBin}
use Rattle.ebs_model.specs.declared.answer.Answer.{Answer}
use Rattle.ebs_model.specs.declared.answer.Answer.TheVariants.{SnapshotShown}
use Rattle.ebs_model.specs.inner.Orders.{snaps_total, exact_snaps}
use Rattle.ebs_model.specs.Quotas.{most_changes}
use Rattle.ebs_model.specs.Time.{Snapshot, status_by, is_failed, is_ahead}
use Rattle.ebs_model.specs.Access.{open_upload}
use Rattle.ebs_model.specs.Calls.Bin.{recovered}
use Rattle.ebs_model.specs.Views.{view_of}
use Rattle.ebs_model.specs.Machine.{Machine, advance, moment_of}
use Rattle.ebs_model.specs.Step.{call, settled, step}
use Rattle.ebs_laws.specs.Words.{second_of, moment_at}
use Rattle.ebs_model.specs.Timed.{Timed, turn, after_all}
use Rattle.ebs_laws.specs.AccessLaws.{IsAccepted}
use Rattle.ebs_laws.specs.DeletionLaws.{IsForGood, IsForDays, EndsUp, IsGone, binned_until}
use Rattle.ebs_laws.specs.BinLaws.{IsBinned, DeletionBins, AsksRestoreOf, NoRestore, EndsStay, BinnedGoesAtEnd, Restores, BinnedIsRestored, DeletedIsRestored, GoneWithoutRule, LongestRuleDecides}
use Rattle.ebs_laws.specs.Uploads.{NumbersGiven}
use Rattle.ebs_laws.specs.RuleWords.{IsLongest}
use Rattle.ebs_laws.specs.RuleLaws.{RulesFit}
use Rattle.ebs_laws.specs.ShownLaws.{ShowsRow}
use Rattle.ebs_laws.proofs.Views.{shows-row}
use Rattle.ebs_model.specs.declared.views.SnapView.{SnapView}
use Rattle.ebs_laws.proofs.Maps.{get-itself, get-other, get-left}
use Rattle.ebs_laws.proofs.Ages.{time-gone, time-left}
use Rattle.ebs_laws.proofs.Acts.{call-whole}
use Rattle.ebs_laws.proofs.Cases.{Outcome, Accepted, step-cases}
use Rattle.ebs_laws.proofs.Others.{others, BinIs, stands, goes, comes}
use Rattle.ebs_laws.proofs.Readers.{own-out, open-owned, number_is}
use Rattle.ebs_laws.proofs.Clocks.{clock-moment, clock-forward}
use Rattle.ebs_laws.proofs.Begun.{numbered, above-turn}
use Rattle.ebs_laws.proofs.Deleted.{deleted-by-rules, deletion-number, not-both, gone-turn, gone-accepted}
use Rattle.ebs_laws.proofs.Whole.{own_of, with_snapshot, rewritten}
use Rattle.ebs_model.specs.declared.rows.Own.{Own}
use Rattle.std.specs.Ordering.{nat_cmp}
use Rattle.ebs_laws.proofs.PolicyRuns.{Left, as_it_was, by_run, RunLeaves, none_there, frees, bins as run_bins, takes, IsCounted, IsBegun, begun, standing, stays as run_stays}

only : {s t : Snapshot} → Some s ≡ Some t → s ≡ t
only e = cc

nothing : {s : Snapshot} → None ≡ Some s → ⊥
nothing e = cc

true_false : true ≡ false → ⊥
true_false e = cc

pub is-ahead : (now end : ℕ) → now < end → nat_lt now end ≡ true
is-ahead now end h = grind (arith, nat_tests)

pub not-reached : (now end : ℕ) → now < end → nat_le end now ≡ false
not-reached now end h = grind (arith, nat_tests)

pub is-reached : (now end : ℕ) → end ≤ now → nat_le end now ≡ true
is-reached now end h = grind (arith, nat_tests)

pub stood : (c late : Bool) → c ≡ true → is_failed (status_by c late) ≡ false
stood true late e = refl
stood false late e = cc

-- ---- what a call leaves of a snapshot in the bin

module _ (m : Machine) (key : SnapKey) (b : Snapshot) (is : fin.get m.snaps key ≡ Some b) (ahead : is_ahead b.row.bin_end m.clock.second ≡ true) (given : key.number < (own_of m key.account).next_snap) where
  abbrev Stays : Request → Outcome → Type 0
  Stays request d = (AsksRestoreOf key request → IsAccepted d.1 → ⊥) → fin.get d.0.snaps key ≡ Some b

  -- another's number
  new-number : (account : ℕ) → key ≢ record { account = account; number = (own_of m account).next_snap }
  new-number account same = let number = ap (λ (k : SnapKey). k.number) same in let next = ap (λ (k : SnapKey). (own_of m k.account).next_snap) same in absurd (omega (arith, number, next, given))

  -- what isn't ahead is another
  apart : (k : SnapKey) (s : Snapshot) → fin.get m.snaps k ≡ Some s → is_ahead s.row.bin_end m.clock.second ≡ false → key ≢ k
  apart k s there out same = true_false (sym ahead ∙ ap (λ (s : Snapshot). is_ahead s.row.bin_end m.clock.second) (only (sym is ∙ ap (fin.get m.snaps) same ∙ there)) ∙ out)

  of-open : (account : ℕ) (k : SnapKey) (s : Snapshot) → fin.get m.snaps k ≡ Some s → open_upload account k m.clock.second s.row ≡ Ok tt → key ≢ k
  of-open account k s there passes = apart k s there (open-owned account k m.clock.second s.row passes).0

  written : (k : SnapKey) (s : Snapshot) → key ≢ k → fin.get (fin.insert m.snaps k s) key ≡ Some b
  written k s other = get-other snaps_total exact_snaps m.snaps k s key other ∙ is

  moved : (k : SnapKey) (s : Snapshot) (row : SnapRow) (account : ℕ) (request : Request) (answer : Answer) → fin.get m.snaps k ≡ Some s → BinIs m account k request s.row row → IsAccepted answer
      → (AsksRestoreOf key request → IsAccepted answer → ⊥) → fin.get (fin.insert m.snaps k (rewritten row s)) key ≡ Some b
  moved k s row account request answer there (stands end out whole) accepted none = written k _ (apart k s there out)
  moved k s row account request answer there (goes gone) accepted none = written k _ (apart k s there (own-out account k m.clock.second s.row gone.passes))
  moved k s row account request answer there (comes back) accepted none = written k _ (λ same. none (subst (AsksRestoreOf key) (sym back.request_is) (sym same)) accepted)

  -- a run leaves what is in the bin
  managed-stays : (account : ℕ) (own : fin.FinMap nat_cmp Own) (new : Option Snapshot) → Left m account own key new → new ≡ Some b
  managed-stays account own new (as_it_was e) = e ∙ is
  managed-stays account own new (by_run of p mine count leaves) = by leaves
    where
      made : (s : Snapshot) → IsBegun m of p key s → ⊥
      made s fresh = let above = fresh.above in let next = ap (λ a. (own_of m a).next_snap) fresh.owner in absurd (omega (arith, above, next, given))

      outside : (s : Snapshot) → IsCounted m of p key s → is_ahead s.row.bin_end m.clock.second ≡ false → ⊥
      outside s (standing there) out = apart key s there out refl
      outside s (begun fresh) out = made s fresh

      by : RunLeaves m of p key new → new ≡ Some b
      by (none_there none e) = absurd (nothing (sym none ∙ is))
      by (run_stays s c e) = e ∙ kept s c
        where
          kept : (s : Snapshot) → IsCounted m of p key s → Some s ≡ Some b
          kept s (standing there) = sym there ∙ is
          kept s (begun fresh) = absurd (made s fresh)
      by (frees s c g l e) = absurd (outside s c g.not_binned)
      by (run_bins s days c g free t d e) = absurd (outside s c g.not_binned)
      by (takes s c g free t d e) = absurd (outside s c g.not_binned)

  stays-accepted : (account : ℕ) (request : Request) → Accepted (Stays request) m account request
  stays-accepted account (StartSnapshot size parent text tags token timeout) = (λ from tests none. written _ _ (new-number account), λ row tests none. is)
  stays-accepted account (PutSnapshotBlock k index digest bytes) = λ s there passes tests none. written k _ (of-open account k s there passes)
  stays-accepted account (CompleteSnapshot k count checksum) = λ s there passes tests none. written k _ (of-open account k s there passes)
  stays-accepted account request = others (Stays request) m account request (λ answer says none. is)
      (λ k s row answer there same says none. moved k s row account request answer there same.bin_is says.answers none)
      (λ k s answer there same says none. get-left snaps_total exact_snaps m.snaps k key (apart k s there (own-out account k m.clock.second s.row same.passes)) ∙ is)
      (λ k row array token answer there says none. is) (λ k row answer there is_so says none. is)
      (λ v row text tags there made none. written _ _ (new-number account)) (λ v row i digest bytes there asked none. is) (λ command change answer so says none. is)
      (λ snaps own policies answer so says none. managed-stays account own (fin.get snaps key) (so.leaves key))

-- a turn before the end
binned-turn : (m : Machine) (t : Timed) (key : SnapKey) (s : Snapshot) (end : ℕ) → IsBinned m key s end → (AsksRestoreOf key t.call.request → IsAccepted (turn m t).1 → ⊥) → (turn m t).0.clock.second < end → IsBinned (turn m t).0 key s end
binned-turn m t key s end h none early =
    let now = moment_of m t.reading in
    let at = advance m now in
    let clock = ap (λ (c : Moment). c.second) (clock-moment m t.call.account t.reading t.call.request) in
    let before : now.second < end = omega (arith, clock, early) in
    let there : fin.get at.snaps key ≡ Some (binned_until end s) = time-left m now key (binned_until end s) h.is_there (not-reached now.second end before) (stood s.row.completed _ h.was_whole) in
    let below = h.given in
    let same = numbered (fin.get m.own key.account) in
    let more = above-turn m t key.account in
    record {
      is_there = step-cases (Stays at key (binned_until end s) there (is-ahead now.second end before) (omega (arith, below, same)) t.call.request) m t.call.account t.reading t.call.request
          (stays-accepted at key (binned_until end s) there (is-ahead now.second end before) (omega (arith, below, same)) t.call.account t.call.request) (λ refusal no. there) none;
      was_whole = h.was_whole;
      was_out = h.was_out;
      ahead = early;
      given = omega (arith, below, more);
    }

clock-run : (turns : List Timed) (m : Machine) → m.clock.second ≤ (after_all m turns).clock.second
clock-run [] m = omega arith
clock-run (t ∷ ts) m = let one = clock-forward m t.call.account t.reading t.call.request in let more = clock-run ts (turn m t).0 in omega (arith, one, more)

binned-run : (turns : List Timed) (m : Machine) (key : SnapKey) (s : Snapshot) (end : ℕ) → IsBinned m key s end → NoRestore key m turns → (after_all m turns).clock.second < end → IsBinned (after_all m turns) key s end
binned-run [] m key s end h none early = h
binned-run (t ∷ ts) m key s end h none early =
    let later = clock-run ts (turn m t).0 in
    binned-run ts (turn m t).0 key s end (binned-turn m t key s end h none.0 (omega (arith, later, early))) none.1 early

pub ends-stay : EndsStay
ends-stay m turns key s end h none early = binned-run turns m key s end h none early

-- a turn at the end or behind it
goes-turn : (m : Machine) (t : Timed) (key : SnapKey) (s : Snapshot) (end : ℕ) → IsBinned m key s end → end ≤ (turn m t).0.clock.second → IsGone (turn m t).0 key
goes-turn m t key s end h late =
    let now = moment_of m t.reading in
    let at = advance m now in
    let clock = ap (λ (c : Moment). c.second) (clock-moment m t.call.account t.reading t.call.request) in
    let none : fin.get at.snaps key ≡ None = time-gone m now key (binned_until end s) h.is_there (is-reached now.second end (omega (arith, clock, late))) in
    let below = h.given in
    let same = numbered (fin.get m.own key.account) in
    let more = above-turn m t key.account in
    (omega (arith, below, more), step-cases (λ d. fin.get d.0.snaps key ≡ None) m t.call.account t.reading t.call.request (gone-accepted key at none (omega (arith, below, same)) t.call.account t.call.request) (λ refusal. none))

gone-all : (turns : List Timed) (m : Machine) (key : SnapKey) → IsGone m key → IsGone (after_all m turns) key
gone-all [] m key h = h
gone-all (t ∷ ts) m key h = gone-all ts (turn m t).0 key (gone-turn key m t h)

goes-run : (turns : List Timed) (m : Machine) (key : SnapKey) (s : Snapshot) (end : ℕ) → IsBinned m key s end → NoRestore key m turns → end ≤ (after_all m turns).clock.second → IsGone (after_all m turns) key
goes-run [] m key s end h none late = let early = h.ahead in absurd (omega (arith, early, late))
goes-run (t ∷ ts) m key s end h none late = by (nat_le end (turn m t).0.clock.second) refl (goes-run ts (turn m t).0 key s end)
  where
    by : (b : Bool) → nat_le end (turn m t).0.clock.second ≡ b → (IsBinned (turn m t).0 key s end → NoRestore key (turn m t).0 ts → end ≤ (after_all m (t ∷ ts)).clock.second → IsGone (after_all m (t ∷ ts)) key) → IsGone (after_all m (t ∷ ts)) key
    by true e rest = let reached : end ≤ (turn m t).0.clock.second = grind (arith, nat_tests) in gone-all ts (turn m t).0 key (goes-turn m t key s end h reached)
    by false e rest = let early : (turn m t).0.clock.second < end = grind (arith, nat_tests) in rest (binned-turn m t key s end h none.0 early) none.1 late

pub goes-at-end : BinnedGoesAtEnd
goes-at-end m turns key s end h none late = goes-run turns m key s end h none late

-- ---- a restore

module _ (at : Machine) (key : SnapKey) where
  recovers : (b : Snapshot) → fin.get at.snaps key ≡ Some b → is_ahead b.row.bin_end at.clock.second ≡ true → nat_le most_changes at.changes ≡ false
      → settled at (call at key.account (RestoreFromBin key)) ≡ (with_snapshot at key (rewritten (recovered b.row) b), SnapshotShown false (view_of key.account at.clock.second key (recovered b.row)))
  recovers b is ahead few = let mine = number_is key.account key.account refl in ap (settled at) (call-whole at key.account (RestoreFromBin key)) ∙ rw (is, mine, ahead, few) refl

few-changes : (n : ℕ) → n < 2 ^ 40 → nat_le most_changes n ≡ false
few-changes n h = grind (arith, nat_tests)

module _ (at : Machine) (key : SnapKey) (s : Snapshot) (end : ℕ) (out : s.row.bin_end ≡ None) where
  -- out of the bin it is as it was
  as-before : recovered (binned_until end s).row ≡ s.row
  as-before = λ i. record s.row { bin_end = sym out i }

  restored-so : Restores at (with_snapshot at key (rewritten (recovered (binned_until end s).row) (binned_until end s))) key s
  restored-so = record {
    is_there = get-itself snaps_total exact_snaps at.snaps key _ ∙ (λ i. Some (record { row = as-before i; array = s.array }));
    other_snapshots = λ k other. get-other snaps_total exact_snaps at.snaps key _ k other;
    accounts = refl;
    tokens = refl;
    volumes = refl;
    disks = refl;
    rules = refl;
    policies = refl;
  }

  shows-so : ShowsRow key.account key at.clock.second s.row (view_of key.account at.clock.second key (recovered (binned_until end s).row))
  shows-so = subst (λ row. ShowsRow key.account key at.clock.second s.row (view_of key.account at.clock.second key row)) (sym as-before) (shows-row key.account key at.clock.second s.row)

pub binned-restored : BinnedIsRestored
binned-restored m reading key s end h early few =
    let now = moment_at m reading in
    let at = advance m now in
    let there : fin.get at.snaps key ≡ Some (binned_until end s) = time-left m now key (binned_until end s) h.is_there (not-reached now.second end early) (stood s.row.completed _ h.was_whole) in
    let is = recovers at key (binned_until end s) there (is-ahead now.second end early) (few-changes m.changes few) in
    (_, ap (λ (d : Outcome). d.1) is, shows-so at key s end h.was_out, subst (λ (d : Outcome). Restores at d.0 key s) (sym is) (restored-so at key s end h.was_out))

-- ---- a deletion

module _ (m : Machine) (account : ℕ) (reading : Moment) (key : SnapKey) where
  abbrev at : Machine
  at = advance m (moment_at m reading)

  abbrev new : Machine
  new = (step m account reading (DeleteSnapshot key)).0

  deleted-one : (old : Snapshot) → new.changes ≡ m.changes + 1 → fin.get at.snaps key ≡ Some old → EndsUp at new key old × (old.row.bin_end ≡ None)
  deleted-one old e is =
      let so = deleted-by-rules m account reading key e in
      let one : so.found ≡ old = only (sym so.was_there ∙ is) in
      (subst (EndsUp at new key) one so.ends_up, ap (λ (s : Snapshot). s.row.bin_end) (sym one) ∙ so.not_binned)

  pub without-rule : (old : Snapshot) → new.changes ≡ m.changes + 1 → fin.get at.snaps key ≡ Some old → (fin.get new.snaps key ≡ None) ↔ IsForGood at key old.row
  without-rule old e is = (λ none. left none (deleted-one old e is).0, λ good. right good (deleted-one old e is).0)
    where
      left : fin.get new.snaps key ≡ None → EndsUp at new key old → IsForGood at key old.row
      left none (inl gone) = gone.0
      left none (inr kept) = absurd (nothing (sym none ∙ kept.2))

      right : IsForGood at key old.row → EndsUp at new key old → fin.get new.snaps key ≡ None
      right good (inl gone) = gone.1
      right good (inr kept) = absurd (not-both at key old.row kept.0 good kept.1)

  pub longest-decides : (old found : Snapshot) → new.changes ≡ m.changes + 1 → fin.get at.snaps key ≡ Some old → fin.get new.snaps key ≡ Some found
      → (days : ℕ) × IsLongest at key.account old.row.tags days × (found.row.bin_end ≡ Some (record { second = second_of m reading + 86400 * days }))
  longest-decides old found e is there = by (deleted-one old e is).0
    where
      by : EndsUp at new key old → (days : ℕ) × IsLongest at key.account old.row.tags days × (found.row.bin_end ≡ Some (record { second = second_of m reading + 86400 * days }))
      by (inl gone) = absurd (nothing (sym gone.1 ∙ there))
      by (inr kept) = (kept.0, kept.1.1, ap (λ (s : Snapshot). s.row.bin_end) (only (sym there ∙ kept.2)))

  same-days : (row : SnapRow) (a b : ℕ) → IsForDays at key row a → IsForDays at key row b → a ≡ b
  same-days row a b one two =
      let above = one.1.1 two.1.0.0 two.1.0.1 in
      let below = two.1.1 one.1.0.0 one.1.0.1 in
      let first = one.1.0.2 in
      let second = two.1.0.2 in
      omega (arith, above, below, first, second)

  pub bins : (old : Snapshot) (days : ℕ) → NumbersGiven m → RulesFit m → new.changes ≡ m.changes + 1 → fin.get at.snaps key ≡ Some old → IsForDays at key old.row days → IsBinned new key old (second_of m reading + 86400 * days)
  bins old days given fit e is kept =
      let clock = ap (λ (c : Moment). c.second) (clock-moment m account reading (DeleteSnapshot key)) in
      let rule = kept.1.0.0 in
      let of = kept.1.0.1 in
      let least = (fit key.account of.0.0 rule of.0.1).least in
      let same = kept.1.0.2 in
      record {
        is_there = by (deleted-one old e is).0;
        was_whole = kept.0;
        was_out = (deleted-one old e is).1;
        ahead = omega (arith, clock, least, same);
        given = deletion-number m account reading key given e;
      }
    where
      by : EndsUp at new key old → fin.get new.snaps key ≡ Some (binned_until (second_of m reading + 86400 * days) old)
      by (inl gone) = absurd (not-both at key old.row days gone.0 kept)
      by (inr stays) = stays.2 ∙ ap (λ d. Some (binned_until (second_of m reading + 86400 * d) old)) (same-days old.row stays.0 days stays.1 kept)

pub deletion-bins : DeletionBins
deletion-bins m account reading key old days given fit e is kept = bins m account reading key old days given fit e is kept

pub gone-without-rule : GoneWithoutRule
gone-without-rule m account reading key old e is = without-rule m account reading key old e is

pub longest-rule-decides : LongestRuleDecides
longest-rule-decides m account reading key old new e is there = longest-decides m account reading key old new e is there

pub deleted-restored : DeletedIsRestored
deleted-restored m account reading later key old days turns given fit e is kept none early few =
    let s = step m account reading (DeleteSnapshot key) in
    let n = after_all s.0 turns in
    let before : n.clock.second < second_of m reading + 86400 * days = omega (arith, early) in
    let binned = binned-run turns s.0 key old (second_of m reading + 86400 * days) (bins m account reading key old days given fit e is kept) none before in
    let back = binned-restored n later key old (second_of m reading + 86400 * days) binned early few in
    (accepted back.1, back.3.is_there)
  where
    accepted : {answer : Answer} {view : SnapView} → answer ≡ SnapshotShown false view → IsAccepted answer
    accepted e refusal r = cc
