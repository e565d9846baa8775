-- What a deletion takes, and what it leaves.
use Rattle.std.proofs.Common.{◌≡◌, ◌≢◌, ◌⊎◌, inl, inr, ℕ, ◌+◌, ◌*◌, ◌<◌, ◌≤◌, Bool, true, false, cond, nat_le, arith, subst, Option, Some, None, sym, ap, ◌∙◌, refl}
use Rattle.std.proofs.lemmas.Bool.Decides.{nat_tests}
use Rattle.std.specs.FinMap as fin
use Rattle.ebs_model.specs.declared.keys.SnapKey.{SnapKey}
use Rattle.ebs_model.specs.declared.request.Request.{Request}
use Rattle.ebs_model.specs.declared.request.Request.TheVariants.{StartSnapshot, PutSnapshotBlock, CompleteSnapshot, DeleteSnapshot}
use Rattle.ebs_model.specs.inner.Orders.{snaps_total, exact_snaps}
use Rattle.ebs_model.specs.Time.{Snapshot, status_by, is_pending, is_ahead}
use Rattle.ebs_model.specs.Machine.{Machine, advance, rows_of}
use Rattle.ebs_laws.specs.Words.{moment_at, number_in, next_number}
use Rattle.ebs_laws.specs.DeletionLaws as law
use Rattle.ebs_model.specs.Step.{step}
use Rattle.ebs_model.specs.Rows.{book_of}
use Rattle.ebs_model.specs.Rules.{retention}
use Rattle.ebs_model.specs.Calls.Delete.{days_in_bin}
use Rattle.ebs_model.specs.declared.keys.Moment.{Moment}
use Rattle.ebs_model.specs.declared.rows.SnapRow.{SnapRow}
use Rattle.ebs_laws.proofs.LongestRule.{for-none, for-days}
use Rattle.ebs_model.specs.Timed.{Timed, turn, after_all}
use Rattle.ebs_laws.specs.DeletionLaws.{IsForGood, IsForDays, EndsUp, DeletedGoesByRules, DeletionLeavesNumber, IsGone, DeletionLeavesGone, GoneStaysGone, GoneIsNotGiven, GoneIsNotFound, DeletionLeavesOthers, ChildStaysWhole, ChildKeepsBytes}
use Rattle.ebs_laws.proofs.Maps.{get-itself, get-other, get-gone, get-left}
use Rattle.ebs_laws.proofs.Ages.{time-none}
use Rattle.ebs_laws.proofs.Cases.{Outcome, Accepted, step-cases}
use Rattle.ebs_laws.proofs.Others.{others}
use Rattle.ebs_laws.proofs.Readers.{own-owned, own-out, was-there, no_end}
use Rattle.ebs_laws.proofs.Locked.{not-taken}
use Rattle.ebs_laws.proofs.Given.{numbers-aged, kept_by_run}
use Rattle.ebs_laws.proofs.Begun.{numbered, above-turn, never-fall, gives-turn}
use Rattle.ebs_laws.proofs.Standing.{call-keeps, child-has}
use Rattle.ebs_laws.proofs.Withdrawn.{hidden-refused}
use Rattle.ebs_laws.proofs.Whole.{own_of}
use Rattle.ebs_laws.proofs.PolicyRuns.{left-holds}

more : (n : ℕ) → n ≡ n + 1 → ⊥
more n e = absurd (omega (arith, e))

nothing : {A : Type 0} {s : A} → ◌≡◌ {A = Option A} None (Some s) → ⊥
nothing e = cc

true_false : true ≡ false → ⊥
true_false e = cc

-- what is there at a moment, and not with its end ahead, is outside the bin
pub unbinned : (m : Machine) (now : Moment) (key : SnapKey) (s : Snapshot) → fin.get (advance m now).snaps key ≡ Some s → is_ahead s.row.bin_end now.second ≡ false → s.row.bin_end ≡ None
unbinned m now key s is out =
    let was = was-there m now key s is in
    ap (λ (s : Snapshot). s.row.bin_end) (sym was.rests) ∙ no_end was.old.row.bin_end now.second (ap (λ (s : Snapshot). is_ahead s.row.bin_end now.second) was.rests ∙ out) was.ahead

is-late : (x y : ℕ) → nat_le x y ≡ true → x ≤ y
is-late x y e = grind (arith, nat_tests)

-- no open upload: completed, or too late for another put
not-going : (completed : Bool) (x now : ℕ) → is_pending (status_by completed (nat_le x now)) ≡ false → (completed ≡ true) ⊎ (x ≤ now)
not-going true x now e = inl refl
not-going false x now e = by (nat_le x now) refl e
  where
    by : (late : Bool) → nat_le x now ≡ late → is_pending (status_by false late) ≡ false → (false ≡ true) ⊎ (x ≤ now)
    by true is e = inr (is-late x now is)
    by false is e = cc

module _ (at : Machine) (account : ℕ) (key : SnapKey) where
  abbrev Deletes : Outcome → Type 0
  Deletes d = d.0.changes ≡ at.changes + 1 → law.Deletes at d.0 account key

  abbrev Leaves : SnapKey → Outcome → Type 0
  Leaves other d = fin.get d.0.snaps other ≡ fin.get at.snaps other

-- why it goes for good, or stays for so many days
pub is-for-good : (m : Machine) (key : SnapKey) (row : SnapRow) → days_in_bin (rows_of m) key row ≡ None → IsForGood m key row
is-for-good m key row e = by row.completed refl e
  where
    by : (b : Bool) → row.completed ≡ b → cond b (retention (book_of (rows_of m) key.account) row.tags) None ≡ None → IsForGood m key row
    by true whole e = inr (for-none m key.account row.tags e)
    by false failed e = inl failed

pub is-for-days : (m : Machine) (key : SnapKey) (row : SnapRow) (days : ℕ) → days_in_bin (rows_of m) key row ≡ Some days → IsForDays m key row days
is-for-days m key row days e = by row.completed refl e
  where
    by : (b : Bool) → row.completed ≡ b → cond b (retention (book_of (rows_of m) key.account) row.tags) None ≡ Some days → IsForDays m key row days
    by true whole e = (whole, for-days m key.account row.tags days e)
    by false failed e = absurd (nothing e)

-- it doesn't do both
pub not-both : (m : Machine) (key : SnapKey) (row : SnapRow) (days : ℕ) → IsForGood m key row → IsForDays m key row days → ⊥
not-both m key row days (inl failed) stays = true_false (sym stays.0 ∙ failed)
not-both m key row days (inr none) stays = none stays.1.0.0 stays.1.0.1

pub deleted-by-rules : DeletedGoesByRules
deleted-by-rules m account reading key =
    let at = advance m (moment_at m reading) in
    step-cases (Deletes at account key) m account reading (DeleteSnapshot key)
    (λ s is passes closed unlocked. (
      λ none e. record {
        found = s;
        was_there = is;
        owned = own-owned account key at.clock.second s.row passes;
        not_binned = unbinned m (moment_at m reading) key s is (own-out account key at.clock.second s.row passes);
        closed = not-going s.row.completed (s.row.last.second + 60 * s.row.timeout) at.clock.second closed;
        unlocked = not-taken s.row.lock at.clock.second unlocked;
        ends_up = inl (is-for-good at key s.row none, get-gone snaps_total exact_snaps at.snaps key);
        other_snapshots = λ k other. get-left snaps_total exact_snaps at.snaps key k other;
        accounts = refl;
        tokens = refl;
        volumes = refl;
        disks = refl;
        rules = refl;
        policies = refl;
      },
      λ days some e. record {
        found = s;
        was_there = is;
        owned = own-owned account key at.clock.second s.row passes;
        not_binned = unbinned m (moment_at m reading) key s is (own-out account key at.clock.second s.row passes);
        closed = not-going s.row.completed (s.row.last.second + 60 * s.row.timeout) at.clock.second closed;
        unlocked = not-taken s.row.lock at.clock.second unlocked;
        ends_up = inr (days, is-for-days at key s.row days some, get-itself snaps_total exact_snaps at.snaps key _);
        other_snapshots = λ k other. get-other snaps_total exact_snaps at.snaps key _ k other;
        accounts = refl;
        tokens = refl;
        volumes = refl;
        disks = refl;
        rules = refl;
        policies = refl;
      },
    ))
    (λ refusal e. absurd (more m.changes e))

pub deletion-others : DeletionLeavesOthers
deletion-others m account reading key other apart =
    let at = advance m (moment_at m reading) in
    step-cases (Leaves at account key other) m account reading (DeleteSnapshot key)
    (λ s is passes closed unlocked. (λ none. get-left snaps_total exact_snaps at.snaps key other apart, λ days some. get-other snaps_total exact_snaps at.snaps key _ other apart))
    (λ refusal. refl)

pub child-whole : ChildStaysWhole
child-whole m account reading parent child s apart is named = deletion-others m account reading parent child apart ∙ is

pub child-bytes : ChildKeepsBytes
child-bytes m account reading size parent text tags token timeout told owner from child begin shown gib index bytes deleter later given unused has e =
    call-keeps _ deleter later (DeleteSnapshot parent) child index bytes
    (child-has m account reading size parent text tags token timeout told owner from child begin shown gib index bytes unused has e)
    (λ asks. absurd asks)

pub deletion-number : DeletionLeavesNumber
deletion-number m account reading key given e =
    let so = deleted-by-rules m account reading key e in
    let before = numbers-aged m (moment_at m reading) given key so.found so.was_there in
    let same = ap (λ own. number_in (fin.get own key.account)) so.accounts ∙ numbered (fin.get m.own key.account) in
    omega (arith, before, same)

pub deletion-gone : DeletionLeavesGone
deletion-gone m account reading key old given e is good =
    let at = advance m (moment_at m reading) in
    let so = deleted-by-rules m account reading key e in
    let one : so.found ≡ old = only (sym so.was_there ∙ is) in
    (deletion-number m account reading key given e, by so.found (subst (λ (s : Snapshot). IsForGood at key s.row) (sym one) good) so.ends_up)
  where
    only : {s t : Snapshot} → Some s ≡ Some t → s ≡ t
    only e = cc

    by : (s : Snapshot) → let at = advance m (moment_at m reading) in let new = (step m account reading (DeleteSnapshot key)).0 in IsForGood at key s.row → EndsUp at new key s → fin.get new.snaps key ≡ None
    by s good (inl gone) = gone.1
    by s good (inr kept) = absurd (not-both (advance m (moment_at m reading)) key s.row kept.0 good kept.1)

-- nothing comes where there is nothing
module _ (key : SnapKey) (m : Machine) (none : fin.get m.snaps key ≡ None) (below : key.number < (own_of m key.account).next_snap) where
  abbrev Gone : Outcome → Type 0
  Gone d = fin.get d.0.snaps key ≡ None

  gone-other : (k : SnapKey) (s : Snapshot) → key ≢ k → fin.get (fin.insert m.snaps k s) key ≡ None
  gone-other k s apart = get-other snaps_total exact_snaps m.snaps k s key apart ∙ none

  -- what is found is another
  apart : (k : SnapKey) (s : Snapshot) → fin.get m.snaps k ≡ Some s → key ≢ k
  apart k s is same = nothing (sym none ∙ ap (fin.get m.snaps) same ∙ is)

  pub gone-accepted : (account : ℕ) (request : Request) → Accepted Gone m account request
  gone-accepted account (StartSnapshot size parent description tags token timeout) = (λ from tests. gone-other _ _ (λ same. let number = ap (λ k. k.number) same in let next = ap (λ k. (own_of m k.account).next_snap) same in absurd (omega (arith, number, next, below))), λ row tests. none)
  gone-accepted account (PutSnapshotBlock k index digest bytes) = λ s is passes tests. gone-other k _ (apart k s is)
  gone-accepted account (CompleteSnapshot k count checksum) = λ s is passes tests. gone-other k _ (apart k s is)
  gone-accepted account request = others Gone m account request (λ answer says. none) (λ k s row answer is same says. gone-other k _ (apart k s is)) (λ k s answer is same says. get-left snaps_total exact_snaps m.snaps k key (apart k s is) ∙ none) (λ k row array token answer is says. none) (λ k row answer there is says. none) (λ v row text tags is made. gone-other _ _ (λ same. let number = ap (λ k. k.number) same in let next = ap (λ k. (own_of m k.account).next_snap) same in absurd (omega (arith, number, next, below)))) (λ v row i digest bytes is asked. none) (λ command change answer is says. none)
      (λ snaps own policies answer is says. left-holds m account own key (λ o. o ≡ None) none refl
      (λ s new. let above = new.above in let next = ap (λ a. (own_of m a).next_snap) new.owner in absurd (omega (arith, above, next, below)))
      (λ s row mine alters was. absurd (nothing (sym was))) (fin.get snaps key) (is.leaves key))

pub gone-turn : (key : SnapKey) (m : Machine) (t : Timed) → IsGone m key → IsGone (turn m t).0 key
gone-turn key m t h =
    let at = advance m (moment_at m t.reading) in
    let none = time-none m (moment_at m t.reading) key h.1 in
    let below = h.0 in
    let same = numbered (fin.get m.own key.account) in
    let more = above-turn m t key.account in
    (omega (arith, below, more), step-cases (λ d. fin.get d.0.snaps key ≡ None) m t.call.account t.reading t.call.request (gone-accepted key at none (omega (arith, below, same)) t.call.account t.call.request) (λ refusal. none))

pub gone-run : GoneStaysGone
gone-run m turns key h = kept_by_run (λ m. IsGone m key) (gone-turn key) turns m h

pub not-given : GoneIsNotGiven
not-given m turns gone account reading request key h fresh e same =
    let t : Timed = record { call = record { account = account; request = request }; reading = reading } in
    let later = after_all m turns in
    let given = gives-turn later t key fresh e in
    let number = given.0 in
    let rises = never-fall m turns gone.account in
    let below = h in
    let one = ap (λ (k : SnapKey). k.number) same in
    let next = ap (λ (k : SnapKey). next_number later k.account) same in
    absurd (omega (arith, number, below, rises, one, next))

pub not-found : GoneIsNotFound
not-found m turns key account reading request h names fresh good size digest =
    hidden-refused (after_all m turns) account reading request key (λ s is shown. nothing (sym (gone-run m turns key h).1 ∙ is)) names fresh good size digest
