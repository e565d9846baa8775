-- The lock of a snapshot: what it keeps, and what is made of it.
use Rattle.std.proofs.Common.{◌≡◌, ◌≢◌, ℕ, ◌+◌, ◌*◌, ◌<◌, ◌≤◌, Bool, true, false, cond, nat_le, nat_lt, ◌||◌, arith, [], ◌∷◌, Option, Some, None, Ok, Err, sym, ap, subst, ◌∙◌, refl}
use Rattle.std.proofs.lemmas.Bool.Decides.{nat_tests}
use Rattle.std.specs.FinMap as fin
use Rattle.ebs_model.specs.declared.keys.SnapKey.{SnapKey}
use Rattle.ebs_model.specs.declared.keys.Moment.{Moment}
use Rattle.ebs_model.specs.declared.rows.SnapRow.{SnapRow}
use Rattle.ebs_model.specs.declared.rows.LockState.{LockState}
use Rattle.ebs_model.specs.declared.rows.LockState.TheVariants as state
use Rattle.ebs_model.specs.declared.lock.LockMode.{LockMode}
use Rattle.ebs_model.specs.declared.lock.LockMode.TheVariants.{Governance, Compliance}
use Rattle.ebs_model.specs.declared.lock.Term.{Term}
use Rattle.ebs_model.specs.declared.lock.Term.TheVariants.{Days, Date}
use Rattle.ebs_model.specs.declared.lock.LockCommand.{LockCommand}
use Rattle.ebs_model.specs.declared.lock.LockCommand.TheVariants.{Lock, Unlock}
use Rattle.ebs_model.specs.declared.lock.LockRefusal.TheVariants as refusal
use Rattle.ebs_model.specs.declared.phases.LockPhase.TheVariants as phase
use Rattle.ebs_model.specs.declared.request.Request.{Request}
use Rattle.ebs_model.specs.declared.request.Request.TheVariants.{StartSnapshot, PutSnapshotBlock, CompleteSnapshot, LockSnapshot, UnlockSnapshot}
use Rattle.ebs_model.specs.Arrays.{WholeArray}
use Rattle.ebs_model.specs.inner.Orders.{snaps_total, exact_snaps}
use Rattle.ebs_model.specs.Refuse.{or_left}
use Rattle.ebs_model.specs.Time.{Snapshot, status_by, is_failed, is_reached, is_ahead}
use Rattle.ebs_model.specs.Access.{open_upload}
use Rattle.ebs_model.specs.Machine.{Machine, advance}
use Rattle.ebs_model.specs.Calls.Delete.{refuse_locked}
use Rattle.ebs_model.specs.Locks.{lock_change, lock, unlock, unlock_by, prolonged, replaced, new_lock, end_of, is_bad, is_compliance}
use Rattle.ebs_model.specs.Views.{lock_until}
use Rattle.ebs_model.specs.Step.{step}
use Rattle.ebs_lock.proofs.Lasting.{step_lasts}
use Rattle.ebs_laws.specs.Words.{second_of, moment_at}
use Rattle.ebs_model.specs.Timed.{turn}
use Rattle.ebs_laws.specs.Uploads.{NumbersGiven}
use Rattle.ebs_laws.specs.LockLaws.{IsLocked, LockedIsKept, RunKeepsLocked, ComplianceIsKept, term_end, cool_off_end, lock_for, IsFast, IsProlonged, IsLockedSo, LockIsAsAsked, IsLoose, IsUnlockedSo, UnlockIsAsAsked}
use Rattle.ebs_laws.proofs.Maps.{get-itself, get-other, get-left, by_key}
use Rattle.ebs_laws.proofs.Ages.{time-left}
use Rattle.ebs_laws.proofs.Cases.{Outcome, Accepted, step-cases}
use Rattle.ebs_laws.proofs.Others.{others, IsRewritten, BinIs, stands, goes, comes}
use Rattle.ebs_laws.proofs.Readers.{passes_by, open-owned, binned-ahead}
use Rattle.ebs_laws.proofs.Given.{numbers-aged, numbers-step}
use Rattle.ebs_laws.proofs.Tiered.{writes-row}
use Rattle.ebs_laws.proofs.Whole.{own_of, with_snapshot, rewritten, created, dropped, written, ruled, managed}
use Rattle.ebs_model.specs.declared.rows.Own.{Own}
use Rattle.ebs_model.specs.Keys.{snap_cmp, policy_cmp}
use Rattle.std.specs.Ordering.{nat_cmp}
use Rattle.ebs_model.specs.declared.policy.Policy.{Policy}
use Rattle.ebs_laws.proofs.PolicyRuns.{Left, as_it_was, by_run, RunLeaves, none_there, frees, bins, takes, IsCounted, begun, standing, stays}
use Rattle.ebs_model.specs.Calls.Run.{freed}

-- ---- what a lock keeps

-- a completed snapshot outside the bin with these blocks and such a lock
record Kept (m : Machine) (key : SnapKey) (array : WholeArray) (Q : LockState → Type 0) : Type 0 where
  found : Snapshot
  is_there : fin.get m.snaps key ≡ Some found
  completed : found.row.completed ≡ true
  not_binned : found.row.bin_end ≡ None
  blocks : found.array ≡ array
  lock : Q found.row.lock

only : {s t : Snapshot} → Some s ≡ Some t → s ≡ t
only e = cc

true_false : true ≡ false → ⊥
true_false e = cc

stood : (c late : Bool) → c ≡ true → is_failed (status_by c late) ≡ false
stood true late e = refl
stood false late e = cc

-- a deletion is refused while it lasts
pub not-taken : (l : LockState) (now : ℕ) → refuse_locked (lock_until l) now ≡ Ok tt → IsLocked l now → ⊥
not-taken state.None now e h = h
not-taken (state.Governance until) now e h = let ended = passes_by _ _ e in absurd (grind (arith, nat_tests))
not-taken (state.Compliance until cool_end) now e h = let ended = passes_by _ _ e in absurd (grind (arith, nat_tests))

-- nor does a run end it
pub lasting : (l : LockState) (now : ℕ) → is_ahead (lock_until l) now ≡ false → IsLocked l now → ⊥
lasting state.None now e h = h
lasting (state.Governance until) now e h = absurd (grind (arith, nat_tests))
lasting (state.Compliance until cool_end) now e h = absurd (grind (arith, nat_tests))

none_some : {A : Type 0} {x : A} → ◌≡◌ {A = Option A} None (Some x) → ⊥
none_some e = cc

module _ (key : SnapKey) (array : WholeArray) (Q R : LockState → Type 0) where
  module _ (m : Machine) (locked : (l : LockState) → Q l → IsLocked l m.clock.second) (left : (l : LockState) → Q l → R l)
      (commanded : (l new : LockState) (command : LockCommand) → Q l → lock_change l command m.clock.second ≡ Ok new → R new)
      (below : key.number < (own_of m key.account).next_snap) (h : Kept m key array Q) where
    abbrev Keeps : Outcome → Type 0
    Keeps d = Kept d.0 key array R

    kept-by : (new : Machine) → fin.get new.snaps key ≡ fin.get m.snaps key → Kept new key array R
    kept-by new same = record { found = h.found; is_there = same ∙ h.is_there; completed = h.completed; not_binned = h.not_binned; blocks = h.blocks; lock = left _ h.lock }

    it-is : (k : SnapKey) (s : Snapshot) → fin.get m.snaps k ≡ Some s → key ≡ k → s ≡ h.found
    it-is k s is same = only (sym (ap (fin.get m.snaps) same ∙ is) ∙ h.is_there)

    not-open : (account : ℕ) (k : SnapKey) (s : Snapshot) → fin.get m.snaps k ≡ Some s → open_upload account k m.clock.second s.row ≡ Ok tt → key ≢ k
    not-open account k s is passes same = true_false (sym h.completed ∙ ap (λ (s : Snapshot). s.row.completed) (sym (it-is k s is same)) ∙ (open-owned account k m.clock.second s.row passes).2)

    rewritten-kept : (k : SnapKey) (s : Snapshot) (row : SnapRow) → fin.get m.snaps k ≡ Some s → row.completed ≡ s.row.completed → row.bin_end ≡ s.row.bin_end → (Q s.row.lock → R row.lock) → Kept (with_snapshot m k (rewritten row s)) key array R
    rewritten-kept k s row is done bin kept = by_key snaps_total exact_snaps (Kept (with_snapshot m k (rewritten row s)) key array R) key k
        (λ same. let which = it-is k s is same in record {
          found = rewritten row s;
          is_there = ap (fin.get (fin.insert m.snaps k (rewritten row s))) same ∙ get-itself snaps_total exact_snaps m.snaps k (rewritten row s);
          completed = done ∙ ap (λ (s : Snapshot). s.row.completed) which ∙ h.completed;
          not_binned = bin ∙ ap (λ (s : Snapshot). s.row.bin_end) which ∙ h.not_binned;
          blocks = ap (λ (s : Snapshot). s.array) which ∙ h.blocks;
          lock = kept (subst (λ (s : Snapshot). Q s.row.lock) (sym which) h.lock);
        })
        (λ other. kept-by _ (get-other snaps_total exact_snaps m.snaps k _ key other))

    -- neither a deletion nor a restore from the bin is of a locked snapshot that isn't in the bin
    moved : (k : SnapKey) (s : Snapshot) (row : SnapRow) (account : ℕ) (request : Request) → fin.get m.snaps k ≡ Some s → IsRewritten m account k request s.row row → (Q s.row.lock → R row.lock) → Kept (with_snapshot m k (rewritten row s)) key array R
    moved k s row account request is same kept = by same.bin_is
      where
        untouched : (key ≡ k → ⊥) → Kept (with_snapshot m k (rewritten row s)) key array R
        untouched other = kept-by _ (get-other snaps_total exact_snaps m.snaps k _ key other)

        by : BinIs m account k request s.row row → Kept (with_snapshot m k (rewritten row s)) key array R
        by (stands end out whole) = rewritten-kept k s row is same.completed_is end kept
        by (goes gone) = untouched (λ one. not-taken s.row.lock m.clock.second gone.unlocked (locked _ (subst (λ (s : Snapshot). Q s.row.lock) (sym (it-is k s is one)) h.lock)))
        by (comes back) = untouched (λ one. true_false (sym (binned-ahead account k m.clock.second s.row back.passes) ∙ ap (λ end. is_ahead end m.clock.second) (ap (λ (s : Snapshot). s.row.bin_end) (it-is k s is one) ∙ h.not_binned)))

    -- a run ends no locked snapshot
    managed-kept : (account : ℕ) (snaps : fin.FinMap snap_cmp Snapshot) (own : fin.FinMap nat_cmp Own) (policies : fin.FinMap policy_cmp Policy) → Left m account own key (fin.get snaps key) → Kept (managed m snaps own policies) key array R
    managed-kept account snaps own policies (as_it_was e) = kept-by (managed m snaps own policies) e
    managed-kept account snaps own policies (by_run of p mine count leaves) = by leaves
      where
        new : Machine
        new = managed m snaps own policies

        it : (s : Snapshot) → IsCounted m of p key s → s ≡ h.found
        it s (standing is) = only (sym is ∙ h.is_there)
        it s (begun is) = let above = is.above in let next = ap (λ a. (own_of m a).next_snap) is.owner in absurd (omega (arith, above, next, below))

        held : (s : Snapshot) → IsCounted m of p key s → is_ahead (lock_until s.row.lock) m.clock.second ≡ false → Kept new key array R
        held s c free = absurd (lasting s.row.lock m.clock.second free (locked _ (subst (λ (s : Snapshot). Q s.row.lock) (sym (it s c)) h.lock)))

        by : RunLeaves m of p key (fin.get snaps key) → Kept new key array R
        by (none_there none e) = absurd (none_some (sym none ∙ h.is_there))
        by (stays s c e) = kept-by new (e ∙ ap Some (it s c) ∙ sym h.is_there)
        by (frees s c g l e) = let which = it s c in record {
          found = rewritten (freed s.row) s;
          is_there = e;
          completed = ap (λ (s : Snapshot). s.row.completed) which ∙ h.completed;
          not_binned = ap (λ (s : Snapshot). s.row.bin_end) which ∙ h.not_binned;
          blocks = ap (λ (s : Snapshot). s.array) which ∙ h.blocks;
          lock = subst (λ (s : Snapshot). R s.row.lock) (sym which) (left _ h.lock);
        }
        by (bins s days c g free t d e) = held s c free
        by (takes s c g free t d e) = held s c free

    keeps : (account : ℕ) (request : Request) → Accepted Keeps m account request
    keeps account (StartSnapshot size parent description tags token timeout) = (λ from tests. kept-by _ (get-other snaps_total exact_snaps m.snaps _ _ key (λ same. let number = ap (λ k. k.number) same in let next = ap (λ k. (own_of m k.account).next_snap) same in absurd (omega (arith, number, next, below)))), λ row tests. kept-by m refl)
    keeps account (PutSnapshotBlock k index digest bytes) = λ s is passes tests. kept-by _ (get-other snaps_total exact_snaps m.snaps k _ key (not-open account k s is passes))
    keeps account (CompleteSnapshot k count checksum) = λ s is passes tests. kept-by _ (get-other snaps_total exact_snaps m.snaps k _ key (not-open account k s is passes))
    keeps account (LockSnapshot k mode term hours) = λ s new is passes changed. rewritten-kept k s (record s.row { lock = new }) is refl refl (λ q. commanded s.row.lock new (Lock mode term hours) q changed)
    keeps account (UnlockSnapshot k) = λ s new is passes changed. rewritten-kept k s (record s.row { lock = new }) is refl refl (λ q. commanded s.row.lock new Unlock q changed)
    keeps account request = others Keeps m account request (λ answer says. kept-by m refl)
        (λ k s row answer is same says. moved k s row account _ is same (λ q. subst R (sym (same.lock_is (λ e. e))) (left _ q)))
        (λ k s answer is same says. kept-by _ (get-left snaps_total exact_snaps m.snaps k key (λ one. not-taken s.row.lock m.clock.second same.unlocked (locked _ (subst (λ (s : Snapshot). Q s.row.lock) (sym (it-is k s is one)) h.lock))))) (λ k row array token answer is says. kept-by (created m k row array token) refl) (λ k row answer there is says. kept-by (dropped m k) refl)
        (λ v row text tags is made. kept-by _ (get-other snaps_total exact_snaps m.snaps _ _ key (λ same. let number = ap (λ k. k.number) same in let next = ap (λ k. (own_of m k.account).next_snap) same in absurd (omega (arith, number, next, below))))) (λ v row i digest bytes is asked. kept-by (written m v i bytes) refl) (λ command change answer is says. kept-by (ruled m account change) refl)
        (λ snaps own policies answer is says. managed-kept account snaps own policies (is.leaves key))

  aged : (m : Machine) (now : Moment) → Kept m key array Q → Kept (advance m now) key array Q
  aged m now h = record {
    found = h.found;
    is_there = time-left m now key h.found h.is_there (ap (λ end. is_reached end now.second) h.not_binned) (stood h.found.row.completed _ h.completed);
    completed = h.completed;
    not_binned = h.not_binned;
    blocks = h.blocks;
    lock = h.lock;
  }

  kept-step : (m : Machine) (account : ℕ) (reading : Moment) (request : Request) → NumbersGiven m → ((l : LockState) → Q l → IsLocked l (second_of m reading)) → ((l : LockState) → Q l → R l)
      → ((l new : LockState) (command : LockCommand) → Q l → lock_change l command (second_of m reading) ≡ Ok new → R new) → Kept m key array Q → Kept (step m account reading request).0 key array R
  kept-step m account reading request given locked left commanded h =
      let now = moment_at m reading in
      let then = aged m now h in
      step-cases (λ d. Kept d.0 key array R) m account reading request
      (keeps (advance m now) locked left commanded (numbers-aged m now given key then.found then.is_there) then account request)
      (λ refusal. kept-by (advance m now) locked left commanded (numbers-aged m now given key then.found then.is_there) then (advance m now) refl)

pub locked-kept : LockedIsKept
locked-kept m account reading request key array given h lasts =
    let now = second_of m reading in
    let new = kept-step key array (λ l. IsLocked l now) (λ l. Unit {0}) m account reading request given (λ l q. q) (λ l q. tt) (λ l new command q e. tt)
    (record { found = h.found; is_there = h.is_there; completed = h.completed; not_binned = h.not_binned; blocks = h.blocks; lock = lasts h.found h.is_there }) in
    record { found = new.found; is_there = new.is_there; completed = new.completed; not_binned = new.not_binned; blocks = new.blocks }

pub locked-run : RunKeepsLocked
locked-run m [] key array given h through = h
locked-run m (t ∷ ts) key array given h through =
    locked-run (turn m t).0 ts key array (numbers-step m t.call.account t.reading t.call.request given) (locked-kept m t.call.account t.reading t.call.request key array given h through.0) through.1

abbrev InCompliance : ℕ → Moment → LockState → Type 0
InCompliance until cool_end l = (end : Moment) × (l ≡ state.Compliance end cool_end) × (until ≤ end.second)

module _ (until : ℕ) (cool_end : Moment) (now : ℕ) (cool : cool_end.second ≤ now) (early : now < until) where
  compliance-locked : (l : LockState) → InCompliance until cool_end l → IsLocked l now
  compliance-locked l (end, is, later) = subst (λ l. IsLocked l now) (sym is) (omega (arith, early, later))

  compliance-stays : (l new : LockState) (command : LockCommand) → InCompliance until cool_end l → lock_change l command now ≡ Ok new → InCompliance until cool_end new
  compliance-stays l new command (end, is, later) e =
      let lasts = step_lasts end cool_end command now cool (omega (arith, early, later)) in
      let so = ap (or_left (state.Compliance end cool_end)) (ap (λ l. lock_change l command now) (sym is) ∙ e) in
      let longer = lasts.longer in
      (lasts.later, sym so ∙ lasts.is, omega (arith, later, longer))

pub compliance-kept : ComplianceIsKept
compliance-kept m [] key array until cool_end given h between = h
compliance-kept m (t ∷ ts) key array until cool_end given h between =
    let now = second_of m t.reading in
    let s = h.stands in
    let kept = kept-step key array (InCompliance until cool_end) (InCompliance until cool_end) m t.call.account t.reading t.call.request given
    (compliance-locked until cool_end now between.0 between.1) (λ l q. q) (compliance-stays until cool_end now between.0 between.1)
    (record { found = s.found; is_there = s.is_there; completed = s.completed; not_binned = s.not_binned; blocks = s.blocks; lock = (h.end, h.lock_is, h.no_earlier) }) in
    compliance-kept (turn m t).0 ts key array until cool_end (numbers-step m t.call.account t.reading t.call.request given)
    (record {
      stands = record { found = kept.found; is_there = kept.is_there; completed = kept.completed; not_binned = kept.not_binned; blocks = kept.blocks };
      end = kept.lock.0;
      lock_is = kept.lock.1;
      no_earlier = kept.lock.2;
    })
    between.2

-- ---- what is made of a lock

zero-hours : (now : ℕ) → now + 3600 * 0 ≡ now
zero-hours now = omega arith

new-lock : (mode : LockMode) (until : Moment) (hours : Option ℕ) (now : ℕ) → new_lock mode until hours now ≡ lock_for mode until (cool_off_end hours now)
new-lock Governance until hours now = refl
new-lock Compliance until None now = ap (λ n. state.Compliance until (record { second = n })) (zero-hours now)
new-lock Compliance until (Some hours) now = refl

ends : (term : Term) (now : ℕ) → end_of term now ≡ term_end term now
ends (Days days) now = refl
ends (Date date) now = refl

late : (x y : ℕ) → nat_le x y ≡ true → y < x → ⊥
late x y e h = absurd (grind (arith, nat_tests))

early : (x y : ℕ) → nat_lt x y ≡ true → y ≤ x → ⊥
early x y e h = absurd (grind (arith, nat_tests))

is-late : (x y : ℕ) → nat_lt x y ≡ false → y ≤ x
is-late x y e = grind (arith, nat_tests)

is-early : (x y : ℕ) → nat_le x y ≡ false → y < x
is-early x y e = grind (arith, nat_tests)

is-less : (x y : ℕ) → nat_lt x y ≡ true → x < y
is-less x y e = grind (arith, nat_tests)

neither : (a b : Bool) → (a || b) ≡ false → (a ≡ false) × (b ≡ false)
neither true b e = cc
neither false b e = (refl, e)

abbrev Bounds : Term → ℕ → Type 0
Bounds term now = (date : Moment) → term ≡ Date date → (now + 86400 ≤ date.second) × (date.second ≤ now + 36500 * 86400)

bounds : (term : Term) (now : ℕ) → is_bad term now ≡ false → Bounds term now
bounds (Days days) now e date is = cc
bounds (Date found) now e date is =
    let same : found ≡ date = cc in
    let one = ap (λ (d : Moment). d.second) same in
    let both = neither (nat_lt found.second (now + 86400)) (nat_lt (now + 36500 * 86400) found.second) e in
    let low = is-late found.second (now + 86400) both.0 in
    let high = is-late (now + 36500 * 86400) found.second both.1 in
    (omega (arith, low, one), omega (arith, high, one))

module _ (mode : LockMode) (term : Term) (hours : Option ℕ) (now : ℕ) (new : LockState) where
  replaced-so : replaced mode term hours now ≡ Ok new → (is_bad term now ≡ false) × (new ≡ lock_for mode (term_end term now) (cool_off_end hours now))
  replaced-so e = by (is_bad term now) refl e
    where
      by : (b : Bool) → is_bad term now ≡ b → cond b (Err refusal.BadDate) (Ok (new_lock mode (end_of term now) hours now)) ≡ Ok new → (is_bad term now ≡ false) × (new ≡ lock_for mode (term_end term now) (cool_off_end hours now))
      by true is e = cc
      by false is e = let same : new_lock mode (end_of term now) hours now ≡ new = cc in (is, sym same ∙ new-lock mode (end_of term now) hours now ∙ ap (λ end. lock_for mode end (cool_off_end hours now)) (ends term now))

-- a lock in compliance that was made longer
record Prolonged (until cool_end : Moment) (mode : LockMode) (term : Term) (hours : Option ℕ) (now : ℕ) (new : LockState) : Type 0 where
  mode_is : mode ≡ Compliance
  no_cool_off : hours ≡ None
  later : until.second < (end_of term now).second
  good : is_bad term now ≡ false
  is : new ≡ state.Compliance (end_of term now) cool_end

prolonged-so : (until cool_end : Moment) (mode : LockMode) (term : Term) (hours : Option ℕ) (now : ℕ) (new : LockState) → prolonged until cool_end mode term hours now ≡ Ok new → Prolonged until cool_end mode term hours now new
prolonged-so until cool_end Governance term hours now new e = cc
prolonged-so until cool_end Compliance term (Some hours) now new e = cc
prolonged-so until cool_end Compliance term None now new e = by (nat_le (end_of term now).second until.second) (is_bad term now) refl refl e
  where
    by : (a b : Bool) → nat_le (end_of term now).second until.second ≡ a → is_bad term now ≡ b → cond a (Err (refusal.Locked until)) (cond b (Err refusal.BadDate) (Ok (state.Compliance (end_of term now) cool_end))) ≡ Ok new → Prolonged until cool_end Compliance term None now new
    by true b short bad e = cc
    by false true short bad e = cc
    by false false short bad e = record { mode_is = refl; no_cool_off = refl; later = is-early _ _ short; good = bad; is = cc }

-- what is made of a lock by a command to lock
record Made (old : LockState) (mode : LockMode) (term : Term) (hours : Option ℕ) (now : ℕ) (new : LockState) : Type 0 where
  anew : (IsFast old now → ⊥) → new ≡ lock_for mode (term_end term now) (cool_off_end hours now)
  longer : IsFast old now → IsProlonged old new mode term hours now
  within : Bounds term now

loose-made : (old : LockState) (mode : LockMode) (term : Term) (hours : Option ℕ) (now : ℕ) (new : LockState) → (IsFast old now → ⊥) → replaced mode term hours now ≡ Ok new → Made old mode term hours now new
loose-made old mode term hours now new loose e =
    let so = replaced-so mode term hours now new e in
    record { anew = λ free. so.1; longer = λ fast. absurd (loose fast); within = bounds term now so.0 }

lock-made : (old : LockState) (mode : LockMode) (term : Term) (hours : Option ℕ) (now : ℕ) (new : LockState) → lock old mode term hours now ≡ Ok new → Made old mode term hours now new
lock-made state.None mode term hours now new e = loose-made state.None mode term hours now new (λ fast. fast) e
lock-made (state.Governance until) mode term hours now new e = loose-made (state.Governance until) mode term hours now new (λ fast. fast) e
lock-made (state.Compliance until cool_end) mode term hours now new e = by (nat_le until.second now) (nat_lt now cool_end.second) refl refl e
  where
    by : (a b : Bool) → nat_le until.second now ≡ a → nat_lt now cool_end.second ≡ b
        → cond (is_compliance (cond a phase.Expired (cond b phase.CoolOff phase.Compliance))) (prolonged until cool_end mode term hours now) (replaced mode term hours now) ≡ Ok new → Made (state.Compliance until cool_end) mode term hours now new
    by true b ended cools e = loose-made (state.Compliance until cool_end) mode term hours now new (λ fast. late until.second now ended fast.1) e
    by false true ended cools e = loose-made (state.Compliance until cool_end) mode term hours now new (λ fast. early now cool_end.second cools fast.0) e
    by false false ended cools e =
        let so = prolonged-so until cool_end mode term hours now new e in
        let end = ends term now in
        record {
          anew = λ free. absurd (free (is-late now cool_end.second cools, is-early until.second now ended));
          longer = λ fast. record { until = until; cool_end = cool_end; was = refl; mode_is = so.mode_is; no_cool_off = so.no_cool_off; later = subst (λ (end : Moment). until.second < end.second) end so.later; is = so.is ∙ ap (λ end. state.Compliance end cool_end) end };
          within = bounds term now so.good;
        }

unlock-made : (old : LockState) (now : ℕ) (new : LockState) → unlock old now ≡ Ok new → IsLoose old now × (new ≡ state.None)
unlock-made state.None now new e = cc
unlock-made (state.Governance until) now new e = by (nat_le until.second now) refl e
  where
    by : (a : Bool) → nat_le until.second now ≡ a → unlock_by (cond a phase.Expired phase.Governance) until ≡ Ok new → (now < until.second) × (new ≡ state.None)
    by true ended e = cc
    by false ended e = (is-early until.second now ended, cc)
unlock-made (state.Compliance until cool_end) now new e = by (nat_le until.second now) (nat_lt now cool_end.second) refl refl e
  where
    by : (a b : Bool) → nat_le until.second now ≡ a → nat_lt now cool_end.second ≡ b → unlock_by (cond a phase.Expired (cond b phase.CoolOff phase.Compliance)) until ≡ Ok new → ((now < cool_end.second) × (now < until.second)) × (new ≡ state.None)
    by true b ended cools e = cc
    by false true ended cools e = ((is-less now cool_end.second cools, is-early until.second now ended), cc)
    by false false ended cools e = cc

more : (n : ℕ) → n ≡ n + 1 → ⊥
more n e = absurd (omega (arith, e))

module _ (at : Machine) (account : ℕ) (key : SnapKey) where
  abbrev LocksIt : LockMode → Term → Option ℕ → Outcome → Type 0
  LocksIt mode term hours d = d.0.changes ≡ at.changes + 1 → IsLockedSo at d.0 account key mode term hours at.clock.second

  abbrev UnlocksIt : Outcome → Type 0
  UnlocksIt d = d.0.changes ≡ at.changes + 1 → IsUnlockedSo at d.0 account key at.clock.second

pub lock-asked : LockIsAsAsked
lock-asked m account reading key mode term hours =
    let at = advance m (moment_at m reading) in
    step-cases (LocksIt at account key mode term hours) m account reading (LockSnapshot key mode term hours)
    (λ s new is passes changed e.
    let made = lock-made s.row.lock mode term hours at.clock.second new changed in
    record { one = writes-row at account key s (record s.row { lock = new }) is passes; rest = refl; anew = made.anew; longer = made.longer; bounds = made.within })
    (λ refusal e. absurd (more m.changes e))

pub unlock-asked : UnlockIsAsAsked
unlock-asked m account reading key =
    let at = advance m (moment_at m reading) in
    step-cases (UnlocksIt at account key) m account reading (UnlockSnapshot key)
    (λ s new is passes changed e.
    let made = unlock-made s.row.lock at.clock.second new changed in
    record { one = writes-row at account key s (record s.row { lock = new }) is passes; rest = ap (λ (lock : LockState). record s.row { lock = lock }) made.1; was_loose = made.0 })
    (λ refusal e. absurd (more m.changes e))
