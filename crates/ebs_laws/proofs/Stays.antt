-- A completed snapshot keeps its blocks.
use Rattle.std.proofs.Common.{◌≡◌, ℕ, ◌<◌, arith, Bool, true, false, List, Option, Some, None, Ok, sym, ap, ◌∙◌, refl}
use Rattle.std.specs.FinMap as fin
use Rattle.ebs_model.specs.declared.keys.SnapKey.{SnapKey}
use Rattle.ebs_model.specs.declared.keys.Moment.{Moment}
use Rattle.ebs_model.specs.declared.rows.SnapRow.{SnapRow}
use Rattle.ebs_model.specs.declared.request.Request.{Request}
use Rattle.ebs_model.specs.declared.request.Request.TheVariants.{StartSnapshot, PutSnapshotBlock, CompleteSnapshot}
use Rattle.ebs_model.specs.Arrays.{WholeArray}
use Rattle.ebs_model.specs.Time.{Snapshot, status_by, is_pending, is_failed}
use Rattle.ebs_model.specs.Access.{open_upload}
use Rattle.ebs_model.specs.Machine.{Machine, advance, moment_of}
use Rattle.ebs_model.specs.inner.Orders.{snaps_total, exact_snaps}
use Rattle.ebs_model.proofs.Aged.{aged_row, get-aged, found-rested, rested-same}
use Rattle.ebs_model.specs.Timed.{Timed, turn, after_all}
use Rattle.ebs_laws.specs.Uploads.{NumbersGiven, put}
use Rattle.ebs_laws.proofs.Beside.{same-next}
use Rattle.ebs_laws.proofs.Maps.{get-other, get-itself, by_key, was-left}
use Rattle.ebs_laws.proofs.Tests.{open-pending}
use Rattle.ebs_laws.proofs.Cases.{Outcome, Accepted, step-cases}
use Rattle.ebs_laws.proofs.Others.{others, IsManaged, managed-grows}
use Rattle.ebs_laws.proofs.Given.{grows, kept_by_run}
use Rattle.ebs_laws.proofs.Whole.{own_of, with_started, completed, with_snapshot, rewritten, managed}
use Rattle.ebs_model.specs.declared.rows.Own.{Own}
use Rattle.ebs_model.specs.Keys.{snap_cmp, policy_cmp}
use Rattle.std.specs.Ordering.{nat_cmp}
use Rattle.ebs_model.specs.declared.policy.Policy.{Policy}
use Rattle.ebs_laws.proofs.PolicyRuns.{left-each}

pub never_failed : (c late : Bool) → c ≡ true → is_failed (status_by c late) ≡ false
never_failed true late e = refl
never_failed false late e = cc

never_open : (c late : Bool) → c ≡ true → is_pending (status_by c late) ≡ false
never_open true late e = refl
never_open false late e = cc

true_false : true ≡ false → ⊥
true_false e = cc

module _ (key : SnapKey) (array : WholeArray) where
  abbrev pub IsWhole : Snapshot → Type 0
  IsWhole s = (s.row.completed ≡ true) × (s.array ≡ array)

  abbrev pub Whole : Machine → Type 0
  Whole m = ((s : Snapshot) → fin.get m.snaps key ≡ Some s → IsWhole s) × (key.number < (own_of m key.account).next_snap)

  pub whole-aged : (m : Machine) (now : Moment) → Whole m → Whole (advance m now)
  whole-aged m now h = (λ s e. kept s (fin.get m.snaps key) refl (sym (get-aged now.second m.snaps key) ∙ e), h.1)
    where
      kept : (s : Snapshot) (o : Option Snapshot) → fin.get m.snaps key ≡ o → aged_row now.second o ≡ Some s → IsWhole s
      kept s None is e = cc
      kept s (Some old) is e =
          let was = h.0 old is in
          let same = sym (rested-same now.second old (never_failed old.row.completed _ was.0)) ∙ found-rested now.second old s e in
          (ap (λ (s : Snapshot). s.row.completed) (sym same) ∙ was.0, ap (λ (s : Snapshot). s.array) (sym same) ∙ was.1)

  module _ (m : Machine) (h : Whole m) where
    -- another snapshot is written
    whole-other : (k : SnapKey) (s : Snapshot) → (key ≡ k → ⊥) → (x : Snapshot) → fin.get (fin.insert m.snaps k s) key ≡ Some x → IsWhole x
    whole-other k s other x e = h.0 x (sym (get-other snaps_total exact_snaps m.snaps k s key other) ∙ e)

    not_it : (k : SnapKey) (account : ℕ) (s : Snapshot) → fin.get m.snaps k ≡ Some s → open_upload account k m.clock.second s.row ≡ Ok tt → key ≡ k → ⊥
    not_it k account s is passes same = true_false (sym (open-pending account k m.clock.second s.row passes) ∙ never_open s.row.completed _ (h.0 s (ap (fin.get m.snaps) same ∙ is)).0)

    whole-start : (account : ℕ) (row : SnapRow) (blocks : WholeArray) → let given : SnapKey = record { account = account; number = (own_of m account).next_snap } in Whole (with_started m given row blocks)
    whole-start account row blocks =
        let given : SnapKey = record { account = account; number = (own_of m account).next_snap } in
        let more = grows m account row blocks key.account in
        let below = h.1 in
        (whole-other given (record { row = row; array = blocks }) (λ same. let number = ap (λ k. k.number) same in let next = ap (λ k. (own_of m k.account).next_snap) same in omega (arith, number, next, below)), omega (arith, more, below))

    -- a row is rewritten, and keeps that it is completed
    whole-rewritten : (k : SnapKey) (s : Snapshot) (row : SnapRow) → fin.get m.snaps k ≡ Some s → row.completed ≡ s.row.completed → Whole (with_snapshot m k (rewritten row s))
    whole-rewritten k s row is same = (λ x e. by_key snaps_total exact_snaps (IsWhole x) key k (λ one. here x one (sym (ap (fin.get (fin.insert m.snaps k (rewritten row s))) one ∙ get-itself snaps_total exact_snaps m.snaps k (rewritten row s)) ∙ e)) (λ other. whole-other k (rewritten row s) other x e), h.1)
      where
        here : (x : Snapshot) → key ≡ k → Some (rewritten row s) ≡ Some x → IsWhole x
        here x one e =
            let was = h.0 s (ap (fin.get m.snaps) one ∙ is) in
            let it : rewritten row s ≡ x = cc in
            (ap (λ (s : Snapshot). s.row.completed) (sym it) ∙ same ∙ was.0, ap (λ (s : Snapshot). s.array) (sym it) ∙ was.1)

    -- a run makes others and gives up rows
    whole-managed : (account : ℕ) (request : Request) (snaps : fin.FinMap snap_cmp Snapshot) (own : fin.FinMap nat_cmp Own) (policies : fin.FinMap policy_cmp Policy) → IsManaged m account request snaps own policies → Whole (managed m snaps own policies)
    whole-managed account request snaps own policies is =
        let more = managed-grows m account request snaps own policies is key.account in
        let below = h.1 in (
          left-each m account own key IsWhole h.0
              (λ s new. let above = new.above in let next = ap (λ a. (own_of m a).next_snap) new.owner in absurd (omega (arith, above, next, below)))
              (λ s row mine alters was. (ap (λ (r : SnapRow). r.completed) alters ∙ was.0, was.1))
              (fin.get snaps key) (is.leaves key),
          omega (arith, more, below),
        )

    abbrev Kept : Outcome → Type 0
    Kept d = Whole d.0

    whole-accepted : (account : ℕ) (request : Request) → Accepted Kept m account request
    whole-accepted account (StartSnapshot size parent description tags token timeout) = (λ from tests. whole-start account _ _, λ row tests. h)
    whole-accepted account (PutSnapshotBlock k i digest bytes) = λ s is passes tests. (whole-other k (put s m.clock m.stamps i bytes) (not_it k account s is passes), h.1)
    whole-accepted account (CompleteSnapshot k count checksum) = λ s is passes tests. (whole-other k (completed s) (not_it k account s is passes), h.1)
    whole-accepted account request = others Kept m account request (λ answer says. h) (λ k s row answer is same says. whole-rewritten k s row is same.completed_is) (λ k s answer is same says. (λ x e. h.0 x (was-left snaps_total (λ o. o) refl m.snaps k key x e), h.1)) (λ k row array token answer is says. let below = h.1 in let same = same-next m k row array token key.account in (h.0, omega (arith, below, same))) (λ k row answer there is says. h) (λ v row text tags is made. whole-start account _ _) (λ v row i digest bytes is asked. h) (λ command change answer is says. h)
        (λ snaps own policies answer is says. whole-managed account request snaps own policies is)

  pub whole-turn : (m : Machine) (t : Timed) → Whole m → Whole (turn m t).0
  whole-turn m t h =
      let at = advance m (moment_of m t.reading) in
      let aged = whole-aged m (moment_of m t.reading) h in
      step-cases (Kept at aged) m t.call.account t.reading t.call.request (whole-accepted at aged t.call.account t.call.request) (λ refusal. aged)

pub whole-now : (m : Machine) (key : SnapKey) (old : Snapshot) → NumbersGiven m → fin.get m.snaps key ≡ Some old → old.row.completed ≡ true → Whole key old.array m
whole-now m key old given is whole = (λ s e. itself s (sym is ∙ e), given key old is)
  where
    itself : (s : Snapshot) → Some old ≡ Some s → (s.row.completed ≡ true) × (s.array ≡ old.array)
    itself s e = let same : old ≡ s = cc in (ap (λ (s : Snapshot). s.row.completed) (sym same) ∙ whole, ap (λ (s : Snapshot). s.array) (sym same))

-- after some calls, and at a moment after them
module _ (m : Machine) (turns : List Timed) (key : SnapKey) (old new : Snapshot) where
  whole-after : NumbersGiven m → fin.get m.snaps key ≡ Some old → old.row.completed ≡ true → Whole key old.array (after_all m turns)
  whole-after given is whole = kept_by_run (λ m. Whole key old.array m) (whole-turn key old.array) turns m (whole-now m key old given is whole)

  pub whole-run : NumbersGiven m → fin.get m.snaps key ≡ Some old → old.row.completed ≡ true → fin.get (after_all m turns).snaps key ≡ Some new → (new.row.completed ≡ true) × (new.array ≡ old.array)
  whole-run given is whole e = (whole-after given is whole).0 new e

  pub whole-later : (now : Moment) → NumbersGiven m → fin.get m.snaps key ≡ Some old → old.row.completed ≡ true → fin.get (advance (after_all m turns) now).snaps key ≡ Some new → (new.row.completed ≡ true) × (new.array ≡ old.array)
  whole-later now given is whole e = (whole-aged key old.array (after_all m turns) now (whole-after given is whole)).0 new e
