-- Numbers and stamps that were given out.
use Rattle.std.proofs.Common.{◌≡◌, ℕ, ◌+◌, ◌<◌, ◌≤◌, arith, List, [], ◌∷◌, Option, Some, None, sym, ap, ◌∙◌, refl, unwrap_or}
use Rattle.std.specs.FinMap as fin
use Rattle.std.specs.FinMap.{nat_cmp-IsAntisymmetric}
use Rattle.std.specs.Cmp.{nat_cmp_total}
use Rattle.ebs_model.specs.declared.keys.SnapKey.{SnapKey}
use Rattle.ebs_model.specs.declared.keys.Moment.{Moment}
use Rattle.ebs_model.specs.declared.rows.SnapRow.{SnapRow}
use Rattle.ebs_model.specs.declared.request.Request.{Request}
use Rattle.ebs_model.specs.declared.request.Request.TheVariants.{StartSnapshot, PutSnapshotBlock, CompleteSnapshot}
use Rattle.ebs_model.specs.Keys.{snap_cmp}
use Rattle.ebs_model.specs.Arrays.{WholeArray}
use Rattle.ebs_model.specs.Time.{Snapshot}
use Rattle.ebs_model.specs.Machine.{Machine, advance, moment_of, empty_machine}
use Rattle.ebs_model.specs.Step.{step}
use Rattle.ebs_model.specs.inner.Orders.{snaps_total, exact_snaps}
use Rattle.ebs_model.proofs.Aged.{aged_row, get-aged}
use Rattle.ebs_model.specs.Timed.{Timed, turn, after_all}
use Rattle.ebs_laws.specs.Uploads.{NumbersGiven, StartsUpload, put}
use Rattle.ebs_laws.proofs.Beside.{same-next}
use Rattle.ebs_laws.proofs.Maps.{get-itself, get-other, by_key, was-left}
use Rattle.ebs_laws.proofs.Cases.{Outcome, Accepted, step-cases}
use Rattle.ebs_laws.proofs.Others.{others, managed-grows}
use Rattle.ebs_laws.proofs.Whole.{own_of, with_snapshot, with_started, completed, rewritten}
use Rattle.ebs_model.specs.Rows.{no_own}
use Rattle.ebs_laws.proofs.PolicyRuns.{left-each, own_in}

-- what each call keeps, a run keeps
pub kept_by_run : (P : Machine → Type 0) → ((m : Machine) (t : Timed) → P m → P (turn m t).0) → (turns : List Timed) (m : Machine) → P m → P (after_all m turns)
kept_by_run P each [] m h = h
kept_by_run P each (t ∷ ts) m h = kept_by_run P each ts (turn m t).0 (each m t h)

pub numbers-aged : (m : Machine) (now : Moment) → NumbersGiven m → NumbersGiven (advance m now)
numbers-aged m now h key s e = kept (fin.get m.snaps key) refl (sym (get-aged now.second m.snaps key) ∙ e)
  where
    kept : (o : Option Snapshot) → fin.get m.snaps key ≡ o → aged_row now.second o ≡ Some s → key.number < (own_of m key.account).next_snap
    kept None is e = cc
    kept (Some old) is e = h key old is

module _ (m : Machine) (h : NumbersGiven m) where
  numbers-same : (key : SnapKey) (s t : Snapshot) → fin.get m.snaps key ≡ Some s → NumbersGiven (with_snapshot m key t)
  numbers-same key s t is k x e = by_key snaps_total exact_snaps (k.number < (own_of m k.account).next_snap) k key
      (λ same. h k s (ap (fin.get m.snaps) same ∙ is))
      (λ other. h k x (sym (get-other snaps_total exact_snaps m.snaps key t k other) ∙ e))

-- the account's next number goes to a new snapshot
module _ (m : Machine) (account : ℕ) (row : SnapRow) (array : WholeArray) where
  abbrev given : SnapKey
  given = record { account = account; number = (own_of m account).next_snap }

  abbrev started : Machine
  started = with_started m given row array

  next : own_of started account ≡ record (own_of m account) { next_snap = given.number + 1 }
  next = ap (λ o. unwrap_or o no_own) (get-itself nat_cmp_total nat_cmp-IsAntisymmetric m.own account (record (own_of m account) { next_snap = given.number + 1 }))

  pub grows : (a : ℕ) → (own_of m a).next_snap ≤ (own_of started a).next_snap
  grows a = by_key nat_cmp_total nat_cmp-IsAntisymmetric ((own_of m a).next_snap ≤ (own_of started a).next_snap) a account
      (λ same. let old = ap (λ a. (own_of m a).next_snap) same in let new = ap (λ a. (own_of started a).next_snap) same ∙ ap (λ o. o.next_snap) next in omega (arith, old, new))
      (λ other. let new = ap (λ o. (unwrap_or o no_own).next_snap) (get-other nat_cmp_total nat_cmp-IsAntisymmetric m.own account (record (own_of m account) { next_snap = given.number + 1 }) a other) in omega (arith, new))

  numbers-started : NumbersGiven m → NumbersGiven started
  numbers-started h k x e = by_key snaps_total exact_snaps (k.number < (own_of started k.account).next_snap) k given
      (λ same. let is = ap (λ k. k.number) same in let new = ap (λ k. (own_of started k.account).next_snap) same ∙ ap (λ o. o.next_snap) next in omega (arith, is, new))
      (λ other. let old = h k x (sym (get-other snaps_total exact_snaps m.snaps given _ k other) ∙ e) in let more = grows k.account in omega (arith, old, more))

abbrev Numbers : Outcome → Type 0
Numbers d = NumbersGiven d.0

numbers-accepted : (m : Machine) (account : ℕ) (request : Request) → NumbersGiven m → Accepted Numbers m account request
numbers-accepted m account (StartSnapshot size parent description tags token timeout) h = (λ from tests. numbers-started m account _ _ h, λ row tests. h)
numbers-accepted m account (PutSnapshotBlock key index digest bytes) h = λ s is passes tests. numbers-same m h key s (put s m.clock m.stamps index bytes) is
numbers-accepted m account (CompleteSnapshot key count checksum) h = λ s is passes tests. numbers-same m h key s (completed s) is
numbers-accepted m account request h = others Numbers m account request (λ answer says. h) (λ key s row answer is same says. numbers-same m h key s (rewritten row s) is)
    (λ key s answer is same says k x e. h k x (was-left snaps_total (λ o. o) refl m.snaps key k x e)) (λ v row array token answer is says k x e. let was = h k x e in let same = same-next m v row array token k.account in omega (arith, was, same)) (λ v row answer there is says. h) (λ v row text tags is made. numbers-started m account _ _ h) (λ v row i digest bytes is asked. h) (λ command change answer is says. h)
    (λ snaps own policies answer is says k. left-each m account own k (λ s. k.number < (own_in own k.account).next_snap)
    (λ s there. let was = h k s there in let more = managed-grows m account request snaps own policies is k.account in omega (arith, was, more))
    (λ s new. let below = new.below in let same = ap (λ a. (own_in own a).next_snap) new.owner in omega (arith, below, same)) (λ s row mine alters was. was) (fin.get snaps k) (is.leaves k))

pub numbers-step : (m : Machine) (account : ℕ) (reading : Moment) (request : Request) → NumbersGiven m → NumbersGiven (step m account reading request).0
numbers-step m account reading request h =
    let aged = numbers-aged m (moment_of m reading) h in
    step-cases Numbers m account reading request (numbers-accepted (advance m (moment_of m reading)) account request aged) (λ refusal. aged)

pub numbers-empty : (secret : List ℕ) → NumbersGiven (empty_machine secret)
numbers-empty secret key s e = let none = fin.get-empty {X = Snapshot} snap_cmp key in absurd (nothing (sym none ∙ e))
  where
    nothing : None ≡ Some s → ⊥
    nothing e = cc

pub numbers-run : (secret : List ℕ) (turns : List Timed) → NumbersGiven (after_all (empty_machine secret) turns)
numbers-run secret turns = kept_by_run (λ m. NumbersGiven m) (λ m t. numbers-step m t.call.account t.reading t.call.request) turns (empty_machine secret) (numbers-empty secret)

-- the next number is free
pub number-free : (m : Machine) (account : ℕ) (parent : Option SnapKey) (key : SnapKey) (new : Machine) → NumbersGiven m → StartsUpload m new account parent key → fin.get m.snaps key ≡ None
number-free m account parent key new h starts = at (fin.get m.snaps key) refl
  where
    at : (o : Option Snapshot) → fin.get m.snaps key ≡ o → fin.get m.snaps key ≡ None
    at None is = is
    at (Some s) is =
        let below = h key s is in
        let number = ap (λ k. k.number) starts.key_is in
        let owner = ap (λ k. (own_of m k.account).next_snap) starts.key_is in
        absurd (omega (arith, below, number, owner))
