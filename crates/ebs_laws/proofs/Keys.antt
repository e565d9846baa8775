-- Keys that stand in their rows, and counters that fit.
use Rattle.std.proofs.Common.{◌≡◌, ℕ, ◌+◌, ◌^◌, ◌<◌, ◌≤◌, arith, nat_le, false, List, Option, Some, None, sym, ap, ◌∙◌, refl, unwrap_or}
use Rattle.std.proofs.lemmas.Bool.Decides.{nat_tests}
use Rattle.std.specs.Ordering.{nat_cmp}
use Rattle.std.specs.Cmp.{nat_cmp_total}
use Rattle.std.specs.FinMap as fin
use Rattle.std.specs.FinMap.{nat_cmp-IsAntisymmetric}
use Rattle.ebs_model.specs.declared.keys.SnapKey.{SnapKey}
use Rattle.ebs_model.specs.declared.keys.Moment.{Moment}
use Rattle.ebs_model.specs.declared.rows.Own.{Own}
use Rattle.ebs_model.specs.declared.request.Request.{Request}
use Rattle.ebs_model.specs.declared.request.Request.TheVariants.{StartSnapshot, PutSnapshotBlock, CompleteSnapshot}
use Rattle.ebs_model.specs.Keys.{snap_cmp}
use Rattle.ebs_model.specs.Time.{Snapshot}
use Rattle.ebs_model.specs.Rows.{no_own}
use Rattle.ebs_model.specs.Machine.{Machine, advance, moment_of, empty_machine, disk_of}
use Rattle.ebs_model.specs.Step.{step}
use Rattle.ebs_model.specs.inner.Orders.{snaps_total, exact_snaps}
use Rattle.ebs_model.proofs.Aged.{aged_row, get-aged, found-rested}
use Rattle.ebs_model.specs.Timed.{Timed, after_all}
use Rattle.ebs_laws.specs.Uploads.{KeysStand, CountersFit, put}
use Rattle.ebs_laws.proofs.Beside.{same-next}
use Rattle.ebs_laws.proofs.Maps.{get-itself, get-other, by_key, was-left}
use Rattle.ebs_laws.proofs.Whole.{own_of, completed, rewritten}
use Rattle.ebs_laws.proofs.Cases.{Outcome, Accepted, step-cases}
use Rattle.ebs_laws.proofs.Others.{others, managed-fits}
use Rattle.ebs_laws.proofs.Given.{kept_by_run}
use Rattle.ebs_laws.proofs.PolicyRuns.{left-each}
use Rattle.ebs_model.specs.declared.rows.SnapRow.{SnapRow}

keys-aged : (m : Machine) (now : Moment) → KeysStand m → KeysStand (advance m now)
keys-aged m now h key s e = kept (fin.get m.snaps key) refl (sym (get-aged now.second m.snaps key) ∙ e)
  where
    kept : (o : Option Snapshot) → fin.get m.snaps key ≡ o → aged_row now.second o ≡ Some s → s.row.key ≡ key
    kept None is e = cc
    kept (Some old) is e = ap (λ (s : Snapshot). s.row.key) (sym (found-rested now.second old s e)) ∙ h key old is

module _ (m : Machine) (h : KeysStand m) where
  keys-insert : (key : SnapKey) (t : Snapshot) → t.row.key ≡ key → (k : SnapKey) (x : Snapshot) → fin.get (fin.insert m.snaps key t) k ≡ Some x → x.row.key ≡ k
  keys-insert key t is k x e = by_key snaps_total exact_snaps (x.row.key ≡ k) k key
      (λ same. let there : Some t ≡ Some x = sym (ap (fin.get (fin.insert m.snaps key t)) same ∙ get-itself snaps_total exact_snaps m.snaps key t) ∙ e in ap (λ (s : Snapshot). s.row.key) (sym (only there)) ∙ is ∙ sym same)
      (λ other. h k x (sym (get-other snaps_total exact_snaps m.snaps key t k other) ∙ e))
    where
      only : Some t ≡ Some x → t ≡ x
      only e = cc

  abbrev Stand : Outcome → Type 0
  Stand d = KeysStand d.0

  keys-accepted : (account : ℕ) (request : Request) → Accepted Stand m account request
  keys-accepted account (StartSnapshot size parent description tags token timeout) = (λ from tests. keys-insert _ (record { row = _; array = from.array }) refl, λ row tests. h)
  keys-accepted account (PutSnapshotBlock key index digest bytes) = λ s is passes tests. keys-insert key (put s m.clock m.stamps index bytes) (h key s is)
  keys-accepted account (CompleteSnapshot key count checksum) = λ s is passes tests. keys-insert key (completed s) (h key s is)
  keys-accepted account request = others Stand m account request (λ answer says. h) (λ key s row answer is same says. keys-insert key (rewritten row s) (same.key_is ∙ h key s is))
      (λ key s answer is same says k x e. h k x (was-left snaps_total (λ o. o) refl m.snaps key k x e)) (λ k row array token answer is says. h) (λ k row answer there is says. h) (λ v row text tags is made. keys-insert _ (record { row = _; array = disk_of m v }) refl) (λ v row i digest bytes is asked. h) (λ command change answer is says. h)
      (λ snaps own policies answer is says k. left-each m account own k (λ s. s.row.key ≡ k) (h k) (λ s new. ap (λ (r : SnapRow). r.key) new.row_is) (λ s row mine alters was. ap (λ (r : SnapRow). r.key) alters ∙ was) (fin.get snaps k) (is.leaves k))

pub keys-step : (m : Machine) (account : ℕ) (reading : Moment) (request : Request) → KeysStand m → KeysStand (step m account reading request).0
keys-step m account reading request h =
    let at = advance m (moment_of m reading) in
    let aged = keys-aged m (moment_of m reading) h in
    step-cases (Stand at aged) m account reading request (keys-accepted at aged account request) (λ refusal. aged)

pub keys-empty : (secret : List ℕ) → KeysStand (empty_machine secret)
keys-empty secret key s e = absurd (nothing (sym (fin.get-empty {X = Snapshot} snap_cmp key) ∙ e))
  where
    nothing : None ≡ Some s → ⊥
    nothing e = cc

pub keys-run : (secret : List ℕ) (turns : List Timed) → KeysStand (after_all (empty_machine secret) turns)
keys-run secret turns = kept_by_run (λ m. KeysStand m) (λ m t. keys-step m t.call.account t.reading t.call.request) turns (empty_machine secret) (keys-empty secret)

module _ (m : Machine) (h : CountersFit m) where
  room : (a b : ℕ) → nat_le b a ≡ false → a < b
  room a b e = grind (arith, nat_tests)

  counters-started : (account : ℕ) → nat_le (2 ^ 28) (own_of m account).next_snap ≡ false → (a : ℕ) → (unwrap_or (fin.get (fin.insert m.own account (record (own_of m account) { next_snap = (own_of m account).next_snap + 1 })) a) no_own).next_snap ≤ 2 ^ 28
  counters-started account few a =
      let own : Own = record (own_of m account) { next_snap = (own_of m account).next_snap + 1 } in
      let new : ℕ → ℕ = λ a. (unwrap_or (fin.get (fin.insert m.own account own) a) no_own).next_snap in
      by_key nat_cmp_total nat_cmp-IsAntisymmetric (new a ≤ 2 ^ 28) a account
      (λ same. let is = ap new same ∙ ap (λ o. (unwrap_or o no_own).next_snap) (get-itself nat_cmp_total nat_cmp-IsAntisymmetric m.own account own) in let below = room (own_of m account).next_snap (2 ^ 28) few in omega (arith, is, below))
      (λ other. let is = ap (λ o. (unwrap_or o no_own).next_snap) (get-other nat_cmp_total nat_cmp-IsAntisymmetric m.own account own a other) in let was = h a in omega (arith, is, was))

  abbrev Fit : Outcome → Type 0
  Fit d = CountersFit d.0

  counters-accepted : (account : ℕ) (request : Request) → Accepted Fit m account request
  counters-accepted account (StartSnapshot size parent description tags token timeout) = (λ from tests. counters-started account tests.number, λ row tests. h)
  counters-accepted account (PutSnapshotBlock key index digest bytes) = λ s is passes tests. h
  counters-accepted account (CompleteSnapshot key count checksum) = λ s is passes tests. h
  counters-accepted account request = others Fit m account request (λ answer says. h) (λ key s row answer is same says. h) (λ key s answer is same says. h) (λ k row array token answer is says a. let was = h a in let same = same-next m k row array token a in omega (arith, was, same)) (λ k row answer there is says. h) (λ v row text tags is made. counters-started account made.tests.number) (λ v row i digest bytes is asked. h) (λ command change answer is says. h)
      (λ snaps own policies answer is says a. managed-fits m account request snaps own policies is a h)

pub counters-step : (m : Machine) (account : ℕ) (reading : Moment) (request : Request) → CountersFit m → CountersFit (step m account reading request).0
counters-step m account reading request h =
    let at = advance m (moment_of m reading) in
    step-cases (Fit at h) m account reading request (counters-accepted at h account request) (λ refusal. h)

pub counters-empty : (secret : List ℕ) → CountersFit (empty_machine secret)
counters-empty secret account = let none = ap (λ o. (unwrap_or o no_own).next_snap) (fin.get-empty {X = Own} nat_cmp account) in omega (arith, none)

pub counters-run : (secret : List ℕ) (turns : List Timed) → CountersFit (after_all (empty_machine secret) turns)
counters-run secret turns = kept_by_run (λ m. CountersFit m) (λ m t. counters-step m t.call.account t.reading t.call.request) turns (empty_machine secret) (counters-empty secret)
