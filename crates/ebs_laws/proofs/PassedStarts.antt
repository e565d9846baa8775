-- What holds of every snapshot's start, and of every policy's limits.
use Rattle.std.proofs.Common.{◌≡◌, ℕ, suc, zero, ◌≤◌, ◌&&◌, Bool, true, false, nat_le, List, Option, Some, None, sym, ap, subst, ◌∙◌, refl, arith}
use Rattle.std.proofs.lemmas.Bool.{false≢true}
use Rattle.std.proofs.lemmas.Bool.Decides.{nat_tests}
use Rattle.std.specs.FinMap as fin
use Rattle.ebs_model.specs.declared.keys.SnapKey.{SnapKey}
use Rattle.ebs_model.specs.declared.keys.PolicyKey.{PolicyKey}
use Rattle.ebs_model.specs.declared.keys.Moment.{Moment}
use Rattle.ebs_model.specs.declared.tags.Tag.{Tag}
use Rattle.ebs_model.specs.declared.policy.Policy.{Policy}
use Rattle.ebs_model.specs.declared.policy.Retain.{Retain}
use Rattle.ebs_model.specs.declared.policy.Retain.TheVariants as retain
use Rattle.ebs_model.specs.declared.rows.SnapRow.{SnapRow}
use Rattle.ebs_model.specs.declared.request.Request.{Request}
use Rattle.ebs_model.specs.declared.request.Request.TheVariants.{StartSnapshot, PutSnapshotBlock, CompleteSnapshot, CreatePolicy, DeletePolicy, RunPolicy}
use Rattle.ebs_model.specs.Keys.{snap_cmp, policy_cmp}
use Rattle.ebs_model.specs.inner.Orders.{snaps_total, exact_snaps, policies_total, exact_policies}
use Rattle.ebs_model.specs.Arrays.{WholeArray}
use Rattle.ebs_model.specs.Limits.{unless, bad_member, are_targets, is_interval, is_schedule, is_retain}
use Rattle.ebs_model.specs.Time.{Snapshot}
use Rattle.ebs_model.specs.Machine.{Machine, advance, empty_machine}
use Rattle.ebs_laws.specs.Words.{moment_at}
use Rattle.ebs_laws.specs.Uploads.{put}
use Rattle.ebs_laws.specs.PolicyLaws.{next_own_policy}
use Rattle.ebs_laws.specs.RunLaws.{StartsPassed, StartsStayPassed, RunsPassStarts, KeepsSome, PoliciesFit, PoliciesStayFit, RunsFitPolicies}
use Rattle.ebs_laws.proofs.Cases.{Accepted, step-cases}
use Rattle.ebs_laws.proofs.Given.{kept_by_run}
use Rattle.ebs_laws.proofs.Others.{others}
use Rattle.ebs_laws.proofs.Maps.{get-itself, get-other, by_key, was-left}
use Rattle.ebs_laws.proofs.PolicyRuns.{some_is, left-each}
use Rattle.ebs_laws.proofs.Readers.{was-there}
use Rattle.ebs_laws.proofs.Whole.{with_snapshot, with_started, completed, rewritten}

-- ---- starts

passed-aged : (m : Machine) (now : Moment) → m.clock.second ≤ now.second → StartsPassed m → StartsPassed (advance m now)
passed-aged m now later h key s e =
    let was = was-there m now key s e in
    let same = ap (λ (s : Snapshot). s.row.start.second) was.rests in
    let old = h key was.old was.is_there in
    omega (arith, same, old, later)

module _ (m : Machine) (h : StartsPassed m) where
  passed-same : (key : SnapKey) (t : Snapshot) → t.row.start.second ≤ m.clock.second → StartsPassed (with_snapshot m key t)
  passed-same key t in_time k x e = by_key snaps_total exact_snaps (x.row.start.second ≤ m.clock.second) k key
      (λ same. subst (λ (x : Snapshot). x.row.start.second ≤ m.clock.second) (some_is t x (sym (get-itself snaps_total exact_snaps m.snaps key t) ∙ ap (fin.get (fin.insert m.snaps key t)) (sym same) ∙ e)) in_time)
      (λ other. h k x (sym (get-other snaps_total exact_snaps m.snaps key t k other) ∙ e))

  passed-new : (key : SnapKey) (row : SnapRow) (array : WholeArray) → row.start ≡ m.clock → StartsPassed (with_started m key row array)
  passed-new key row array starts = let same = ap (λ (t : Moment). t.second) starts in passed-same key (record { row = row; array = array }) (omega (arith, same))

  passed-accepted : (account : ℕ) (request : Request) → Accepted (λ d. StartsPassed d.0) m account request
  passed-accepted account (StartSnapshot size parent description tags token timeout) = (λ from tests. passed-new _ _ _ refl, λ row tests. h)
  passed-accepted account (PutSnapshotBlock key index digest bytes) = λ s is passes tests. passed-same key (put s m.clock m.stamps index bytes) (h key s is)
  passed-accepted account (CompleteSnapshot key count checksum) = λ s is passes tests. passed-same key (completed s) (h key s is)
  passed-accepted account request = others (λ d. StartsPassed d.0) m account request (λ answer says. h)
      (λ key s row answer there is says. let old = h key s there in let same = ap (λ (t : Moment). t.second) is.start_is in passed-same key (rewritten row s) (omega (arith, old, same)))
      (λ key s answer there is says k x e. h k x (was-left snaps_total (λ o. o) refl m.snaps key k x e)) (λ v row array token answer is says. h) (λ v row answer there is says. h) (λ v row text tags is made. passed-new _ _ _ refl) (λ v row i digest bytes is asked. h) (λ command change answer is says. h)
      (λ snaps own policies answer is says k. left-each m account own k (λ s. s.row.start.second ≤ m.clock.second)
      (λ s there. h k s there)
      (λ s new. let same = ap (λ (r : SnapRow). r.start.second) new.row_is in omega (arith, same))
      (λ s row mine alters was. let same = ap (λ (r : SnapRow). r.start.second) alters in omega (arith, was, same)) (fin.get snaps k) (is.leaves k))

pub passed-step : StartsStayPassed
passed-step m account reading request h =
    let aged = passed-aged m (moment_at m reading) (omega arith) h in
    step-cases (λ d. StartsPassed d.0) m account reading request (passed-accepted (advance m (moment_at m reading)) aged account request) (λ refusal. aged)

passed-empty : (secret : List ℕ) → StartsPassed (empty_machine secret)
passed-empty secret key s e = absurd (nothing (sym (fin.get-empty {X = Snapshot} snap_cmp key) ∙ e))
  where
    nothing : None ≡ Some s → ⊥
    nothing e = cc

pub passed-run : RunsPassStarts
passed-run secret turns = kept_by_run (λ m. StartsPassed m) (λ m t. passed-step m t.call.account t.reading t.call.request) turns (empty_machine secret) (passed-empty secret)

pub passed-at : (m : Machine) (reading : Moment) → StartsPassed m → StartsPassed (advance m (moment_at m reading))
passed-at m reading h = passed-aged m (moment_at m reading) (omega arith) h

-- ---- limits of policies

both : (a b : Bool) → (a && b) ≡ true → (a ≡ true) × (b ≡ true)
both true true e = (refl, refl)
both true false e = absurd (false≢true e)
both false b e = absurd (false≢true e)

at-least : (n limit : ℕ) → (nat_le 1 n && nat_le n limit) ≡ true → 1 ≤ n
at-least n limit e = let one = (both (nat_le 1 n) (nat_le n limit) e).0 in grind (arith, nat_tests)

keeps-some : (r : Retain) → is_retain r ≡ true → KeepsSome r
keeps-some (retain.Count n) e = at-least n 1000 e
keeps-some (retain.Days n) e = at-least n 36500 e
keeps-some (retain.Weeks n) e = at-least n 5200 e
keeps-some (retain.Months n) e = at-least n 1200 e
keeps-some (retain.Years n) e = at-least n 100 e

an-hour : (hours : ℕ) → is_interval hours ≡ true → 1 ≤ hours
an-hour zero e = absurd (false≢true e)
an-hour (suc n) e = omega arith

-- a creation within its limits
unless-none : (b : Bool) (name : List ℕ) (rest : Option (List ℕ)) → unless b name rest ≡ None → (b ≡ true) × (rest ≡ None)
unless-none true name rest e = (refl, e)
unless-none false name rest e = absurd (no e)
  where
    no : ◌≡◌ {A = Option (List ℕ)} (Some name) None → ⊥
    no e = cc

limits : (targets : List Tag) (hours at : ℕ) (r : Retain) (add : List Tag) → bad_member (CreatePolicy targets hours at r add) ≡ None → KeepsSome r × (1 ≤ hours)
limits targets hours at r add good =
    let (t, rest) = unless-none (are_targets targets) _ _ good in
    let (u, more) = unless-none (is_schedule hours at) _ _ rest in
    let (v, last) = unless-none (is_retain r) _ _ more in
    (keeps-some r v, an-hour hours (both (is_interval hours) _ u).0)

module _ (m : Machine) (h : PoliciesFit m) where
  fit-put : (key : PolicyKey) (own : Policy) → KeepsSome own.retain × (1 ≤ own.hours) → (k : PolicyKey) (p : Policy) → fin.get (fin.insert m.policies key own) k ≡ Some p → KeepsSome p.retain × (1 ≤ p.hours)
  fit-put key own fit k p e = by_key policies_total exact_policies (KeepsSome p.retain × (1 ≤ p.hours)) k key
      (λ same. subst (λ (p : Policy). KeepsSome p.retain × (1 ≤ p.hours)) (some_is own p (sym (get-itself policies_total exact_policies m.policies key own) ∙ ap (fin.get (fin.insert m.policies key own)) (sym same) ∙ e)) fit)
      (λ other. h k p (sym (get-other policies_total exact_policies m.policies key own k other) ∙ e))

  fit-accepted : (account : ℕ) (request : Request) → Accepted (λ d. PoliciesFit d.0) m account request
  fit-accepted account (StartSnapshot size parent description tags token timeout) = (λ from tests. h, λ row tests. h)
  fit-accepted account (PutSnapshotBlock key index digest bytes) = λ s is passes tests. h
  fit-accepted account (CompleteSnapshot key count checksum) = λ s is passes tests. h
  fit-accepted account (CreatePolicy targets hours at r add) = λ good. fit-put (next_own_policy m account) _ (limits targets hours at r add good)
  fit-accepted account (DeletePolicy key) = λ p owned there k x e. h k x (was-left policies_total (λ o. o) refl m.policies key k x e)
  fit-accepted account (RunPolicy key) = λ p tests. fit-put key (record p { last = m.clock }) (h key p tests.found)
  fit-accepted account request = others (λ d. PoliciesFit d.0) m account request (λ answer says. h) (λ k s row answer is same says. h) (λ k s answer is same says. h) (λ v row array token answer is says. h) (λ v row answer there is says. h)
      (λ v row text tags is made. h) (λ v row i digest bytes is asked. h) (λ command change answer is says. h) (λ snaps own policies answer is says. absurd is.on_policy)

pub fit-step : PoliciesStayFit
fit-step m account reading request h = step-cases (λ d. PoliciesFit d.0) m account reading request (fit-accepted (advance m (moment_at m reading)) h account request) (λ refusal. h)

fit-empty : (secret : List ℕ) → PoliciesFit (empty_machine secret)
fit-empty secret key p e = absurd (nothing (sym (fin.get-empty {X = Policy} policy_cmp key) ∙ e))
  where
    nothing : None ≡ Some p → ⊥
    nothing e = cc

pub fit-run : RunsFitPolicies
fit-run secret turns = kept_by_run (λ m. PoliciesFit m) (λ m t. fit-step m t.call.account t.reading t.call.request) turns (empty_machine secret) (fit-empty secret)
