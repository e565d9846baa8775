-- The machine's own step, of what the kept form does.
use Rattle.std.proofs.Common.{◌≡◌, ℕ, ◌+◌, ◌≤◌, refl, None, Result, Ok, Err, sym, ap, ◌∙◌, arith}
use Rattle.sha2.specs.Sha256.{sha256}
use Rattle.std.specs.FinMap as fin
use Rattle.ebs_world.specs.View.{View, IsTrueToItself}
use Rattle.ebs_model.specs.declared.keys.Moment.{Moment}
use Rattle.ebs_model.specs.declared.request.Request.{Request}
use Rattle.ebs_model.specs.declared.answer.Answer.{Answer}
use Rattle.ebs_model.specs.declared.answer.Answer.TheVariants.{Refused}
use Rattle.ebs_model.specs.declared.answer.Refusal.{Refusal}
use Rattle.ebs_model.specs.Keys.{snap_cmp}
use Rattle.ebs_model.specs.Time.{Snapshot}
use Rattle.ebs_model.specs.Refuse.{◌>>◌, refuse_bad}
use Rattle.ebs_model.specs.Limits.{bad_member}
use Rattle.ebs_model.specs.Kept.{same, kept_request}
use Rattle.ebs_model.specs.inner.Kept.{digested, kept_outcome, kept_answer, ActsAlike, AgesAlike}
use Rattle.ebs_model.specs.Machine.{Machine, advance}
use Rattle.ebs_model.specs.inner.Rules.{KeepsDays}
use Rattle.ebs_model.specs.Step.{act, call, settled, step}
use Rattle.ebs_model.proofs.Aged.{aged-aged}
use Rattle.ebs_recovery.specs.inner.Made.{Leads}
use Rattle.ebs_recovery.specs.Made.{called}
use Rattle.ebs_recovery.specs.inner.Fits.{Seen, Fit, recorded, running}
use Rattle.ebs_recovery.proofs.Fitting.{is_machine}
use Rattle.ebs_recovery.specs.inner.Changes.{IsRowChange}
use Rattle.ebs_disk_store.specs.inner.Told.{called_at, at_reading}
use Rattle.ebs_disk_store.proofs.RowCalls.{plain}
use Rattle.ebs_recovery.proofs.Replies.{HasNoBytes, same_answer, is_change, is_repeated, advanced_rests}

abbrev Outcome : Type 0
Outcome = Result (Machine × Answer) Refusal

pub outcome_err : (x : Outcome) (r : Refusal) → kept_outcome x ≡ Err r → x ≡ Err r
outcome_err (Ok done) r e = absurd (cc)
outcome_err (Err q) r e = e

abbrev answer_in : Answer → Outcome → Answer
answer_in a (Ok done) = done.1
answer_in a (Err r) = a

abbrev machine_in : Machine → Outcome → Machine
machine_in m (Ok done) = done.0
machine_in m (Err r) = m

first_is : (m n : Machine) (a b : Answer) → ◌≡◌ {A = Outcome} (Ok (m, a)) (Ok (n, b)) → m.changes ≡ n.changes
first_is m n a b e = ap (λ (x : Outcome). (machine_in m x).changes) e

pub second_is : (m n : Machine) (a b : Answer) → ◌≡◌ {A = Outcome} (Ok (m, a)) (Ok (n, b)) → a ≡ b
second_is m n a b e = ap (answer_in a) e

-- time may pass in parts
pub again : (m : Machine) (first then : Moment) → first.second ≤ then.second → advance (advance m first) then ≡ advance m then
again m first then h = ap (λ (snaps : fin.FinMap snap_cmp Snapshot). record m { clock = then; snaps = snaps }) (aged-aged first.second then.second h m.snaps)

-- a step at a reading is a call at its moment
pub step_at : (v : View) (s : Seen) (account : ℕ) (reading : Moment) (request : Request)
    → step (running v s) account reading request ≡ (let at = advance (recorded v s) (at_reading s reading) in settled at (call at account request))
step_at v s account reading request = ap (λ (m : Machine). settled m (call m account request)) (again (recorded v s) s.clock (at_reading s reading) (omega arith))

-- what the kept form does for a request's kept form
module _ (v : View) (law : IsTrueToItself v) (acts : ActsAlike) (ages : AgesAlike) (s : Seen) (fit : Fit v s) (now : Moment)
    (account : ℕ) (request kept : Request) (bare : kept_request request ≡ kept) where
  abbrev at : Machine
  at = advance (recorded v s) now

  pub kept_is : advance s.recorded now ≡ digested at
  kept_is = ap (λ (m : Machine). advance m now) (fit.right.kept ∙ ap digested (sym (is_machine v s law fit))) ∙ ages (recorded v s) now

  pub outcome_is : act same (advance s.recorded now) account kept ≡ kept_outcome (act sha256 at account request)
  outcome_is = (λ i. act same (kept_is i) account (sym bare i)) ∙ acts at account request

  module _ (within : bad_member request ≡ None) where
    pub call_is : call at account request ≡ act sha256 at account request
    call_is = ap (λ o. refuse_bad o >> act sha256 at account request) within

    pub refused_is : (r : Refusal) → act same (advance s.recorded now) account kept ≡ Err r → settled at (call at account request) ≡ (at, Refused r)
    refused_is r e = ap (settled at) (call_is ∙ outcome_err (act sha256 at account request) r (sym outcome_is ∙ e))

module _ (v : View) (law : IsTrueToItself v) (acts : ActsAlike) (ages : AgesAlike) (s : Seen) (fit : Fit v s) (now : Moment)
    (account : ℕ) (request : Request) (row : IsRowChange request) (within : bad_member request ≡ None) where
  abbrev M : Machine
  M = advance (recorded v s) now

  -- both forms have as many changes
  same_changes : (n k : Machine) (a answer : Answer) → act sha256 M account request ≡ Ok (n, a) → act same (advance s.recorded now) account request ≡ Ok (k, answer) → n.changes ≡ k.changes
  same_changes n k a answer e f = first_is (digested n) k (kept_answer a) answer (sym (ap kept_outcome e) ∙ sym (outcome_is v law acts ages s fit now account request request (plain request row).kept) ∙ f)

  same_reply : (n k : Machine) (a answer : Answer) → act sha256 M account request ≡ Ok (n, a) → act same (advance s.recorded now) account request ≡ Ok (k, answer) → HasNoBytes answer → a ≡ answer
  same_reply n k a answer e f bare = same_answer a answer (second_is (digested n) k (kept_answer a) answer (sym (ap kept_outcome e) ∙ sym (outcome_is v law acts ages s fit now account request request (plain request row).kept) ∙ f)) bare

  -- a repeat
  pub repeated_is : KeepsDays s.recorded.books → (answer : Answer) → act same (advance s.recorded now) account request ≡ Ok (advance s.recorded now, answer) → settled M (call M account request) ≡ (M, answer)
  repeated_is lasts answer e = by (act sha256 M account request) refl
    where
      nothing : (r : Refusal) → kept_outcome (Err r) ≡ Ok (advance s.recorded now, answer) → ⊥
      nothing r e = cc

      by : (x : Outcome) → act sha256 M account request ≡ x → settled M (call M account request) ≡ (M, answer)
      by (Ok done) is =
          let bare = (is_repeated same (advance s.recorded now) (advanced_rests s.recorded now) lasts account request row within (advance s.recorded now) answer e refl).bare in
          let back = is_repeated sha256 M (advanced_rests (recorded v s) now) lasts account request row within done.0 done.1 is (same_changes done.0 (advance s.recorded now) done.1 answer is e) in
          ap (settled M) (call_is v law acts ages s fit now account request request (plain request row).kept within ∙ is)
          ∙ (λ i. (back.same i, same_reply done.0 (advance s.recorded now) done.1 answer is e bare i))
      by (Err r) is = absurd (nothing r (ap kept_outcome (sym is) ∙ sym (outcome_is v law acts ages s fit now account request request (plain request row).kept) ∙ e))

  pub made_is : KeepsDays s.recorded.books → (k n : Machine) (answer : Answer) → act same (advance s.recorded now) account request ≡ Ok (k, answer) → k.changes ≡ s.recorded.changes + 1 → Leads (recorded v s) (called (called_at account now request)) n
      → settled M (call M account request) ≡ (advance n now, answer)
  made_is lasts k n answer e counted leads =
      let bare = (is_change same (advance s.recorded now) (advanced_rests s.recorded now) lasts account request row within k answer e counted).bare in
      let rested = is_change sha256 M (advanced_rests (recorded v s) now) lasts account request row within n leads.0 leads.1 (same_changes n k leads.0 answer leads.1 e ∙ counted) in
      ap (settled M) (call_is v law acts ages s fit now account request request (plain request row).kept within ∙ leads.1 ∙ ap (λ (a : Answer). Ok (n, a)) (same_reply n k leads.0 answer leads.1 e bare))
      ∙ ap (λ (m : Machine). pair m answer) (λ i. record n { clock = rested.clock i; snaps = sym rested.rested i })
    where
      pair : Machine → Answer → Machine × Answer
      pair m a = (m, a)

-- a member out of its limits
pub bad_is : (m : Machine) (account : ℕ) (request : Request) (r : Refusal) → Err r ≡ refuse_bad (bad_member request) → settled m (call m account request) ≡ (m, Refused r)
bad_is m account request r e = ap (λ (x : Result (Unit {0}) Refusal). settled m (x >> act sha256 m account request)) (sym e)
