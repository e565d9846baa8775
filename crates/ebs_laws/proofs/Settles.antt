-- What a step says of calls that are accepted.
use Rattle.std.proofs.Common.{◌≡◌, ◌≢◌, ◌⊎◌, inl, inr, ◌↔◌, ℕ, ◌+◌, Result, Ok, Err, sym, ap, ◌∙◌, refl, arith}
use Rattle.ebs_model.specs.declared.keys.Moment.{Moment}
use Rattle.ebs_model.specs.declared.request.Call.{Call}
use Rattle.ebs_model.specs.declared.request.Request.{Request}
use Rattle.ebs_model.specs.declared.request.Request.TheVariants.{StartSnapshot, PutSnapshotBlock, CompleteSnapshot}
use Rattle.ebs_model.specs.declared.answer.Answer.{Answer}
use Rattle.ebs_model.specs.declared.answer.Answer.TheVariants.{Refused}
use Rattle.ebs_model.specs.declared.answer.Refusal.{Refusal}
use Rattle.ebs_model.specs.Machine.{Machine, advance, moment_of}
use Rattle.ebs_model.specs.Step.{step, settled, call}
use Rattle.ebs_model.specs.inner.Turns.{Accepts, Changes}
use Rattle.ebs_laws.specs.Puts.{changes_by}
use Rattle.ebs_laws.proofs.Cases.{Outcome, Accepted, call-done, accepted-is}
use Rattle.ebs_laws.proofs.Others.{others}
use Rattle.ebs_laws.proofs.Counts.{changes_rise}

module _ (m : Machine) (c : Call) (reading : Moment) where
  abbrev at : Machine
  at = advance m (moment_of m reading)

  pub accepts-or-refuses : let s = step m c.account reading c.request in Accepts m c reading s.0 s.1 ⊎ ((refusal : Refusal) × (s ≡ (at, Refused refusal)))
  accepts-or-refuses = by (call at c.account c.request) refl
    where
      by : (r : Result Outcome Refusal) → call at c.account c.request ≡ r → let s = settled at r in (call at c.account c.request ≡ Ok (s.0, s.1)) ⊎ ((refusal : Refusal) × (s ≡ (at, Refused refusal)))
      by (Ok d) e = inl e
      by (Err r) e = inr (r, refl)

  pub accepted-step : (next : Machine) (answer : Answer) → Accepts m c reading next answer → step m c.account reading c.request ≡ (next, answer)
  accepted-step next answer e = ap (settled at) e

  pub accepted-counts : (next : Machine) (answer : Answer) → Accepts m c reading next answer → Changes m c reading next answer ↔ (changes_by m c.account c.request answer ≡ 1)
  accepted-counts next answer e =
      let is = accepted-step next answer e in
      let more : next.changes ≡ m.changes + changes_by m c.account c.request answer = sym (ap (λ (d : Outcome). d.0.changes) is) ∙ changes_rise m c.account reading c.request ∙ ap (λ (d : Outcome). m.changes + changes_by m c.account c.request d.1) is in
      (λ h. let one = h.1 in omega (arith, more, one), λ one. (e, omega (arith, more, one)))

abbrev pub IsAnswered : Refusal → Outcome → Type 0
IsAnswered refusal d = d.1 ≡ Refused refusal → ⊥

pub answered : (m : Machine) (account : ℕ) (request : Request) (refusal : Refusal) → Accepted (IsAnswered refusal) m account request
answered m account (StartSnapshot size parent description tags token timeout) refusal = (λ from tests e. cc, λ row tests e. cc)
answered m account (PutSnapshotBlock key index digest bytes) refusal = λ s is passes tests e. cc
answered m account (CompleteSnapshot key count checksum) refusal = λ s is passes tests e. cc
answered m account request refusal = others (IsAnswered refusal) m account request (λ answer says. says.answers refusal) (λ key s row answer is same says. says.answers refusal) (λ key s answer is same says. says.answers refusal) (λ k row array token answer is says. says.answers refusal) (λ k row answer there is says. says.answers refusal) (λ v row text tags is made e. cc) (λ v row i digest bytes is asked e. cc) (λ command change answer is says. says.answers refusal) (λ snaps own policies answer is says. says.answers refusal)

pub accepted-answers : (m : Machine) (c : Call) (reading : Moment) (next : Machine) (answer : Answer) (refusal : Refusal) → Accepts m c reading next answer → answer ≢ Refused refusal
accepted-answers m c reading next answer refusal e =
    let at = advance m (moment_of m reading) in
    accepted-is (IsAnswered refusal) (call at c.account c.request) (call-done (IsAnswered refusal) at c.account c.request (answered at c.account c.request refusal)) (next, answer) e
