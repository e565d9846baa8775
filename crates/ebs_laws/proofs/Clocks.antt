-- What a call does to the clock, and what a refused one leaves.
use Rattle.std.proofs.Common.{◌≡◌, ℕ, ◌^◌, ◌≤◌, arith, List, ap, refl}
use Rattle.ebs_model.specs.declared.keys.Moment.{Moment}
use Rattle.ebs_model.specs.declared.request.Request.{Request}
use Rattle.ebs_model.specs.declared.request.Request.TheVariants.{StartSnapshot, PutSnapshotBlock, CompleteSnapshot}
use Rattle.ebs_model.specs.declared.answer.Answer.TheVariants.{Refused}
use Rattle.ebs_model.specs.declared.answer.Refusal.{Refusal}
use Rattle.ebs_model.specs.Machine.{Machine, advance, moment_of, empty_machine}
use Rattle.ebs_model.specs.Step.{step}
use Rattle.ebs_model.specs.Timed.{Timed, turn, after_all}
use Rattle.ebs_laws.proofs.Cases.{Outcome, Accepted, step-cases}
use Rattle.ebs_laws.proofs.Others.{others}
use Rattle.ebs_laws.proofs.Given.{kept_by_run}

abbrev Clock : Machine → Outcome → Type 0
Clock m d = d.0.clock ≡ m.clock

same_clock : (m : Machine) (account : ℕ) (request : Request) → Accepted (Clock m) m account request
same_clock m account (StartSnapshot size parent description tags token timeout) = (λ from tests. refl, λ row tests. refl)
same_clock m account (PutSnapshotBlock key index digest bytes) = λ s is passes tests. refl
same_clock m account (CompleteSnapshot key count checksum) = λ s is passes tests. refl
same_clock m account request = others (Clock m) m account request (λ answer says. refl) (λ key s row answer is same says. refl) (λ key s answer is same says. refl) (λ k row array token answer is says. refl) (λ k row answer there is says. refl) (λ v row text tags is made. refl) (λ v row i digest bytes is asked. refl) (λ command change answer is says. refl) (λ snaps own policies answer is says. refl)

abbrev Leaves : Machine → Refusal → Outcome → Type 0
Leaves m refusal d = d.1 ≡ Refused refusal → d.0 ≡ m

leaves_it : (m : Machine) (account : ℕ) (request : Request) (refusal : Refusal) → Accepted (Leaves m refusal) m account request
leaves_it m account (StartSnapshot size parent description tags token timeout) refusal = (λ from tests e. cc, λ row tests e. cc)
leaves_it m account (PutSnapshotBlock key index digest bytes) refusal = λ s is passes tests e. cc
leaves_it m account (CompleteSnapshot key count checksum) refusal = λ s is passes tests e. cc
leaves_it m account request refusal = others (Leaves m refusal) m account request (λ answer says e. refl) (λ key s row answer is same says e. absurd (says.answers refusal e)) (λ key s answer is same says e. absurd (says.answers refusal e)) (λ k row array token answer is says e. absurd (says.answers refusal e)) (λ k row answer there is says e. absurd (says.answers refusal e)) (λ v row text tags is made e. cc) (λ v row i digest bytes is asked e. cc) (λ command change answer is says e. absurd (says.answers refusal e)) (λ snaps own policies answer is says e. absurd (says.answers refusal e))

module _ (m : Machine) (account : ℕ) (reading : Moment) (request : Request) where
  pub clock-moment : (step m account reading request).0.clock ≡ moment_of m reading
  clock-moment = let at = advance m (moment_of m reading) in step-cases (Clock at) m account reading request (same_clock at account request) (λ refusal. refl)

  pub clock-forward : m.clock.second ≤ (step m account reading request).0.clock.second
  clock-forward = let at = ap (λ (now : Moment). now.second) clock-moment in omega (arith, at)

  pub refused-leaves : (refusal : Refusal) → (step m account reading request).1 ≡ Refused refusal → (step m account reading request).0 ≡ advance m (moment_of m reading)
  refused-leaves refusal = let at = advance m (moment_of m reading) in step-cases (Leaves at refusal) m account reading request (leaves_it at account request refusal) (λ other e. refl)

pub clock-below : (secret : List ℕ) (turns : List Timed) → (after_all (empty_machine secret) turns).clock.second ≤ 2 ^ 36
clock-below secret turns = kept_by_run (λ m. m.clock.second ≤ 2 ^ 36) each turns (empty_machine secret) (omega arith)
  where
    each : (m : Machine) (t : Timed) → m.clock.second ≤ 2 ^ 36 → (turn m t).0.clock.second ≤ 2 ^ 36
    each m t h = let at = ap (λ (now : Moment). now.second) (clock-moment m t.call.account t.reading t.call.request) in omega (arith, at, h)
