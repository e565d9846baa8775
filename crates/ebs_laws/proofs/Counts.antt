-- How the numbers of the machine rise.
use Rattle.std.proofs.Common.{◌≡◌, ℕ, ◌+◌, Bool, true, false, cond, is_some, ap, ◌∙◌, refl, arith}
use Rattle.ebs_model.specs.declared.keys.Moment.{Moment}
use Rattle.ebs_model.specs.declared.request.Request.{Request}
use Rattle.ebs_model.specs.declared.request.Request.TheVariants.{StartSnapshot, PutSnapshotBlock, CompleteSnapshot, UpdateRule, LockRule, UnlockRule, RestoreFromBin}
use Rattle.ebs_model.specs.declared.answer.Answer.TheVariants.{Refused}
use Rattle.ebs_model.specs.declared.answer.Refusal.{Refusal}
use Rattle.ebs_model.specs.Machine.{Machine, advance, moment_of}
use Rattle.ebs_model.specs.Step.{step}
use Rattle.ebs_laws.specs.Words.{is_repeat}
use Rattle.ebs_laws.specs.Puts.{blocks_written, changes_told, changes_by}
use Rattle.ebs_laws.proofs.Cases.{Outcome, Accepted, step-cases}
use Rattle.ebs_laws.proofs.Others.{others}
use Rattle.ebs_laws.proofs.Uses.{repeat-aged}

abbrev count : Bool → ℕ → ℕ
count again changes = cond again 0 changes

one_change : (b : Bool) → b ≡ false → count b 1 ≡ 1
one_change b e = ap (λ b. count b 1) e

no_change : (b : Bool) → b ≡ true → count b 1 ≡ 0
no_change b e = ap (λ b. count b 1) e

never : (b : Bool) → count b 0 ≡ 0
never true = refl
never false = refl

-- a refusal tells of no change
nothing-told : (request : Request) (refusal : Refusal) → changes_told request (Refused refusal) ≡ 0
nothing-told (RestoreFromBin key) refusal = refl
nothing-told (UpdateRule key days tags description) refusal = refl
nothing-told (LockRule key delay) refusal = refl
nothing-told (UnlockRule key) refusal = refl
nothing-told request refusal = refl

module _ (m : Machine) (account : ℕ) where
  abbrev Stamps : Outcome → Type 0
  Stamps d = d.0.stamps ≡ m.stamps + blocks_written d.1

  abbrev Changes : Request → Outcome → Type 0
  Changes request d = d.0.changes ≡ m.changes + changes_by m account request d.1

  more_stamps : (request : Request) → Accepted Stamps m account request
  more_stamps (StartSnapshot size parent description tags token timeout) = (λ from tests. omega arith, λ row tests. omega arith)
  more_stamps (PutSnapshotBlock key index digest bytes) = λ s is passes tests. omega arith
  more_stamps (CompleteSnapshot key count checksum) = λ s is passes tests. omega arith
  more_stamps request = others Stamps m account request (λ answer says. let none = says.written in omega (arith, none)) (λ key s row answer is same says. let none = says.written in omega (arith, none)) (λ key s answer is same says. let none = says.written in omega (arith, none)) (λ k row array token answer is says. let none = says.written in omega (arith, none)) (λ k row answer there is says. let none = says.written in omega (arith, none)) (λ v row text tags is made. omega arith) (λ v row i digest bytes is asked. omega arith) (λ command change answer is says. let none = says.written in omega (arith, none)) (λ snaps own policies answer is says. let none = says.written in omega (arith, none))

  more_changes : (request : Request) → Accepted (Changes request) m account request
  more_changes (StartSnapshot size parent description tags token timeout) = (
    λ from tests. let one = one_change _ (ap is_some tests.unused) in omega (arith, one),
    λ row tests. let none = no_change _ (ap is_some tests.used) in omega (arith, none),
  )
  more_changes (PutSnapshotBlock key index digest bytes) = λ s is passes tests. omega arith
  more_changes (CompleteSnapshot key count checksum) = λ s is passes tests. omega arith
  more_changes request = others (Changes request) m account request (λ answer says. let none = says.made in omega (arith, none)) (λ key s row answer is same says. let one = says.made in omega (arith, one)) (λ key s answer is same says. let one = says.made in omega (arith, one)) (λ k row array token answer is says. let one = says.made in omega (arith, one)) (λ k row answer there is says. let one = says.made in omega (arith, one)) (λ v row text tags is made. let one = one_change _ (ap (is_repeat m account) made.request_is) in omega (arith, one)) (λ v row i digest bytes is asked. let one = one_change _ (ap (is_repeat m account) asked.request_is) in omega (arith, one)) (λ command change answer is says. let one = says.made in omega (arith, one)) (λ snaps own policies answer is says. let one = says.made in omega (arith, one))

module _ (m : Machine) (account : ℕ) (reading : Moment) (request : Request) where
  pub stamps_rise : (step m account reading request).0.stamps ≡ m.stamps + blocks_written (step m account reading request).1
  stamps_rise = step-cases (Stamps m account) m account reading request (more_stamps (advance m (moment_of m reading)) account request) (λ refusal. omega arith)

  pub changes_rise : (step m account reading request).0.changes ≡ m.changes + changes_by m account request (step m account reading request).1
  changes_rise =
      let at = advance m (moment_of m reading) in
      step-cases (Changes at account request) m account reading request (more_changes at account request) (λ refusal. let none = ap (cond (is_repeat at account request) 0) (nothing-told request refusal) ∙ never (is_repeat at account request) in omega (arith, none))
      ∙ ap (λ b. m.changes + cond b 0 (changes_told request (step m account reading request).1)) (repeat-aged m (moment_of m reading) account request)
