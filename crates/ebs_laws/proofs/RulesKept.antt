-- What calls leave of an account's rules.
use Rattle.std.proofs.Common.{◌≡◌, ◌≢◌, ℕ, refl}
use Rattle.std.specs.FinMap as fin
use Rattle.std.specs.FinMap.{nat_cmp-IsAntisymmetric}
use Rattle.std.specs.Cmp.{nat_cmp_total}
use Rattle.ebs_model.specs.declared.request.Request.{Request}
use Rattle.ebs_model.specs.declared.request.Request.TheVariants.{StartSnapshot, PutSnapshotBlock, CompleteSnapshot}
use Rattle.ebs_model.specs.Machine.{Machine, advance}
use Rattle.ebs_laws.specs.Words.{moment_at}
use Rattle.ebs_laws.specs.AccessLaws.{OthersChangeNoRule}
use Rattle.ebs_laws.proofs.Maps.{get-other}
use Rattle.ebs_laws.proofs.Cases.{Outcome, Accepted, step-cases}
use Rattle.ebs_laws.proofs.Others.{others}

-- another's rules stay
module _ (m : Machine) (account other : ℕ) (apart : other ≢ account) where
  abbrev SameRules : Outcome → Type 0
  SameRules d = fin.get d.0.books other ≡ fin.get m.books other

  rules-accepted : (request : Request) → Accepted SameRules m account request
  rules-accepted (StartSnapshot size parent description tags token timeout) = (λ from tests. refl, λ row tests. refl)
  rules-accepted (PutSnapshotBlock k index digest bytes) = λ s is passes tests. refl
  rules-accepted (CompleteSnapshot k count checksum) = λ s is passes tests. refl
  rules-accepted request = others SameRules m account request (λ answer says. refl) (λ k s row answer is same says. refl) (λ k s answer is same says. refl) (λ k row array token answer is says. refl) (λ k row answer there is says. refl) (λ v row text tags is made. refl) (λ v row i digest bytes is asked. refl)
      (λ command change answer is says. get-other nat_cmp_total nat_cmp-IsAntisymmetric m.books account _ other apart) (λ snaps own policies answer is says. refl)

pub others-rules : OthersChangeNoRule
others-rules m account reading request other apart =
    let at = advance m (moment_at m reading) in
    step-cases (SameRules at account other apart) m account reading request (rules-accepted at account other apart request) (λ refusal. refl)
