-- What calls leave of an account's policies.
use Rattle.std.proofs.Common.{◌≡◌, ◌≢◌, ℕ, refl}
use Rattle.std.specs.FinMap as fin
use Rattle.ebs_model.specs.declared.keys.PolicyKey.{PolicyKey}
use Rattle.ebs_model.specs.declared.request.Request.{Request}
use Rattle.ebs_model.specs.declared.request.Request.TheVariants.{StartSnapshot, PutSnapshotBlock, CompleteSnapshot}
use Rattle.ebs_model.specs.Machine.{Machine, advance}
use Rattle.ebs_laws.specs.Words.{moment_at}
use Rattle.ebs_laws.specs.AccessLaws.{OthersChangeNoPolicy}
use Rattle.ebs_laws.proofs.Cases.{Outcome, Accepted, step-cases}
use Rattle.ebs_laws.proofs.Others.{others}

-- another's policies stay
module _ (m : Machine) (account : ℕ) (key : PolicyKey) (apart : key.account ≢ account) where
  abbrev SamePolicy : Outcome → Type 0
  SamePolicy d = fin.get d.0.policies key ≡ fin.get m.policies key

  policy-accepted : (request : Request) → Accepted SamePolicy m account request
  policy-accepted (StartSnapshot size parent description tags token timeout) = (λ from tests. refl, λ row tests. refl)
  policy-accepted (PutSnapshotBlock k index digest bytes) = λ s is passes tests. refl
  policy-accepted (CompleteSnapshot k count checksum) = λ s is passes tests. refl
  policy-accepted request = others SamePolicy m account request (λ answer says. refl) (λ k s row answer is same says. refl) (λ k s answer is same says. refl) (λ k row array token answer is says. refl) (λ k row answer there is says. refl) (λ v row text tags is made. refl) (λ v row i digest bytes is asked. refl)
      (λ command change answer is says. refl) (λ snaps own policies answer is says. is.other_policies key apart)

pub others-policies : OthersChangeNoPolicy
others-policies m account reading request key apart =
    let at = advance m (moment_at m reading) in
    step-cases (SamePolicy at account key apart) m account reading request (policy-accepted at account key apart request) (λ refusal. refl)
