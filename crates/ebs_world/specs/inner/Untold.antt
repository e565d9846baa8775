-- A disk that tells nothing.
use Rattle.std.specs.Prelude.{ℕ, false, ◌≡◌, true}
use Rattle.std.proofs.lemmas.Bool.{false≢true}
use Rattle.ebs_world.specs.View.{View, IsTrueToItself}

abbrev pub nothing_told : ℕ → View
nothing_told faults = record {
  tells = false;
  honest = false;
  reads = λ a i. 0;
  may_leave = λ c. ⊥;
  moment = 0;
  left_since = λ t c. ⊥;
  faults = faults;
}

is_not : {P : Type 0} → false ≡ true → P
is_not e = absurd (false≢true e)

pub untold_law : (faults : ℕ) → IsTrueToItself (nothing_told faults)
untold_law faults = record {
  reads_as_image = λ told honest. is_not told;
  counts_now = λ honest t c le now. is_not honest;
  only_now = λ honest c left. is_not honest;
}
