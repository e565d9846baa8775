-- Laws of the moments of a disk in memory.
use Rattle.std.specs.Prelude.{◌≡◌, List, length, ℕ, ◌≤◌}
use Rattle.std.proofs.Common.{ap, arith, sym, subst, ◌∙◌}
use Rattle.std.proofs.lemmas.List.{take_all}
use Rattle.ebs_world.specs.declared.log.Step.{Step}
use Rattle.ebs_world.specs.Image.{Image}
use Rattle.ebs_world.specs.inner.Log.{present, state_at, IsImage, LeftSince}

pub all_made : (first : Image) (steps : List Step) → state_at first steps (length steps) ≡ present first steps
all_made first steps = ap (λ (l : List Step). present first l) (take_all (length steps) steps (omega arith))

pub counts_now : (first : Image) (steps : List Step) (t : ℕ) (c : Image) → t ≤ length steps → IsImage (present first steps) c → LeftSince first steps t c
counts_now first steps t c le now = record {
  k = length steps;
  later = le;
  made = omega arith;
  image = subst (λ s. IsImage s c) (sym (all_made first steps)) now;
}

pub only_now : (first : Image) (steps : List Step) (c : Image) → LeftSince first steps (length steps) c → IsImage (present first steps) c
only_now first steps c left =
    let last : left.k ≡ length steps = omega (arith, left.later, left.made) in
    subst (λ s. IsImage s c) (ap (λ (n : ℕ). state_at first steps n) last ∙ all_made first steps) left.image
