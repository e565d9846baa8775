-- Which area counts stays where the fronts of the areas stay.
use Rattle.std.proofs.Common.{◌≡◌, inl, inr, ℕ, zero, suc, ◌+◌, ◌<◌, ◌≤◌, ◌∷◌, true, refl, sym, ◌∙◌, arith}
use Rattle.std.specs.Int.{w32, w64, from_be_bytes}
use Rattle.ebs_world.specs.declared.area.Area.{Area}
use Rattle.ebs_world.specs.declared.area.Area.TheVariants.{Journal0, Journal1, Archive}
use Rattle.ebs_world.specs.Image.{Image, IsOutside, Keeps}
use Rattle.ebs_journal.specs.inner.Areas.{is_journal}
use Rattle.ebs_journal.specs.Opening.{bytes_at, front_of, counted, counted_of, IsMade}
use Rattle.ebs_journal.proofs.Areas.{apart}

pub bytes_same : (f g : ℕ → ℕ) (at n : ℕ) → ((i : ℕ) → at ≤ i → i < at + n → g i ≡ f i) → bytes_at g at n ≡ bytes_at f at n
bytes_same f g at zero same = refl
bytes_same f g at (suc n) same = (λ k. same at (omega arith) (omega arith) k ∷ bytes_same f g (at + 1) n (λ i from below. same i (omega (arith, from)) (omega (arith, below))) k)

pub front_same : (f g : ℕ → ℕ) → ((i : ℕ) → i < 29 → g i ≡ f i) → front_of g ≡ front_of f
unfolding front_of
front_same f g same =
    let nine = bytes_same f g 0 9 (λ i from below. same i (omega (arith, below))) in
    let version = bytes_same f g 9 4 (λ i from below. same i (omega (arith, below))) in
    let epoch = bytes_same f g 13 8 (λ i from below. same i (omega (arith, below))) in
    let size = bytes_same f g 21 8 (λ i from below. same i (omega (arith, below))) in
    (λ k. record { nine = nine k; version = from_be_bytes w32 (version k); epoch = from_be_bytes w64 (epoch k); length = from_be_bytes w64 (size k) })

pub counted_same : (c d : Image) → ((a : Area) (i : ℕ) → i < 29 → d a i ≡ c a i) → counted d ≡ counted c
counted_same c d same = (λ k. counted_of (front_same (c Journal0) (d Journal0) (same Journal0) k) (front_same (c Journal1) (d Journal1) (same Journal1) k))

module _ (c d : Image) (area : Area) (at n : ℕ) (in_journal : is_journal area ≡ true) (far : 29 ≤ at) (kept : Keeps (IsOutside area at n) c d) where
  pub made_kept : IsMade c → IsMade d
  made_kept made is = made (sym (kept Archive 0 (inl (apart area Archive in_journal refl))) ∙ is)

  pub counted_kept : counted d ≡ counted c
  counted_kept = counted_same c d (λ a i below. kept a i (inr (inl (omega (arith, below, far)))))

-- the areas of a journal alone matter
pub counted_in : (c d : Image) → ((a : Area) (i : ℕ) → is_journal a ≡ true → i < 29 → d a i ≡ c a i) → counted d ≡ counted c
counted_in c d same = (λ k. counted_of (front_same (c Journal0) (d Journal0) (λ i below. same Journal0 i refl below) k) (front_same (c Journal1) (d Journal1) (λ i below. same Journal1 i refl below) k))
