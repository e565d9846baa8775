-- Numbers as digits of a fixed width, and back.
use Rattle.std.proofs.Common.{◌≡◌, ℕ, zero, suc, ◌+◌, ◌*◌, ◌/◌, ◌%◌, ◌-◌, ◌^◌, ◌<◌, ◌≤◌, Bool, true, false, List, [], ◌∷◌, ◌++◌, length, take, get_or, replicate, refl, sym, ap, ◌∙◌, arith, append_assoc, length-append, ◌==◌, inl, inr}
use Rattle.std.proofs.lemmas.Grind.{pow_more}
use Rattle.std.proofs.lemmas.List.{take_more, append-nil}
use Rattle.std.proofs.lemmas.Nat.{div_below, div-add-mod', div-mul-add, mod-mul-add, mod_below}
use Rattle.std.proofs.lemmas.Int.Digits.{digits_value_more, digits_value_push}
use Rattle.std.proofs.lemmas.List.Folds.{list_all-append}
use Rattle.std.proofs.lemmas.List.Sums.{AllPass-from_list_all}
use Rattle.std.proofs.lemmas.Bool.{cases_Bool, eqb-true, eqb-false}
use Rattle.std.proofs.Math.Nat.{pow-zero}
use Rattle.std.proofs.Math.Seq.{take-length}
use Rattle.std.specs.List.{list_all}
use Rattle.std.specs.Fmt.{digit_glyph, digits, digits_onto}
use Rattle.std.specs.Char.{digit_value}
use Rattle.std.specs.Str.Parse.{digits_value}

-- the last digits of n, as many as the width says
pub fixed : ℕ → ℕ → ℕ → List ℕ
fixed b zero n = []
fixed b (suc w) n = fixed b w (n / b) ++ (digit_glyph false (n % b) ∷ [])

fixed-suc : (b w n : ℕ) → fixed b (suc w) n ≡ fixed b w (n / b) ++ (digit_glyph false (n % b) ∷ [])
unfolding fixed
fixed-suc b w n = refl

fixed-none : (b n : ℕ) → fixed b 0 n ≡ []
unfolding fixed
fixed-none b n = refl

replicate-more : (n a : ℕ) → replicate n a ++ (a ∷ []) ≡ a ∷ replicate n a
replicate-more zero a = refl
replicate-more (suc n) a = ap (λ xs. a ∷ xs) (replicate-more n a)

fixed-zero : (b w : ℕ) → 0 < b → fixed b w 0 ≡ replicate w 48
fixed-zero b zero low = fixed-none b 0
fixed-zero b (suc w) low =
    let d : 0 / b ≡ 0 = omega arith in
    let m : 0 % b ≡ 0 = omega arith in
    fixed-suc b w 0 ∙ rw (d, m, fixed-zero b w low) (replicate-more w 48)

pub glyph_value : (d : ℕ) → d < 16 → digit_value (digit_glyph false d) ≡ d
glyph_value d h = grind arith

pub length-fixed : (b w n : ℕ) → length (fixed b w n) ≡ w
length-fixed b zero n = ap length (fixed-none b n)
length-fixed b (suc w) n = ap length (fixed-suc b w n) ∙ rw (length-append (fixed b w (n / b)) (digit_glyph false (n % b) ∷ []), length-fixed b w (n / b)) (omega arith)

-- a number's digits have its value
pub value-fixed : (b w n : ℕ) → 2 ≤ b → b ≤ 16 → n < b ^ w → digits_value b (fixed b w n) ≡ n
value-fixed b zero n low high h =
    let one : b ^ 0 ≡ 1 = pow-zero b in
    let none : n ≡ 0 = omega arith in
    ap (digits_value b) (fixed-none b n) ∙ sym none
value-fixed b (suc w) n low high h =
    let power : b ^ (w + 1) ≡ b ^ w * b = pow_more b w in
    let same : suc w ≡ w + 1 = omega arith in
    let within : n < b ^ w * b = rw (same, power) at h in
    let below : n / b < b ^ w = div_below n b (b ^ w) (omega arith) within in
    let rest : n % b < 16 = omega (arith, mod_below n b (omega arith)) in
    ap (digits_value b) (fixed-suc b w n) ∙ digits_value_push b (fixed b w (n / b)) (digit_glyph false (n % b))
    ∙ rw (value-fixed b w (n / b) low high below, glyph_value (n % b) rest) (div-add-mod' n b)

onto_last : (b n k : ℕ) (acc : List ℕ) → n / b ≡ 0 → digits_onto (suc k) b false n acc ≡ digit_glyph false (n % b) ∷ acc
onto_last b n k acc e = rw e refl

onto_step : (b n k : ℕ) (acc : List ℕ) → (n / b == 0) ≡ false → digits_onto (suc k) b false n acc ≡ digits_onto k b false (n / b) (digit_glyph false (n % b) ∷ acc)
onto_step b n k acc e = rw e refl

-- digits after as many zeros as the width wants
zeros_before : ℕ → ℕ → List ℕ → List ℕ
zeros_before w more ds = replicate (w + more - length ds) 48 ++ ds

last_case : (b v k n : ℕ) (acc : List ℕ) → 0 < b → n / b ≡ 0 → zeros_before (suc v) (length acc) (digits_onto (suc k) b false n acc) ≡ fixed b (suc v) n ++ acc
unfolding zeros_before
last_case b v k n acc low e =
    let count : suc v + length acc - suc (length acc) ≡ v = omega arith in
    rw (onto_last b n k acc e, fixed-suc b v n, e, fixed-zero b v low, count, append_assoc) refl

step_case : (b v k n : ℕ) (acc : List ℕ) → (n / b == 0) ≡ false
    → zeros_before v (length (digit_glyph false (n % b) ∷ acc)) (digits_onto k b false (n / b) (digit_glyph false (n % b) ∷ acc)) ≡ fixed b v (n / b) ++ (digit_glyph false (n % b) ∷ acc)
    → zeros_before (suc v) (length acc) (digits_onto (suc k) b false n acc) ≡ fixed b (suc v) n ++ acc
unfolding zeros_before
step_case b v k n acc e ih =
    let count : suc v + length acc ≡ v + suc (length acc) = omega arith in
    rw (onto_step b n k acc e, count) (ih ∙ rw (fixed-suc b v n, append_assoc) refl)

positive : (b v m : ℕ) → m < b ^ v → (m == 0) ≡ false → 0 < v
positive b zero m below apart = let one : b ^ 0 ≡ 1 = pow-zero b in absurd (eqb-false m 0 apart (omega arith))
positive b (suc v) m below apart = omega arith

onto : (b w k n : ℕ) (acc : List ℕ) → 2 ≤ b → w ≤ k → 0 < w → n < b ^ w → zeros_before w (length acc) (digits_onto k b false n acc) ≡ fixed b w n ++ acc
onto b zero k n acc low fits some h = absurd (omega arith)
onto b (suc v) zero n acc low fits some h = absurd (omega arith)
onto b (suc v) (suc k) n acc low fits some h =
    let power : b ^ (v + 1) ≡ b ^ v * b = pow_more b v in
    let same : suc v ≡ v + 1 = omega arith in
    let within : n < b ^ v * b = rw (same, power) at h in
    let below : n / b < b ^ v = div_below n b (b ^ v) (omega arith) within in
    elim (cases_Bool (n / b == 0)) [
      | inl last ↦ last_case b v k n acc (omega arith) (eqb-true (n / b) 0 last)
      | inr more ↦ step_case b v k n acc more (onto b v k (n / b) (digit_glyph false (n % b) ∷ acc) low (omega arith) (positive b v (n / b) below more) below)
    ]

-- what a hole of a width writes
pub padded : (b w n : ℕ) → 2 ≤ b → 0 < w → w ≤ 64 → n < b ^ w → replicate (w - length (digits b false n)) 48 ++ digits b false n ≡ fixed b w n
unfolding digits zeros_before
padded b w n low some fits h =
    let none : w + 0 ≡ w = omega arith in
    let whole : zeros_before w 0 (digits_onto 64 b false n []) ≡ fixed b w n ++ [] = onto b w 64 n [] low fits some h in
    rw (append-nil, none) at whole

pub all-fixed : (b w n : ℕ) (p : ℕ → Bool) → 2 ≤ b → ((d : ℕ) → d < b → p (digit_glyph false d) ≡ true) → list_all p (fixed b w n) ≡ true
all-fixed b zero n p low glyphs = ap (list_all p) (fixed-none b n)
all-fixed b (suc w) n p low glyphs =
    ap (list_all p) (fixed-suc b w n) ∙ list_all-append p (fixed b w (n / b)) (digit_glyph false (n % b) ∷ [])
    ∙ rw (all-fixed b w (n / b) p low glyphs, glyphs (n % b) (mod_below n b (omega arith))) refl

-- each of these characters is a digit of the base
pub record AreDigits (b : ℕ) (p : ℕ → Bool) : Type 0 where
  pub below : (c : ℕ) → p c ≡ true → digit_value c < b
  pub glyph : (c : ℕ) → p c ≡ true → digit_glyph false (digit_value c) ≡ c

front-fixed : (b : ℕ) (p : ℕ → Bool) (ds : List ℕ) (i : ℕ) → AreDigits b p → list_all p ds ≡ true → i ≤ length ds → fixed b i (digits_value b (take i ds)) ≡ take i ds
front-fixed b p ds zero are all h = fixed-none b _
front-fixed b p ds (suc i) are all h =
    let passes : p (get_or ds i 0) ≡ true = AllPass-from_list_all p ds all i 0 (omega arith) in
    let c = get_or ds i 0 in
    let v = digits_value b (take i ds) in
    let same : suc i ≡ i + 1 = omega arith in
    let more : digits_value b (take (i + 1) ds) ≡ v * b + digit_value c = digits_value_more b ds i (omega arith) in
    let value : digits_value b (take (suc i) ds) ≡ v * b + digit_value c = rw same more in
    let up : (v * b + digit_value c) / b ≡ v = div-mul-add v b (digit_value c) (are.below c passes) in
    let last : (v * b + digit_value c) % b ≡ digit_value c = mod-mul-add v b (digit_value c) (are.below c passes) in
    let longer : take (suc i) ds ≡ take i ds ++ (c ∷ []) = rw same (take_more ds i 0 (omega arith)) in
    ap (fixed b (suc i)) value ∙ fixed-suc b i (v * b + digit_value c)
    ∙ rw (up, last, are.glyph c passes, front-fixed b p ds i are all (omega arith)) (sym longer)

-- digits are what is written of their value
pub fixed-value : (b : ℕ) (p : ℕ → Bool) (ds : List ℕ) → AreDigits b p → list_all p ds ≡ true → fixed b (length ds) (digits_value b ds) ≡ ds
fixed-value b p ds are all =
    let front : fixed b (length ds) (digits_value b (take (length ds) ds)) ≡ take (length ds) ds = front-fixed b p ds (length ds) are all (omega arith) in
    rw take-length at front

one_more : (v d b m : ℕ) → v < m → d < b → v * b + d < m * b
one_more v d b m front digit = grind arith

below-front : (b : ℕ) (p : ℕ → Bool) (ds : List ℕ) (i : ℕ) → AreDigits b p → list_all p ds ≡ true → i ≤ length ds → digits_value b (take i ds) < b ^ i
below-front b p ds zero are all h = let one : b ^ 0 ≡ 1 = pow-zero b in omega arith
below-front b p ds (suc i) are all h =
    let passes : p (get_or ds i 0) ≡ true = AllPass-from_list_all p ds all i 0 (omega arith) in
    let digit : digit_value (get_or ds i 0) < b = are.below (get_or ds i 0) passes in
    let same : suc i ≡ i + 1 = omega arith in
    let more : digits_value b (take (i + 1) ds) ≡ digits_value b (take i ds) * b + digit_value (get_or ds i 0) = digits_value_more b ds i (omega arith) in
    let power : b ^ (i + 1) ≡ b ^ i * b = pow_more b i in
    let front : digits_value b (take i ds) < b ^ i = below-front b p ds i are all (omega arith) in
    rw (same, more, power) (one_more (digits_value b (take i ds)) (digit_value (get_or ds i 0)) b (b ^ i) front digit)

-- digits write a number below the power of their count
pub value_below : (b : ℕ) (p : ℕ → Bool) (ds : List ℕ) → AreDigits b p → list_all p ds ≡ true → digits_value b ds < b ^ length ds
value_below b p ds are all =
    let front : digits_value b (take (length ds) ds) < b ^ length ds = below-front b p ds (length ds) are all (omega arith) in
    rw take-length at front
