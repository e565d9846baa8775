-- Texts without a carriage return, and how a line ends at its first.
use Rattle.std.proofs.Common.{◌≡◌, ℕ, zero, suc, ◌<◌, ◌^◌, ◌==◌, Bool, true, false, not, List, [], ◌∷◌, ◌++◌, refl, sym, ap₂, subst, arith, decimal, length, replicate, get_or}
use Rattle.std.proofs.lemmas.Bool.Decides.{nat_tests}
use Rattle.std.proofs.lemmas.Fmt.{decimal_is_IsNumeral}
use Rattle.std.proofs.lemmas.Str.Parse.{digit_from_value}
use Rattle.std.specs.Prelude.{◌&&◌}
use Rattle.std.specs.Str.Parse.{AllDigits}
use Rattle.base64.specs.Engines.{standard}
use Rattle.base64.specs.Rfc4648.{encode_symbols, padding_len}
use Rattle.ebs_shown.specs.Values.{base64_text}

abbrev pub is_plain : List ℕ → Bool
is_plain [] = true
is_plain (b ∷ bytes) = not (b == 13) && is_plain bytes

both : (a b : Bool) → a ≡ true → b ≡ true → (a && b) ≡ true
both true b p q = q
both false b p q = cc

parts : (a b : Bool) → (a && b) ≡ true → (a ≡ true) × (b ≡ true)
parts true b e = (refl, e)
parts false b e = cc

false_true : false ≡ true → ⊥
false_true e = cc

no_return : (b : ℕ) → not (b == 13) ≡ true → b ≡ 13 → ⊥
no_return b plain is = false_true (subst (λ (n : ℕ). not (n == 13) ≡ true) is plain)

plain_at : (b : ℕ) → 13 < b → not (b == 13) ≡ true
plain_at b above = grind (arith, nat_tests)

head_same : (x y : ℕ) (xs ys : List ℕ) → x ∷ xs ≡ y ∷ ys → (x ≡ y) × (xs ≡ ys)
head_same x y xs ys e = (cc, cc)

-- two lines that begin the same bytes are one
pub cut : (xs ys rest more : List ℕ) → is_plain xs ≡ true → is_plain ys ≡ true → xs ++ 13 ∷ rest ≡ ys ++ 13 ∷ more → (xs ≡ ys) × (rest ≡ more)
cut [] [] rest more p q e = (refl, (head_same 13 13 rest more e).1)
cut [] (y ∷ ys) rest more p q e = absurd (no_return y (parts _ _ q).0 (sym (head_same 13 y rest (ys ++ 13 ∷ more) e).0))
cut (x ∷ xs) [] rest more p q e = absurd (no_return x (parts _ _ p).0 (head_same x 13 (xs ++ 13 ∷ rest) more e).0)
cut (x ∷ xs) (y ∷ ys) rest more p q e =
    let (first, tail) = head_same x y (xs ++ 13 ∷ rest) (ys ++ 13 ∷ more) e in
    let later = cut xs ys rest more (parts _ _ p).1 (parts _ _ q).1 tail in
    (ap₂ (λ (b : ℕ) (bytes : List ℕ). b ∷ bytes) first later.0, later.1)

-- fronts of one length of the same bytes are one
pub same_length : (xs ys rest more : List ℕ) → length xs ≡ length ys → xs ++ rest ≡ ys ++ more → (xs ≡ ys) × (rest ≡ more)
same_length [] [] rest more long e = (refl, e)
same_length [] (y ∷ ys) rest more long e = absurd (omega (arith, long))
same_length (x ∷ xs) [] rest more long e = absurd (omega (arith, long))
same_length (x ∷ xs) (y ∷ ys) rest more long e =
    let (first, tail) = head_same x y (xs ++ rest) (ys ++ more) e in
    let later = same_length xs ys rest more (omega (arith, long)) tail in
    (ap₂ (λ (b : ℕ) (bytes : List ℕ). b ∷ bytes) first later.0, later.1)

plain_digits : (ds : List ℕ) → AllDigits 10 ds → is_plain ds ≡ true
plain_digits [] d = refl
plain_digits (c ∷ cs) d = both _ _ (let h = digit_from_value c d.0 in plain_at c (omega (arith, h))) (plain_digits cs d.1)

pub plain_decimal : (n : ℕ) → n < 2 ^ 64 → is_plain (decimal n) ≡ true
plain_decimal n small = plain_digits (decimal n) (decimal_is_IsNumeral n small).0.1

plain_symbol : (t : List ℕ) → is_plain t ≡ true → (k : ℕ) → not (get_or t k 0 == 13) ≡ true
plain_symbol [] p zero = refl
plain_symbol [] p (suc k) = refl
plain_symbol (x ∷ t) p zero = (parts _ _ p).0
plain_symbol (x ∷ t) p (suc k) = plain_symbol t (parts _ _ p).1 k

plain_symbols : (t : List ℕ) → is_plain t ≡ true → (m : List ℕ) → is_plain (encode_symbols t m) ≡ true
unfolding encode_symbols
plain_symbols t p [] = refl
plain_symbols t p (a ∷ []) = both _ _ (plain_symbol t p _) (both _ _ (plain_symbol t p _) refl)
plain_symbols t p (a ∷ b ∷ []) = both _ _ (plain_symbol t p _) (both _ _ (plain_symbol t p _) (both _ _ (plain_symbol t p _) refl))
plain_symbols t p (a ∷ b ∷ c ∷ rest) = both _ _ (plain_symbol t p _) (both _ _ (plain_symbol t p _) (both _ _ (plain_symbol t p _) (both _ _ (plain_symbol t p _) (plain_symbols t p rest))))

plain_padding : (n : ℕ) → is_plain (replicate n 61) ≡ true
plain_padding zero = refl
plain_padding (suc n) = plain_padding n

plain_append : (xs ys : List ℕ) → is_plain xs ≡ true → is_plain ys ≡ true → is_plain (xs ++ ys) ≡ true
plain_append [] ys p q = q
plain_append (x ∷ xs) ys p q = both _ _ (parts _ _ p).0 (plain_append xs ys (parts _ _ p).1 q)

pub plain_base64 : (bytes : List ℕ) → is_plain (base64_text bytes) ≡ true
unfolding base64_text
plain_base64 bytes = plain_append (encode_symbols standard.encode_table bytes) (replicate (padding_len (length bytes)) 61) (plain_symbols standard.encode_table refl bytes) (plain_padding (padding_len (length bytes)))
