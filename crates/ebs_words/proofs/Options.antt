-- What a word is for `clap`: a long option, or plain.
use Rattle.std.proofs.Common.{◌≡◌, ◌≢◌, ◌==◌, ◌⊎◌, ◌∙◌, ℕ, Bool, List, [], ◌∷◌, ◌++◌, zero, suc, Option, Some, None, true, false, inl, inr, refl, sym, ap, arith}
use Rattle.std.specs.Prelude.{option_and_then}
use Rattle.std.proofs.lemmas.Bool.Decides.{nat_tests}
use Rattle.clap.specs.Lexer.{strip_byte, name_and_value, long_of, long_of_rest}
use Rattle.clap.proofs.CutLemmas.{Lacks}
use Rattle.clap.proofs.LexerLemmas.{name_and_value-at, name_and_value-without}

and_then : {A B : Type 0} (f : A → Option B) (o : Option A) (b : B) → option_and_then f o ≡ Some b → (a : A) × (o ≡ Some a) × (f a ≡ Some b)
and_then f None b e = absurd cc
and_then f (Some a) b e = (a, refl, e)

stripped : (c : ℕ) (bs rest : List ℕ) → strip_byte c bs ≡ Some rest → bs ≡ c ∷ rest
stripped c [] rest e = cc
stripped c (b ∷ bs) rest e = go (b == c) refl
  where
    go : (t : Bool) → (b == c) ≡ t → b ∷ bs ≡ c ∷ rest
    go true same = let is : b ≡ c = grind (arith, nat_tests) in let tail : Some bs ≡ Some rest = rw same at e in cc
    go false same = let bad : None ≡ Some rest = rw same at e in cc

lacks_more : (x : ℕ) (xs : List ℕ) → x ≢ 61 → Lacks 61 xs → Lacks 61 (x ∷ xs)
lacks_more x xs other lacks zero lt = other
lacks_more x xs other lacks (suc i) lt = lacks i (omega arith)

-- a text is cut at its first `=`, if it has one
cut : (text : List ℕ) → Lacks 61 text ⊎ ((xs : List ℕ) × (ys : List ℕ) × Lacks 61 xs × (text ≡ xs ++ 61 ∷ ys))
cut [] = inl (λ i lt. absurd (omega arith))
cut (x ∷ text) = go (x == 61) refl (cut text)
  where
    go : (t : Bool) → (x == 61) ≡ t → Lacks 61 text ⊎ ((xs : List ℕ) × (ys : List ℕ) × Lacks 61 xs × (text ≡ xs ++ 61 ∷ ys))
        → Lacks 61 (x ∷ text) ⊎ ((xs : List ℕ) × (ys : List ℕ) × Lacks 61 xs × (x ∷ text ≡ xs ++ 61 ∷ ys))
    go true same rest = let is : x ≡ 61 = grind (arith, nat_tests) in inr ([], text, (λ i lt. absurd (omega arith)), ap (λ n. n ∷ text) is)
    go false same rest =
        let other : x ≢ 61 = grind (arith, nat_tests) in
        elim rest [
          | inl lacks ↦ inl (lacks_more x text other lacks)
          | inr parts ↦ inr (x ∷ parts.0, parts.1, lacks_more x parts.0 other parts.2, ap (λ (l : List ℕ). x ∷ l) parts.3)
        ]

-- the word is `--name`, or `--name=value`
pub data IsLong (word : List ℕ) (p : List ℕ × Option (List ℕ)) : Type 0 where
  alone : word ≡ 45 ∷ 45 ∷ p.0 → p.1 ≡ None → IsLong word p
  joined : (value : List ℕ) → word ≡ 45 ∷ 45 ∷ (p.0 ++ 61 ∷ value) → p.1 ≡ Some value → IsLong word p

named : (word text : List ℕ) (p : List ℕ × Option (List ℕ)) → word ≡ 45 ∷ 45 ∷ text → name_and_value text ≡ p → IsLong word p
named word text p is read = elim (cut text) [
  | inl lacks ↦
      let whole : (text, None) ≡ p = sym (name_and_value-without text lacks) ∙ read in
      alone (is ∙ ap (λ (q : List ℕ × Option (List ℕ)). 45 ∷ 45 ∷ q.0) whole) (sym (ap (λ (q : List ℕ × Option (List ℕ)). q.1) whole))
  | inr parts ↦
      let halves : (parts.0, Some parts.1) ≡ p = sym (name_and_value-at parts.0 parts.1 parts.2) ∙ (ap name_and_value (sym parts.3) ∙ read) in
      joined parts.1 (is ∙ ap (λ (l : List ℕ). 45 ∷ 45 ∷ l) parts.3 ∙ ap (λ (q : List ℕ × Option (List ℕ)). 45 ∷ 45 ∷ (q.0 ++ 61 ∷ parts.1)) halves) (sym (ap (λ (q : List ℕ × Option (List ℕ)). q.1) halves))
]

of_rest : (text : List ℕ) (p : List ℕ × Option (List ℕ)) → long_of_rest text ≡ Some p → name_and_value text ≡ p
of_rest [] p e = cc
of_rest (x ∷ xs) p e = cc

pub long_is : (word : List ℕ) (p : List ℕ × Option (List ℕ)) → long_of word ≡ Some p → IsLong word p
long_is word p e =
    let outer = and_then long_of_rest (option_and_then (strip_byte 45) (strip_byte 45 word)) p e in
    let inner = and_then (strip_byte 45) (strip_byte 45 word) outer.0 outer.1 in
    named word outer.0 p (stripped 45 word inner.0 inner.1 ∙ ap (λ (l : List ℕ). 45 ∷ l) (stripped 45 inner.0 outer.0 inner.2)) (of_rest outer.0 p outer.2)
