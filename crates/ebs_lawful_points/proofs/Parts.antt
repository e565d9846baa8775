-- Tests of which all hold, one by one; and members of lists.
use Rattle.std.proofs.Common.{◌≡◌, ℕ, Bool, true, false, ◌&&◌, List, [], ◌∷◌, refl}
use Rattle.std.specs.List.{list_all, AllByRecursion}

pub two : (a b : Bool) → (a && b) ≡ true → (a ≡ true) × (b ≡ true)
two true true e = (refl, refl)
two true false e = absurd (cc)
two false b e = absurd (cc)

pub three : (a b c : Bool) → (a && (b && c)) ≡ true → (a ≡ true) × (b ≡ true) × (c ≡ true)
three a b c e = let x = two a (b && c) e in let y = two b c x.1 in (x.0, y.0, y.1)

pub four : (a b c d : Bool) → (a && (b && (c && d))) ≡ true → (a ≡ true) × (b ≡ true) × (c ≡ true) × (d ≡ true)
four a b c d e = let x = two a (b && (c && d)) e in let y = three b c d x.1 in (x.0, y.0, y.1, y.2)

pub five : (a b c d f : Bool) → (a && (b && (c && (d && f)))) ≡ true → (a ≡ true) × (b ≡ true) × (c ≡ true) × (d ≡ true) × (f ≡ true)
five a b c d f e = let x = two a (b && (c && (d && f))) e in let y = four b c d f x.1 in (x.0, y.0, y.1, y.2, y.3)

pub six : (a b c d f g : Bool) → (a && (b && (c && (d && (f && g))))) ≡ true → (a ≡ true) × (b ≡ true) × (c ≡ true) × (d ≡ true) × (f ≡ true) × (g ≡ true)
six a b c d f g e = let x = two a (b && (c && (d && (f && g)))) e in let y = five b c d f g x.1 in (x.0, y.0, y.1, y.2, y.3, y.4)

pub each-of : {X : Type 0} (test : X → Bool) (xs : List X) → list_all test xs ≡ true → AllByRecursion (λ x. test x ≡ true) xs
each-of test [] e = tt
each-of test (x ∷ xs) e = let both = two (test x) (list_all test xs) e in (both.0, each-of test xs both.1)

pub all-of : {X : Type 0} (test : X → Bool) (xs : List X) → AllByRecursion (λ x. test x ≡ true) xs → list_all test xs ≡ true
all-of test [] h = refl
all-of test (x ∷ xs) h = rw (h.0, all-of test xs h.1) refl

pub weaker : {X : Type 0} (P Q : X → Type 0) → ((x : X) → P x → Q x) → (xs : List X) → AllByRecursion P xs → AllByRecursion Q xs
weaker P Q h [] all = tt
weaker P Q h (x ∷ xs) all = (h x all.0, weaker P Q h xs all.1)

pub both : {X : Type 0} (P Q : X → Type 0) (xs : List X) → AllByRecursion P xs → AllByRecursion Q xs → AllByRecursion (λ x. P x × Q x) xs
both P Q [] h g = tt
both P Q (x ∷ xs) h g = ((h.0, g.0), both P Q xs h.1 g.1)

-- for each number
pub swapped : {X : Type 0} (P : ℕ → X → Type 0) (xs : List X) → ((n : ℕ) → AllByRecursion (P n) xs) → AllByRecursion (λ x. (n : ℕ) → P n x) xs
swapped P [] h = tt
swapped P (x ∷ xs) h = (λ n. (h n).0, swapped P xs (λ n. (h n).1))
