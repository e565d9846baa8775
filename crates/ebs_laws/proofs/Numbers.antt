-- Ascending numbers, and pages of them.
use Rattle.std.proofs.Common.{ap, ◌≡◌, ℕ, zero, suc, ◌<◌, ◌≤◌, Bool, true, false, ◌||◌, ◌==◌, List, [], ◌∷◌, map, take, length, Some, sym, refl, arith}
use Rattle.std.proofs.lemmas.Bool.Decides.{nat_tests}
use Rattle.std.proofs.lemmas.List.{length-take}
use Rattle.std.specs.declared.cmp.Ordering.TheVariants.{Less}
use Rattle.std.specs.Ordering.{nat_cmp}
use Rattle.std.specs.Cmp.{nat_cmp_is}
use Rattle.std.specs.Option.{option_map}
use Rattle.std.specs.List.{AllByRecursion, slice_get}
use Rattle.std.specs.List.Sorted.{IsStrictlySortedBy}
use Rattle.ebs_laws.specs.SharingLaws.{is_among}
use Rattle.ebs_laws.specs.OwnLaws.{IsBefore}

abbrev pub Rises : List ℕ → Type 0
Rises [] = Unit {0}
Rises (x ∷ xs) = AllByRecursion (λ y. x < y) xs × Rises xs

pub all-weaker : {A : Type 0} (P Q : A → Type 0) → ((x : A) → P x → Q x) → (xs : List A) → AllByRecursion P xs → AllByRecursion Q xs
all-weaker P Q h [] all = tt
all-weaker P Q h (x ∷ xs) all = (h x all.0, all-weaker P Q h xs all.1)

all-first : {A : Type 0} (P : A → Type 0) (n : ℕ) (xs : List A) → AllByRecursion P xs → AllByRecursion P (take n xs)
all-first P zero xs all = tt
all-first P (suc n) [] all = tt
all-first P (suc n) (x ∷ xs) all = (all.0, all-first P n xs all.1)

pub sorted : (xs : List ℕ) → Rises xs → IsStrictlySortedBy nat_cmp xs
unfolding IsStrictlySortedBy
sorted [] up = tt
sorted (x ∷ xs) up = (all-weaker (λ y. x < y) (λ y. nat_cmp x y ≡ Less) (λ y h. sym (nat_cmp_is x y Less h)) xs up.0, sorted xs up.1)

pub rises-first : (n : ℕ) (xs : List ℕ) → Rises xs → Rises (take n xs)
rises-first zero xs up = tt
rises-first (suc n) [] up = tt
rises-first (suc n) (x ∷ xs) up = (all-first (λ y. x < y) n xs up.0, rises-first n xs up.1)

equal_is : (a b : ℕ) → (a == b) ≡ true → a ≡ b
equal_is a b e = grind (arith, nat_tests)

false_true : false ≡ true → ⊥
false_true e = cc

-- one of these is above what all of them are above
above : (x : ℕ) (xs : List ℕ) (low : ℕ) → AllByRecursion (λ y. low < y) xs → is_among x xs ≡ true → low < x
above x [] low all e = absurd (false_true e)
above x (y ∷ ys) low all e = by (y == x) refl (above x ys low all.1) e
  where
    by : (b : Bool) → (y == x) ≡ b → (is_among x ys ≡ true → low < x) → (b || is_among x ys) ≡ true → low < x
    by true same again h = let one = equal_is y x same in let less = all.0 in omega (arith, one, less)
    by false other again h = again h

-- what is below the next one is on the page
pub on-page : (n : ℕ) (xs : List ℕ) (x : ℕ) → Rises xs → is_among x xs ≡ true → IsBefore (slice_get xs n) x → is_among x (take n xs) ≡ true
on-page n [] x up e before = absurd (false_true e)
on-page zero (y ∷ ys) x up e before = by (y == x) refl e
  where
    by : (b : Bool) → (y == x) ≡ b → (b || is_among x ys) ≡ true → false ≡ true
    by true same h = let one = equal_is y x same in absurd (omega (arith, one, before))
    by false other h = let more = above x ys y up.0 h in absurd (omega (arith, more, before))
on-page (suc n) (y ∷ ys) x up e before = by (y == x) (λ h. on-page n ys x up.1 h before) e
  where
    by : (b : Bool) → (is_among x ys ≡ true → is_among x (take n ys) ≡ true) → (b || is_among x ys) ≡ true → (b || is_among x (take n ys)) ≡ true
    by true again h = refl
    by false again h = again h

-- the next one is above those on the page
pub next-above : (n : ℕ) (xs : List ℕ) (next : ℕ) → Rises xs → slice_get xs n ≡ Some next → AllByRecursion (λ x. x < next) (take n xs)
next-above zero xs next up e = tt
next-above (suc n) [] next up e = tt
next-above (suc n) (x ∷ xs) next up e = (got xs n up.0 e, next-above n xs next up.1 e)
  where
    got : (ys : List ℕ) (k : ℕ) → AllByRecursion (λ y. x < y) ys → slice_get ys k ≡ Some next → x < next
    got [] k all e = absurd (cc)
    got (y ∷ ys) zero all e = let same : y ≡ next = cc in let less = all.0 in omega (arith, same, less)
    got (y ∷ ys) (suc k) all e = got ys k all.1 e

pub at-most : {A : Type 0} (n : ℕ) (xs : List A) → length (take n xs) ≤ n
at-most n xs = let is = length-take n xs in omega (arith, is)

pub full-page : {A : Type 0} (n : ℕ) (xs : List A) (x : A) → slice_get xs n ≡ Some x → length (take n xs) ≡ n
full-page zero xs x e = refl
full-page (suc n) [] x e = absurd (cc)
full-page (suc n) (y ∷ ys) x e = ap suc (full-page n ys x e)

pub get-map : {A B : Type 0} (f : A → B) (xs : List A) (n : ℕ) → slice_get (map f xs) n ≡ option_map f (slice_get xs n)
get-map f [] n = refl
get-map f (x ∷ xs) zero = refl
get-map f (x ∷ xs) (suc n) = get-map f xs n

pub map-both : {A B C : Type 0} (f : A → B) (g : B → C) (xs : List A) → map g (map f xs) ≡ map (λ x. g (f x)) xs
map-both f g [] = refl
map-both f g (x ∷ xs) = λ i. g (f x) ∷ map-both f g xs i
