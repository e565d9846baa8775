-- One row more of a list that a table is written as.
use Rattle.std.proofs.Common.{◌≡◌, List, [], ◌∷◌, ◌++◌, map, refl, sym, ap, subst, ◌∙◌, append-nil}
use Rattle.std.specs.List.{AllByRecursion}
use Rattle.ebs_pointed.specs.Placed.{HaveKeys}

pub all_more : {X : Type 0} (P : X → Type 0) (old new : List X) (x : X) → new ≡ old ++ x ∷ [] → AllByRecursion P old → P x → AllByRecursion P new
all_more {X} P old new x is all one = subst (AllByRecursion P) (sym is) (behind old all)
  where
    behind : (xs : List X) → AllByRecursion P xs → AllByRecursion P (xs ++ x ∷ [])
    behind [] h = (one, tt)
    behind (y ∷ ys) h = (h.0, behind ys h.1)

pub all_none : {X : Type 0} (P : X → Type 0) (xs : List X) → xs ≡ [] → AllByRecursion P xs
all_none P xs is = subst (AllByRecursion P) (sym is) tt

module _ {X Y : Type 0} (f : X → Y) where
  next_listed : (xs : List X) (x : X) (rest : List Y) → map f (xs ++ x ∷ []) ++ rest ≡ map f xs ++ (f x ∷ rest)
  next_listed [] x rest = refl
  next_listed (y ∷ xs) x rest = ap (λ l. f y ∷ l) (next_listed xs x rest)

  -- what is listed, and what is left of all
  pub one_listed : (old new : List X) (x : X) {e : Y} (left rest all : List Y) → new ≡ old ++ x ∷ [] → left ≡ e ∷ rest → f x ≡ e → map f old ++ left ≡ all → map f new ++ rest ≡ all
  one_listed old new x left rest all more steps is before =
      ap (λ xs. map f xs ++ rest) more ∙ next_listed old x rest ∙ ap (λ y. map f old ++ (y ∷ rest)) is ∙ ap (λ l. map f old ++ l) (sym steps) ∙ before

  pub none_listed : (xs : List X) (left all : List Y) → xs ≡ [] → left ≡ all → map f xs ++ left ≡ all
  none_listed xs left all none is = ap (λ l. map f l ++ left) none ∙ is

  pub all_listed : (xs : List X) (left all : List Y) → left ≡ [] → map f xs ++ left ≡ all → all ≡ map f xs
  all_listed xs left all none before = sym before ∙ ap (λ l. map f xs ++ l) none ∙ append-nil (map f xs)

-- a table's rows with those that are written, and what is left
pub record IsListing {K V X : Type 0} (f : X → K × V) (own : V → K) (written : List X) (left all : List (K × V)) : Type 0 where
  pub listed : map f written ++ left ≡ all
  pub keys : HaveKeys own left

module _ {K V X : Type 0} (f : X → K × V) (own : V → K) where
  pub none_written : (written : List X) (left all : List (K × V)) → written ≡ [] → left ≡ all → HaveKeys own all → IsListing f own written left all
  none_written written left all none is keys = record { listed = none_listed f written left all none is; keys = subst (HaveKeys own) (sym is) keys }

  pub one_written : (old new : List X) (x : X) {k : K} (v : V) (left rest all : List (K × V)) → new ≡ old ++ x ∷ [] → left ≡ (k, v) ∷ rest → f x ≡ (own v, v) → IsListing f own old left all → IsListing f own new rest all
  one_written old new x {k} v left rest all more steps is before =
      let keys = subst (HaveKeys own) steps before.keys in
      record { listed = one_listed f old new x {e = (k, v)} left rest all more steps (is ∙ (λ i. (keys.0 i, v))) before.listed; keys = keys.1 }

  pub all_written : (written : List X) (left all : List (K × V)) → left ≡ [] → IsListing f own written left all → all ≡ map f written
  all_written written left all none h = all_listed f written left all none h.listed
