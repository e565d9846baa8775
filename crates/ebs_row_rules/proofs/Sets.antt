-- Lists of numbers, taken as sets.
use Rattle.std.proofs.Common.{◌≡◌, ℕ, ◌+◌, ◌<◌, Bool, true, false, not, ◌&&◌, ◌||◌, List, [], ◌∷◌, ◌++◌, length, get_or, take, drop, cond, Option, None, Some, refl, sym, ◌∙◌, ap, arith}
use Rattle.std.specs.Prelude.{◌==◌}
use Rattle.std.specs.Option.{is_some}
use Rattle.std.specs.Ordering.{nat_cmp, eq_by_cmp}
use Rattle.std.specs.Cmp.{nat_cmp_total}
use Rattle.std.specs.FinMap.{FinMap, get, contains_key, insert, empty, get-insert, get-empty}
use Rattle.std.proofs.lemmas.List.Folds.{list_any-append}
use Rattle.std.proofs.lemmas.List.{take_more, take-append-drop}
use Rattle.ebs_row_rules.specs.Numbers.{has, are_distinct}

same_test : (q k : ℕ) → eq_by_cmp nat_cmp q k ≡ (k == q)
same_test q k = grind arith

-- one number more
pub pushed : (s : FinMap nat_cmp (Unit {0})) (xs : List ℕ) (k : ℕ) → ((n : ℕ) → contains_key s n ≡ has xs n) → (n : ℕ) → contains_key (insert s k tt) n ≡ has (xs ++ k ∷ []) n
pushed s xs k h n = ap is_some (get-insert nat_cmp_total s k tt n) ∙ chosen (eq_by_cmp nat_cmp n k) (get s n) ∙ rest
  where
    chosen : (b : Bool) (o : Option (Unit {0})) → is_some (cond b (Some tt) o) ≡ (is_some o || (b || false))
    chosen true None = refl
    chosen true (Some x) = refl
    chosen false None = refl
    chosen false (Some x) = refl

    rest : (is_some (get s n) || (eq_by_cmp nat_cmp n k || false)) ≡ has (xs ++ k ∷ []) n
    rest = rw (same_test n k, h n) (sym (list_any-append (λ m. m == n) xs (k ∷ [])))

pub distinct-append : (xs : List ℕ) (k : ℕ) → are_distinct (xs ++ k ∷ []) ≡ (are_distinct xs && not (has xs k))
distinct-append [] k = refl
distinct-append (x ∷ xs) k =
    ap (λ b. b && are_distinct (xs ++ k ∷ [])) (ap not (list_any-append (λ m. m == x) xs (k ∷ []))) ∙ ap (λ b. not (has xs x || ((k == x) || false)) && b) (distinct-append xs k) ∙ moved (has xs x) (k == x) (are_distinct xs) (has xs k) ∙ ap (λ b. (not (has xs x) && are_distinct xs) && not (b || has xs k)) (turned k x)
  where
    moved : (a b c d : Bool) → (not (a || (b || false)) && (c && not d)) ≡ ((not a && c) && not (b || d))
    moved true b c d = refl
    moved false true true d = refl
    moved false true false d = refl
    moved false false true d = refl
    moved false false false d = refl

    turned : (a b : ℕ) → (a == b) ≡ (b == a)
    turned a b = grind arith

pub distinct-part : (xs ys : List ℕ) → are_distinct xs ≡ false → are_distinct (xs ++ ys) ≡ false
distinct-part [] ys h = absurd cc
distinct-part (x ∷ xs) ys h = ap (λ b. not b && are_distinct (xs ++ ys)) (list_any-append (λ m. m == x) xs ys) ∙ cases (has xs x) (has ys x) (are_distinct xs) (are_distinct (xs ++ ys)) (distinct-part xs ys) h
  where
    cases : (a b c d : Bool) → (c ≡ false → d ≡ false) → (not a && c) ≡ false → (not (a || b) && d) ≡ false
    cases true b c d next h = refl
    cases false true c d next h = refl
    cases false false c d next h = next h

pub empty_has : (s : FinMap nat_cmp (Unit {0})) → s ≡ empty → (n : ℕ) → contains_key s n ≡ false
empty_has s e n = rw e (ap is_some (get-empty nat_cmp n))

-- the next number of a list
pub push : (s t : FinMap nat_cmp (Unit {0})) (xs : List ℕ) (i : ℕ) → i < length xs → ((n : ℕ) → contains_key s n ≡ has (take i xs) n) → t ≡ insert s (get_or xs i 0) tt → (n : ℕ) → contains_key t n ≡ has (take (i + 1) xs) n
push s t xs i less h e n = rw (e, take_more xs i 0 less) (pushed s (take i xs) (get_or xs i 0) h n)

pub distinct_more : (xs : List ℕ) (i : ℕ) → i < length xs → are_distinct (take i xs) ≡ true → has (take i xs) (get_or xs i 0) ≡ false → are_distinct (take (i + 1) xs) ≡ true
distinct_more xs i less d h = ap are_distinct (take_more xs i 0 less) ∙ distinct-append (take i xs) (get_or xs i 0) ∙ rw (d, h) refl

pub repeated : (xs : List ℕ) (i : ℕ) → i < length xs → are_distinct (take i xs) ≡ true → has (take i xs) (get_or xs i 0) ≡ true → are_distinct xs ≡ false
repeated xs i less d h =
    let part : are_distinct (take (i + 1) xs) ≡ false = ap are_distinct (take_more xs i 0 less) ∙ distinct-append (take i xs) (get_or xs i 0) ∙ rw (d, h) refl in
    ap are_distinct (sym (take-append-drop (i + 1) xs)) ∙ distinct-part (take (i + 1) xs) (drop (i + 1) xs) part
