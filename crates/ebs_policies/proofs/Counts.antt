-- Counts over an account's policies.
use Rattle.std.proofs.Common.{suc, ◌≡◌, ◌≤◌, ◌<◌, ◌^◌, ℕ, ◌+◌, Bool, true, false, cond, ◌&&◌, not, arith, List, ◌∷◌, [], length, refl, sym, ap, subst, ◌∙◌, zero-add, Ordering, Less, Equal, Greater, ◌==◌}
use Rattle.std.specs.List.{filter, count_by}
use Rattle.std.specs.Prelude.{nat_le}
use Rattle.std.specs.Cmp.{nat_cmp_total}
use Rattle.std.specs.Ordering.{is_le, nat_cmp, ordering_then}
use Rattle.std.specs.FinMap.{FinMap, entries}
use Rattle.std.proofs.lemmas.List.Sums.{sum_by-cons}
use Rattle.std.proofs.lemmas.Bool.{false≢true}
use Rattle.std.proofs.lemmas.Bool.Decides.{nat_tests}
use Rattle.std.proofs.lemmas.Cmp.{tied_itself}
use Rattle.ebs_tables.specs.Seen.{is_within}
use Rattle.ebs_model.specs.declared.keys.PolicyKey.{PolicyKey}
use Rattle.ebs_model.specs.declared.policy.Policy.{Policy}
use Rattle.ebs_model.specs.Keys.{policy_cmp}

abbrev pub owned : ℕ → PolicyKey × Policy → Bool
owned account e = account == e.0.account

by_two : (b : Bool) (n m : ℕ) → n ≤ m → cond b 1 0 + n ≤ suc m
by_two true n m h = omega arith
by_two false n m h = omega arith

count_le : {A : Type 0} (p : A → Bool) (xs : List A) → count_by p xs ≤ length xs
count_le p [] = omega arith
count_le p (x ∷ xs) = subst (λ n. n ≤ length (x ∷ xs)) (sym (sum_by-cons (λ y. cond (p y) 1 0) x xs)) (by_two (p x) _ _ (count_le p xs))

pub few : {A : Type 0} (p : A → Bool) (xs ys : List A) → xs ≡ ys → length ys < 2 ^ 63 → count_by p xs < 2 ^ 63
few p xs ys is h = let le = count_le p xs in let same = ap length is in omega arith

pub one_more : {A : Type 0} (p : A → Bool) (x : A) (xs : List A) → p x ≡ true → count_by p (x ∷ xs) ≡ 1 + count_by p xs
one_more p x xs h = sum_by-cons (λ y. cond (p y) 1 0) x xs ∙ ap (λ b. cond b 1 0 + count_by p xs) h

pub none_more : {A : Type 0} (p : A → Bool) (x : A) (xs : List A) → p x ≡ false → count_by p (x ∷ xs) ≡ count_by p xs
none_more p x xs h = sum_by-cons (λ y. cond (p y) 1 0) x xs ∙ ap (λ b. cond b 1 0 + count_by p xs) h ∙ zero-add _

pub one_on : (n x : ℕ) → n + 1 + x ≡ n + (1 + x)
one_on n x = omega arith

-- what is left out doesn't count
within_by : {A : Type 0} (p q : A → Bool) (x : A) (xs : List A) (b c : Bool) → p x ≡ c → (c ≡ true → b ≡ true) → count_by p (filter q xs) ≡ count_by p xs → count_by p (cond b (x ∷ filter q xs) (filter q xs)) ≡ cond c 1 0 + count_by p xs
within_by p q x xs true c e k rest = sum_by-cons (λ y. cond (p y) 1 0) x (filter q xs) ∙ (λ i. cond (e i) 1 0 + rest i)
within_by p q x xs false true e k rest = absurd (false≢true (k refl))
within_by p q x xs false false e k rest = rest ∙ sym (zero-add _)

count-within : {A : Type 0} (p q : A → Bool) → ((x : A) → p x ≡ true → q x ≡ true) → (xs : List A) → count_by p (filter q xs) ≡ count_by p xs
count-within p q h [] = refl
count-within p q h (x ∷ xs) = within_by p q x xs (q x) (p x) refl (h x) (count-within p q h xs) ∙ sym (sum_by-cons (λ y. cond (p y) 1 0) x xs)

-- the account's keys lie within its bounds
same_number : (a b : ℕ) → (a == b) ≡ true → a ≡ b
same_number a b e = grind (arith, nat_tests)

same_test : (a b : ℕ) → is_le (nat_cmp a b) ≡ nat_le a b
same_test a b = grind (arith, nat_tests)

from_zero : (n : ℕ) → nat_le 0 n ≡ true
from_zero n = grind (arith, nat_tests)

not_below : (a : ℕ) → nat_le (a + 1) a ≡ false
not_below a = grind (arith, nat_tests)

le_self : (a n : ℕ) → is_le (ordering_then (nat_cmp a a) (nat_cmp 0 n)) ≡ true
le_self a n = ap (λ r. is_le (ordering_then r (nat_cmp 0 n))) (tied_itself nat_cmp_total a) ∙ same_test 0 n ∙ from_zero n

greater : (s r : Ordering) → is_le s ≡ false → not (is_le (ordering_then s r)) ≡ true
greater Less r e = absurd (false≢true (sym e))
greater Equal r e = absurd (false≢true (sym e))
greater Greater r e = refl

abbrev pub first_of : ℕ → PolicyKey
first_of account = record { account = account; number = 0 }

-- each key is at least the first
pub all-from : (m : FinMap policy_cmp Policy) → filter (λ e. is_le (policy_cmp (first_of 0) e.0)) (entries m) ≡ entries m
all-from m = by (entries m)
  where
    above : (s r : Ordering) → is_le s ≡ true → is_le r ≡ true → is_le (ordering_then s r) ≡ true
    above Less r e f = refl
    above Equal r e f = f
    above Greater r e f = absurd (false≢true e)

    first : (key : PolicyKey) → is_le (policy_cmp (first_of 0) key) ≡ true
    first key = above (nat_cmp 0 key.account) (nat_cmp 0 key.number) (same_test 0 key.account ∙ from_zero key.account) (same_test 0 key.number ∙ from_zero key.number)

    by : (es : List (PolicyKey × Policy)) → filter (λ e. is_le (policy_cmp (first_of 0) e.0)) es ≡ es
    by [] = refl
    by (e ∷ es) = ap (λ b. cond b (e ∷ filter (λ e. is_le (policy_cmp (first_of 0) e.0)) es) (filter (λ e. is_le (policy_cmp (first_of 0) e.0)) es)) (first e.0) ∙ ap (λ t. e ∷ t) (by es)

starts : (account : ℕ) (key : PolicyKey) → (account == key.account) ≡ true → is_le (policy_cmp (first_of account) key) ≡ true
starts account key h = subst (λ a. is_le (ordering_then (nat_cmp account a) (nat_cmp 0 key.number)) ≡ true) (same_number account key.account h) (le_self account key.number)

ends : (account : ℕ) (key : PolicyKey) → (account == key.account) ≡ true → not (is_le (policy_cmp (first_of (account + 1)) key)) ≡ true
ends account key h = subst (λ a. not (is_le (ordering_then (nat_cmp (account + 1) a) (nat_cmp 0 key.number))) ≡ true) (same_number account key.account h) (greater (nat_cmp (account + 1) account) _ (same_test (account + 1) account ∙ not_below account))

both : (b c : Bool) → b ≡ true → c ≡ true → (b && c) ≡ true
both true c p q = q
both false c p q = absurd (false≢true p)

module _ (account : ℕ) (m : FinMap policy_cmp Policy) where
  pub walked-until : count_by (owned account) (filter (λ e. is_within policy_cmp (first_of account) (first_of (account + 1)) e.0) (entries m)) ≡ count_by (owned account) (entries m)
  walked-until = count-within (owned account) (λ e. is_within policy_cmp (first_of account) (first_of (account + 1)) e.0) (λ e t. both _ _ (starts account e.0 t) (ends account e.0 t)) (entries m)

  pub walked-from : count_by (owned account) (filter (λ e. is_le (policy_cmp (first_of account) e.0)) (entries m)) ≡ count_by (owned account) (entries m)
  walked-from = count-within (owned account) (λ e. is_le (policy_cmp (first_of account) e.0)) (λ e t. starts account e.0 t) (entries m)
