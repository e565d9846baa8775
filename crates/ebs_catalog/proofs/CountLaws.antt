-- Counts over an account's rows.
use Rattle.std.proofs.Common.{suc, ◌≡◌, ◌≤◌, ◌<◌, ◌^◌, ℕ, ◌+◌, Bool, true, false, cond, ◌&&◌, not, arith, List, [], ◌∷◌, map, length, refl, sym, ap, subst, ◌∙◌, zero-add}
use Rattle.std.specs.List.{filter, count_by, sum_by}
use Rattle.std.proofs.lemmas.List.Sums.{sum_by-cons, length-filter}
use Rattle.std.proofs.lemmas.List.{length-map}
use Rattle.std.proofs.lemmas.Bool.{false≢true}
use Rattle.std.specs.FinMap.{FinMap, get, entries}
use Rattle.std.proofs.Common.{Ordering, Less, Equal, Greater, ◌==◌}
use Rattle.std.proofs.lemmas.Cmp.{tied_itself}
use Rattle.std.proofs.lemmas.Bool.Decides.{nat_tests}
use Rattle.std.specs.Prelude.{nat_le}
use Rattle.std.specs.Cmp.{nat_cmp_total}
use Rattle.std.specs.Ordering.{is_le, nat_cmp, ordering_then}
use Rattle.ebs_model.specs.declared.keys.SnapKey.{SnapKey}
use Rattle.ebs_model.specs.declared.rows.SnapRow.{SnapRow}
use Rattle.ebs_model.specs.Keys.{snap_cmp}
use Rattle.ebs_model.specs.inner.Orders.{snaps_total}
use Rattle.ebs_model.specs.Time.{stays, status_at, is_pending, rested_row}
use Rattle.ebs_model.specs.Access.{owns}
use Rattle.ebs_tables.specs.Seen.{is_within}
use Rattle.ebs_tables.proofs.TreeMaps.{entries-seen, entries-sorted, sorted-rewritten, count_by-rewritten}
use Rattle.ebs_model.specs.Rows.{Rows, kept_count, open_count}
use Rattle.ebs_model.specs.inner.Rows.{aged, aged_snaps}
use Rattle.ebs_model.proofs.Values.{entries-map_values}
use Rattle.ebs_catalog.specs.declared.rows.KeptRow.{KeptRow}
use Rattle.ebs_catalog.specs.Held.{whole}
use Rattle.ebs_catalog.proofs.RowsKept.{Kept, rows_of}
use Rattle.ebs_catalog.specs.Counts.{is_kept, is_pending_row, is_open}

by_two : (b : Bool) (n m : ℕ) → n ≤ m → cond b 1 0 + n ≤ suc m
by_two true n m h = omega arith
by_two false n m h = omega arith

count_le : {A : Type 0} (p : A → Bool) (xs : List A) → count_by p xs ≤ length xs
count_le p [] = omega arith
count_le p (x ∷ xs) = subst (λ n. n ≤ length (x ∷ xs)) (sym (sum_by-cons (λ y. cond (p y) 1 0) x xs)) (by_two (p x) _ _ (count_le p xs))

pub few : {A : Type 0} (p : A → Bool) (xs ys : List A) → xs ≡ ys → length ys < 2 ^ 63 → count_by p xs < 2 ^ 63
few p xs ys is h = let le = count_le p xs in let same = ap length is in omega arith

pub one_more : {A : Type 0} (p : A → Bool) (x : A) (xs : List A) → p x ≡ true → count_by p (x ∷ xs) ≡ 1 + count_by p xs
one_more p x xs h = sum_by-cons (λ y. cond (p y) 1 0) x xs ∙ ap (λ b. cond b 1 0 + count_by p xs) h

pub one_on : (n x : ℕ) → n + 1 + x ≡ n + (1 + x)
one_on n x = omega arith

-- what is left out doesn't count
count_within_by : {A : Type 0} (p q : A → Bool) (x : A) (xs : List A) (b c : Bool) → p x ≡ c → (c ≡ true → b ≡ true) → count_by p (filter q xs) ≡ count_by p xs → count_by p (cond b (x ∷ filter q xs) (filter q xs)) ≡ cond c 1 0 + count_by p xs
count_within_by p q x xs true c e k rest = sum_by-cons (λ y. cond (p y) 1 0) x (filter q xs) ∙ (λ i. cond (e i) 1 0 + rest i)
count_within_by p q x xs false true e k rest = absurd (false≢true (k refl))
count_within_by p q x xs false false e k rest = rest ∙ sym (zero-add _)

pub count-within : {A : Type 0} (p q : A → Bool) → ((x : A) → p x ≡ true → q x ≡ true) → (xs : List A) → count_by p (filter q xs) ≡ count_by p xs
count-within p q h [] = refl
count-within p q h (x ∷ xs) = count_within_by p q x xs (q x) (p x) refl (h x) (count-within p q h xs) ∙ sym (sum_by-cons (λ y. cond (p y) 1 0) x xs)

pub count_by-map : {A B : Type 0} (p : B → Bool) (f : A → B) (xs : List A) → count_by p (map f xs) ≡ count_by (λ x. p (f x)) xs
count_by-map p f [] = refl
count_by-map p f (x ∷ xs) =
    sum_by-cons (λ y. cond (p y) 1 0) (f x) (map f xs)
    ∙ ap (λ n. cond (p (f x)) 1 0 + n) (count_by-map p f xs)
    ∙ sym (sum_by-cons (λ y. cond (p (f y)) 1 0) x xs)

pub count_by-filter : {A : Type 0} (p q : A → Bool) (xs : List A) → count_by p (filter q xs) ≡ count_by (λ x. q x && p x) xs
count_by-filter p q [] = refl
count_by-filter {A = A} p q (x ∷ xs) =
    let one : A → ℕ = λ y. cond (p y) 1 0 in
    let each : A → ℕ = λ y. cond (q y && p y) 1 0 in
    elim (q x) as (λ b. sum_by one (cond b (x ∷ filter q xs) (filter q xs)) ≡ cond (b && p x) 1 0 + sum_by each xs) [
      | true ↦ sum_by-cons one x (filter q xs) ∙ ap (λ n. cond (p x) 1 0 + n) (count_by-filter p q xs)
      | false ↦ count_by-filter p q xs ∙ sym (zero-add (sum_by each xs))
    ] ∙ sym (sum_by-cons each x xs)

-- over the rows that are kept
pub entries-aged : (now : ℕ) (s : FinMap snap_cmp SnapRow) → entries (aged_snaps now s) ≡ map (λ e. (e.0, rested_row now e.1)) (filter (λ e. stays now e.1) (entries s))
unfolding aged_snaps
entries-aged now s = entries-seen snaps_total _ (sorted-rewritten (stays now) (rested_row now) snap_cmp (entries s) (entries-sorted snap_cmp s))

count-rows : (now : ℕ) (p : SnapKey × SnapRow → Bool) (m : Kept) → count_by p (entries (aged_snaps now (rows_of m))) ≡ count_by (λ e. stays now e.1.row && p (e.0, rested_row now (whole e.1))) (entries m)
count-rows now p m =
    ap (count_by p) (entries-aged now (rows_of m)) ∙ count_by-rewritten (stays now) (rested_row now) p (entries (rows_of m))
    ∙ ap (count_by (λ e. stays now e.1 && p (e.0, rested_row now e.1))) (entries-map_values snaps_total whole m)
    ∙ count_by-map (λ (e : SnapKey × SnapRow). stays now e.1 && p (e.0, rested_row now e.1)) (λ (e : SnapKey × KeptRow). (e.0, whole e.1)) (entries m)

-- fewer pass a narrower test
pub fewer : {A : Type 0} (p q : A → Bool) → ((x : A) → p x ≡ true → q x ≡ true) → (xs : List A) → count_by p xs ≤ count_by q xs
fewer p q h xs =
    let some = count-within p q h xs in
    let le = count_le p (filter q xs) in
    let all = length-filter q xs in
    omega (arith, some, le, all)

pub kept-count : (now account : ℕ) (m : Kept) (rest : Rows) → kept_count (aged now (record rest { snaps = rows_of m })) account ≡ count_by (is_kept account now) (entries m)
kept-count now account m rest =
    let es = entries (aged_snaps now (rows_of m)) in
    length-map (filter (λ e. owns account e.0) es) (λ e. e.1)
    ∙ length-filter (λ e. owns account e.0) es
    ∙ count-rows now (λ e. owns account e.0) m

turned : (s o p : Bool) → (s && (o && p)) ≡ ((s && p) && o)
turned true true p = both p
  where
    both : (p : Bool) → p ≡ (p && true)
    both true = refl
    both false = refl
turned true false p = none p
  where
    none : (p : Bool) → false ≡ (p && false)
    none true = refl
    none false = refl
turned false o p = refl

pub open-count : (now account : ℕ) (m : Kept) (rest : Rows) → open_count (aged now (record rest { snaps = rows_of m })) account now ≡ count_by (λ e. (stays now e.1.row && is_pending (status_at e.1.row now)) && owns account e.0) (entries m)
open-count now account m rest =
    let es = entries (aged_snaps now (rows_of m)) in
    count_by-map (λ row. is_pending (status_at row now)) (λ (e : SnapKey × SnapRow). e.1) (filter (λ e. owns account e.0) es)
    ∙ count_by-filter (λ (e : SnapKey × SnapRow). is_pending (status_at e.1 now)) (λ e. owns account e.0) es
    ∙ count-rows now (λ e. owns account e.0 && is_pending (status_at e.1 now)) m
    ∙ (λ i. count_by (λ (e : SnapKey × KeptRow). turned (stays now e.1.row) (owns account e.0) (is_pending (status_at e.1.row now)) i) (entries m))

-- the account's keys lie within its bounds
same_number : (a b : ℕ) → (a == b) ≡ true → a ≡ b
same_number a b e = grind (arith, nat_tests)

same_test : (a b : ℕ) → is_le (nat_cmp a b) ≡ nat_le a b
same_test a b = grind (arith, nat_tests)

from_zero : (n : ℕ) → nat_le 0 n ≡ true
from_zero n = grind (arith, nat_tests)

not_below : (a : ℕ) → nat_le (a + 1) a ≡ false
not_below a = grind (arith, nat_tests)

le_self : (a n : ℕ) → is_le (ordering_then (nat_cmp a a) (nat_cmp 0 n)) ≡ true
le_self a n = ap (λ r. is_le (ordering_then r (nat_cmp 0 n))) (tied_itself nat_cmp_total a) ∙ same_test 0 n ∙ from_zero n

greater : (s r : Ordering) → is_le s ≡ false → not (is_le (ordering_then s r)) ≡ true
greater Less r e = absurd (false≢true (sym e))
greater Equal r e = absurd (false≢true (sym e))
greater Greater r e = refl

abbrev pub first_of : ℕ → SnapKey
first_of account = record { account = account; number = 0 }

starts : (account : ℕ) (key : SnapKey) → owns account key ≡ true → is_le (snap_cmp (first_of account) key) ≡ true
starts account key h = subst (λ a. is_le (ordering_then (nat_cmp account a) (nat_cmp 0 key.number)) ≡ true) (same_number account key.account h) (le_self account key.number)

pub ends : (account : ℕ) (key : SnapKey) → owns account key ≡ true → not (is_le (snap_cmp (first_of (account + 1)) key)) ≡ true
ends account key h = subst (λ a. not (is_le (ordering_then (nat_cmp (account + 1) a) (nat_cmp 0 key.number))) ≡ true) (same_number account key.account h) (greater (nat_cmp (account + 1) account) _ (same_test (account + 1) account ∙ not_below account))

both : (b c : Bool) → b ≡ true → c ≡ true → (b && c) ≡ true
both true c p q = q
both false c p q = absurd (false≢true p)

pub and_left : (b c : Bool) → (b && c) ≡ true → b ≡ true
and_left true c h = refl
and_left false c h = h

pub and_right : (b c : Bool) → (b && c) ≡ true → c ≡ true
and_right true c h = h
and_right false c h = absurd (false≢true h)

abbrev Ownly : {V : Type 0} → ℕ → (SnapKey × V → Bool) → Type 0
Ownly {V = V} account p = (e : SnapKey × V) → p e ≡ true → owns account e.0 ≡ true

pub kept-own : (account now : ℕ) → Ownly account (is_kept account now)
kept-own account now e h = and_right (stays now e.1.row) _ h

pub open-own : (account now : ℕ) (m : Kept) → Ownly {V = Unit {0}} account (λ e. is_open account now e.0 (get m e.0))
open-own account now m e h = and_right (is_pending_row now (get m e.0)) _ h

module _ {V : Type 0} (account : ℕ) (p : SnapKey × V → Bool) (own : Ownly account p) (m : FinMap snap_cmp V) where
  pub walked-until : count_by p (filter (λ e. is_within snap_cmp (first_of account) (first_of (account + 1)) e.0) (entries m)) ≡ count_by p (entries m)
  walked-until = count-within p (λ e. is_within snap_cmp (first_of account) (first_of (account + 1)) e.0) (λ e t. both _ _ (starts account e.0 (own e t)) (ends account e.0 (own e t))) (entries m)

  pub walked-from : count_by p (filter (λ e. is_le (snap_cmp (first_of account) e.0)) (entries m)) ≡ count_by p (entries m)
  walked-from = count-within p (λ e. is_le (snap_cmp (first_of account) e.0)) (λ e t. starts account e.0 (own e t)) (entries m)

-- no key is below the first
least_then : (a : ℕ) (r : Ordering) → is_le (nat_cmp 0 a) ≡ true → is_le r ≡ true → is_le (ordering_then (nat_cmp 0 a) r) ≡ true
least_then a r h k = by (nat_cmp 0 a) h
  where
    by : (s : Ordering) → is_le s ≡ true → is_le (ordering_then s r) ≡ true
    by Less e = refl
    by Equal e = k
    by Greater e = absurd (false≢true e)

pub le_first : (key : SnapKey) → is_le (snap_cmp (record { account = 0; number = 0 }) key) ≡ true
le_first key = least_then key.account (nat_cmp 0 key.number) (same_test 0 key.account ∙ from_zero key.account) (same_test 0 key.number ∙ from_zero key.number)
