-- How many entries of a map pass a test, through its edits.
use Rattle.std.proofs.Common.{◌≡◌, ℕ, ◌+◌, ◌≤◌, arith, Bool, true, false, cond, ◌&&◌, ◌||◌, List, [], ◌∷◌, length, map, Some, refl, sym, ap, subst, ◌∙◌, zero-add}
use Rattle.std.proofs.lemmas.List.Sums.{length-filter, sum_by-cons}
use Rattle.std.proofs.lemmas.List.{length-map}
use Rattle.std.proofs.lemmas.Map.Keys.{IsDistinct-from_sorted}
use Rattle.std.proofs.lemmas.Map.Made.{IsDistinct-keys_filter, length-le_from_is_member}
use Rattle.std.specs.declared.cmp.Ordering.{Ordering}
use Rattle.std.specs.declared.cmp.Ordering.TheVariants.{Less, Equal, Greater}
use Rattle.std.specs.List.{AllByRecursion, filter, count_by, sum_by, list_any}
use Rattle.std.specs.Map.{keys_of, lookup}
use Rattle.std.specs.BTreeMap.{is_at}
use Rattle.std.specs.Ordering.{eq_by_cmp}
use Rattle.std.specs.Cmp.{IsTotalOrder, eq_by_cmp_equiv}
use Rattle.std.specs.FinMap.Entries.{put, by_order}
use Rattle.std.specs.FinMap.{FinMap, IsAntisymmetric, get, insert, from_entries, entries, entries-insert}
use Rattle.ebs_tables.proofs.MapEdits.{is_same}
use Rattle.ebs_tables.proofs.TreeMaps.{get-lookup, get-seen, entries-sorted}
use Rattle.ebs_lawful.proofs.Maps.{some_is, none_some, each-entry}

module _ {K X : Type 0} (R : K → K → Ordering) (test : K × X → Bool) where
  one : (e : K × X) (es : List (K × X)) → count_by test (e ∷ es) ≡ cond (test e) 1 0 + count_by test es
  one e es = sum_by-cons (λ (x : K × X). cond (test x) 1 0) e es

  at_most_one : (b : Bool) → cond b 1 0 ≤ 1
  at_most_one true = omega arith
  at_most_one false = omega arith

  -- what is written counts as one at most
  more-put : (k : K) (v : X) (es : List (K × X)) → count_by test (put R k v es) ≤ 1 + count_by test es
  more-put k v [] = let is = one (k, v) [] in let few = at_most_one (test (k, v)) in omega (arith, is, few)
  more-put k v (e ∷ es) = by (R k e.0) (more-put k v es)
    where
      by : (r : Ordering) → count_by test (put R k v es) ≤ 1 + count_by test es → count_by test (by_order r ((k, v) ∷ e ∷ es) ((e.0, v) ∷ es) (e ∷ put R k v es)) ≤ 1 + count_by test (e ∷ es)
      by Less h = let is = one (k, v) (e ∷ es) in let few = at_most_one (test (k, v)) in omega (arith, is, few)
      by Equal h = let is = one (e.0, v) es in let was = one e es in let few = at_most_one (test (e.0, v)) in omega (arith, is, was, few)
      by Greater h = let is = one e (put R k v es) in let was = one e es in omega (arith, is, was, h)

pub one_more : {K X : Type 0} {R : K → K → Ordering} (o : IsTotalOrder R) (test : K × X → Bool) (m : FinMap R X) (k : K) (v : X) → count_by test (entries (insert m k v)) ≤ 1 + count_by test (entries m)
one_more {R = R} o test m k v = subst (λ (es : List _). count_by test es ≤ 1 + count_by test (entries m)) (sym (entries-insert o m k v)) (more-put R test k v (entries m))

module _ {K X : Type 0} {R : K → K → Ordering} (o : IsTotalOrder R) (exact : IsAntisymmetric R) (test : K × X → Bool) where
  abbrev Passes : FinMap R X → K → Type 0
  Passes m q = (x : X) × (get m q ≡ Some x) × (test (q, x) ≡ true)

  -- a key of those that pass
  told : (m : FinMap R X) (q : K) (es : List (K × X)) → AllByRecursion (λ (e : K × X). get m e.0 ≡ Some e.1) es → list_any (eq_by_cmp R q) (keys_of (filter test es)) ≡ true → Passes m q
  told m q [] all e = absurd (cc)
  told m q (x ∷ es) all e = by (test x) refl (told m q es all.1) e
    where
      or : (b : Bool) → eq_by_cmp R q x.0 ≡ b → test x ≡ true → (list_any (eq_by_cmp R q) (keys_of (filter test es)) ≡ true → Passes m q) → (b || list_any (eq_by_cmp R q) (keys_of (filter test es))) ≡ true → Passes m q
      or true same t again h = let is : q ≡ x.0 = is_same exact q x.0 same in (x.1, ap (get m) is ∙ all.0, ap (λ (k : K). test (k, x.1)) is ∙ t)
      or false same t again h = again h

      by : (b : Bool) → test x ≡ b → (list_any (eq_by_cmp R q) (keys_of (filter test es)) ≡ true → Passes m q) → list_any (eq_by_cmp R q) (keys_of (cond b (x ∷ filter test es) (filter test es))) ≡ true → Passes m q
      by true t again h = or (eq_by_cmp R q x.0) refl t again h
      by false t again h = again h

  shown : (q : K) (x : X) (es : List (K × X)) → lookup (is_at (R q)) es ≡ Some x → test (q, x) ≡ true → list_any (eq_by_cmp R q) (keys_of (filter test es)) ≡ true
  shown q x [] e t = none_some e
  shown q x (y ∷ es) e t = here (eq_by_cmp R q y.0) refl (shown q x es) e
    where
      in_rest : (b c : Bool) → list_any (eq_by_cmp R q) (keys_of (filter test es)) ≡ true → eq_by_cmp R q y.0 ≡ c → list_any (eq_by_cmp R q) (keys_of (cond b (y ∷ filter test es) (filter test es))) ≡ true
      in_rest true true rest same = rw same refl
      in_rest true false rest same = rw (same, rest) refl
      in_rest false c rest same = rest

      first : (b : Bool) → test y ≡ b → b ≡ true → eq_by_cmp R q y.0 ≡ true → list_any (eq_by_cmp R q) (keys_of (cond b (y ∷ filter test es) (filter test es))) ≡ true
      first true is fits same = rw same refl
      first false is fits same = absurd (cc)

      here : (b : Bool) → eq_by_cmp R q y.0 ≡ b → (lookup (is_at (R q)) es ≡ Some x → test (q, x) ≡ true → list_any (eq_by_cmp R q) (keys_of (filter test es)) ≡ true) → cond b (Some y.1) (lookup (is_at (R q)) es) ≡ Some x
          → list_any (eq_by_cmp R q) (keys_of (filter test (y ∷ es))) ≡ true
      here true same again h =
          let value : y.1 ≡ x = some_is y.1 x h in
          let key : q ≡ y.0 = is_same exact q y.0 same in
          first (test y) refl (ap (λ (k : K). test (k, y.1)) (sym key) ∙ ap (λ (v : X). test (q, v)) value ∙ t) same
      here false same again h = in_rest (test y) (eq_by_cmp R q y.0) (again h t) refl

  tally : (es : List (K × X)) → count_by test es ≡ length (keys_of (filter test es))
  tally es = sym (length-filter test es) ∙ sym (length-map (filter test es) (λ (e : K × X). e.0))

  -- where each that passes was one that passed, there are no more of them
  pub no_more : (new old : FinMap R X) → ((q : K) (x : X) → get new q ≡ Some x → test (q, x) ≡ true → (y : X) × (get old q ≡ Some y) × (test (q, y) ≡ true)) → count_by test (entries new) ≤ count_by test (entries old)
  no_more new old h =
      let sorted = IsDistinct-from_sorted R (keys_of (entries new)) (entries-sorted R new) in
      let less : length (keys_of (filter test (entries new))) ≤ length (keys_of (filter test (entries old))) =
      length-le_from_is_member (eq_by_cmp_equiv o) (keys_of (filter test (entries new))) (keys_of (filter test (entries old))) (IsDistinct-keys_filter (eq_by_cmp R) test (entries new) sorted) (λ q there.
      let was = told new q (entries new) (each-entry o new (λ e. get new e.0 ≡ Some e.1) (λ e g. g)) there in
      let is = h q was.0 was.1 was.2 in
      shown q is.0 (entries old) (sym (get-lookup R old q) ∙ is.1) is.2) in
      let a = tally (entries new) in
      let b = tally (entries old) in
      omega (arith, less, a, b)

  -- a map that is made of entries has no more of them
  pub seen-fewer : (es : List (K × X)) → count_by test (entries (from_entries {R = R} es)) ≤ count_by test es
  seen-fewer es =
      let new : FinMap R X = from_entries es in
      let sorted = IsDistinct-from_sorted R (keys_of (entries new)) (entries-sorted R new) in
      let less : length (keys_of (filter test (entries new))) ≤ length (keys_of (filter test es)) =
      length-le_from_is_member (eq_by_cmp_equiv o) (keys_of (filter test (entries new))) (keys_of (filter test es)) (IsDistinct-keys_filter (eq_by_cmp R) test (entries new) sorted) (λ q there.
      let was = told new q (entries new) (each-entry o new (λ e. get new e.0 ≡ Some e.1) (λ e g. g)) there in
      shown q was.0 es (sym (get-seen o es q) ∙ was.1) was.2) in
      let a = tally (entries new) in
      let b = tally es in
      omega (arith, less, a, b)

-- ---- counts over a list

pub count_by-map : {A B : Type 0} (p : B → Bool) (f : A → B) (xs : List A) → count_by p (map f xs) ≡ count_by (λ x. p (f x)) xs
count_by-map p f [] = refl
count_by-map p f (x ∷ xs) =
    sum_by-cons (λ y. cond (p y) 1 0) (f x) (map f xs)
    ∙ ap (λ n. cond (p (f x)) 1 0 + n) (count_by-map p f xs)
    ∙ sym (sum_by-cons (λ y. cond (p (f y)) 1 0) x xs)

pub count_by-filter : {A : Type 0} (p q : A → Bool) (xs : List A) → count_by p (filter q xs) ≡ count_by (λ x. q x && p x) xs
count_by-filter p q [] = refl
count_by-filter {A = A} p q (x ∷ xs) =
    let one : A → ℕ = λ y. cond (p y) 1 0 in
    let each : A → ℕ = λ y. cond (q y && p y) 1 0 in
    elim (q x) as (λ b. sum_by one (cond b (x ∷ filter q xs) (filter q xs)) ≡ cond (b && p x) 1 0 + sum_by each xs) [
      | true ↦ sum_by-cons one x (filter q xs) ∙ ap (λ n. cond (p x) 1 0 + n) (count_by-filter p q xs)
      | false ↦ count_by-filter p q xs ∙ sym (zero-add (sum_by each xs))
    ] ∙ sym (sum_by-cons each x xs)

-- a test that asks for more counts no more
pub weaker : {A : Type 0} (p q : A → Bool) → ((x : A) → p x ≡ true → q x ≡ true) → (xs : List A) → count_by p xs ≤ count_by q xs
weaker p q h [] = omega arith
weaker p q h (x ∷ xs) =
    let rest = weaker p q h xs in
    let a = sum_by-cons (λ y. cond (p y) 1 0) x xs in
    let b = sum_by-cons (λ y. cond (q y) 1 0) x xs in
    let first : cond (p x) 1 0 ≤ cond (q x) 1 0 = by (p x) (q x) (h x) in
    omega (arith, rest, a, b, first)
  where
    by : (s t : Bool) → (s ≡ true → t ≡ true) → cond s 1 0 ≤ cond t 1 0
    by true true k = omega arith
    by true false k = absurd (never (k refl))
      where
        never : false ≡ true → ⊥
        never e = cc
    by false true k = omega arith
    by false false k = omega arith
