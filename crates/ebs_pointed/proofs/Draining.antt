-- Rows are taken out of a map in the order of their keys.
use Rattle.std.proofs.Common.{◌≡◌, ℕ, suc, ◌<◌, Bool, true, false, cond, List, [], ◌∷◌, ◌++◌, map, length, Some, None, IsSome, Less, refl, sym, ap, subst, ◌∙◌, arith, append_assoc, append-nil}
use Rattle.std.proofs.lemmas.Cmp.{tied_itself}
use Rattle.std.specs.List.{AllByRecursion}
use Rattle.std.specs.List.Sorted.{IsStrictlySortedBy}
use Rattle.std.specs.Map.{keys_of, lookup}
use Rattle.std.specs.BTreeMap.{is_at}
use Rattle.std.specs.Cmp.{nat_cmp_total}
use Rattle.std.specs.Ordering.{nat_cmp, is_eq, eq_by_cmp}
use Rattle.std.specs.FinMap as fin
use Rattle.std.specs.FinMap.{entries, get, get-remove, len-entries, nat_cmp-IsAntisymmetric, same_map}
use Rattle.ebs_tables.proofs.MapEdits.{is_same}
use Rattle.ebs_tables.proofs.TreeMaps.{entries-seen, entries-sorted, get-lookup, get-seen}
use Rattle.ebs_checkpoints.specs.declared.owned.AccountRow.{AccountRow}
use Rattle.ebs_pointed.specs.Accounts.{Found, first_key}

abbrev values_of : List (ℕ × AccountRow) → List AccountRow
values_of es = map (λ (e : ℕ × AccountRow). e.1) es

first_found : (m : Found) (k : ℕ) (v : AccountRow) (es : List (ℕ × AccountRow)) → entries m ≡ (k, v) ∷ es → get m k ≡ Some v
first_found m k v es is =
    get-lookup nat_cmp m k ∙ ap (lookup (is_at (nat_cmp k))) is ∙ ap (λ o. cond (is_eq o) (Some v) (lookup (is_at (nat_cmp k)) es)) (tied_itself nat_cmp_total k)

-- a key that all others are above isn't among them
not_among : (k : ℕ) (es : List (ℕ × AccountRow)) → AllByRecursion (λ y. nat_cmp k y ≡ Less) (keys_of es) → lookup (is_at (nat_cmp k)) es ≡ None
not_among k [] h = refl
not_among k (e ∷ es) h = ap (λ o. cond (is_eq o) (Some e.1) (lookup (is_at (nat_cmp k)) es)) h.0 ∙ not_among k es h.1

module _ (m : Found) (k : ℕ) (v : AccountRow) (es : List (ℕ × AccountRow)) (is : entries m ≡ (k, v) ∷ es) where
  up : IsStrictlySortedBy nat_cmp (keys_of ((k, v) ∷ es))
  up = subst (λ (l : List (ℕ × AccountRow)). IsStrictlySortedBy nat_cmp (keys_of l)) is (entries-sorted nat_cmp m)

  low : AllByRecursion (λ y. nat_cmp k y ≡ Less) (keys_of es)
  unfolding IsStrictlySortedBy
  low = up.0

  later : IsStrictlySortedBy nat_cmp (keys_of es)
  unfolding IsStrictlySortedBy
  later = up.1

  rest_at : (q : ℕ) (b : Bool) → eq_by_cmp nat_cmp q k ≡ b → cond b None (cond b (Some v) (lookup (is_at (nat_cmp q)) es)) ≡ lookup (is_at (nat_cmp q)) es
  rest_at q true at = sym (subst (λ n. lookup (is_at (nat_cmp n)) es ≡ None) (sym (is_same nat_cmp-IsAntisymmetric q k at)) (not_among k es low))
  rest_at q false at = refl

  first_removed : entries (fin.remove m k) ≡ es
  first_removed = ap entries (same_map nat_cmp_total nat_cmp-IsAntisymmetric (fin.remove m k) (fin.from_entries es) (λ q.
      get-remove nat_cmp_total m k q ∙ ap (cond (eq_by_cmp nat_cmp q k) None) (get-lookup nat_cmp m q ∙ ap (lookup (is_at (nat_cmp q))) is)
      ∙ rest_at q (eq_by_cmp nat_cmp q k) refl ∙ sym (get-seen nat_cmp_total es q))) ∙ entries-seen nat_cmp_total es later

-- the first entry, where the first key is this
first_entry : (es : List (ℕ × AccountRow)) (k : ℕ) → first_key es ≡ Some k → (v : AccountRow) × (rest : List (ℕ × AccountRow)) × (es ≡ (k, v) ∷ rest)
first_entry [] k e = absurd (cc)
first_entry (x ∷ xs) k e = let same : x.0 ≡ k = cc in (x.1, xs, ap (λ n. (n, x.1) ∷ xs) same)

pub key_there : (m : Found) (k : ℕ) → first_key (entries m) ≡ Some k → IsSome (get m k)
key_there m k e = let (v, es, is) = first_entry (entries m) k e in subst IsSome (sym (first_found m k v es is)) refl

pub one_drained : (m new : Found) (k : ℕ) (row : AccountRow) (old rows all : List AccountRow) → first_key (entries m) ≡ Some k → get m k ≡ Some row → new ≡ fin.remove m k → rows ≡ old ++ row ∷ []
    → old ++ fin.values m ≡ all → rows ++ fin.values new ≡ all
one_drained m new k row old rows all e found out more before =
    let (v, es, is) = first_entry (entries m) k e in
    let same : v ≡ row = let both = sym (first_found m k v es is) ∙ found in cc in
    let left = ap entries out ∙ first_removed m k v es is in
    (λ i. more i ++ values_of (left i)) ∙ append_assoc old (row ∷ []) (values_of es) ∙ ap (λ r. old ++ (r ∷ values_of es)) (sym same) ∙ ap (λ l. old ++ values_of l) (sym is) ∙ before

pub one_less : (m new : Found) (k : ℕ) → first_key (entries m) ≡ Some k → new ≡ fin.remove m k → fin.len new < fin.len m
one_less m new k e out =
    let (v, es, is) = first_entry (entries m) k e in
    let before : fin.len m ≡ suc (length es) = len-entries m ∙ ap length is in
    let after : fin.len new ≡ length es = len-entries new ∙ ap length (ap entries out ∙ first_removed m k v es is) in
    omega (arith, before, after)

pub all_drained : (m : Found) (rows all : List AccountRow) → first_key (entries m) ≡ None → rows ++ fin.values m ≡ all → rows ≡ all
all_drained m rows all e before = sym (append-nil rows) ∙ ap (λ l. rows ++ l) (sym (nothing (entries m) e)) ∙ before
  where
    nothing : (es : List (ℕ × AccountRow)) → first_key es ≡ None → values_of es ≡ []
    nothing [] e = refl
    nothing (x ∷ xs) e = absurd (cc)
