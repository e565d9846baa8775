-- The rules of all accounts: whose each is, and the order of their keys.
use Rattle.std.proofs.Common.{◌≡◌, ℕ, Bool, true, false, cond, eqb, List, [], ◌∷◌, ◌++◌, map, Option, None, Some, Less, refl, sym, ap, subst, ◌∙◌, append-nil}
use Rattle.std.proofs.lemmas.Cmp.{tied_itself}
use Rattle.std.proofs.lemmas.List.{map-append}
use Rattle.std.proofs.lemmas.List.Elements.{filter-append}
use Rattle.std.specs.List.{filter, AllByRecursion}
use Rattle.std.specs.List.Sorted.{IsStrictlySortedBy}
use Rattle.std.specs.Map.{keys_of, lookup}
use Rattle.std.specs.BTreeMap.{is_at}
use Rattle.std.specs.Cmp.{nat_cmp_total}
use Rattle.std.specs.Ordering.{nat_cmp, is_eq, ordering_then}
use Rattle.std.specs.FinMap.{FinMap, get, entries, from_entries, nat_cmp-IsAntisymmetric}
use Rattle.ebs_tables.proofs.MapEdits.{is_same}
use Rattle.ebs_tables.proofs.TreeMaps.{entries-sorted, from_entries-entries, get-lookup}
use Rattle.ebs_model.specs.declared.keys.RuleKey.{RuleKey}
use Rattle.ebs_model.specs.declared.rules.Rule.{Rule}
use Rattle.ebs_model.specs.Rules.{Book}
use Rattle.ebs_lawful.proofs.Maps.{each-entry}
use Rattle.ebs_row_rules.specs.Order.{ascends, rule_cmp}
use Rattle.ebs_catalog.proofs.Picked.{each}
use Rattle.ebs_pointed.specs.Rules.{AreNumbered, AreRulesOf, all_in_order, in_order, rules_in}
use Rattle.ebs_pointed.proofs.Keys.{all_joined, itself, same_number, sorted-joined, sorted-rows}

-- the rule is the account's, and stands at its number
abbrev IsNumbered : ℕ → ℕ × Rule → Type 0
IsNumbered account e = (e.1.key.account ≡ account) × (e.1.key.number ≡ e.0)

abbrev AreNumberedOf : ℕ × Book → Type 0
AreNumberedOf e = AllByRecursion (IsNumbered e.0) (entries e.1.rules)

abbrev values : List (ℕ × Rule) → List Rule
values es = map (λ (e : ℕ × Rule). e.1) es

abbrev is_of : ℕ → Rule → Bool
is_of account r = eqb r.key.account account

-- ---- whose each rule is

module _ (account : ℕ) where
  numbered_again : (es : List (ℕ × Rule)) → AllByRecursion (IsNumbered account) es → map {B = ℕ × Rule} (λ r. (r.key.number, r)) (values es) ≡ es
  numbered_again [] h = refl
  numbered_again (e ∷ es) h = λ i. (h.0.1 i, e.1) ∷ numbered_again es h.1 i

  all_own : (es : List (ℕ × Rule)) → AllByRecursion (IsNumbered account) es → filter (is_of account) (values es) ≡ values es
  all_own [] h = refl
  all_own (e ∷ es) h = λ i. cond ((ap (λ n. eqb n account) h.0.0 ∙ itself account) i) (e.1 ∷ all_own es h.1 i) (all_own es h.1 i)

  none_own : (q : ℕ) → eqb account q ≡ false → (es : List (ℕ × Rule)) → AllByRecursion (IsNumbered account) es → filter (is_of q) (values es) ≡ []
  none_own q other [] h = refl
  none_own q other (e ∷ es) h = ap (λ b. cond b (e.1 ∷ filter (is_of q) (values es)) (filter (is_of q) (values es))) (ap (λ n. eqb n q) h.0.0 ∙ other) ∙ none_own q other es h.1

pub other_number : (q n : ℕ) → is_at (nat_cmp q) n ≡ false → eqb n q ≡ false
other_number q n far = by (eqb n q) refl
  where
    by : (b : Bool) → eqb n q ≡ b → eqb n q ≡ false
    by false e = e
    by true e =
        let same : n ≡ q = same_number n q e in
        let no : true ≡ false = sym (ap is_eq (tied_itself nat_cmp_total q)) ∙ ap (λ m. is_at (nat_cmp q) m) (sym same) ∙ far in
        absurd (cc)

abbrev in_book : Option Book → List Rule
in_book None = []
in_book (Some book) = in_order book.rules

module _ (q : ℕ) where
  -- no account in the list is this one
  absent : (es : List (ℕ × Book)) → AllByRecursion AreNumberedOf es → AllByRecursion (λ n. eqb n q ≡ false) (keys_of es) → filter (is_of q) (all_in_order es) ≡ []
  absent [] h far = refl
  absent (e ∷ es) h far = filter-append (is_of q) (in_order e.1.rules) (all_in_order es) ∙ (λ i. none_own e.0 q far.0 (entries e.1.rules) h.0 i ++ absent es h.1 far.1 i)

  own_of : (es : List (ℕ × Book)) → AllByRecursion AreNumberedOf es → IsStrictlySortedBy nat_cmp (keys_of es) → filter (is_of q) (all_in_order es) ≡ in_book (lookup (is_at (nat_cmp q)) es)
  unfolding IsStrictlySortedBy
  own_of [] h up = refl
  own_of (e ∷ es) h up = filter-append (is_of q) (in_order e.1.rules) (all_in_order es) ∙ by (is_at (nat_cmp q) e.0) refl (own_of es h.1 up.1)
    where
      by : (b : Bool) → is_at (nat_cmp q) e.0 ≡ b → filter (is_of q) (all_in_order es) ≡ in_book (lookup (is_at (nat_cmp q)) es)
          → filter (is_of q) (in_order e.1.rules) ++ filter (is_of q) (all_in_order es) ≡ in_book (cond b (Some e.1) (lookup (is_at (nat_cmp q)) es))
      by true at later =
          let same : q ≡ e.0 = is_same nat_cmp-IsAntisymmetric q e.0 at in
          let own = subst (λ m. filter (is_of m) (in_order e.1.rules) ≡ in_order e.1.rules) (sym same) (all_own e.0 (entries e.1.rules) h.0) in
          let none = absent es h.1 (each (λ y. nat_cmp e.0 y ≡ Less) (λ y. eqb y q ≡ false) (λ y less. other_number q y (ap (λ m. is_eq (nat_cmp m y)) same ∙ ap is_eq less)) (keys_of es) up.0) in
          (λ i. own i ++ none i) ∙ append-nil (in_order e.1.rules)
      by false at later = λ i. none_own e.0 q (other_number q e.0 at) (entries e.1.rules) h.0 i ++ later i

all_numbered : (books : FinMap nat_cmp Book) → AreNumbered books → AllByRecursion AreNumberedOf (entries books)
all_numbered books are = each-entry nat_cmp_total books AreNumberedOf (λ e found. each-entry nat_cmp_total e.1.rules (IsNumbered e.0) (λ f here. are e.0 e.1 found f.0 f.1 here))

pub all-are : (books : FinMap nat_cmp Book) → AreNumbered books → AreRulesOf books (all_in_order (entries books))
all-are books are q =
    ap (λ (rules : List Rule). from_entries (map {B = ℕ × Rule} (λ r. (r.key.number, r)) rules)) (own_of q (entries books) (all_numbered books are) (entries-sorted nat_cmp books) ∙ ap in_book (sym (get-lookup nat_cmp books q)))
    ∙ by (get books q) refl
  where
    by : (o : Option Book) → get books q ≡ o → from_entries (map {B = ℕ × Rule} (λ r. (r.key.number, r)) (in_book o)) ≡ rules_in o
    by None e = refl
    by (Some book) e =
        ap from_entries (numbered_again q (entries book.rules) (each-entry nat_cmp_total book.rules (IsNumbered q) (λ f here. are q book e f.0 f.1 here)))
        ∙ from_entries-entries nat_cmp_total nat_cmp-IsAntisymmetric book.rules

-- ---- their order

abbrev keys : List Rule → List RuleKey
keys rules = map (λ (r : Rule). r.key) rules

module _ (account : ℕ) (key : RuleKey) (own : key.account ≡ account) where
  -- of one account it is the number that rises
  lower : (number : ℕ) → key.number ≡ number → (es : List (ℕ × Rule)) → AllByRecursion (IsNumbered account) es → AllByRecursion (λ y. nat_cmp number y ≡ Less) (keys_of es) → AllByRecursion (λ k. rule_cmp key k ≡ Less) (keys (values es))
  lower number is [] h low = tt
  lower number is (e ∷ es) h low = (
    (λ i. ordering_then (nat_cmp (own i) (h.0.0 i)) (nat_cmp (is i) (h.0.1 i))) ∙ ap (λ o. ordering_then o (nat_cmp number e.0)) (tied_itself nat_cmp_total account) ∙ low.0,
    lower number is es h.1 low.1,
  )

  -- and of two the account
  below : (others : List RuleKey) → AllByRecursion (λ k. nat_cmp account k.account ≡ Less) others → AllByRecursion (λ k. rule_cmp key k ≡ Less) others
  below others low = each (λ k. nat_cmp account k.account ≡ Less) (λ k. rule_cmp key k ≡ Less) (λ k less. ap (λ o. ordering_then o (nat_cmp key.number k.number)) (ap (λ n. nat_cmp n k.account) own ∙ less)) others low

own_sorted : (account : ℕ) (es : List (ℕ × Rule)) → AllByRecursion (IsNumbered account) es → IsStrictlySortedBy nat_cmp (keys_of es) → IsStrictlySortedBy rule_cmp (keys (values es))
unfolding IsStrictlySortedBy
own_sorted account [] h up = tt
own_sorted account (e ∷ es) h up = (lower account e.1.key h.0.0 e.0 h.0.1 es h.1 up.0, own_sorted account es h.1 up.1)

-- the accounts of an account's own rules
own_accounts : (P : ℕ → Type 0) (account : ℕ) → P account → (es : List (ℕ × Rule)) → AllByRecursion (IsNumbered account) es → AllByRecursion (λ (k : RuleKey). P k.account) (keys (values es))
own_accounts P account p [] h = tt
own_accounts P account p (e ∷ es) h = (subst P (sym h.0.0) p, own_accounts P account p es h.1)

all_accounts : (P : ℕ → Type 0) (es : List (ℕ × Book)) → AllByRecursion AreNumberedOf es → AllByRecursion P (keys_of es) → AllByRecursion (λ (k : RuleKey). P k.account) (keys (all_in_order es))
all_accounts P [] h all = tt
all_accounts P (e ∷ es) h all =
    subst (AllByRecursion (λ (k : RuleKey). P k.account)) (sym (map-append (λ (r : Rule). r.key) (in_order e.1.rules) (all_in_order es)))
    (all_joined (λ (k : RuleKey). P k.account) (keys (in_order e.1.rules)) (keys (all_in_order es)) (own_accounts P e.0 all.0 (entries e.1.rules) h.0) (all_accounts P es h.1 all.1))

all_below : (account : ℕ) (es : List (ℕ × Rule)) → AllByRecursion (IsNumbered account) es → (others : List RuleKey) → AllByRecursion (λ k. nat_cmp account k.account ≡ Less) others → AllByRecursion (λ x. AllByRecursion (λ k. rule_cmp x k ≡ Less) others) (keys (values es))
all_below account [] h others low = tt
all_below account (e ∷ es) h others low = (below account e.1.key h.0.0 others low, all_below account es h.1 others low)

all_sorted : (es : List (ℕ × Book)) → AllByRecursion AreNumberedOf es → IsStrictlySortedBy nat_cmp (keys_of es) → IsStrictlySortedBy rule_cmp (keys (all_in_order es))
unfolding IsStrictlySortedBy
all_sorted [] h up = tt
all_sorted (e ∷ es) h up =
    subst (IsStrictlySortedBy rule_cmp) (sym (map-append (λ (r : Rule). r.key) (in_order e.1.rules) (all_in_order es)))
    (sorted-joined rule_cmp (keys (in_order e.1.rules)) (keys (all_in_order es)) (own_sorted e.0 (entries e.1.rules) h.0 (entries-sorted nat_cmp e.1.rules)) (all_sorted es h.1 up.1)
    (all_below e.0 (entries e.1.rules) h.0 (keys (all_in_order es)) (all_accounts (λ n. nat_cmp e.0 n ≡ Less) es h.1 up.0)))

pub all-ascend : (books : FinMap nat_cmp Book) → AreNumbered books → ascends rule_cmp (λ (r : Rule). r.key) (all_in_order (entries books)) ≡ true
all-ascend books are = sorted-rows rule_cmp (λ (r : Rule). r.key) (all_in_order (entries books)) (all_sorted (entries books) (all_numbered books are) (entries-sorted nat_cmp books))
