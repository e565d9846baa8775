-- The rows of all accounts in a list: their order, and that all tokens stand in it.
use Rattle.std.proofs.Common.{◌≡◌, ℕ, arith, Bool, true, false, cond, ◌&&◌, ◌||◌, eqb, ltb, List, [], ◌∷◌, ◌++◌, map, flat_map, Some, Ordering, Less, Equal, Greater, refl, sym, ap, subst, ◌∙◌}
use Rattle.std.proofs.lemmas.Bool.Decides.{nat_tests}
use Rattle.std.specs.List.{AllByRecursion, filter, list_all}
use Rattle.std.specs.List.Sorted.{IsStrictlySortedBy}
use Rattle.std.specs.Map.{keys_of, lookup}
use Rattle.std.specs.BTreeMap.{is_at}
use Rattle.std.specs.Cmp.{nat_cmp_total}
use Rattle.std.specs.Cmp.Lexicographic.{slice_cmp}
use Rattle.std.specs.Ordering.{nat_cmp, ordering_then}
use Rattle.std.specs.FinMap as fin
use Rattle.std.specs.FinMap.{entries, get}
use Rattle.ebs_tables.proofs.TreeMaps.{entries-sorted, get-lookup}
use Rattle.ebs_model.specs.declared.keys.TokenKey.{TokenKey}
use Rattle.ebs_model.specs.declared.rows.TokenRow.{TokenRow}
use Rattle.ebs_model.specs.Keys.{token_cmp}
use Rattle.ebs_model.specs.Rows.{Rows}
use Rattle.ebs_lawful.proofs.Maps.{each-empty, each-entry}
use Rattle.ebs_checkpoints.specs.declared.owned.AccountRow.{AccountRow}
use Rattle.ebs_row_rules.specs.Numbers.{has}
use Rattle.ebs_row_rules.specs.Order.{has_ordered_accounts}
use Rattle.ebs_row_rules.specs.Owners.{listed}
use Rattle.ebs_node_rules.proofs.Marks.{alike}
use Rattle.ebs_catalog.proofs.Picked.{each}
use Rattle.ebs_recovery.specs.Bases.{token_entry}
use Rattle.ebs_lawful_points.specs.PointLaws.{has_own_calls, is_its_call}
use Rattle.ebs_point_rules.specs.Values.{HasAccountValues}
use Rattle.ebs_pointed.specs.Accounts.{Found, HaveValues, of_token, token_of, with_token}
use Rattle.ebs_pointed.proofs.Keys.{itself, same_number, sorted-rows}
use Rattle.ebs_pointed.proofs.Slotted.{keys-have}
use Rattle.ebs_pointed.proofs.Made.{IsMade, found_in, is-made, is-there, is_its, used}

-- ---- numbers

less_below : (k y : ℕ) → nat_cmp k y ≡ Less → ltb k y ≡ true
less_below k y less = by (ltb k y) (eqb k y) less
  where
    by : (b e : Bool) → cond b Less (cond e Equal Greater) ≡ Less → b ≡ true
    by true e h = refl
    by false true h = absurd (cc)
    by false false h = absurd (cc)

apart : (a k y : ℕ) → eqb a k ≡ true → ltb k y ≡ true → eqb a y ≡ false
apart a k y same low = grind (arith, nat_tests)

turned : (a k : ℕ) → eqb a k ≡ false → eqb k a ≡ false
turned a k far = grind (arith, nat_tests)

not_low : (k a u : ℕ) → ltb k a ≡ true → ltb u a ≡ false → eqb u k ≡ false
not_low k a u low up = grind (arith, nat_tests)

above : (a b : ℕ) → ltb a b ≡ true → ltb b a ≡ false
above a b low = grind (arith, nat_tests)

level : (a b : ℕ) → eqb a b ≡ true → ltb b a ≡ false
level a b same = grind (arith, nat_tests)

not_before : (a b : ℕ) (o : Ordering) → ordering_then (nat_cmp a b) o ≡ Less → ltb b a ≡ false
not_before a b o less = by (ltb a b) (eqb a b) refl refl less
  where
    by : (l e : Bool) → ltb a b ≡ l → eqb a b ≡ e → ordering_then (cond l Less (cond e Equal Greater)) o ≡ Less → ltb b a ≡ false
    by true e low same h = above a b low
    by false true low same h = level a b same
    by false false low same h = absurd (cc)

has_less : (k a : ℕ) (ks : List ℕ) → AllByRecursion (λ y. nat_cmp k y ≡ Less) ks → has ks a ≡ true → ltb k a ≡ true
has_less k a [] h there = absurd (cc)
has_less k a (y ∷ ys) h there = by (eqb y a) refl there (has_less k a ys h.1)
  where
    by : (b : Bool) → eqb y a ≡ b → (b || has ys a) ≡ true → (has ys a ≡ true → ltb k a ≡ true) → ltb k a ≡ true
    by true is there later = subst (λ n. ltb k n ≡ true) (same_number y a is) (less_below k y h.0)
    by false is there later = later there

-- ---- tokens by their accounts

abbrev Tokens : Type 0
Tokens = List (TokenKey × TokenRow)

abbrev group : Tokens → ℕ → Tokens
group ts q = filter (is_its of_token with_token q) ts

abbrev grouped_by : Tokens → List ℕ → Tokens
grouped_by ts ks = flat_map (group ts) ks

nothing : (ks : List ℕ) → grouped_by [] ks ≡ []
nothing [] = refl
nothing (k ∷ ks) = nothing ks

away : (t : TokenKey × TokenRow) (ts : Tokens) (ks : List ℕ) → AllByRecursion (λ n. eqb (of_token t) n ≡ false) ks → grouped_by (t ∷ ts) ks ≡ grouped_by ts ks
away t ts [] h = refl
away t ts (k ∷ ks) h = λ i. cond (h.0 i) (t ∷ group ts k) (group ts k) ++ away t ts ks h.1 i

none_lower : (k : ℕ) (ts : Tokens) → AllByRecursion (λ u. eqb (of_token u) k ≡ false) ts → group ts k ≡ []
none_lower k [] h = refl
none_lower k (t ∷ ts) h = ap (λ b. cond b (t ∷ group ts k) (group ts k)) h.0 ∙ none_lower k ts h.1

-- a token that no other is before comes first
comes_first : (t : TokenKey × TokenRow) (ts : Tokens) → AllByRecursion (λ u. ltb (of_token u) (of_token t) ≡ false) ts → (ks : List ℕ) → IsStrictlySortedBy nat_cmp ks → has ks (of_token t) ≡ true
    → grouped_by (t ∷ ts) ks ≡ t ∷ grouped_by ts ks
unfolding IsStrictlySortedBy
comes_first t ts up [] sorted there = absurd (cc)
comes_first t ts up (k ∷ ks) sorted there = by (eqb (of_token t) k) refl (comes_first t ts up ks sorted.1)
  where
    by : (b : Bool) → eqb (of_token t) k ≡ b → (has ks (of_token t) ≡ true → grouped_by (t ∷ ts) ks ≡ t ∷ grouped_by ts ks) → grouped_by (t ∷ ts) (k ∷ ks) ≡ t ∷ grouped_by ts (k ∷ ks)
    by true is later =
        let far = away t ts ks (each (λ y. nat_cmp k y ≡ Less) (λ y. eqb (of_token t) y ≡ false) (λ y less. apart (of_token t) k y is (less_below k y less)) ks sorted.0) in
        λ i. cond (is i) (t ∷ group ts k) (group ts k) ++ far i
    by false is later =
        let behind : has ks (of_token t) ≡ true = sym (ap (λ b. b || has ks (of_token t)) (turned (of_token t) k is)) ∙ there in
        let low = has_less k (of_token t) ks sorted.0 behind in
        let none = none_lower k ts (each (λ u. ltb (of_token u) (of_token t) ≡ false) (λ u. eqb (of_token u) k ≡ false) (λ u high. not_low k (of_token t) (of_token u) low high) ts up) in
        (λ i. cond (is i) (t ∷ group ts k) (group ts k) ++ later behind i) ∙ (λ i. none i ++ (t ∷ grouped_by ts ks)) ∙ (λ i. t ∷ (sym none i ++ grouped_by ts ks))

rising : (k : TokenKey) (ts : Tokens) → AllByRecursion (λ y. token_cmp k y ≡ Less) (keys_of ts) → AllByRecursion (λ u. ltb (of_token u) k.account ≡ false) ts
rising k [] h = tt
rising k (t ∷ ts) h = (not_before k.account t.0.account (slice_cmp nat_cmp k.text t.0.text) h.0, rising k ts h.1)

-- all tokens, account by account, are all tokens
all_grouped : (ks : List ℕ) → IsStrictlySortedBy nat_cmp ks → (ts : Tokens) → IsStrictlySortedBy token_cmp (keys_of ts) → AllByRecursion (λ t. has ks (of_token t) ≡ true) ts → grouped_by ts ks ≡ ts
unfolding IsStrictlySortedBy
all_grouped ks sorted [] up there = nothing ks
all_grouped ks sorted (t ∷ ts) up there = comes_first t ts (rising t.0 ts up.0) ks sorted there.0 ∙ ap (λ l. t ∷ l) (all_grouped ks sorted ts up.1 there.1)

abbrev HasSome : Tokens → ℕ → Type 0
HasSome ts q = (u : TokenKey × TokenRow) × (rest : Tokens) × (group ts q ≡ u ∷ rest)

still_some : (x : TokenKey × TokenRow) (ts : Tokens) (q : ℕ) → HasSome ts q → HasSome (x ∷ ts) q
still_some x ts q (u, rest, is) = by (eqb (of_token x) q) refl
  where
    by : (b : Bool) → eqb (of_token x) q ≡ b → HasSome (x ∷ ts) q
    by true e = (x, group ts q, ap (λ b. cond b (x ∷ group ts q) (group ts q)) e)
    by false e = (u, rest, ap (λ b. cond b (x ∷ group ts q) (group ts q)) e ∙ is)

each_has : (ts : Tokens) → AllByRecursion (λ t. HasSome ts (of_token t)) ts
each_has [] = tt
each_has (x ∷ xs) = (
  (x, group xs (of_token x), ap (λ b. cond b (x ∷ group xs (of_token x)) (group xs (of_token x))) (itself (of_token x))),
  each (λ t. HasSome xs (of_token t)) (λ t. HasSome (x ∷ xs) (of_token t)) (λ t h. still_some x xs (of_token t) h) xs (each_has xs),
)

own_pass : {X : Type 0} (p : X → Bool) (xs : List X) → AllByRecursion (λ x. p x ≡ true) (filter p xs)
own_pass p [] = tt
own_pass p (x ∷ xs) = by (p x) refl (own_pass p xs)
  where
    by : (b : Bool) → p x ≡ b → AllByRecursion (λ y. p y ≡ true) (filter p xs) → AllByRecursion (λ y. p y ≡ true) (cond b (x ∷ filter p xs) (filter p xs))
    by true is rest = (is, rest)
    by false is rest = rest

entries_again : (q : ℕ) (ts : Tokens) → AllByRecursion (λ t. eqb (of_token t) q ≡ true) ts → map (token_entry q) (map token_of ts) ≡ ts
entries_again q [] h = refl
entries_again q (t ∷ ts) h = λ i. (record { account = sym (same_number (of_token t) q h.0) i; text = t.0.text }, t.1) ∷ entries_again q ts h.1 i

-- the record of each is the account's call at the token's moment
own_calls : (a : AccountRow) (q : ℕ) → a.account ≡ q → (ts : Tokens) → AllByRecursion (λ t. eqb (of_token t) q ≡ true) ts → list_all (λ token. is_its_call a token token.first) (map token_of ts) ≡ true
own_calls a q is [] h = refl
own_calls a q is (t ∷ ts) h = λ i. (itself t.1.at.second i && (ap (eqb (of_token t)) is ∙ h.0) i) && own_calls a q is ts h.1 i

-- ---- the list

abbrev rows_of : List (ℕ × AccountRow) → List AccountRow
rows_of es = map (λ (e : ℕ × AccountRow). e.1) es

module _ (rows : Rows) where
  abbrev IsRow : ℕ × AccountRow → Type 0
  IsRow e = IsMade e.0 (used rows e.0) e.1

  all_rows : AllByRecursion IsRow (entries (found_in rows))
  all_rows = each-entry nat_cmp_total (found_in rows) IsRow (λ e found. is-made rows e.0 e.1 found)

  listed_at : (q : ℕ) (es : List (ℕ × AccountRow)) → AllByRecursion IsRow es → listed (rows_of es) q ≡ lookup (is_at (nat_cmp q)) es
  listed_at q [] h = refl
  listed_at q (e ∷ es) h = λ i. cond ((ap (λ n. eqb n q) h.0.account ∙ sym (alike q e.0)) i) (Some e.1) (listed_at q es h.1 i)

  pub listed-is : (q : ℕ) → listed (fin.values (found_in rows)) q ≡ get (found_in rows) q
  listed-is q = listed_at q (entries (found_in rows)) all_rows ∙ sym (get-lookup nat_cmp (found_in rows) q)

  accounts_are : (es : List (ℕ × AccountRow)) → AllByRecursion IsRow es → map (λ (a : AccountRow). a.account) (rows_of es) ≡ keys_of es
  accounts_are [] h = refl
  accounts_are (e ∷ es) h = λ i. h.0.account i ∷ accounts_are es h.1 i

  pub accounts-ascend : has_ordered_accounts (fin.values (found_in rows)) ≡ true
  accounts-ascend =
      sorted-rows nat_cmp (λ (a : AccountRow). a.account) (fin.values (found_in rows)) (subst (IsStrictlySortedBy nat_cmp) (sym (accounts_are (entries (found_in rows)) all_rows)) (entries-sorted nat_cmp (found_in rows)))

  all_flat : (es : List (ℕ × AccountRow)) → AllByRecursion IsRow es → flat_map (λ (a : AccountRow). map (token_entry a.account) a.tokens) (rows_of es) ≡ grouped_by (entries rows.tokens) (keys_of es)
  all_flat [] h = refl
  all_flat (e ∷ es) h =
      let own = (λ j. map (token_entry (h.0.account j)) (h.0.tokens j)) ∙ entries_again e.0 (used rows e.0) (own_pass (is_its of_token with_token e.0) (entries rows.tokens)) in
      λ i. own i ++ all_flat es h.1 i

  all_calls : (es : List (ℕ × AccountRow)) → AllByRecursion IsRow es → list_all has_own_calls (rows_of es) ≡ true
  all_calls [] h = refl
  all_calls (e ∷ es) h =
      let own = ap (list_all (λ token. is_its_call e.1 token token.first)) h.0.tokens ∙ own_calls e.1 e.0 h.0.account (used rows e.0) (own_pass (is_its of_token with_token e.0) (entries rows.tokens)) in
      λ i. own i && all_calls es h.1 i

  pub calls-told : list_all has_own_calls (fin.values (found_in rows)) ≡ true
  calls-told = all_calls (entries (found_in rows)) all_rows

  all_there : AllByRecursion (λ t. has (fin.keys (found_in rows)) (of_token t) ≡ true) (entries rows.tokens)
  all_there =
      each (λ t. HasSome (entries rows.tokens) (of_token t)) (λ t. has (fin.keys (found_in rows)) (of_token t) ≡ true)
      (λ t (u, rest, is). sym (keys-have (found_in rows) (of_token t)) ∙ is-there rows (of_token t) u rest is) (entries rows.tokens) (each_has (entries rows.tokens))

  pub tokens-told : entries rows.tokens ≡ flat_map (λ (a : AccountRow). map (token_entry a.account) a.tokens) (fin.values (found_in rows))
  tokens-told =
      sym (all_flat (entries (found_in rows)) all_rows ∙ all_grouped (fin.keys (found_in rows)) (entries-sorted nat_cmp (found_in rows)) (entries rows.tokens) (entries-sorted token_cmp rows.tokens) all_there)

-- ---- their values

on_rows : (es : List (ℕ × AccountRow)) → AllByRecursion (λ (e : ℕ × AccountRow). HasAccountValues e.1) es → AllByRecursion HasAccountValues (rows_of es)
on_rows [] h = tt
on_rows (e ∷ es) h = (h.0, on_rows es h.1)

pub none_have : (found : Found) → found ≡ fin.empty → HaveValues found
none_have found is = subst HaveValues (sym is) (each-empty nat_cmp (λ q row. HasAccountValues row))

pub all_have : (found : Found) → HaveValues found → AllByRecursion HasAccountValues (fin.values found)
all_have found have = on_rows (entries found) (each-entry nat_cmp_total found (λ e. HasAccountValues e.1) (λ e here. have e.0 e.1 here))
