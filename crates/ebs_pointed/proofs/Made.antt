-- The rows of accounts that tables make, account by account.
use Rattle.std.proofs.Common.{◌≡◌, ℕ, ◌+◌, ◌≤◌, arith, Bool, true, false, cond, eqb, ltb, List, [], ◌∷◌, ◌++◌, map, Option, None, Some, IfSome, is_some, unwrap_or, Less, refl, sym, ap, subst, ◌∙◌, append_assoc, append-nil}
use Rattle.std.proofs.lemmas.Bool.Decides.{nat_tests}
use Rattle.std.specs.List.{AllByRecursion, filter}
use Rattle.std.specs.List.Sorted.{IsStrictlySortedBy}
use Rattle.std.specs.Map.{keys_of, lookup}
use Rattle.std.specs.BTreeMap.{is_at}
use Rattle.std.specs.Cmp.{nat_cmp_total}
use Rattle.std.specs.Ordering.{nat_cmp, is_eq, eq_by_cmp}
use Rattle.std.specs.FinMap as fin
use Rattle.std.specs.FinMap.{FinMap, entries, get, get-empty, get-insert, get-remove, nat_cmp-IsAntisymmetric}
use Rattle.ebs_tables.proofs.MapEdits.{is_same}
use Rattle.ebs_tables.proofs.TreeMaps.{entries-sorted, get-lookup}
use Rattle.ebs_model.specs.declared.keys.TokenKey.{TokenKey}
use Rattle.ebs_model.specs.declared.rows.Own.{Own}
use Rattle.ebs_model.specs.declared.rows.TokenRow.{TokenRow}
use Rattle.ebs_model.specs.declared.rules.Rule.{Rule}
use Rattle.ebs_model.specs.Rows.{Rows}
use Rattle.ebs_model.specs.Rules.{Book}
use Rattle.ebs_checkpoints.specs.declared.owned.AccountRow.{AccountRow}
use Rattle.ebs_node_rules.proofs.Marks.{alike}
use Rattle.ebs_catalog.proofs.Picked.{each}
use Rattle.ebs_point_rules.specs.Listed.{book_in, own_in}
use Rattle.ebs_pointed.specs.Accounts.{AreBegun, Found, changed, no_row, of_number, of_token, row_at, token_of, with_next, with_own, with_token}
use Rattle.ebs_pointed.specs.Rules.{AreRulesOf, own_rules, rules_in}
use Rattle.ebs_pointed.proofs.Keys.{itself, same_number}
use Rattle.ebs_pointed.proofs.Numbered.{other_number}

-- ---- what entries make of the row of one account

module _ {E : Type 0} (of : E → ℕ) (change : AccountRow → E → AccountRow) (q : ℕ) where
  abbrev pub changes : Option AccountRow → List E → Option AccountRow
  changes o [] = o
  changes o (e ∷ es) = changes (Some (change (unwrap_or o (no_row q)) e)) es

  abbrev pub is_its : E → Bool
  is_its e = eqb (of e) q

  step-at : (found : Found) (e : E) → get (fin.insert (fin.remove found (of e)) (of e) (change (row_at found (of e)) e)) q ≡ cond (eqb (of e) q) (Some (change (row_at found q) e)) (get found q)
  step-at found e =
      get-insert nat_cmp_total (fin.remove found (of e)) (of e) (change (row_at found (of e)) e) q
      ∙ ap (cond (eq_by_cmp nat_cmp q (of e)) (Some (change (row_at found (of e)) e))) (get-remove nat_cmp_total found (of e) q)
      ∙ ap (λ t. cond t (Some (change (row_at found (of e)) e)) (cond t None (get found q))) (alike q (of e))
      ∙ by (eqb (of e) q) refl
    where
      by : (b : Bool) → eqb (of e) q ≡ b → cond b (Some (change (row_at found (of e)) e)) (cond b None (get found q)) ≡ cond b (Some (change (row_at found q) e)) (get found q)
      by true is = ap (λ n. Some (change (row_at found n) e)) (same_number (of e) q is)
      by false is = refl

  pub changed-at : (found : Found) (es : List E) → get (changed of change found es) q ≡ changes (get found q) (filter is_its es)
  changed-at found [] = refl
  changed-at found (e ∷ es) =
      changed-at (fin.insert (fin.remove found (of e)) (of e) (change (row_at found (of e)) e)) es ∙ ap (λ o. changes o (filter is_its es)) (step-at found e) ∙ by (eqb (of e) q)
    where
      by : (b : Bool) → changes (cond b (Some (change (row_at found q) e)) (get found q)) (filter is_its es) ≡ changes (get found q) (cond b (e ∷ filter is_its es) (filter is_its es))
      by true = refl
      by false = refl

-- ---- the entry of an account

abbrev pub at_key : {X : Type 0} → ℕ → Option X → List (ℕ × X)
at_key q None = []
at_key q (Some x) = (q, x) ∷ []

module _ {X : Type 0} (q : ℕ) where
  abbrev is_q : ℕ × X → Bool
  is_q e = eqb e.0 q

  none_at : (es : List (ℕ × X)) → AllByRecursion (λ n. eqb n q ≡ false) (keys_of es) → filter is_q es ≡ []
  none_at [] h = refl
  none_at (e ∷ es) h = ap (λ b. cond b (e ∷ filter is_q es) (filter is_q es)) h.0 ∙ none_at es h.1

  one_at : (es : List (ℕ × X)) → IsStrictlySortedBy nat_cmp (keys_of es) → filter is_q es ≡ at_key q (lookup (is_at (nat_cmp q)) es)
  unfolding IsStrictlySortedBy
  one_at [] up = refl
  one_at (e ∷ es) up = by (is_at (nat_cmp q) e.0) refl (one_at es up.1)
    where
      by : (b : Bool) → is_at (nat_cmp q) e.0 ≡ b → filter is_q es ≡ at_key q (lookup (is_at (nat_cmp q)) es)
          → filter is_q (e ∷ es) ≡ at_key q (cond b (Some e.1) (lookup (is_at (nat_cmp q)) es))
      by true at later =
          let same : q ≡ e.0 = is_same nat_cmp-IsAntisymmetric q e.0 at in
          let none = none_at es (each (λ y. nat_cmp e.0 y ≡ Less) (λ y. eqb y q ≡ false) (λ y less. other_number q y (ap (λ m. is_eq (nat_cmp m y)) same ∙ ap is_eq less)) (keys_of es) up.0) in
          ap (λ b. cond b (e ∷ filter is_q es) (filter is_q es)) (ap (eqb e.0) same ∙ itself e.0) ∙ (λ i. (sym same i, e.1) ∷ none i)
      by false at later = ap (λ b. cond b (e ∷ filter is_q es) (filter is_q es)) (other_number q e.0 at) ∙ later

  pub entry_at : (m : FinMap nat_cmp X) → filter is_q (entries m) ≡ at_key q (get m q)
  entry_at m = one_at (entries m) (entries-sorted nat_cmp m) ∙ ap (at_key q) (sym (get-lookup nat_cmp m q))

-- ---- tokens behind tokens

abbrev pub more : AccountRow → List (TokenKey × TokenRow) → AccountRow
more row ts = record row { tokens = row.tokens ++ map token_of ts }

pub tokens_more : (q : ℕ) (row : AccountRow) (ts : List (TokenKey × TokenRow)) → changes of_token with_token q (Some row) ts ≡ Some (more row ts)
tokens_more q row [] = ap (λ l. Some (record row { tokens = l })) (sym (append-nil row.tokens))
tokens_more q row (t ∷ ts) = tokens_more q (with_token row t) ts ∙ ap (λ l. Some (record row { tokens = l })) (append_assoc row.tokens (token_of t ∷ []) (map token_of ts))

positive : (n : ℕ) → 1 ≤ n → ltb 0 n ≡ true
positive n some = grind (arith, nat_tests)

-- ---- the row of an account

abbrev pub found_in : Rows → Found
found_in rows = changed of_token with_token (changed of_number with_next (changed of_number with_own fin.empty (entries rows.own)) (entries rows.books)) (entries rows.tokens)

-- its number, and its tokens
pub record IsMade (q : ℕ) (ts : List (TokenKey × TokenRow)) (row : AccountRow) : Type 0 where
  pub account : row.account ≡ q
  pub tokens : row.tokens ≡ map token_of ts

module _ (rows : Rows) (q : ℕ) where
  abbrev pub owned : Option Own → Option AccountRow
  owned own = changes of_number with_own q None (at_key q own)

  abbrev pub ruled : Option Own → Option Book → Option AccountRow
  ruled own book = changes of_number with_next q (owned own) (at_key q book)

  abbrev pub used : List (TokenKey × TokenRow)
  used = filter (is_its of_token with_token q) (entries rows.tokens)

  abbrev pub row_made : Option AccountRow
  row_made = changes of_token with_token q (ruled (get rows.own q) (get rows.books q)) used

  owned-at : get (changed of_number with_own fin.empty (entries rows.own)) q ≡ owned (get rows.own q)
  owned-at = changed-at of_number with_own q fin.empty (entries rows.own) ∙ (λ i. changes of_number with_own q (get-empty {X = AccountRow} nat_cmp q i) (entry_at q rows.own i))

  pub made-at : get (found_in rows) q ≡ row_made
  made-at =
      changed-at of_token with_token q (changed of_number with_next (changed of_number with_own fin.empty (entries rows.own)) (entries rows.books)) (entries rows.tokens)
      ∙ ap (λ o. changes of_token with_token q o used) (changed-at of_number with_next q (changed of_number with_own fin.empty (entries rows.own)) (entries rows.books) ∙ (λ i. changes of_number with_next q (owned-at i) (entry_at q rows.books i)))

  own_tokens : (o : Option AccountRow) (ts : List (TokenKey × TokenRow)) → own_in (changes of_token with_token q o ts) ≡ own_in o
  own_tokens None [] = refl
  own_tokens None (t ∷ ts) = ap own_in (tokens_more q (with_token (no_row q) t) ts)
  own_tokens (Some row) ts = ap own_in (tokens_more q row ts)

  own_books : (o : Option AccountRow) (book : Option Book) → own_in (changes of_number with_next q o (at_key q book)) ≡ own_in o
  own_books o None = refl
  own_books None (Some book) = refl
  own_books (Some row) (Some book) = refl

  book_tokens : (rules : List Rule) (o : Option AccountRow) (ts : List (TokenKey × TokenRow)) → book_in rules (changes of_token with_token q o ts) ≡ book_in rules o
  book_tokens rules None [] = refl
  book_tokens rules None (t ∷ ts) = ap (book_in rules) (tokens_more q (with_token (no_row q) t) ts)
  book_tokens rules (Some row) ts = ap (book_in rules) (tokens_more q row ts)

  module _ (begun : AreBegun rows) where
    own_own : (own : Option Own) → get rows.own q ≡ own → own_in (owned own) ≡ own
    own_own None e = refl
    own_own (Some own) e = ap (λ b. cond b (Some own) None) (positive (own.next_snap + (own.next_vol + own.next_policy)) (begun.own q own e))

    pub own-is : own_in (get (found_in rows) q) ≡ get rows.own q
    own-is = ap own_in made-at ∙ own_tokens (ruled (get rows.own q) (get rows.books q)) used ∙ own_books (owned (get rows.own q)) (get rows.books q) ∙ own_own (get rows.own q) refl

    module _ (rules : List Rule) (are : AreRulesOf rows.books rules) where
      one_book : (book : Book) → get rows.books q ≡ Some book → cond (ltb 0 book.next) (Some (record { rules = own_rules rules q; next = book.next })) None ≡ Some book
      one_book book e =
          let own : own_rules rules q ≡ book.rules = are q ∙ ap rules_in e in
          λ i. cond (positive book.next (begun.books q book e) i) (Some (record { rules = own i; next = book.next })) None

      book_books : (own : Option Own) (book : Option Book) → get rows.books q ≡ book → book_in rules (ruled own book) ≡ book
      book_books None None e = refl
      book_books (Some own) None e = refl
      book_books None (Some book) e = one_book book e
      book_books (Some own) (Some book) e = one_book book e

      pub book-is : book_in rules (get (found_in rows) q) ≡ get rows.books q
      book-is = ap (book_in rules) made-at ∙ book_tokens rules (ruled (get rows.own q) (get rows.books q)) used ∙ book_books (get rows.own q) (get rows.books q) refl

  bare : (own : Option Own) (book : Option Book) → IfSome (ruled own book) (IsMade q [])
  bare None None = tt
  bare None (Some book) = record { account = refl; tokens = refl }
  bare (Some own) None = record { account = refl; tokens = refl }
  bare (Some own) (Some book) = record { account = refl; tokens = refl }

  made_tokens : (o : Option AccountRow) (ts : List (TokenKey × TokenRow)) → IfSome o (IsMade q []) → IfSome (changes of_token with_token q o ts) (IsMade q ts)
  made_tokens None [] h = tt
  made_tokens None (t ∷ ts) h = subst (λ o. IfSome o (IsMade q (t ∷ ts))) (sym (tokens_more q (with_token (no_row q) t) ts)) (record { account = refl; tokens = refl })
  made_tokens (Some row) ts h = subst (λ o. IfSome o (IsMade q ts)) (sym (tokens_more q row ts)) (record { account = h.account; tokens = ap (λ l. l ++ map token_of ts) h.tokens })

  pub is-made : (row : AccountRow) → get (found_in rows) q ≡ Some row → IsMade q used row
  is-made row is = subst (λ o. IfSome o (IsMade q used)) (sym made-at ∙ is) (made_tokens (ruled (get rows.own q) (get rows.books q)) used (bare (get rows.own q) (get rows.books q)))

  -- who has used a token is there
  pub is-there : (t : TokenKey × TokenRow) (ts : List (TokenKey × TokenRow)) → used ≡ t ∷ ts → is_some (get (found_in rows) q) ≡ true
  is-there t ts is =
      ap is_some (made-at ∙ ap (changes of_token with_token q (ruled (get rows.own q) (get rows.books q))) is ∙ tokens_more q (with_token (unwrap_or (ruled (get rows.own q) (get rows.books q)) (no_row q)) t) ts)
