-- A client token is found among its account's.
use Rattle.std.proofs.Common.{◌≡◌, ℕ, ◌+◌, Bool, true, false, cond, ◌&&◌, not, List, [], ◌∷◌, Some, Ordering, Less, Equal, Greater, refl, sym, ap, ◌∙◌, arith}
use Rattle.std.proofs.lemmas.Bool.Decides.{nat_tests}
use Rattle.std.proofs.lemmas.Cmp.{tied_itself}
use Rattle.std.proofs.lemmas.Map.Entries.{lookup-filter-keys}
use Rattle.std.specs.Cmp.{nat_cmp_total, unsigned_ties}
use Rattle.std.specs.Cmp.Lexicographic.{slice_cmp, texts_ties}
use Rattle.std.specs.List.{filter}
use Rattle.std.specs.Map.{lookup}
use Rattle.std.specs.Ordering.{nat_cmp, is_eq, is_le, is_gt, ordering_then, eq_by_cmp}
use Rattle.std.specs.FinMap.{FinMap, get, entries}
use Rattle.ebs_tables.specs.Seen.{is_within}
use Rattle.ebs_tables.proofs.TreeMaps.{get-lookup}
use Rattle.ebs_tables.proofs.MapEdits.{is_same}
use Rattle.ebs_model.specs.declared.keys.TokenKey.{TokenKey}
use Rattle.ebs_model.specs.declared.rows.TokenRow.{TokenRow}
use Rattle.ebs_model.specs.Keys.{token_cmp}
use Rattle.ebs_model.specs.inner.Orders.{exact_tokens}
use Rattle.ebs_catalog.specs.Tokens.{is_token}

-- the key below all of an account's
abbrev pub first_token : ℕ → TokenKey
first_token account = record { account = account; text = [] }

abbrev pub token : ℕ → List ℕ → TokenKey
token account text = record { account = account; text = text }

lookup-same : {K X : Type 0} (p q : K → Bool) → ((k : K) → p k ≡ q k) → (es : List (K × X)) → lookup p es ≡ lookup q es
lookup-same p q h [] = refl
lookup-same p q h (e ∷ es) = (λ i. cond (h e.0 i) (Some e.1) (lookup p es)) ∙ ap (cond (q e.0) (Some e.1)) (lookup-same p q h es)

tied_both : (a b : Ordering) → is_eq (ordering_then a b) ≡ (is_eq a && is_eq b)
tied_both Less b = refl
tied_both Equal b = refl
tied_both Greater b = refl

same_test : (account : ℕ) (text : List ℕ) (key : TokenKey) → is_token account text key ≡ eq_by_cmp token_cmp (token account text) key
same_test account text key =
    (λ i. unsigned_ties account key.account i && texts_ties text key.text i)
    ∙ sym (tied_both (nat_cmp account key.account) (slice_cmp nat_cmp text key.text))

from_empty : (text : List ℕ) → is_le (slice_cmp nat_cmp [] text) ≡ true
from_empty [] = refl
from_empty (b ∷ text) = refl

above : (a : ℕ) → nat_cmp (a + 1) a ≡ Greater
above a = grind (arith, nat_tests)

less : (a : ℕ) → nat_cmp a (a + 1) ≡ Less
less a = grind (arith, nat_tests)

module _ (account : ℕ) where
  starts_at : (text : List ℕ) → is_le (token_cmp (first_token account) (token account text)) ≡ true
  starts_at text = ap (λ r. is_le (ordering_then r (slice_cmp nat_cmp [] text))) (tied_itself nat_cmp_total account) ∙ from_empty text

  ends_at : (text : List ℕ) → not (is_le (token_cmp (first_token (account + 1)) (token account text))) ≡ true
  ends_at text = ap (λ r. not (is_le (ordering_then r (slice_cmp nat_cmp [] text)))) (above account)

  pub in_order : is_gt (token_cmp (first_token account) (first_token (account + 1))) ≡ false
  in_order = ap (λ r. is_gt (ordering_then r (slice_cmp nat_cmp [] []))) (less account)

  is_the : (text : List ℕ) (key : TokenKey) → is_token account text key ≡ true → token account text ≡ key
  is_the text key h = is_same exact_tokens (token account text) key (sym (same_test account text key) ∙ h)

  all : (m : FinMap token_cmp TokenRow) (text : List ℕ) → lookup (is_token account text) (entries m) ≡ get m (token account text)
  all m text = lookup-same (is_token account text) (eq_by_cmp token_cmp (token account text)) (same_test account text) (entries m) ∙ sym (get-lookup token_cmp m (token account text))

  pub token-until : (m : FinMap token_cmp TokenRow) (text : List ℕ) → lookup (is_token account text) (filter (λ e. is_within token_cmp (first_token account) (first_token (account + 1)) e.0) (entries m)) ≡ get m (token account text)
  token-until m text =
      lookup-filter-keys (is_token account text) (is_within token_cmp (first_token account) (first_token (account + 1))) true
      (λ k h. ap (is_within token_cmp (first_token account) (first_token (account + 1))) (sym (is_the text k h)) ∙ (λ i. starts_at text i && ends_at text i)) (entries m)
      ∙ all m text

  pub token-from : (m : FinMap token_cmp TokenRow) (text : List ℕ) → lookup (is_token account text) (filter (λ e. is_le (token_cmp (first_token account) e.0)) (entries m)) ≡ get m (token account text)
  token-from m text =
      lookup-filter-keys (is_token account text) (λ k. is_le (token_cmp (first_token account) k)) true
      (λ k h. ap (λ q. is_le (token_cmp (first_token account) q)) (sym (is_the text k h)) ∙ starts_at text) (entries m)
      ∙ all m text
