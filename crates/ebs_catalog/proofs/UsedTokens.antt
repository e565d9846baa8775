-- The number of an account's client tokens, through edits.
use Rattle.std.proofs.Common.{◌≡◌, ℕ, ◌+◌, ◌==◌, Bool, true, false, not, cond, arith, List, [], ◌∷◌, length, Option, None, Some, refl, sym, ap, ◌∙◌, zero-add}
use Rattle.std.proofs.lemmas.Bool.Decides.{nat_tests}
use Rattle.std.specs.List.{count_by}
use Rattle.std.specs.Ordering.{eq_by_cmp, nat_cmp}
use Rattle.std.specs.Cmp.{nat_cmp_total}
use Rattle.std.specs.FinMap.{FinMap, get, contains_key, insert, empty, entries, get-insert, get-empty, len-entries, len-empty}
use Rattle.ebs_tables.proofs.Counted.{count-insert}
use Rattle.ebs_model.specs.declared.keys.TokenKey.{TokenKey}
use Rattle.ebs_model.specs.declared.keys.Moment.{Moment}
use Rattle.ebs_model.specs.declared.rows.TokenRow.{TokenRow}
use Rattle.ebs_model.specs.declared.request.Request.{Request}
use Rattle.ebs_model.specs.Keys.{token_cmp}
use Rattle.ebs_model.specs.inner.Orders.{tokens_total}
use Rattle.ebs_model.specs.Calls.Start.{with_token}
use Rattle.ebs_catalog.specs.declared.rows.AccountRow.{AccountRow}
use Rattle.ebs_catalog.specs.declared.rows.NewToken.{NewToken}
use Rattle.ebs_catalog.specs.Held.{new_token_of}
use Rattle.ebs_catalog.specs.Starts.{with_new, is_new, IsOf}
use Rattle.ebs_catalog.specs.Sound.{tokens_at, AreUsed, IsOneLess}
use Rattle.ebs_catalog.proofs.CountedRows.{Accounts}

abbrev pub Tokens : Type 0
Tokens = FinMap token_cmp TokenRow

abbrev pub used_by : ℕ → Tokens → ℕ
used_by account t = count_by (λ (e : TokenKey × TokenRow). account == e.0.account) (entries t)

same_test : (a b : ℕ) → eq_by_cmp nat_cmp a b ≡ (a == b)
same_test a b = grind (arith, nat_tests)

same_number : (a b : ℕ) → (a == b) ≡ true → a ≡ b
same_number a b e = grind (arith, nat_tests)

itself : (a b : ℕ) → b ≡ a → (a == b) ≡ true
itself a b e = grind (arith, nat_tests)

pub used-empty : AreUsed empty empty
used-empty = record { each = λ account. ap tokens_at (get-empty nat_cmp account) ∙ sym (ap (count_by (λ (e : TokenKey × TokenRow). account == e.0.account)) (none (entries empty) (sym (len-entries empty) ∙ len-empty token_cmp TokenRow))) }
  where
    none : (es : List (TokenKey × TokenRow)) → length es ≡ 0 → es ≡ []
    none [] h = refl
    none (e ∷ es) h = absurd (omega (arith, h))

-- rows that are taken out leave the tokens
pub used-less : (t : Tokens) (o o' : Accounts) (account : ℕ) → IsOneLess o o' account → AreUsed t o → AreUsed t o'
used-less t o o' account less h = record { each = λ a. less.tokens a ∙ h.each a }

abbrev with_one : Tokens → Moment → ℕ → NewToken → Tokens
with_one t at number new = insert t new.key (record { at = at; first = new.first; number = number })

-- an account that is written, with the number of its tokens
module _ (o : Accounts) (account : ℕ) (row : AccountRow) where
  counted : (old new : ℕ → ℕ) → ((a : ℕ) → tokens_at (get o a) ≡ old a) → row.tokens ≡ new account → ((a : ℕ) → (a == account) ≡ false → old a ≡ new a) → (a : ℕ) → tokens_at (get (insert o account row) a) ≡ new a
  counted old new before is others a = ap tokens_at (get-insert nat_cmp_total o account row a) ∙ ap (λ b. tokens_at (cond b (Some row) (get o a))) (same_test a account) ∙ by (a == account) refl
    where
      by : (b : Bool) → (a == account) ≡ b → tokens_at (cond b (Some row) (get o a)) ≡ new a
      by true e = is ∙ ap new (sym (same_number a account e))
      by false e = before a ∙ others a e

  pub used-added : (t : Tokens) (at : Moment) (number : ℕ) (new : Option NewToken) → IsOf account new
      → row.tokens ≡ cond (not (is_new t new)) (tokens_at (get o account)) (tokens_at (get o account) + 1) → AreUsed t o → AreUsed (with_new t at number new) (insert o account row)
  used-added t at number None of is h = record { each = counted (λ a. used_by a t) (λ a. used_by a t) h.each (is ∙ h.each account) (λ a e. refl) }
  used-added t at number (Some new) of is h = record { each = counted (λ a. used_by a t) (λ a. used_by a (with_one t at number new)) h.each here others }
    where
      all : (a : ℕ) → used_by a (with_one t at number new) ≡ cond (contains_key t new.key) 0 (cond (a == new.key.account) 1 0) + used_by a t
      all a = count-insert tokens_total (λ (k : TokenKey). a == k.account) t new.key (record { at = at; first = new.first; number = number })

      step : (c : Bool) (old new n : ℕ) → new ≡ cond (not (not c)) old (old + 1) → old ≡ n → new ≡ cond c 0 1 + n
      step true old new n e f = omega (arith, e, f)
      step false old new n e f = omega (arith, e, f)

      here : row.tokens ≡ used_by account (with_one t at number new)
      here =
          step (contains_key t new.key) (tokens_at (get o account)) row.tokens (used_by account t) is (h.each account)
          ∙ ap (λ b. cond (contains_key t new.key) 0 (cond b 1 0) + used_by account t) (sym (itself account new.key.account of)) ∙ sym (all account)

      apart : (a b c : ℕ) → b ≡ c → (a == c) ≡ false → (a == b) ≡ false
      apart a b c e f = ap (λ n. a == n) e ∙ f

      nothing : (c : Bool) → ◌≡◌ {A = ℕ} (cond c 0 0) 0
      nothing true = refl
      nothing false = refl

      others : (a : ℕ) → (a == account) ≡ false → used_by a t ≡ used_by a (with_one t at number new)
      others a e =
          sym (zero-add _) ∙ ap (λ n. n + used_by a t) (sym (nothing (contains_key t new.key)))
          ∙ ap (λ b. cond (contains_key t new.key) 0 (cond b 1 0) + used_by a t) (sym (apart a new.key.account account of e)) ∙ sym (all a)

-- what is kept is the model's
pub kept-token : (t : Tokens) (at : Moment) (account number : ℕ) (request : Request) (token : Option (List ℕ)) → with_new t at number (new_token_of account request token) ≡ with_token t at account number request token
kept-token t at account number request None = refl
kept-token t at account number request (Some token) = refl

-- and the account's
pub of-account : (account : ℕ) (request : Request) (token : Option (List ℕ)) → IsOf account (new_token_of account request token)
of-account account request None = tt
of-account account request (Some token) = refl
