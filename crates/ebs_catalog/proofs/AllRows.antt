-- Walks over all rows begin at the least key.
use Rattle.std.proofs.Common.{◌≡◌, ℕ, Bool, true, cond, List, [], ◌∷◌, Ordering, Less, Equal, Greater, refl, ap, ◌∙◌, arith}
use Rattle.std.proofs.lemmas.Bool.{false≢true}
use Rattle.std.proofs.lemmas.Bool.Decides.{nat_tests}
use Rattle.std.specs.Prelude.{nat_le}
use Rattle.std.specs.List.{filter}
use Rattle.std.specs.Cmp.Lexicographic.{slice_cmp}
use Rattle.std.specs.Ordering.{nat_cmp, is_le, ordering_then}
use Rattle.ebs_model.specs.declared.keys.TokenKey.{TokenKey}
use Rattle.ebs_model.specs.declared.keys.VolKey.{VolKey}
use Rattle.ebs_model.specs.Keys.{vol_cmp, token_cmp}
use Rattle.ebs_catalog.proofs.CountLaws.{le_first}
use Rattle.ebs_catalog.proofs.Tokens.{first_token}
use Rattle.ebs_catalog.proofs.VolumeWalks.{first_volume}

-- a test that all pass leaves all
pub all-kept : {A : Type 0} (p : A → Bool) → ((x : A) → p x ≡ true) → (xs : List A) → filter p xs ≡ xs
all-kept p h [] = refl
all-kept p h (x ∷ xs) = ap (λ b. cond b (x ∷ filter p xs) (filter p xs)) (h x) ∙ ap (λ t. x ∷ t) (all-kept p h xs)

same_test : (a b : ℕ) → is_le (nat_cmp a b) ≡ nat_le a b
same_test a b = grind (arith, nat_tests)

from_zero : (n : ℕ) → nat_le 0 n ≡ true
from_zero n = grind (arith, nat_tests)

pub least-account : (n : ℕ) → is_le (nat_cmp 0 n) ≡ true
least-account n = same_test 0 n ∙ from_zero n

pub least-volume : (key : VolKey) → is_le (vol_cmp (first_volume 0) key) ≡ true
least-volume key = le_first (record { account = key.account; number = key.number })

pub least-token : (key : TokenKey) → is_le (token_cmp (first_token 0) key) ≡ true
least-token key = above (nat_cmp 0 key.account) (slice_cmp nat_cmp [] key.text) (least-account key.account) (shortest key.text)
  where
    above : (s r : Ordering) → is_le s ≡ true → is_le r ≡ true → is_le (ordering_then s r) ≡ true
    above Less r e f = refl
    above Equal r e f = f
    above Greater r e f = absurd (false≢true e)

    shortest : (text : List ℕ) → is_le (slice_cmp nat_cmp [] text) ≡ true
    shortest [] = refl
    shortest (byte ∷ text) = refl
