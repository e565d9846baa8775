-- Walks over an account's volumes.
use Rattle.std.proofs.Common.{◌≡◌, ℕ, ◌+◌, ◌==◌, arith, Bool, true, false, ◌&&◌, not, List, Ordering, Less, Equal, Greater, refl, sym, ap, subst, ◌∙◌}
use Rattle.std.proofs.lemmas.Bool.{false≢true}
use Rattle.std.proofs.lemmas.Bool.Decides.{nat_tests}
use Rattle.std.proofs.lemmas.Cmp.{tied_itself}
use Rattle.std.specs.Prelude.{nat_le}
use Rattle.std.specs.Cmp.{nat_cmp_total}
use Rattle.std.specs.List.{filter}
use Rattle.std.specs.Ordering.{is_le, nat_cmp, ordering_then}
use Rattle.ebs_tables.specs.Seen.{is_within}
use Rattle.ebs_model.specs.declared.keys.VolKey.{VolKey}
use Rattle.ebs_model.specs.declared.rows.VolRow.{VolRow}
use Rattle.ebs_model.specs.declared.policy.Policy.{Policy}
use Rattle.ebs_model.specs.Keys.{vol_cmp}
use Rattle.ebs_model.specs.Policies.{is_target}
use Rattle.ebs_catalog.specs.Runs.{is_own_target}
use Rattle.ebs_catalog.proofs.CountLaws.{and_left}
use Rattle.ebs_catalog.proofs.Listed.{filter-within}

abbrev pub first_volume : ℕ → VolKey
first_volume account = record { account = account; number = 0 }

same_number : (a b : ℕ) → (a == b) ≡ true → a ≡ b
same_number a b e = grind (arith, nat_tests)

same_test : (a b : ℕ) → is_le (nat_cmp a b) ≡ nat_le a b
same_test a b = grind (arith, nat_tests)

from_zero : (n : ℕ) → nat_le 0 n ≡ true
from_zero n = grind (arith, nat_tests)

not_below : (a : ℕ) → nat_le (a + 1) a ≡ false
not_below a = grind (arith, nat_tests)

le_self : (a n : ℕ) → is_le (ordering_then (nat_cmp a a) (nat_cmp 0 n)) ≡ true
le_self a n = ap (λ r. is_le (ordering_then r (nat_cmp 0 n))) (tied_itself nat_cmp_total a) ∙ same_test 0 n ∙ from_zero n

greater : (s r : Ordering) → is_le s ≡ false → not (is_le (ordering_then s r)) ≡ true
greater Less r e = absurd (false≢true (sym e))
greater Equal r e = absurd (false≢true (sym e))
greater Greater r e = refl

both : (b c : Bool) → b ≡ true → c ≡ true → (b && c) ≡ true
both true c p q = q
both false c p q = absurd (false≢true p)

starts : (account : ℕ) (key : VolKey) → (account == key.account) ≡ true → is_le (vol_cmp (first_volume account) key) ≡ true
starts account key h = subst (λ a. is_le (ordering_then (nat_cmp account a) (nat_cmp 0 key.number)) ≡ true) (same_number account key.account h) (le_self account key.number)

ends : (account : ℕ) (key : VolKey) → (account == key.account) ≡ true → not (is_le (vol_cmp (first_volume (account + 1)) key)) ≡ true
ends account key h = subst (λ a. not (is_le (ordering_then (nat_cmp (account + 1) a) (nat_cmp 0 key.number))) ≡ true) (same_number account key.account h) (greater (nat_cmp (account + 1) account) _ (same_test (account + 1) account ∙ not_below account))

module _ (account : ℕ) (p : Policy) (es : List (VolKey × VolRow)) where
  own : (e : VolKey × VolRow) → is_own_target account p e ≡ true → (account == e.0.account) ≡ true
  own e h = and_left (account == e.0.account) (is_target p e.1) h

  pub targets-until : filter (is_own_target account p) (filter (λ e. is_within vol_cmp (first_volume account) (first_volume (account + 1)) e.0) es) ≡ filter (is_own_target account p) es
  targets-until = filter-within _ _ (λ e h. both _ _ (starts account e.0 (own e h)) (ends account e.0 (own e h))) es

  pub targets-from : filter (is_own_target account p) (filter (λ e. is_le (vol_cmp (first_volume account) e.0)) es) ≡ filter (is_own_target account p) es
  targets-from = filter-within _ _ (λ e h. starts account e.0 (own e h)) es
