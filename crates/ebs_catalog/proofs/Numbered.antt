-- Ids numbered one after another.
use Rattle.std.proofs.Common.{◌≡◌, ℕ, suc, zero, ◌+◌, arith, List, [], ◌∷◌, ◌++◌, map, length, refl, sym, ap, ◌∙◌}
use Rattle.ebs_model.specs.declared.keys.VolKey.{VolKey}
use Rattle.ebs_model.specs.declared.keys.AnyKey.{AnyKey}
use Rattle.ebs_model.specs.declared.keys.AnyKey.TheVariants.{Snap}
use Rattle.ebs_model.specs.declared.rows.VolRow.{VolRow}
use Rattle.ebs_model.specs.Calls.Run.{new_keys}

abbrev pub id_at : ℕ → ℕ → AnyKey
id_at account number = Snap (record { account = account; number = number })

-- so many of an account's from a number on
abbrev pub numbered : ℕ → ℕ → ℕ → List AnyKey
numbered account first zero = []
numbered account first (suc count) = numbered account first count ++ id_at account (first + count) ∷ []

from_front : (account first count : ℕ) → numbered account first (suc count) ≡ id_at account first ∷ numbered account (first + 1) count
from_front account first zero = let e : first + 0 ≡ first = omega arith in λ i. id_at account (e i) ∷ []
from_front account first (suc count) =
    let e : first + suc count ≡ (first + 1) + count = omega arith in
    λ i. from_front account first count i ++ id_at account (e i) ∷ []

-- they are those of what a run makes
pub are-new : (account first : ℕ) (volumes : List (VolKey × VolRow)) → numbered account first (length volumes) ≡ map Snap (new_keys (record { account = account; number = first }) volumes)
are-new account first [] = refl
are-new account first (e ∷ volumes) = from_front account first (length volumes) ∙ ap (λ ids. id_at account first ∷ ids) (are-new account (first + 1) volumes)

pub are-so-many : (account first count : ℕ) (ids : List AnyKey) → ids ≡ numbered account first count
    → (volumes : List (VolKey × VolRow)) → length volumes ≡ count → ids ≡ map Snap (new_keys (record { account = account; number = first }) volumes)
are-so-many account first count ids is volumes e = is ∙ sym (ap (numbered account first) e) ∙ are-new account first volumes
