-- Beside what is promised: flags and options: a byte of 0 or 1, and what follows.
use Rattle.std.proofs.Common.{◌≡◌, ℕ, List, ◌∷◌, true, false, refl, ◌++◌, Option, Some, None, ap}
use Rattle.ebs_records.specs.Fields.{IsFlag, flag, IsOptional, optional}
use Rattle.ebs_records.specs.inner.Apart.{Apart}

apart_heads : (m n : ℕ) (x y : List ℕ) → m ∷ x ≡ n ∷ y → (m ≡ n) × (x ≡ y)
apart_heads m n x y e = (cc, cc)

pub apart_flag : Apart IsFlag flag
apart_flag false false x y a b e = (refl, (apart_heads 0 0 x y e).1)
apart_flag true true x y a b e = (refl, (apart_heads 1 1 x y e).1)
apart_flag false true x y a b e = absurd cc
apart_flag true false x y a b e = absurd cc

pub apart_optional : {V : Type 0} (fits : V → Type 0) (spelled : V → List ℕ) → Apart fits spelled → Apart {V = Option V} (IsOptional fits) (optional spelled)
apart_optional fits spelled apart None None x y a b e = (refl, (apart_heads 0 0 x y e).1)
apart_optional fits spelled apart (Some v) (Some w) x y a b e = let both = apart v w x y a b (apart_heads 1 1 (spelled v ++ x) (spelled w ++ y) e).1 in (ap Some both.0, both.1)
apart_optional fits spelled apart None (Some w) x y a b e = absurd cc
apart_optional fits spelled apart (Some v) None x y a b e = absurd cc
