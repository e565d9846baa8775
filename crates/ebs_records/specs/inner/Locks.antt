-- Beside what is promised: modes and terms of locks.
use Rattle.std.proofs.Common.{◌≡◌, ℕ, List, ◌∷◌, refl, ◌++◌, ap}
use Rattle.ebs_model.specs.declared.lock.LockMode.TheVariants.{Governance, Compliance}
use Rattle.ebs_model.specs.declared.lock.Term.TheVariants.{Days, Date}
use Rattle.ebs_records.specs.Fields.{IsMode, mode, IsTerm, term, word, moment}
use Rattle.ebs_records.specs.inner.Apart.{Apart}
use Rattle.ebs_records.specs.inner.Keys.{apart_moment}
use Rattle.ebs_records.specs.inner.Numbers.{apart_word}

apart_heads : (m n : ℕ) (x y : List ℕ) → m ∷ x ≡ n ∷ y → (m ≡ n) × (x ≡ y)
apart_heads m n x y e = (cc, cc)

pub apart_mode : Apart IsMode mode
apart_mode Governance Governance x y a b e = (refl, (apart_heads 0 0 x y e).1)
apart_mode Compliance Compliance x y a b e = (refl, (apart_heads 1 1 x y e).1)
apart_mode Governance Compliance x y a b e = absurd cc
apart_mode Compliance Governance x y a b e = absurd cc

pub apart_term : Apart IsTerm term
apart_term (Days v) (Days w) x y a b e = let both = apart_word v w x y a b (apart_heads 0 0 (word v ++ x) (word w ++ y) e).1 in (ap Days both.0, both.1)
apart_term (Date v) (Date w) x y a b e = let both = apart_moment v w x y a b (apart_heads 1 1 (moment v ++ x) (moment w ++ y) e).1 in (ap Date both.0, both.1)
apart_term (Days v) (Date w) x y a b e = absurd cc
apart_term (Date v) (Days w) x y a b e = absurd cc
