-- Finite maps by number.
use Rattle.std.proofs.Common.{◌≡◌, ℕ, cond, Option, Some, None, IsSome, IfNone, refl, ap, ◌∙◌}
use Rattle.std.proofs.lemmas.Bool.{false≢true}
use Rattle.std.specs.Ordering.{nat_cmp}
use Rattle.std.specs.Cmp.{nat_cmp_total}
use Rattle.std.specs.FinMap as map
use Rattle.std.specs.FinMap.{get-remove}
use Rattle.ebs_tables.proofs.MapEdits.{tied}
use Rattle.ebs_lineage.proofs.Changes.{unequal}

pub none_some : {A B : Type 0} (a : A) → None ≡ Some a → B
none_some a e = absurd (cc)

pub some_same : {A : Type 0} (a b : A) → Some a ≡ Some b → a ≡ b
some_same a b e = cc

pub some_of : {A : Type 0} (o : Option A) → IsSome o → (x : A) × (o ≡ Some x)
some_of None h = absurd (false≢true h)
some_of (Some x) h = (x, refl)

module _ {X : Type 0} (m : map.FinMap nat_cmp X) (k : ℕ) where
  pub removed-here : map.get (map.remove m k) k ≡ None
  removed-here = get-remove nat_cmp_total m k k ∙ ap (λ b. cond b None (map.get m k)) (tied nat_cmp_total k)

  pub removed-other : (q : ℕ) → (q ≡ k → ⊥) → map.get (map.remove m k) q ≡ map.get m q
  removed-other q h = get-remove nat_cmp_total m k q ∙ ap (λ b. cond b None (map.get m q)) (unequal q k h)

-- what holds anyway
pub on_none : {A : Type 0} (o : Option A) {P : Type 0} → P → IfNone o P
on_none None p = p
on_none (Some x) p = tt
