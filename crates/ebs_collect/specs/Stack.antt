-- Nodes that wait, on a stack that goes through them.
use Rattle.std.specs.Prelude.{◌≡◌, ◌⊎◌, ℕ, List, [], ◌∷◌}
use Rattle.std.specs.declared.option.Option.{Option}
use Rattle.std.specs.declared.option.Option.TheVariants.{None, Some}
use Rattle.std.specs.List.{sum_by}
use Rattle.std.specs.FinMap as map
use Rattle.ebs_lineage.specs.declared.place.Place.{Place}
use Rattle.ebs_lineage.specs.Places.{Places}

abbrev pub IsIn : ℕ → List ℕ → Type 0
IsIn n [] = ⊥
IsIn n (m ∷ ms) = (n ≡ m) ⊎ IsIn n ms

-- from the first on each of these nodes leads to the next one, and none stands there twice
abbrev pub IsChain : Places → Option ℕ → List ℕ → Type 0
IsChain places first [] = first ≡ None
IsChain places first (n ∷ ns) = (p : Place) × (first ≡ Some n) × (IsIn n ns → ⊥) × (map.get places n ≡ Some p) × IsChain places p.next ns

-- each node that has a place stands there
pub record IsStack (places : Places) (first : Option ℕ) : Type 0 where
  pub order : List ℕ
  pub chain : IsChain places first order
  pub all : (n : ℕ) (p : Place) → map.get places n ≡ Some p → IsIn n order

-- how many blocks wait
abbrev pub waiting_in : Places → ℕ
waiting_in places = sum_by (λ e. e.1.left) (map.entries places)
