-- Rows that stand at their own keys.
use Rattle.std.specs.Prelude.{◌≡◌, List, Some}
use Rattle.std.specs.declared.cmp.Ordering.{Ordering}
use Rattle.std.specs.List.{AllByRecursion}
use Rattle.std.specs.FinMap as map

-- each row of a map has the key that it stands at
abbrev pub ArePlaced : {K V : Type 0} {R : K → K → Ordering} → (V → K) → map.FinMap R V → Type 0
ArePlaced {K} {V} own m = (key : K) (row : V) → map.get m key ≡ Some row → own row ≡ key

-- and so does each of a list
abbrev pub HaveKeys : {K V : Type 0} → (V → K) → List (K × V) → Type 0
HaveKeys own rows = AllByRecursion (λ e. own e.1 ≡ e.0) rows
