-- Lists of numbers, taken as sets.
use Rattle.std.specs.Prelude.{ℕ, Bool, true, not, ◌&&◌, ◌==◌, List, [], ◌∷◌}
use Rattle.std.specs.List.{list_all, list_any}

-- the number stands in the list
abbrev pub has : List ℕ → ℕ → Bool
has ns n = list_any (λ m. m == n) ns

-- none stands twice
abbrev pub are_distinct : List ℕ → Bool
are_distinct [] = true
are_distinct (n ∷ ns) = not (has ns n) && are_distinct ns

-- each of either list stands in the other
abbrev pub are_same : List ℕ → List ℕ → Bool
are_same ms ns = list_all (has ns) ms && list_all (has ms) ns
