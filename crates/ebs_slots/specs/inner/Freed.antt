-- Slots that were given back.
use Rattle.std.specs.Prelude.{ℕ, ◌≡◌, None, ◌<◌, ◌≤◌, ◌⊎◌, List, [], ◌∷◌}
use Rattle.std.specs.Ordering.{nat_cmp}
use Rattle.std.specs.FinMap as map

-- the list has the slot
abbrev pub Has : List ℕ → ℕ → Type 0
Has [] n = ⊥
Has (x ∷ xs) n = (x ≡ n) ⊎ Has xs n

-- no key and no lease has the slot
abbrev pub IsUnused : map.FinMap nat_cmp ℕ → map.FinMap nat_cmp (List ℕ) → ℕ → Type 0
IsUnused owners leases slot = (map.get owners slot ≡ None) × (map.get leases slot ≡ None)

-- each unused slot below the number is on the list
abbrev pub AreListed : map.FinMap nat_cmp ℕ → map.FinMap nat_cmp (List ℕ) → List ℕ → ℕ → Type 0
AreListed owners leases freed low = (n : ℕ) → n < low → IsUnused owners leases n → Has freed n

-- an unused slot below the top, or the top where none is, and what is left of the list and the number
pub record IsChosen (owners : map.FinMap nat_cmp ℕ) (leases : map.FinMap nat_cmp (List ℕ)) (top : ℕ) (freed : List ℕ) (slot low : ℕ) : Type 0 where
  pub taken : ((slot < top) × IsUnused owners leases slot) ⊎ ((slot ≡ top) × ((n : ℕ) → n < top → IsUnused owners leases n → ⊥))
  pub listed : (n : ℕ) → n < low → IsUnused owners leases n → Has freed n ⊎ (n ≡ slot)
  pub below : low ≤ top
