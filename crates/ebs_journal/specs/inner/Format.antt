-- Beside what is promised: the bytes of a journal area.
use Rattle.std.specs.Prelude.{ℕ, ◌+◌, List, [], ◌∷◌, length, ◌++◌}
use Rattle.ebs_world.specs.Image.{Spells}
use Rattle.ebs_journal.specs.Format.{entries, entry}

-- the places of these records' gates, the first of which is there
abbrev pub places_from : ℕ → List (List ℕ) → List ℕ
places_from gate [] = []
places_from gate (r ∷ rs) = gate ∷ places_from (gate + (5 + length r)) rs

-- the same with any gate, and one record more behind it with its closed gate
pub record Staged (f : ℕ → ℕ) (head : List ℕ) (rs : List (List ℕ)) (r : List ℕ) : Type 0 where
  pub spelled : Spells f 0 (head ++ entries rs)
  pub behind : Spells f (length (head ++ entries rs) + 1) (entry r ++ 0 ∷ [])
