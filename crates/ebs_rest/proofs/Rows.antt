-- Rows of the program's table are found as the rows that they stand for.
use Rattle.std.proofs.Common.{◌≡◌, ℕ, Bool, ◌&&◌, List, [], ◌∷◌, refl, inl, inr}
use Rattle.std.specs.Prelude.{find}
use Rattle.std.specs.Option.{option_map}
use Rattle.std.specs.Borrow.{Bor}
use Rattle.std.specs.Str.{bytes_eq}
use Rattle.std.proofs.lemmas.Bool.{cases_Bool}
use Rattle.ebs_rest.specs.declared.table.Operation.{Operation}
use Rattle.ebs_rest.specs.inner.Router.{rows_of}
use Rattle.ebs_rest.specs.CallOf.{call_at}

abbrev pub Held : Type 0
Held = Bor (List ℕ) × Bor (List ℕ) × Operation

abbrev pub is_held : List ℕ → List ℕ → Held → Bool
is_held method route row = bytes_eq row.0.now method && bytes_eq row.1.now route

pub found_row : (method route : List ℕ) (rows : List Held) → call_at method route (rows_of rows) ≡ option_map (λ row. row.2) (find (is_held method route) rows)
found_row method route [] = refl
found_row method route (row ∷ rows) = elim (cases_Bool (is_held method route row)) [
  | inl at ↦ rw at refl
  | inr past ↦ rw past (found_row method route rows)
]
