-- Beside what is promised: the rows of the router: each path of the table once, with itself as its value.
use Rattle.std.specs.Prelude.{ℕ, List, map, Bool, true, Option, Some, None, false, Result, Ok, Err, ◌&&◌, [], ◌∷◌}
use Rattle.std.specs.Str.{bytes_eq}
use Rattle.std.specs.Borrow.{Bor}
use Rattle.matchit.specs.Route.{Scan, parse_route}
use Rattle.matchit.specs.Router.{RouteOf, nearest}
use Rattle.matchit.specs.declared.error.InsertError.{InsertError}
use Rattle.ebs_rest.specs.declared.table.Operation.{Operation}
use Rattle.ebs_rest.specs.CallOf.{rows, Row, Routed, with_path}

-- the table that a slice of the program holds
abbrev pub rows_of : List (Bor (List ℕ) × Bor (List ℕ) × Operation) → List Row
rows_of rows = map (λ r. (r.0.now, r.1.now, r.2)) rows

-- the path can be read, and conflicts with none that is there but itself
abbrev pub is_itself : List ℕ → Option (RouteOf (List ℕ)) → Bool
is_itself path None = true
is_itself path (Some route) = bytes_eq route.value path

abbrev pub fits_parsed : Routed → List ℕ → Result Scan InsertError → Bool
fits_parsed rows path (Ok scan) = is_itself path (nearest scan.pattern rows)
fits_parsed rows path (Err e) = false

abbrev pub fits : Routed → List ℕ → Bool
fits rows path = fits_parsed rows path (parse_route path)

abbrev pub all_fit : Routed → List Row → Bool
all_fit rows [] = true
all_fit rows (row ∷ others) = fits rows row.1 && all_fit (with_path rows row) others
