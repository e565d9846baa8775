-- Beside what is promised: what stands in a path where its route has a name, and what a router takes there.
use Rattle.std.specs.Prelude.{ℕ, List, Bool, ◌&&◌, ◌≡◌}
use Rattle.std.specs.List.{list_all}
use Rattle.std.specs.Str.{is_utf8}
use Rattle.matchit.specs.Params.{walk, named}
use Rattle.matchit.specs.declared.params.Params.{Params}
use Rattle.ebs_members.specs.Sources.{captured}

-- what a router took from a path: the names of a route, each with its part of the path
abbrev pub taken : Params → List (List ℕ × List ℕ)
taken params = walk params.pattern.now params.text.now params.path.now params.names.now 0 0

abbrev pub are_texts : List (List ℕ × List ℕ) → Bool
are_texts pairs = list_all (λ p. is_utf8 p.0 && is_utf8 p.1) pairs

-- by each name it is what stands there
abbrev pub AreCaptured : Params → Type 0
AreCaptured params = (name : List ℕ) → named name (taken params) ≡ captured name params.text.now params.path.now
