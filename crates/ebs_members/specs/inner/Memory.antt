-- Where memory is taken: for what is decoded or copied, so for nothing where nothing is given.
use Rattle.std.specs.Prelude.{◌≡◌, ℕ, List, [], Option, Some, None}
use Rattle.ebs_members.specs.Sources.{Given}

-- there is something to decode
abbrev pub IsGiven : List ℕ → Type 0
IsGiven bytes = bytes ≡ [] → ⊥

-- a member is found
abbrev pub IsThere : Option Given → Type 0
IsThere None = ⊥
IsThere (Some given) = Unit {0}
