-- What a reader tells of the front of some bytes.
use Rattle.std.specs.Prelude.{◌≡◌, ℕ, List, ◌++◌, Result, Ok, Err}
use Rattle.ebs_records.specs.declared.codec.Unread.{Unread}
use Rattle.ebs_records.specs.declared.codec.Unread.TheVariants.{Malformed, Memory}

-- a value was taken whose spelling began the bytes; or no value's spelling does; or memory was wanting
abbrev pub Reads : {V : Type 0} → (V → Type 0) → (V → List ℕ) → List ℕ → List ℕ → Result V Unread → Type 0
Reads fits spelled old new (Ok v) = fits v × (old ≡ spelled v ++ new)
Reads fits spelled old new (Err Malformed) = (v : _) (rest : List ℕ) → fits v → old ≡ spelled v ++ rest → ⊥
Reads fits spelled old new (Err Memory) = Unit {0}
