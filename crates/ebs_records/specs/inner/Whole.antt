-- What bytes are, all of them.
use Rattle.std.specs.Prelude.{◌≡◌, ℕ, List, Bool, ◌&&◌, if◌then◌else◌}
use Rattle.ebs_records.specs.declared.records.Read.{Read}
use Rattle.ebs_records.specs.declared.records.Read.TheVariants.{Value, NoValue, Memory}
use Rattle.ebs_records.specs.declared.record.Record.{Record}
use Rattle.ebs_records.specs.Records.{has_limits}

-- the value that is spelled so; or none is; or memory was wanting
abbrev pub Spells : {V : Type 0} → (V → Type 0) → (V → List ℕ) → List ℕ → Read V → Type 0
Spells fits spelled bytes (Value v) = fits v × (bytes ≡ spelled v)
Spells fits spelled bytes NoValue = (v : _) → fits v → bytes ≡ spelled v → ⊥
Spells fits spelled bytes Memory = Unit {0}

-- a record that was read, where it is all of the bytes and within its limits
abbrev pub judged : Record → Bool → Read Record
judged v ended = if ended && has_limits v then Value v else NoValue
