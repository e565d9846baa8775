-- What is told of a source, a sink, a clock and of faults.
use Rattle.std.specs.Prelude.{ℕ, List, Option, ◌≡◌, ◌++◌, ◌≤◌, OnErr, Result, [], ◌∷◌, Some, None}
use Rattle.std.specs.Io.KnownBytes.{Appends}
use Rattle.ebs_model.specs.Quotas.{Rose}

-- the bytes that are left, where the source tells them, and how often it has failed
pub record Inlet : Type 0 where
  pub left : Option (List ℕ)
  pub faults : ℕ

-- the bytes so far, where the sink tells them, and how often it has failed
pub record Outlet : Type 0 where
  pub written : Option (List ℕ)
  pub faults : ℕ

-- the whole begins with this
abbrev pub IsFront : List ℕ → List ℕ → Type 0
IsFront front whole = (rest : List ℕ) × (whole ≡ front ++ rest)

-- some front of the piece was appended
abbrev pub AppendsFront : Option (List ℕ) → Option (List ℕ) → List ℕ → Type 0
AppendsFront old new piece = (front : List ℕ) × IsFront front piece × Appends old new front

-- the count didn't fall, and a failure is answered only where it rose
pub record HasCause {T E : Type 0} (before now : ℕ) (result : Result T E) : Type 0 where
  pub later : before ≤ now
  pub failed : OnErr result (Rose before now)

-- the readings that the clock will give, in seconds, where it tells them: at least one, and the last comes again and again
pub record Timeline : Type 0 where
  pub readings : Option (List ℕ)

-- the clock gave this reading: the first that it tells, which goes unless it is the last
abbrev pub Ticks : Option (List ℕ) → Option (List ℕ) → ℕ → Type 0
Ticks None new reading = new ≡ None
Ticks (Some []) new reading = ⊥
Ticks (Some (first ∷ [])) new reading = (reading ≡ first) × (new ≡ Some (first ∷ []))
Ticks (Some (first ∷ second ∷ later)) new reading = (reading ≡ first) × (new ≡ Some (second ∷ later))

-- the clock gave these readings, one after another
abbrev pub Gives : Option (List ℕ) → List ℕ → Option (List ℕ) → Type 0
Gives old [] new = new ≡ old
Gives old (reading ∷ readings) new = (mid : Option (List ℕ)) × Ticks old mid reading × Gives mid readings new
