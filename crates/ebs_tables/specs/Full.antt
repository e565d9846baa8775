-- Keys that are ready for a value, and those that have one.
use Rattle.std.specs.Prelude.{List, [], ◌∷◌, Bool, false, if◌then◌else◌}
use Rattle.std.specs.declared.option.Option.{Option}
use Rattle.std.specs.declared.option.Option.TheVariants.{None, Some}
use Rattle.std.specs.declared.cmp.Ordering.{Ordering}
use Rattle.std.specs.FinMap as map
use Rattle.ebs_tables.specs.Seen.{seen}
use Rattle.ebs_tables.specs.declared.slots.Slots.{Slots}

abbrev pub kept : {K V : Type 0} → K → Option V → List (K × V) → List (K × V)
kept k None rest = rest
kept k (Some v) rest = (k, v) ∷ rest

abbrev pub filled : {K V : Type 0} → List (K × Option V) → List (K × V)
filled [] = []
filled (e ∷ es) = kept e.0 e.1 (filled es)

-- the keys that have a value, with it
unfoldable pub full : {K V : Type 0} {R : K → K → Ordering} → map.FinMap R (Option V) → map.FinMap R V
full m = map.from_entries (filled (map.entries m))

-- what is at each key that is ready
abbrev pub slots_of : {K V : Type 0} → (R : K → K → Ordering) → Slots K V → map.FinMap R (Option V)
slots_of R s = seen R s.slots

-- what the slots have
abbrev pub held : {K V : Type 0} → (R : K → K → Ordering) → Slots K V → map.FinMap R V
held R s = full (slots_of R s)

-- whether the key is ready, with a value or without
abbrev pub is_ready : {K V : Type 0} → (R : K → K → Ordering) → Slots K V → K → Bool
is_ready R s key = map.contains_key (slots_of R s) key

-- the slots without a key that has no value
abbrev pub released : {K V : Type 0} {R : K → K → Ordering} → map.FinMap R (Option V) → K → map.FinMap R (Option V)
released m key = if map.contains_key (full m) key then m else map.remove m key

-- a test of a slot, which one without a value fails
abbrev pub slot_test : {K V : Type 0} → (K × V → Bool) → K → Option V → Bool
slot_test p k None = false
slot_test p k (Some v) = p (k, v)
