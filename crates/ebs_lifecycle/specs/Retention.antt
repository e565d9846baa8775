-- How what a retention rule gives up is found: by rank, and in ascending key.
use Rattle.std.specs.Prelude.{◌≡◌, ◌≤◌, ◌^◌, Bool, false, List, map}
use Rattle.std.specs.List.{filter, All}
use Rattle.std.specs.List.Sorted.{IsPermutation, IsSorted, IsSortedByKey}
use Rattle.std.specs.declared.cmp.Ordering.{Ordering}
use Rattle.std.specs.declared.option.Option.{Option}
use Rattle.std.specs.declared.option.Option.TheVariants.{None, Some}
use Rattle.std.specs.Ordering.{nat_cmp, ordering_then, is_lt}
use Rattle.ebs_model.specs.declared.keys.SnapKey.{SnapKey}
use Rattle.ebs_model.specs.declared.keys.AnyKey.{AnyKey}
use Rattle.ebs_model.specs.declared.keys.AnyKey.TheVariants.{Snap}
use Rattle.ebs_model.specs.declared.policy.Made.{Made}
use Rattle.ebs_model.specs.Keys.{snap_cmp}
use Rattle.ebs_lifecycle.specs.declared.ranks.Rank.{Rank}

-- ---- rank

abbrev pub rank_of : Made → Rank
rank_of m = record { start = m.start; key = m.key }

-- by start, then by key
abbrev pub rank_cmp : Rank → Rank → Ordering
rank_cmp a b = ordering_then (nat_cmp a.start.second b.start.second) (snap_cmp a.key b.key)

-- it is older than the rank that is given, if any
abbrev pub is_older : Option Rank → Made → Bool
is_older None m = false
is_older (Some r) m = is_lt (rank_cmp (rank_of m) r)

-- ---- keys

-- the keys of those that pass a test
abbrev pub keys_of : (Made → Bool) → List Made → List SnapKey
keys_of test made = map (λ m. m.key) (filter test made)

-- ids are these keys in ascending order
abbrev pub AreInOrder : List SnapKey → List AnyKey → Type 0
AreInOrder keys ids = (sorted : List SnapKey) × (ids ≡ map Snap sorted) × IsSorted snap_cmp sorted × IsPermutation keys sorted

-- they ascend already
abbrev pub Ascend : List Made → Type 0
Ascend made = IsSortedByKey (λ m. m.key) snap_cmp made

-- every start is a moment of the store
abbrev pub AreStarted : List Made → Type 0
AreStarted made = All (λ m. m.start.second ≤ 2 ^ 36) made
