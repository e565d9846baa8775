-- Keys: each an index of a snapshot.
use Rattle.std.specs.Prelude.{◌≡◌, ℕ, ◌≤◌, ◌<◌, Bool, true, not, T, List}
use Rattle.std.specs.declared.option.Option.{Option}
use Rattle.std.specs.declared.option.Option.TheVariants.{None, Some}
use Rattle.std.specs.declared.cmp.Ordering.{Ordering}
use Rattle.std.specs.Ordering.{nat_cmp, ordering_then, is_le}
use Rattle.std.specs.List.{AllByRecursion}
use Rattle.std.specs.Map.{keys_of}
use Rattle.std.specs.FinMap.Entries.{is_sorted}
use Rattle.std.specs.FinMap as map
use Rattle.ebs_model.specs.declared.keys.SnapKey.{SnapKey}
use Rattle.ebs_model.specs.Keys.{snap_cmp}
use Rattle.ebs_model.specs.Rows.{is_key}
use Rattle.ebs_archive.specs.declared.copy_key.CopyKey.{CopyKey}

-- by account, number and index
abbrev pub copy_key_cmp : CopyKey → CopyKey → Ordering
copy_key_cmp a b = ordering_then (snap_cmp a.key b.key) (nat_cmp a.index b.index)

abbrev pub copy_key : SnapKey → ℕ → CopyKey
copy_key key index = record { key = key; index = index }

-- the key is of the snapshot
abbrev pub in_row : SnapKey → CopyKey → Bool
in_row key p = is_key p.key key

-- what is at an index of the snapshot
abbrev pub row : {X : Type 0} → map.FinMap copy_key_cmp X → SnapKey → ℕ → Option X
row m key index = map.get m (copy_key key index)

-- what is at the keys of other snapshots
abbrev pub without_row : {X : Type 0} → map.FinMap copy_key_cmp X → SnapKey → map.FinMap copy_key_cmp X
without_row m key = map.retain_keys m (λ p. not (in_row key p))

-- the least index at or above the given one at which something is found, with what is found there
abbrev pub IsLeastFrom : {X : Type 0} → (ℕ → Option X) → ℕ → Option (ℕ × X) → Type 0
IsLeastFrom at index None = (q : ℕ) → index ≤ q → at q ≡ None
IsLeastFrom at index (Some e) = (index ≤ e.0) × (at e.0 ≡ Some e.1) × ((q : ℕ) → index ≤ q → q < e.0 → at q ≡ None)

-- the entries ascend, and none stands below the snapshot's keys
abbrev pub IsFrom : {X : Type 0} → SnapKey → List (CopyKey × X) → Type 0
IsFrom key es = T (is_sorted copy_key_cmp es) × AllByRecursion (λ p. is_le (copy_key_cmp (copy_key key 0) p) ≡ true) (keys_of es)
