-- Moves that wait, in the order of key, index and way.
use Rattle.std.proofs.Common.{ap, ℕ, Bool, true, false, List, map as list_map, Option, Some, None, refl}
use Rattle.std.specs.Prelude.{if◌then◌else◌}
use Rattle.std.specs.List.{filter}
use Rattle.std.specs.declared.cmp.Ordering.{Ordering}
use Rattle.std.specs.Ordering.{nat_cmp, bool_cmp, ordering_then}
use Rattle.std.specs.FinMap as map
use Rattle.std.proofs.lemmas.Map.Lookups.{exact_pairs, exact_unsigned}
use Rattle.ebs_model.specs.declared.keys.SnapKey.{SnapKey}
use Rattle.ebs_model.specs.Keys.{snap_cmp}
use Rattle.ebs_model.specs.inner.Orders.{exact_snaps}
use Rattle.ebs_model.specs.Rows.{is_key}
use Rattle.ebs_tier.specs.declared.moves.Wanted.{Wanted}

abbrev pub wanted_cmp : Wanted → Wanted → Ordering
wanted_cmp a b = ordering_then (snap_cmp a.key b.key) (ordering_then (nat_cmp a.index b.index) (bool_cmp a.to_archive b.to_archive))

exact_bool : map.IsAntisymmetric bool_cmp
exact_bool true true e = refl
exact_bool false false e = refl
exact_bool true false e = absurd cc
exact_bool false true e = absurd cc

-- moves that compare alike are one
pub exact_wanted : map.IsAntisymmetric wanted_cmp
exact_wanted a b h = ap (λ (p : SnapKey × (ℕ × Bool)). record { key = p.0; index = p.1.0; to_archive = p.1.1 })
    (exact_pairs snap_cmp (λ x y. ordering_then (nat_cmp x.0 y.0) (bool_cmp x.1 y.1)) exact_snaps (exact_pairs nat_cmp bool_cmp exact_unsigned exact_bool) (a.key, (a.index, a.to_archive)) (b.key, (b.index, b.to_archive)) h)

abbrev pub Waits : Type 0
Waits = map.FinMap wanted_cmp (Unit {0})

-- all that wait, in ascending order
abbrev pub waiting : Waits → List Wanted
waiting m = list_map (λ e. e.0) (map.entries m)

-- those of a snapshot
abbrev pub waiting_of : Waits → SnapKey → List Wanted
waiting_of m key = filter (λ w. is_key w.key key) (waiting m)

-- the move, if it is of the snapshot
abbrev pub of_key : Wanted → SnapKey → Option Wanted
of_key w key = if is_key w.key key then Some w else None
