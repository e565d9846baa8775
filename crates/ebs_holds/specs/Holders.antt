-- Snapshots and volumes, in one order.
use Rattle.std.specs.Prelude.{true, false, Bool}
use Rattle.std.specs.declared.cmp.Ordering.{Ordering}
use Rattle.std.specs.Ordering.{nat_cmp, bool_cmp, ordering_then, eq_by_cmp}
use Rattle.ebs_model.specs.declared.keys.SnapKey.{SnapKey}
use Rattle.ebs_model.specs.declared.keys.VolKey.{VolKey}
use Rattle.ebs_holds.specs.declared.holder.Holder.{Holder}

abbrev pub holder_cmp : Holder → Holder → Ordering
holder_cmp a b = ordering_then (bool_cmp a.is_volume b.is_volume) (ordering_then (nat_cmp a.account b.account) (nat_cmp a.number b.number))

abbrev pub of_snap : SnapKey → Holder
of_snap key = record { is_volume = false; account = key.account; number = key.number }

abbrev pub of_vol : VolKey → Holder
of_vol key = record { is_volume = true; account = key.account; number = key.number }

abbrev pub is_holder : Holder → Holder → Bool
is_holder a b = eq_by_cmp holder_cmp a b
