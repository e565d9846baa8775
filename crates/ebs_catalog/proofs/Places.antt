-- Rows at their own keys.
use Rattle.std.proofs.Common.{◌≡◌, Option, None, Some, refl, sym, ap, ◌∙◌}
use Rattle.std.specs.Option.{option_map}
use Rattle.std.specs.FinMap.{FinMap, get}
use Rattle.ebs_model.specs.declared.keys.SnapKey.{SnapKey}
use Rattle.ebs_model.specs.declared.rows.SnapRow.{SnapRow}
use Rattle.ebs_model.specs.Keys.{snap_cmp}
use Rattle.ebs_model.specs.inner.MapValues.{map_values}
use Rattle.ebs_model.specs.inner.Orders.{snaps_total}
use Rattle.ebs_model.proofs.Values.{get-map_values}
use Rattle.ebs_catalog.specs.declared.rows.KeptRow.{KeptRow}
use Rattle.ebs_catalog.specs.Held.{whole}
use Rattle.ebs_catalog.specs.Sound.{IsSound}

none_some : {B : Type 0} (row : SnapRow) → None ≡ Some row → B
none_some row e = absurd (cc)

some_same : (a b : SnapRow) → ◌≡◌ {A = Option SnapRow} (Some a) (Some b) → a ≡ b
some_same a b e = cc

pub placed : (snaps : FinMap snap_cmp KeptRow) → IsSound snaps → (key : SnapKey) (row : SnapRow) → get (map_values whole snaps) key ≡ Some row → row.key ≡ key
placed snaps sound key row found = by (get snaps key) refl (sym (get-map_values snaps_total whole snaps key) ∙ found)
  where
    by : (o : Option KeptRow) → get snaps key ≡ o → option_map whole o ≡ Some row → row.key ≡ key
    by None is e = none_some row e
    by (Some k) is e = ap (λ (r : SnapRow). r.key) (sym (some_same (whole k) row e)) ∙ (sound.each key k is).place
