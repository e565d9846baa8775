-- Time does to the kept form what it does to the machine.
use Rattle.std.proofs.Common.{◌≡◌, ℕ, Bool, true, false, cond, Option, Some, None, refl, sym, ap, ◌∙◌}
use Rattle.std.specs.Option.{option_map}
use Rattle.std.specs.Cmp.{nat_cmp_total}
use Rattle.std.specs.FinMap as fin
use Rattle.std.specs.FinMap.{nat_cmp-IsAntisymmetric, same_map}
use Rattle.ebs_model.specs.declared.keys.Moment.{Moment}
use Rattle.ebs_model.specs.declared.rows.SnapRow.{SnapRow}
use Rattle.ebs_model.specs.Keys.{snap_cmp}
use Rattle.ebs_model.specs.Arrays.{WholeArray}
use Rattle.ebs_model.specs.Time.{Snapshot, rested, is_failed, status_at, stays}
use Rattle.ebs_model.specs.Machine.{Machine, advance, aged_rows}
use Rattle.ebs_model.proofs.Aged.{get-aged, aged_row}
use Rattle.ebs_model.specs.inner.Orders.{snaps_total, exact_snaps}
use Rattle.ebs_model.specs.inner.MapValues.{map_values}
use Rattle.ebs_model.proofs.Values.{get-map_values, map_values-empty}
use Rattle.ebs_model.specs.inner.Kept.{digested, digested_snapshot, digested_array, digested_block}

emptied : (b : Bool) (a : WholeArray) → cond b fin.empty (digested_array a) ≡ digested_array (cond b fin.empty a)
emptied true a = sym (map_values-empty nat_cmp_total digested_block nat_cmp-IsAntisymmetric)
emptied false a = refl

abbrev snapshot : SnapRow → WholeArray → Snapshot
snapshot row array = record { row = row; array = array }

rested-kept : (now : ℕ) (s : Snapshot) → rested now (digested_snapshot s) ≡ digested_snapshot (rested now s)
rested-kept now s = ap (snapshot (rested now s).row) (emptied (is_failed (status_at s.row now)) s.array)

aged-kept : (now : ℕ) (o : Option Snapshot) → aged_row now (option_map digested_snapshot o) ≡ option_map digested_snapshot (aged_row now o)
aged-kept now None = refl
aged-kept now (Some s) = at (stays now s.row)
  where
    at : (b : Bool) → option_map (rested now) (cond b (Some (digested_snapshot s)) None) ≡ option_map digested_snapshot (option_map (rested now) (cond b (Some s) None))
    at true = ap (λ (t : Snapshot). Some t) (rested-kept now s)
    at false = refl

rows-kept : (now : ℕ) (m : fin.FinMap snap_cmp Snapshot) → aged_rows now (map_values digested_snapshot m) ≡ map_values digested_snapshot (aged_rows now m)
rows-kept now m = same_map snaps_total exact_snaps _ _ (λ q.
    get-aged now (map_values digested_snapshot m) q ∙ ap (aged_row now) (get-map_values snaps_total digested_snapshot m q) ∙ aged-kept now (fin.get m q)
    ∙ ap (option_map digested_snapshot) (sym (get-aged now m q)) ∙ sym (get-map_values snaps_total digested_snapshot (aged_rows now m) q))

pub advance-kept : (m : Machine) (now : Moment) → advance (digested m) now ≡ digested (advance m now)
advance-kept m now = ap (λ (snaps : fin.FinMap snap_cmp Snapshot). record m { clock = now; snaps = snaps; disks = map_values digested_array m.disks }) (rows-kept now.second m.snaps)
