-- What is kept of each volume's row, through edits.
use Rattle.std.proofs.Common.{◌≡◌, Bool, true, false, cond, Option, Some, None, refl, sym, subst, ◌∙◌}
use Rattle.std.specs.Ordering.{eq_by_cmp}
use Rattle.std.specs.FinMap.{FinMap, get, insert, remove, empty, get-insert, get-remove, get-empty}
use Rattle.ebs_tables.proofs.MapEdits.{is_same}
use Rattle.ebs_model.specs.declared.keys.VolKey.{VolKey}
use Rattle.ebs_model.specs.declared.rows.VolRow.{VolRow}
use Rattle.ebs_model.specs.Keys.{vol_cmp}
use Rattle.ebs_model.specs.inner.Orders.{vols_total, exact_vols}
use Rattle.ebs_catalog.specs.Sound.{AreSoundVolumes, IsSoundVolume}

some_same : (a b : VolRow) → Some a ≡ Some b → a ≡ b
some_same a b e = cc

none_some : (row : VolRow) → ◌≡◌ {A = Option VolRow} None (Some row) → ⊥
none_some row e = cc

pub no-volumes : AreSoundVolumes empty
no-volumes = record { each = λ key row e. absurd (none_some row (sym (get-empty vol_cmp key) ∙ e)) }

module _ (v : FinMap vol_cmp VolRow) (key : VolKey) where
  pub volume-written : (new : VolRow) → AreSoundVolumes v → IsSoundVolume key new → AreSoundVolumes (insert v key new)
  volume-written new s h = record { each = λ q row e. by q row (eq_by_cmp vol_cmp q key) refl (sym (get-insert vols_total v key new q) ∙ e) }
    where
      by : (q : VolKey) (row : VolRow) (b : Bool) → eq_by_cmp vol_cmp q key ≡ b → cond b (Some new) (get v q) ≡ Some row → IsSoundVolume q row
      by q row true t e = subst (λ p. IsSoundVolume p row) (sym (is_same exact_vols q key t)) (subst (IsSoundVolume key) (some_same new row e) h)
      by q row false t e = s.each q row e

  pub volume-removed : AreSoundVolumes v → AreSoundVolumes (remove v key)
  volume-removed s = record { each = λ q row e. by q row (eq_by_cmp vol_cmp q key) (sym (get-remove vols_total v key q) ∙ e) }
    where
      by : (q : VolKey) (row : VolRow) (b : Bool) → cond b None (get v q) ≡ Some row → IsSoundVolume q row
      by q row true e = absurd (none_some row e)
      by q row false e = s.each q row e
