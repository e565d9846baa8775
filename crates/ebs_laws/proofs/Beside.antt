-- What the creation of a volume leaves of the numbers that snapshots get.
use Rattle.std.proofs.Common.{◌≡◌, ℕ, ◌+◌, Option, List, unwrap_or, sym, ap, ◌∙◌}
use Rattle.std.specs.Cmp.{nat_cmp_total}
use Rattle.std.specs.FinMap.{nat_cmp-IsAntisymmetric}
use Rattle.ebs_model.specs.declared.keys.VolKey.{VolKey}
use Rattle.ebs_model.specs.declared.rows.Own.{Own}
use Rattle.ebs_model.specs.declared.rows.VolRow.{VolRow}
use Rattle.ebs_model.specs.Rows.{no_own}
use Rattle.ebs_model.specs.Arrays.{WholeArray}
use Rattle.ebs_model.specs.Machine.{Machine}
use Rattle.ebs_laws.proofs.Maps.{get-itself, get-other, by_key}
use Rattle.ebs_laws.proofs.Whole.{own_of, created}

module _ (m : Machine) (key : VolKey) (row : VolRow) (array : WholeArray) (token : Option (List ℕ)) where
  abbrev given : Own
  given = record (own_of m key.account) { next_vol = key.number + 1 }

  abbrev new : Machine
  new = created m key row array token

  own-itself : own_of new key.account ≡ given
  own-itself = ap (λ o. unwrap_or o no_own) (get-itself nat_cmp_total nat_cmp-IsAntisymmetric m.own key.account given)

  pub same-next : (a : ℕ) → (own_of new a).next_snap ≡ (own_of m a).next_snap
  same-next a = by_key nat_cmp_total nat_cmp-IsAntisymmetric ((own_of new a).next_snap ≡ (own_of m a).next_snap) a key.account
      (λ same. ap (λ a. (own_of new a).next_snap) same ∙ ap (λ (o : Own). o.next_snap) own-itself ∙ ap (λ a. (own_of m a).next_snap) (sym same))
      (λ other. ap (λ o. (unwrap_or o no_own).next_snap) (get-other nat_cmp_total nat_cmp-IsAntisymmetric m.own key.account given a other))
