-- The arrays of volumes that have rows, after a row or an array changed.
use Rattle.std.proofs.Common.{◌≡◌, Bool, true, false, cond, List, [], ◌∷◌, map, None, Some, refl, sym, ap, ◌∙◌}
use Rattle.std.specs.Option.{option_map}
use Rattle.std.specs.Map.{lookup}
use Rattle.std.specs.BTreeMap.{is_at}
use Rattle.std.specs.Ordering.{eq_by_cmp}
use Rattle.std.specs.FinMap.{FinMap, get, insert, remove, empty, entries, same_map, get-insert, get-remove, get-empty}
use Rattle.ebs_tables.proofs.MapEdits.{is_same, insert-known}
use Rattle.ebs_tables.proofs.TreeMaps.{get-seen, get-lookup}
use Rattle.ebs_model.specs.declared.keys.VolKey.{VolKey}
use Rattle.ebs_model.specs.declared.rows.VolRow.{VolRow}
use Rattle.ebs_model.specs.Keys.{vol_cmp}
use Rattle.ebs_model.specs.inner.Orders.{vols_total, exact_vols}
use Rattle.ebs_model.specs.Arrays.{WholeArray}
use Rattle.ebs_kept.specs.inner.Shown.{with_disks}

lookup-disks : (array : VolKey → WholeArray) (q : VolKey) (es : List (VolKey × VolRow)) → lookup (is_at (vol_cmp q)) (map {B = VolKey × WholeArray} (λ e. (e.0, array e.0)) es) ≡ option_map (λ row. array q) (lookup (is_at (vol_cmp q)) es)
lookup-disks array q [] = refl
lookup-disks array q (e ∷ es) = by (is_at (vol_cmp q) e.0) refl (lookup-disks array q es)
  where
    by : (b : Bool) → eq_by_cmp vol_cmp q e.0 ≡ b → lookup (is_at (vol_cmp q)) (map {B = VolKey × WholeArray} (λ e. (e.0, array e.0)) es) ≡ option_map (λ row. array q) (lookup (is_at (vol_cmp q)) es)
        → cond b (Some (array e.0)) (lookup (is_at (vol_cmp q)) (map {B = VolKey × WholeArray} (λ e. (e.0, array e.0)) es)) ≡ option_map (λ row. array q) (cond b (Some e.1) (lookup (is_at (vol_cmp q)) es))
    by true t h = ap (λ k. Some (array k)) (sym (is_same exact_vols q e.0 t))
    by false t h = h

pub get-disk : (rows : FinMap vol_cmp VolRow) (array : VolKey → WholeArray) (q : VolKey) → get (with_disks rows array) q ≡ option_map (λ row. array q) (get rows q)
unfolding with_disks
get-disk rows array q = get-seen vols_total _ q ∙ lookup-disks array q (entries rows) ∙ ap (option_map (λ row. array q)) (sym (get-lookup vol_cmp rows q))

pub same_disks : (a b : FinMap vol_cmp WholeArray) → ((q : VolKey) → get a q ≡ get b q) → a ≡ b
same_disks a b h = same_map vols_total exact_vols a b h

-- without rows nothing
pub disks-none : (rows : FinMap vol_cmp VolRow) (array : VolKey → WholeArray) → rows ≡ empty → with_disks rows array ≡ empty
disks-none rows array e = same_disks _ _ (λ q. get-disk rows array q ∙ ap (λ r. option_map (λ row. array q) (get r q)) e ∙ ap (option_map (λ row. array q)) (get-empty vol_cmp q) ∙ sym (get-empty vol_cmp q))

module _ (rows : FinMap vol_cmp VolRow) (key : VolKey) (array new : VolKey → WholeArray) (others : (q : VolKey) → eq_by_cmp vol_cmp q key ≡ false → new q ≡ array q) where
  -- a volume with its array
  pub disks-insert : (row : VolRow) → with_disks (insert rows key row) new ≡ insert (with_disks rows array) key (new key)
  disks-insert row = same_disks _ _ (λ q.
      get-disk (insert rows key row) new q ∙ ap (option_map (λ row. new q)) (get-insert vols_total rows key row q) ∙ by q (eq_by_cmp vol_cmp q key) refl
      ∙ ap (cond (eq_by_cmp vol_cmp q key) (Some (new key))) (sym (get-disk rows array q)) ∙ sym (get-insert vols_total (with_disks rows array) key (new key) q))
    where
      by : (q : VolKey) (b : Bool) → eq_by_cmp vol_cmp q key ≡ b → option_map (λ row. new q) (cond b (Some row) (get rows q)) ≡ cond b (Some (new key)) (option_map (λ row. array q) (get rows q))
      by q true t = ap (λ k. Some (new k)) (is_same exact_vols q key t)
      by q false t = ap (λ a. option_map (λ row. a) (get rows q)) (others q t)

  -- the array of a volume that is there
  pub disks-set : (row : VolRow) → get rows key ≡ Some row → with_disks rows new ≡ insert (with_disks rows array) key (new key)
  disks-set row found = ap (λ r. with_disks r new) (sym (insert-known vols_total exact_vols rows key row found)) ∙ disks-insert row

  -- a volume that is taken out
  pub disks-remove : with_disks (remove rows key) new ≡ remove (with_disks rows array) key
  disks-remove = same_disks _ _ (λ q.
      get-disk (remove rows key) new q ∙ ap (option_map (λ row. new q)) (get-remove vols_total rows key q) ∙ by q (eq_by_cmp vol_cmp q key) refl
      ∙ ap (cond (eq_by_cmp vol_cmp q key) None) (sym (get-disk rows array q)) ∙ sym (get-remove vols_total (with_disks rows array) key q))
    where
      by : (q : VolKey) (b : Bool) → eq_by_cmp vol_cmp q key ≡ b → option_map (λ row. new q) (cond b None (get rows q)) ≡ cond b None (option_map (λ row. array q) (get rows q))
      by q true t = refl
      by q false t = ap (λ a. option_map (λ row. a) (get rows q)) (others q t)
