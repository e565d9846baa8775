-- Arrays that time hides are seen in nothing.
use Rattle.std.proofs.Common.{◌≡◌, ℕ, Bool, true, false, cond, not, ◌&&◌, Option, Some, None, refl, sym, ap, ◌∙◌}
use Rattle.std.specs.Option.{option_map}
use Rattle.std.specs.Ordering.{eq_by_cmp}
use Rattle.std.specs.FinMap.{FinMap, get, remove, empty, get-remove}
use Rattle.ebs_tables.proofs.MapEdits.{is_same, tied}
use Rattle.ebs_model.specs.declared.keys.SnapKey.{SnapKey}
use Rattle.ebs_model.specs.declared.rows.SnapRow.{SnapRow}
use Rattle.ebs_model.specs.Keys.{snap_cmp}
use Rattle.ebs_model.specs.inner.Orders.{exact_snaps}
use Rattle.ebs_model.specs.Arrays.{WholeArray}
use Rattle.ebs_model.specs.Time.{stays, rested, rested_row, status_at, is_failed}
use Rattle.ebs_model.specs.inner.Time.{has_blocks}
use Rattle.ebs_model.specs.Machine.{aged_rows, with_arrays}
use Rattle.ebs_model.proofs.Aged.{get-aged, aged_row}
use Rattle.ebs_model.proofs.RowLaws.{get-with, with_array, same_snaps}
use Rattle.ebs_holds.specs.declared.holder.Holder.{Holder}
use Rattle.ebs_holds.specs.Holders.{holder_cmp, is_holder, of_snap}
use Rattle.ebs_holds.specs.Orders.{holders_total}
use Rattle.ebs_holds.specs.Holds.{HeldBy, Holding, blocks_at}
use Rattle.ebs_kept.specs.inner.Shown.{kept_array, snap_array}
use Rattle.ebs_kept.proofs.Arrays.{kept-cond, kept-empty}

module _ (now : ℕ) (rows : FinMap snap_cmp SnapRow) where
  -- what of a row's array is seen
  abbrev seen : SnapKey → WholeArray → WholeArray
  seen q array = cond (has_blocks now (get rows q)) array empty

  same-row : (o : Option SnapRow) (a b : WholeArray) → cond (has_blocks now o) a empty ≡ cond (has_blocks now o) b empty → aged_row now (option_map (with_array a) o) ≡ aged_row now (option_map (with_array b) o)
  same-row None a b h = refl
  same-row (Some row) a b h = of (stays now row) h
    where
      turned : (failed : Bool) → cond (not failed) a empty ≡ cond (not failed) b empty → cond failed empty a ≡ cond failed empty b
      turned true h = refl
      turned false h = h

      of : (s : Bool) → cond (s && not (is_failed (status_at row now))) a empty ≡ cond (s && not (is_failed (status_at row now))) b empty
          → option_map (rested now) (cond s (Some (with_array a row)) None) ≡ option_map (rested now) (cond s (Some (with_array b row)) None)
      of true h = λ i. Some (record { row = rested_row now row; array = turned (is_failed (status_at row now)) h i })
      of false h = refl

  -- arrays that are seen alike are shown alike
  pub same-shown : (f g : SnapKey → WholeArray) → ((q : SnapKey) → seen q (f q) ≡ seen q (g q)) → aged_rows now (with_arrays rows f) ≡ aged_rows now (with_arrays rows g)
  same-shown f g h = same_snaps _ _ (λ q.
      get-aged now (with_arrays rows f) q ∙ ap (aged_row now) (get-with rows f q) ∙ same-row (get rows q) (f q) (g q) (h q)
      ∙ sym (get-aged now (with_arrays rows g) q ∙ ap (aged_row now) (get-with rows g q)))

  -- the array of a row without blocks may be dropped
  pub dropped-shown : (old new : Holding) (key : SnapKey) → has_blocks now (get rows key) ≡ false → ((q : Holder) → blocks_at new q ≡ cond (is_holder q (of_snap key)) empty (blocks_at old q))
      → aged_rows now (with_arrays rows (snap_array new)) ≡ aged_rows now (with_arrays rows (snap_array old))
  dropped-shown old new key hidden dropped = same-shown (snap_array new) (snap_array old) (λ q.
      ap (seen q) (ap kept_array (dropped (of_snap q)) ∙ kept-cond (eq_by_cmp snap_cmp q key) empty (blocks_at old (of_snap q)) ∙ ap (λ a. cond (eq_by_cmp snap_cmp q key) a (snap_array old q)) kept-empty)
      ∙ by q (eq_by_cmp snap_cmp q key) refl)
    where
      by : (q : SnapKey) (b : Bool) → eq_by_cmp snap_cmp q key ≡ b → seen q (cond b empty (snap_array old q)) ≡ seen q (snap_array old q)
      by q true t =
          let unseen : has_blocks now (get rows q) ≡ false = ap (λ k. has_blocks now (get rows k)) (is_same exact_snaps q key t) ∙ hidden in
          (λ i. cond (unseen i) empty empty) ∙ (λ i. cond (sym unseen i) (snap_array old q) empty)
      by q false t = refl

-- nothing is at a holder that was taken out
pub none-there : (held : HeldBy) (key : Holder) → get (remove held key) key ≡ None
none-there held key = get-remove holders_total held key key ∙ ap (λ b. cond b None (get held key)) (tied holders_total key)

-- nor where nothing was before
pub none-stays : (held : HeldBy) (key q : Holder) → get held q ≡ None → get (remove held key) q ≡ None
none-stays held key q none = get-remove holders_total held key q ∙ by (eq_by_cmp holder_cmp q key)
  where
    by : (b : Bool) → cond b None (get held q) ≡ None
    by true = refl
    by false = none
