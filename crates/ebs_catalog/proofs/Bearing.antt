-- Which rows have blocks, by what time leaves of them.
use Rattle.std.proofs.Common.{◌≡◌, ℕ, Bool, true, false, cond, not, ◌&&◌, Option, Some, None, refl, sym, ap}
use Rattle.std.specs.Option.{option_map}
use Rattle.ebs_model.specs.declared.rows.SnapRow.{SnapRow}
use Rattle.ebs_model.specs.Time.{stays, rested_row, status_at, is_failed}
use Rattle.ebs_model.specs.inner.Time.{has_blocks}
use Rattle.ebs_model.proofs.RowLaws.{left_row}

-- a row that time leaves has blocks unless its upload has failed
pub of_left : (now : ℕ) (o : Option SnapRow) (row : SnapRow) → left_row now o ≡ Some (rested_row now row) → not (is_failed (status_at row now)) ≡ has_blocks now o
of_left now None row e = cc
of_left now (Some r) row e = by (stays now r) e
  where
    at : Option SnapRow → Bool
    at None = false
    at (Some w) = not (is_failed (status_at w now))

    by : (b : Bool) → option_map (rested_row now) (cond b (Some r) None) ≡ Some (rested_row now row) → not (is_failed (status_at row now)) ≡ (b && not (is_failed (status_at r now)))
    by true e = sym (ap at e)
    by false e = cc

pub of_gone : (now : ℕ) (o : Option SnapRow) → left_row now o ≡ None → false ≡ has_blocks now o
of_gone now None e = refl
of_gone now (Some r) e = by (stays now r) e
  where
    by : (b : Bool) → option_map (rested_row now) (cond b (Some r) None) ≡ None → false ≡ (b && not (is_failed (status_at r now)))
    by true e = cc
    by false e = refl
