-- The limits of volumes' rows.
use Rattle.std.specs.Prelude.{◌≡◌, true, Some}
use Rattle.std.specs.FinMap.{get}
use Rattle.ebs_model.specs.declared.keys.VolKey.{VolKey}
use Rattle.ebs_model.specs.declared.rows.VolRow.{VolRow}
use Rattle.ebs_model.specs.Limits.{is_size, are_tags}
use Rattle.ebs_model.specs.Rows.{Rows}

-- it stands at its own key, and its size and its tags are within their limits
pub record IsVolRow (key : VolKey) (row : VolRow) : Type 0 where
  pub place : row.key ≡ key
  pub size : is_size row.size ≡ true
  pub tags : are_tags row.tags ≡ true

abbrev pub AreVolRows : Rows → Type 0
AreVolRows rows = (key : VolKey) (row : VolRow) → get rows.vols key ≡ Some row → IsVolRow key row
