-- The arrays of snapshots and of volumes.
use Rattle.std.specs.Prelude.{ℕ, ◌≡◌, ◌<◌, true, Some}
use Rattle.std.specs.FinMap.{get, contains_key}
use Rattle.ebs_model.specs.declared.keys.SnapKey.{SnapKey}
use Rattle.ebs_model.specs.declared.keys.VolKey.{VolKey}
use Rattle.ebs_model.specs.declared.rows.SnapRow.{SnapRow}
use Rattle.ebs_model.specs.declared.rows.VolRow.{VolRow}
use Rattle.ebs_model.specs.Quotas.{blocks_of}
use Rattle.ebs_model.specs.Arrays.{WholeBlock, WholeArray}
use Rattle.ebs_model.specs.Time.{Snapshot}
use Rattle.ebs_model.specs.Machine.{Machine}

-- each index is one of an image of so many GiB
abbrev pub FitsIn : ℕ → WholeArray → Type 0
FitsIn size array = (index : ℕ) (block : WholeBlock) → get array index ≡ Some block → index < blocks_of size

-- it fits in the size, and has what was put
pub record IsArrayOf (row : SnapRow) (array : WholeArray) : Type 0 where
  pub fits : FitsIn row.size array
  pub puts : (index : ℕ) → get row.put index ≡ Some tt → contains_key array index ≡ true

-- each volume has an array, and no other key
pub record AreArrays (m : Machine) : Type 0 where
  pub snaps : (key : SnapKey) (s : Snapshot) → get m.snaps key ≡ Some s → IsArrayOf s.row s.array
  pub vols : (key : VolKey) (row : VolRow) → get m.vols key ≡ Some row → (array : WholeArray) × (get m.disks key ≡ Some array) × FitsIn row.size array
  pub disks : (key : VolKey) (array : WholeArray) → get m.disks key ≡ Some array → contains_key m.vols key ≡ true
