-- The limits of snapshots' rows.
use Rattle.std.specs.Prelude.{ℕ, ◌≡◌, ◌<◌, ◌≤◌, true, false, List, length, Option, None, Some}
use Rattle.std.specs.FinMap.{get, empty}
use Rattle.ebs_model.specs.declared.keys.Moment.{Moment}
use Rattle.ebs_model.specs.declared.keys.SnapKey.{SnapKey}
use Rattle.ebs_model.specs.declared.keys.VolKey.{VolKey}
use Rattle.ebs_model.specs.declared.rows.SnapRow.{SnapRow}
use Rattle.ebs_model.specs.declared.rows.LockState.{LockState}
use Rattle.ebs_model.specs.declared.rows.LockState.TheVariants as lock
use Rattle.ebs_model.specs.declared.rows.Tier.{Tier}
use Rattle.ebs_model.specs.declared.rows.Tier.TheVariants.{Standard, Archived, Temporary}
use Rattle.ebs_model.specs.Limits.{is_size, is_timeout, is_description, are_tags, rises}
use Rattle.ebs_model.specs.Quotas.{most_shared, blocks_of}
use Rattle.ebs_model.specs.Rows.{Rows}
use Rattle.ebs_lawful.specs.Ends.{IsMoment, IsEnd}

abbrev pub EndsLock : LockState → Type 0
EndsLock lock.None = Unit {0}
EndsLock (lock.Governance until) = IsEnd until
EndsLock (lock.Compliance until cool_end) = IsEnd until × IsEnd cool_end

abbrev pub EndsRestore : Tier → Type 0
EndsRestore Standard = Unit {0}
EndsRestore Archived = Unit {0}
EndsRestore (Temporary until) = IsEnd until

abbrev pub EndsStay : Option Moment → Type 0
EndsStay None = Unit {0}
EndsStay (Some end) = IsEnd end

-- an upload has minutes, and what is made of a volume has none
abbrev pub IsTimeoutOf : Option VolKey → ℕ → Type 0
IsTimeoutOf None minutes = is_timeout minutes ≡ true
IsTimeoutOf (Some volume) minutes = minutes ≡ 0

-- the accounts that it is shared with ascend, each once, and aren't more than there may be
pub record IsSharing (accounts : List ℕ) : Type 0 where
  pub few : length accounts ≤ most_shared
  pub ascend : rises accounts ≡ true

-- an upload is of no volume, not in the bin and in the standard tier
pub record IsUpload (row : SnapRow) : Type 0 where
  pub volume : row.volume ≡ None
  pub bin_end : row.bin_end ≡ None
  pub tier : row.tier ≡ Standard

-- the row stands at its own key, and what it says is within its limits; only an upload has indexes that were put, and these are
-- indexes of an image of its size
pub record IsSnapRow (key : SnapKey) (row : SnapRow) : Type 0 where
  pub place : row.key ≡ key
  pub size : is_size row.size ≡ true
  pub start : IsMoment row.start
  pub last : IsMoment row.last
  pub timeout : IsTimeoutOf row.volume row.timeout
  pub description : is_description row.description ≡ true
  pub tags : are_tags row.tags ≡ true
  pub shared : IsSharing row.shared
  pub lock : EndsLock row.lock
  pub tier : EndsRestore row.tier
  pub bin_end : EndsStay row.bin_end
  pub put : (index : ℕ) → get row.put index ≡ Some tt → index < blocks_of row.size
  pub upload : row.completed ≡ false → IsUpload row
  pub completed : row.completed ≡ true → row.put ≡ empty

abbrev pub AreSnapRows : Rows → Type 0
AreSnapRows rows = (key : SnapKey) (row : SnapRow) → get rows.snaps key ≡ Some row → IsSnapRow key row
