-- Rows and calls in plain words: each test stands over fields, and takes no test of the model for granted.
use Rattle.std.specs.Prelude.{ℕ, ◌^◌, max, min, ◌≡◌, ◌⊎◌, true, ◌==◌, ◌<◌, None, Some, ◌+◌, ◌*◌, false, Option, List, Bool, is_some, []}
use Rattle.std.specs.List.{list_any}
use Rattle.std.specs.FinMap as fin
use Rattle.ebs_model.specs.declared.keys.SnapKey.{SnapKey}
use Rattle.ebs_model.specs.declared.keys.VolKey.{VolKey}
use Rattle.ebs_model.specs.declared.keys.Moment.{Moment}
use Rattle.ebs_model.specs.declared.tags.Tag.{Tag}
use Rattle.ebs_model.specs.declared.rows.Own.{Own}
use Rattle.ebs_model.specs.declared.rows.SnapRow.{SnapRow}
use Rattle.ebs_model.specs.declared.rows.LockState.TheVariants as lock
use Rattle.ebs_model.specs.declared.rows.Tier.{Tier}
use Rattle.ebs_model.specs.declared.rows.Tier.TheVariants.{Standard, Archived, Temporary}
use Rattle.ebs_model.specs.declared.rows.TokenRow.{TokenRow}
use Rattle.ebs_model.specs.declared.request.Request.{Request}
use Rattle.ebs_model.specs.declared.request.Request.TheVariants.{StartSnapshot, CreateVolume}
use Rattle.ebs_model.specs.declared.answer.Answer.{Answer}
use Rattle.ebs_model.specs.declared.answer.Answer.TheVariants.{Started, SnapshotShown, VolumeShown}
use Rattle.ebs_model.specs.Time.{Snapshot}
use Rattle.ebs_model.specs.Rows.{first_use}
use Rattle.ebs_model.specs.Machine.{Machine, rows_of}

-- the second of a call: the later of the clock and the reading, which counts as 2^36 where it is above that
abbrev pub second_of : Machine → Moment → ℕ
second_of m reading = max m.clock.second (min reading.second (2 ^ 36))

abbrev pub moment_at : Machine → Moment → Moment
moment_at m reading = record { second = second_of m reading }

-- the owner, one of those that it is shared with, or anyone where it is public
abbrev pub IsShown : ℕ → SnapKey → SnapRow → Type 0
IsShown account key row = (account ≡ key.account) ⊎ ((list_any (λ a. a == account) row.shared ≡ true) ⊎ (row.public ≡ true))

-- the standard tier is read at all times, the archive never, and a temporary restore until its end
abbrev pub IsTierRead : Tier → ℕ → Type 0
IsTierRead Standard now = Unit {0}
IsTierRead Archived now = ⊥
IsTierRead (Temporary until) now = now < until.second

abbrev pub IsNoRestore : Tier → Type 0
IsNoRestore Standard = Unit {0}
IsNoRestore Archived = Unit {0}
IsNoRestore (Temporary until) = ⊥

-- a snapshot that the account may read at this second
pub record MayRead (m : Machine) (account : ℕ) (key : SnapKey) (now : ℕ) (s : Snapshot) : Type 0 where
  pub is_there : fin.get m.snaps key ≡ Some s
  pub shown : IsShown account key s.row
  pub completed : s.row.completed ≡ true
  pub not_binned : s.row.bin_end ≡ None
  pub tier : IsTierRead s.row.tier now

-- an upload that the account may write at this second: its own, before the minutes of its timeout are over
pub record MayWrite (m : Machine) (account : ℕ) (key : SnapKey) (now : ℕ) (s : Snapshot) : Type 0 where
  pub is_there : fin.get m.snaps key ≡ Some s
  pub owned : account ≡ key.account
  pub not_completed : s.row.completed ≡ false
  pub in_time : now < s.row.last.second + 60 * s.row.timeout
  pub not_binned : s.row.bin_end ≡ None

-- a snapshot that the account may share at this second: its own, completed and outside the bin
pub record MayShare (m : Machine) (account : ℕ) (key : SnapKey) (s : Snapshot) : Type 0 where
  pub is_there : fin.get m.snaps key ≡ Some s
  pub owned : account ≡ key.account
  pub completed : s.row.completed ≡ true
  pub not_binned : s.row.bin_end ≡ None

-- the number that an account's next snapshot gets
abbrev pub number_in : Option Own → ℕ
number_in None = 0
number_in (Some own) = own.next_snap

abbrev pub next_number : Machine → ℕ → ℕ
next_number m account = number_in (fin.get m.own account)

-- and its next volume
abbrev pub volume_number_in : Option Own → ℕ
volume_number_in None = 0
volume_number_in (Some own) = own.next_vol

abbrev pub next_volume_number : Machine → ℕ → ℕ
next_volume_number m account = volume_number_in (fin.get m.own account)

-- the id of a snapshot that an answer says was made
abbrev pub started_id : Answer → Option SnapKey
started_id (Started description owner parent key start tags size) = Some key
started_id (SnapshotShown true view) = Some view.key
started_id answer = None

-- the id of a volume that an answer says was created
abbrev pub created_id : Answer → Option VolKey
created_id (VolumeShown true size origin tags key) = Some key
created_id answer = None

-- what an earlier call of the account used its client token for, where the call has one
abbrev pub use_of : Machine → ℕ → Option (List ℕ) → Option TokenRow
use_of m account token = first_use (rows_of m) account token

-- no client token, or one that the account hasn't used yet
abbrev pub IsUnused : Machine → ℕ → Option (List ℕ) → Type 0
IsUnused m account token = use_of m account token ≡ None

-- a start or a creation whose client token the account has used before
abbrev pub is_repeat : Machine → ℕ → Request → Bool
is_repeat m account (StartSnapshot size parent text tags token timeout) = is_some (use_of m account token)
is_repeat m account (CreateVolume origin size tags token) = is_some (use_of m account token)
is_repeat m account request = false

-- what a start asks for
pub record Wanted : Type 0 where
  pub size : ℕ
  pub parent : Option SnapKey
  pub description : Option (List ℕ)
  pub tags : List Tag
  pub timeout : ℕ

-- the row of an upload that has just begun: what was asked for, of its owner alone, and nothing else
pub record IsNewRow (key : SnapKey) (now : Moment) (wanted : Wanted) (row : SnapRow) : Type 0 where
  pub key_is : row.key ≡ key
  pub size_is : row.size ≡ wanted.size
  pub parent_is : row.parent ≡ wanted.parent
  pub description_is : row.description ≡ wanted.description
  pub tags_are : row.tags ≡ wanted.tags
  pub timeout_is : row.timeout ≡ wanted.timeout
  pub starts : row.start ≡ now
  pub last_is : row.last ≡ now
  pub not_completed : row.completed ≡ false
  pub no_put : row.put ≡ fin.empty
  pub not_shared : row.shared ≡ []
  pub not_public : row.public ≡ false
  pub no_lock : row.lock ≡ lock.None
  pub tier_is : row.tier ≡ Standard
  pub not_binned : row.bin_end ≡ None
  pub no_volume : row.volume ≡ None
  pub no_policy : row.policy ≡ None
