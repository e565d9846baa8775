-- What a catalog keeps true of its rows.
use Rattle.std.specs.Prelude.{◌≡◌, ℕ, ◌+◌, ◌==◌, ◌≤◌, ◌^◌, true, false}
use Rattle.std.specs.List.{count_by}
use Rattle.std.specs.Option.{is_some}
use Rattle.std.specs.Ordering.{nat_cmp}
use Rattle.std.specs.declared.option.Option.{Option}
use Rattle.std.specs.FinMap as map
use Rattle.std.specs.declared.option.Option.TheVariants.{None, Some}
use Rattle.ebs_model.specs.declared.keys.SnapKey.{SnapKey}
use Rattle.ebs_model.specs.declared.keys.TokenKey.{TokenKey}
use Rattle.ebs_model.specs.declared.keys.VolKey.{VolKey}
use Rattle.ebs_model.specs.declared.rows.VolRow.{VolRow}
use Rattle.ebs_model.specs.declared.rows.TokenRow.{TokenRow}
use Rattle.ebs_model.specs.Keys.{snap_cmp, vol_cmp, token_cmp}
use Rattle.ebs_model.specs.Limits.{is_size}
use Rattle.ebs_model.specs.inner.MapValues.{map_values}
use Rattle.ebs_model.specs.Access.{owns}
use Rattle.ebs_model.specs.Time.{status_at, is_pending}
use Rattle.ebs_model.specs.inner.Rules.{KeepsDays}
use Rattle.ebs_bin.specs.Books.{Shelf, book}
use Rattle.ebs_catalog.specs.Held.{own_in}
use Rattle.ebs_catalog.specs.declared.rows.KeptRow.{KeptRow}
use Rattle.ebs_catalog.specs.declared.rows.AccountRow.{AccountRow}

-- a row stands at its key, has a size in GiB that an image can have, and was started at a moment of the store; an upload has a timeout, and what has an end in the bin is
-- completed
pub record IsSoundRow (key : SnapKey) (k : KeptRow) : Type 0 where
  pub place : k.row.key ≡ key
  pub size : is_size k.row.size ≡ true
  pub start : k.row.start.second ≤ 2 ^ 36
  pub timeout : k.row.completed ≡ false → 1 ≤ k.row.timeout
  pub binned : is_some k.row.bin_end ≡ true → k.row.completed ≡ true

pub record IsSound (snaps : map.FinMap snap_cmp KeptRow) : Type 0 where
  pub each : (key : SnapKey) (k : KeptRow) → map.get snaps key ≡ Some k → IsSoundRow key k

-- and so does a volume's
pub record IsSoundVolume (key : VolKey) (row : VolRow) : Type 0 where
  pub place : row.key ≡ key
  pub size : is_size row.size ≡ true

pub record AreSoundVolumes (vols : map.FinMap vol_cmp VolRow) : Type 0 where
  pub each : (key : VolKey) (row : VolRow) → map.get vols key ≡ Some row → IsSoundVolume key row

-- the number of rows that an account is said to have
abbrev pub rows_at : Option AccountRow → ℕ
rows_at None = 0
rows_at (Some a) = a.rows

-- is how many rows in the table are its own
pub record AreCounted (snaps : map.FinMap snap_cmp KeptRow) (accounts : map.FinMap nat_cmp AccountRow) : Type 0 where
  pub each : (account : ℕ) → rows_at (map.get accounts account) ≡ count_by (λ e. owns account e.0) (map.entries snaps)

-- the number of client tokens that an account is said to have used
abbrev pub tokens_at : Option AccountRow → ℕ
tokens_at None = 0
tokens_at (Some a) = a.tokens

-- is how many in the table are its own
pub record AreUsed (tokens : map.FinMap token_cmp TokenRow) (accounts : map.FinMap nat_cmp AccountRow) : Type 0 where
  pub each : (account : ℕ) → tokens_at (map.get accounts account) ≡ count_by (λ (e : TokenKey × TokenRow). account == e.0.account) (map.entries tokens)

-- the number of volumes that an account is said to have
abbrev pub volumes_at : Option AccountRow → ℕ
volumes_at None = 0
volumes_at (Some a) = a.volumes

-- is how many in the table are its own
pub record AreVolumes (vols : map.FinMap vol_cmp VolRow) (accounts : map.FinMap nat_cmp AccountRow) : Type 0 where
  pub each : (account : ℕ) → volumes_at (map.get accounts account) ≡ count_by (λ (e : VolKey × VolRow). account == e.0.account) (map.entries vols)

-- one row less of an account, and nothing else
pub record IsOneLess (old new : map.FinMap nat_cmp AccountRow) (account : ℕ) : Type 0 where
  pub own : map_values own_in new ≡ map_values own_in old
  pub less : 1 + rows_at (map.get new account) ≡ rows_at (map.get old account)
  pub others : (other : ℕ) → (other == account) ≡ false → map.get new other ≡ map.get old other
  pub tokens : (other : ℕ) → tokens_at (map.get new other) ≡ tokens_at (map.get old other)
  pub volumes : (other : ℕ) → volumes_at (map.get new other) ≡ volumes_at (map.get old other)

-- one volume less
pub record IsVolumeLess (old new : map.FinMap nat_cmp AccountRow) (account : ℕ) : Type 0 where
  pub own : map_values own_in new ≡ map_values own_in old
  pub less : 1 + volumes_at (map.get new account) ≡ volumes_at (map.get old account)
  pub others : (other : ℕ) → (other == account) ≡ false → map.get new other ≡ map.get old other
  pub tokens : (other : ℕ) → tokens_at (map.get new other) ≡ tokens_at (map.get old other)
  pub rows : (other : ℕ) → rows_at (map.get new other) ≡ rows_at (map.get old other)

-- an upload that is open at the latest moment, or at one after it, waits for time
pub record AreAwaited (snaps : map.FinMap snap_cmp KeptRow) (waits : map.FinMap snap_cmp (Unit {0})) (latest : ℕ) : Type 0 where
  pub each : (key : SnapKey) (k : KeptRow) → map.get snaps key ≡ Some k → (now : ℕ) → latest ≤ now → is_pending (status_at k.row now) ≡ true → map.contains_key waits key ≡ true

-- rules are their account's, and each keeps what it matches for a day at least
pub record AreBooks (books : map.FinMap nat_cmp Shelf) : Type 0 where
  pub owner : (account : ℕ) (shelf : Shelf) → map.get books account ≡ Some shelf → shelf.account ≡ account
  pub days : KeepsDays (map_values book books)
