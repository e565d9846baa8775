-- The snapshot machine: what there is, and what time does to it.
use Rattle.std.specs.Prelude.{ℕ, List, map, max, min, Bool, nat_le, unwrap_or, Option, []}
use Rattle.std.specs.List.{filter}
use Rattle.std.specs.Option.{option_map}
use Rattle.std.specs.FinMap as fin
use Rattle.std.specs.Ordering.{nat_cmp}
use Rattle.ebs_model.specs.declared.keys.SnapKey.{SnapKey}
use Rattle.ebs_model.specs.declared.keys.VolKey.{VolKey}
use Rattle.ebs_model.specs.declared.keys.Moment.{Moment}
use Rattle.ebs_model.specs.declared.rows.SnapRow.{SnapRow}
use Rattle.ebs_model.specs.declared.rows.Own.{Own}
use Rattle.ebs_model.specs.declared.rows.TokenRow.{TokenRow}
use Rattle.ebs_model.specs.declared.rows.VolRow.{VolRow}
use Rattle.ebs_model.specs.declared.policy.Policy.{Policy}
use Rattle.ebs_model.specs.Keys.{snap_cmp, vol_cmp, policy_cmp, token_cmp}
use Rattle.ebs_model.specs.Quotas.{last_second, most_changes}
use Rattle.ebs_model.specs.Arrays.{WholeArray}
use Rattle.ebs_model.specs.Time.{Snapshot, stays, rested}
use Rattle.ebs_model.specs.Rules.{Book}
use Rattle.ebs_model.specs.Rows.{Rows}

-- the clock, how many changes were accepted, the stamp of the next block, the secret of the tokens, all snapshots,
-- what each account has besides, what its client tokens were used for, its volumes, the blocks of each volume, its rules and its policies
pub record Machine : Type 0 where
  pub clock : Moment
  pub changes : ℕ
  pub stamps : ℕ
  pub secret : List ℕ
  pub snaps : fin.FinMap snap_cmp Snapshot
  pub own : fin.FinMap nat_cmp Own
  pub tokens : fin.FinMap token_cmp TokenRow
  pub vols : fin.FinMap vol_cmp VolRow
  pub disks : fin.FinMap vol_cmp WholeArray
  pub books : fin.FinMap nat_cmp Book
  pub policies : fin.FinMap policy_cmp Policy

-- the machine before the first call
abbrev pub empty_machine : List ℕ → Machine
empty_machine secret = record { clock = record { second = 0 }; changes = 0; stamps = 0; secret = secret; snaps = fin.empty; own = fin.empty; tokens = fin.empty; vols = fin.empty; disks = fin.empty; books = fin.empty; policies = fin.empty }

abbrev pub aged : ℕ → List (SnapKey × Snapshot) → List (SnapKey × Snapshot)
aged now es = map (λ e. (e.0, rested now e.1)) (filter (λ e. stays now e.1.row) es)

-- what time leaves of the snapshots
unfoldable pub aged_rows : ℕ → fin.FinMap snap_cmp Snapshot → fin.FinMap snap_cmp Snapshot
aged_rows now rows = fin.from_entries (aged now (fin.entries rows))

-- the machine at a moment
abbrev pub advance : Machine → Moment → Machine
advance m now = record m { clock = now; snaps = aged_rows now.second m.snaps }

-- the moment of a call: the later of the clock and the reading, which counts as 2^36 where it is above that
abbrev pub moment_of : Machine → Moment → Moment
moment_of m reading = record { second = max m.clock.second (min reading.second last_second) }

-- as many changes as a store takes
abbrev pub is_spent : Machine → Bool
is_spent m = nat_le most_changes m.changes

-- the rows of snapshots
unfoldable pub snap_rows : fin.FinMap snap_cmp Snapshot → fin.FinMap snap_cmp SnapRow
snap_rows snaps = fin.from_entries (map (λ e. (e.0, e.1.row)) (fin.entries snaps))

-- all that isn't a block
abbrev pub rows_of : Machine → Rows
rows_of m = record { snaps = snap_rows m.snaps; own = m.own; tokens = m.tokens; vols = m.vols; books = m.books; policies = m.policies }

abbrev pub array_at : Option Snapshot → WholeArray
array_at found = unwrap_or (option_map (λ s. s.array) found) fin.empty

-- the blocks of a snapshot
abbrev pub array_of : Machine → SnapKey → WholeArray
array_of m key = array_at (fin.get m.snaps key)

-- the blocks of a volume
abbrev pub disk_of : Machine → VolKey → WholeArray
disk_of m key = unwrap_or (fin.get m.disks key) fin.empty

-- the indexes that were put in its upload
abbrev pub put_at : Option Snapshot → List ℕ
put_at found = unwrap_or (option_map (λ s. fin.keys s.row.put) found) []

abbrev pub put_of : Machine → SnapKey → List ℕ
put_of m key = put_at (fin.get m.snaps key)

-- snapshots of these rows, with these arrays
unfoldable pub with_arrays : fin.FinMap snap_cmp SnapRow → (SnapKey → WholeArray) → fin.FinMap snap_cmp Snapshot
with_arrays rows array = fin.from_entries (map (λ e. (e.0, record { row = e.1; array = array e.0 })) (fin.entries rows))
