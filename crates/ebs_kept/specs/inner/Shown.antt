-- The kept form of the machine, by what the store keeps.
use Rattle.std.specs.Prelude.{Option, None, Some, ℕ, List, [], map as list_map, refl, ◌≡◌, ◌≤◌, true, false, ◌<◌, ◌^◌}
use Rattle.std.specs.Coded.{Coded, code_by, coded×}
use Rattle.std.specs.Ordering.{nat_cmp}
use Rattle.std.specs.FinMap as map
use Rattle.ebs_tables.specs.Full.{full}
use Rattle.ebs_model.specs.declared.keys.SnapKey.{SnapKey}
use Rattle.ebs_model.specs.declared.keys.VolKey.{VolKey}
use Rattle.ebs_model.specs.declared.array.Block.{Block}
use Rattle.ebs_model.specs.declared.rows.SnapRow.{SnapRow}
use Rattle.ebs_model.specs.declared.rows.VolRow.{VolRow}
use Rattle.ebs_model.specs.Keys.{vol_cmp, snap_cmp}
use Rattle.ebs_model.specs.Limits.{is_size}
use Rattle.ebs_model.specs.Arrays.{WholeBlock, WholeArray}
use Rattle.ebs_model.specs.Time.{Snapshot}
use Rattle.ebs_model.specs.Machine.{Machine, aged_rows, with_arrays, array_of, disk_of}
use Rattle.ebs_lineage.specs.Owned.{Blocks}
use Rattle.ebs_holds.specs.Holders.{of_snap, of_vol}
use Rattle.ebs_holds.specs.Holds.{Holding, holding_code, blocks_at}
use Rattle.ebs_catalog.specs.Held.{rows_in, Held, held_code}
use Rattle.ebs_kept.specs.declared.kept.Kept.TheInside.{Inside}
use Rattle.ebs_model.specs.inner.Codes.{machine_code}
use Rattle.ebs_model.specs.inner.MapValues.{map_values}

-- a block has its digest in the place of its bytes
abbrev pub kept_block : Block → WholeBlock
kept_block block = record { stamp = block.stamp; bytes = block.digest }

abbrev pub kept_array : Blocks → WholeArray
kept_array blocks = map_values kept_block blocks

-- the array of a snapshot, and that of a volume
abbrev pub snap_array : Holding → SnapKey → WholeArray
snap_array h key = kept_array (blocks_at h (of_snap key))

abbrev pub disk_array : Holding → VolKey → WholeArray
disk_array h key = kept_array (blocks_at h (of_vol key))

-- the indexes of a put set
abbrev pub put_by : Option (map.FinMap nat_cmp (Option (Unit {0}))) → List ℕ
put_by None = []
put_by (Some slots) = map.keys (full slots)

-- an array for each volume that has a row
unfoldable pub with_disks : map.FinMap vol_cmp VolRow → (VolKey → WholeArray) → map.FinMap vol_cmp WholeArray
with_disks rows array = map.from_entries (list_map (λ e. (e.0, array e.0)) (map.entries rows))

-- what time has ended isn't shown
abbrev pub shown : Inside → Machine
shown k = record {
  clock = k.clock;
  changes = k.changes;
  stamps = k.stamps;
  secret = k.secret;
  snaps = aged_rows k.clock.second (with_arrays (rows_in k.catalog).snaps (snap_array k.holdings));
  own = (rows_in k.catalog).own;
  tokens = (rows_in k.catalog).tokens;
  vols = (rows_in k.catalog).vols;
  disks = with_disks (rows_in k.catalog).vols (disk_array k.holdings);
  books = (rows_in k.catalog).books;
  policies = (rows_in k.catalog).policies;
}

-- the kept form of the machine, and its tables with what is ready in them
pub record Form : Type 0 where
  pub machine : Machine
  pub catalog : Held
  pub holding : Holding

abbrev pub form_code : Coded Form
form_code = code_by (Machine × (Held × Holding)) (coded× machine_code (coded× held_code holding_code))
    (λ f. (f.machine, (f.catalog, f.holding))) (λ p. record { machine = p.0; catalog = p.1.0; holding = p.1.1 }) (λ _. refl)

abbrev pub form : Inside → Form
form k = record { machine = shown k; catalog = k.catalog; holding = k.holdings }

-- a snapshot has 1 to 16384 GiB, and an upload doesn't fail at the moment of its put
pub record IsGoodRow (row : SnapRow) : Type 0 where
  pub size : is_size row.size ≡ true
  pub timeout : row.completed ≡ false → 1 ≤ row.timeout

abbrev pub AreGoodRows : map.FinMap snap_cmp Snapshot → Type 0
AreGoodRows snaps = (key : SnapKey) (s : Snapshot) → map.get snaps key ≡ Some s → IsGoodRow s.row

-- so many GiB has a volume too
abbrev pub AreGoodVolumes : map.FinMap vol_cmp VolRow → Type 0
AreGoodVolumes vols = (key : VolKey) (row : VolRow) → map.get vols key ≡ Some row → is_size row.size ≡ true

-- a block's index has 32 bits
abbrev pub IndexesAreSmall : Machine → Type 0
IndexesAreSmall m = (key : SnapKey) (index : ℕ) (block : WholeBlock) → map.get (array_of m key) index ≡ Some block → index < 2 ^ 32

abbrev pub DisksAreSmall : Machine → Type 0
DisksAreSmall m = (key : VolKey) (index : ℕ) (block : WholeBlock) → map.get (disk_of m key) index ≡ Some block → index < 2 ^ 32

pub record IsSound (m : Machine) : Type 0 where
  pub few : m.changes ≤ 2 ^ 40
  pub stamps : m.stamps ≤ m.changes
  pub early : m.clock.second ≤ 2 ^ 36
  pub rows : AreGoodRows m.snaps
  pub volumes : AreGoodVolumes m.vols
  pub small : IndexesAreSmall m
  pub disks : DisksAreSmall m

-- no change and no row that was given up was later than the clock
abbrev pub IsReached : Inside → Type 0
IsReached k = k.catalog.latest ≤ k.clock.second
