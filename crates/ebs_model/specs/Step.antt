-- One step of the machine: the tests on a request, what rows decide, and what becomes of blocks.
use Rattle.std.specs.Prelude.{not, Result, Ok, nat_eq, ℕ, List, [], Bool, false, Option, None, Some, if◌then◌else◌, ◌+◌, Err}
use Rattle.std.specs.Cmp.Lexicographic.{pointwise}
use Rattle.std.specs.FinMap as fin
use Rattle.sha2.specs.Sha256.{sha256}
use Rattle.ebs_model.specs.declared.keys.SnapKey.{SnapKey}
use Rattle.ebs_model.specs.declared.keys.VolKey.{VolKey}
use Rattle.ebs_model.specs.declared.keys.Moment.{Moment}
use Rattle.ebs_model.specs.declared.request.Request.{Request}
use Rattle.ebs_model.specs.declared.request.Request.TheVariants.{StartSnapshot, CreateVolume, PutSnapshotBlock, WriteVolumeBlock, CompleteSnapshot, CreateSnapshot, RunPolicy, DeleteVolume, ListSnapshotBlocks, ListChangedBlocks, GetSnapshotBlock, ReadVolumeBlock}
use Rattle.ebs_model.specs.declared.change.Change.{Change}
use Rattle.ebs_model.specs.declared.change.ReadRow.{ReadRow}
use Rattle.ebs_model.specs.declared.change.Decision.{Decision}
use Rattle.ebs_model.specs.declared.change.Decision.TheVariants as decision
use Rattle.ebs_model.specs.declared.answer.Answer.{Answer}
use Rattle.ebs_model.specs.declared.answer.Answer.TheVariants.{Refused}
use Rattle.ebs_model.specs.declared.answer.Spent.TheVariants.{Changes}
use Rattle.ebs_model.specs.declared.answer.Refusal.{Refusal}
use Rattle.ebs_model.specs.declared.answer.Refusal.TheVariants.{BadSize, Checksum, BadIndex, Exhausted}
use Rattle.ebs_model.specs.Refuse.{refuse_if, ◌>>=◌, ◌>>◌, refuse_bad}
use Rattle.ebs_model.specs.Limits.{is_size, is_size_given, bad_member}
use Rattle.ebs_model.specs.Arrays.{Hash, linear, WholeArray}
use Rattle.ebs_model.specs.Rows.{is_key, Rows}
use Rattle.ebs_model.specs.Decisions.{made_snap, made_vol}
use Rattle.ebs_model.specs.Keys.{vol_cmp}
use Rattle.ebs_model.specs.Decide.{commit, decide}
use Rattle.ebs_model.specs.Machine.{Machine, array_of, put_of, disk_of, rows_of, with_arrays, is_spent, advance, moment_of}
use Rattle.ebs_model.specs.Calls.Complete.{refuse_checksum}
use Rattle.ebs_model.specs.Calls.List.{read_list, read_changes}
use Rattle.ebs_model.specs.Calls.Get.{read_block}
use Rattle.ebs_model.specs.Calls.Disk.{read_volume}
use Rattle.ebs_model.specs.Calls.Run.{run_source}

-- a size that is given is one of 1 to 16384 GiB
abbrev pub refuse_size : Request → Result (Unit {0}) Refusal
refuse_size (StartSnapshot size parent description tags token timeout) = refuse_if (not (is_size size)) BadSize
refuse_size (CreateVolume origin size tags token) = refuse_if (not (is_size_given size)) BadSize
refuse_size request = Ok tt

-- a block's digest is the stated one
abbrev pub refuse_digest : Hash → Request → Result (Unit {0}) Refusal
refuse_digest hash (PutSnapshotBlock key index digest bytes) = refuse_if (not (pointwise nat_eq digest (hash bytes))) (Checksum digest (hash bytes))
refuse_digest hash (WriteVolumeBlock key index digest bytes) = refuse_if (not (pointwise nat_eq digest (hash bytes))) (Checksum digest (hash bytes))
refuse_digest hash request = Ok tt

-- the checksum of an upload's blocks, where one is stated, is the one that was found of those that were put in it
abbrev pub refuse_linear : Hash → Machine → Request → Result (Unit {0}) Refusal
refuse_linear hash m (CompleteSnapshot key count checksum) = refuse_checksum checksum (linear hash (array_of m key) (put_of m key))
refuse_linear hash m request = Ok tt

-- the bytes that a request brings
abbrev pub bytes_of : Request → List ℕ
bytes_of (PutSnapshotBlock key index digest bytes) = bytes
bytes_of (WriteVolumeBlock key index digest bytes) = bytes
bytes_of request = []

-- how many blocks a request writes
abbrev pub writes_of : Request → ℕ
writes_of (PutSnapshotBlock key index digest bytes) = 1
writes_of (WriteVolumeBlock key index digest bytes) = 1
writes_of request = 0

abbrev pub is_made : SnapKey → Option SnapKey → Bool
is_made key None = false
is_made key (Some made) = is_key key made

-- what an upload or a volume begins with
abbrev pub begun_array : Machine → Option SnapKey → WholeArray
begun_array m None = fin.empty
begun_array m (Some parent) = array_of m parent

-- a volume's whole array, for a snapshot that is made of it
abbrev pub source_array : Machine → Option VolKey → SnapKey → WholeArray
source_array m None key = array_of m key
source_array m (Some volume) key = disk_of m volume

-- the array of a snapshot after a change
abbrev pub array_by : Machine → List ℕ → Option SnapKey → Request → SnapKey → WholeArray
array_by m bytes made (StartSnapshot size parent description tags token timeout) key = if is_made key made then begun_array m parent else array_of m key
array_by m bytes made (PutSnapshotBlock at index digest left) key = if is_key key at then fin.insert (array_of m key) index (record { stamp = m.stamps; bytes = bytes }) else array_of m key
array_by m bytes made (CreateSnapshot volume description tags) key = if is_made key made then disk_of m volume else array_of m key
array_by m bytes made (RunPolicy policy) key = source_array m (run_source (rows_of m) m.clock.second policy (fin.get m.policies policy) key) key
array_by m bytes made request key = array_of m key

abbrev pub array_after : Machine → List ℕ → Change → SnapKey → WholeArray
array_after m bytes change key = array_by m bytes (made_snap change.made) change.request key

abbrev pub with_disk : fin.FinMap vol_cmp WholeArray → Option VolKey → WholeArray → fin.FinMap vol_cmp WholeArray
with_disk disks None array = disks
with_disk disks (Some key) array = fin.insert disks key array

-- the blocks of the volumes after a change: a snapshot's whole array for one that is made of it, and one block more by a write
abbrev pub disks_by : Machine → List ℕ → Option VolKey → Request → fin.FinMap vol_cmp WholeArray
disks_by m bytes made (CreateVolume origin size tags token) = with_disk m.disks made (begun_array m origin)
disks_by m bytes made (WriteVolumeBlock key index digest left) = fin.insert m.disks key (fin.insert (disk_of m key) index (record { stamp = m.stamps; bytes = bytes }))
disks_by m bytes made (DeleteVolume key) = fin.remove m.disks key
disks_by m bytes made request = m.disks

abbrev pub disks_after : Machine → List ℕ → Change → fin.FinMap vol_cmp WholeArray
disks_after m bytes change = disks_by m bytes (made_vol change.made) change.request

-- the machine with these rows, and an array for each snapshot
abbrev pub with_rows : Machine → Rows → (SnapKey → WholeArray) → Machine
with_rows m rows array = record m { snaps = with_arrays rows.snaps array; own = rows.own; tokens = rows.tokens; vols = rows.vols; books = rows.books; policies = rows.policies }

-- the machine after one more change
abbrev pub changed : Machine → List ℕ → Change → Machine
changed m bytes change =
    record (with_rows m (commit (rows_of m) change) (array_after m bytes change)) { disks = disks_after m bytes change; changes = m.changes + 1; stamps = m.stamps + writes_of change.request }

-- what blocks decide and answer; no other call reads them
abbrev pub read : Hash → Machine → Request → ReadRow → Result Answer Refusal
read hash m (ListSnapshotBlocks key page most start) row = read_list m.secret key m.clock.second row.size (array_of m key) page most start
read hash m (ListChangedBlocks first second page most start) row = read_changes m.secret first second m.clock.second row.size row.related (array_of m first) (array_of m second) page most start
read hash m (GetSnapshotBlock key index token) row = read_block hash m.secret key m.clock.second (array_of m key) index token
read hash m (ReadVolumeBlock key index) row = read_volume hash (disk_of m key) index row.size
read hash m request row = Err BadIndex

-- what becomes of a machine by what its rows decided
abbrev pub finish : Hash → Machine → Request → Decision → Result (Machine × Answer) Refusal
finish hash m request (decision.Kept answer) = Ok (m, answer)
finish hash m request (decision.View answer) = Ok (m, answer)
finish hash m request (decision.Read row) = do
  answer ← read hash m request row
  Ok (m, answer)
finish hash m request (decision.Change change answer) = do
  refuse_linear hash m request
  refuse_if (is_spent m) (Exhausted Changes)
  Ok (changed m (bytes_of request) change, answer)

-- what a request within its limits does to a machine that stands at the call's moment, or why it is refused
abbrev pub act : Hash → Machine → ℕ → Request → Result (Machine × Answer) Refusal
act hash m account request = do
  refuse_size request
  refuse_digest hash request
  decision ← decide (rows_of m) m.clock account request
  finish hash m request decision

-- the limits of the request come first
abbrev pub call : Machine → ℕ → Request → Result (Machine × Answer) Refusal
call m account request = do
  refuse_bad (bad_member request)
  act sha256 m account request

-- a refused call leaves the machine
abbrev pub settled : Machine → Result (Machine × Answer) Refusal → Machine × Answer
settled m (Ok done) = done
settled m (Err r) = (m, Refused r)

-- what a call does at a reading of the clock
abbrev pub step : Machine → ℕ → Moment → Request → Machine × Answer
step m account reading request = let at = advance m (moment_of m reading) in settled at (call at account request)
