-- What a change takes of rows and arrays, and what it leaves of them.
use Rattle.std.specs.Prelude.{ℕ, if◌then◌else◌, Option, None, Some, List, [], ◌∷◌, ◌≡◌, false}
use Rattle.std.specs.FinMap as map
use Rattle.ebs_model.specs.declared.keys.SnapKey.{SnapKey}
use Rattle.ebs_model.specs.declared.keys.AnyKey.{AnyKey}
use Rattle.ebs_model.specs.declared.keys.AnyKey.TheVariants.{Snap}
use Rattle.ebs_model.specs.declared.request.Request.{Request}
use Rattle.ebs_model.specs.declared.request.Request.TheVariants.{StartSnapshot, CreateVolume, DeleteSnapshot}
use Rattle.ebs_model.specs.declared.change.Change.{Change}
use Rattle.ebs_model.specs.Rows.{Rows}
use Rattle.ebs_model.specs.inner.Time.{has_blocks}
use Rattle.ebs_holds.specs.declared.holder.Holder.{Holder}
use Rattle.ebs_holds.specs.Holders.{of_snap}
use Rattle.ebs_holds.specs.Holds.{held_in}
use Rattle.ebs_holds.specs.Changes.{HasRoom}
use Rattle.ebs_catalog.specs.Held.{rows_in}
use Rattle.ebs_catalog.specs.Rooms as rooms
use Rattle.ebs_kept.specs.declared.kept.Reserved.{Reserved}
use Rattle.ebs_kept.specs.inner.Shown.{Form}

-- whose array an upload or a volume begins with: its parent's, where that has blocks at the moment
abbrev pub source_by : ℕ → Rows → Option SnapKey → Option Holder
source_by now rows None = None
source_by now rows (Some parent) = if has_blocks now (map.get rows.snaps parent) then Some (of_snap parent) else None

abbrev pub source_in : ℕ → Rows → Request → Option Holder
source_in now rows (StartSnapshot size parent description tags token timeout) = source_by now rows parent
source_in now rows (CreateVolume origin size tags token) = source_by now rows origin
source_in now rows request = None

-- the room that the change takes is there, of rows and of arrays, and this is what it ends
pub record IsReserved (f : Form) (change : Change) (r : Reserved) : Type 0 where
  pub rows : rooms.IsReady f.catalog change r.room
  pub arrays : HasRoom f.holding change.made change.request
  pub ended : r.ended ≡ change.ended

-- the snapshot that a request deletes
abbrev pub deleted_snap : Request → Option SnapKey
deleted_snap (DeleteSnapshot key) = Some key
deleted_snap request = None

-- what is without blocks at the moment of the clock has no array either
abbrev pub HasNoArray : Form → Option SnapKey → Type 0
HasNoArray f None = Unit {0}
HasNoArray f (Some key) = has_blocks f.machine.clock.second (map.get (rows_in f.catalog).snaps key) ≡ false → map.get (held_in f.holding) (of_snap key) ≡ None

-- nor has what a change ended
abbrev pub IsWithoutArray : Form → AnyKey → Type 0
IsWithoutArray f (Snap key) = HasNoArray f (Some key)
IsWithoutArray f id = Unit {0}

abbrev pub HaveNoArray : Form → List AnyKey → Type 0
HaveNoArray f [] = Unit {0}
HaveNoArray f (id ∷ ids) = IsWithoutArray f id × HaveNoArray f ids
