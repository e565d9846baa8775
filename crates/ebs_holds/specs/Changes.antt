-- What a change does to arrays, and the room that it takes.
use Rattle.std.specs.Prelude.{◌≡◌, ℕ, ◌<◌, ◌^◌, true, List, [], ◌∷◌, length, if◌then◌else◌}
use Rattle.std.specs.declared.option.Option.{Option}
use Rattle.std.specs.declared.option.Option.TheVariants.{None, Some}
use Rattle.std.specs.FinMap as map
use Rattle.ebs_model.specs.declared.keys.AnyKey.{AnyKey}
use Rattle.ebs_model.specs.declared.keys.AnyKey.TheVariants.{Snap, Vol}
use Rattle.ebs_model.specs.declared.keys.SnapKey.{SnapKey}
use Rattle.ebs_model.specs.declared.keys.VolKey.{VolKey}
use Rattle.ebs_model.specs.declared.array.Block.{Block}
use Rattle.ebs_model.specs.declared.request.Request.{Request}
use Rattle.ebs_model.specs.declared.request.Request.TheVariants.{StartSnapshot, PutSnapshotBlock, CreateVolume, CreateSnapshot, WriteVolumeBlock, DeleteVolume, RunPolicy}
use Rattle.ebs_model.specs.Decisions.{made_snap, made_vol}
use Rattle.ebs_lineage.specs.Owned.{Blocks}
use Rattle.ebs_holds.specs.declared.holder.Holder.{Holder}
use Rattle.ebs_holds.specs.Holders.{of_snap, of_vol, is_holder}
use Rattle.ebs_holds.specs.Holds.{Holding, HasNodes, CanPut, held_in, is_ready}

-- what has which array
abbrev pub Arrays : Type 0
Arrays = Holder → Blocks

abbrev pub snap_holder : Option SnapKey → Option Holder
snap_holder None = None
snap_holder (Some key) = Some (of_snap key)

abbrev pub vol_holder : Option VolKey → Option Holder
vol_holder None = None
vol_holder (Some key) = Some (of_vol key)

-- a holder begins with another's array, where it is made
abbrev pub begun_by : Arrays → Option Holder → Blocks
begun_by arrays None = map.empty
begun_by arrays (Some source) = arrays source

abbrev pub begins : Arrays → Option Holder → Option Holder → Arrays
begins arrays None source q = arrays q
begins arrays (Some made) source q = if is_holder q made then begun_by arrays source else arrays q

abbrev pub puts : Arrays → Holder → ℕ → Block → Arrays
puts arrays holder index block q = if is_holder q holder then map.insert (arrays q) index block else arrays q

abbrev pub drops : Arrays → Holder → Arrays
drops arrays holder q = if is_holder q holder then map.empty else arrays q

-- one snapshot of a run, with its volume's whole array
abbrev pub runs_one : Arrays → AnyKey → AnyKey → Arrays
runs_one arrays (Snap key) (Vol volume) = begins arrays (Some (of_snap key)) (Some (of_vol volume))
runs_one arrays made source = arrays

-- all of them, one after another
abbrev pub runs : Arrays → List AnyKey → List AnyKey → Arrays
runs arrays made [] = arrays
runs arrays [] (source ∷ sources) = arrays
runs arrays (id ∷ made) (source ∷ sources) = runs (runs_one arrays id source) made sources

-- the arrays after a change of this request; what is made by a start or a creation begins from the source. That of a snapshot that goes stays
abbrev pub after : List AnyKey → List AnyKey → Option Holder → Block → Arrays → Request → Arrays
after made sources source block arrays (StartSnapshot size parent description tags token timeout) = begins arrays (snap_holder (made_snap made)) source
after made sources source block arrays (CreateVolume origin size tags token) = begins arrays (vol_holder (made_vol made)) source
after made sources source block arrays (CreateSnapshot volume description tags) = begins arrays (snap_holder (made_snap made)) (Some (of_vol volume))
after made sources source block arrays (RunPolicy key) = runs arrays made sources
after made sources source block arrays (PutSnapshotBlock key index digest bytes) = puts arrays (of_snap key) index block
after made sources source block arrays (WriteVolumeBlock key index digest bytes) = puts arrays (of_vol key) index block
after made sources source block arrays (DeleteVolume key) = drops arrays (of_vol key)
after made sources source block arrays request = arrays

-- room for one that begins
pub record CanBegin (h : Holding) (holder : Holder) : Type 0 where
  pub ready : is_ready h holder ≡ true
  pub room : HasNodes h 1

abbrev pub CanMake : Holding → Option Holder → Type 0
CanMake h None = Unit {0}
CanMake h (Some holder) = CanBegin h holder

-- and for each that a run makes
abbrev pub IsReadyOne : Holding → AnyKey → Type 0
IsReadyOne h (Snap key) = is_ready h (of_snap key) ≡ true
IsReadyOne h id = Unit {0}

abbrev pub AreReady : Holding → List AnyKey → Type 0
AreReady h [] = Unit {0}
AreReady h (id ∷ made) = IsReadyOne h id × AreReady h made

pub record CanRun (h : Holding) (made : List AnyKey) : Type 0 where
  pub ready : AreReady h made
  pub room : HasNodes h (length made)

-- the room that a change takes; an index that no array can have takes none
abbrev pub HasRoom : Holding → List AnyKey → Request → Type 0
HasRoom h made (StartSnapshot size parent description tags token timeout) = CanMake h (snap_holder (made_snap made))
HasRoom h made (CreateVolume origin size tags token) = CanMake h (vol_holder (made_vol made))
HasRoom h made (CreateSnapshot volume description tags) = CanMake h (snap_holder (made_snap made))
HasRoom h made (RunPolicy key) = CanRun h made
HasRoom h made (PutSnapshotBlock key index digest bytes) = index < 2 ^ 32 → CanPut h (of_snap key)
HasRoom h made (WriteVolumeBlock key index digest bytes) = index < 2 ^ 32 → CanPut h (of_vol key)
HasRoom h made request = Unit {0}

-- what was made is ready no more, unless it has an array
abbrev pub IsFree : Holding → Holder → Type 0
IsFree h q = is_ready h q ≡ map.contains_key (held_in h) q

abbrev pub IsFreeOne : Holding → AnyKey → Type 0
IsFreeOne h (Snap key) = IsFree h (of_snap key)
IsFreeOne h (Vol key) = IsFree h (of_vol key)
IsFreeOne h id = Unit {0}

abbrev pub AreFree : Holding → List AnyKey → Type 0
AreFree h [] = Unit {0}
AreFree h (id ∷ made) = IsFreeOne h id × AreFree h made

-- no other change made any ready
abbrev pub GivesBack : Holding → List AnyKey → Request → Type 0
GivesBack h made (StartSnapshot size parent description tags token timeout) = AreFree h made
GivesBack h made (CreateVolume origin size tags token) = AreFree h made
GivesBack h made (CreateSnapshot volume description tags) = AreFree h made
GivesBack h made (RunPolicy key) = AreFree h made
GivesBack h made request = Unit {0}

-- an index of a block that is written has 32 bits
abbrev pub HasSmallIndex : Request → Type 0
HasSmallIndex (PutSnapshotBlock key index digest bytes) = index < 2 ^ 32
HasSmallIndex (WriteVolumeBlock key index digest bytes) = index < 2 ^ 32
HasSmallIndex request = Unit {0}
