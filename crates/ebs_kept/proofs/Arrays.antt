-- What a change makes of the arrays of snapshots and volumes, key by key.
use Rattle.std.proofs.Common.{◌≡◌, ℕ, Bool, true, false, cond, ◌<◌, ◌^◌, ◌++◌, List, [], ◌∷◌, Option, Some, None, Ordering, refl, sym, ap, ◌∙◌}
use Rattle.std.specs.Option.{option_map}
use Rattle.std.specs.Ordering.{eq_by_cmp}
use Rattle.std.specs.Cmp.{nat_cmp_total}
use Rattle.std.specs.FinMap.{get, insert, empty, nat_cmp-IsAntisymmetric}
use Rattle.std.proofs.lemmas.Bool.{false≢true}
use Rattle.ebs_tables.proofs.MapEdits.{is_same, tied}
use Rattle.ebs_model.specs.declared.keys.SnapKey.{SnapKey}
use Rattle.ebs_model.specs.declared.keys.VolKey.{VolKey}
use Rattle.ebs_model.specs.declared.keys.AnyKey.{AnyKey}
use Rattle.ebs_model.specs.declared.keys.AnyKey.TheVariants.{Snap, Vol}
use Rattle.ebs_model.specs.declared.array.Block.{Block}
use Rattle.ebs_model.specs.declared.request.Request.{Request}
use Rattle.ebs_model.specs.declared.request.Request.TheVariants.{StartSnapshot, PutSnapshotBlock, CreateVolume, CreateSnapshot, WriteVolumeBlock, DeleteVolume, RunPolicy}
use Rattle.ebs_model.specs.Keys.{snap_cmp, vol_cmp}
use Rattle.ebs_model.specs.inner.Orders.{snaps_total, exact_snaps}
use Rattle.ebs_model.specs.inner.Time.{has_blocks}
use Rattle.ebs_model.specs.Arrays.{WholeBlock, WholeArray}
use Rattle.ebs_model.specs.Rows.{Rows, is_key}
use Rattle.ebs_model.specs.Step.{is_made}
use Rattle.ebs_model.proofs.RowLaws.{is_key-other, key_itself}
use Rattle.ebs_model.proofs.Values.{get-map_values, map_values-insert, map_values-empty}
use Rattle.ebs_lineage.specs.Owned.{Blocks}
use Rattle.ebs_lineage.specs.Lines.{AreSmall}
use Rattle.ebs_kept.specs.inner.Shown.{kept_block, kept_array}

-- what an upload or a volume begins with, of rows and arrays as they are kept
abbrev pub begun_by : ℕ → Rows → (SnapKey → WholeArray) → Option SnapKey → WholeArray
begun_by now rows array None = empty
begun_by now rows array (Some parent) = cond (has_blocks now (get rows.snaps parent)) (array parent) empty

-- what the change makes begins with: a snapshot of a volume with all its blocks
abbrev pub begun_in : ℕ → Rows → (SnapKey → WholeArray) → (VolKey → WholeArray) → Request → WholeArray
begun_in now rows array disk (StartSnapshot size parent description tags token timeout) = begun_by now rows array parent
begun_in now rows array disk (CreateVolume origin size tags token) = begun_by now rows array origin
begun_in now rows array disk (CreateSnapshot volume description tags) = disk volume
begun_in now rows array disk request = empty

-- a snapshot that a run makes of a volume, with the volume's whole array
abbrev pub copy_by : (VolKey → WholeArray) → AnyKey → AnyKey → List (SnapKey × WholeArray)
copy_by disk (Snap key) (Vol volume) = (key, disk volume) ∷ []
copy_by disk made source = []

-- all that it makes, each of its source
abbrev pub copies_of : (VolKey → WholeArray) → List AnyKey → List AnyKey → List (SnapKey × WholeArray)
copies_of disk made [] = []
copies_of disk [] (source ∷ sources) = []
copies_of disk (id ∷ made) (source ∷ sources) = copy_by disk id source ++ copies_of disk made sources

-- no other change makes several
abbrev pub copies_in : (VolKey → WholeArray) → List AnyKey → List AnyKey → Request → List (SnapKey × WholeArray)
copies_in disk made sources (RunPolicy key) = copies_of disk made sources
copies_in disk made sources request = []

-- an array once they are written, one after another
abbrev pub copied : List (SnapKey × WholeArray) → SnapKey → WholeArray → WholeArray
copied [] key array = array
copied (c ∷ copies) key array = copied copies key (cond (eq_by_cmp snap_cmp key c.0) c.1 array)

-- whether this key was made
abbrev pub is_new : {K : Type 0} → (R : K → K → Ordering) → K → Option K → Bool
is_new R key None = false
is_new R key (Some made) = eq_by_cmp R key made

-- the arrays of snapshots after it
abbrev pub arrays_after : ℕ → List ℕ → WholeArray → (SnapKey → WholeArray) → Option SnapKey → Request → SnapKey → WholeArray
arrays_after stamp digest begun array made (StartSnapshot size parent description tags token timeout) key = cond (is_new snap_cmp key made) begun (array key)
arrays_after stamp digest begun array made (CreateSnapshot source description tags) key = cond (is_new snap_cmp key made) begun (array key)
arrays_after stamp digest begun array made (PutSnapshotBlock at index stated left) key =
    cond (eq_by_cmp snap_cmp key at) (insert (array key) index (record { stamp = stamp; bytes = digest })) (array key)
arrays_after stamp digest begun array made request key = array key

-- and those of volumes
abbrev pub disks_after : ℕ → List ℕ → WholeArray → (VolKey → WholeArray) → Option VolKey → Request → VolKey → WholeArray
disks_after stamp digest begun disk made (CreateVolume origin size tags token) key = cond (is_new vol_cmp key made) begun (disk key)
disks_after stamp digest begun disk made (WriteVolumeBlock at index stated left) key =
    cond (eq_by_cmp vol_cmp key at) (insert (disk key) index (record { stamp = stamp; bytes = digest })) (disk key)
disks_after stamp digest begun disk made (DeleteVolume at) key = cond (eq_by_cmp vol_cmp key at) empty (disk key)
disks_after stamp digest begun disk made request key = disk key

-- two tests of keys say the same
pub same-test : (q key : SnapKey) → is_key q key ≡ eq_by_cmp snap_cmp q key
same-test q key = by (eq_by_cmp snap_cmp q key) refl
  where
    by : (b : Bool) → eq_by_cmp snap_cmp q key ≡ b → is_key q key ≡ b
    by true t = ap (λ k. is_key k key) (is_same exact_snaps q key t) ∙ key_itself key
    by false t = is_key-other q key (λ same. false≢true (sym t ∙ ap (λ k. eq_by_cmp snap_cmp k key) same ∙ tied snaps_total key))

pub same-made : (q : SnapKey) (made : Option SnapKey) → is_made q made ≡ is_new snap_cmp q made
same-made q None = refl
same-made q (Some key) = same-test q key

-- ---- arrays with digests in the place of bytes

pub kept-cond : (b : Bool) (x y : Blocks) → kept_array (cond b x y) ≡ cond b (kept_array x) (kept_array y)
kept-cond true x y = refl
kept-cond false x y = refl

pub kept-insert : (blocks : Blocks) (index : ℕ) (block : Block) → kept_array (insert blocks index block) ≡ insert (kept_array blocks) index (kept_block block)
kept-insert blocks index block = map_values-insert nat_cmp_total kept_block nat_cmp-IsAntisymmetric blocks index block

pub kept-empty : kept_array empty ≡ empty
kept-empty = map_values-empty nat_cmp_total kept_block nat_cmp-IsAntisymmetric

pub get-kept : (blocks : Blocks) (index : ℕ) → get (kept_array blocks) index ≡ option_map kept_block (get blocks index)
get-kept blocks index = get-map_values nat_cmp_total kept_block blocks index

-- a block of the kept array is one of the array
pub kept-found : (blocks : Blocks) (index : ℕ) (block : WholeBlock) → get (kept_array blocks) index ≡ Some block → (b : Block) × (get blocks index ≡ Some b) × (kept_block b ≡ block)
kept-found blocks index block e = by (get blocks index) refl (sym (get-kept blocks index) ∙ e)
  where
    by : (o : Option Block) → get blocks index ≡ o → option_map kept_block o ≡ Some block → (b : Block) × (get blocks index ≡ Some b) × (kept_block b ≡ block)
    by None is e = absurd (cc)
    by (Some b) is e = (b, is, cc)

-- so its indexes have 32 bits too
pub kept-small : (blocks : Blocks) → AreSmall blocks → (index : ℕ) (block : WholeBlock) → get (kept_array blocks) index ≡ Some block → index < 2 ^ 32
kept-small blocks small index block e = let (b, found, is) = kept-found blocks index block e in small index b found
