-- What a checkpoint says, and its kept form.
use Rattle.std.proofs.Common.{◌≡◌, ℕ, Bool, true, false, cond, List, [], ◌∷◌, ◌++◌, map, length, Option, None, Some, refl, sym, ap, subst, ◌∙◌}
use Rattle.std.specs.Option.{option_map, unwrap_or}
use Rattle.std.specs.declared.cmp.Ordering.{Ordering}
use Rattle.std.specs.Ordering.{eq_by_cmp}
use Rattle.std.specs.Cmp.{nat_cmp_total, IsTotalOrder}
use Rattle.std.specs.FinMap.{FinMap, IsAntisymmetric, get, find, empty, get-from_entries, nat_cmp-IsAntisymmetric, same_map}
use Rattle.ebs_model.specs.declared.array.Block.{Block}
use Rattle.ebs_model.specs.declared.keys.SnapKey.{SnapKey}
use Rattle.ebs_model.specs.declared.keys.VolKey.{VolKey}
use Rattle.ebs_model.specs.Keys.{snap_cmp, vol_cmp}
use Rattle.ebs_model.specs.Quotas.{block_size}
use Rattle.ebs_model.specs.Arrays.{WholeBlock, WholeArray}
use Rattle.ebs_model.specs.Time.{Snapshot}
use Rattle.ebs_model.specs.Machine.{array_at}
use Rattle.ebs_model.specs.inner.Orders.{snaps_total, exact_snaps, vols_total, exact_vols}
use Rattle.ebs_model.specs.inner.MapValues.{map_values}
use Rattle.ebs_model.specs.inner.Kept.{digested, digested_array, digested_block, digested_snapshot}
use Rattle.ebs_model.proofs.Values.{get-map_values}
use Rattle.ebs_checkpoints.specs.declared.owned.VolPoint.{VolPoint}
use Rattle.ebs_checkpoints.specs.declared.snapshots.SnapPoint.{SnapPoint}
use Rattle.ebs_checkpoints.specs.declared.checkpoint.Checkpoint.{Checkpoint}
use Rattle.ebs_checkpoints.specs.Checkpoints.{spelled}
use Rattle.ebs_checkpoints.specs.inner.Checkpoints.{apart_checkpoint}
use Rattle.ebs_checkpoint_rules.specs.Rules.{IsCheckpoint}
use Rattle.ebs_node_rules.specs.Arrays.{Array, Arrays, array_in, arrays_of, row_array}
use Rattle.ebs_recovery.specs.Made.{State}
use Rattle.ebs_recovery.specs.Bases.{machine_with, Both, IsBlockOf, IsDigestOf, OfBlock, IsArrayOf, IsSnapshotOf, IsDiskOf, snaps_at, vols_at, Says, IsBase}
use Rattle.ebs_recovery.specs.Stands.{snapshot, volume}
use Rattle.ebs_recovery.specs.inner.Stands.{EachBlock}
use Rattle.ebs_recovery.specs.inner.Made.{digested_state}
use Rattle.ebs_recovery.specs.inner.Bases.{kept_block, kept_array, snapshot_of, snaps_of, disks_of, state_of}
use Rattle.ebs_recovery.proofs.Outcomes.{none_in}

-- ---- what is found by a key

find_mapped : {P K X : Type 0} (R : K → K → Ordering) (key : P → K) (f : P → X) (ps : List P) (q : K) → find R q (map (λ p. (key p, f p)) ps) ≡ option_map f (find R q (map (λ p. (key p, p)) ps))
find_mapped R key f [] q = refl
find_mapped R key f (p ∷ ps) q = by (eq_by_cmp R q (key p)) (find_mapped R key f ps q)
  where
    by : (b : Bool) → find R q (map (λ p. (key p, f p)) ps) ≡ option_map f (find R q (map (λ p. (key p, p)) ps)) → cond b (Some (f p)) (find R q (map (λ p. (key p, f p)) ps)) ≡ option_map f (cond b (Some p) (find R q (map (λ p. (key p, p)) ps)))
    by true rest = refl
    by false rest = rest

snap_at : (point : Checkpoint) (key : SnapKey) → get (snaps_of point) key ≡ option_map (snapshot_of (arrays_of point.nodes)) (get (snaps_at point) key)
unfolding snaps_of snaps_at
snap_at point key =
    get-from_entries snaps_total (map (λ (p : SnapPoint). (p.key, snapshot_of (arrays_of point.nodes) p)) point.snapshots) key
    ∙ find_mapped snap_cmp (λ (p : SnapPoint). p.key) (snapshot_of (arrays_of point.nodes)) point.snapshots key
    ∙ ap (option_map (snapshot_of (arrays_of point.nodes))) (sym (get-from_entries snaps_total (map (λ (p : SnapPoint). (p.key, p)) point.snapshots) key))

abbrev disk_of : Arrays → VolPoint → WholeArray
disk_of arrays v = kept_array (array_in arrays (Some v.node))

disk_at : (point : Checkpoint) (key : VolKey) → get (disks_of point) key ≡ option_map (disk_of (arrays_of point.nodes)) (get (vols_at point) key)
unfolding disks_of vols_at
disk_at point key =
    get-from_entries vols_total (map (λ (v : VolPoint). (v.row.key, disk_of (arrays_of point.nodes) v)) point.volumes) key
    ∙ find_mapped vol_cmp (λ (v : VolPoint). v.row.key) (disk_of (arrays_of point.nodes)) point.volumes key
    ∙ ap (option_map (disk_of (arrays_of point.nodes))) (sym (get-from_entries vols_total (map (λ (v : VolPoint). (v.row.key, v)) point.volumes) key))

-- both are there, or neither
either_both : {X Y Z : Type 0} (Related : X → Y → Type 0) (f : X → Z) (g : Y → Z) → ((x : X) (y : Y) → Related x y → g y ≡ f x) → (o : Option X) (p : Option Y) → Both Related o p → option_map g p ≡ option_map f o
either_both Related f g same None None h = refl
either_both Related f g same None (Some y) h = absurd h
either_both Related f g same (Some x) None h = absurd h
either_both Related f g same (Some x) (Some y) h = ap (λ z. Some z) (same x y h)

some_is : {Z : Type 0} (x y : Z) → Some x ≡ Some y → x ≡ y
some_is x y e = cc

both_either : {X Y Z : Type 0} (Related : X → Y → Type 0) (f : X → Z) (g : Y → Z) (o : Option X) (p : Option Y) → ((x : X) (y : Y) → p ≡ Some y → g y ≡ f x → Related x y) → option_map g p ≡ option_map f o → Both Related o p
both_either Related f g None None same e = tt
both_either Related f g None (Some y) same e = absurd (cc)
both_either Related f g (Some x) None same e = absurd (cc)
both_either Related f g (Some x) (Some y) same e = same x y refl (some_is (g y) (f x) e)

map_none : {Y : Type 0} (o : Option Y) → option_map (λ y. y) o ≡ o
map_none None = refl
map_none (Some y) = refl

-- ---- the kept form of blocks that are so

module _ (Is : OfBlock) (f : WholeBlock → WholeBlock) (same : (block : Block) (whole : WholeBlock) → Is block whole → f whole ≡ kept_block block) where
  abbrev kept : WholeArray → WholeArray
  kept array = map_values f array

  array_kept : (blocks : Array) (array : WholeArray) → IsArrayOf Is blocks array → kept array ≡ kept_array blocks
  array_kept blocks array is = same_map nat_cmp_total nat_cmp-IsAntisymmetric _ _ (λ q.
      get-map_values nat_cmp_total f array q
      ∙ either_both Is kept_block f same (get blocks q) (get array q) (is q)
      ∙ sym (get-map_values nat_cmp_total kept_block blocks q))

  abbrev kept_snapshot : Snapshot → Snapshot
  kept_snapshot s = record { row = s.row; array = kept s.array }

  snapshot_kept : (arrays : Arrays) (p : SnapPoint) (s : Snapshot) → IsSnapshotOf Is arrays p s → kept_snapshot s ≡ snapshot_of arrays p
  snapshot_kept arrays p s is = λ i. record { row = is.row i; array = array_kept (row_array arrays p) s.array is.array i }

  module _ (point : Checkpoint) (state : State) (says : Says Is point state) where
    snaps_kept : map_values kept_snapshot state.machine.snaps ≡ snaps_of point
    snaps_kept = same_map snaps_total exact_snaps _ _ (λ q.
        get-map_values snaps_total kept_snapshot state.machine.snaps q
        ∙ either_both (IsSnapshotOf Is (arrays_of point.nodes)) (snapshot_of (arrays_of point.nodes)) kept_snapshot (snapshot_kept (arrays_of point.nodes)) (get (snaps_at point) q) (get state.machine.snaps q) (says.snaps q)
        ∙ sym (snap_at point q))

    disks_kept : map_values kept state.machine.disks ≡ disks_of point
    disks_kept = same_map vols_total exact_vols _ _ (λ q.
        get-map_values vols_total kept state.machine.disks q
        ∙ either_both (IsDiskOf Is (arrays_of point.nodes)) (disk_of (arrays_of point.nodes)) kept (λ v array is. array_kept (array_in (arrays_of point.nodes) (Some v.node)) array is) (get (vols_at point) q) (get state.machine.disks q) (says.disks q)
        ∙ sym (disk_at point q))

-- ---- whole blocks

block_kept : (block : Block) (whole : WholeBlock) → IsBlockOf block whole → digested_block whole ≡ kept_block block
block_kept block whole is = λ i. record { stamp = is.stamp i; bytes = is.digest i }

pub says_kept : (point : Checkpoint) (state : State) → Says IsBlockOf point state → digested_state state ≡ state_of point
says_kept point state says = λ i. record {
  machine = (ap digested says.machine ∙ (λ j. machine_with point (snaps_kept IsBlockOf digested_block block_kept point state says j) (disks_kept IsBlockOf digested_block block_kept point state says j))) i;
  slots = says.slots i;
}

module _ (point : Checkpoint) (state : State) (is : digested_state state ≡ state_of point) (whole : EachBlock (λ block. length block.bytes ≡ block_size) state.machine) where
  array_whole : (blocks : Array) (array : WholeArray) → ((index : ℕ) (block : WholeBlock) → get array index ≡ Some block → length block.bytes ≡ block_size) → digested_array array ≡ kept_array blocks → IsArrayOf IsBlockOf blocks array
  array_whole blocks array sizes e index = both_either IsBlockOf kept_block digested_block (get blocks index) (get array index)
      (λ b w there same. record { stamp = ap (λ (x : WholeBlock). x.stamp) same; digest = ap (λ (x : WholeBlock). x.bytes) same; size = sizes index w there })
      (sym (get-map_values nat_cmp_total digested_block array index) ∙ ap (λ (a : WholeArray). get a index) e ∙ get-map_values nat_cmp_total kept_block blocks index)

  snaps_whole : (key : SnapKey) → Both (IsSnapshotOf IsBlockOf (arrays_of point.nodes)) (get (snaps_at point) key) (get state.machine.snaps key)
  snaps_whole key = both_either (IsSnapshotOf IsBlockOf (arrays_of point.nodes)) (snapshot_of (arrays_of point.nodes)) digested_snapshot (get (snaps_at point) key) (get state.machine.snaps key)
      (λ p s there same. record {
        row = ap (λ (x : Snapshot). x.row) same;
        array = array_whole (row_array (arrays_of point.nodes) p) s.array
            (λ index block e. whole (snapshot key) index block (ap (λ (o : Option Snapshot). get (array_at o) index) there ∙ e)) (ap (λ (x : Snapshot). x.array) same);
      })
      (sym (get-map_values snaps_total digested_snapshot state.machine.snaps key) ∙ ap (λ (s : State). get s.machine.snaps key) is ∙ snap_at point key)

  disks_whole : (key : VolKey) → Both (IsDiskOf IsBlockOf (arrays_of point.nodes)) (get (vols_at point) key) (get state.machine.disks key)
  disks_whole key = both_either (IsDiskOf IsBlockOf (arrays_of point.nodes)) (disk_of (arrays_of point.nodes)) digested_array (get (vols_at point) key) (get state.machine.disks key)
      (λ v a there same. array_whole (array_in (arrays_of point.nodes) (Some v.node)) a
      (λ index block e. whole (volume key) index block (ap (λ (o : Option WholeArray). get (unwrap_or o empty) index) there ∙ e)) same)
      (sym (get-map_values vols_total digested_array state.machine.disks key) ∙ ap (λ (s : State). get s.machine.disks key) is ∙ disk_at point key)

  pub says_whole : Says IsBlockOf point state
  says_whole = record {
    machine = λ i. record (is i).machine { snaps = state.machine.snaps; disks = state.machine.disks };
    snaps = snaps_whole;
    disks = disks_whole;
    slots = ap (λ (s : State). s.slots) is;
  }

module _ (point : Checkpoint) (state : State) (says : Says IsBlockOf point state) where
  size_at : (blocks : Array) (array : WholeArray) → IsArrayOf IsBlockOf blocks array → (index : ℕ) (block : WholeBlock) → get array index ≡ Some block → length block.bytes ≡ block_size
  size_at blocks array is index block e = by (get blocks index) (get array index) (is index) e
    where
      by : (o : Option Block) (p : Option WholeBlock) → Both IsBlockOf o p → p ≡ Some block → length block.bytes ≡ block_size
      by None None h e = absurd (cc)
      by None (Some w) h e = absurd h
      by (Some b) None h e = absurd h
      by (Some b) (Some w) h e = subst (λ (x : WholeBlock). length x.bytes ≡ block_size) (some_is w block e) h.size

  -- each block that the state has is whole
  pub says_sizes : EachBlock (λ block. length block.bytes ≡ block_size) state.machine
  says_sizes (snapshot key) index block e = by (get (snaps_at point) key) (get state.machine.snaps key) (says.snaps key) e
    where
      by : (o : Option SnapPoint) (p : Option Snapshot) → Both (IsSnapshotOf IsBlockOf (arrays_of point.nodes)) o p → get (array_at p) index ≡ Some block → length block.bytes ≡ block_size
      by None None h e = absurd (none_in index block e)
      by None (Some s) h e = absurd h
      by (Some p) None h e = absurd h
      by (Some p) (Some s) h e = size_at (row_array (arrays_of point.nodes) p) s.array h.array index block e
  says_sizes (volume key) index block e = by (get (vols_at point) key) (get state.machine.disks key) (says.disks key) e
    where
      by : (o : Option VolPoint) (p : Option WholeArray) → Both (IsDiskOf IsBlockOf (arrays_of point.nodes)) o p → get (unwrap_or p empty) index ≡ Some block → length block.bytes ≡ block_size
      by None None h e = absurd (none_in index block e)
      by None (Some a) h e = absurd h
      by (Some v) None h e = absurd h
      by (Some v) (Some a) h e = size_at (array_in (arrays_of point.nodes) (Some v.node)) a h index block e

-- ---- the kept form itself

map_same : {K X : Type 0} {R : K → K → Ordering} (o : IsTotalOrder R) → IsAntisymmetric R → (f : X → X) → ((x : X) → f x ≡ x) → (m : FinMap R X) → map_values f m ≡ m
map_same {K} {X} o exact f same m = same_map o exact _ _ (λ q. get-map_values o f m q ∙ each (get m q))
  where
    each : (v : Option X) → option_map f v ≡ v
    each None = refl
    each (Some x) = ap (λ y. Some y) (same x)

abbrev itself : WholeBlock → WholeBlock
itself b = b

array_itself : (array : WholeArray) → map_values itself array ≡ array
array_itself array = map_same nat_cmp_total nat_cmp-IsAntisymmetric itself (λ b. refl) array

pub one_said : (point : Checkpoint) (k : State) → Says IsDigestOf point k → k ≡ state_of point
one_said point k says =
    let kept : Snapshot → Snapshot = λ s. record { row = s.row; array = map_values itself s.array } in
    let snaps = sym (map_same snaps_total exact_snaps kept (λ s i. record { row = s.row; array = array_itself s.array i }) k.machine.snaps) ∙ snaps_kept IsDigestOf itself (λ block whole is. is) point k says in
    let disks = sym (map_same vols_total exact_vols (λ (a : WholeArray). map_values itself a) array_itself k.machine.disks) ∙ disks_kept IsDigestOf itself (λ block whole is. is) point k says in
    (λ i. record { machine = (says.machine ∙ (λ j. machine_with point (snaps j) (disks j))) i; slots = says.slots i })

block_said : (o : Option Block) → Both IsDigestOf o (option_map kept_block o)
block_said None = tt
block_said (Some b) = refl

array_said : (blocks : Array) → IsArrayOf IsDigestOf blocks (kept_array blocks)
array_said blocks index = subst (Both IsDigestOf (get blocks index)) (sym (get-map_values nat_cmp_total kept_block blocks index)) (block_said (get blocks index))

module _ (point : Checkpoint) where
  snap_said : (o : Option SnapPoint) → Both (IsSnapshotOf IsDigestOf (arrays_of point.nodes)) o (option_map (snapshot_of (arrays_of point.nodes)) o)
  snap_said None = tt
  snap_said (Some p) = record { row = refl; array = array_said (row_array (arrays_of point.nodes) p) }

  disk_said : (o : Option VolPoint) → Both (IsDiskOf IsDigestOf (arrays_of point.nodes)) o (option_map (disk_of (arrays_of point.nodes)) o)
  disk_said None = tt
  disk_said (Some v) = array_said (array_in (arrays_of point.nodes) (Some v.node))

  pub state_said : Says IsDigestOf point (state_of point)
  state_said = record {
    machine = refl;
    snaps = λ key. subst (Both (IsSnapshotOf IsDigestOf (arrays_of point.nodes)) (get (snaps_at point) key)) (sym (snap_at point key)) (snap_said (get (snaps_at point) key));
    disks = λ key. subst (Both (IsDiskOf IsDigestOf (arrays_of point.nodes)) (get (vols_at point) key)) (sym (disk_at point key)) (disk_said (get (vols_at point) key));
    slots = refl;
  }

-- ---- one checkpoint

pub one_point : (p q : Checkpoint) → IsCheckpoint p → IsCheckpoint q → spelled p ≡ spelled q → p ≡ q
one_point p q x y same = (apart_checkpoint p q [] [] x.spelling y.spelling (ap (λ (bytes : List ℕ). bytes ++ []) same)).0

pub base_kept : (point : Checkpoint) (bytes : List ℕ) (base : State) → IsCheckpoint point → bytes ≡ spelled point → IsBase bytes base → digested_state base ≡ state_of point
base_kept point bytes base is spells x = says_kept x.point base x.says ∙ ap state_of (one_point x.point point x.is_checkpoint is (sym x.is ∙ spells))

-- a checkpoint says one state, but for the bytes of its blocks
pub one_base : (p q : List ℕ) (a b : State) → IsBase p a → IsBase q b → p ≡ q → digested_state a ≡ digested_state b
one_base p q a b x y same = base_kept y.point p a y.is_checkpoint (same ∙ y.is) x ∙ sym (says_kept y.point b y.says)
