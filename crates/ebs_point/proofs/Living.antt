-- The blocks of what is named at a moment: each has the digest of its stamp, at an index of an image.
use Rattle.std.proofs.Common.{◌≡◌, ℕ, ◌<◌, ◌≤◌, Bool, true, false, ◌&&◌, cond, List, Option, None, Some, IsSome, refl, sym, ap, subst, ◌∙◌, arith}
use Rattle.std.specs.Prelude.{nat_le, unwrap_or}
use Rattle.std.specs.Option.{is_some, option_map}
use Rattle.std.specs.Ordering.{nat_cmp}
use Rattle.std.specs.Cmp.{nat_cmp_total}
use Rattle.std.specs.List.{AllByRecursion}
use Rattle.std.specs.FinMap.{FinMap, get, empty, entries, get-empty}
use Rattle.ebs_model.specs.declared.array.Block.{Block}
use Rattle.ebs_model.specs.declared.keys.Moment.{Moment}
use Rattle.ebs_model.specs.declared.keys.SnapKey.{SnapKey}
use Rattle.ebs_model.specs.declared.keys.VolKey.{VolKey}
use Rattle.ebs_model.specs.declared.rows.SnapRow.{SnapRow}
use Rattle.ebs_model.specs.declared.rows.VolRow.{VolRow}
use Rattle.ebs_model.specs.declared.rows.RowStatus.{RowStatus}
use Rattle.ebs_model.specs.declared.rows.RowStatus.TheVariants.{Pending, Completed, Failed}
use Rattle.ebs_model.specs.Arrays.{WholeArray, WholeBlock}
use Rattle.ebs_model.specs.Limits.{is_size, most_gib}
use Rattle.ebs_model.specs.Quotas.{blocks_of}
use Rattle.ebs_model.specs.Rows.{Rows}
use Rattle.ebs_model.specs.Time.{Snapshot, is_failed, status_at}
use Rattle.ebs_model.specs.Machine.{Machine, advance, array_at, array_of, disk_of}
use Rattle.ebs_model.proofs.RowLaws.{get-row, row_in}
use Rattle.ebs_model.proofs.Values.{get-map_values}
use Rattle.ebs_records.specs.Records.{is_index}
use Rattle.ebs_slots.specs.inner.Slots.{SlotTable}
use Rattle.ebs_lineage.specs.declared.node_id.NodeId.{NodeId}
use Rattle.ebs_lineage.specs.Owned.{Blocks}
use Rattle.ebs_lineage.specs.Lines.{array}
use Rattle.ebs_checkpoints.specs.declared.owned.VolPoint.{VolPoint}
use Rattle.ebs_checkpoints.specs.declared.snapshots.SnapPoint.{SnapPoint}
use Rattle.ebs_row_rules.specs.inner.Stamps.{has_digest, is_digest}
use Rattle.ebs_node_rules.specs.Nodes.{names}
use Rattle.ebs_node_rules.specs.States.{status_of}
use Rattle.ebs_recovery.specs.Stands.{Holder, blocks_at, snapshot, volume}
use Rattle.ebs_recovery.specs.inner.Stands.{EachBlock}
use Rattle.ebs_recovery.specs.inner.Bases.{kept_array, kept_block}
use Rattle.ebs_recovery.specs.Bases.{row_of}
use Rattle.ebs_recovery.proofs.Outcomes.{each_aged}
use Rattle.ebs_lawful.proofs.Maps.{none_some, some_is}
use Rattle.ebs_lawful_points.specs.Blocks.{HasStamps}
use Rattle.ebs_lawful_points.proofs.Parts.{both, two, weaker}
use Rattle.ebs_lawful_points.proofs.RowRules.{less-is}
use Rattle.ebs_lawful_points.proofs.SnapPoints.{no_more}
use Rattle.ebs_point_rules.specs.Laws.{IsSettled}
use Rattle.ebs_point_rules.proofs.Settled.{time-settles}
use Rattle.ebs_holds.specs.Holders.{of_snap, of_vol}
use Rattle.ebs_holds.specs.Holds as holds
use Rattle.ebs_holds.specs.Holds.{Holding, array_of_node, held_in, nodes_in}
use Rattle.ebs_kept.specs.Stamps.{AreDigests, Digests, HasDigest, in_snapshot, in_volume}
use Rattle.ebs_kept.specs.inner.Shown.{disk_array, snap_array, with_disks}
use Rattle.ebs_kept.proofs.Disks.{get-disk}
use Rattle.ebs_pointed.specs.Nodes.{number_or}
use Rattle.ebs_pointed.specs.Snapshots.{IsPoint, listed_row}
use Rattle.ebs_point.specs.Live.{is_live}
use Rattle.ebs_point.specs.Nodes.{AreLive}
use Rattle.ebs_point.specs.Points.{CanPoint}
use Rattle.ebs_point.proofs.Left.{IsLeft, array-now, array-of}
use Rattle.ebs_point.proofs.Naming.{IsNode, IsNodeBy, IsVolNode, named-all}
use Rattle.ebs_point.proofs.Entered.{text-itself}

some-of : {X : Type 0} (o : Option X) → IsSome o → (x : X) × (o ≡ Some x)
some-of None h = absurd (cc)
some-of (Some x) h = (x, refl)

-- ---- digests of the machine's blocks

module _ (m : Machine) (of : HasStamps m) (digests : Digests) (are : AreDigests m digests) where
  abbrev IsDigested : WholeBlock → Type 0
  IsDigested x = get digests x.stamp ≡ Some x.bytes

  -- two blocks of one stamp are one
  same-block : (key : Holder) (index : ℕ) (x : WholeBlock) → get (blocks_at m key) index ≡ Some x → (d : List ℕ) → HasDigest m x.stamp d → x.bytes ≡ d
  same-block key index x found d (in_snapshot k i there) = ap (λ (y : WholeBlock). y.bytes) (of.one (snapshot k) i (record { stamp = x.stamp; bytes = d }) there key index x found refl)
  same-block key index x found d (in_volume k i there) = ap (λ (y : WholeBlock). y.bytes) (of.one (volume k) i (record { stamp = x.stamp; bytes = d }) there key index x found refl)

  digested-by : (key : Holder) (index : ℕ) (x : WholeBlock) → get (blocks_at m key) index ≡ Some x → IsSome (get digests x.stamp) → IsDigested x
  digested-by key index x found there = let r = some-of (get digests x.stamp) there in r.1 ∙ ap Some (sym (same-block key index x found r.0 (are.held x.stamp r.0 r.1)))

  digested : EachBlock IsDigested m
  digested (snapshot key) index x found = digested-by (snapshot key) index x found (are.snapshots key index x found)
  digested (volume key) index x found = digested-by (volume key) index x found (are.volumes key index x found)

  pub digested-at : (at : Moment) → EachBlock IsDigested (advance m at)
  digested-at at = each_aged IsDigested m at digested

-- ---- indexes of images

within : (size index : ℕ) → is_size size ≡ true → index < blocks_of size → is_index index ≡ true
within size index sized l =
    let most : size ≤ 16384 = no_more size 16384 (two (nat_le 1 size) (nat_le size 16384) sized).1 in
    less-is index (blocks_of most_gib) (omega (arith, most, l))

module _ (m : Machine) (settled : IsSettled m) where
  snap-within : (key : SnapKey) (index : ℕ) (x : WholeBlock) → get (array_of m key) index ≡ Some x → is_index index ≡ true
  snap-within key index x = by (get m.snaps key) refl
    where
      by : (o : Option Snapshot) → get m.snaps key ≡ o → get (array_at o) index ≡ Some x → is_index index ≡ true
      by None is e = none_some (sym (get-empty {X = WholeBlock} nat_cmp index) ∙ e)
      by (Some s) is e = within s.row.size index (settled.lawful.snaps key s.row (get-row m.snaps key ∙ ap row_in is)).size ((settled.arrays.snaps key s is).fits index x e)

  vol-within : (key : VolKey) (row : VolRow) → get m.vols key ≡ Some row → (index : ℕ) (x : WholeBlock) → get (disk_of m key) index ≡ Some x → is_index index ≡ true
  vol-within key row there index x e =
      let own = settled.arrays.vols key row there in
      within row.size index (settled.lawful.vols key row there).size (own.2 index x (ap (λ (o : Option WholeArray). get (unwrap_or o empty) index) (sym own.1) ∙ e))

-- ---- what is found in the nodes that are named

kept-there : (blocks : Blocks) (index : ℕ) (b : Block) → get blocks index ≡ Some b → get (kept_array blocks) index ≡ Some (kept_block b)
kept-there blocks index b found = get-map_values nat_cmp_total kept_block blocks index ∙ ap (option_map kept_block) found

has-digest : (digests : Digests) (b : Block) → get digests b.stamp ≡ Some b.digest → has_digest digests b ≡ true
has-digest digests b is = ap (λ (o : Option (List ℕ)). is_digest o b.digest) is ∙ text-itself b.digest

module _ (m : Machine) (rows : Rows) (h : Holding) (s : SlotTable) (at : Moment) (keeps : CanPoint m rows h s at) (digests : Digests) (are : AreDigests m digests) where
  abbrev now : ℕ
  now = at.second

  settled : IsSettled (advance m at)
  settled = time-settles m at keeps.later keeps.early keeps.lawful keeps.arrays

  live : (index : ℕ) (b : Block) → is_index index ≡ true → get digests b.stamp ≡ Some b.digest → is_live digests (record { index = index; block = b }) ≡ true
  live index b small is = λ i. small i && has-digest digests b is i

  abbrev IsLiveAt : ℕ → Type 0
  IsLiveAt number = (index : ℕ) (b : Block) → get (array (nodes_in h) number) index ≡ Some b → is_live digests (record { index = index; block = b }) ≡ true

  -- a snapshot's
  snap-live : (key : SnapKey) (n : NodeId) → get (held_in h) (of_snap key) ≡ Some n → array_of (advance m at) key ≡ snap_array h key → IsLiveAt n.number
  snap-live key n has is index b found =
      let there : get (array_of (advance m at) key) index ≡ Some (kept_block b) = ap (λ (a : WholeArray). get a index) is
      ∙ kept-there (holds.blocks_at h (of_snap key)) index b (ap (λ o. get (array_of_node (nodes_in h) o) index) has ∙ found) in
      live index b (snap-within (advance m at) settled key index (kept_block b) there) (digested-at m keeps.stamps digests are at (snapshot key) index (kept_block b) there)

  -- a volume's
  vol-live : (key : VolKey) (row : VolRow) → get rows.vols key ≡ Some row → (n : NodeId) → get (held_in h) (of_vol key) ≡ Some n → IsLiveAt n.number
  vol-live key row there n has index b found =
      let disk : disk_of (advance m at) key ≡ disk_array h key = ap (λ (o : Option WholeArray). unwrap_or o empty)
      (ap (λ t. get t key) keeps.shows.disks ∙ get-disk rows.vols (disk_array h) key ∙ ap (option_map (λ (r : VolRow). disk_array h key)) there) in
      let block : get (disk_of (advance m at) key) index ≡ Some (kept_block b) = ap (λ (a : WholeArray). get a index) disk
      ∙ kept-there (holds.blocks_at h (of_vol key)) index b (ap (λ o. get (array_of_node (nodes_in h) o) index) has ∙ found) in
      live index b (vol-within (advance m at) settled key row (ap (λ t. get t key) keeps.shows.vols ∙ there) index (kept_block b) block) (digested-at m keeps.stamps digests are at (volume key) index (kept_block b) block)

  -- the array of a snapshot whose upload hasn't failed
  array-is : (p : SnapPoint) → IsLeft now rows.snaps p.key (row_of p) → (status : RowStatus) → status_of p now ≡ status → is_failed status ≡ false → array_of (advance m at) p.key ≡ snap_array h p.key
  array-is p left status is test =
      array-of m.snaps rows.snaps (snap_array h) m.clock.second now keeps.later keeps.shows.snaps p.key left.row left.there left.stays
      ∙ ap (λ (t : RowStatus). cond (is_failed t) empty (snap_array h p.key)) (sym (ap (λ (r : SnapRow). status_at r now) left.is) ∙ is)
      ∙ ap (λ (t : Bool). cond t empty (snap_array h p.key)) test

  point-live : (p : SnapPoint) → IsLeft now rows.snaps p.key (row_of p) → (status : RowStatus) → status_of p now ≡ status → IsNodeBy status h p → (number : ℕ) → p.node ≡ Some number → IsLiveAt number
  point-live p left Pending is (n, has, named, opened) number e = subst IsLiveAt (some_is n.number number (sym named ∙ e)) (snap-live p.key n has (array-is p left Pending is refl))
  point-live p left Completed is (n, has, named, closed) number e = subst IsLiveAt (some_is n.number number (sym named ∙ e)) (snap-live p.key n has (array-is p left Completed is refl))
  point-live p left Failed is none number e = none_some (sym none ∙ e)

  pub all-live : (ss : List SnapPoint) (vs : List VolPoint) → AllByRecursion (λ (p : SnapPoint). IsLeft now rows.snaps p.key (row_of p)) ss → AllByRecursion (IsNode h now) ss
      → AllByRecursion (λ (v : VolPoint). get rows.vols v.row.key ≡ Some v.row) vs → AllByRecursion (IsVolNode h) vs → AreLive (nodes_in h) (names ss vs) digests
  all-live ss vs left snaps there vols = named-all IsLiveAt ss vs
      (weaker (λ (p : SnapPoint). IsLeft now rows.snaps p.key (row_of p) × IsNode h now p) (λ (p : SnapPoint). (number : ℕ) → p.node ≡ Some number → IsLiveAt number) (λ p e. point-live p e.0 (status_of p now) refl e.1) ss
      (both (λ (p : SnapPoint). IsLeft now rows.snaps p.key (row_of p)) (IsNode h now) ss left snaps))
      (weaker (λ (v : VolPoint). (get rows.vols v.row.key ≡ Some v.row) × IsVolNode h v) (λ (v : VolPoint). IsLiveAt v.node) (λ v e. subst IsLiveAt (sym e.1.2) (vol-live v.row.key v.row e.0 e.1.0 e.1.1)) vs
      (both (λ (v : VolPoint). get rows.vols v.row.key ≡ Some v.row) (IsVolNode h) vs there vols))
