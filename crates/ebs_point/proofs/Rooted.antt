-- The nodes of a checkpoint: they are trees that lead to what is named, and give each row its array.
use Rattle.std.proofs.Common.{◌≡◌, ℕ, Bool, true, false, not, ◌&&◌, ◌||◌, ◌==◌, cond, List, [], ◌∷◌, map, Option, None, Some, IsSome, is_some, refl, sym, ap, subst, ◌∙◌}
use Rattle.std.specs.Option.{unwrap_or}
use Rattle.std.specs.Ordering.{nat_cmp}
use Rattle.std.specs.Cmp.{nat_cmp_total}
use Rattle.std.specs.List.{AllByRecursion, list_all}
use Rattle.std.specs.List.Sorted.{IsStrictlySortedBy}
use Rattle.std.specs.Map.{keys_of}
use Rattle.std.specs.FinMap.{FinMap, nat_cmp-IsAntisymmetric, get, empty, entries}
use Rattle.ebs_tables.proofs.TreeMaps.{entries-seen, entries-sorted}
use Rattle.ebs_model.specs.declared.keys.SnapKey.{SnapKey}
use Rattle.ebs_model.specs.declared.keys.VolKey.{VolKey}
use Rattle.ebs_model.specs.declared.rows.SnapRow.{SnapRow}
use Rattle.ebs_model.specs.declared.rows.VolRow.{VolRow}
use Rattle.ebs_model.specs.declared.rows.RowStatus.{RowStatus}
use Rattle.ebs_model.specs.declared.rows.RowStatus.TheVariants.{Pending, Completed, Failed}
use Rattle.ebs_model.specs.Keys.{snap_cmp, vol_cmp}
use Rattle.ebs_model.specs.Arrays.{WholeArray}
use Rattle.ebs_model.specs.Time.{is_failed, stays, status_at}
use Rattle.ebs_model.specs.inner.Orders.{vols_total}
use Rattle.ebs_model.proofs.Values.{map_values-empty}
use Rattle.ebs_lineage.specs.declared.node.Node.{Node}
use Rattle.ebs_lineage.specs.declared.node_id.NodeId.{NodeId}
use Rattle.ebs_lineage.specs.Owned.{Blocks}
use Rattle.ebs_lineage.specs.Table.{NodeMap}
use Rattle.ebs_lineage.specs.Lines.{IsFrozen, IsOpen, array}
use Rattle.ebs_checkpoints.specs.declared.nodes.CopyRow.{CopyRow}
use Rattle.ebs_checkpoints.specs.declared.nodes.NodeRow.{NodeRow}
use Rattle.ebs_checkpoints.specs.declared.owned.VolPoint.{VolPoint}
use Rattle.ebs_checkpoints.specs.declared.snapshots.SnapPoint.{SnapPoint}
use Rattle.ebs_node_rules.specs.Nodes.{are_distinct, are_listed, are_writable, is_among, is_closed, is_open, leads, names, node_of, parents}
use Rattle.ebs_node_rules.specs.States.{has_node_by, is_none_of, status_of}
use Rattle.ebs_node_rules.specs.Arrays.{Arrays, array_in, arrays_of, row_array, with_copies}
use Rattle.ebs_recovery.specs.inner.Bases.{kept_array, kept_block}
use Rattle.ebs_recovery.specs.Bases.{row_of}
use Rattle.ebs_holds.specs.declared.holder.Holder.{Holder}
use Rattle.ebs_holds.specs.Holders.{of_snap, of_vol}
use Rattle.ebs_holds.specs.Holds.{AreHeld, Holding, array_of_node, blocks_at, held_in, nodes_in}
use Rattle.ebs_kept.specs.Stamps.{Digests}
use Rattle.ebs_kept.specs.inner.Shown.{disk_array, snap_array, with_disks}
use Rattle.ebs_lawful_points.proofs.Parts.{all-of, both, weaker}
use Rattle.ebs_recovery.specs.Bases.{has_no_copies}
use Rattle.ebs_point.specs.Nodes.{AreNodesOf}
use Rattle.ebs_point.proofs.Left.{IsLeft, array-now, array-of}
use Rattle.ebs_point.proofs.Naming.{IsNode, IsNodeBy, IsVolNode, all-apart, among-is, snaps-among, vols-among, each-among}

some-same : {X : Type 0} (x y : X) → ◌≡◌ {A = Option X} (Some x) (Some y) → x ≡ y
some-same x y e = cc

right-true : (a b : Bool) → b ≡ true → (a || b) ≡ true
right-true true b e = refl
right-true false b e = e

module _ (h : Holding) (now : ℕ) (ss : List SnapPoint) (vs : List VolPoint) (digests : Digests) (ns : List NodeRow) (of : AreNodesOf (nodes_in h) (names ss vs) digests ns) where
  abbrev nodes : NodeMap
  nodes = nodes_in h

  opened : (number : ℕ) → is_among (names ss vs) number ≡ true → IsOpen nodes number → is_open (node_of ns (Some number)) ≡ true
  opened number among (x, here, opening) =
      let r = of.each number among in
      ap is_open r.found ∙ r.written ∙ ap (λ (y : Node). y.is_open) (some-same r.node x (sym r.is ∙ here)) ∙ opening

  closed : (number : ℕ) → is_among (names ss vs) number ≡ true → IsFrozen nodes number → is_closed (node_of ns (Some number)) ≡ true
  closed number among (x, here, shut) =
      let r = of.each number among in
      ap is_closed r.found ∙ ap not (r.written ∙ ap (λ (y : Node). y.is_open) (some-same r.node x (sym r.is ∙ here)) ∙ shut)

  array-is : (number : ℕ) → is_among (names ss vs) number ≡ true → array_in (arrays_of ns) (Some number) ≡ array nodes number
  array-is number among = ap (λ (o : Option Blocks). unwrap_or o empty) (of.arrays number among)

  -- ---- trees that lead to what is named

  vol-open : (v : VolPoint) → IsVolNode h v → is_among (names ss vs) v.node ≡ true → is_open (node_of ns (Some v.node)) ≡ true
  vol-open v (n, has, is, opening) among = opened v.node among (subst (IsOpen nodes) (sym is) opening)

  pub rooted : AreHeld nodes h.lines.made (held_in h) → AllByRecursion (IsNode h now) ss → AllByRecursion (IsVolNode h) vs
      → IsStrictlySortedBy snap_cmp (map (λ (p : SnapPoint). p.key) ss) → IsStrictlySortedBy vol_cmp (map (λ (v : VolPoint). v.row.key) vs)
      → leads ns vs (names ss vs) (is_among (names ss vs)) (is_among (parents ns)) ≡ true
  rooted are snaps vols up above =
      let apart = all-apart h now are ss vs snaps vols up above in
      let there : are_listed ns (names ss vs) ≡ true = all-of (λ (number : ℕ). is_some (node_of ns (Some number))) (names ss vs)
      (weaker (λ (number : ℕ). is_among (names ss vs) number ≡ true) (λ (number : ℕ). is_some (node_of ns (Some number)) ≡ true) (λ number among. ap is_some (of.each number among).found) (names ss vs) (each-among (names ss vs))) in
      let written : are_writable ns vs ≡ true = all-of (λ (v : VolPoint). is_open (node_of ns (Some v.node))) vs
      (weaker (λ (v : VolPoint). IsVolNode h v × (is_among (names ss vs) v.node ≡ true)) (λ (v : VolPoint). is_open (node_of ns (Some v.node)) ≡ true) (λ v e. vol-open v e.0 e.1) vs
      (both (IsVolNode h) (λ (v : VolPoint). is_among (names ss vs) v.node ≡ true) vs vols (vols-among ss vs))) in
      λ i. of.chained.parents i && (apart i && (there i && (written i && (of.needed.open_named i && of.needed.needed i))))

  -- ---- the node of a row

  abbrev IsAmong : SnapPoint → Type 0
  IsAmong p = (number : ℕ) → p.node ≡ Some number → is_among (names ss vs) number ≡ true

  node-fits : (p : SnapPoint) → IsAmong p → (status : RowStatus) → IsNodeBy status h p → has_node_by status ns p ≡ true
  node-fits p among Pending (n, has, is, opening) = ap (λ (o : Option ℕ). is_open (node_of ns o)) is ∙ opened n.number (among n.number is) opening
  node-fits p among Completed (n, has, is, shut) = right-true (not (is_none_of p.copies)) (is_closed (node_of ns p.node)) (ap (λ (o : Option ℕ). is_closed (node_of ns o)) is ∙ closed n.number (among n.number is) shut)
  node-fits p among Failed none = ap (λ (o : Option ℕ). not (is_some o)) none

  pub nodes-fit : AllByRecursion (IsNode h now) ss → list_all (λ (p : SnapPoint). has_node_by (status_of p now) ns p) ss ≡ true
  nodes-fit snaps = all-of (λ (p : SnapPoint). has_node_by (status_of p now) ns p) ss
      (weaker (λ (p : SnapPoint). IsAmong p × IsNode h now p) (λ (p : SnapPoint). has_node_by (status_of p now) ns p ≡ true) (λ p e. node-fits p e.0 (status_of p now) e.1) ss
      (both IsAmong (IsNode h now) ss (snaps-among ss vs) snaps))

  -- ---- the array of a row

  held-array : (q : Holder) (n : NodeId) → get (held_in h) q ≡ Some n → is_among (names ss vs) n.number ≡ true → array_in (arrays_of ns) (Some n.number) ≡ blocks_at h q
  held-array q n has among = array-is n.number among ∙ sym (ap (array_of_node nodes) has)

  array-by : (p : SnapPoint) → p.copies ≡ [] → IsAmong p → (status : RowStatus) → IsNodeBy status h p → cond (is_failed status) empty (snap_array h p.key) ≡ kept_array (row_array (arrays_of ns) p)
  array-by p copies among Pending (n, has, is, opening) =
      sym (ap kept_array ((λ i. with_copies (array_in (arrays_of ns) (is i)) (copies i)) ∙ held-array (of_snap p.key) n has (among n.number is)))
  array-by p copies among Completed (n, has, is, shut) =
      sym (ap kept_array ((λ i. with_copies (array_in (arrays_of ns) (is i)) (copies i)) ∙ held-array (of_snap p.key) n has (among n.number is)))
  array-by p copies among Failed none =
      sym (ap kept_array (λ i. with_copies (array_in (arrays_of ns) (none i)) (copies i)) ∙ map_values-empty nat_cmp_total kept_block nat_cmp-IsAntisymmetric)

  module _ (rows : FinMap snap_cmp SnapRow) where
    status-same : (p : SnapPoint) (left : IsLeft now rows p.key (row_of p)) → status_at left.row now ≡ status_of p now
    status-same p left = sym (ap (λ (r : SnapRow). status_at r now) left.is)

    abbrev IsReady : SnapPoint → Type 0
    IsReady p = (IsLeft now rows p.key (row_of p) × (p.copies ≡ [])) × (IsAmong p × IsNode h now p)

    -- in the place of what is found at the moment
    pub arrays-now : (found : SnapKey → WholeArray) → ((key : SnapKey) (row : SnapRow) → get rows key ≡ Some row → stays now row ≡ true → found key ≡ cond (is_failed (status_at row now)) empty (snap_array h key))
        → AllByRecursion (λ (p : SnapPoint). IsLeft now rows p.key (row_of p)) ss → AllByRecursion (λ (p : SnapPoint). p.copies ≡ []) ss → AllByRecursion (IsNode h now) ss
        → AllByRecursion (λ (p : SnapPoint). found p.key ≡ kept_array (row_array (arrays_of ns) p)) ss
    arrays-now found own left copies snaps = weaker IsReady (λ (p : SnapPoint). found p.key ≡ kept_array (row_array (arrays_of ns) p))
        (λ p e. own p.key e.0.0.row e.0.0.there e.0.0.stays ∙ ap (λ (s : RowStatus). cond (is_failed s) empty (snap_array h p.key)) (status-same p e.0.0) ∙ array-by p e.0.1 e.1.0 (status_of p now) e.1.1) ss
        (both (λ (p : SnapPoint). IsLeft now rows p.key (row_of p) × (p.copies ≡ [])) (λ (p : SnapPoint). IsAmong p × IsNode h now p) ss
        (both (λ (p : SnapPoint). IsLeft now rows p.key (row_of p)) (λ (p : SnapPoint). p.copies ≡ []) ss left copies) (both IsAmong (IsNode h now) ss (snaps-among ss vs) snaps))

  -- ---- the array of a volume

  disks-joined : (xs : List VolPoint) → AllByRecursion (λ (v : VolPoint). IsVolNode h v × (is_among (names ss vs) v.node ≡ true)) xs
      → map {B = VolKey × WholeArray} (λ (e : VolKey × VolRow). (e.0, disk_array h e.0)) (map (λ (v : VolPoint). (v.row.key, v.row)) xs) ≡ map (λ (v : VolPoint). (v.row.key, kept_array (array_in (arrays_of ns) (Some v.node)))) xs
  disks-joined [] all = refl
  disks-joined (v ∷ xs) ((is, among), all) = λ i. (v.row.key, one i) ∷ disks-joined xs all i
    where
      named : v.node ≡ is.0.number
      named = is.2

      one : disk_array h v.row.key ≡ kept_array (array_in (arrays_of ns) (Some v.node))
      one = sym (ap kept_array (ap (λ (n : ℕ). array_in (arrays_of ns) (Some n)) named ∙ held-array (of_vol v.row.key) is.0 is.1 (ap (is_among (names ss vs)) (sym named) ∙ among)))

  same-keys : {K X Y : Type 0} (g : K × X → Y) (es : List (K × X)) → keys_of (map {B = K × Y} (λ e. (e.0, g e)) es) ≡ keys_of es
  same-keys g [] = refl
  same-keys g (e ∷ es) = ap (λ ks. e.0 ∷ ks) (same-keys g es)

  pub disks-now : (vols : FinMap vol_cmp VolRow) → entries vols ≡ map (λ (v : VolPoint). (v.row.key, v.row)) vs → AllByRecursion (IsVolNode h) vs
      → entries (with_disks vols (disk_array h)) ≡ map (λ (v : VolPoint). (v.row.key, kept_array (array_in (arrays_of ns) (Some v.node)))) vs
  unfolding with_disks
  disks-now vols is all =
      entries-seen vols_total (map {B = VolKey × WholeArray} (λ (e : VolKey × VolRow). (e.0, disk_array h e.0)) (entries vols))
      (subst (IsStrictlySortedBy vol_cmp) (sym (same-keys (λ (e : VolKey × VolRow). disk_array h e.0) (entries vols))) (entries-sorted vol_cmp vols))
      ∙ ap (map {B = VolKey × WholeArray} (λ (e : VolKey × VolRow). (e.0, disk_array h e.0))) is
      ∙ disks-joined vs (both (IsVolNode h) (λ (v : VolPoint). is_among (names ss vs) v.node ≡ true) vs all (vols-among ss vs))
