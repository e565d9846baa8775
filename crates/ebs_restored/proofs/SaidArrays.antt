-- The arrays that holders have are those of the snapshots and volumes that a checkpoint says.
use Rattle.std.proofs.Common.{◌≡◌, inl, inr, ℕ, Bool, true, false, cond, List, [], ◌∷◌, ◌++◌, map, Option, None, Some, refl, sym, ap, ◌∙◌}
use Rattle.std.proofs.lemmas.Bool.{false≢true}
use Rattle.std.proofs.lemmas.Cmp.{tied_itself}
use Rattle.std.specs.Option.{option_map}
use Rattle.std.specs.List.{AllByRecursion, filter_map, cons_option}
use Rattle.std.specs.List.Sorted.{IsStrictlySortedBy}
use Rattle.std.specs.Map.{keys_of}
use Rattle.std.specs.Ordering.{eq_by_cmp}
use Rattle.std.specs.Cmp.{nat_cmp_total}
use Rattle.std.specs.declared.cmp.Ordering.TheVariants.{Less}
use Rattle.std.specs.FinMap.{get, find, from_entries, nat_cmp-IsAntisymmetric, get-empty}
use Rattle.ebs_tables.proofs.MapEdits.{is_same, tied}
use Rattle.ebs_model.specs.declared.keys.SnapKey.{SnapKey}
use Rattle.ebs_model.specs.declared.keys.VolKey.{VolKey}
use Rattle.ebs_model.specs.declared.rows.VolRow.{VolRow}
use Rattle.ebs_model.specs.Arrays.{WholeArray}
use Rattle.ebs_model.specs.Keys.{snap_cmp, vol_cmp}
use Rattle.ebs_model.specs.inner.Orders.{snaps_total, exact_snaps, vols_total, exact_vols}
use Rattle.ebs_model.specs.Machine.{array_at}
use Rattle.ebs_model.proofs.Values.{map_values-empty}
use Rattle.ebs_checkpoints.specs.declared.nodes.CopyRow.{CopyRow}
use Rattle.ebs_checkpoints.specs.declared.owned.VolPoint.{VolPoint}
use Rattle.ebs_checkpoints.specs.declared.snapshots.SnapPoint.{SnapPoint}
use Rattle.ebs_node_rules.specs.Arrays.{Arrays, array_in, with_copies}
use Rattle.ebs_recovery.specs.inner.Bases.{kept_array, kept_block, snapshot_of}
use Rattle.ebs_holds.specs.declared.holder.Holder.{Holder}
use Rattle.ebs_holds.specs.Holders.{holder_cmp, of_snap, of_vol}
use Rattle.ebs_holds.specs.Orders.{exact_holders, holders_total}
use Rattle.ebs_holds.proofs.Keyed.{at_key, off_key, cases}
use Rattle.ebs_restored.specs.Holders.{Named, named, of_snapshot, of_volume}

abbrev pub of_vols : List VolPoint → Named
of_vols vs = from_entries (map of_volume vs)

snap_same : (a b : SnapKey) → of_snap a ≡ of_snap b → a ≡ b
snap_same a b e = ap (λ (q : Holder). record { account = q.account; number = q.number }) e

vol_same : (a b : VolKey) → of_vol a ≡ of_vol b → a ≡ b
vol_same a b e = ap (λ (q : Holder). record { account = q.account; number = q.number }) e

-- ---- what a snapshot's row names

vols-none : (vs : List VolPoint) (q : SnapKey) → get (of_vols vs) (of_snap q) ≡ None
vols-none [] q = get-empty holder_cmp (of_snap q)
vols-none (v ∷ vs) q = elim (cases holders_total exact_holders (of_snap q) (of_vol v.row.key)) [
  | inl t ↦ absurd (false≢true (ap (λ (h : Holder). h.is_volume) t.1))
  | inr t ↦ off_key holders_total exact_holders (of_vols vs) (of_vol v.row.key) v.node (of_snap q) t.0 ∙ vols-none vs q
]

-- one entry more, where the row names a node
abbrev with_name : SnapPoint → List SnapPoint → List VolPoint → Option ℕ → Named
with_name s ss vs o = from_entries (cons_option (option_map (λ (n : ℕ). (of_snap s.key, n)) o) (filter_map of_snapshot ss) ++ map of_volume vs)

passed : (s : SnapPoint) (ss : List SnapPoint) (vs : List VolPoint) (q : Holder) → (q ≡ of_snap s.key → ⊥) → (o : Option ℕ) → get (with_name s ss vs o) q ≡ get (named ss vs) q
passed s ss vs q other None = refl
passed s ss vs q other (Some n) = elim (cases holders_total exact_holders q (of_snap s.key)) [
  | inl t ↦ absurd (other t.1)
  | inr t ↦ off_key holders_total exact_holders (named ss vs) (of_snap s.key) n q t.0
]

snap-none : (ss : List SnapPoint) (vs : List VolPoint) (q : SnapKey) → AllByRecursion (λ (s : SnapPoint). q ≡ s.key → ⊥) ss → get (named ss vs) (of_snap q) ≡ None
snap-none [] vs q others = vols-none vs q
snap-none (s ∷ ss) vs q others = passed s ss vs (of_snap q) (λ e. others.0 (snap_same q s.key e)) s.node ∙ snap-none ss vs q others.1

others-above : (k : SnapKey) (ss : List SnapPoint) → AllByRecursion (λ y. snap_cmp k y ≡ Less) (keys_of (map (λ (s : SnapPoint). (s.key, s)) ss)) → AllByRecursion (λ (s : SnapPoint). k ≡ s.key → ⊥) ss
others-above k [] all = tt
others-above k (s ∷ ss) all = (λ e. let less_itself : snap_cmp k k ≡ Less = ap (snap_cmp k) e ∙ all.0 in let tied = tied_itself snaps_total k in cc, others-above k ss all.1)

named-here : (s : SnapPoint) (ss : List SnapPoint) (vs : List VolPoint) → AllByRecursion (λ (x : SnapPoint). s.key ≡ x.key → ⊥) ss → (o : Option ℕ) → get (with_name s ss vs o) (of_snap s.key) ≡ o
named-here s ss vs others None = snap-none ss vs s.key others
named-here s ss vs others (Some n) = at_key holders_total exact_holders (named ss vs) (of_snap s.key) n (of_snap s.key) refl

-- the array of what is named is the snapshot's
pub snap-array : (arrays : Arrays) (ss : List SnapPoint) (vs : List VolPoint) → IsStrictlySortedBy snap_cmp (keys_of (map (λ (s : SnapPoint). (s.key, s)) ss)) → AllByRecursion (λ (s : SnapPoint). s.copies ≡ []) ss → (q : SnapKey)
    → kept_array (array_in arrays (get (named ss vs) (of_snap q))) ≡ array_at (find snap_cmp q (map (λ (p : SnapPoint). (p.key, snapshot_of arrays p)) ss))
unfolding IsStrictlySortedBy
snap-array arrays [] vs up none q = ap (λ (o : Option ℕ). kept_array (array_in arrays o)) (vols-none vs q) ∙ map_values-empty nat_cmp_total kept_block nat_cmp-IsAntisymmetric
snap-array arrays (s ∷ ss) vs up none q = by (eq_by_cmp snap_cmp q s.key) refl (snap-array arrays ss vs up.1 none.1 q)
  where
    by : (b : Bool) → eq_by_cmp snap_cmp q s.key ≡ b
        → kept_array (array_in arrays (get (named ss vs) (of_snap q))) ≡ array_at (find snap_cmp q (map (λ (p : SnapPoint). (p.key, snapshot_of arrays p)) ss))
        → kept_array (array_in arrays (get (with_name s ss vs s.node) (of_snap q))) ≡ array_at (cond b (Some (snapshot_of arrays s)) (find snap_cmp q (map (λ (p : SnapPoint). (p.key, snapshot_of arrays p)) ss)))
    by true t again =
        let same : q ≡ s.key = is_same exact_snaps q s.key t in
        ap (λ (k : SnapKey). kept_array (array_in arrays (get (with_name s ss vs s.node) (of_snap k)))) same
        ∙ ap (λ (o : Option ℕ). kept_array (array_in arrays o)) (named-here s ss vs (others-above s.key ss up.0) s.node)
        ∙ sym (ap (λ (copies : List CopyRow). kept_array (with_copies (array_in arrays s.node) copies)) none.0)
    by false t again = ap (λ (o : Option ℕ). kept_array (array_in arrays o)) (passed s ss vs (of_snap q) (other t) s.node) ∙ again
      where
        other : eq_by_cmp snap_cmp q s.key ≡ false → of_snap q ≡ of_snap s.key → ⊥
        other t e = elim (cases snaps_total exact_snaps q s.key) [ inl u ↦ false≢true (sym t ∙ u.0) | inr u ↦ u.1 (snap_same q s.key e) ]

-- ---- what a volume's row names

named-vol : (ss : List SnapPoint) (vs : List VolPoint) (q : VolKey) → get (named ss vs) (of_vol q) ≡ get (of_vols vs) (of_vol q)
named-vol [] vs q = refl
named-vol (s ∷ ss) vs q = passed s ss vs (of_vol q) (λ e. false≢true (sym (ap (λ (h : Holder). h.is_volume) e))) s.node ∙ named-vol ss vs q

abbrev pub array_of_vol : Arrays → VolPoint → WholeArray
array_of_vol arrays v = kept_array (array_in arrays (Some v.node))

of-vol-array : (arrays : Arrays) (vs : List VolPoint) (q : VolKey)
    → option_map (λ (row : VolRow). kept_array (array_in arrays (get (of_vols vs) (of_vol q)))) (find vol_cmp q (map (λ (v : VolPoint). (v.row.key, v.row)) vs))
    ≡ find vol_cmp q (map (λ (v : VolPoint). (v.row.key, array_of_vol arrays v)) vs)
of-vol-array arrays [] q = refl
of-vol-array arrays (v ∷ vs) q = by (eq_by_cmp vol_cmp q v.row.key) refl (of-vol-array arrays vs q)
  where
    by : (b : Bool) → eq_by_cmp vol_cmp q v.row.key ≡ b
        → option_map (λ (row : VolRow). kept_array (array_in arrays (get (of_vols vs) (of_vol q)))) (find vol_cmp q (map (λ (v : VolPoint). (v.row.key, v.row)) vs)) ≡ find vol_cmp q (map (λ (v : VolPoint). (v.row.key, array_of_vol arrays v)) vs)
        → option_map (λ (row : VolRow). kept_array (array_in arrays (get (of_vols (v ∷ vs)) (of_vol q)))) (cond b (Some v.row) (find vol_cmp q (map (λ (v : VolPoint). (v.row.key, v.row)) vs)))
        ≡ cond b (Some (array_of_vol arrays v)) (find vol_cmp q (map (λ (v : VolPoint). (v.row.key, array_of_vol arrays v)) vs))
    by true t again = ap (λ (o : Option ℕ). Some (kept_array (array_in arrays o))) (at_key holders_total exact_holders (of_vols vs) (of_vol v.row.key) v.node (of_vol q) (ap of_vol (is_same exact_vols q v.row.key t)))
    by false t again = elim (cases holders_total exact_holders (of_vol q) (of_vol v.row.key)) [
      | inl u ↦ absurd (false≢true (sym t ∙ ap (λ (k : VolKey). eq_by_cmp vol_cmp k v.row.key) (vol_same q v.row.key u.1) ∙ tied vols_total v.row.key))
      | inr u ↦ ap (λ (o : Option ℕ). option_map (λ (row : VolRow). kept_array (array_in arrays o)) (find vol_cmp q (map (λ (v : VolPoint). (v.row.key, v.row)) vs))) (off_key holders_total exact_holders (of_vols vs) (of_vol v.row.key) v.node (of_vol q) u.0) ∙ again
    ]

-- the array of what is named is the volume's
pub vol-array : (arrays : Arrays) (ss : List SnapPoint) (vs : List VolPoint) (q : VolKey)
    → option_map (λ (row : VolRow). kept_array (array_in arrays (get (named ss vs) (of_vol q)))) (find vol_cmp q (map (λ (v : VolPoint). (v.row.key, v.row)) vs))
    ≡ find vol_cmp q (map (λ (v : VolPoint). (v.row.key, array_of_vol arrays v)) vs)
vol-array arrays ss vs q = ap (λ (o : Option ℕ). option_map (λ (row : VolRow). kept_array (array_in arrays o)) (find vol_cmp q (map (λ (v : VolPoint). (v.row.key, v.row)) vs))) (named-vol ss vs q) ∙ of-vol-array arrays vs q
