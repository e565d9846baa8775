-- One above the greatest index of each array.
use Rattle.std.proofs.Common.{◌≡◌, ℕ, ◌<◌, ◌≤◌, Bool, true, false, ◌&&◌, cond, ltb, leb, List, Option, Some, None, refl, sym, ap, ◌∙◌, arith}
use Rattle.std.proofs.lemmas.Bool.Decides.{nat_tests}
use Rattle.std.specs.List.{list_all}
use Rattle.std.specs.Option.{unwrap_or, option_map}
use Rattle.std.specs.Ordering.{nat_cmp, eq_by_cmp}
use Rattle.std.specs.Cmp.{nat_cmp_total}
use Rattle.std.specs.FinMap.{FinMap, get, insert, empty, get-insert, get-empty}
use Rattle.ebs_model.specs.Quotas.{blocks_of}
use Rattle.ebs_checkpoints.specs.declared.nodes.NodeRow.{NodeRow}
use Rattle.ebs_checkpoints.specs.declared.nodes.CopyRow.{CopyRow}
use Rattle.ebs_checkpoints.specs.declared.snapshots.SnapPoint.{SnapPoint}
use Rattle.ebs_checkpoints.specs.declared.owned.VolPoint.{VolPoint}
use Rattle.ebs_node_rules.specs.Arrays.{Array, Arrays, all_keys, array_in, with_entries, row_array, is_within, volume_fits}
use Rattle.ebs_node_rules.specs.inner.Lookups.{AreTops, top_in}
use Rattle.ebs_node_rules.proofs.Keyed.{all-empty, all-entries, all-copies}

abbrev below : ℕ → Array → Bool
below limit array = all_keys (λ index. ltb index limit) array

none_above : (limit : ℕ) → leb 0 limit ≡ true
none_above limit = grind (arith, nat_tests)

two : (t : Option ℕ) (a : Option Array) (limit : ℕ) → option_map (λ top. leb top limit) t ≡ option_map (below limit) a → leb (unwrap_or t 0) limit ≡ below limit (unwrap_or a empty)
two None None limit h = none_above limit ∙ sym (all-empty (λ index. ltb index limit))
two None (Some a) limit h = cc
two (Some t) None limit h = cc
two (Some t) (Some a) limit h = cc

module _ (tops : FinMap nat_cmp ℕ) (arrays : Arrays) (are : AreTops tops arrays) where
  pub top_is : (node : Option ℕ) (limit : ℕ) → leb (top_in tops node) limit ≡ below limit (array_in arrays node)
  top_is None limit = none_above limit ∙ sym (all-empty (λ index. ltb index limit))
  top_is (Some number) limit = two (get tops number) (get arrays number) limit (are number limit)

  turned : (a b : Bool) → (a && b) ≡ (b && a)
  turned true true = refl
  turned true false = refl
  turned false true = refl
  turned false false = refl

  -- the copies' indexes are asked for one by one
  pub row_within : (snapshot : SnapPoint) → (leb (top_in tops snapshot.node) (blocks_of snapshot.size) && list_all (λ copy. ltb copy.index (blocks_of snapshot.size)) snapshot.copies) ≡ is_within snapshot.size (row_array arrays snapshot)
  row_within snapshot =
      turned (leb (top_in tops snapshot.node) (blocks_of snapshot.size)) _
      ∙ ap (λ b. list_all (λ copy. ltb copy.index (blocks_of snapshot.size)) snapshot.copies && b) (top_is snapshot.node (blocks_of snapshot.size))
      ∙ sym (all-copies (λ index. ltb index (blocks_of snapshot.size)) snapshot.copies (array_in arrays snapshot.node))

  yes : (m n : ℕ) → m ≤ n → leb m n ≡ true
  yes m n h = grind (arith, nat_tests)

  no : (m n : ℕ) → n < m → leb m n ≡ false
  no m n h = grind (arith, nat_tests)

  module _ (snapshot : SnapPoint) (copies : List CopyRow) (top blocks : ℕ) (top_so : top ≡ top_in tops snapshot.node) (blocks_so : blocks ≡ blocks_of snapshot.size) (copies_so : copies ≡ snapshot.copies) where
    within : (leb top blocks && list_all (λ copy. ltb copy.index blocks) copies) ≡ is_within snapshot.size (row_array arrays snapshot)
    within = (λ i. leb (top_so i) (blocks_so i) && list_all (λ copy. ltb copy.index (blocks_so i)) (copies_so i)) ∙ row_within snapshot

    pub within_then : (below : Bool) → top ≤ blocks → below ≡ list_all (λ copy. ltb copy.index blocks) copies → below ≡ is_within snapshot.size (row_array arrays snapshot)
    within_then below h is = is ∙ ap (λ b. b && list_all (λ copy. ltb copy.index blocks) copies) (sym (yes top blocks h)) ∙ within

    pub within_else : blocks < top → leb top blocks ≡ is_within snapshot.size (row_array arrays snapshot)
    within_else h = no top blocks h ∙ ap (λ b. b && list_all (λ copy. ltb copy.index blocks) copies) (sym (no top blocks h)) ∙ within

  pub volumes_within : (volumes : List VolPoint) → list_all (λ volume. leb (top_in tops (Some volume.node)) (blocks_of volume.row.size)) volumes ≡ list_all (volume_fits arrays) volumes
  volumes_within volumes = λ i. list_all (λ (volume : VolPoint). top_is (Some volume.node) (blocks_of volume.row.size) i) volumes

  -- a node more
  pub one_more : (node : NodeRow) (top : ℕ) → ((limit : ℕ) → leb top limit ≡ (leb (top_in tops node.parent) limit && list_all (λ entry. ltb entry.index limit) node.entries))
      → AreTops (insert tops node.number top) (insert arrays node.number (with_entries (array_in arrays node.parent) node.entries))
  one_more node top h number limit =
      ap (option_map (λ top. leb top limit)) (get-insert nat_cmp_total tops node.number top number)
      ∙ by (eq_by_cmp nat_cmp number node.number)
      ∙ sym (ap (option_map (below limit)) (get-insert nat_cmp_total arrays node.number (with_entries (array_in arrays node.parent) node.entries) number))
    where
      by : (b : Bool) → option_map (λ top. leb top limit) (cond b (Some top) (get tops number)) ≡ option_map (below limit) (cond b (Some (with_entries (array_in arrays node.parent) node.entries)) (get arrays number))
      by true = ap Some (h limit ∙ turned (leb (top_in tops node.parent) limit) _ ∙ ap (λ b. list_all (λ entry. ltb entry.index limit) node.entries && b) (top_is node.parent limit) ∙ sym (all-entries (λ index. ltb index limit) node.entries (array_in arrays node.parent)))
      by false = are number limit

pub none_yet : (tops : FinMap nat_cmp ℕ) → tops ≡ empty → AreTops tops empty
none_yet tops is number limit = ap (option_map (λ top. leb top limit)) (ap (λ t. get t number) is ∙ get-empty nat_cmp number) ∙ sym (ap (option_map (below limit)) (get-empty nat_cmp number))
