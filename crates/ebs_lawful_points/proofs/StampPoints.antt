-- The stamps of the blocks that a checkpoint says.
use Rattle.std.proofs.Common.{◌≡◌, ℕ, ◌<◌, Bool, true, false, not, ◌&&◌, ◌||◌, ◌==◌, List, [], ◌∷◌, ◌++◌, map, Option, Some, None, refl, sym, ap, subst, ◌∙◌}
use Rattle.std.proofs.Common.{arith}
use Rattle.std.proofs.lemmas.Bool.Decides.{nat_tests}
use Rattle.std.specs.Prelude.{flat_map, nat_eq, nat_lt, nat_le, unwrap_or}
use Rattle.std.specs.List.{list_all}
use Rattle.std.specs.Option.{option_map}
use Rattle.std.specs.Cmp.Lexicographic.{pointwise}
use Rattle.std.specs.Ordering.{nat_cmp}
use Rattle.std.specs.Cmp.{nat_cmp_total}
use Rattle.std.specs.FinMap as fin
use Rattle.std.specs.FinMap.{nat_cmp-IsAntisymmetric, get, empty, get-empty, get-from_entries}
use Rattle.ebs_model.specs.declared.array.Block.{Block}
use Rattle.ebs_model.specs.Arrays.{WholeBlock, WholeArray}
use Rattle.ebs_model.specs.Keys.{vol_cmp}
use Rattle.ebs_model.specs.inner.Orders.{vols_total}
use Rattle.ebs_model.specs.Time.{Snapshot}
use Rattle.ebs_model.specs.Machine.{array_at}
use Rattle.ebs_model.proofs.Values.{get-map_values}
use Rattle.ebs_checkpoints.specs.declared.nodes.EntryRow.{EntryRow}
use Rattle.ebs_checkpoints.specs.declared.nodes.CopyRow.{CopyRow}
use Rattle.ebs_checkpoints.specs.declared.nodes.NodeRow.{NodeRow}
use Rattle.ebs_checkpoints.specs.declared.owned.VolPoint.{VolPoint}
use Rattle.ebs_checkpoints.specs.declared.snapshots.SnapPoint.{SnapPoint}
use Rattle.ebs_checkpoints.specs.declared.checkpoint.Checkpoint.{Checkpoint}
use Rattle.ebs_row_rules.specs.Slots.{entry_block, copy_block, entry_blocks, copies_of, blocks_of, stamps, has_stamps, has_stored_entries, has_numbers, has_stored_copies, has_slots}
use Rattle.ebs_row_rules.specs.Stamps.{are_alike, have_one_digest}
use Rattle.ebs_node_rules.specs.Arrays.{Array, Arrays, with_entries, with_copies, array_in, with_nodes, arrays_of, row_array}
use Rattle.ebs_checkpoint_rules.specs.Rules.{HasRules}
use Rattle.ebs_recovery.specs.Stands.{snapshot, volume}
use Rattle.ebs_recovery.specs.inner.Stands.{EachBlock}
use Rattle.ebs_recovery.specs.inner.Bases.{kept_block, kept_array, snaps_of, disks_of, machine_of}
use Rattle.ebs_recovery.proofs.Bases.{found_in}
use Rattle.ebs_recovery.proofs.Outcomes.{none_in}
use Rattle.ebs_lawful.proofs.Maps.{Each, none_some, some_is, each-empty, each-insert}
use Rattle.ebs_lawful_points.specs.Blocks.{HasStamps, PointsHaveStamps}
use Rattle.ebs_lawful_points.proofs.Parts.{two, three}
use Rattle.ebs_lawful_points.proofs.SnapPoints.{of-snap, less}
use Rattle.ebs_lawful_points.proofs.OwnPoints.{same-text}

-- ---- lists that are joined, or made of others

split-all : {X : Type 0} (test : X → Bool) (xs ys : List X) → list_all test (xs ++ ys) ≡ true → (list_all test xs ≡ true) × (list_all test ys ≡ true)
split-all test [] ys all = (refl, all)
split-all test (x ∷ xs) ys all =
    let both = two (test x) (list_all test (xs ++ ys)) all in
    let rest = split-all test xs ys both.1 in
    ((λ i. both.0 i && rest.0 i), rest.1)

mapped-all : {X Y : Type 0} (test : Y → Bool) (f : X → Y) (xs : List X) → list_all test (map f xs) ≡ true → list_all (λ x. test (f x)) xs ≡ true
mapped-all test f [] all = refl
mapped-all test f (x ∷ xs) all = let both = two (test (f x)) (list_all test (map f xs)) all in λ i. both.0 i && mapped-all test f xs both.1 i

flat-all : {X Y : Type 0} (test : Y → Bool) (f : X → List Y) (xs : List X) → list_all test (flat_map f xs) ≡ true → list_all (λ x. list_all test (f x)) xs ≡ true
flat-all test f [] all = refl
flat-all test f (x ∷ xs) all = let both = split-all test (f x) (flat_map f xs) all in λ i. both.0 i && flat-all test f xs both.1 i

-- ---- blocks of arrays are blocks of entries and of copies

module _ (test : Block → Bool) where
  abbrev Passes : Array → Type 0
  Passes array = Each (λ (i : ℕ) (b : Block). test b ≡ true) array

  entries-pass : (array : Array) (es : List EntryRow) → Passes array → list_all (λ (e : EntryRow). test e.block) es ≡ true → Passes (with_entries array es)
  entries-pass array [] h all = h
  entries-pass array (e ∷ es) h all =
      let both = two (test e.block) (list_all (λ (e : EntryRow). test e.block) es) all in
      entries-pass (fin.insert array e.index e.block) es (each-insert (λ (i : ℕ) (b : Block). test b ≡ true) nat_cmp_total nat_cmp-IsAntisymmetric array h e.index e.block both.0) both.1

  copies-pass : (array : Array) (cs : List CopyRow) → Passes array → list_all (λ (c : CopyRow). test c.block) cs ≡ true → Passes (with_copies array cs)
  copies-pass array [] h all = h
  copies-pass array (c ∷ cs) h all =
      let both = two (test c.block) (list_all (λ (c : CopyRow). test c.block) cs) all in
      copies-pass (fin.insert array c.index c.block) cs (each-insert (λ (i : ℕ) (b : Block). test b ≡ true) nat_cmp_total nat_cmp-IsAntisymmetric array h c.index c.block both.0) both.1

  -- in the place of its bytes a block has its digest
  kept-passes : (array : Array) → Passes array → (index : ℕ) (x : WholeBlock) → get (kept_array array) index ≡ Some x → (b : Block) × (x ≡ kept_block b) × (test b ≡ true)
  kept-passes array h index x e = at (get array index) refl (sym (get-map_values nat_cmp_total kept_block array index) ∙ e)
    where
      at : (o : Option Block) → get array index ≡ o → option_map kept_block o ≡ Some x → (b : Block) × (x ≡ kept_block b) × (test b ≡ true)
      at None is e = none_some e
      at (Some b) is e = (b, sym (some_is (kept_block b) x e), h index b is)

  in-pass : (arrays : Arrays) → ((n : ℕ) (array : Array) → get arrays n ≡ Some array → Passes array) → (o : Option ℕ) → Passes (array_in arrays o)
  in-pass arrays h None = each-empty nat_cmp (λ (i : ℕ) (b : Block). test b ≡ true)
  in-pass arrays h (Some n) = at (get arrays n) refl
    where
      at : (o : Option Array) → get arrays n ≡ o → Passes (unwrap_or o empty)
      at None e = each-empty nat_cmp (λ (i : ℕ) (b : Block). test b ≡ true)
      at (Some array) e = h n array e

  nodes-pass : (arrays : Arrays) (nodes : List NodeRow) → ((n : ℕ) (array : Array) → get arrays n ≡ Some array → Passes array) → list_all (λ (n : NodeRow). list_all (λ (e : EntryRow). test e.block) n.entries) nodes ≡ true
      → (n : ℕ) (array : Array) → get (with_nodes arrays nodes) n ≡ Some array → Passes array
  nodes-pass arrays [] h all = h
  nodes-pass arrays (x ∷ nodes) h all =
      let both = two (list_all (λ (e : EntryRow). test e.block) x.entries) (list_all (λ (n : NodeRow). list_all (λ (e : EntryRow). test e.block) n.entries) nodes) all in
      let new : Array = with_entries (array_in arrays x.parent) x.entries in
      nodes-pass (fin.insert arrays x.number new) nodes
      (each-insert (λ (n : ℕ) (a : Array). Passes a) nat_cmp_total nat_cmp-IsAntisymmetric arrays h x.number new (entries-pass (array_in arrays x.parent) x.entries (in-pass arrays h x.parent) both.0)) both.1

  module _ (point : Checkpoint) (all : list_all test (blocks_of point) ≡ true) where
    entries-all : list_all (λ (n : NodeRow). list_all (λ (e : EntryRow). test e.block) n.entries) point.nodes ≡ true
    entries-all = each point.nodes (flat-all test (λ (n : NodeRow). map entry_block n.entries) point.nodes (split-all test (entry_blocks point.nodes) (map copy_block (copies_of point.snapshots)) all).0)
      where
        each : (nodes : List NodeRow) → list_all (λ (n : NodeRow). list_all test (map entry_block n.entries)) nodes ≡ true → list_all (λ (n : NodeRow). list_all (λ (e : EntryRow). test e.block) n.entries) nodes ≡ true
        each [] h = refl
        each (n ∷ nodes) h =
            let both = two (list_all test (map entry_block n.entries)) (list_all (λ (n : NodeRow). list_all test (map entry_block n.entries)) nodes) h in
            λ i. mapped-all test entry_block n.entries both.0 i && each nodes both.1 i

    copies-all : list_all (λ (p : SnapPoint). list_all (λ (c : CopyRow). test c.block) p.copies) point.snapshots ≡ true
    copies-all = flat-all (λ (c : CopyRow). test c.block) (λ (p : SnapPoint). p.copies) point.snapshots
        (mapped-all test copy_block (copies_of point.snapshots) (split-all test (entry_blocks point.nodes) (map copy_block (copies_of point.snapshots)) all).1)

    arrays-pass : (n : ℕ) (array : Array) → get (arrays_of point.nodes) n ≡ Some array → Passes array
    arrays-pass = nodes-pass empty point.nodes (λ n array e. none_some (sym (get-empty {X = Array} nat_cmp n) ∙ e)) entries-all

    -- each block that the checkpoint says is one that passes
    pub block-passes : EachBlock (λ (x : WholeBlock). (b : Block) × (x ≡ kept_block b) × (test b ≡ true)) (machine_of point)
    unfolding disks_of
    block-passes (volume key) index x e = of (get (disks_of point) key) refl e
      where
        of : (o : Option WholeArray) → get (disks_of point) key ≡ o → get (unwrap_or o empty) index ≡ Some x → (b : Block) × (x ≡ kept_block b) × (test b ≡ true)
        of None is e = none_in index x e
        of (Some array) is e =
            let r = found_in vol_cmp (λ (v : VolPoint). v.row.key) (λ (v : VolPoint). kept_array (array_in (arrays_of point.nodes) (Some v.node))) point.volumes key array
            (sym (get-from_entries vols_total (map (λ (v : VolPoint). (v.row.key, kept_array (array_in (arrays_of point.nodes) (Some v.node)))) point.volumes) key) ∙ is) in
            kept-passes (array_in (arrays_of point.nodes) (Some r.point.node)) (in-pass (arrays_of point.nodes) arrays-pass (Some r.point.node)) index x (ap (λ (a : WholeArray). get a index) (sym r.is) ∙ e)
    block-passes (snapshot key) index x e = of (get (snaps_of point) key) refl e
      where
        of : (o : Option Snapshot) → get (snaps_of point) key ≡ o → get (array_at o) index ≡ Some x → (b : Block) × (x ≡ kept_block b) × (test b ≡ true)
        of None is e = none_in index x e
        of (Some s) is e =
            let r = of-snap point key s is in
            let copies = r.each (λ (p : SnapPoint). list_all (λ (c : CopyRow). test c.block) p.copies) copies-all in
            kept-passes (row_array (arrays_of point.nodes) r.point) (copies-pass (array_in (arrays_of point.nodes) r.point.node) r.point.copies (in-pass (arrays_of point.nodes) arrays-pass r.point.node) copies) index x (ap (λ (s : Snapshot). get s.array index) (sym r.is) ∙ e)

-- ---- stamps

alike : (a b : Block) → are_alike a b ≡ true → b.stamp ≡ a.stamp → kept_block b ≡ kept_block a
alike a b e is = by (a.stamp == b.stamp) refl e
  where
    equal : (m n : ℕ) → m ≡ n → (m == n) ≡ true
    equal m n e = grind (arith, nat_tests)

    never : {A : Type 0} → true ≡ false → A
    never e = absurd (cc)

    by : (t : Bool) → (a.stamp == b.stamp) ≡ t → (not t || pointwise nat_eq a.digest b.digest) ≡ true → kept_block b ≡ kept_block a
    by true t e = let text = same-text a.digest b.digest e in λ i. record { stamp = is i; bytes = sym text i }
    by false t e = never (sym (equal a.stamp b.stamp (sym is)) ∙ t)

module _ (point : Checkpoint) (rules : HasRules point) where
  stamps-of : (nat_le point.next_stamp point.accepted ≡ true) × (list_all (λ n. nat_lt n point.next_stamp) (stamps (blocks_of point)) ≡ true) × (have_one_digest (blocks_of point) ≡ true)
  stamps-of = three (nat_le point.next_stamp point.accepted) (list_all (λ n. nat_lt n point.next_stamp) (stamps (blocks_of point))) (have_one_digest (blocks_of point))
      (two (has_stamps point) (has_stored_entries point && (has_numbers point && (has_stored_copies point && has_slots point))) rules.stored).0

  point-stamps : HasStamps (machine_of point)
  point-stamps = record {
    given = λ key index x e.
        let b = block-passes (λ (b : Block). nat_lt b.stamp point.next_stamp) point (mapped-all (λ n. nat_lt n point.next_stamp) (λ (b : Block). b.stamp) (blocks_of point) stamps-of.1) key index x e in
        subst (λ (y : WholeBlock). y.stamp < point.next_stamp) (sym b.1) (less b.0.stamp point.next_stamp b.2);
    one = λ key index y e other place x there same.
        let a = block-passes (λ (a : Block). list_all (are_alike a) (blocks_of point)) point stamps-of.2 key index y e in
        let b = block-passes (are_alike a.0) point a.2 other place x there in
        b.1 ∙ alike a.0 b.0 b.2 (sym (ap (λ (z : WholeBlock). z.stamp) b.1) ∙ same ∙ ap (λ (z : WholeBlock). z.stamp) a.1) ∙ sym a.1;
  }

pub points-stamps : PointsHaveStamps
points-stamps point rules = point-stamps point rules
