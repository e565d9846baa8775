-- What is covered, through the calls of a lineage.
use Rattle.std.proofs.Common.{◌≡◌, ◌⊎◌, inl, inr, ℕ, zero, suc, ◌+◌, ◌<◌, ◌^◌, Bool, true, false, cond, [], Option, Some, None, IsSome, is_some, refl, sym, ap, subst, ◌∙◌}
use Rattle.std.proofs.lemmas.Bool.{false≢true}
use Rattle.std.specs.Option.{option_map}
use Rattle.std.specs.Prelude.{unwrap_or}
use Rattle.std.specs.Ordering.{nat_cmp}
use Rattle.std.specs.FinMap as map
use Rattle.ebs_model.specs.declared.array.Block.{Block}
use Rattle.ebs_lineage.specs.declared.node.Node.{Node}
use Rattle.ebs_lineage.specs.declared.place.Place.{Place}
use Rattle.ebs_lineage.specs.Owned.{Blocks}
use Rattle.ebs_lineage.specs.Places.{Places}
use Rattle.ebs_lineage.specs.Table.{NodeMap, changed, closed_node, put_node, ready_node}
use Rattle.ebs_lineage.specs.Lines.{Lines, AreLines, IsFree, IsFrozen, IsHeld, IsOpen, new_node, own, own_of, parent_in, with_new, with_nodes}
use Rattle.ebs_lineage.specs.Live.{IsLive, IsOnLine, owner, owner_above, owner_by, owner_in}
use Rattle.ebs_lineage.specs.Entries.{AreEntries, IsEntry}
use Rattle.ebs_lineage.specs.Reached.{AreSlotted, HasStamp, IsKept}
use Rattle.ebs_lineage.proofs.Changes.{same_or, insert-here, insert-other, changed-here, changed-other, lines-new, lines-changed, put-keeps, unborn, open_childless, fresh_childless, frozen-nodes, frozen-are, frozen-is}
use Rattle.ebs_lineage.proofs.Many.{none-many}
use Rattle.ebs_lineage.proofs.Counting.{same-entries}
use Rattle.ebs_lineage.proofs.Liveness.{owner-up, owner-own, owner-none}
use Rattle.ebs_lineage.proofs.Waiting.{owner-on-line}
use Rattle.ebs_lineage.proofs.Owners.{finds_same, own_same, closed_finds, closed_own, ready_finds, ready_own, owner_kept, parents_find}
use Rattle.ebs_collect.specs.Stack.{IsStack, waiting_in}
use Rattle.ebs_collect.specs.Backlogs.{Queue, from_index, IsPlace, IsLinked, IsWaiting, IsHidden, Covers, CoversBut}
use Rattle.ebs_world.specs.declared.area.Area.{Area}
use Rattle.ebs_slots.specs.inner.Slots.{count_of, no_slots}
use Rattle.ebs_collect.specs.Slices.{IsCounted}
use Rattle.ebs_collect.specs.Laws.{DroppingLeavesItsLine, PuttingLeavesWhatItHides, MakingCovers, SealingCovers, FreezingCovers, ReopeningCovers, RoomCovers, SameBlocksStayCounted, ClosingKeepsBlocks, RoomKeepsBlocks, MakingKeepsBlocks, NothingIsCovered}
use Rattle.ebs_collect.proofs.Maps.{none_some, some_same}
use Rattle.ebs_collect.proofs.Sums.{nothing-waiting}
use Rattle.ebs_collect.proofs.Adding.{not-both}

-- ---- nodes that nobody holds stay as they are

abbrev KeepsFree : NodeMap → NodeMap → Type 0
KeepsFree f g = (k : ℕ) → IsFree f k → map.get g k ≡ map.get f k

module _ (q : Queue) (l m : Lines) (places : m.places ≡ l.places) (keeps : KeepsFree l.table.nodes m.table.nodes) (linked : IsLinked q l) where
  place_kept : (k : ℕ) (p : Place) → map.get l.places k ≡ Some p → IsPlace m.table.nodes k p
  place_kept k p e =
      let place = linked.each k p e in
      let same = keeps k place.free in
      record {
        free = (place.free.0, same ∙ place.free.1, place.free.2);
        left = place.left ∙ ap (λ (o : Option Node). map.len (from_index (own_of o) p.from)) (sym same);
        some = place.some;
        few = place.few;
      }

  linked_kept : IsLinked q m
  linked_kept = record {
    stack = subst (λ (ps : Places). IsStack ps q.first) (sym places) linked.stack;
    each = λ k p e. place_kept k p (ap (λ ps. map.get ps k) (sym places) ∙ e);
    count = linked.count ∙ ap waiting_in (sym places);
  }

  waits_kept : (k i : ℕ) → IsWaiting l k i → IsWaiting m k i
  waits_kept k i w = record {
    place = w.place;
    here = ap (λ ps. map.get ps k) places ∙ w.here;
    reached = w.reached;
    kept = ap (λ (o : Option Node). is_some (map.get (own_of o) i)) (keeps k (linked.each k w.place w.here).free) ∙ w.kept;
  }

changed_free : (nodes : NodeMap) (n : ℕ) (f : Node → Node) → IsHeld nodes n → KeepsFree nodes (changed nodes n f)
changed_free nodes n f held k free = elim (same_or k n) [
  | inl s ↦ absurd (not-both nodes n (subst (IsFree nodes) s free) held)
  | inr off ↦ changed-other nodes n f k off
]

open_held : (nodes : NodeMap) (made n : ℕ) → AreLines nodes made → IsOpen nodes n → IsHeld nodes n
open_held nodes made n are (x, is, opened) = (x, is, are.open_held n x is opened)

-- ---- a hold is given up

module _ (q : Queue) (l : Lines) (n : ℕ) (held : IsHeld l.table.nodes n) (linked : IsLinked q l) (covers : Covers l) where
  abbrev dropped : NodeMap
  dropped = changed l.table.nodes n (closed_node false)

  free_kept : KeepsFree l.table.nodes dropped
  free_kept = changed_free l.table.nodes n (closed_node false) held

  dropped_live : (k i : ℕ) → IsLive l.table.nodes k i → IsLive dropped k i ⊎ IsOnLine dropped n k
  dropped_live k i (h, (x, is, holds), finds) = elim (same_or h n) [
    | inl s ↦ inr (owner-on-line dropped i n k (finds_same l.table.nodes n (closed_node false) (closed_finds false) (closed_own false) i n ∙ ap (owner l.table.nodes i) (sym s) ∙ finds))
    | inr off ↦ inl (h, (x, changed-other l.table.nodes n (closed_node false) h off ∙ is, holds), finds_same l.table.nodes n (closed_node false) (closed_finds false) (closed_own false) i h ∙ finds)
  ]

  dropped_at : (k i : ℕ) → IsLive l.table.nodes k i ⊎ IsWaiting l k i → (IsLive dropped k i ⊎ IsWaiting (with_nodes l dropped) k i) ⊎ IsOnLine dropped n k
  dropped_at k i (inl live) = elim (dropped_live k i live) [ inl now ↦ inl (inl now) | inr line ↦ inr line ]
  dropped_at k i (inr w) = inl (inr (waits_kept q l (with_nodes l dropped) refl free_kept linked k i w))

  dropped_covers : CoversBut (with_nodes l dropped) (λ m i. IsOnLine dropped n m)
  dropped_covers k i b e = dropped_at k i (covers k i b (ap (λ o. map.get o i) (sym (own_same l.table.nodes n (closed_node false) (closed_finds false) (closed_own false) k)) ∙ e))

  dropped_both : IsLinked q (with_nodes l dropped) × CoversBut (with_nodes l dropped) (λ m i. IsOnLine dropped n m)
  dropped_both = (linked_kept q l (with_nodes l dropped) refl free_kept linked, dropped_covers)

pub dropping : DroppingLeavesItsLine
dropping q l n held linked covers = dropped_both q l n held linked covers

-- ---- a change after which the node is held as before

module _ (q : Queue) (l : Lines) (n : ℕ) (f : Node → Node) (finds : (o : Option Node) (m index : ℕ) (u : ℕ → Option ℕ) → owner_in (option_map f o) m index u ≡ owner_in o m index u) (keeps : (o : Option Node) → own_of (option_map f o) ≡ own_of o)
    (holds : (x : Node) → x.is_held ≡ true → (f x).is_held ≡ true) (held : IsHeld l.table.nodes n) (linked : IsLinked q l) (covers : Covers l) where
  abbrev after : NodeMap
  after = changed l.table.nodes n f

  held_after : (h : ℕ) → IsHeld l.table.nodes h → IsHeld after h
  held_after h (x, is, holding) = elim (same_or h n) [
    | inl s ↦ (f x, ap (map.get after) s ∙ changed-here l.table.nodes n f ∙ ap (option_map f) (ap (map.get l.table.nodes) (sym s) ∙ is), holds x holding)
    | inr off ↦ (x, changed-other l.table.nodes n f h off ∙ is, holding)
  ]

  live_after : (k i : ℕ) → IsLive l.table.nodes k i → IsLive after k i
  live_after k i (h, held, found) = (h, held_after h held, finds_same l.table.nodes n f finds keeps i h ∙ found)

  covers_after : Covers (with_nodes l after)
  covers_after k i b e = elim (covers k i b (ap (λ o. map.get o i) (sym (own_same l.table.nodes n f finds keeps k)) ∙ e)) [
    | inl live ↦ inl (live_after k i live)
    | inr w ↦ inr (waits_kept q l (with_nodes l after) refl (changed_free l.table.nodes n f held) linked k i w)
  ]

  kept_after : IsLinked q (with_nodes l after) × Covers (with_nodes l after)
  kept_after = (linked_kept q l (with_nodes l after) refl (changed_free l.table.nodes n f held) linked, covers_after)

pub sealing : SealingCovers
sealing q l n are opened linked covers = kept_after q l n (closed_node true) (closed_finds true) (closed_own true) (λ x holding. refl) (open_held l.table.nodes l.made n are opened) linked covers

pub keeping_room : RoomCovers
keeping_room q l n are opened linked covers = kept_after q l n ready_node ready_finds ready_own (λ x holding. holding) (open_held l.table.nodes l.made n are opened) linked covers

-- ---- a node is made

module _ (q : Queue) (l : Lines) (up : Option ℕ) (are : AreLines l.table.nodes l.made) (linked : IsLinked q l) (covers : Covers l) where
  abbrev made_nodes : NodeMap
  made_nodes = map.insert l.table.nodes l.made (new_node up)

  old_kept : (k : ℕ) (x : Node) → map.get l.table.nodes k ≡ Some x → map.get made_nodes k ≡ map.get l.table.nodes k
  old_kept k x is = insert-other l.table.nodes l.made (new_node up) k (unborn l.table.nodes l.made are k x is)

  made_free : KeepsFree l.table.nodes made_nodes
  made_free k free = old_kept k free.0 free.1

  made_live : (k i : ℕ) → IsLive l.table.nodes k i → IsLive made_nodes k i
  made_live k i (h, (x, is, holding), found) = (
    h,
    (x, old_kept h x is ∙ is, holding),
    owner_kept l.table.nodes made_nodes l.made i (insert-other l.table.nodes l.made (new_node up)) (fresh_childless l.table.nodes l.made are) h (unborn l.table.nodes l.made are h x is) ∙ found,
  )

  old_own : (k i : ℕ) (b : Block) → map.get (own made_nodes k) i ≡ Some b → map.get (own l.table.nodes k) i ≡ Some b
  old_own k i b e = elim (same_or k l.made) [
    | inl s ↦ none_some b (sym (map.get-empty nat_cmp i) ∙ sym (ap (λ (o : Option Node). map.get (own_of o) i) (ap (map.get made_nodes) s ∙ insert-here l.table.nodes l.made (new_node up))) ∙ e)
    | inr off ↦ sym (ap (λ (o : Option Node). map.get (own_of o) i) (insert-other l.table.nodes l.made (new_node up) k off)) ∙ e
  ]

  made_covers : Covers (with_new l up)
  made_covers k i b e = elim (covers k i b (old_own k i b e)) [
    | inl live ↦ inl (made_live k i live)
    | inr w ↦ inr (waits_kept q l (with_new l up) refl made_free linked k i w)
  ]

  made_both : IsLinked q (with_new l up) × Covers (with_new l up)
  made_both = (linked_kept q l (with_new l up) refl made_free linked, made_covers)

pub making : MakingCovers
making q l up are good linked covers = made_both q l up are linked covers

-- ---- a node is frozen, and a child of it is made

pub freezing : FreezingCovers
freezing q l n are opened linked covers =
    let shut = sealing q l n are opened linked covers in
    let m : Lines = with_nodes l (changed l.table.nodes n (closed_node true)) in
    let both = making q m (Some n) (frozen-are l.table.nodes l.made are n opened) (frozen-is l.table.nodes l.made are n opened) shut.0 shut.1 in
    subst (λ (ns : NodeMap). IsLinked q (with_nodes (with_new l (Some n)) ns) × Covers (with_nodes (with_new l (Some n)) ns)) (sym (frozen-nodes l.table.nodes l.made are n opened)) both

-- ---- an open child takes the place of a frozen node

module _ (q : Queue) (l : Lines) (n : ℕ) (are : AreLines l.table.nodes l.made) (frozen : IsFrozen l.table.nodes n) (held : IsHeld l.table.nodes n) (linked : IsLinked q l) (covers : Covers l) where
  abbrev kid : Node
  kid = new_node (Some n)

  abbrev kid_lines : Lines
  kid_lines = with_new l (Some n)

  abbrev reopened : NodeMap
  reopened = changed kid_lines.table.nodes n (closed_node false)

  kid_up : (p : ℕ) → Some n ≡ Some p → IsFrozen l.table.nodes p
  kid_up p e = subst (IsFrozen l.table.nodes) (some_same n p e) frozen

  kid_are : AreLines kid_lines.table.nodes (l.made + 1)
  kid_are = lines-new l.table.nodes l.made are (Some n) kid_up

  kid_both : IsLinked q kid_lines × Covers kid_lines
  kid_both = made_both q l (Some n) are linked covers

  kid_off : l.made ≡ n → ⊥
  kid_off e = unborn l.table.nodes l.made are n held.0 held.1 (sym e)

  kid_here : map.get kid_lines.table.nodes l.made ≡ Some kid
  kid_here = insert-here l.table.nodes l.made kid

  kid_held : IsHeld reopened l.made
  kid_held = (kid, changed-other kid_lines.table.nodes n (closed_node false) l.made kid_off ∙ kid_here, refl)

  -- it keeps no block, so it finds what the node finds
  kid_finds : (i : ℕ) → owner kid_lines.table.nodes i l.made ≡ owner kid_lines.table.nodes i n
  kid_finds i = owner-none kid_lines.table.nodes (l.made + 1) kid_are i l.made kid kid_here (map.get-empty nat_cmp i)

  still_there : IsHeld kid_lines.table.nodes n
  still_there = (held.0, insert-other l.table.nodes l.made kid n (unborn l.table.nodes l.made are n held.0 held.1) ∙ held.1, held.2)

  reopened_finds : (i h : ℕ) → owner reopened i h ≡ owner kid_lines.table.nodes i h
  reopened_finds i h = finds_same kid_lines.table.nodes n (closed_node false) (closed_finds false) (closed_own false) i h

  reopened_live : (k i : ℕ) → IsLive kid_lines.table.nodes k i → IsLive reopened k i
  reopened_live k i (h, (x, is, holds), finds) = elim (same_or h n) [
    | inl s ↦ (l.made, kid_held, reopened_finds i l.made ∙ kid_finds i ∙ ap (owner kid_lines.table.nodes i) (sym s) ∙ finds)
    | inr off ↦ (h, (x, changed-other kid_lines.table.nodes n (closed_node false) h off ∙ is, holds), reopened_finds i h ∙ finds)
  ]

  reopened_free : KeepsFree kid_lines.table.nodes reopened
  reopened_free = changed_free kid_lines.table.nodes n (closed_node false) still_there

  reopened_covers : Covers (with_nodes kid_lines reopened)
  reopened_covers k i b e = elim (kid_both.1 k i b (ap (λ o. map.get o i) (sym (own_same kid_lines.table.nodes n (closed_node false) (closed_finds false) (closed_own false) k)) ∙ e)) [
    | inl live ↦ inl (reopened_live k i live)
    | inr w ↦ inr (waits_kept q kid_lines (with_nodes kid_lines reopened) refl reopened_free kid_both.0 k i w)
  ]

  reopened_both : IsLinked q (with_nodes kid_lines reopened) × Covers (with_nodes kid_lines reopened)
  reopened_both = (linked_kept q kid_lines (with_nodes kid_lines reopened) refl reopened_free kid_both.0, reopened_covers)

pub reopening : ReopeningCovers
reopening q l n are frozen held linked covers = reopened_both q l n are frozen held linked covers

-- ---- a block is put

module _ (q : Queue) (l : Lines) (n index : ℕ) (block : Block) (are : AreLines l.table.nodes l.made) (opened : IsOpen l.table.nodes n) (near : index < 2 ^ 32) (linked : IsLinked q l) (covers : Covers l) where
  abbrev put_nodes : NodeMap
  put_nodes = changed l.table.nodes n (put_node index block)

  abbrev put_lines : Lines
  put_lines = with_nodes l put_nodes

  put_are : AreLines put_nodes l.made
  put_are = lines-changed l.table.nodes l.made are n (put_node index block) (put-keeps index block near)

  abbrev x : Node
  x = opened.0

  put_here : map.get put_nodes n ≡ Some (put_node index block x)
  put_here = changed-here l.table.nodes n (put_node index block) ∙ ap (option_map (put_node index block)) opened.1

  put_held : (h : ℕ) → IsHeld l.table.nodes h → IsHeld put_nodes h
  put_held h (y, is, holding) = elim (same_or h n) [
    | inl s ↦ (put_node index block x, ap (map.get put_nodes) s ∙ put_here, ap (λ (z : Node). z.is_held) (some_same x y (sym opened.1 ∙ ap (map.get l.table.nodes) (sym s) ∙ is)) ∙ holding)
    | inr off ↦ (y, changed-other l.table.nodes n (put_node index block) h off ∙ is, holding)
  ]

  put_free : KeepsFree l.table.nodes put_nodes
  put_free = changed_free l.table.nodes n (put_node index block) (open_held l.table.nodes l.made n are opened)

  no_kids : (m : ℕ) (y : Node) → map.get l.table.nodes m ≡ Some y → y.parent ≡ Some n → ⊥
  no_kids = open_childless l.table.nodes l.made are n opened

  others_find : (i h : ℕ) → (h ≡ n → ⊥) → owner put_nodes i h ≡ owner l.table.nodes i h
  others_find i h off = owner_kept l.table.nodes put_nodes n i (changed-other l.table.nodes n (put_node index block)) no_kids h off

  above_finds : (i : ℕ) → owner_above x.parent (owner put_nodes i) ≡ owner_above x.parent (owner l.table.nodes i)
  above_finds i = parents_find l.table.nodes put_nodes n i (changed-other l.table.nodes n (put_node index block)) no_kids n x opened.1

  -- elsewhere the node finds what it found
  own_else : (i : ℕ) → (i ≡ index → ⊥) → map.get (map.insert x.own.blocks index block) i ≡ map.get x.own.blocks i
  own_else i off = insert-other x.own.blocks index block i off

  else_finds : (i : ℕ) → (i ≡ index → ⊥) → owner put_nodes i n ≡ owner l.table.nodes i n
  else_finds i off =
      owner-up put_nodes l.made put_are i n (put_node index block x) put_here
      ∙ (λ j. cond (is_some (own_else i off j)) (Some n) (above_finds i j))
      ∙ sym (owner-up l.table.nodes l.made are i n x opened.1)

  put_live : IsLive put_nodes n index
  put_live = (n, (put_node index block x, put_here, are.open_held n x opened.1 opened.2), owner-own put_nodes l.made put_are index n (put_node index block x) block put_here (insert-here x.own.blocks index block))

  -- what the node found at the index
  was_own : (k : ℕ) (o : Option Block) → map.get x.own.blocks index ≡ o → (k ≡ n → ⊥) → owner l.table.nodes index n ≡ Some k → IsHidden put_nodes n index k
  was_own k None none off found =
      ap (λ (o : Option Node). owner_above (parent_in o) (owner put_nodes index)) put_here ∙ above_finds index
      ∙ sym (owner-none l.table.nodes l.made are index n x opened.1 none) ∙ found
  was_own k (Some b) has off found = absurd (off (sym (some_same n k (sym (owner-own l.table.nodes l.made are index n x b opened.1 has) ∙ found))))

  -- a block but the one that was put
  module _ (k i : ℕ) (apart : (k ≡ n) × (i ≡ index) → ⊥) where
    at_index : i ≡ index → owner l.table.nodes i n ≡ Some k → IsHidden put_nodes n index k
    at_index s found = was_own k (map.get x.own.blocks index) refl (λ t. apart (t, s)) (ap (λ j. owner l.table.nodes j n) (sym s) ∙ found)

    old_live : IsLive l.table.nodes k i → IsLive put_nodes k i ⊎ IsHidden put_nodes n index k
    old_live (h, held, found) = elim (same_or h n) [
      | inr off ↦ inl (h, put_held h held, others_find i h off ∙ found)
      | inl s ↦ elim (same_or i index) [
        | inr off ↦ inl (h, put_held h held, ap (owner put_nodes i) s ∙ else_finds i off ∙ ap (owner l.table.nodes i) (sym s) ∙ found)
        | inl t ↦ inr (at_index t (ap (owner l.table.nodes i) (sym s) ∙ found))
      ]
    ]

    old_covered : IsLive l.table.nodes k i ⊎ IsWaiting l k i → (IsLive put_nodes k i ⊎ IsWaiting put_lines k i) ⊎ IsHidden put_nodes n index k
    old_covered (inl live) = elim (old_live live) [ inl now ↦ inl (inl now) | inr hidden ↦ inr hidden ]
    old_covered (inr w) = inl (inr (waits_kept q l put_lines refl put_free linked k i w))

    put_was : (b : Block) → map.get (own put_nodes k) i ≡ Some b → map.get (own l.table.nodes k) i ≡ Some b
    put_was b e = elim (same_or k n) [
      | inl s ↦
          ap (λ j. map.get (own l.table.nodes j) i) s ∙ ap (λ (o : Option Node). map.get (own_of o) i) opened.1
          ∙ sym (own_else i (λ t. apart (s, t)))
          ∙ sym (ap (λ (o : Option Node). map.get (own_of o) i) put_here) ∙ ap (λ j. map.get (own put_nodes j) i) (sym s) ∙ e
      | inr off ↦ sym (ap (λ (o : Option Node). map.get (own_of o) i) (changed-other l.table.nodes n (put_node index block) k off)) ∙ e
    ]

  put_at : (k i : ℕ) (b : Block) → map.get (own put_nodes k) i ≡ Some b → (k ≡ n) ⊎ (k ≡ n → ⊥) → (i ≡ index) ⊎ (i ≡ index → ⊥) → (IsLive put_nodes k i ⊎ IsWaiting put_lines k i) ⊎ IsHidden put_nodes n index k
  put_at k i b e (inl s) (inl t) = inl (inl (subst (λ (y : ℕ × ℕ). IsLive put_nodes y.0 y.1) (λ j. (sym s j, sym t j)) put_live))
  put_at k i b e (inl s) (inr off) = old_covered k i (λ both. off both.1) (covers k i b (put_was k i (λ both. off both.1) b e))
  put_at k i b e (inr off) c = old_covered k i (λ both. off both.0) (covers k i b (put_was k i (λ both. off both.0) b e))

  put_covers : CoversBut put_lines (λ m i. IsHidden put_nodes n index m)
  put_covers k i b e = put_at k i b e (same_or k n) (same_or i index)

  put_both : IsLinked q put_lines × CoversBut put_lines (λ m i. IsHidden put_nodes n index m)
  put_both = (linked_kept q l put_lines refl put_free linked, put_covers)

pub putting : PuttingLeavesWhatItHides
putting q l n index block are opened near linked covers = put_both q l n index block are opened near linked covers

-- ---- blocks that stay have their slots

module _ (f g : NodeMap) (same : (n : ℕ) → own g n ≡ own f n) where
  kept_to : (stamp : ℕ) → IsKept f stamp → IsKept g stamp
  kept_to stamp k = record { node = k.node; has = subst (λ (b : Blocks). HasStamp b stamp) (sym (same k.node)) k.has }

  kept_from : (stamp : ℕ) → IsKept g stamp → IsKept f stamp
  kept_from stamp k = record { node = k.node; has = subst (λ (b : Blocks). HasStamp b stamp) (same k.node) k.has }

  same_slotted : (keys : map.FinMap nat_cmp ℕ) → AreSlotted keys f → AreSlotted keys g
  same_slotted keys slotted stamp = (λ has. kept_to stamp ((slotted stamp).0 has), λ k. (slotted stamp).1 (kept_from stamp k))

pub staying_counted : SameBlocksStayCounted
staying_counted f g s same counted = record { slotted = same_slotted f g same s.keys counted.slotted; counts = λ stamp. same-entries f g same stamp (count_of s stamp) (counted.counts stamp) }

pub closing_keeps : ClosingKeepsBlocks
closing_keeps nodes n held m = own_same nodes n (closed_node held) (closed_finds held) (closed_own held) m

pub room_keeps : RoomKeepsBlocks
room_keeps nodes n m = own_same nodes n ready_node ready_finds ready_own m

module _ (nodes : NodeMap) (made : ℕ) (up : Option ℕ) (are : AreLines nodes made) where
  unmade_own : (o : Option Node) → map.get nodes made ≡ o → map.empty ≡ own_of o
  unmade_own None e = refl
  unmade_own (Some x) e = absurd (unborn nodes made are made x e refl)

  made_keeps : (m : ℕ) → own (map.insert nodes made (new_node up)) m ≡ own nodes m
  made_keeps m = elim (same_or m made) [
    | inl s ↦ ap own_of (ap (map.get (map.insert nodes made (new_node up))) s ∙ insert-here nodes made (new_node up)) ∙ unmade_own (map.get nodes made) refl ∙ ap (own nodes) (sym s)
    | inr off ↦ ap own_of (insert-other nodes made (new_node up) m off)
  ]

pub making_keeps : MakingKeepsBlocks
making_keeps nodes made up are m = made_keeps nodes made up are m

-- ---- nothing is there

module _ (spare made : ℕ) (area : Area) where
  abbrev nothing : Lines
  nothing = record { table = record { nodes = map.empty; spare = spare }; made = made; places = map.empty }

  no_block : (n i : ℕ) (b : Block) → map.get (own map.empty n) i ≡ Some b → ⊥
  no_block n i b e = none_some b (sym (map.get-empty nat_cmp i) ∙ sym (ap (λ (o : Option Node). map.get (own_of o) i) (map.get-empty nat_cmp n)) ∙ e)

  no_place : (n : ℕ) (p : Place) → map.get (map.empty {R = nat_cmp}) n ≡ Some p → ⊥
  no_place n p e = none_some p (sym (map.get-empty nat_cmp n) ∙ e)

  none_linked : IsLinked (record { first = None; waiting = 0 }) nothing
  none_linked = record {
    stack = record { order = []; chain = refl; all = λ n p e. no_place n p e };
    each = λ n p e. absurd (no_place n p e);
    count = sym (nothing-waiting map.empty no_place);
  }

  abbrev no_keys : map.FinMap nat_cmp ℕ
  no_keys = map.empty

  no_key : {A : Type 0} (stamp : ℕ) → IsSome (map.get no_keys stamp) → A
  no_key stamp has = absurd (false≢true (sym (ap is_some (map.get-empty nat_cmp stamp)) ∙ has))

  none_slotted : AreSlotted no_keys map.empty
  none_slotted stamp = (λ has. no_key stamp has, λ k. absurd (no_block k.node k.has.index k.has.block k.has.found))

  uncounted : (stamp : ℕ) → count_of (no_slots area) stamp ≡ 0
  uncounted stamp = ap (λ (o : Option ℕ). unwrap_or o 0) (map.get-empty nat_cmp stamp)

  none_counted : IsCounted (no_slots area) map.empty
  none_counted = record {
    slotted = none_slotted;
    counts = λ stamp. subst (λ (c : ℕ). AreEntries map.empty stamp c) (sym (uncounted stamp)) (none-many (IsEntry map.empty stamp) (λ e h. no_block e.0 e.1 h.block h.found));
  }

  none_covered : IsLinked (record { first = None; waiting = 0 }) nothing × Covers nothing × IsCounted (no_slots area) map.empty
  none_covered = (none_linked, λ n i b e. absurd (no_block n i b e), none_counted)

pub nothing_covered : NothingIsCovered
nothing_covered spare made area = none_covered spare made area
