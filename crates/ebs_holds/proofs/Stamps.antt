-- The stamps of blocks that puts would replace, through what becomes of nodes.
use Rattle.std.proofs.Common.{arith, ◌≡◌, ℕ, ◌<◌, ◌≤◌, ◌^◌, inl, inr, Bool, true, false, cond, Option, Some, None, IsSome, is_some, Result, Ok, Err, OnOk, OnErr, refl, sym, ap, subst, ◌∙◌}
use Rattle.std.specs.Option.{option_map}
use Rattle.std.specs.Ordering.{nat_cmp}
use Rattle.std.specs.FinMap as map
use Rattle.ebs_model.specs.declared.array.Block.{Block}
use Rattle.ebs_lineage.specs.declared.node.Node.{Node}
use Rattle.ebs_lineage.specs.declared.node_id.NodeId.{NodeId}
use Rattle.ebs_lineage.specs.Table.{NodeMap, changed, closed_node, put_node, ready_node}
use Rattle.ebs_lineage.specs.Lines.{Lines, AreLines, IsOpen, IsFrozen, new_node, own, own_of, with_new, with_nodes}
use Rattle.ebs_lineage.proofs.Changes.{same_or, insert-here, insert-other, changed-here, changed-other}
use Rattle.ebs_slots.specs.inner.Slots.{SlotTable}
use Rattle.ebs_collect.specs.Backlogs.{IsPlacesAlone}
use Rattle.ebs_collect.specs.Slices.{IsCounted}
use Rattle.ebs_collect.specs.Laws.{PuttingKeepsCounted, without_old}
use Rattle.ebs_holds.specs.declared.holder.Holder.{Holder}
use Rattle.ebs_holds.specs.Orders.{exact_holders, holders_total}
use Rattle.ebs_holds.specs.Holds.{HeldBy}
use Rattle.ebs_holds.specs.Counted.{PutsCounted, without_stamp, stamp_in, stamp_at}
use Rattle.ebs_holds.proofs.Keyed.{cases, at_key, off_key}
use Rattle.ebs_holds.proofs.Holding.{old, off_it}
use Rattle.ebs_holds.proofs.Steps.{Stand}

none_some : {A B : Type 0} (a : A) → None ≡ Some a → B
none_some a e = absurd (cc)

abbrev stamp_of : Block → ℕ
stamp_of b = b.stamp

-- ---- one node

-- an open node keeps what it keeps
pub open_stamp : (nodes : NodeMap) (n index : ℕ) → IsOpen nodes n → stamp_in (map.get nodes n) index ≡ option_map stamp_of (map.get (own nodes n) index)
open_stamp nodes n index (x, is, t) =
    ap (λ o. stamp_in o index) is ∙ ap (λ b. cond b (option_map stamp_of (map.get x.own.blocks index)) None) t ∙ ap (λ (o : Option Node). option_map stamp_of (map.get (own_of o) index)) (sym is)

pub frozen_stamp : (nodes : NodeMap) (n index : ℕ) → IsFrozen nodes n → stamp_in (map.get nodes n) index ≡ None
frozen_stamp nodes n index (x, is, t) = ap (λ o. stamp_in o index) is ∙ ap (λ b. cond b (option_map stamp_of (map.get x.own.blocks index)) None) t

fresh_stamp : (up : Option ℕ) (index : ℕ) → stamp_in (Some (new_node up)) index ≡ None
fresh_stamp up index = ap (option_map stamp_of) (map.get-empty nat_cmp index)

-- no node keeps a block beyond 32 bits
module _ (nodes : NodeMap) (made : ℕ) (are : AreLines nodes made) (index : ℕ) (far : 2 ^ 32 ≤ index) where
  far_block : (n : ℕ) (x : Node) → map.get nodes n ≡ Some x → (o : Option Block) → map.get x.own.blocks index ≡ o → option_map stamp_of o ≡ None
  far_block n x is None e = refl
  far_block n x is (Some b) e = let near : index < 2 ^ 32 = are.small n x is index b e in absurd (omega (arith, near, far))

  far_open : (n : ℕ) (x : Node) → map.get nodes n ≡ Some x → (b : Bool) → cond b (option_map stamp_of (map.get x.own.blocks index)) None ≡ None
  far_open n x is true = far_block n x is (map.get x.own.blocks index) refl
  far_open n x is false = refl

  far_in : (n : ℕ) (o : Option Node) → map.get nodes n ≡ o → stamp_in o index ≡ None
  far_in n None is = refl
  far_in n (Some x) is = far_open n x is x.is_open

  pub far_stamp : (o : Option NodeId) → stamp_at nodes o index ≡ None
  far_stamp None = refl
  far_stamp (Some n) = far_in n.number (map.get nodes n.number) refl

-- ---- all holders

-- where nodes keep theirs
pub stamps_keep : (f g : NodeMap) (held : HeldBy) (index : ℕ) → ((q : Holder) (n : NodeId) → map.get held q ≡ Some n → stamp_in (map.get g n.number) index ≡ stamp_in (map.get f n.number) index)
    → (q : Holder) → stamp_at g (map.get held q) index ≡ stamp_at f (map.get held q) index
stamps_keep f g held index same q = by (map.get held q) refl
  where
    by : (o : Option NodeId) → map.get held q ≡ o → stamp_at g o index ≡ stamp_at f o index
    by None e = refl
    by (Some n) e = same q n e

-- a new node, of a holder that had none
module _ (l m : Lines) (held new : HeldBy) (are : Stand l held) (up : Option ℕ) (key : Holder) (free : map.get held key ≡ None) (n : NodeId) (num : n.number ≡ l.made) (is : m ≡ with_new l up) (fill : new ≡ map.insert held key n) where
  abbrev more : NodeMap
  more = map.insert l.table.nodes l.made (new_node up)

  begun_stamps : (q : Holder) (index : ℕ) → stamp_at more (map.get (map.insert held key n) q) index ≡ stamp_at l.table.nodes (map.get held q) index
  begun_stamps q index = elim (cases holders_total exact_holders q key) [
    | inl t ↦
        ap (λ o. stamp_at more o index) (at_key holders_total exact_holders held key n q t.1)
        ∙ ap (λ k. stamp_in (map.get more k) index) num ∙ ap (λ o. stamp_in o index) (insert-here l.table.nodes l.made (new_node up)) ∙ fresh_stamp up index
        ∙ ap (λ o. stamp_at l.table.nodes o index) (sym (ap (map.get held) t.1 ∙ free))
    | inr t ↦
        ap (λ o. stamp_at more o index) (off_key holders_total exact_holders held key n q t.0)
        ∙ stamps_keep l.table.nodes more held index (λ k i e. ap (λ o. stamp_in o index) (insert-other l.table.nodes l.made (new_node up) i.number (old l.table.nodes l.made held are k i e))) q
  ]

  pub begun_replaced : (q : Holder) (index : ℕ) → stamp_at m.table.nodes (map.get new q) index ≡ stamp_at l.table.nodes (map.get held q) index
  begun_replaced q index = (λ i. stamp_at (is i).table.nodes (map.get (fill i) q) index) ∙ begun_stamps q index

-- an open child in the place of a frozen node
module _ (l k m : Lines) (held new : HeldBy) (are : Stand l held) (key : Holder) (n : NodeId) (has : map.get held key ≡ Some n) (frozen : IsFrozen l.table.nodes n.number) (c : NodeId) (num : c.number ≡ l.made)
    (is : k ≡ with_new l (Some n.number)) (then : m ≡ with_nodes k (changed k.table.nodes n.number (closed_node false))) (fill : new ≡ map.insert held key c) where
  abbrev with_kid : NodeMap
  with_kid = map.insert l.table.nodes l.made (new_node (Some n.number))

  abbrev last : NodeMap
  last = changed with_kid n.number (closed_node false)

  both : m ≡ with_nodes (with_new l (Some n.number)) last
  both = then ∙ ap (λ (x : Lines). with_nodes x (changed x.table.nodes n.number (closed_node false))) is

  kid_stamp : (index : ℕ) → stamp_in (map.get last c.number) index ≡ None
  kid_stamp index =
      ap (λ i. stamp_in (map.get last i) index) num
      ∙ ap (λ o. stamp_in o index) (changed-other with_kid n.number (closed_node false) l.made (λ e. old l.table.nodes l.made held are key n has (sym e)) ∙ insert-here l.table.nodes l.made (new_node (Some n.number)))
      ∙ fresh_stamp (Some n.number) index

  other_stamp : (q : Holder) (i : NodeId) → map.get held q ≡ Some i → (q ≡ key → ⊥) → (index : ℕ) → stamp_in (map.get last i.number) index ≡ stamp_in (map.get l.table.nodes i.number) index
  other_stamp q i e off index = ap (λ o. stamp_in o index) (
      changed-other with_kid n.number (closed_node false) i.number (off_it l.table.nodes l.made held are key n has q i e off)
      ∙ insert-other l.table.nodes l.made (new_node (Some n.number)) i.number (old l.table.nodes l.made held are q i e))

  reopened_stamps : (q : Holder) (index : ℕ) → stamp_at last (map.get (map.insert held key c) q) index ≡ stamp_at l.table.nodes (map.get held q) index
  reopened_stamps q index = elim (cases holders_total exact_holders q key) [
    | inl t ↦
        ap (λ o. stamp_at last o index) (at_key holders_total exact_holders held key c q t.1) ∙ kid_stamp index
        ∙ sym (ap (λ o. stamp_at l.table.nodes o index) (ap (map.get held) t.1 ∙ has) ∙ frozen_stamp l.table.nodes n.number index frozen)
    | inr t ↦ ap (λ o. stamp_at last o index) (off_key holders_total exact_holders held key c q t.0) ∙ by (map.get held q) refl t.1
  ]
    where
      by : (o : Option NodeId) → map.get held q ≡ o → (q ≡ key → ⊥) → stamp_at last o index ≡ stamp_at l.table.nodes o index
      by None e off = refl
      by (Some i) e off = other_stamp q i e off index

  pub reopened_replaced : (q : Holder) (index : ℕ) → stamp_at m.table.nodes (map.get new q) index ≡ stamp_at l.table.nodes (map.get held q) index
  reopened_replaced q index = (λ i. stamp_at (both i).table.nodes (map.get (fill i) q) index) ∙ reopened_stamps q index

-- room for a block
ready_in : (o : Option Node) (index : ℕ) → stamp_in (option_map ready_node o) index ≡ stamp_in o index
ready_in None index = refl
ready_in (Some x) index = refl

ready_stamp : (nodes : NodeMap) (n m index : ℕ) → stamp_in (map.get (changed nodes n ready_node) m) index ≡ stamp_in (map.get nodes m) index
ready_stamp nodes n m index = elim (same_or m n) [
  | inl e ↦ ap (λ k. stamp_in (map.get (changed nodes n ready_node) k) index) e ∙ ap (λ o. stamp_in o index) (changed-here nodes n ready_node) ∙ ready_in (map.get nodes n) index ∙ ap (λ k. stamp_in (map.get nodes k) index) (sym e)
  | inr h ↦ ap (λ o. stamp_in o index) (changed-other nodes n ready_node m h)
]

pub maybe_replaced : {T E : Type 0} (r : Result T E) (l m : Lines) (held : HeldBy) (n : ℕ) → OnOk r (m ≡ with_nodes l (changed l.table.nodes n ready_node)) → OnErr r (m ≡ l)
    → (q : Holder) (index : ℕ) → stamp_at m.table.nodes (map.get held q) index ≡ stamp_at l.table.nodes (map.get held q) index
maybe_replaced (Ok x) l m held n ok err q index =
    ap (λ (k : Lines). stamp_at k.table.nodes (map.get held q) index) ok
    ∙ stamps_keep l.table.nodes (changed l.table.nodes n ready_node) held index (λ k i e. ready_stamp l.table.nodes n i.number index) q
maybe_replaced (Err e) l m held n ok err q index = ap (λ (k : Lines). stamp_at k.table.nodes (map.get held q) index) err

-- ---- a block that is put

same_slots : (t : SlotTable) (o : Option Block) → without_stamp t (option_map stamp_of o) ≡ without_old t o
same_slots t None = refl
same_slots t (Some b) = refl

pub put_counted : PuttingKeepsCounted → (l m : Lines) (held : HeldBy) (key : Holder) (n : NodeId) → map.get held key ≡ Some n → IsOpen l.table.nodes n.number → (index : ℕ) (block : Block)
    → IsPlacesAlone (with_nodes l (changed l.table.nodes n.number (put_node index block))) m → PutsCounted l.table.nodes m.table.nodes block.stamp (stamp_at l.table.nodes (map.get held key) index)
put_counted law l m held key n has opened index block alone s t slot counted new given =
    let nodes : NodeMap = l.table.nodes in
    let put : NodeMap = changed nodes n.number (put_node index block) in
    let there : IsSome (map.get nodes n.number) = ap is_some opened.1 in
    let gone = ap (λ o. stamp_at nodes o index) has ∙ open_stamp nodes n.number index opened in
    let slots = ap (without_stamp t) gone ∙ same_slots t (map.get (own nodes n.number) index) in
    let nodes_are : m.table.nodes ≡ put = ap (λ (k : Lines). k.table.nodes) alone in
    subst (λ (x : SlotTable × NodeMap). IsCounted x.0 x.1) (λ i. (sym slots i, sym nodes_are i)) (law s t nodes n.number index slot block counted there new given.keys given.counts)
