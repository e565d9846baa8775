-- Holders' nodes and the backlog, through the calls of a lineage.
use Rattle.std.proofs.Common.{◌≡◌, ℕ, ◌+◌, ◌≤◌, ◌^◌, inl, inr, max, Bool, Option, Some, Result, Ok, Err, OnOk, OnErr, sym, ap, subst, ◌∙◌}
use Rattle.ebs_lineage.specs.Table.{NodeMap, changed, closed_node, ready_node}
use Rattle.ebs_lineage.specs.Lines.{Lines, AreLines, own, with_new, with_nodes}
use Rattle.ebs_collect.specs.Backlogs.{Queue, IsLinked, IsWaiting, IsPlacesAlone, Covers}
use Rattle.ebs_collect.specs.Laws.{ClosingKeepsBlocks, RoomKeepsBlocks, MakingKeepsBlocks}
use Rattle.ebs_holds.specs.declared.holder.Holder.{Holder}
use Rattle.ebs_holds.specs.Holds.{HeldBy, Holding, HasNodes}
use Rattle.ebs_holds.specs.Counted.{KeepsBlocks}
use Rattle.ebs_holds.specs.Shown.{AreBacked}
use Rattle.ebs_holds.proofs.Steps.{Stand, at}

-- lines that are known by an equation
pub backed : (q : Queue) (l m : Lines) (held : HeldBy) → m ≡ l → IsLinked q l × Covers l → Stand m held → AreBacked q m held
backed q l m held is both stand = record { holders = stand; linked = subst (IsLinked q) (sym is) both.0; covers = subst Covers (sym is) both.1 }

pub maybe_backed : {T E : Type 0} (r : Result T E) (q : Queue) (k l m : Lines) (held : HeldBy) → OnOk r (m ≡ k) → OnErr r (m ≡ l) → IsLinked q k × Covers k → AreBacked q l held → Stand m held → AreBacked q m held
maybe_backed (Ok x) q k l m held ok err both are stand = backed q k m held ok both stand
maybe_backed (Err e) q k l m held ok err both are stand = backed q l m held err (are.linked, are.covers) stand

-- room for nodes
module _ (q : Queue) (l : Lines) (spare : ℕ) where
  abbrev roomy : Lines
  roomy = record l { table = record l.table { spare = spare } }

  roomy_waits : (n i : ℕ) → IsWaiting l n i → IsWaiting roomy n i
  roomy_waits n i w = record { place = w.place; here = w.here; reached = w.reached; kept = w.kept }

  roomy_both : IsLinked q l → Covers l → IsLinked q roomy × Covers roomy
  roomy_both linked covers = (
    record { stack = linked.stack; each = linked.each; count = linked.count },
    λ n i b e. elim (covers n i b e) [ inl live ↦ inl live | inr w ↦ inr (roomy_waits n i w) ],
  )

pub maybe_roomy : {T E : Type 0} (r : Result T E) (q : Queue) (l m : Lines) (held : HeldBy) (count : ℕ) → OnOk r (m ≡ record l { table = record l.table { spare = max l.table.spare count } }) → OnErr r (m ≡ l) → AreBacked q l held → AreBacked q m held
maybe_roomy (Ok x) q l m held count ok err are =
    let more : ℕ = max l.table.spare count in
    backed q (roomy q l more) m held ok (roomy_both q l more are.linked are.covers) (subst (λ (k : Lines). Stand k held) (sym ok) are.holders)
maybe_roomy (Err e) q l m held count ok err are = subst (λ (k : Lines). AreBacked q k held) (sym err) are

-- ---- lines but for their places

module _ (l m : Lines) (alone : IsPlacesAlone l m) where
  pub stand_alone : (held : HeldBy) → Stand l held → Stand m held
  stand_alone held stand = subst (λ (k : Lines). Stand k held) (sym alone) stand

  pub at_alone : (held : HeldBy) (q : Holder) → at m held q ≡ at l held q
  at_alone held q = ap (λ (k : Lines). at k held q) alone

  pub blocks_alone : KeepsBlocks l.table.nodes m.table.nodes
  blocks_alone n = ap (λ (k : Lines). own k.table.nodes n) alone

  pub spare_alone : m.table.spare ≡ l.table.spare
  spare_alone = ap (λ (k : Lines). k.table.spare) alone

  pub made_alone : m.made ≡ l.made
  made_alone = ap (λ (k : Lines). k.made) alone

-- as much room as before
pub same_room : (h k : Holding) → k.lines.table.spare ≡ h.lines.table.spare → k.lines.made ≡ h.lines.made → (count : ℕ) → HasNodes h count → HasNodes k count
same_room h k spare made count room = record {
  spare = subst (λ (n : ℕ). count ≤ n) (sym spare) room.spare;
  few = subst (λ (n : ℕ). n + count ≤ 2 ^ 62) (sym made) room.few;
}

-- ---- blocks that stay

-- a node is closed, and then places change
pub closed_blocks : ClosingKeepsBlocks → (l m : Lines) (n : ℕ) (held : Bool) → IsPlacesAlone (with_nodes l (changed l.table.nodes n (closed_node held))) m → KeepsBlocks l.table.nodes m.table.nodes
closed_blocks law l m n held alone k = blocks_alone (with_nodes l (changed l.table.nodes n (closed_node held))) m alone k ∙ law l.table.nodes n held k

pub shut_blocks : ClosingKeepsBlocks → (l m : Lines) (n : ℕ) (held : Bool) → m ≡ with_nodes l (changed l.table.nodes n (closed_node held)) → KeepsBlocks l.table.nodes m.table.nodes
shut_blocks law l m n held is k = ap (λ (x : Lines). own x.table.nodes k) is ∙ law l.table.nodes n held k

pub made_blocks : MakingKeepsBlocks → (l m : Lines) (up : Option ℕ) → AreLines l.table.nodes l.made → m ≡ with_new l up → KeepsBlocks l.table.nodes m.table.nodes
made_blocks law l m up are is k = ap (λ (x : Lines). own x.table.nodes k) is ∙ law l.table.nodes l.made up are k

-- a node is made of one that is closed
pub kid_blocks : MakingKeepsBlocks → ClosingKeepsBlocks → (l m : Lines) (n : ℕ) (held : Bool) → AreLines l.table.nodes l.made
    → m ≡ with_nodes (with_new l (Some n)) (changed (with_new l (Some n)).table.nodes n (closed_node held)) → KeepsBlocks l.table.nodes m.table.nodes
kid_blocks making closing l m n held are is k = shut_blocks closing (with_new l (Some n)) m n held is k ∙ making l.table.nodes l.made (Some n) are k

pub maybe_blocks : {T E : Type 0} (r : Result T E) → RoomKeepsBlocks → (l m : Lines) (n : ℕ) → OnOk r (m ≡ with_nodes l (changed l.table.nodes n ready_node)) → OnErr r (m ≡ l) → KeepsBlocks l.table.nodes m.table.nodes
maybe_blocks (Ok x) law l m n ok err k = ap (λ (x : Lines). own x.table.nodes k) ok ∙ law l.table.nodes n k
maybe_blocks (Err e) law l m n ok err k = ap (λ (x : Lines). own x.table.nodes k) err

pub blocks_both : (f g h : NodeMap) → KeepsBlocks f g → KeepsBlocks g h → KeepsBlocks f h
blocks_both f g h first second n = second n ∙ first n
