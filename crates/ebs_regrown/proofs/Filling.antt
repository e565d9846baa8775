-- Puts of entries, and the node that is frozen behind them.
use Rattle.std.proofs.Common.{◌≡◌, ℕ, ◌+◌, ◌<◌, true, false, List, [], ◌∷◌, length, get_or, drop, Some, refl, sym, ap, subst, ◌∙◌}
use Rattle.std.specs.Option.{option_map}
use Rattle.std.specs.FinMap as map
use Rattle.ebs_checkpoints.specs.declared.nodes.EntryRow.{EntryRow}
use Rattle.ebs_lineage.specs.declared.node.Node.{Node}
use Rattle.ebs_lineage.specs.Table.{NodeMap, changed, closed_node, put_node}
use Rattle.ebs_lineage.specs.Lines.{Lines, AreLines, IsOpen, KeepsOthers, array, with_nodes}
use Rattle.ebs_lineage.proofs.Changes.{changed-here, changed-other}
use Rattle.ebs_node_rules.specs.Arrays.{with_entries}
use Rattle.ebs_node_rules.proofs.Marks.{turn}
use Rattle.ebs_regrown.specs.Regrown.{IsBeside, IsFilled, IsClosedBy}

-- what is still to be put gives what all entries give
pub record IsFilling (old : Lines) (n : ℕ) (all rest : List EntryRow) (new : Lines) : Type 0 where
  pub beside : IsBeside old n new
  pub array : with_entries (array new.table.nodes n) rest ≡ with_entries (array old.table.nodes n) all
  pub node : (x : Node) → map.get old.table.nodes n ≡ Some x → (y : Node) × (map.get new.table.nodes n ≡ Some y)
      × (with_entries y.own.blocks rest ≡ with_entries x.own.blocks all) × (y.parent ≡ x.parent) × (y.is_held ≡ x.is_held) × (y.is_open ≡ x.is_open)

pub unfilled : (old : Lines) (n : ℕ) (all : List EntryRow) → IsFilling old n all all old
unfilled old n all = record {
  beside = record { made = refl; places = refl; others = λ m h. refl; arrays = λ m h. refl };
  array = refl;
  node = λ x is. (x, is, refl, refl, refl, refl);
}

pub filled : (old : Lines) (n : ℕ) (all : List EntryRow) (new : Lines) → IsFilling old n all [] new → IsFilled old n all new
filled old n all new f = record { beside = f.beside; array = f.array; node = f.node }

-- an open node stays so
pub still_open : (old : Lines) (n : ℕ) (all rest : List EntryRow) (new : Lines) → IsOpen old.table.nodes n → IsFilling old n all rest new → IsOpen new.table.nodes n
still_open old n all rest new (x, is, written) f = let y = f.node x is in (y.0, y.1, y.5 ∙ written)

module _ (old : Lines) (n : ℕ) (all rest : List EntryRow) (e : EntryRow) (now new : Lines) (is : new ≡ with_nodes now (changed now.table.nodes n (put_node e.index e.block)))
    (put : array new.table.nodes n ≡ map.insert (array now.table.nodes n) e.index e.block) (keeps : KeepsOthers now.table.nodes new.table.nodes n) where
  nodes_are : new.table.nodes ≡ changed now.table.nodes n (put_node e.index e.block)
  nodes_are = ap (λ (l : Lines). l.table.nodes) is

  -- one entry more
  one_more : IsFilling old n all (e ∷ rest) now → IsFilling old n all rest new
  one_more f = record {
    beside = record {
      made = ap (λ (l : Lines). l.made) is ∙ f.beside.made;
      places = ap (λ (l : Lines). l.places) is ∙ f.beside.places;
      others = λ m h. ap (λ (nodes : NodeMap). map.get nodes m) nodes_are ∙ changed-other now.table.nodes n (put_node e.index e.block) m h ∙ f.beside.others m h;
      arrays = λ m h. keeps m h ∙ f.beside.arrays m h;
    };
    array = ap (λ a. with_entries a rest) put ∙ f.array;
    node = λ x there.
        let y = f.node x there in
        (put_node e.index e.block y.0, ap (λ (nodes : NodeMap). map.get nodes n) nodes_are ∙ changed-here now.table.nodes n (put_node e.index e.block) ∙ ap (option_map (put_node e.index e.block)) y.1, y.2, y.3, y.4, y.5);
  }

pub put_more : (old : Lines) (n : ℕ) (all : List EntryRow) (i : ℕ) (d : EntryRow) (now new : Lines) → i < length all
    → new ≡ with_nodes now (changed now.table.nodes n (put_node (get_or all i d).index (get_or all i d).block))
    → array new.table.nodes n ≡ map.insert (array now.table.nodes n) (get_or all i d).index (get_or all i d).block
    → KeepsOthers now.table.nodes new.table.nodes n → IsFilling old n all (drop i all) now → IsFilling old n all (drop (i + 1) all) new
put_more old n all i d now new h is put keeps f =
    one_more old n all (drop (i + 1) all) (get_or all i d) now new is put keeps (subst (λ rest. IsFilling old n all rest now) (sym (turn (λ l. l) all i d h)) f)

module _ (old : Lines) (n : ℕ) (new : Lines) (is : new ≡ with_nodes old (changed old.table.nodes n (closed_node true))) (same : (m : ℕ) → array new.table.nodes m ≡ array old.table.nodes m) where
  nodes_closed : new.table.nodes ≡ changed old.table.nodes n (closed_node true)
  nodes_closed = ap (λ (l : Lines). l.table.nodes) is

  pub sealed : IsClosedBy old n false new
  sealed = record {
    beside = record {
      made = ap (λ (l : Lines). l.made) is;
      places = ap (λ (l : Lines). l.places) is;
      others = λ m h. ap (λ (nodes : NodeMap). map.get nodes m) nodes_closed ∙ changed-other old.table.nodes n (closed_node true) m h;
      arrays = λ m h. same m;
    };
    array = same n;
    node = λ x there.
        (closed_node true x, ap (λ (nodes : NodeMap). map.get nodes n) nodes_closed ∙ changed-here old.table.nodes n (closed_node true) ∙ ap (option_map (closed_node true)) there, refl, refl, refl, refl);
  }

-- an open node is held
pub still_written : (old : Lines) (n : ℕ) → IsOpen old.table.nodes n → AreLines old.table.nodes old.made → IsClosedBy old n true old
still_written old n (y, here, written) are = record {
  beside = record { made = refl; places = refl; others = λ m h. refl; arrays = λ m h. refl };
  array = refl;
  node = λ x there.
      let same : Some y ≡ Some x = sym here ∙ there in
      let one : y ≡ x = cc in
      let open_too : x.is_open ≡ true = ap (λ (z : Node). z.is_open) (sym one) ∙ written in
      (x, there, refl, refl, are.open_held n x there open_too, open_too);
}
