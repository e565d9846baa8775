-- A row's node, made, filled and closed.
use Rattle.std.proofs.Common.{◌≡◌, ℕ, List, Option, Some, refl, sym, ap, subst, ◌∙◌}
use Rattle.std.specs.FinMap as map
use Rattle.ebs_checkpoints.specs.declared.nodes.EntryRow.{EntryRow}
use Rattle.ebs_checkpoints.specs.declared.nodes.NodeRow.{NodeRow}
use Rattle.ebs_lineage.specs.Lines.{Lines, IsOpen, KeepsOthers, array, new_node, of_parent, with_new}
use Rattle.ebs_lineage.proofs.Changes.{insert-here, insert-other}
use Rattle.ebs_node_rules.specs.Arrays.{with_entries}
use Rattle.ebs_regrown.specs.Regrown.{Numbers, IsAdded, IsClosedBy, IsFilled, up}

module _ (before begun : Lines) (p : Option ℕ) (is : begun ≡ with_new before p) where
  new_there : map.get begun.table.nodes before.made ≡ Some (new_node p)
  new_there = ap (λ (l : Lines). map.get l.table.nodes before.made) is ∙ insert-here before.table.nodes before.made (new_node p)

  beside_new : (m : ℕ) → (m ≡ before.made → ⊥) → map.get begun.table.nodes m ≡ map.get before.table.nodes m
  beside_new m h = ap (λ (l : Lines). map.get l.table.nodes m) is ∙ insert-other before.table.nodes before.made (new_node p) m h

  module _ (n : ℕ) (number : n ≡ before.made) where
    pub begun_open : IsOpen begun.table.nodes n
    begun_open = (new_node p, ap (map.get begun.table.nodes) number ∙ new_there, refl)

    pub filled_open : (entries : List EntryRow) (full : Lines) → IsFilled begun n entries full → IsOpen full.table.nodes n
    filled_open entries full f = let y = f.node (new_node p) (ap (map.get begun.table.nodes) number ∙ new_there) in (y.0, y.1, y.5)

module _ (old : Numbers) (before begun full after : Lines) (row : NodeRow) (more : Numbers) (is : begun ≡ with_new before (up old row.parent))
    (begins : array begun.table.nodes before.made ≡ of_parent (up old row.parent) (array before.table.nodes)) (others : KeepsOthers before.table.nodes begun.table.nodes before.made)
    (f : IsFilled begun before.made row.entries full) (closed : IsClosedBy full before.made row.writable after) (numbered : more ≡ map.insert old row.number before.made) where
  added_at : IsAdded old before row more after
  added_at =
      let y = f.node (new_node (up old row.parent)) (new_there before begun (up old row.parent) is) in
      let z = closed.node y.0 y.1 in
      record {
        numbers = numbered;
        made = closed.beside.made ∙ f.beside.made ∙ ap (λ (l : Lines). l.made) is;
        places = closed.beside.places ∙ f.beside.places ∙ ap (λ (l : Lines). l.places) is;
        others = λ m h. closed.beside.others m h ∙ f.beside.others m h ∙ beside_new before begun (up old row.parent) is m h;
        arrays = λ m h. closed.beside.arrays m h ∙ f.beside.arrays m h ∙ others m h;
        array = closed.array ∙ f.array ∙ ap (λ below. with_entries below row.entries) begins;
        node = (z.0, z.1, z.2 ∙ y.2, z.3 ∙ y.3, z.4, z.5);
      }

pub added : (old : Numbers) (before begun full after : Lines) (row : NodeRow) (more : Numbers) (n : ℕ) (entries : List EntryRow) (kept : Numbers) → n ≡ before.made → begun ≡ with_new before (up old row.parent)
    → array begun.table.nodes n ≡ of_parent (up old row.parent) (array before.table.nodes) → KeepsOthers before.table.nodes begun.table.nodes before.made
    → entries ≡ row.entries → IsFilled begun n entries full → IsClosedBy full n row.writable after → kept ≡ old → more ≡ map.insert kept row.number n → IsAdded old before row more after
added old before begun full after row more n entries kept number is begins others all f closed same numbered =
    added_at old before begun full after row more is (ap (array begun.table.nodes) (sym number) ∙ begins) others
    (subst (λ es. IsFilled begun before.made es full) all (subst (λ k. IsFilled begun k entries full) number f))
    (subst (λ k. IsClosedBy full k row.writable after) number closed)
    (numbered ∙ (λ i. map.insert (same i) row.number (number i)))
