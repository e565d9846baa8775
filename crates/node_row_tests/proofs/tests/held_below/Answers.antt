use Rattle.std.proofs.Common.{◌≡◌, ℕ, false, true, inl, inr, is_some, IsSome, refl, sym, ap, subst, ◌∙◌}
use Rattle.std.specs.Ordering.{nat_cmp}
use Rattle.std.specs.FinMap as map
use Rattle.std.specs.FinMap.{get-empty}
use Rattle.ebs_lineage.specs.Table.{NodeMap}
use Rattle.ebs_lineage.specs.Lines.{IsHeld}
use Rattle.ebs_lineage.proofs.Changes.{insert-other, same_or}
use Rattle.ebs_node_rows.specs.Marks.{AreThere, Set}
use Rattle.node_row_tests.proofs.tests.held_below.Goals.{then-is_held+in_ok-insert, else-is_held}
use Rattle.node_row_tests.proofs.tests.held_below.Goals as goal

none_there : (nodes : NodeMap) (set : Set) → set ≡ map.empty → AreThere nodes set
none_there nodes set none q h = let no : false ≡ true = sym (ap (λ (s : Set). map.contains_key s q) none ∙ ap is_some (get-empty nat_cmp q)) ∙ h in absurd (cc)

one_there : (nodes : NodeMap) (old new : Set) (n : ℕ) → new ≡ map.insert old n tt → IsHeld nodes n → AreThere nodes old → AreThere nodes new
one_there nodes old new n is (x, here, held) there q h = elim (same_or q n) [
  | inl same ↦ subst (λ m. IsSome (map.get nodes m)) (sym same) (subst IsSome (sym here) refl)
  | inr other ↦ there q (ap is_some (sym (insert-other old n tt q other)) ∙ ap (λ (s : Set). map.contains_key s q) (sym is) ∙ h)
]

pub loop-number-init : goal.loop-number-init
loop-number-init c = none_there c.args.lineage.now.table.nodes c.new-held.result c.new-held.ensures

pub loop-number-preserved : goal.loop-number-preserved
loop-number-preserved c =
    let nodes = c.args.lineage.now.table.nodes in
    elim c.if-is_held.branch [
      | then-is_held+in_ok-insert w ↦
          subst (AreThere nodes) (sym w.held-is) (one_there nodes c.loop-number.held w.insert.new.self c.loop-number.number w.in_ok-insert.ensures.ok (c.is_held.ensures.held w.if-is_held.true) c.loop-number.invariant)
      | else-is_held w ↦ subst (AreThere nodes) (sym w.held-is) c.loop-number.invariant
    ]
