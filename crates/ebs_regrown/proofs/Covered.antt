-- Where all nodes are held each block is found, and nothing waits.
use Rattle.std.proofs.Common.{◌≡◌, ℕ, ◌⊎◌, inl, true, List, Option, Some, None, IsSome, refl, sym, ap, subst, ◌∙◌}
use Rattle.std.specs.Ordering.{nat_cmp}
use Rattle.std.specs.FinMap as map
use Rattle.std.specs.FinMap.{get-empty}
use Rattle.ebs_checkpoints.specs.declared.nodes.NodeRow.{NodeRow}
use Rattle.ebs_collect.specs.Backlogs.{Covers, IsLinked, IsWaiting, Queue}
use Rattle.ebs_collect.specs.Laws.{NothingIsCovered}
use Rattle.ebs_collect.specs.Stack.{IsStack, waiting_in}
use Rattle.ebs_lineage.specs.declared.node.Node.{Node}
use Rattle.ebs_lineage.specs.declared.place.Place.{Place}
use Rattle.ebs_lineage.specs.Lines.{Lines, AreLines, IsHeld, own_of}
use Rattle.ebs_lineage.specs.Live.{IsLive}
use Rattle.ebs_lineage.proofs.Liveness.{owner-own}
use Rattle.ebs_world.specs.declared.area.Area.TheVariants.{Blocks}
use Rattle.ebs_regrown.specs.Regrown.{Numbers, IsRegrown}

not_there : {o : Option Place} (p : Place) → o ≡ None → o ≡ Some p → ⊥
not_there p a b = let no : None ≡ Some p = sym a ∙ b in cc

-- nothing waits
pub none_waits : NothingIsCovered → (q : Queue) (l : Lines) → q ≡ record { first = None; waiting = 0 } → l.places ≡ map.empty → IsLinked q l
none_waits nothing q l queue places =
    let none = (nothing 0 0 Blocks).0 in
    subst (λ r. IsLinked r l) (sym queue) (record {
      stack = subst (λ p. IsStack p None) (sym places) none.stack;
      each = λ n p e. absurd (not_there p (ap (λ m. map.get m n) places ∙ get-empty nat_cmp n) e);
      count = none.count ∙ ap waiting_in (sym places);
    })

module _ (rows : List NodeRow) (numbers : Numbers) (l : Lines) (g : IsRegrown rows (λ q. true) numbers l) (are : AreLines l.table.nodes l.made) where
  held_by_row : (n : ℕ) (x : Node) → map.get l.table.nodes n ≡ Some x → IsHeld l.table.nodes n
  held_by_row n x is =
      let of = g.listed n (subst IsSome (sym is) refl) in
      let grown = g.each of.number of.row of.found in
      let one : Some grown.made ≡ Some n = sym grown.numbered ∙ of.numbered in
      let same : grown.made ≡ n = cc in
      (grown.node, ap (map.get l.table.nodes) (sym same) ∙ grown.is, grown.kept)

  -- each block is found by the node that keeps it
  pub all_found : Covers l
  all_found n index block has = by (map.get l.table.nodes n) refl
    where
      by : (o : Option Node) → map.get l.table.nodes n ≡ o → IsLive l.table.nodes n index ⊎ IsWaiting l n index
      by None e = absurd (let none : None ≡ Some block = sym (ap (λ o. map.get (own_of o) index) e ∙ get-empty nat_cmp index) ∙ has in cc)
      by (Some x) e = inl (n, held_by_row n x e, owner-own l.table.nodes l.made are index n x block e (ap (λ o. map.get (own_of o) index) (sym e) ∙ has))
