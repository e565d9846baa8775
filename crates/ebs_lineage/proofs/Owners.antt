-- What nodes find, through changes of one node.
use Rattle.std.proofs.Common.{◌≡◌, inl, inr, ℕ, zero, suc, Bool, cond, Option, Some, None, is_some, refl, sym, ap, ◌∙◌}
use Rattle.std.specs.Option.{option_map}
use Rattle.std.specs.FinMap as map
use Rattle.ebs_lineage.specs.declared.node.Node.{Node}
use Rattle.ebs_lineage.specs.Table.{NodeMap, changed, closed_node, ready_node}
use Rattle.ebs_lineage.specs.Lines.{own, own_of}
use Rattle.ebs_lineage.specs.Live.{owner, owner_above, owner_by, owner_in}
use Rattle.ebs_lineage.proofs.Changes.{same_or, changed-here, changed-other}
use Rattle.ebs_lineage.proofs.Waiting.{owner-same}

-- ---- a change that leaves a node's own blocks and its parent

module _ (nodes : NodeMap) (n : ℕ) (f : Node → Node) (finds : (o : Option Node) (m index : ℕ) (u : ℕ → Option ℕ) → owner_in (option_map f o) m index u ≡ owner_in o m index u) (keeps : (o : Option Node) → own_of (option_map f o) ≡ own_of o) where
  row_same : (index m : ℕ) (u : ℕ → Option ℕ) → owner_in (map.get (changed nodes n f) m) m index u ≡ owner_in (map.get nodes m) m index u
  row_same index m u = elim (same_or m n) [
    | inl e ↦ ap (λ k. owner_in (map.get (changed nodes n f) k) m index u) e ∙ ap (λ o. owner_in o m index u) (changed-here nodes n f) ∙ finds (map.get nodes n) m index u ∙ ap (λ k. owner_in (map.get nodes k) m index u) (sym e)
    | inr h ↦ ap (λ o. owner_in o m index u) (changed-other nodes n f m h)
  ]

  pub finds_same : (index m : ℕ) → owner (changed nodes n f) index m ≡ owner nodes index m
  finds_same index m = owner-same nodes (changed nodes n f) index (row_same index) m

  pub own_same : (k : ℕ) → own (changed nodes n f) k ≡ own nodes k
  own_same k = elim (same_or k n) [
    | inl e ↦ ap (own (changed nodes n f)) e ∙ ap own_of (changed-here nodes n f) ∙ keeps (map.get nodes n) ∙ ap (own nodes) (sym e)
    | inr h ↦ ap own_of (changed-other nodes n f k h)
  ]

pub closed_finds : (b : Bool) (o : Option Node) (m index : ℕ) (u : ℕ → Option ℕ) → owner_in (option_map (closed_node b) o) m index u ≡ owner_in o m index u
closed_finds b None m index u = refl
closed_finds b (Some x) m index u = refl

pub closed_own : (b : Bool) (o : Option Node) → own_of (option_map (closed_node b) o) ≡ own_of o
closed_own b None = refl
closed_own b (Some x) = refl

pub ready_finds : (o : Option Node) (m index : ℕ) (u : ℕ → Option ℕ) → owner_in (option_map ready_node o) m index u ≡ owner_in o m index u
ready_finds None m index u = refl
ready_finds (Some x) m index u = refl

pub ready_own : (o : Option Node) → own_of (option_map ready_node o) ≡ own_of o
ready_own None = refl
ready_own (Some x) = refl

-- ---- what is found goes by the nodes above

module _ (f g : NodeMap) (n index : ℕ) (others : (m : ℕ) → (m ≡ n → ⊥) → map.get g m ≡ map.get f m) (childless : (m : ℕ) (x : Node) → map.get f m ≡ Some x → x.parent ≡ Some n → ⊥) where
  above_kept : (u v : ℕ → Option ℕ) → ((p : ℕ) → (p ≡ n → ⊥) → u p ≡ v p) → (m : ℕ) (x : Node) → map.get f m ≡ Some x → (up : Option ℕ) → x.parent ≡ up → owner_above up u ≡ owner_above up v
  above_kept u v same m x is None e = refl
  above_kept u v same m x is (Some p) e = same p (λ h. childless m x is (e ∙ ap (λ k. Some k) h))

  in_kept : (u v : ℕ → Option ℕ) → ((p : ℕ) → (p ≡ n → ⊥) → u p ≡ v p) → (m : ℕ) (o : Option Node) → map.get f m ≡ o → owner_in o m index u ≡ owner_in o m index v
  in_kept u v same m None is = refl
  in_kept u v same m (Some x) is = ap (cond (is_some (map.get x.own.blocks index)) (Some m)) (above_kept u v same m x is x.parent refl)

  by_kept : (k m : ℕ) → (m ≡ n → ⊥) → owner_by g index k m ≡ owner_by f index k m
  by_kept zero m h = refl
  by_kept (suc k) m h = ap (λ o. owner_in o m index (owner_by g index k)) (others m h) ∙ in_kept (owner_by g index k) (owner_by f index k) (by_kept k) m (map.get f m) refl

  pub owner_kept : (m : ℕ) → (m ≡ n → ⊥) → owner g index m ≡ owner f index m
  unfolding owner
  owner_kept m h = by_kept (suc m) m h

  pub parents_find : (m : ℕ) (x : Node) → map.get f m ≡ Some x → owner_above x.parent (owner g index) ≡ owner_above x.parent (owner f index)
  parents_find m x is = above_kept (owner g index) (owner f index) owner_kept m x is x.parent refl
