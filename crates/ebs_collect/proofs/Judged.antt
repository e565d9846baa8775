-- A block that was looked at.
use Rattle.std.proofs.Common.{◌≡◌, ◌⊎◌, inl, inr, ℕ, Option, Some, None, IsSome, refl, sym, ap, subst, ◌∙◌}
use Rattle.std.specs.Option.{option_map}
use Rattle.std.specs.FinMap as map
use Rattle.ebs_model.specs.declared.array.Block.{Block}
use Rattle.ebs_lineage.specs.declared.node.Node.{Node}
use Rattle.ebs_lineage.specs.Table.{NodeMap, changed, without_block}
use Rattle.ebs_lineage.specs.Lines.{Lines, IsHeld, array, own, own_of, with_nodes}
use Rattle.ebs_lineage.specs.Live.{IsLive, owner}
use Rattle.ebs_lineage.proofs.Changes.{same_or, changed-here, changed-other}
use Rattle.ebs_lineage.specs.Entries.{AreEntries}
use Rattle.ebs_lineage.specs.Reached.{KeptHasEntries, TakingLeavesEntries}
use Rattle.ebs_slots.specs.inner.Slots.{SlotTable, count_of, released}
use Rattle.ebs_collect.specs.Slices.{bare, IsCounted, Leaves}
use Rattle.ebs_collect.specs.Steps.{IsJudged}
use Rattle.ebs_collect.proofs.Maps.{none_some, some_of, removed-here, removed-other}
use Rattle.ebs_collect.proofs.Adding.{node-there}
use Rattle.ebs_collect.proofs.Releases.{counted-keyed, keyed-counted, released-counts, released-keyed}

bare_same : (i : ℕ) (o : Option Node) → option_map bare (option_map (without_block i) o) ≡ option_map bare o
bare_same i None = refl
bare_same i (Some x) = refl

-- ---- it was taken out

module _ (l : Lines) (n i : ℕ) (b : Block) (has : map.get (own l.table.nodes n) i ≡ Some b) where
  abbrev rest : NodeMap
  rest = changed l.table.nodes n (without_block i)

  the_node : (x : Node) × (map.get l.table.nodes n ≡ Some x)
  the_node = some_of (map.get l.table.nodes n) (node-there l.table.nodes n i b has)

  own_here : own rest n ≡ map.remove (own l.table.nodes n) i
  own_here = ap own_of (changed-here l.table.nodes n (without_block i) ∙ ap (option_map (without_block i)) the_node.1) ∙ ap (λ (o : Option Node). map.remove (own_of o) i) (sym the_node.1)

  own_other : (k : ℕ) → (k ≡ n → ⊥) → own rest k ≡ own l.table.nodes k
  own_other k off = ap own_of (changed-other l.table.nodes n (without_block i) k off)

  gone : map.get (own rest n) i ≡ None
  gone = ap (λ o. map.get o i) own_here ∙ removed-here (own l.table.nodes n) i

  here_was : (k j : ℕ) (c : Block) → k ≡ n → map.get (own rest k) j ≡ Some c → map.get (own l.table.nodes k) j ≡ Some c
  here_was k j c s e = elim (same_or j i) [
    | inl t ↦ none_some c (sym gone ∙ ap (map.get (own rest n)) (sym t) ∙ ap (λ q. map.get (own rest q) j) (sym s) ∙ e)
    | inr off ↦ ap (λ q. map.get (own l.table.nodes q) j) s ∙ sym (removed-other (own l.table.nodes n) i j off) ∙ ap (λ o. map.get o j) (sym own_here) ∙ ap (λ q. map.get (own rest q) j) (sym s) ∙ e
  ]

  was : (k j : ℕ) (c : Block) → map.get (own rest k) j ≡ Some c → map.get (own l.table.nodes k) j ≡ Some c
  was k j c e = elim (same_or k n) [
    | inl s ↦ here_was k j c s e
    | inr off ↦ ap (λ o. map.get o j) (sym (own_other k off)) ∙ e
  ]

  stays : (k j : ℕ) (c : Block) → map.get (own l.table.nodes k) j ≡ Some c → ((k ≡ n) × (j ≡ i) → ⊥) → map.get (own rest k) j ≡ Some c
  stays k j c e apart = elim (same_or k n) [
    | inl s ↦ ap (λ q. map.get (own rest q) j) s ∙ ap (λ o. map.get o j) own_here ∙ removed-other (own l.table.nodes n) i j (λ t. apart (s, t)) ∙ ap (λ q. map.get (own l.table.nodes q) j) (sym s) ∙ e
    | inr off ↦ ap (λ o. map.get o j) (own_other k off) ∙ e
  ]

  bare_rest : (k : ℕ) → option_map bare (map.get rest k) ≡ option_map bare (map.get l.table.nodes k)
  bare_rest k = elim (same_or k n) [
    | inl s ↦ ap (λ q. option_map bare (map.get rest q)) s ∙ ap (option_map bare) (changed-here l.table.nodes n (without_block i)) ∙ bare_same i (map.get l.table.nodes n) ∙ ap (λ q. option_map bare (map.get l.table.nodes q)) (sym s)
    | inr off ↦ ap (option_map bare) (changed-other l.table.nodes n (without_block i) k off)
  ]

  module _ (arrays : (h : ℕ) → IsHeld l.table.nodes h → array rest h ≡ array l.table.nodes h) (owners : (h j : ℕ) → IsHeld l.table.nodes h → owner rest j h ≡ owner l.table.nodes j h) where
    taken_judged : IsJudged l (with_nodes l rest) n i
    taken_judged = record {
      leaves = record { arrays = arrays; nodes = bare_rest; blocks = was; spare = refl; made = refl };
      places = refl;
      owners = owners;
      others = stays;
      lives = λ c e. none_some c (sym gone ∙ e);
    }

pub judged-taken : (l m : Lines) (n i : ℕ) (b : Block) → map.get (own l.table.nodes n) i ≡ Some b → m ≡ with_nodes l (changed l.table.nodes n (without_block i))
    → ((h : ℕ) → IsHeld l.table.nodes h → array m.table.nodes h ≡ array l.table.nodes h) → ((h j : ℕ) → IsHeld l.table.nodes h → owner m.table.nodes j h ≡ owner l.table.nodes j h) → IsJudged l m n i
judged-taken l m n i b has is arrays owners =
    subst (λ (x : Lines). IsJudged l x n i) (sym is) (taken_judged l n i b has
    (subst (λ (x : Lines). (h : ℕ) → IsHeld l.table.nodes h → array x.table.nodes h ≡ array l.table.nodes h) is arrays)
    (subst (λ (x : Lines). (h j : ℕ) → IsHeld l.table.nodes h → owner x.table.nodes j h ≡ owner l.table.nodes j h) is owners))

-- ---- it stays, or there was none

pub leaves-same : (l : Lines) → Leaves l l
leaves-same l = record { arrays = λ h held. refl; nodes = λ n. refl; blocks = λ n i b e. e; spare = refl; made = refl }

same_judged : (l : Lines) (n i : ℕ) → (map.get (own l.table.nodes n) i ≡ None) ⊎ IsLive l.table.nodes n i → IsJudged l l n i
same_judged l n i stays = record {
  leaves = leaves-same l;
  places = refl;
  owners = λ h j held. refl;
  others = λ k j c e apart. e;
  lives = λ c e. elim stays [
    | inl none ↦ none_some c (sym none ∙ e)
    | inr live ↦ live
  ];
}

pub judged-same : (l m : Lines) (n i : ℕ) → (m ≡ l) × ((map.get (own l.table.nodes n) i ≡ None) ⊎ IsLive l.table.nodes n i) → IsJudged l m n i
judged-same l m n i (is, stays) = subst (λ (x : Lines). IsJudged l x n i) (sym is) (same_judged l n i stays)

-- ---- slots

module _ (l : Lines) (s : SlotTable) (counted : IsCounted s l.table.nodes) (n i : ℕ) (b : Block) (has : map.get (own l.table.nodes n) i ≡ Some b) where
  pub stamp-there : IsSome (map.get s.keys b.stamp)
  stamp-there = (counted.slotted b.stamp).1 (record { node = n; has = record { index = i; block = b; found = has; same = refl } })

  -- one entry less has the stamp of a block that was taken out
  pub counted-taken : KeptHasEntries → TakingLeavesEntries → (m : Lines) (t : SlotTable) → m ≡ with_nodes l (changed l.table.nodes n (without_block i)) → t ≡ released s b.stamp → IsCounted t m.table.nodes
  counted-taken kept law m t is gives =
      subst (λ (x : SlotTable × Lines). IsCounted x.0 x.1.table.nodes) (sym (λ j. (gives j, is j)))
      (keyed-counted kept (released s b.stamp) (rest l n i b has) (released-keyed s b.stamp (counted-keyed kept s l.table.nodes counted))
      (λ stamp. subst (λ (c : ℕ). AreEntries (rest l n i b has) stamp c) (sym (released-counts s b.stamp stamp)) (law l.table.nodes n i b has stamp (count_of s stamp) (counted.counts stamp))))
