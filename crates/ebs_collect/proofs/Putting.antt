-- A block that is put, and the slot of the one that it replaces.
use Rattle.std.proofs.Common.{◌≡◌, inl, inr, ℕ, Option, Some, None, IsSome, is_some, refl, sym, ap, subst, ◌∙◌}
use Rattle.std.proofs.lemmas.Bool.{false≢true}
use Rattle.std.specs.FinMap as map
use Rattle.ebs_model.specs.declared.array.Block.{Block}
use Rattle.ebs_lineage.specs.Table.{NodeMap, changed, put_node}
use Rattle.ebs_lineage.specs.Lines.{own}
use Rattle.ebs_lineage.specs.Entries.{AreEntries, less_old, one_less, one_more}
use Rattle.ebs_lineage.specs.Reached.{KeptHasEntries, PuttingLeavesEntries}
use Rattle.ebs_lineage.proofs.Changes.{same_or}
use Rattle.ebs_lineage.proofs.Counting.{one-less, same-less, one-more, same-more}
use Rattle.ebs_slots.specs.inner.Slots.{SlotTable, count_of, released}
use Rattle.ebs_collect.specs.Slices.{IsCounted}
use Rattle.ebs_collect.specs.Laws.{without_old}
use Rattle.ebs_collect.proofs.Releases.{AreKeyed, counted-keyed, keyed-counted, given-counts, given-keyed, released-counts, released-keyed}

-- one more of a stamp and one less of another one
either_way : (new gone stamp count : ℕ) → (gone ≡ new → ⊥) → one_less gone stamp (one_more new stamp count) ≡ one_more new stamp (one_less gone stamp count)
either_way new gone stamp count apart = elim (same_or stamp new) [
  | inl s ↦
      let off : stamp ≡ gone → ⊥ = λ t. apart (sym t ∙ s) in
      same-less gone stamp (one_more new stamp count) off ∙ ap (one_more new stamp) (sym (same-less gone stamp count off))
  | inr off ↦ ap (one_less gone stamp) (same-more new stamp count off) ∙ sym (same-more new stamp (one_less gone stamp count) off)
]

module _ (kept : KeptHasEntries) (law : PuttingLeavesEntries) (s t : SlotTable) (nodes : NodeMap) (n i slot : ℕ) (b : Block) (counted : IsCounted s nodes) (there : IsSome (map.get nodes n)) (new : map.get s.keys b.stamp ≡ None)
    (keys : t.keys ≡ map.insert s.keys b.stamp slot) (counts : t.counts ≡ map.insert s.counts b.stamp 1) where
  abbrev more : NodeMap
  more = changed nodes n (put_node i b)

  keyed : AreKeyed s
  keyed = counted-keyed kept s nodes counted

  given : (stamp : ℕ) → count_of t stamp ≡ one_more b.stamp stamp (count_of s stamp)
  given = given-counts s t b.stamp slot keyed new keys counts

  left : (stamp : ℕ) → AreEntries more stamp (one_more b.stamp stamp (less_old (map.get (own nodes n) i) stamp (count_of s stamp)))
  left stamp = law nodes n i b there stamp (count_of s stamp) (counted.counts stamp)

  apart : (old : Block) → map.get (own nodes n) i ≡ Some old → old.stamp ≡ b.stamp → ⊥
  apart old e h =
      let has = (counted.slotted old.stamp).1 (record { node = n; has = record { index = i; block = old; found = e; same = refl } }) in
      false≢true (sym (ap is_some new) ∙ ap (λ (k : ℕ). is_some (map.get s.keys k)) (sym h) ∙ has)

  replaced : (old : Block) → map.get (own nodes n) i ≡ Some old → (stamp : ℕ) → one_more b.stamp stamp (one_less old.stamp stamp (count_of s stamp)) ≡ count_of (released t old.stamp) stamp
  replaced old e stamp =
      sym (either_way b.stamp old.stamp stamp (count_of s stamp) (apart old e)) ∙ ap (one_less old.stamp stamp) (sym (given stamp)) ∙ sym (released-counts t old.stamp stamp)

  put_by : (o : Option Block) → map.get (own nodes n) i ≡ o → ((stamp : ℕ) → AreEntries more stamp (one_more b.stamp stamp (less_old o stamp (count_of s stamp)))) → IsCounted (without_old t o) more
  put_by None e are = keyed-counted kept t more (given-keyed s t b.stamp slot keyed new keys counts) (λ stamp. subst (λ (c : ℕ). AreEntries more stamp c) (sym (given stamp)) (are stamp))
  put_by (Some old) e are =
      keyed-counted kept (released t old.stamp) more (released-keyed t old.stamp (given-keyed s t b.stamp slot keyed new keys counts))
      (λ stamp. subst (λ (c : ℕ). AreEntries more stamp c) (replaced old e stamp) (are stamp))

  pub put-counted : IsCounted (without_old t (map.get (own nodes n) i)) more
  put-counted = put_by (map.get (own nodes n) i) refl left
