-- A block that is put, with a slot of its own.
use Rattle.std.proofs.Common.{◌≡◌, ℕ, ◌<◌, ◌^◌, None, Some, Option, refl, sym, ap, subst, ◌∙◌, arith}
use Rattle.std.proofs.lemmas.Bool.{false≢true}
use Rattle.std.specs.Prelude.{IsSome}
use Rattle.std.specs.FinMap.{get}
use Rattle.ebs_lineage.specs.Table.{NodeMap}
use Rattle.ebs_world.specs.declared.area.Area.{Area}
use Rattle.ebs_world.specs.declared.area.Area.TheVariants as area
use Rattle.ebs_slots.specs.inner.Slots.{SlotTable, IsSlot, placed, released}
use Rattle.ebs_slots.proofs.Maps.{gets_there}
use Rattle.ebs_collect.specs.Laws.{SameBlocksStayCounted}
use Rattle.ebs_collect.specs.Slices.{IsCounted}
use Rattle.ebs_holds.specs.Counted.{KeepsBlocks, PutsCounted, without_stamp}

-- one that had a slot has it still
pub still_there : (s : SlotTable) (stamp slot key : ℕ) → get s.keys stamp ≡ None → IsSome (get s.keys key) → IsSome (get (placed s stamp slot).keys key)
still_there s stamp slot key new there = subst IsSome (sym (gets_there s.keys stamp slot key (λ same. false≢true (subst IsSome (ap (get s.keys) same ∙ new) there)))) there

-- the slots count the blocks again, once the block that was replaced is given up
pub put_counted : (old ready new : NodeMap) (s : SlotTable) (stamp slot given : ℕ) (replaced here : Option ℕ) → SameBlocksStayCounted → KeepsBlocks old ready → PutsCounted ready new given here → given ≡ stamp → here ≡ replaced
    → IsCounted s old → get s.keys stamp ≡ None → IsCounted (without_stamp (placed s stamp slot) replaced) new
put_counted old ready new s stamp slot given replaced here law keeps puts same is counted none =
    let counts = subst (λ (p : ℕ × Option ℕ). PutsCounted ready new p.0 p.1) (λ i. (same i, is i)) puts in
    counts s (placed s stamp slot) slot (law old ready s keeps counted) none (record { keys = refl; counts = refl })

pub without_old : (nodes : NodeMap) (s u v : SlotTable) (stamp slot key : ℕ) (replaced : Option ℕ) → IsCounted (without_stamp (placed s stamp slot) replaced) nodes → replaced ≡ Some key → u ≡ placed s stamp slot → v ≡ released u key → IsCounted v nodes
without_old nodes s u v stamp slot key replaced counted is here freed =
    subst (λ (t : SlotTable). IsCounted t nodes) (sym (freed ∙ ap (λ (t : SlotTable). released t key) here))
    (subst (λ (o : Option ℕ). IsCounted (without_stamp (placed s stamp slot) o) nodes) is counted)

pub without_none : (nodes : NodeMap) (s u : SlotTable) (stamp slot : ℕ) (replaced : Option ℕ) → IsCounted (without_stamp (placed s stamp slot) replaced) nodes → replaced ≡ None → u ≡ placed s stamp slot → IsCounted u nodes
without_none nodes s u stamp slot replaced counted is here =
    subst (λ (t : SlotTable). IsCounted t nodes) (sym here) (subst (λ (o : Option ℕ). IsCounted (without_stamp (placed s stamp slot) o) nodes) is counted)

-- a slot of a small number ends below the areas' end
pub small_slot : (a : Area) (slot : ℕ) → slot < 2 ^ 42 → IsSlot a slot
small_slot area.Journal0 slot small = omega (arith, small)
small_slot area.Journal1 slot small = omega (arith, small)
small_slot area.Blocks slot small = omega (arith, small)
small_slot area.Archive slot small = omega (arith, small)
