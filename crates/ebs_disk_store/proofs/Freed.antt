-- Slots that are given up.
use Rattle.std.proofs.Common.{◌≡◌, ℕ, ◌-◌, ◌≤◌, nat_le, true, false, cond, List, Option, None, Some, unwrap_or, refl, sym, ap, subst, ◌∙◌}
use Rattle.std.specs.Prelude.{IfSome, IsSome}
use Rattle.std.specs.Ordering.{nat_cmp}
use Rattle.std.specs.FinMap as fin
use Rattle.ebs_model.specs.declared.keys.SnapKey.{SnapKey}
use Rattle.ebs_model.specs.declared.keys.VolKey.{VolKey}
use Rattle.ebs_model.specs.Arrays.{WholeBlock}
use Rattle.ebs_model.specs.Machine.{Machine, array_of, disk_of}
use Rattle.ebs_lineage.specs.Table.{NodeMap}
use Rattle.ebs_lineage.specs.Entries.{AreEntries}
use Rattle.ebs_lineage.specs.Reached as reached
use Rattle.ebs_slots.specs.inner.Slots.{SlotTable, IsApart, adopted, count_of, forgotten, released}
use Rattle.ebs_slots.proofs.Apart.{apart_forgotten, apart_same}
use Rattle.ebs_slots.proofs.Maps.{gets_there, got-remove, some_none}
use Rattle.ebs_collect.specs.Slices.{IsCounted, Frees}
use Rattle.ebs_holds.specs.Counted.{without_stamp}
use Rattle.ebs_recovery.specs.Made.{SlotOfStamp}
use Rattle.ebs_recovery.specs.Stands.{snapshot, volume}
use Rattle.ebs_recovery.specs.inner.Fits.{Seen, AgreeOn, KeepsSlots}
use Rattle.ebs_recovery.specs.inner.FitLaws.{FreesDead}
use Rattle.ebs_disk_store.specs.inner.Shown.{AreSlotted}

-- blocks are counted by keys and counts alone
pub counted_same : (s t : SlotTable) (nodes : NodeMap) → t.keys ≡ s.keys → t.counts ≡ s.counts → IsCounted s nodes → IsCounted t nodes
counted_same s t nodes keys counts is = record {
  slotted = subst (λ (k : SlotOfStamp). reached.AreSlotted k nodes) (sym keys) is.slotted;
  counts = λ stamp. subst (λ (c : SlotOfStamp). AreEntries nodes stamp (unwrap_or (fin.get c stamp) 0)) (sym counts) (is.counts stamp);
}

-- each block of the machine has a slot, in a snapshot and in a volume
pub all_slotted : (keys : SlotOfStamp) (m : Machine) → ((key : SnapKey) (index : ℕ) (block : WholeBlock) → fin.get (array_of m key) index ≡ Some block → IsSome (fin.get keys block.stamp))
    → ((key : VolKey) (index : ℕ) (block : WholeBlock) → fin.get (disk_of m key) index ≡ Some block → IsSome (fin.get keys block.stamp)) → AreSlotted keys m
all_slotted keys m snaps vols (snapshot key) index block e = snaps key index block e
all_slotted keys m snaps vols (volume key) index block e = vols key index block e

-- ---- what slots keep where keys are given up

pub record IsLess (s u : SlotTable) : Type 0 where
  pub area : u.area ≡ s.area
  pub top : u.top ≡ s.top
  pub leases : u.leases ≡ s.leases
  pub apart : IsApart u
  pub fewer : (stamp slot : ℕ) → fin.get u.keys stamp ≡ Some slot → fin.get s.keys stamp ≡ Some slot

by_count : (s : SlotTable) (key : ℕ) (P : SlotTable → Type 0) → P (forgotten s key) → P (record s { counts = fin.insert s.counts key (count_of s key - 1) }) → P (released s key)
by_count s key P gone less = elim (nat_le (count_of s key) 1) as (λ b. P (cond b (forgotten s key) (record s { counts = fin.insert s.counts key (count_of s key - 1) }))) [
  | true ↦ gone
  | false ↦ less
]

pub less_without : (s : SlotTable) (stamp : Option ℕ) → IsApart s → IsLess s (without_stamp s stamp)
less_without s None apart = record { area = refl; top = refl; leases = refl; apart = apart; fewer = λ stamp slot e. e }
less_without s (Some key) apart = by_count s key (IsLess s)
    (record { area = refl; top = refl; leases = refl; apart = apart_forgotten s apart key; fewer = λ stamp slot e. got-remove s.keys key stamp slot e })
    (record { area = refl; top = refl; leases = refl; apart = apart_same s apart s.area (fin.insert s.counts key (count_of s key - 1)); fewer = λ stamp slot e. e })

pub area_without : (s : SlotTable) (stamp : Option ℕ) → (without_stamp s stamp).area ≡ s.area
area_without s None = refl
area_without s (Some key) = by_count s key (λ u. u.area ≡ s.area) refl refl

pub fewer_without : (s : SlotTable) (gone : Option ℕ) (stamp slot : ℕ) → fin.get (without_stamp s gone).keys stamp ≡ Some slot → fin.get s.keys stamp ≡ Some slot
fewer_without s None stamp slot e = e
fewer_without s (Some key) stamp slot e = by_count s key (λ u. fin.get u.keys stamp ≡ Some slot → fin.get s.keys stamp ≡ Some slot) (got-remove s.keys key stamp slot) (λ e. e) e

pub less_frees : (s u : SlotTable) → Frees s u → IsApart u → IsLess s u
less_frees s u frees apart = record { area = frees.area; top = frees.top; leases = frees.leases; apart = apart; fewer = frees.keys }

-- a block whose stamp still has a slot has the one that it had
pub agree_fewer : (old new : SlotOfStamp) (m : Machine) → ((stamp slot : ℕ) → fin.get new stamp ≡ Some slot → fin.get old stamp ≡ Some slot) → AreSlotted new m → AgreeOn m new old
agree_fewer old new m fewer slotted key index block e = at block.stamp (fin.get new block.stamp) refl (slotted key index block e)
  where
    at : (stamp : ℕ) (o : Option ℕ) → fin.get new stamp ≡ o → IsSome o → fin.get new stamp ≡ fin.get old stamp
    at stamp None is some = absurd (cc)
    at stamp (Some slot) is some = is ∙ sym (fewer stamp slot is)

pub keeps_less : (s t : Seen) → IsLess s.slots t.slots → KeepsSlots s t
keeps_less s t less = record {
  area = less.area;
  top = less.top;
  apart = less.apart;
  leases = λ slot digest e. ap (λ (leases : fin.FinMap nat_cmp (List ℕ)). fin.get leases slot) (sym less.leases) ∙ e;
}

pub frees_dead : (s t : Seen) → t.recorded ≡ s.recorded → IsLess s.slots t.slots → AreSlotted t.slots.keys t.recorded → s.clock.second ≤ t.clock.second → t.journal ≡ s.journal → t.pending ≡ s.pending → FreesDead s t
frees_dead s t is less slotted clock journal pending = record {
  recorded = is;
  keys = agree_fewer s.slots.keys t.slots.keys s.recorded less.fewer (subst (AreSlotted t.slots.keys) is slotted);
  slots = keeps_less s t less;
  clock = clock;
  journal = journal;
  pending = pending;
}

-- ---- a block that is replaced had a slot

some_slot : (o : Option ℕ) → IsSome o → (slot : ℕ) × (o ≡ Some slot)
some_slot None some = absurd (cc)
some_slot (Some slot) some = (slot, refl)

-- the stamp of a block that is replaced has a slot, also once the next stamp has its own
pub still_there : (s : SlotTable) (nodes : NodeMap) (slot stamp : ℕ) (old : Option ℕ) → IsCounted s nodes → fin.get s.keys stamp ≡ None
    → IfSome old (λ key. (u : SlotTable) → IsCounted u nodes → IsSome (fin.get u.keys key)) → IfSome old (λ key. IsSome (fin.get (adopted s slot stamp).keys key))
still_there s nodes slot stamp None counted new there = tt
still_there s nodes slot stamp (Some key) counted new there =
    let found = some_slot (fin.get s.keys key) (there s counted) in
    subst IsSome (sym (gets_there s.keys stamp slot key (λ same. some_none found.0 (sym found.1 ∙ ap (fin.get s.keys) same ∙ new)))) (there s counted)
