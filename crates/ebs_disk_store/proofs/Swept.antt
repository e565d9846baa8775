-- What stays where stamps without a block lose their slots.
use Rattle.std.proofs.Common.{◌≡◌, ℕ, ◌<◌, Bool, true, false, cond, not, ◌==◌, ◌||◌, List, Option, None, Some, Ok, is_some, unwrap_or, nat_le, ◌-◌, refl, sym, ap, subst, ◌∙◌, arith}
use Rattle.std.specs.Prelude.{IsSome, IsTrue, ◌↔◌, if◌then◌else◌}
use Rattle.std.specs.FinMap as fin
use Rattle.std.specs.FinMap.{nat_cmp-IsAntisymmetric}
use Rattle.std.specs.List.{list_any}
use Rattle.std.specs.Ordering.{nat_cmp}
use Rattle.std.specs.Cmp.{nat_cmp_total}
use Rattle.std.proofs.lemmas.Bool.{false≢true}
use Rattle.std.proofs.lemmas.Bool.Decides.{nat_tests}
use Rattle.ebs_model.specs.declared.keys.SnapKey.{SnapKey}
use Rattle.ebs_model.specs.declared.keys.VolKey.{VolKey}
use Rattle.ebs_model.specs.inner.Orders.{snaps_total, exact_snaps, vols_total, exact_vols}
use Rattle.ebs_model.specs.Arrays.{WholeBlock, WholeArray}
use Rattle.ebs_model.specs.Time.{Snapshot}
use Rattle.ebs_model.specs.Machine.{Machine, array_at, array_of, disk_of}
use Rattle.ebs_lineage.specs.Table.{NodeMap}
use Rattle.ebs_holds.specs.Counted.{without_stamp}
use Rattle.ebs_slots.specs.inner.Slots.{SlotTable, IsFree, count_of, forgotten}
use Rattle.ebs_slots.proofs.Maps.{some_none, got-remove}
use Rattle.ebs_collect.specs.declared.backlog.Progress.{Progress}
use Rattle.ebs_collect.specs.declared.backlog.Progress.TheVariants.{More, Finished}
use Rattle.ebs_collect.specs.Slices.{IsCounted, Frees}
use Rattle.ebs_kept.specs.Stamps.{in_snapshot, in_volume}
use Rattle.ebs_kept.specs.inner.Stamps.{HasBlock}
use Rattle.ebs_kept.proofs.Live.{here}
use Rattle.ebs_recovery.specs.Made.{SlotOfStamp, State, Made, is_slot, is_in_array, is_taken}
use Rattle.ebs_recovery.specs.Stands.{Holder, snapshot, volume, blocks_at}
use Rattle.ebs_recovery.specs.inner.Fits.{AgreeOn}
use Rattle.ebs_recovery.proofs.Agree.{free_agree, free_unnamed}
use Rattle.ebs_disk_store.specs.Collected.{IsShared}
use Rattle.ebs_disk_store.specs.Opened.{KeepsShared}
use Rattle.ebs_disk_store.specs.inner.Following.{IsBehind, IsKeptState, IsOf, Follows}
use Rattle.ebs_disk_store.specs.inner.Shown.{AreSlotted}

-- ---- a slice is the last

pub finished-none : (n : ℕ) (progress : Progress) → progress ≡ (if n == 0 then Finished else More) → (progress ≡ More → ⊥) → n ≡ 0
finished-none n progress is other = by (n == 0) refl is
  where
    zero_is : (n == 0) ≡ true → n ≡ 0
    zero_is e = grind (arith, nat_tests, e)

    by : (b : Bool) → (n == 0) ≡ b → progress ≡ cond b Finished More → n ≡ 0
    by true e is = zero_is e
    by false e is = absurd (other is)

pub more-some : (n : ℕ) (progress : Progress) → progress ≡ (if n == 0 then Finished else More) → progress ≡ More → 0 < n
more-some n progress is more = by (n == 0) refl (sym more ∙ is)
  where
    not_zero : (n == 0) ≡ false → 0 < n
    not_zero e = grind (arith, nat_tests, e)

    by : (b : Bool) → (n == 0) ≡ b → More ≡ cond b Finished More → 0 < n
    by true e is = absurd (cc)
    by false e is = not_zero e

-- ---- a slot that the stamp of a block has is taken

itself : (n : ℕ) → (n == n) ≡ true
itself n = grind (arith, nat_tests)

or_true : (b : Bool) → b || true ≡ true
or_true true = refl
or_true false = refl

module _ (keys : SlotOfStamp) (slot : ℕ) where
  abbrev block_has : ℕ → Option WholeBlock → Bool
  block_has index None = false
  block_has index (Some b) = is_slot slot (fin.get keys b.stamp)

  abbrev snapshot_has : SnapKey → Option Snapshot → Bool
  snapshot_has key None = false
  snapshot_has key (Some s) = is_in_array keys slot s.array

  abbrev volume_has : VolKey → Option WholeArray → Bool
  volume_has key None = false
  volume_has key (Some array) = is_in_array keys slot array

  module _ (index : ℕ) (b : WholeBlock) (has : is_slot slot (fin.get keys b.stamp) ≡ true) where
    in_array : (array : WholeArray) → fin.get array index ≡ Some b → is_in_array keys slot array ≡ true
    in_array array found = here nat_cmp_total nat_cmp-IsAntisymmetric block_has (λ i. refl) array index (ap (block_has index) found ∙ has)

    in_snapshot_at : (key : SnapKey) (o : Option Snapshot) → fin.get (array_at o) index ≡ Some b → snapshot_has key o ≡ true
    in_snapshot_at key None found = absurd (some_none b (sym found ∙ fin.get-empty {X = WholeBlock} nat_cmp index))
    in_snapshot_at key (Some s) found = in_array s.array found

    in_volume_at : (key : VolKey) (o : Option WholeArray) → fin.get (unwrap_or o fin.empty) index ≡ Some b → volume_has key o ≡ true
    in_volume_at key None found = absurd (some_none b (sym found ∙ fin.get-empty {X = WholeBlock} nat_cmp index))
    in_volume_at key (Some array) found = in_array array found

    taken_at : (m : Machine) (key : Holder) → fin.get (blocks_at m key) index ≡ Some b → is_taken (record { machine = m; slots = keys }) slot ≡ true
    taken_at m (snapshot key) found =
        ap (λ (t : Bool). t || list_any (λ (e : VolKey × WholeArray). is_in_array keys slot e.1) (fin.entries m.disks))
        (here snaps_total exact_snaps snapshot_has (λ k. refl) m.snaps key (in_snapshot_at key (fin.get m.snaps key) found))
    taken_at m (volume key) found =
        ap (λ (t : Bool). list_any (λ (e : SnapKey × Snapshot). is_in_array keys slot e.1.array) (fin.entries m.snaps) || t)
        (here vols_total exact_vols volume_has (λ k. refl) m.disks key (in_volume_at key (fin.get m.disks key) found))
        ∙ or_true (list_any (λ (e : SnapKey × Snapshot). is_in_array keys slot e.1.array) (fin.entries m.snaps))

  taken_by : (m : Machine) (stamp : ℕ) → IsShared m stamp → fin.get keys stamp ≡ Some slot → is_taken (record { machine = m; slots = keys }) slot ≡ true
  taken_by m stamp s has = taken_at s.index s.block (ap (λ (k : ℕ). is_slot slot (fin.get keys k)) s.is ∙ ap (is_slot slot) has ∙ itself slot) m s.key s.there

-- ---- blocks keep their slots

pub shared_by : (m : Machine) (stamp : ℕ) → HasBlock m stamp → IsShared m stamp
shared_by m stamp (digest, in_snapshot key index there) = record { key = snapshot key; index = index; block = record { stamp = stamp; bytes = digest }; there = there; is = refl }
shared_by m stamp (digest, in_volume key index there) = record { key = volume key; index = index; block = record { stamp = stamp; bytes = digest }; there = there; is = refl }

pub slotted_by : (m : Machine) (nodes : NodeMap) (s : SlotTable)
    → ((s : SlotTable) (key : SnapKey) (index : ℕ) (block : WholeBlock) → IsCounted s nodes → fin.get (array_of m key) index ≡ Some block → IsSome (fin.get s.keys block.stamp))
    → ((s : SlotTable) (key : VolKey) (index : ℕ) (block : WholeBlock) → IsCounted s nodes → fin.get (disk_of m key) index ≡ Some block → IsSome (fin.get s.keys block.stamp))
    → IsCounted s nodes → AreSlotted s.keys m
slotted_by m nodes s snapshots volumes counted (snapshot key) index block found = snapshots s key index block counted found
slotted_by m nodes s snapshots volumes counted (volume key) index block found = volumes s key index block counted found

-- some stamps have lost their slots
pub record IsLess (old new : SlotTable) : Type 0 where
  pub keys : (stamp slot : ℕ) → fin.get new.keys stamp ≡ Some slot → fin.get old.keys stamp ≡ Some slot
  pub area : new.area ≡ old.area
  pub leases : new.leases ≡ old.leases
  pub top : new.top ≡ old.top

pub frees_less : (old new : SlotTable) → Frees old new → IsLess old new
frees_less old new frees = record { keys = frees.keys; area = frees.area; leases = frees.leases; top = frees.top }

less_same : (s : SlotTable) → IsLess s s
less_same s = record { keys = λ stamp slot e. e; area = refl; leases = refl; top = refl }

less_forgotten : (s : SlotTable) (key : ℕ) → IsLess s (forgotten s key)
less_forgotten s key = record { keys = λ stamp slot e. got-remove s.keys key stamp slot e; area = refl; leases = refl; top = refl }

pub less_without : (s : SlotTable) (gone : Option ℕ) → IsLess s (without_stamp s gone)
less_without s None = less_same s
less_without s (Some key) = by (nat_le (count_of s key) 1)
  where
    by : (b : Bool) → IsLess s (cond b (forgotten s key) (record s { counts = fin.insert s.counts key (count_of s key - 1) }))
    by true = less_forgotten s key
    by false = record { keys = λ stamp slot e. e; area = refl; leases = refl; top = refl }

some_value : (o : Option ℕ) → IsSome o → (n : ℕ) × (o ≡ Some n)
some_value None some = absurd (false≢true some)
some_value (Some n) some = (n, refl)

module _ (m : Machine) (old new : SlotTable) (less : IsLess old new) (slotted : AreSlotted new.keys m) where
  pub less_agree : AgreeOn m new.keys old.keys
  less_agree key index block found =
      let o = some_value (fin.get new.keys block.stamp) (slotted key index block found) in
      o.1 ∙ sym (less.keys block.stamp o.0 o.1)

  pub less_state : IsKeptState m old → IsKeptState m new
  less_state state = record {
    area = less.area ∙ state.area;
    given = λ stamp slot e. state.given stamp slot (less.keys stamp slot e);
    slotted = slotted;
    indexed = state.indexed;
    laws = state.laws;
    leases = less.leases ∙ state.leases;
  }

  pub less_of : (k : State) → IsOf m old k → IsOf m new k
  less_of k of =
      let agree : AgreeOn k.machine new.keys old.keys = subst (λ (x : Machine). AgreeOn x new.keys old.keys) of.machine less_agree in
      record {
        machine = of.machine;
        keys = λ key index block found. agree key index block found ∙ of.keys key index block found;
        given = of.given;
        below = λ stamp slot e. subst (λ (top : ℕ). slot < top) (sym less.top) (of.below stamp slot e);
        behind = subst (IsBehind k.slots) (sym less.top) of.behind;
      }

  -- and all that was followed is followed
  pub less_follows : (before : Machine) (slots : SlotTable) (e : Made) → Follows before slots m old e (Ok tt) → Follows before slots m new e (Ok tt)
  less_follows before slots e f = (less_state f.0, λ k of. let t = f.1 k of in (t.0, t.1, less_of t.0 t.2))

  -- a slot that no stamp has any more is no block's
  pub untaken : (slot : ℕ) → IsFree new slot → true ≡ not (is_taken (record { machine = m; slots = old.keys }) slot)
  untaken slot free = sym (free_unnamed (record { machine = m; slots = new.keys }) slot free.no_key) ∙ free_agree m new.keys old.keys less_agree (Some slot)

-- ---- once nothing waits, a slot is free exactly where no block has it

module _ (m : Machine) (old new : SlotTable) (less : IsLess old new) (slotted : AreSlotted new.keys m) (shared : (stamp : ℕ) → IsSome (fin.get new.keys stamp) → IsShared m stamp) where
  free_by : (slot : ℕ) → IsKeptState m old → is_taken (record { machine = m; slots = old.keys }) slot ≡ false → IsFree new slot
  free_by slot state none = record {
    no_key = λ stamp e. false≢true (sym none ∙ taken_by old.keys slot m stamp (shared stamp (ap is_some e)) (less.keys stamp slot e));
    no_lease = ap (λ leases. fin.get leases slot) (less.leases ∙ state.leases) ∙ fin.get-empty {X = List ℕ} nat_cmp slot;
  }

  pub free_is : (slot : ℕ) (free : Bool) → IsKeptState m old → (IsTrue free ↔ IsFree new slot) → free ≡ not (is_taken (record { machine = m; slots = old.keys }) slot)
  free_is slot free state iff = by free (is_taken (record { machine = m; slots = old.keys }) slot) iff refl
    where
      by : (b taken : Bool) → (IsTrue b ↔ IsFree new slot) → is_taken (record { machine = m; slots = old.keys }) slot ≡ taken → b ≡ not taken
      by true taken iff e = untaken m old new less slotted slot (iff.0 refl) ∙ ap not e
      by false true iff e = refl
      by false false iff e = absurd (false≢true (iff.1 (free_by slot state e)))

-- and a stamp has the slot that it was given exactly where a block has the stamp
pub keeps_shared : (m : Machine) (slots : SlotTable) (k : State) → IsOf m slots k → ((stamp : ℕ) → IsSome (fin.get slots.keys stamp) → IsShared m stamp) → KeepsShared m k.slots slots.keys
keeps_shared m slots k of shared stamp slot = (
  λ e. let s = shared stamp (ap is_some e) in (s, sym (alike s) ∙ e),
  λ h. alike h.0 ∙ h.1,
)
  where
    agree : AgreeOn m slots.keys k.slots
    agree = subst (λ (x : Machine). AgreeOn x slots.keys k.slots) (sym of.machine) of.keys

    alike : IsShared m stamp → fin.get slots.keys stamp ≡ fin.get k.slots stamp
    alike s = subst (λ (n : ℕ). fin.get slots.keys n ≡ fin.get k.slots n) s.is (agree s.key s.index s.block s.there)
