-- What a collection tells, by its parts.
use Rattle.std.proofs.Common.{◌≡◌, inl, inr, ⊎_elim, ℕ, ◌≤◌, Result, Ok, Err, refl, sym, ap, subst, ◌∙◌, arith}
use Rattle.std.specs.Prelude.{IsErr, IsSome, OnErr, OnOk}
use Rattle.std.specs.FinMap as fin
use Rattle.ebs_lineage.specs.Table.{NodeMap}
use Rattle.ebs_collect.specs.Slices.{IsCounted, Frees}
use Rattle.ebs_world.specs.View.{View}
use Rattle.ebs_slots.specs.inner.Slots.{SlotTable, IsApart}
use Rattle.ebs_model.specs.declared.keys.Moment.{Moment}
use Rattle.ebs_model.specs.Arrays.{WholeArray}
use Rattle.ebs_model.specs.Machine.{Machine, advance}
use Rattle.ebs_recovery.specs.Made.{SlotOfStamp}
use Rattle.ebs_recovery.specs.Stands.{Holder, snapshot, volume, blocks_at}
use Rattle.ebs_recovery.specs.inner.Fits.{Seen, recorded, running}
use Rattle.ebs_recovery.specs.inner.FitLaws.{FreesDead}
use Rattle.ebs_disk_store.specs.Collected.{AreShared, IsShared}
use Rattle.ebs_disk_store.specs.inner.Collected.{Collects, IsAged, IsLooked, IsUnpassed, Passes, StaysUntil, Sweeps, aged_store}
use Rattle.ebs_disk_store.specs.inner.Shown.{AreSlotted, IsSound, is_blocks}
use Rattle.ebs_disk_store.specs.inner.Told.{at_clock}
use Rattle.ebs_disk_store.proofs.Freed.{frees_dead, less_frees}

pub on_ok : {T E : Type 0} (r : Result T E) (P Q : Type 0) → (P → Q) → OnOk r P → OnOk r Q
on_ok (Ok x) P Q f h = f h
on_ok (Err e) P Q f h = tt

pub on_err : {T E : Type 0} (r : Result T E) (P Q : Type 0) → (P → Q) → OnErr r P → OnErr r Q
on_err (Ok x) P Q f h = tt
on_err (Err e) P Q f h = f h

pub not_err : {T E A : Type 0} (r : Result T E) (x : T) → r ≡ Ok x → IsErr r → A
not_err {T} {E} r x is err = absurd (never (subst IsErr is err))
  where
    never : IsErr {T = T} {E = E} (Ok x) → ⊥
    never e = cc

-- ---- the moment

-- after a record of time
pub passes_aged : (s t : Seen) (now : Moment) → t ≡ aged_store s now t.journal → Passes s t now
passes_aged s t now is = record { clock = ap (λ (u : Seen). u.clock) is; recorded = inr (ap (λ (u : Seen). u.recorded) is); pending = inr (ap (λ (u : Seen). u.pending) is) }

-- and without one
pub passes_clock : (s t : Seen) (now : Moment) → t ≡ at_clock s now → Passes s t now
passes_clock s t now is = record { clock = ap (λ (u : Seen). u.clock) is; recorded = inl (ap (λ (u : Seen). u.recorded) is); pending = inl (ap (λ (u : Seen). u.pending) is) }

pub stays_on : (m n : Machine) (now : Moment) → n ≡ m → StaysUntil m now → StaysUntil n now
stays_on m n now is stays = subst (λ (x : Machine). StaysUntil x now) (sym is) stays

pub unpassed_clock : (s t : Seen) (now : Moment) → IsUnpassed s t now → t.clock ≡ s.clock
unpassed_clock s t now left = ⊎_elim (λ is. ap (λ (u : Seen). u.clock) is) (λ rest. ⊎_elim (λ is. ap (λ (u : Seen). u.clock) is) (λ is. ap (λ (u : Seen). u.clock) is) rest) left

-- what is recorded stays, and so does what answers calls
pub same_machines : (old new : View) (s t : Seen) (now : Moment) → IsUnpassed s t now → recorded new t ≡ recorded old s → (recorded new t ≡ recorded old s) × (running new t ≡ running old s)
same_machines old new s t now left same = (same, (λ i. advance (same i) (unpassed_clock s t now left i)))

-- ---- what is looked at

-- what holds of a store by itself holds where keys were given up that no block has
pub sound_swept : (s : Seen) (old new : NodeMap) (m : Machine) (u : SlotTable) (waiting : ℕ) → IsSound s old → m ≡ s.recorded → IsCounted u new → AreSlotted u.keys m → Frees s.slots u
    → IsSound (record s { recorded = m; slots = u; waiting = waiting }) new
sound_swept s old new m u waiting sound is counted slotted frees =
    subst (λ (n : Machine). AreSlotted u.keys n → IsSound (record s { recorded = n; slots = u; waiting = waiting }) new) (sym is) (λ here. record {
      late = sound.late;
      early = sound.early;
      few = sound.few;
      room = sound.room;
      given = λ stamp slot e. sound.given stamp slot (frees.keys stamp slot e);
      slotted = here;
      counted = counted;
      indexed = sound.indexed;
      laws = sound.laws;
      area = ap is_blocks frees.area ∙ sound.area;
      clean = sound.clean;
    }) slotted

pub swept_dead : (s : Seen) (m : Machine) (u : SlotTable) (waiting : ℕ) → m ≡ s.recorded → AreSlotted u.keys m → Frees s.slots u → IsApart u → FreesDead s (record s { recorded = m; slots = u; waiting = waiting })
swept_dead s m u waiting is slotted frees apart = frees_dead s (record s { recorded = m; slots = u; waiting = waiting }) is (less_frees s.slots u frees apart) slotted (omega arith) refl refl

-- a stamp that a block has, has a slot
slotted_shared : (keys : SlotOfStamp) (m : Machine) (stamp : ℕ) → AreSlotted keys m → IsShared m stamp → IsSome (fin.get keys stamp)
slotted_shared keys m stamp slotted shared = subst (λ (n : ℕ). IsSome (fin.get keys n)) shared.is (slotted shared.key shared.index shared.block shared.there)

pub sweeps : (s : Seen) (m : Machine) (u : SlotTable) (waiting : ℕ) → m ≡ s.recorded → AreSlotted u.keys m → Frees s.slots u → (waiting ≡ 0 → (stamp : ℕ) → IsSome (fin.get u.keys stamp) → IsShared m stamp)
    → Sweeps s (record s { recorded = m; slots = u; waiting = waiting })
sweeps s m u waiting is slotted frees shared = record {
  recorded = is;
  clock = refl;
  journal = refl;
  pending = refl;
  slots = frees;
  shared = λ none stamp. (shared none stamp, slotted_shared u.keys m stamp slotted);
}

-- ---- both

at_moment : (m : Machine) (now : Moment) → StaysUntil m now → (key : Holder) → blocks_at (advance m now) key ≡ blocks_at m key
at_moment m now stays (snapshot key) = stays key
at_moment m now stays (volume key) = refl

shared_at : (m : Machine) (now : Moment) (stamp : ℕ) → StaysUntil m now → IsShared m stamp → IsShared (advance m now) stamp
shared_at m now stamp stays shared =
    record { key = shared.key; index = shared.index; block = shared.block; there = ap (λ (a : WholeArray). fin.get a shared.index) (at_moment m now stays shared.key) ∙ shared.there; is = shared.is }

shared_from : (m : Machine) (now : Moment) (stamp : ℕ) → StaysUntil m now → IsShared (advance m now) stamp → IsShared m stamp
shared_from m now stamp stays shared =
    record { key = shared.key; index = shared.index; block = shared.block; there = ap (λ (a : WholeArray). fin.get a shared.index) (sym (at_moment m now stays shared.key)) ∙ shared.there; is = shared.is }

are_shared : (keys : SlotOfStamp) (m : Machine) (now : Moment) → StaysUntil m now → AreShared keys m → AreShared keys (advance m now)
are_shared keys m now stays shared = λ stamp. (λ some. shared_at m now stamp stays ((shared stamp).0 some), λ is. (shared stamp).1 (shared_from m now stamp stays is))

pub collects : (s u t : Seen) (now : Moment) → Passes s u now → u.slots ≡ s.slots → StaysUntil u.recorded now → Sweeps u t → Collects s t now
collects s u t now passes slots stays sweeps = record {
  passes = record {
    clock = sweeps.clock ∙ passes.clock;
    recorded = ⊎_elim (λ is. inl (sweeps.recorded ∙ is)) (λ is. inr (sweeps.recorded ∙ is)) passes.recorded;
    pending = ⊎_elim (λ is. inl (sweeps.pending ∙ is)) (λ is. inr (sweeps.pending ∙ is)) passes.pending;
  };
  slots = subst (λ (v : SlotTable). Frees v t.slots) slots sweeps.slots;
  shared = λ none. are_shared t.slots.keys t.recorded now (stays_on u.recorded t.recorded now sweeps.recorded stays) (sweeps.shared none);
}

pub looked_on : (s u t : Seen) (work : ℕ) → u.waiting ≡ s.waiting → IsLooked u t work → IsLooked s t work
looked_on s u t work same looked = record { waited = looked.waited; all = subst (λ (n : ℕ). n ≤ looked.waited) same looked.all; left = looked.left }

pub aged_on : (old new : View) (s u t : Seen) (now : Moment) → recorded new t ≡ recorded new u → IsAged (recorded old s) now (recorded new u) → IsAged (recorded old s) now (recorded new t)
aged_on old new s u t now same aged = ⊎_elim (λ is. inl (same ∙ is)) (λ is. inr (same ∙ is)) aged
