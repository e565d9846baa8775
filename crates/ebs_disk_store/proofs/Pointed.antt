-- A checkpoint takes the place of the records, or may have.
use Rattle.std.proofs.Common.{◌≡◌, ⊎_elim, inl, inr, ℕ, ◌+◌, ◌≤◌, ◌^◌, Bool, true, false, List, [], None, Some, Result, Ok, Err, refl, sym, ap, subst, ◌∙◌, arith}
use Rattle.std.specs.Prelude.{IfOk, IsSome}
use Rattle.std.specs.FinMap as fin
use Rattle.ebs_lineage.specs.Table.{NodeMap}
use Rattle.ebs_collect.specs.Slices.{IsCounted}
use Rattle.ebs_world.specs.declared.area.Area.{Area}
use Rattle.ebs_world.specs.declared.area.Area.TheVariants.{Journal0, Journal1, Blocks, Archive}
use Rattle.ebs_world.specs.View.{View, Ran, Leaves}
use Rattle.ebs_journal.specs.Opening.{OffJournal}
use Rattle.ebs_journal.specs.inner.Standing.{IsSettled, IsTurning, IsOrNext}
use Rattle.ebs_slots.specs.inner.Slots.{SlotTable, IsApart}
use Rattle.ebs_model.specs.declared.keys.Moment.{Moment}
use Rattle.ebs_model.specs.Machine.{Machine, advance}
use Rattle.ebs_records.specs.declared.record.Record.TheVariants.{Advance}
use Rattle.ebs_checkpoints.specs.declared.checkpoint.Checkpoint.{Checkpoint}
use Rattle.ebs_checkpoint_rules.specs.Rules.{HasRules, IsCheckpoint}
use Rattle.ebs_point_rules.specs.Values.{HasShortLists}
use Rattle.ebs_point.specs.Points.{AreKeysOf, IsPointAt}
use Rattle.ebs_recovery.specs.Bases.{HasNoCopies, slots_of}
use Rattle.ebs_recovery.specs.inner.Bases.{machine_of}
use Rattle.ebs_recovery.specs.Made.{advanced, spelled}
use Rattle.ebs_recovery.specs.inner.Fits.{AgreeOn, Seen, InJournal, Fit, IsStill, StandsForOne, StandsOrAfter, recorded, running}
use Rattle.ebs_recovery.specs.inner.FitLaws.{ClosedFits}
use Rattle.ebs_recovery.specs.inner.TurnLaws.{ImagesWhileTurned, IsNextOf, TurnedFits, TurningFits}
use Rattle.ebs_recovery.proofs.Outcomes.{each_aged}
use Rattle.ebs_disk_store.specs.inner.Shown.{AreIndexed, AreSlotted, HasLaws, IsSound, is_blocks}
use Rattle.ebs_disk_store.specs.inner.Pointed.{IsNext, IsPointed, IsUnpointed}
use Rattle.ebs_disk_store.specs.inner.Turned.{MayLeave}
use Rattle.ebs_disk_store.specs.inner.Told.{mended}
use Rattle.ebs_disk_store.proofs.Held.{keeps_slots}
use Rattle.ebs_disk_store.proofs.Left.{left_behind, left_told}
use Rattle.ebs_disk_store.proofs.Steps.{again}
use Rattle.ebs_disk_store.proofs.PutSets.{indexed_aged}
use Rattle.ebs_disk_store.proofs.Lawful.{laws_aged}
use Rattle.ebs_disk_store.proofs.Recorded.{sound_left}

-- ---- the checkpoint

pub are_blocks : (area : Area) → is_blocks area ≡ true → area ≡ Blocks
are_blocks Journal0 e = absurd (cc)
are_blocks Journal1 e = absurd (cc)
are_blocks Blocks e = refl
are_blocks Archive e = absurd (cc)

pub is_next : (s : Seen) (point : Checkpoint) → IsApart s.slots → IsPointAt s.recorded s.slots s.clock point → IsCheckpoint point → IsNextOf s point
is_next s point apart is checkpoint = record {
  of = record { is_checkpoint = checkpoint; machine = is.machine; keys = is.keys };
  here = is.copies;
  below = λ stamp slot e. apart.keyed stamp slot (is.stored stamp slot e);
}

-- the checkpoint of a machine that is recorded
module _ {E : Type 0} (s : Seen) (m : Machine) (is : m ≡ s.recorded) where
  pub point_at : (r : Result Checkpoint E) → IfOk r (λ p. machine_of p ≡ advance m s.clock) → IfOk r (λ p. HasNoCopies p) → IfOk r (λ p. HasRules p) → IfOk r (λ p. HasShortLists p → IsCheckpoint p)
      → IfOk r (λ p. AgreeOn (advance m s.clock) (slots_of p.standard) s.slots.keys) → IfOk r (λ p. AreKeysOf s.slots.keys p.standard) → IfOk r (λ p. IsPointAt s.recorded s.slots s.clock p)
  point_at (Ok p) machine copies rules checkpoint keys stored = record {
    machine = machine ∙ ap (λ (n : Machine). advance n s.clock) is;
    copies = copies;
    rules = rules;
    checkpoint = checkpoint;
    keys = subst (λ (n : Machine). AgreeOn (advance n s.clock) (slots_of p.standard) s.slots.keys) is keys;
    stored = stored;
  }
  point_at (Err e) machine copies rules checkpoint keys stored = tt

pub next_at : {E : Type 0} (s : Seen) → IsApart s.slots → (r : Result Checkpoint E) → IfOk r (λ p. IsPointAt s.recorded s.slots s.clock p) → IfOk r (λ p. IsCheckpoint p → IsNextOf s p)
next_at s apart (Ok p) at = is_next s p apart at
next_at s apart (Err e) at = tt

-- ---- the journal goes on with it

module _ (old new : View) (s : Seen) (bytes : List ℕ) (next : IsNext s bytes) (none : s.pending ≡ None) (fit : Fit old s) (ran : Ran OffJournal old new) where
  settled : IsSettled old s.journal fit.checkpoint (spelled fit.changes)
  settled = subst (InJournal old s fit.checkpoint fit.changes fit.state) none fit.journal

  still : (t : Seen) → t.recorded ≡ s.recorded → t.slots ≡ s.slots → t.clock ≡ s.clock → IsStill s t
  still t recorded slots clock = record {
    recorded = recorded;
    keys = ap (λ (u : SlotTable). u.keys) slots;
    slots = keeps_slots old s t fit slots;
    clock = omega (arith, ap (λ (m : Moment). m.second) clock);
  }

  -- at each moment
  pub while_pointed : ImagesWhileTurned old new → ((checkpoint : List ℕ) (rs : List (List ℕ)) → IsSettled old s.journal checkpoint rs → Leaves old new (λ c. IsOrNext c s.journal checkpoint rs bytes))
      → Leaves old new (StandsOrAfter old s (advanced s.clock))
  while_pointed law moments = law s next.point fit next.next ran
      (subst (λ (b : List ℕ). Leaves old new (λ c. IsOrNext c s.journal fit.checkpoint (spelled fit.changes) b)) next.is (moments fit.checkpoint (spelled fit.changes) settled))

  -- it is durable
  pub fit_pointed : TurnedFits old new → (t : Seen) → t.recorded ≡ advance s.recorded s.clock → t.slots ≡ s.slots → t.clock ≡ s.clock → t.pending ≡ None
      → ((checkpoint : List ℕ) (rs : List (List ℕ)) → IsSettled old s.journal checkpoint rs → IsSettled new t.journal bytes [])
      → Fit new t × (recorded new t ≡ advance (recorded old s) s.clock)
  fit_pointed law t recorded slots clock nothing rotated = law s t next.point fit next.next ran
      (record { recorded = recorded; keys = ap (λ (u : SlotTable). u.keys) slots; slots = keeps_slots old s t fit slots; clock = clock; pending = nothing })
      (subst (λ (b : List ℕ). IsSettled new t.journal b []) next.is (rotated fit.checkpoint (spelled fit.changes) settled))

  -- it isn't, or that isn't known
  pub fit_unpointed : ClosedFits old new → TurningFits old new → (t : Seen) → t.recorded ≡ s.recorded → t.slots ≡ s.slots → t.clock ≡ s.clock
      → (t.journal.clean ≡ true → t.pending ≡ None) → (t.journal.clean ≡ false → t.pending ≡ Some (Advance s.clock))
      → (t.journal.clean ≡ true → (checkpoint : List ℕ) (rs : List (List ℕ)) → IsSettled old s.journal checkpoint rs → IsSettled new t.journal checkpoint rs)
      → (t.journal.clean ≡ false → (checkpoint : List ℕ) (rs : List (List ℕ)) → IsSettled old s.journal checkpoint rs → IsTurning new t.journal checkpoint rs bytes) → Fit new t
  fit_unpointed closes turns t recorded slots clock known kept was now = at t.journal.clean refl
    where
      at : (b : Bool) → t.journal.clean ≡ b → Fit new t
      at true is = closes s t fit ran (still t recorded slots clock) (known is) (was is fit.checkpoint (spelled fit.changes) settled)
      at false is = turns s t next.point fit next.next ran (still t recorded slots clock) (kept is)
          (subst (λ (b : List ℕ). IsTurning new t.journal fit.checkpoint (spelled fit.changes) b) next.is (now is fit.checkpoint (spelled fit.changes) settled))

-- ---- what it tells

pub unpointed : (s t : Seen) → t.recorded ≡ s.recorded → t.slots ≡ s.slots → t.waiting ≡ s.waiting → t.clock ≡ s.clock
    → t.journal ≡ record s.journal { clean = t.journal.clean; shut = t.journal.shut; turning = t.journal.turning }
    → (t.journal.clean ≡ true → t.pending ≡ None) → (t.journal.clean ≡ false → t.pending ≡ Some (Advance s.clock)) → IsUnpointed s t
unpointed s t recorded slots waiting clock journal known kept = at t.journal.clean refl
  where
    at : (b : Bool) → t.journal.clean ≡ b → IsUnpointed s t
    at true is = record { recorded = recorded; clock = clock; slots = slots; waiting = waiting; journal = journal; pending = inr (inl (known is)) }
    at false is = record { recorded = recorded; clock = clock; slots = slots; waiting = waiting; journal = journal; pending = inr (inr (kept is)) }

pub unpointed_itself : (s t : Seen) → t ≡ s → IsUnpointed s t
unpointed_itself s t is = subst (IsUnpointed s) (sym is) (record { recorded = refl; clock = refl; slots = refl; waiting = refl; journal = refl; pending = inl refl })

-- behind a mend
pub unpointed_mended : (s u t : Seen) → u ≡ mended s → IsUnpointed u t → IsUnpointed s t
unpointed_mended s u t is left = from (subst (λ (x : Seen). IsUnpointed x t) is left)
  where
    from : IsUnpointed (mended s) t → IsUnpointed s t
    from l = record { recorded = l.recorded; clock = l.clock; slots = l.slots; waiting = l.waiting; journal = l.journal; pending = ⊎_elim (λ none. inr (inl none)) (λ rest. inr rest) l.pending }

-- ---- behind a mend

module _ (old mid new : View) (s u t : Seen) (is : u ≡ mended s) (same : recorded mid u ≡ recorded old s) where
  -- at each moment
  pub left_pointed : (Failed Told : Type 0) → (Failed → Told) → Leaves old mid (StandsForOne old s) → Leaves mid new (MayLeave Failed mid new u t (advanced u.clock)) → Leaves old new (MayLeave Told old new s t (advanced s.clock))
  left_pointed Failed Told told first second =
      left_told Failed Told told old new s t (advanced s.clock)
      (left_behind Failed old new s t mid u (advanced s.clock) same (ap (λ (x : Seen). x.pending) is) first
      (subst (λ (m : Moment). Leaves mid new (MayLeave Failed mid new u t (advanced m))) (ap (λ (x : Seen). x.clock) is) second))

  -- what answers calls
  pub running_pointed : IsPointed u t → recorded new t ≡ advance (recorded mid u) u.clock → running new t ≡ running old s
  running_pointed p aged = (λ i. advance (aged i) (ap (λ (x : Seen). x.clock) p.is i)) ∙ again (recorded mid u) u.clock u.clock (omega arith) ∙ (λ i. advance (same i) (ap (λ (x : Seen). x.clock) is i))

-- ---- what holds of a store by itself

-- where nothing that is recorded has changed
pub sound_unpointed : (s t : Seen) (old new : NodeMap) → IsSound s old → IsCounted t.slots new → t.recorded ≡ s.recorded → t.slots ≡ s.slots → t.clock ≡ s.clock → t.journal.end ≡ s.journal.end
    → (t.journal.clean ≡ false → t.pending ≡ Some (Advance s.clock)) → IsSound t new
sound_unpointed s t old new sound counted recorded slots clock end kept =
    sound_left s t (Advance s.clock) old new sound counted recorded (ap (λ (u : SlotTable). u.keys) slots) (ap (λ (u : SlotTable). u.area) slots) clock end kept

-- and behind a checkpoint, whose bytes are all that the journal has
pub sound_pointed : (s t : Seen) (old new : NodeMap) → IsSound s old → IsCounted t.slots new → t.recorded ≡ advance s.recorded s.clock → t.clock ≡ s.clock → t.slots ≡ s.slots → t.journal.clean ≡ true
    → t.journal.end ≤ 2 ^ 40 + 30 → IsSound t new
sound_pointed s t old new sound counted is clock slots clean end = record {
  late = omega (arith, ap (λ (m : Machine). m.clock.second) is, ap (λ (m : Moment). m.second) clock);
  early = omega (arith, sound.early, ap (λ (m : Moment). m.second) clock);
  few = omega (arith, sound.few, ap (λ (m : Machine). m.changes) is);
  room = omega (arith, end);
  given = λ stamp slot e. let below = sound.given stamp slot (ap (λ (u : SlotTable). fin.get u.keys stamp) (sym slots) ∙ e) in omega (arith, below, ap (λ (m : Machine). m.stamps) is);
  slotted = subst (λ (u : SlotTable). AreSlotted u.keys t.recorded) (sym slots) (subst (AreSlotted s.slots.keys) (sym is) (each_aged (λ block. IsSome (fin.get s.slots.keys block.stamp)) s.recorded s.clock sound.slotted));
  counted = counted;
  indexed = subst AreIndexed (sym is) (indexed_aged s.recorded s.clock sound.indexed);
  laws = subst HasLaws (sym is) (laws_aged s.recorded s.clock sound.late sound.early sound.laws);
  area = ap (λ (u : SlotTable). is_blocks u.area) slots ∙ sound.area;
  clean = λ none. clean;
}

-- rows were given their nodes
pub sound_ready : (s : Seen) (old new : NodeMap) (m : Machine) (waiting : ℕ) → IsSound s old → m ≡ s.recorded → IsCounted s.slots new → IsSound (record s { recorded = m; waiting = waiting }) new
sound_ready s old new m waiting sound is counted = subst (λ (n : Machine). IsSound (record s { recorded = n; waiting = waiting }) new) (sym is) (record {
  late = sound.late;
  early = sound.early;
  few = sound.few;
  room = sound.room;
  given = sound.given;
  slotted = sound.slotted;
  counted = counted;
  indexed = sound.indexed;
  laws = sound.laws;
  area = sound.area;
  clean = sound.clean;
})
