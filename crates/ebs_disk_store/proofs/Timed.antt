-- Time that passes, and its record.
use Rattle.std.proofs.Common.{◌≡◌, inl, inr, ⊎_elim, ℕ, ◌+◌, ◌<◌, ◌≤◌, ◌^◌, ◌∷◌, ◌++◌, Bool, true, false, List, [], None, Some, refl, sym, ap, subst, ◌∙◌, arith, nat_le, nat_lt}
use Rattle.std.specs.Prelude.{if◌then◌else◌, IsSome}
use Rattle.std.proofs.lemmas.Bool.Decides.{nat_tests}
use Rattle.std.specs.FinMap as fin
use Rattle.ebs_lineage.specs.Table.{NodeMap}
use Rattle.ebs_collect.specs.Slices.{IsCounted}
use Rattle.ebs_world.specs.View.{View, Ran, Leaves}
use Rattle.ebs_world.specs.inner.Runs.{leaves_weaker}
use Rattle.ebs_journal.specs.Opening.{OffJournal}
use Rattle.ebs_journal.specs.inner.Standing.{IsSettled, IsPending, IsOrAlso}
use Rattle.ebs_slots.specs.inner.Slots.{SlotTable}
use Rattle.ebs_model.specs.declared.keys.Moment.{Moment}
use Rattle.ebs_model.specs.Kept.{same}
use Rattle.ebs_model.specs.Machine.{Machine, advance, array_of}
use Rattle.ebs_records.specs.declared.record.Record.TheVariants.{Advance}
use Rattle.ebs_records.specs.Records.{IsRecord, record_bytes}
use Rattle.ebs_recovery.specs.Made.{State, advanced, IsValue, made}
use Rattle.ebs_recovery.specs.Stands.{Stands}
use Rattle.ebs_recovery.specs.inner.Made.{kept_change}
use Rattle.ebs_recovery.specs.inner.Fits.{Seen, Fit, StandsOrAfter, kept_state, recorded, running}
use Rattle.ebs_recovery.specs.inner.FitLaws.{KeptFormFinds, ImagesWhileAppended, AcknowledgedFits, UnsureFits, ClosedFits}
use Rattle.ebs_recovery.proofs.Outcomes.{each_aged}
use Rattle.ebs_disk_store.specs.inner.Shown.{AreIndexed, AreSlotted, HasLaws, IsSound, is_blocks}
use Rattle.ebs_disk_store.specs.inner.Collected.{IsAged, StaysUntil}
use Rattle.ebs_disk_store.specs.inner.Turned.{MayLeave}
use Rattle.ebs_disk_store.proofs.Appends as appends
use Rattle.ebs_disk_store.proofs.Held.{keeps_slots}
use Rattle.ebs_disk_store.proofs.PutSets.{indexed_aged}
use Rattle.ebs_disk_store.proofs.Lawful.{laws_aged}
use Rattle.ebs_disk_store.proofs.Steps.{again}

le_true : (m n : ℕ) → m ≤ n → nat_le m n ≡ true
le_true m n h = grind (arith, nat_tests)

lt_true : (m n : ℕ) → m < n → nat_lt m n ≡ true
lt_true m n h = grind (arith, nat_tests)

pub is_record : (now : Moment) → now.second ≤ 2 ^ 36 → IsRecord (Advance now)
is_record now early = record { spelled = omega (arith, early); limits = le_true now.second (2 ^ 36) early }

-- ---- the record of a moment is appended

module _ (old new : View) (s : Seen) (now : Moment) (early : now.second ≤ 2 ^ 36) (later : s.recorded.clock.second < now.second) (none : s.pending ≡ None) (fit : Fit old s) (finds : KeptFormFinds old) where
  abbrev k : State
  k = record { machine = advance s.recorded now; slots = s.slots.keys }

  is_value : IsValue (advanced now)
  is_value = record { is_record = is_record now early; whole = tt }

  is_made : made same (kept_state s) (kept_change (advanced now)) ≡ Some k
  is_made = ap (λ (b : Bool). if b then Some k else None) (lt_true s.recorded.clock.second now.second later)

  -- at each moment
  pub while_appended : ImagesWhileAppended old new → Ran OffJournal old new
      → ((checkpoint : List ℕ) (rs : List (List ℕ)) → IsSettled old s.journal checkpoint rs → Leaves old new (λ c. IsOrAlso c s.journal checkpoint rs (record_bytes (Advance now))))
      → Leaves old new (StandsOrAfter old s (advanced now))
  while_appended = appends.while_appended old new s (Advance now) (advanced now) k refl is_value tt is_made none fit finds

  -- it was made durable
  pub fit_taken : AcknowledgedFits old new → Ran OffJournal old new → (t : Seen) → t.recorded ≡ advance s.recorded now → t.clock ≡ now → t.slots ≡ s.slots → t.pending ≡ None
      → ((checkpoint : List ℕ) (rs : List (List ℕ)) → IsSettled old s.journal checkpoint rs → IsSettled new t.journal checkpoint (rs ++ record_bytes (Advance now) ∷ []))
      → Fit new t × (recorded new t ≡ advance (recorded old s) now)
  fit_taken law ran t is clock slots = appends.fit_taken old new s (Advance now) (advanced now) k refl is_value tt is_made none fit finds law ran t is (ap (λ (u : SlotTable). u.keys) slots) (keeps_slots old s t fit slots) clock

  -- it wasn't acknowledged
  pub fit_refused : ClosedFits old new → UnsureFits old new → Ran OffJournal old new → (t : Seen) → t.recorded ≡ s.recorded → t.slots ≡ s.slots → t.clock ≡ s.clock
      → (t.journal.clean ≡ true → t.pending ≡ None) → (t.journal.clean ≡ false → t.pending ≡ Some (Advance now))
      → (t.journal.clean ≡ true → (checkpoint : List ℕ) (rs : List (List ℕ)) → IsSettled old s.journal checkpoint rs → IsSettled new t.journal checkpoint rs)
      → (t.journal.clean ≡ false → (checkpoint : List ℕ) (rs : List (List ℕ)) → IsSettled old s.journal checkpoint rs → IsPending new t.journal checkpoint rs (record_bytes (Advance now))) → Fit new t
  fit_refused closes unsures ran t recorded slots clock = appends.fit_refused old new s (Advance now) (advanced now) k refl is_value tt is_made none fit finds t recorded (ap (λ (u : SlotTable). u.keys) slots) (keeps_slots old s t fit slots) clock closes unsures ran

-- what holds of a store by itself holds once time has passed
pub sound_aged : (s t : Seen) (now : Moment) (old new : NodeMap) → IsSound s old → IsCounted t.slots new → t.recorded ≡ advance s.recorded now → t.clock ≡ now → t.slots ≡ s.slots → t.journal.clean ≡ true
    → t.journal.end ≤ s.journal.end + 14 → s.recorded.clock.second < now.second → now.second ≤ 2 ^ 36 → IsSound t new
sound_aged s t now old new sound counted is clock slots clean end later early = record {
  late = omega (arith, ap (λ (m : Machine). m.clock.second) is, ap (λ (m : Moment). m.second) clock);
  early = omega (arith, early, ap (λ (m : Moment). m.second) clock);
  few = omega (arith, sound.few, ap (λ (m : Machine). m.changes) is);
  room = omega (arith, end, sound.room, later, ap (λ (m : Machine). m.clock.second) is, ap (λ (m : Machine). m.changes) is);
  given = λ stamp slot e. let below = sound.given stamp slot (ap (λ (u : SlotTable). fin.get u.keys stamp) (sym slots) ∙ e) in omega (arith, below, ap (λ (m : Machine). m.stamps) is);
  slotted = subst (λ (u : SlotTable). AreSlotted u.keys t.recorded) (sym slots) (subst (AreSlotted s.slots.keys) (sym is) (each_aged (λ block. IsSome (fin.get s.slots.keys block.stamp)) s.recorded now sound.slotted));
  counted = counted;
  indexed = subst AreIndexed (sym is) (indexed_aged s.recorded now sound.indexed);
  laws = subst HasLaws (sym is) (laws_aged s.recorded now (omega (arith, later)) early sound.laws);
  area = ap (λ (u : SlotTable). is_blocks u.area) slots ∙ sound.area;
  clean = λ none. clean;
}

-- ---- the machines

-- time passes for what is recorded, or for what answers calls
pub aged_running : (old new : View) (s t : Seen) (now : Moment) → s.clock.second ≤ now.second → t.clock ≡ now → IsAged (recorded old s) now (recorded new t) → running new t ≡ advance (running old s) now
aged_running old new s t now later clock aged =
    (λ i. advance (recorded new t) (clock i)) ∙ ⊎_elim (λ is. ap (λ (m : Machine). advance m now) is) (λ is. ap (λ (m : Machine). advance m now) is ∙ again (recorded old s) now now (omega arith)) aged
    ∙ sym (again (recorded old s) s.clock now later)

-- a machine at its clock has all arrays that it will have then
pub stays_now : (m : Machine) (now : Moment) → m.clock.second ≡ now.second → advance m m.clock ≡ m → StaysUntil m now
stays_now m now e rests key = ap (λ (x : Machine). array_of x key) ((λ i. advance m (record { second = sym e i })) ∙ rests)

pub stays_aged : (m : Machine) (now : Moment) → StaysUntil (advance m now) now
stays_aged m now key = ap (λ (x : Machine). array_of x key) (again m now now (omega arith))

-- ---- what images stand for

-- the record of time is there, and so is the machine behind it
pub left_aged : (Failed : Type 0) (old new : View) (s t : Seen) (now : Moment) → recorded new t ≡ advance (recorded old s) now → Leaves old new (StandsOrAfter old s (advanced now)) → Leaves old new (MayLeave Failed old new s t (advanced now))
left_aged Failed old new s t now is leaves = leaves_weaker old new (StandsOrAfter old s (advanced now)) (MayLeave Failed old new s t (advanced now))
    (λ image h. ⊎_elim (λ one. inl one) (λ after. inr (inl (subst (λ (m : Machine). Stands image m) (after.leads ∙ sym is) after.stands))) h) leaves

-- calls without the disk that leave what is recorded
pub left_on : (Failed Told : Type 0) → (Failed → Told) → (old new : View) (s u t : Seen) (now : Moment) → recorded new t ≡ recorded new u → Leaves old new (MayLeave Failed old new s u (advanced now)) → Leaves old new (MayLeave Told old new s t (advanced now))
left_on Failed Told told old new s u t now is leaves = leaves_weaker old new (MayLeave Failed old new s u (advanced now)) (MayLeave Told old new s t (advanced now))
    (λ image h. ⊎_elim (λ one. inl one) (λ rest. ⊎_elim (λ stands. inr (inl (subst (λ (m : Machine). Stands image m) (sym is) stands))) (λ after. inr (inr (told after.0, after.1))) rest) h) leaves
