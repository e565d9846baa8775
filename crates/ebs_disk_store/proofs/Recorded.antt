-- A change of a row that is recorded.
use Rattle.std.proofs.Common.{◌≡◌, ◌⊎◌, inl, inr, ℕ, ◌<◌, ◌^◌, ◌*◌, ◌+◌, ◌≤◌, ◌∷◌, ◌++◌, Bool, true, false, List, [], None, Some, Option, Result, Err, refl, sym, ap, subst, ◌∙◌, arith, nat_le}
use Rattle.std.specs.Prelude.{◌==◌, if◌then◌else◌, IsSome}
use Rattle.std.proofs.lemmas.Bool.Decides.{nat_tests}
use Rattle.ebs_world.specs.View.{View, Ran, Leaves}
use Rattle.ebs_journal.specs.Opening.{OffJournal}
use Rattle.ebs_journal.specs.inner.Standing.{IsSettled, IsPending, IsOrAlso}
use Rattle.ebs_model.specs.declared.keys.Moment.{Moment}
use Rattle.ebs_model.specs.declared.request.Request.{Request}
use Rattle.ebs_model.specs.declared.request.Request.TheVariants.{StartSnapshot, PutSnapshotBlock, CompleteSnapshot, ListSnapshotBlocks, ListChangedBlocks, GetSnapshotBlock, DescribeSnapshot, DescribeSnapshots, DeleteSnapshot, ModifyPermission, LockSnapshot, UnlockSnapshot, ArchiveSnapshot, RestoreTier, CreateVolume, CreateSnapshot, WriteVolumeBlock, ReadVolumeBlock, DescribeVolume, DeleteVolume, CreateRule, GetRule, UpdateRule, DeleteRule, ListRules, LockRule, UnlockRule, ListBin, RestoreFromBin, CreatePolicy, GetPolicy, DeletePolicy, RunPolicy}
use Rattle.ebs_model.specs.declared.answer.Answer.{Answer}
use Rattle.ebs_model.specs.declared.change.Change.{Change}
use Rattle.ebs_model.specs.Kept.{same}
use Rattle.ebs_model.specs.Limits.{bad_member}
use Rattle.ebs_model.specs.Machine.{Machine, advance, is_spent}
use Rattle.ebs_lawful.proofs.Lawful.{good-within}
use Rattle.ebs_lineage.specs.Table.{NodeMap}
use Rattle.ebs_collect.specs.Slices.{IsCounted}
use Rattle.ebs_slots.specs.inner.Slots.{SlotTable}
use Rattle.std.specs.FinMap as fin
use Rattle.ebs_disk_store.specs.inner.Shown.{AreIndexed, AreSlotted, HasLaws, IsSound, is_blocks}
use Rattle.ebs_disk_store.proofs.PutSets.{indexed_acts, row_fits}
use Rattle.ebs_disk_store.proofs.Lawful.{laws_acts}
use Rattle.ebs_model.specs.Step.{act, changed, writes_of}
use Rattle.ebs_records.specs.declared.record.Record.{Record}
use Rattle.ebs_records.specs.declared.record.Record.TheVariants.{Accepted}
use Rattle.ebs_records.specs.Records.{IsRecord, record_bytes}
use Rattle.ebs_recovery.specs.Made.{State, SlotOfStamp, Made, called, IsValue, made, if_changed, record_of}
use Rattle.ebs_recovery.specs.inner.Made.{kept_change, Leads}
use Rattle.ebs_recovery.proofs.Outcomes.{comes, each_aged, is_after}
use Rattle.ebs_recovery.proofs.OneMore.{if_none}
use Rattle.ebs_model.specs.Arrays.{WholeBlock}
use Rattle.ebs_recovery.specs.inner.Fits.{Seen, Fit, IsStagedFor, IsStagedChange, kept_state, StandsOrAfter, recorded}
use Rattle.ebs_recovery.specs.inner.FitLaws.{KeptFormFinds, ImagesWhileAppended, AcknowledgedFits, UnsureFits, ClosedFits}
use Rattle.ebs_recovery.specs.inner.Changes.{IsRowChange}
use Rattle.ebs_disk_store.specs.inner.Calls.{IsRuled}
use Rattle.ebs_disk_store.specs.declared.store.Stop.{Stop}
use Rattle.ebs_disk_store.specs.inner.Told.{called_at, unsure}
use Rattle.ebs_disk_store.proofs.RowCalls.{plain}
use Rattle.ebs_disk_store.proofs.Appends as appends
use Rattle.ebs_disk_store.proofs.Held.{keeps_slots}

unstaged : (v : View) (top : ℕ) (r : Request) → IsRowChange r → IsStagedFor v top r None
unstaged v top (DeleteSnapshot key) h = tt
unstaged v top (LockSnapshot key mode term cool_hours) h = tt
unstaged v top (UnlockSnapshot key) h = tt
unstaged v top (ArchiveSnapshot key) h = tt
unstaged v top (RestoreTier key days) h = tt
unstaged v top (DeleteVolume key) h = tt
unstaged v top (StartSnapshot size parent description tags token timeout) h = tt
unstaged v top (PutSnapshotBlock key index digest bytes) h = absurd h
unstaged v top (CompleteSnapshot key count checksum) h = tt
unstaged v top (ListSnapshotBlocks key page most start) h = absurd h
unstaged v top (ListChangedBlocks first second page most start) h = absurd h
unstaged v top (GetSnapshotBlock key index token) h = absurd h
unstaged v top (DescribeSnapshot key) h = absurd h
unstaged v top (DescribeSnapshots from most) h = absurd h
unstaged v top (ModifyPermission key add add_all remove remove_all) h = tt
unstaged v top (CreateVolume origin size tags token) h = tt
unstaged v top (CreateSnapshot key description tags) h = tt
unstaged v top (WriteVolumeBlock key index digest bytes) h = absurd h
unstaged v top (ReadVolumeBlock key index) h = absurd h
unstaged v top (DescribeVolume key) h = absurd h
unstaged v top (CreateRule days tags description delay) h = tt
unstaged v top (GetRule key) h = absurd h
unstaged v top (UpdateRule key days tags description) h = tt
unstaged v top (DeleteRule key) h = tt
unstaged v top ListRules h = absurd h
unstaged v top (LockRule key delay) h = tt
unstaged v top (UnlockRule key) h = tt
unstaged v top (ListBin from most) h = absurd h
unstaged v top (RestoreFromBin key) h = tt
unstaged v top (CreatePolicy targets hours time retain add) h = tt
unstaged v top (GetPolicy key) h = absurd h
unstaged v top (DeletePolicy key) h = tt
unstaged v top (RunPolicy key) h = tt

le_true : (m n : ℕ) → m ≤ n → nat_le m n ≡ true
le_true m n h = grind (arith, nat_tests)

same_number : (n : ℕ) → (n == n) ≡ true
same_number n = grind (arith, nat_tests)

module _ (old new : View) (s : Seen) (account : ℕ) (now : Moment) (request : Request) (row : IsRowChange request) (change : Change) (answer : Answer)
    (ruled : IsRuled (advance s.recorded now) account request change answer) (value : IsRecord (Accepted (called_at account now request)))
    (late : s.recorded.clock.second ≤ now.second) (none : s.pending ≡ None) (fit : Fit old s) (finds : KeptFormFinds old) where
  abbrev pub e : Made
  e = called (called_at account now request)

  abbrev pub next_form : Machine
  next_form = changed (advance s.recorded now) [] change

  abbrev k : State
  k = record { machine = next_form; slots = s.slots.keys }

  record_is : record_of e ≡ Accepted (called_at account now request)
  record_is = let p = plain request row in ap (λ (r : Request). Accepted (called_at account now r)) p.bare

  is_value : IsValue e
  is_value = record { is_record = subst IsRecord (sym record_is) value; whole = (plain request row).whole }

  is_made : made same (kept_state s) (kept_change e) ≡ Some k
  is_made =
      (λ i. if le_true s.recorded.clock.second now.second late i then if_changed (kept_state s) None (act same (advance s.recorded now) account ((plain request row).kept i)) else None)
      ∙ ap (if_changed (kept_state s) None) ruled.acts
      ∙ ap (λ (b : Bool). if b then Some k else None) (same_number (s.recorded.changes + 1))

  abbrev r : Record
  r = Accepted (called_at account now request)

  staged : IsStagedChange old s.slots.top e
  staged = unstaged old s.slots.top request row

  -- at each moment
  pub while_appended : ImagesWhileAppended old new → Ran OffJournal old new
      → ((checkpoint : List ℕ) (rs : List (List ℕ)) → IsSettled old s.journal checkpoint rs → Leaves old new (λ c. IsOrAlso c s.journal checkpoint rs (record_bytes (Accepted (called_at account now request)))))
      → Leaves old new (StandsOrAfter old s e)
  while_appended = appends.while_appended old new s r e k record_is is_value staged is_made none fit finds

  -- it was made durable
  pub fit_taken : AcknowledgedFits old new → Ran OffJournal old new → (t : Seen) → t.recorded ≡ next_form → t.clock ≡ now → t.slots ≡ s.slots → t.pending ≡ None
      → ((checkpoint : List ℕ) (rs : List (List ℕ)) → IsSettled old s.journal checkpoint rs → IsSettled new t.journal checkpoint (rs ++ record_bytes (Accepted (called_at account now request)) ∷ []))
      → Fit new t × Leads (recorded old s) e (recorded new t)
  fit_taken law ran t is clock slots = appends.fit_taken old new s r e k record_is is_value staged is_made none fit finds law ran t is (ap (λ (u : SlotTable). u.keys) slots) (keeps_slots old s t fit slots) clock

  -- it wasn't acknowledged
  pub fit_refused : ClosedFits old new → UnsureFits old new → Ran OffJournal old new → (t : Seen) → t.recorded ≡ s.recorded → t.slots ≡ s.slots → t.clock ≡ s.clock
      → (t.journal.clean ≡ true → t.pending ≡ None) → (t.journal.clean ≡ false → t.pending ≡ Some (Accepted (called_at account now request)))
      → (t.journal.clean ≡ true → (checkpoint : List ℕ) (rs : List (List ℕ)) → IsSettled old s.journal checkpoint rs → IsSettled new t.journal checkpoint rs)
      → (t.journal.clean ≡ false → (checkpoint : List ℕ) (rs : List (List ℕ)) → IsSettled old s.journal checkpoint rs → IsPending new t.journal checkpoint rs (record_bytes (Accepted (called_at account now request)))) → Fit new t
  fit_refused closes unsures ran t recorded slots clock = appends.fit_refused old new s r e k record_is is_value staged is_made none fit finds t recorded (ap (λ (u : SlotTable). u.keys) slots) (keeps_slots old s t fit slots) clock closes unsures ran

-- the store that a change is not acknowledged of is as it was, or has its record pending
pub left_as : (s t : Seen) (r : Record) (u : Seen) → s ≡ u → t.recorded ≡ s.recorded → t.slots ≡ s.slots → t.waiting ≡ s.waiting → t.clock ≡ s.clock → s.pending ≡ None → s.journal.clean ≡ true
    → t.journal ≡ record s.journal { clean = t.journal.clean } → (t.journal.clean ≡ true → t.pending ≡ None) → (t.journal.clean ≡ false → t.pending ≡ Some r) → (t ≡ u) ⊎ (t ≡ unsure u r)
left_as s t r u view recorded slots waiting clock none clean journal known kept = at t.journal.clean refl
  where
    as_was : t.journal.clean ≡ true → t ≡ s
    as_was is = λ i. record { recorded = recorded i; clock = clock i; slots = slots i; waiting = waiting i; journal = (journal ∙ ap (λ (b : Bool). record s.journal { clean = b }) (is ∙ sym clean)) i; pending = (known is ∙ sym none) i }

    as_unsure : t.journal.clean ≡ false → t ≡ unsure s r
    as_unsure is = λ i. record { recorded = recorded i; clock = clock i; slots = slots i; waiting = waiting i; journal = (journal ∙ ap (λ (b : Bool). record s.journal { clean = b }) is) i; pending = kept is i }

    at : (b : Bool) → t.journal.clean ≡ b → (t ≡ u) ⊎ (t ≡ unsure u r)
    at true is = inl (as_was is ∙ view)
    at false is = inr (as_unsure is ∙ ap (λ (w : Seen). unsure w r) view)

-- an error has one reason
pub stop_is : {T : Type 0} (a b : Stop) → ◌≡◌ {A = Result T Stop} (Err a) (Err b) → a ≡ b
stop_is a b e = cc

-- and as it was where its journal is
pub left_still : (s t u : Seen) → s ≡ u → t.recorded ≡ s.recorded → t.slots ≡ s.slots → t.waiting ≡ s.waiting → t.clock ≡ s.clock → t.journal ≡ s.journal → t.pending ≡ s.pending → t ≡ u
left_still s t u view recorded slots waiting clock journal pending = (λ i. record { recorded = recorded i; clock = clock i; slots = slots i; waiting = waiting i; journal = journal i; pending = pending i }) ∙ view

-- what holds of a store by itself holds where a change isn't acknowledged
pub sound_left : (s t : Seen) (r : Record) (old new : NodeMap) → IsSound s old → IsCounted t.slots new → t.recorded ≡ s.recorded → t.slots.keys ≡ s.slots.keys → t.slots.area ≡ s.slots.area → t.clock ≡ s.clock → t.journal.end ≡ s.journal.end
    → (t.journal.clean ≡ false → t.pending ≡ Some r) → IsSound t new
sound_left s t r old new sound counted recorded keys area clock end kept = record {
  late = subst (λ (m : Machine). m.clock.second ≤ t.clock.second) (sym recorded) (subst (λ (m : Moment). s.recorded.clock.second ≤ m.second) (sym clock) sound.late);
  early = subst (λ (m : Moment). m.second ≤ 2 ^ 36) (sym clock) sound.early;
  few = subst (λ (m : Machine). m.changes ≤ 2 ^ 40) (sym recorded) sound.few;
  room = subst (λ (m : Machine). t.journal.end ≤ 2 ^ 41 + 14 * m.clock.second + 1048581 * m.changes) (sym recorded)
      (subst (λ (n : ℕ). n ≤ 2 ^ 41 + 14 * s.recorded.clock.second + 1048581 * s.recorded.changes) (sym end) sound.room);
  given = λ stamp slot e. subst (λ (m : Machine). stamp < m.stamps) (sym recorded) (sound.given stamp slot (ap (λ (u : SlotOfStamp). fin.get u stamp) (sym keys) ∙ e));
  slotted = subst (λ (u : SlotOfStamp). AreSlotted u t.recorded) (sym keys) (subst (AreSlotted s.slots.keys) (sym recorded) sound.slotted);
  counted = counted;
  indexed = subst AreIndexed (sym recorded) sound.indexed;
  laws = subst HasLaws (sym recorded) sound.laws;
  area = ap is_blocks area ∙ sound.area;
  clean = λ none. at none t.journal.clean refl;
}
  where
    nothing : {A : Type 0} {x : A} {o : Option A} → None ≡ o → o ≡ Some x → ⊥
    nothing a b = cc

    at : t.pending ≡ None → (b : Bool) → t.journal.clean ≡ b → t.journal.clean ≡ true
    at none true is = is
    at none false is = absurd (nothing (sym none) (kept is))

few_left : (changes : ℕ) → nat_le (2 ^ 40) changes ≡ false → changes < 2 ^ 40
few_left changes e = grind (arith, nat_tests)

pub unspent : (m : Machine) (now : Moment) → is_spent (advance m now) ≡ false → m.changes < 2 ^ 40
unspent m now e = few_left m.changes e

-- a block has a slot
abbrev IsSlotted : SlotOfStamp → WholeBlock → Type 0
IsSlotted keys block = IsSome (fin.get keys block.stamp)

-- what holds of a store by itself holds after a change
pub sound_taken : (s t : Seen) (account : ℕ) (now : Moment) (request : Request) (change : Change) (answer : Answer) (old new : NodeMap) → IsSound s old → IsCounted t.slots new → IsRowChange request → bad_member request ≡ None → IsRuled (advance s.recorded now) account request change answer → t.recorded ≡ changed (advance s.recorded now) [] change → t.clock ≡ now → t.slots ≡ s.slots → t.journal.clean ≡ true
    → t.journal.end ≤ s.journal.end + 1048581 → s.recorded.changes < 2 ^ 40 → s.recorded.clock.second ≤ now.second → now.second ≤ 2 ^ 36 → IsSound t new
sound_taken s t account now request change answer old new sound counted row within ruled is clock slots clean end few later early =
    let more : t.recorded.changes ≡ s.recorded.changes + 1 = ap (λ (m : Machine). m.changes) is in
    let stamps : t.recorded.stamps ≡ s.recorded.stamps + writes_of change.request = ap (λ (m : Machine). m.stamps) is in
    record {
      late = omega (arith, ap (λ (m : Machine). m.clock.second) is, ap (λ (m : Moment). m.second) clock);
      early = omega (arith, early, ap (λ (m : Moment). m.second) clock);
      few = omega (arith, more, few);
      room = omega (arith, more, end, sound.room, later, ap (λ (m : Machine). m.clock.second) is);
      given = λ stamp slot e. let below = sound.given stamp slot (ap (λ (u : SlotTable). fin.get u.keys stamp) (sym slots) ∙ e) in omega (arith, below, stamps);
      slotted = subst (λ (u : SlotTable). AreSlotted u.keys t.recorded) (sym slots) (subst (AreSlotted s.slots.keys) (sym is)
          (comes (IsSlotted s.slots.keys) (advance s.recorded now) (each_aged (IsSlotted s.slots.keys) s.recorded now sound.slotted) request (changed (advance s.recorded now) [] change)
          (is_after same (advance s.recorded now) account request (changed (advance s.recorded now) [] change) answer ruled.acts)
          (if_none (IsSlotted s.slots.keys) s.recorded.stamps request (plain request row).writes)));
      counted = counted;
      indexed = subst AreIndexed (sym is) (indexed_acts same s.recorded now account request _ answer ruled.acts (row_fits request row) sound.indexed);
      laws = subst HasLaws (sym is) (laws_acts same s.recorded now account request _ answer ruled.acts (good-within request within) later early sound.laws);
      area = ap (λ (u : SlotTable). is_blocks u.area) slots ∙ sound.area;
      clean = λ none. clean;
    }
