-- A store that isn't opened on a disk which stands for a machine.
use Rattle.std.proofs.Common.{◌≡◌, inl, inr, ⊎_elim, ℕ, List, [], ◌∷◌, true, refl, sym, ap, subst, ◌∙◌}
use Rattle.ebs_world.specs.declared.area.Area.{Area}
use Rattle.ebs_world.specs.declared.area.Area.TheVariants.{Archive}
use Rattle.ebs_world.specs.Image.{Image}
use Rattle.ebs_world.specs.View.{View}
use Rattle.ebs_journal.specs.inner.Opening.{IsFault}
use Rattle.ebs_journal.specs.Opening.{IsJournal, IsRefused}
use Rattle.ebs_journal.specs.declared.refusal.JournalRefusal.{JournalRefusal}
use Rattle.ebs_journal.specs.declared.refusal.JournalRefusal.TheVariants as of_journal
use Rattle.ebs_model.specs.Machine.{Machine}
use Rattle.ebs_records.specs.declared.record.Record.{Record}
use Rattle.ebs_records.specs.declared.record.Record.TheVariants.{Accepted, Advance, Moved}
use Rattle.ebs_records.specs.Records.{IsRecord, record_bytes}
use Rattle.ebs_checkpoints.specs.Checkpoints.{spelled}
use Rattle.ebs_recovery.specs.Made.{State, followed}
use Rattle.ebs_recovery.specs.Stands.{Records, Stands, unmade, as_recorded}
use Rattle.ebs_recovery.specs.inner.BaseLaws.{OneIsSaid}
use Rattle.ebs_recovery.specs.Replays.{IsBad, IsBadBehind, Replays}
use Rattle.ebs_recovery.specs.inner.ReplayLaws.{NoneBad, RecordsGiveMachine}
use Rattle.ebs_recovery.proofs.Readers.{one_spelling}
use Rattle.ebs_disk_store.specs.declared.refusal.OpenRefusal.{OpenRefusal}
use Rattle.ebs_disk_store.specs.declared.refusal.OpenRefusal.TheVariants.{DiskFailed, NotMade, AlreadyMade, NotAJournal, BadVersion, BadRecord, BadCheckpoint, NotBuilt, Memory}
use Rattle.ebs_disk_store.specs.Opened.{is_unbuilt, Starts, IsNoCheckpoint, IsOtherCheckpoint, IsUnbuiltBehind, IsUnopened}
use Rattle.ebs_disk_store.specs.inner.Opened.{MayRefuse}

abbrev pub NoneRefused : Type 0
NoneRefused = (c : Image) (a : Area) (d : ℕ) (p : List ℕ) (rs : List (List ℕ)) (refusal : JournalRefusal) → IsJournal c a d p rs → IsRefused c refusal → IsFault refusal

abbrev pub OneJournal : Type 0
OneJournal = (c : Image) (a b : Area) (d e : ℕ) (p q : List ℕ) (qs rs : List (List ℕ)) → IsJournal c a d p qs → IsJournal c b e q rs → (a ≡ b) × (d ≡ e) × (p ≡ q) × (qs ≡ rs)

-- ---- before a store is made

module _ (c : Image) (zero : c Archive 0 ≡ 0) where
  no_nine : {A : Type 0} (nine : List ℕ) → IsRefused c (of_journal.NotAJournal nine) → A
  no_nine nine (inl h) = absurd (h.0 zero)
  no_nine nine (inr h) = absurd (h.2.made zero)

  no_version : {A : Type 0} (n : ℕ) → IsRefused c (of_journal.BadVersion n) → A
  no_version n h = absurd (h.2.made zero)

  no_length : {A : Type 0} (place : ℕ) → IsRefused c (of_journal.BadLength place) → A
  no_length place h = absurd (h.2.made zero)

-- ---- behind a history

module _ (c : Image) (m : Machine) (r : Records c m) (none : NoneRefused) (one : OneJournal) (give : RecordsGiveMachine) (none_bad : NoneBad) (said : OneIsSaid) where
  free : (refusal : JournalRefusal) → IsRefused c refusal → IsFault refusal
  free refusal h = none c r.area r.epoch r.checkpoint _ refusal r.journal h

  its_checkpoint : (area : Area) (epoch : ℕ) (checkpoint : List ℕ) (payloads : List (List ℕ)) → IsJournal c area epoch checkpoint payloads → checkpoint ≡ spelled r.begins.is.point
  its_checkpoint area epoch checkpoint payloads journal = sym (one c r.area area r.epoch epoch r.checkpoint checkpoint _ payloads r.journal journal).2 ∙ r.begins.is.is

  no_bad : {A : Type 0} (area : Area) (epoch : ℕ) (checkpoint : List ℕ) (payloads before : List (List ℕ)) (base : State) → IsJournal c area epoch checkpoint payloads → Starts checkpoint base
      → IsBadBehind base payloads before → A
  no_bad area epoch checkpoint payloads before base journal starts bad =
      let k = (give c m area epoch starts.point payloads r starts.is_checkpoint (subst (λ (l : List ℕ). IsJournal c area epoch l payloads) starts.is journal)).1 in
      absurd (none_bad base k.0 payloads before (subst (λ (b : State). Replays b payloads k.0) (sym (said starts.point base starts.says)) k.1) bad)

  -- its checkpoint has all rules
  no_checkpoint : {A : Type 0} (area : Area) (epoch : ℕ) (checkpoint : List ℕ) (payloads : List (List ℕ)) → IsJournal c area epoch checkpoint payloads → IsNoCheckpoint checkpoint → A
  no_checkpoint area epoch checkpoint payloads journal h = absurd (h r.begins.is.point r.begins.is.is_checkpoint (its_checkpoint area epoch checkpoint payloads journal))

  -- and nothing of it is in the archive
  no_other : {A : Type 0} (area : Area) (epoch : ℕ) (checkpoint : List ℕ) (payloads : List (List ℕ)) → IsJournal c area epoch checkpoint payloads → IsOtherCheckpoint checkpoint → A
  no_other area epoch checkpoint payloads journal h = absurd (h.elsewhere (give c m area epoch h.point payloads r h.is_checkpoint (subst (λ (l : List ℕ). IsJournal c area epoch l payloads) h.is journal)).0)

  moved_bad : (between : State) (payload : List ℕ) (t : _) → IsRecord (Moved t) → payload ≡ record_bytes (Moved t) → IsBad between payload
  moved_bad between payload t value is q v e = ap (λ (x : Record). followed between (x ∷ [])) (one_spelling q (Moved t) v value (sym e ∙ is))

  no_unbuilt : {A : Type 0} (area : Area) (epoch : ℕ) (checkpoint : List ℕ) (payloads : List (List ℕ)) → IsJournal c area epoch checkpoint payloads → IsUnbuiltBehind checkpoint payloads → A
  no_unbuilt {A} area epoch checkpoint payloads journal h = by h.unbuilt.made h.unbuilt.value h.unbuilt.is h.unbuilt.unbuilt
    where
      by : (x : Record) → IsRecord x → h.payload ≡ record_bytes x → is_unbuilt x ≡ true → A
      by (Accepted a) value is unbuilt = absurd (cc)
      by (Advance at) value is unbuilt = absurd (cc)
      by (Moved t) value is unbuilt = no_bad area epoch checkpoint payloads h.before h.base journal h.starts
          (record { payload = h.payload; rest = h.rest; is = h.is; between = h.between; replays = h.replays; bad = moved_bad h.between h.payload t value is })

never_nine : {A : Type 0} (nine : List ℕ) → IsFault (of_journal.NotAJournal nine) → A
never_nine nine (inl e) = absurd (cc)
never_nine nine (inr e) = absurd (cc)

never_version : {A : Type 0} (n : ℕ) → IsFault (of_journal.BadVersion n) → A
never_version n (inl e) = absurd (cc)
never_version n (inr e) = absurd (cc)

never_length : {A : Type 0} (n : ℕ) → IsFault (of_journal.BadLength n) → A
never_length n (inl e) = absurd (cc)
never_length n (inr e) = absurd (cc)

pub stood : NoneRefused → OneJournal → RecordsGiveMachine → NoneBad → OneIsSaid → (old new : View) (refusal : OpenRefusal) → IsUnopened old new refusal → old.tells ≡ true → (m : Machine) → Stands old.reads m → MayRefuse refusal
stood none one give none_bad said old new DiskFailed h told m stands = tt
stood none one give none_bad said old new NotMade h told m stands = tt
stood none one give none_bad said old new Memory h told m stands = tt
stood none one give none_bad said old new AlreadyMade h told m stands = h
stood none one give none_bad said old new (NotAJournal nine) h told m (unmade zero e) = no_nine old.reads zero nine (h told)
stood none one give none_bad said old new (NotAJournal nine) h told m (as_recorded r) = never_nine nine (free old.reads m r none one give none_bad said (of_journal.NotAJournal nine) (h told))
stood none one give none_bad said old new (BadVersion n) h told m (unmade zero e) = no_version old.reads zero n (h told)
stood none one give none_bad said old new (BadVersion n) h told m (as_recorded r) = never_version n (free old.reads m r none one give none_bad said (of_journal.BadVersion n) (h told))
stood none one give none_bad said old new BadCheckpoint h told m (unmade zero e) = ⊎_elim (λ bad. no_length old.reads zero 21 bad) (λ bad. absurd (bad.journal.made zero)) (h told)
stood none one give none_bad said old new BadCheckpoint h told m (as_recorded r) = ⊎_elim
    (λ bad. never_length 21 (free old.reads m r none one give none_bad said (of_journal.BadLength 21) bad))
    (λ bad. no_checkpoint old.reads m r none one give none_bad said bad.area bad.epoch bad.checkpoint bad.payloads bad.journal bad.has)
    (h told)
stood none one give none_bad said old new (BadRecord place) h told m (unmade zero e) = ⊎_elim (λ bad. no_length old.reads zero place bad.1) (λ bad. absurd (bad.journal.made zero)) (h told)
stood none one give none_bad said old new (BadRecord place) h told m (as_recorded r) = ⊎_elim
    (λ bad. never_length place (free old.reads m r none one give none_bad said (of_journal.BadLength place) bad.1))
    (λ bad. no_bad old.reads m r none one give none_bad said bad.area bad.epoch bad.checkpoint bad.payloads bad.has.before bad.has.base bad.journal bad.has.starts bad.has.bad)
    (h told)
stood none one give none_bad said old new NotBuilt h told m (unmade zero e) = let bad = h told in absurd (bad.journal.made zero)
stood none one give none_bad said old new NotBuilt h told m (as_recorded r) =
    let bad = h told in
    ⊎_elim
    (λ other. no_other old.reads m r none one give none_bad said bad.area bad.epoch bad.checkpoint bad.payloads bad.journal other)
    (λ behind. no_unbuilt old.reads m r none one give none_bad said bad.area bad.epoch bad.checkpoint bad.payloads bad.journal behind)
    bad.has
