-- What may be pending, and what it makes of an image.
use Rattle.std.proofs.Common.{◌≡◌, ◌⊎◌, inl, inr, suc, ◌+◌, ◌≤◌, ℕ, List, [], ◌∷◌, ◌++◌, length, append_assoc, Option, Some, None, Ok, refl, sym, ap, subst, ◌∙◌, arith}
use Rattle.std.proofs.lemmas.List.{length-append}
use Rattle.sha2.specs.Sha256.{sha256}
use Rattle.ebs_world.specs.Image.{Image}
use Rattle.ebs_world.specs.View.{View}
use Rattle.ebs_model.specs.Limits.{bad_member}
use Rattle.ebs_model.specs.declared.keys.Moment.{Moment}
use Rattle.ebs_model.specs.declared.request.Request.{Request}
use Rattle.ebs_model.specs.declared.request.Request.TheVariants.{PutSnapshotBlock, WriteVolumeBlock}
use Rattle.ebs_model.specs.declared.answer.Answer.{Answer}
use Rattle.ebs_model.specs.declared.answer.Answer.TheVariants.{Refused}
use Rattle.ebs_model.specs.declared.answer.Refusal.TheVariants.{Unavailable}
use Rattle.ebs_model.specs.Machine.{Machine, advance}
use Rattle.ebs_model.specs.Step.{act}
use Rattle.ebs_exchanges.specs.Stops.{Point, Along, OwnCall, IsDoneAs}
use Rattle.ebs_exchanges.proofs.Untold.{as_asked}
use Rattle.ebs_records.specs.declared.record.AcceptedCall.{AcceptedCall}
use Rattle.ebs_records.specs.declared.record.Record.{Record}
use Rattle.ebs_records.specs.declared.record.Record.TheVariants.{Accepted, Advance, Moved}
use Rattle.ebs_recovery.specs.Made.{Made, called, advanced, bare, record_of, IsWhole, HasWholeBlock}
use Rattle.ebs_recovery.specs.Stands.{Stands}
use Rattle.ebs_recovery.specs.inner.Stands.{refilled}
use Rattle.ebs_recovery.specs.inner.Fits.{Seen, recorded, StandsAfter, StandsForOne, for_recorded, with_pending}
use Rattle.ebs_disk_store.specs.inner.Calls.{recorded_request}
use Rattle.ebs_disk_store.specs.inner.Pending.{IsRecordOf, IsPendingAfter, RecordedCallsAreAsked, DoneAsAsked}
use Rattle.ebs_disk_store.specs.inner.Told.{at_reading, called_at}
use Rattle.ebs_service.specs.inner.Fronts.{point}
use Rattle.ebs_service.specs.Fronts.{OneMoreOf}

-- ---- a call that was done

record IsDone (m : Machine) (account : ℕ) (asked : Request) (next : Machine) (answer : Answer) : Type 0 where
  done : Request
  is_done : IsDoneAs done asked
  acts : act sha256 m account done ≡ Ok (next, answer)

-- by its record
by_record : (m : Machine) (account : ℕ) (asked made : Request) (next : Machine) (answer : Answer) → IsWhole made → DoneAsAsked m account asked made next answer → act sha256 m account made ≡ Ok (next, answer) → IsDone m account asked next answer
by_record m account (PutSnapshotBlock key index digest bytes) made next answer whole (found, is) acts = record { done = made; is_done = (found, subst IsWhole is whole, is); acts = acts }
by_record m account (WriteVolumeBlock key index digest bytes) made next answer whole (found, is) acts = record { done = made; is_done = (found, subst IsWhole is whole, is); acts = acts }
by_record m account asked made next answer whole done acts = record { done = asked; is_done = refl; acts = done }

-- ---- the record of a call

abbrev accepted_in : AcceptedCall → Record → AcceptedCall
accepted_in a (Accepted b) = b
accepted_in a (Advance at) = a
accepted_in a (Moved transfer) = a

same_call : (a b : AcceptedCall) → Accepted a ≡ Accepted b → a ≡ b
same_call a b e = ap (accepted_in a) e

no_advance : (at : Moment) (a : AcceptedCall) → Advance at ≡ Accepted a → ⊥
no_advance at a e = cc

-- the machines of a store over a disk of which a read gives this image
abbrev point_of : Image → Seen → Point
point_of c s = let m = refilled c s.slots.keys s.recorded in record { recorded = m; running = advance m s.clock }

-- what has one more isn't as it was
no_more : {X : Type 0} (xs ys : List X) (x : X) → xs ++ x ∷ ys ≡ xs → ⊥
no_more {X} xs ys x e = let same : length xs + suc (length ys) ≡ length xs = sym (length-append xs (x ∷ ys)) ∙ ap (λ (l : List X). length l) e in omega (arith, same)

abbrev pub moment_of_call : Seen → OwnCall → Moment
moment_of_call s made = at_reading s (record { second = made.reading })

-- of exchanges, or of calls
module _ {X : Type 0} (Makes : X → OwnCall → Type 0) (Part : Point → X → Point → Type 0) (start : Point) where
  -- a record of the call of one of these, which was answered E17; what is recorded now was recorded then
  pub record IsRecordIn (past : List X) (now : Machine) (r : Record) : Type 0 where
    pub before : List X
    pub x : X
    pub later : List X
    pub is : past ≡ before ++ x ∷ later
    pub made : OwnCall
    pub makes : Makes x made
    pub within : bad_member made.call.request ≡ None
    pub told : made.answer ≡ Refused Unavailable
    -- what a read of the disk gave then
    pub c : Image
    pub s : Seen
    pub runs : Along Part start before (point_of c s)
    pub untouched : now ≡ refilled c s.slots.keys s.recorded
    pub record_is : IsRecordOf (advance s.recorded (moment_of_call s made)) made.call.account (moment_of_call s made) made.call.request r

  abbrev pub IsPendingIn : List X → Machine → Option Record → Type 0
  IsPendingIn past now None = Unit {0}
  IsPendingIn past now (Some r) = IsRecordIn past now r

  -- one more, which leaves what is recorded
  wider : (past : List X) (x : X) (old new : Machine) (o : Option Record) → new ≡ old → IsPendingIn past old o → IsPendingIn (past ++ x ∷ []) new o
  wider past x old new None same h = tt
  wider past x old new (Some r) same h = record {
    before = h.before;
    x = h.x;
    later = h.later ++ x ∷ [];
    is = ap (λ (l : List X). l ++ x ∷ []) h.is ∙ append_assoc h.before (h.x ∷ h.later) (x ∷ []);
    made = h.made;
    makes = h.makes;
    within = h.within;
    told = h.told;
    c = h.c;
    s = h.s;
    runs = h.runs;
    untouched = same ∙ h.untouched;
    record_is = h.record_is;
  }

  abbrev pub Holds : List X → View → Seen → Type 0
  Holds past v s = IsPendingIn past (recorded v s) s.pending

  module _ (past : List X) (x : X) (v w : View) (s t : Seen) where
    pub still_pending : t.pending ≡ s.pending → recorded w t ≡ recorded v s → Holds past v s → Holds (past ++ x ∷ []) w t
    still_pending same stays pending = subst (IsPendingIn (past ++ x ∷ []) (recorded w t)) (sym same) (wider past x (recorded v s) (recorded w t) s.pending stays pending)

    none_pending : t.pending ≡ None → Holds (past ++ x ∷ []) w t
    none_pending none = subst (IsPendingIn (past ++ x ∷ []) (recorded w t)) (sym none) tt

    -- after a call
    pub pending_after : (made : OwnCall) → Makes x made → bad_member made.call.request ≡ None → Along Part start past (point v s) → Holds past v s
        → IsPendingAfter s t made.call.account (moment_of_call s made) made.call.request made.answer → (t.pending ≡ None) ⊎ (recorded w t ≡ recorded v s) → Holds (past ++ x ∷ []) w t
    pending_after made makes within runs pending after (inl none) = none_pending none
    pending_after made makes within runs pending (inl none) (inr stays) = none_pending none
    pending_after made makes within runs pending (inr (inl same)) (inr stays) = still_pending same stays pending
    pending_after made makes within runs pending (inr (inr (told, call))) (inr stays) =
        subst (IsPendingIn (past ++ x ∷ []) (recorded w t)) (sym call.1)
        (record { before = past; x = x; later = []; is = refl; made = made; makes = makes; within = within; told = told; c = v.reads; s = s; runs = runs; untouched = stays; record_is = call.2 })

  -- ---- an image after a change more

  -- of the call that is in hand, and will be answered by E17
  pub in_hand : (whole past rest : List X) (x : X) (v : View) (s : Seen) (c : Image) (made : OwnCall) → whole ≡ past ++ x ∷ rest → Makes x made → bad_member made.call.request ≡ None → Along Part start past (point v s) → made.answer ≡ Refused Unavailable
      → StandsAfter (recorded v s) (called (called_at made.call.account (moment_of_call s made) made.call.request)) c → OneMoreOf Makes Part start whole past (point v s) c
  in_hand whole past rest x v s c made is makes within runs told stands = record {
    made = made;
    at = point v s;
    is_open = record { before = past; x = x; later = rest; is = is; makes = makes; told = told; runs = runs; untouched = refl; last = inl refl };
    next = stands.next;
    lost = record {
      within = within;
      done = made.call.request;
      is_done = as_asked made.call.request within;
      on_time = stands.more.0;
      answer = stands.leads.0;
      acts = stands.leads.1;
      one_more = stands.more.1;
    };
    exact = λ here. refl;
    stands = stands.stands;
  }

  -- of the call whose record is pending
  module _ (asked : RecordedCallsAreAsked) (whole past rest : List X) (v : View) (s : Seen) (c : Image) (is : whole ≡ past ++ rest) where
    after_record : (e : Made) → HasWholeBlock e → StandsAfter (recorded v s) e c → IsRecordIn past (recorded v s) (record_of e) → OneMoreOf Makes Part start whole past (point v s) c
    after_record (advanced at) has_block stands h = absurd (no_advance at _ h.record_is.is)
    after_record (called a) has_block stands h = record {
      made = h.made;
      at = point_of h.c h.s;
      is_open = record {
        before = h.before;
        x = h.x;
        later = h.later ++ rest;
        is = is ∙ ap (λ (l : List X). l ++ rest) h.is ∙ append_assoc h.before (h.x ∷ h.later) rest;
        makes = h.makes;
        told = h.told;
        runs = h.runs;
        untouched = h.untouched;
        last = inr (h.later, h.is);
      };
      next = stands.next;
      lost = record {
        within = h.within;
        done = done.done;
        is_done = done.is_done;
        on_time = subst (λ (at : Moment). (recorded v s).clock.second ≤ at.second) at_is stands.more.0;
        answer = stands.leads.0;
        acts = subst (λ (m : Machine). act sha256 (advance m now) h.made.call.account done.done ≡ Ok (stands.next, stands.leads.0)) (sym h.untouched) done.acts;
        one_more = stands.more.1;
      };
      exact = λ here. absurd (no_more h.before h.later h.x (sym h.is ∙ here));
      stands = stands.stands;
    }
      where
        now : Moment
        now = moment_of_call h.s h.made

        kept : Request
        kept = recorded_request (advance h.s.recorded now) h.made.call.account h.made.call.request

        same : record a { request = bare a.request } ≡ record { at = now; account = h.made.call.account; request = bare kept; slot = h.record_is.slot }
        same = same_call (record a { request = bare a.request }) (record { at = now; account = h.made.call.account; request = bare kept; slot = h.record_is.slot }) h.record_is.is

        at_is : a.at ≡ now
        at_is = ap (λ (b : AcceptedCall). b.at) same

        acts : act sha256 (advance (refilled h.c h.s.slots.keys h.s.recorded) now) h.made.call.account a.request ≡ Ok (stands.next, stands.leads.0)
        acts =
            subst (λ (m : Machine). act sha256 (advance m now) h.made.call.account a.request ≡ Ok (stands.next, stands.leads.0)) h.untouched
            (subst (λ (at : Moment). act sha256 (advance (recorded v s) at) h.made.call.account a.request ≡ Ok (stands.next, stands.leads.0)) at_is
            (subst (λ (account : ℕ). act sha256 (advance (recorded v s) a.at) account a.request ≡ Ok (stands.next, stands.leads.0)) (ap (λ (b : AcceptedCall). b.account) same) stands.leads.1))

        done : IsDone (advance (refilled h.c h.s.slots.keys h.s.recorded) now) h.made.call.account h.made.call.request stands.next stands.leads.0
        done = by_record (advance (refilled h.c h.s.slots.keys h.s.recorded) now) h.made.call.account h.made.call.request a.request stands.next stands.leads.0 has_block
            (asked h.c h.s h.made.call.account now h.made.call.request a.request stands.next stands.leads.0 (ap (λ (b : AcceptedCall). b.request) same) acts
            (subst (λ (m : Machine). stands.next.changes ≡ m.changes + 1) h.untouched stands.more.1))
            acts

    -- an image of a store with what is pending
    pub for_one : Holds past v s → StandsForOne v s c → Stands c (recorded v s) ⊎ OneMoreOf Makes Part start whole past (point v s) c
    for_one pending (for_recorded stands) = inl stands
    for_one pending (with_pending e some has_block stands) = inr (after_record e has_block stands (subst (IsPendingIn past (recorded v s)) some pending))
