-- A change whose record is appended.
use Rattle.std.proofs.Common.{◌≡◌, ℕ, ◌∷◌, ◌++◌, Bool, true, false, List, [], None, Some, refl, sym, ap, subst, ◌∙◌, arith}
use Rattle.ebs_world.specs.View.{View, Ran, Leaves}
use Rattle.ebs_journal.specs.Opening.{OffJournal}
use Rattle.ebs_journal.specs.inner.Standing.{IsSettled, IsPending, IsOrAlso}
use Rattle.ebs_model.specs.declared.keys.Moment.{Moment}
use Rattle.ebs_model.specs.Kept.{same}
use Rattle.ebs_model.specs.Machine.{Machine}
use Rattle.ebs_records.specs.declared.record.Record.{Record}
use Rattle.ebs_records.specs.Records.{record_bytes}
use Rattle.ebs_recovery.specs.Made.{State, SlotOfStamp, Made, IsValue, made, record_of, spelled}
use Rattle.ebs_recovery.specs.inner.Made.{kept_change, Leads}
use Rattle.ebs_recovery.specs.inner.Fits.{AgreeOn, Seen, Fit, IsFound, IsStagedChange, IsStill, KeepsSlots, InJournal, kept_state, StandsOrAfter, recorded}
use Rattle.ebs_recovery.specs.inner.FitLaws.{KeptFormFinds, ImagesWhileAppended, AcknowledgedFits, UnsureFits, ClosedFits}

-- a change that the kept form accepts, with its record
module _ (old new : View) (s : Seen) (r : Record) (e : Made) (k : State) (record_is : record_of e ≡ r) (value : IsValue e) (staged : IsStagedChange old s.slots.top e)
    (is_made : made same (kept_state s) (kept_change e) ≡ Some k) (none : s.pending ≡ None) (fit : Fit old s) (finds : KeptFormFinds old) where
  pub found : IsFound old s fit e k
  found = finds s fit e k value staged is_made

  settled : IsSettled old s.journal fit.checkpoint (spelled fit.changes)
  settled = subst (InJournal old s fit.checkpoint fit.changes fit.state) none fit.journal

  -- at each moment
  pub while_appended : ImagesWhileAppended old new → Ran OffJournal old new
      → ((checkpoint : List ℕ) (rs : List (List ℕ)) → IsSettled old s.journal checkpoint rs → Leaves old new (λ c. IsOrAlso c s.journal checkpoint rs (record_bytes r)))
      → Leaves old new (StandsOrAfter old s e)
  while_appended law ran runs = law s e found.next fit found.ready ran
      (subst (λ (r : Record). Leaves old new (λ c. IsOrAlso c s.journal fit.checkpoint (spelled fit.changes) (record_bytes r))) (sym record_is) (runs fit.checkpoint (spelled fit.changes) settled))

  -- it was made durable
  pub fit_taken : AcknowledgedFits old new → Ran OffJournal old new → (t : Seen) → t.recorded ≡ k.machine → t.slots.keys ≡ k.slots → KeepsSlots s t → t.clock ≡ k.machine.clock → t.pending ≡ None
      → ((checkpoint : List ℕ) (rs : List (List ℕ)) → IsSettled old s.journal checkpoint rs → IsSettled new t.journal checkpoint (rs ++ record_bytes r ∷ []))
      → Fit new t × Leads (recorded old s) e (recorded new t)
  fit_taken law ran t is keys slots clock pending runs = law s t e found.next fit found.ready ran
      (record {
        recorded = is ∙ found.machine;
        keys = subst (λ (u : SlotOfStamp). AgreeOn found.next.machine u found.next.slots) (sym keys) found.keys;
        slots = slots;
        clock = omega (arith, ap (λ (m : Machine). m.clock.second) found.machine, ap (λ (m : Moment). m.second) clock);
      })
      pending
      (subst (λ (r : Record). IsSettled new t.journal fit.checkpoint (spelled fit.changes ++ record_bytes r ∷ [])) (sym record_is) (runs fit.checkpoint (spelled fit.changes) settled))

  -- nothing is recorded, and a lease may be given up
  module _ (t : Seen) (is : t.recorded ≡ s.recorded) (keys : t.slots.keys ≡ s.slots.keys) (slots : KeepsSlots s t) (clock : t.clock ≡ s.clock) where
    still : IsStill s t
    still = record { recorded = is; keys = keys; slots = slots; clock = omega (arith, ap (λ (m : Moment). m.second) clock) }

    -- its gate isn't known
    fit_unsure : UnsureFits old new → Ran OffJournal old new → t.pending ≡ Some r
        → ((checkpoint : List ℕ) (rs : List (List ℕ)) → IsSettled old s.journal checkpoint rs → IsPending new t.journal checkpoint rs (record_bytes r)) → Fit new t
    fit_unsure law ran pending runs = law s t e found.next fit found.ready ran still
        (pending ∙ ap (λ (r : Record). Some r) (sym record_is))
        (subst (λ (r : Record). IsPending new t.journal fit.checkpoint (spelled fit.changes) (record_bytes r)) (sym record_is) (runs fit.checkpoint (spelled fit.changes) settled))

    -- it left no trace
    fit_clean : ClosedFits old new → Ran OffJournal old new → t.pending ≡ None
        → ((checkpoint : List ℕ) (rs : List (List ℕ)) → IsSettled old s.journal checkpoint rs → IsSettled new t.journal checkpoint rs) → Fit new t
    fit_clean law ran pending runs = law s t fit ran still pending (runs fit.checkpoint (spelled fit.changes) settled)

    -- it wasn't acknowledged
    pub fit_refused : ClosedFits old new → UnsureFits old new → Ran OffJournal old new
        → (t.journal.clean ≡ true → t.pending ≡ None) → (t.journal.clean ≡ false → t.pending ≡ Some r)
        → (t.journal.clean ≡ true → (checkpoint : List ℕ) (rs : List (List ℕ)) → IsSettled old s.journal checkpoint rs → IsSettled new t.journal checkpoint rs)
        → (t.journal.clean ≡ false → (checkpoint : List ℕ) (rs : List (List ℕ)) → IsSettled old s.journal checkpoint rs → IsPending new t.journal checkpoint rs (record_bytes r)) → Fit new t
    fit_refused closes unsures ran known kept settles pends = at t.journal.clean refl
      where
        at : (b : Bool) → t.journal.clean ≡ b → Fit new t
        at true is = fit_clean closes ran (known is) (settles is)
        at false is = fit_unsure unsures ran (kept is) (pends is)
