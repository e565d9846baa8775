-- The gate in doubt is closed: of a record that wasn't acknowledged, or of the other area.
use Rattle.std.proofs.Common.{◌≡◌, ⊎_elim, ℕ, true, List, Option, Some, None, refl, subst, sym}
use Rattle.ebs_world.specs.View.{View, Ran, Leaves}
use Rattle.ebs_journal.specs.Opening.{OffJournal}
use Rattle.ebs_journal.specs.inner.Standing.{IsSettled, IsPending, IsTurning, IsOrAlso, IsOrNext}
use Rattle.ebs_records.specs.declared.record.Record.{Record}
use Rattle.ebs_records.specs.Records.{record_bytes}
use Rattle.ebs_recovery.specs.Made.{record_of, spelled}
use Rattle.ebs_recovery.specs.inner.Fits.{Seen, Fit, IsUnsure, StandsForOne}
use Rattle.ebs_recovery.specs.inner.FitLaws.{ClosedFits, ImagesWhileMended}
use Rattle.ebs_recovery.specs.inner.TurnLaws.{DoubtIsTold}
use Rattle.ebs_disk_store.specs.inner.Told.{mended}
use Rattle.std.specs.Option.{is_some}
use Rattle.ebs_journal.specs.inner.Line.{Line}
use Rattle.ebs_disk_store.proofs.Held.{unsure_of, still_mended, unsure_off}

some_of : (o : Option Record) → is_some o ≡ true → (r : Record) × (o ≡ Some r)
some_of None e = absurd (cc)
some_of (Some r) e = (r, refl)

abbrev with_line : Seen → Line → Seen
with_line s l = record s { journal = l }

-- calls on the journal of a store with a pending record
module _ (old new : View) (ran : Ran OffJournal old new) (s : Seen) (pends : is_some s.pending ≡ true) (fit : Fit old s) where
  r : (r : Record) × (s.pending ≡ Some r)
  r = some_of s.pending pends

  u : IsUnsure old s fit.checkpoint fit.changes fit.state r.0
  u = unsure_of old s fit r.0 r.1

  pub fit_mended : ClosedFits old new → (l : Line) → l ≡ (mended s).journal
      → ((checkpoint : List ℕ) (rs : List (List ℕ)) (r : List ℕ) → IsPending old s.journal checkpoint rs r → IsSettled new l checkpoint rs)
      → ((checkpoint : List ℕ) (rs : List (List ℕ)) (next : List ℕ) → IsTurning old s.journal checkpoint rs next → IsSettled new l checkpoint rs) → Fit new (with_line (mended s) l)
  fit_mended closed l is pends turns = subst (λ (l : Line). Fit new (with_line (mended s) l)) (sym is)
      (closed s (mended s) fit ran (still_mended old s fit) refl
      (subst (λ (l : Line). IsSettled new l fit.checkpoint (spelled fit.changes)) is
      (⊎_elim (λ g. pends fit.checkpoint (spelled fit.changes) (record_bytes (record_of u.change)) g.gate) (λ g. turns fit.checkpoint (spelled fit.changes) g.point g.gate) u.gate)))

  pub fit_unmended : (l : Line) → l ≡ s.journal
      → ((checkpoint : List ℕ) (rs : List (List ℕ)) (r : List ℕ) → IsPending old s.journal checkpoint rs r → IsPending new l checkpoint rs r)
      → ((checkpoint : List ℕ) (rs : List (List ℕ)) (next : List ℕ) → IsTurning old s.journal checkpoint rs next → IsTurning new l checkpoint rs next) → Fit new (with_line s l)
  fit_unmended l is pends turns = subst (λ (l : Line). Fit new (with_line s l)) (sym is)
      (unsure_off old new ran s r.0 r.1 (subst (λ (l : Line). (checkpoint : List ℕ) (rs : List (List ℕ)) (r : List ℕ) → IsPending old s.journal checkpoint rs r → IsPending new l checkpoint rs r) is pends)
      (subst (λ (l : Line). (checkpoint : List ℕ) (rs : List (List ℕ)) (next : List ℕ) → IsTurning old s.journal checkpoint rs next → IsTurning new l checkpoint rs next) is turns) fit)

  pub while_mended : ImagesWhileMended old new → DoubtIsTold old new
      → ((checkpoint : List ℕ) (rs : List (List ℕ)) (r : List ℕ) → IsPending old s.journal checkpoint rs r → Leaves old new (λ c. IsOrAlso c s.journal checkpoint rs r))
      → ((checkpoint : List ℕ) (rs : List (List ℕ)) (next : List ℕ) → IsTurning old s.journal checkpoint rs next → Leaves old new (λ c. IsOrNext c s.journal checkpoint rs next)) → Leaves old new (StandsForOne old s)
  while_mended law told pends turns = ⊎_elim
      (λ g. law s r.0 fit r.1 g.gate.still ran (pends fit.checkpoint (spelled fit.changes) (record_bytes r.0) (subst (λ (x : Record). IsPending old s.journal fit.checkpoint (spelled fit.changes) (record_bytes x)) (sym u.is) g.gate)))
      (λ g. let doubt = told s r.0 fit r.1 g.gate.turning in doubt.images ran (turns fit.checkpoint (spelled fit.changes) doubt.next doubt.gate))
      u.gate
