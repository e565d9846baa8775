-- A checkpoint of what answers calls takes the place of the records.
use Rattle.std.proofs.Common.{◌≡◌, inl, inr, ⊎_elim, ℕ, ◌<◌, ◌^◌, List, [], true, Some, None, refl, sym, ap, subst, ◌∙◌, arith}
use Rattle.std.proofs.lemmas.Bool.{leb-true}
use Rattle.std.specs.FinMap as fin
use Rattle.ebs_world.specs.View.{View, Ran, Leaves, IsTrueToItself}
use Rattle.ebs_journal.specs.Opening.{OffJournal}
use Rattle.ebs_journal.specs.inner.Standing.{IsSettled, IsTurning, IsOrNext}
use Rattle.ebs_model.specs.declared.keys.Moment.{Moment}
use Rattle.ebs_model.specs.Machine.{Machine, advance}
use Rattle.ebs_checkpoints.specs.declared.checkpoint.Checkpoint.{Checkpoint}
use Rattle.ebs_checkpoints.specs.Checkpoints.{spelled as point_bytes}
use Rattle.ebs_records.specs.declared.record.Record.{Record}
use Rattle.ebs_records.specs.declared.record.Record.TheVariants.{Advance}
use Rattle.ebs_records.specs.Records.{is_moment}
use Rattle.ebs_recovery.specs.Made.{SlotOfStamp, State, IsValue, advanced, spelled}
use Rattle.ebs_recovery.specs.Bases.{slots_of, Begins}
use Rattle.ebs_recovery.specs.inner.TurnLaws.{IsNextOf, IsTurnedTo, IsInDoubt}
use Rattle.ebs_recovery.specs.inner.Fits.{Seen, recorded, AreNamed, IsGateOfPoint, IsUnsure, InJournal, Fit, IsStill, StandsOrAfter, for_recorded}
use Rattle.ebs_recovery.proofs.Bases.{base_stamped, within_0}
use Rattle.ebs_recovery.proofs.Based.{kept_now, agree_keys, says_now, stands_now}
use Rattle.ebs_recovery.proofs.Fitting.{is_machine, also_turned, while_told, while_turned_back}
use Rattle.ebs_recovery.proofs.Frames.{fit_honest, unsure_of, gate_of_point}
use Rattle.ebs_recovery.proofs.Outcome.{stand_off, leased_off, doubt_fits, still_turning}

module _ (v : View) (law : IsTrueToItself v) (s : Seen) (fit : Fit v s) (point : Checkpoint) (is : IsNextOf s point) where
  abbrev machine_now : Machine
  machine_now = advance fit.state.machine s.clock

  abbrev state_now : State
  state_now = record { machine = machine_now; slots = slots_of point.standard }

  begins_now : Begins (point_bytes point) state_now
  unfolding says_now
  begins_now = record { is = says_now v law s fit point is.of; here = is.here }

  named_now : AreNamed (slots_of point.standard) machine_now.stamps s.slots.top
  named_now stamp slot e = (
    subst (λ (n : ℕ). stamp < n) (ap (λ (m : Machine). m.stamps) is.of.machine ∙ ap (λ (m : Machine). m.stamps) fit.right.kept) (base_stamped point is.of.is_checkpoint.rules stamp slot e),
    is.below stamp slot e,
  )

  pub while_turned : (new : View) → Ran OffJournal v new → Leaves v new (λ c. IsOrNext c s.journal fit.checkpoint (spelled fit.changes) (point_bytes point)) → Leaves v new (StandsOrAfter v s (advanced s.clock))
  while_turned new ran = while_told v s law fit new ran (λ c. IsOrNext c s.journal fit.checkpoint (spelled fit.changes) (point_bytes point)) (StandsOrAfter v s (advanced s.clock))
      (λ c d now same has. ⊎_elim (λ was. inl (for_recorded was)) (λ after. inr after)
      (also_turned v s law fit c d now same s.clock state_now (point_bytes point) refl begins_now named_now (stands_now v law s fit point is.of) has))

  -- a checkpoint's clock is one of a record
  timely : IsValue (advanced s.clock)
  timely = record {
    is_record = record { spelled = omega (arith, leb-true s.clock.second (2 ^ 36) limits); limits = limits };
    whole = tt;
  }
    where
      limits : is_moment s.clock ≡ true
      limits = subst (λ (at : Moment). is_moment at ≡ true) (ap (λ (m : Machine). m.clock) is.of.machine) (within_0 point is.of.is_checkpoint.rules)

  pub turning_fits : (new : View) → Ran OffJournal v new → (t : Seen) → IsStill s t → t.pending ≡ Some (Advance s.clock) → IsTurning new t.journal fit.checkpoint (spelled fit.changes) (point_bytes point) → Fit new t
  turning_fits new ran t still pending gate = doubt_fits v new ran s t fit still (Advance s.clock) pending (advanced s.clock) refl timely state_now
      (inr (record { at = s.clock; is = refl; machine = refl; point = point_bytes point; begins = begins_now; gate = gate })) named_now (stands_now v law s fit point is.of)

  module _ (new : View) (true_new : IsTrueToItself new) (ran : Ran OffJournal v new) (t : Seen) (turned : IsTurnedTo s t) (settled : IsSettled new t.journal (point_bytes point) []) where
    now_fits : Fit new t
    now_fits = record {
      checkpoint = point_bytes point;
      base = state_now;
      begins = begins_now;
      changes = [];
      state = state_now;
      right = record {
        history = record { values = tt; gives = refl };
        kept = turned.recorded ∙ sym (kept_now v law s fit point is.of);
        keys = λ key index b e. ap (λ (keys : SlotOfStamp). fin.get keys b.stamp) turned.keys ∙ sym (agree_keys v law s fit point is.of key index b e);
        area = turned.slots.area ∙ fit.right.area;
        apart = turned.slots.apart;
        early = omega (arith, ap (λ (m : Moment). m.second) turned.clock);
        named = subst (AreNamed (slots_of point.standard) machine_now.stamps) (sym turned.slots.top) named_now;
        stand = stand_off v new ran (fit_honest v s fit) state_now s.slots.top named_now (stands_now v law s fit point is.of);
        leased = leased_off v new ran s t turned.slots fit.right.leased;
      };
      journal = subst (InJournal new t (point_bytes point) [] state_now) (sym turned.pending) settled;
    }

    pub turned_fits : Fit new t × (recorded new t ≡ advance (recorded v s) s.clock)
    unfolding now_fits
    turned_fits = (now_fits, is_machine new t true_new now_fits ∙ ap (λ (m : Machine). advance m s.clock) (sym (is_machine v s law fit)))

-- the gate of the next checkpoint isn't known
module _ (old new : View) (law : IsTrueToItself old) (s : Seen) (r : Record) (fit : Fit old s) (pending : s.pending ≡ Some r) (turning : s.journal.turning ≡ true) where
  u : IsUnsure old s fit.checkpoint fit.changes fit.state r
  u = unsure_of old s fit r pending

  g : IsGateOfPoint old s.journal fit.checkpoint fit.changes fit.state u.change u.next
  g = gate_of_point old s.journal fit.checkpoint fit.changes fit.state u.change u.next turning u.gate

  pub in_doubt : IsInDoubt old new s fit
  in_doubt = record {
    next = g.point;
    gate = g.gate;
    images = λ ran moments. while_turned_back old s law fit new ran r pending u g moments;
    stays = λ t ran still same gate. still_turning old new ran s t r fit u still (same ∙ pending) g gate;
  }
