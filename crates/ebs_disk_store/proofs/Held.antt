-- What a store holds on its disk while its journal alone is written.
use Rattle.std.proofs.Common.{◌≡◌, ⊎_elim, inl, inr, ℕ, ◌+◌, ◌≤◌, true, List, Some, None, refl, sym, subst, ◌∙◌, arith}
use Rattle.ebs_world.specs.declared.area.Area.TheVariants.{Blocks}
use Rattle.ebs_world.specs.View.{View, Ran}
use Rattle.ebs_journal.specs.Opening.{OffJournal}
use Rattle.ebs_journal.specs.inner.Standing.{IsPending, IsTurning}
use Rattle.ebs_slots.specs.inner.Standing.{Lies}
use Rattle.ebs_model.specs.declared.keys.Moment.{Moment}
use Rattle.ebs_records.specs.declared.record.Record.{Record}
use Rattle.ebs_records.specs.Records.{record_bytes}
use Rattle.ebs_recovery.specs.Made.{State, record_of, spelled}
use Rattle.ebs_recovery.specs.inner.Fits.{Seen, AreNamed, EachStands, IsUnsure, InJournal, Fit, KeepsSlots, IsStill}
use Rattle.ebs_recovery.proofs.Frames.{blocks_off, block_same, each_same, fit_honest}
use Rattle.ebs_disk_store.specs.inner.Told.{mended, at_clock}

-- what is known of the gate of a record that is pending
pub unsure_of : (v : View) (s : Seen) (fit : Fit v s) (r : Record) → s.pending ≡ Some r → IsUnsure v s fit.checkpoint fit.changes fit.state r
unsure_of v s fit r is = subst (InJournal v s fit.checkpoint fit.changes fit.state) is fit.journal

pub keeps_slots : (v : View) (s t : Seen) → Fit v s → t.slots ≡ s.slots → KeepsSlots s t
keeps_slots v s t fit is = subst (λ slots. KeepsSlots s (record t { slots = slots })) (sym is)
    (record { area = refl; top = refl; apart = fit.right.apart; leases = λ slot digest e. e })

pub still_mended : (v : View) (s : Seen) → Fit v s → IsStill s (mended s)
still_mended v s fit = record { recorded = refl; keys = refl; slots = keeps_slots v s (mended s) fit refl; clock = omega arith }

module _ (old new : View) (ran : Ran OffJournal old new) where
  pub lies_off : (slot : ℕ) (bytes : List ℕ) → Lies old Blocks slot bytes → Lies new Blocks slot bytes
  lies_off slot bytes lies = record {
    reads = λ tells. let told = sym ran.told ∙ tells in block_same old.reads new.reads (slot + 1) slot bytes (omega arith) (blocks_off (slot + 1) old.reads new.reads (ran.kept told)) (lies.reads told);
    images = λ tells honest c now.
        let told = sym ran.told ∙ tells in
        let kept = sym ran.kept_honest ∙ honest in
        let was = ran.images kept c now in
        block_same was.0 c (slot + 1) slot bytes (omega arith) (blocks_off (slot + 1) was.0 c was.2) (lies.images told kept was.0 was.1);
  }

  stand_off : old.honest ≡ true → (state : State) (top : ℕ) → AreNamed state.slots state.machine.stamps top → EachStands old state → EachStands new state
  stand_off honest state top named stand c now = let was = ran.images honest c now in each_same was.0 c top state named (blocks_off top was.0 c was.2) (stand was.0 was.1)

  -- a call on the journal that leaves the gate in doubt unknown, be it the pending record's or the other area's
  pub unsure_off : (s : Seen) (r : Record) → s.pending ≡ Some r
      → ((checkpoint : List ℕ) (rs : List (List ℕ)) (r : List ℕ) → IsPending old s.journal checkpoint rs r → IsPending new s.journal checkpoint rs r)
      → ((checkpoint : List ℕ) (rs : List (List ℕ)) (next : List ℕ) → IsTurning old s.journal checkpoint rs next → IsTurning new s.journal checkpoint rs next) → Fit old s → Fit new s
  unsure_off s r is pends turns fit =
      let honest = fit_honest old s fit in
      let u = unsure_of old s fit r is in
      record {
        checkpoint = fit.checkpoint;
        base = fit.base;
        begins = fit.begins;
        changes = fit.changes;
        state = fit.state;
        right = record {
          history = fit.right.history;
          kept = fit.right.kept;
          keys = fit.right.keys;
          area = fit.right.area;
          apart = fit.right.apart;
          early = fit.right.early;
          named = fit.right.named;
          stand = stand_off honest fit.state s.slots.top fit.right.named fit.right.stand;
          leased = λ slot digest e. let l = fit.right.leased slot digest e in record { bytes = l.bytes; is = l.is; lies = lies_off slot l.bytes l.lies };
        };
        journal = subst (InJournal new s fit.checkpoint fit.changes fit.state) (sym is) (record {
          change = u.change;
          is = u.is;
          value = u.value;
          next = u.next;
          gate = ⊎_elim
              (λ g. inl (record { gate = pends fit.checkpoint (spelled fit.changes) (record_bytes (record_of u.change)) g.gate; gives = g.gives }))
              (λ g. inr (record { at = g.at; is = g.is; machine = g.machine; point = g.point; begins = g.begins; gate = turns fit.checkpoint (spelled fit.changes) g.point g.gate }))
              u.gate;
          named = u.named;
          stand = stand_off honest u.next s.slots.top u.named u.stand;
        });
      }

-- the clock of what answers calls may move
pub fit_clock : (v : View) (s : Seen) (now : Moment) → s.clock.second ≤ now.second → Fit v s → Fit v (at_clock s now)
fit_clock v s now later fit = record {
  checkpoint = fit.checkpoint;
  base = fit.base;
  begins = fit.begins;
  changes = fit.changes;
  state = fit.state;
  right = record {
    history = fit.right.history;
    kept = fit.right.kept;
    keys = fit.right.keys;
    area = fit.right.area;
    apart = fit.right.apart;
    early = omega (arith, fit.right.early, later);
    named = fit.right.named;
    stand = fit.right.stand;
    leased = fit.right.leased;
  };
  journal = at s.pending fit.journal;
}
  where
    at : (pending : _) → InJournal v s fit.checkpoint fit.changes fit.state pending → InJournal v (at_clock s now) fit.checkpoint fit.changes fit.state pending
    at None j = j
    at (Some r) u = record { change = u.change; is = u.is; value = u.value; gate = u.gate; next = u.next; named = u.named; stand = u.stand }
