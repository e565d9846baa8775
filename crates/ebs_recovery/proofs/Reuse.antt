-- Stores whose free slots are written, and whose slots are given back.
use Rattle.std.proofs.Common.{◌≡◌, ◌≢◌, inl, inr, ℕ, ◌+◌, ◌-◌, max, nat_le, true, false, cond, List, Option, Some, None, refl, sym, ap, subst, ◌∙◌, arith}
use Rattle.std.specs.Option.{option_map}
use Rattle.std.specs.FinMap as fin
use Rattle.sha2.specs.Sha256.{sha256}
use Rattle.ebs_world.specs.declared.area.Area.TheVariants.{Blocks}
use Rattle.ebs_world.specs.Image.{Image, Keeps, Was}
use Rattle.ebs_world.specs.View.{View, Leaves, Ran, IsTrueToItself}
use Rattle.ebs_world.specs.inner.Runs.{leaves_weaker}
use Rattle.ebs_journal.specs.inner.Line.{Line}
use Rattle.ebs_journal.specs.inner.Standing.{OnJournal, IsSettled}
use Rattle.ebs_journal.proofs.Aside.{aside_on}
use Rattle.ebs_journal.proofs.Others.{journal_kept}
use Rattle.ebs_slots.specs.inner.Slots.{IsFree, staged, forgotten, released, count_of}
use Rattle.ebs_slots.specs.Slots.{OffSlot}
use Rattle.ebs_slots.specs.inner.Standing.{Lies}
use Rattle.ebs_slots.proofs.Apart.{apart_staged, apart_forgotten, apart_same}
use Rattle.ebs_slots.proofs.Blocks.{other_stays, stays_in}
use Rattle.ebs_slots.proofs.Maps.{some_none, got-insert, stays}
use Rattle.ebs_model.specs.Arrays.{WholeBlock}
use Rattle.ebs_model.specs.Machine.{Machine}
use Rattle.ebs_model.specs.inner.Kept.{digested_block}
use Rattle.ebs_records.specs.declared.record.Record.{Record}
use Rattle.ebs_recovery.specs.Made.{State, SlotOfStamp, Made, spelled}
use Rattle.ebs_recovery.specs.Stands.{blocks_at, EachEntry, HasBlock, Stands, as_recorded}
use Rattle.ebs_recovery.specs.inner.Stands.{EachBlock, refilled}
use Rattle.ebs_recovery.specs.inner.Fits.{Seen, AgreeOn, AreNamed, IsGate, InJournal, Fit, recorded}
use Rattle.ebs_recovery.specs.inner.FitLaws.{FreesDead, IsOtherSlot, WritesFree}
use Rattle.ebs_recovery.proofs.Places.{InSlot, in_slot, in_place}
use Rattle.ebs_recovery.proofs.Frames.{fit_tells, fit_honest}
use Rattle.ebs_recovery.proofs.Fitting.{is_machine, refilled_is, block-digested}
use Rattle.ebs_recovery.proofs.Slots.{held_off, fit_with}

-- what is a journal's isn't in a slot
journal_off : (slot : ℕ) (c d : Image) → Keeps (OffSlot Blocks slot) c d → Keeps OnJournal c d
journal_off slot c d kept a i on = kept a i (held_off slot a i (inl on))

-- a block whose stamp has a slot of the store stays where a free one is written
module _ (c d : Image) (s : Seen) (slot : ℕ) (free : IsFree s.slots slot) (kept : (i : ℕ) → OffSlot Blocks slot Blocks i → d Blocks i ≡ c Blocks i) where
  has_on : (slots : SlotOfStamp) (b : WholeBlock) → fin.get s.slots.keys b.stamp ≡ fin.get slots b.stamp → InSlot c slots b → InSlot d slots b
  has_on slots b agree is = record {
    slot = is.slot;
    found = is.found;
    stands = stays_in c d Blocks is.slot slot b.bytes (λ same. free.no_key b.stamp (agree ∙ is.found ∙ ap Some same)) kept is.stands;
  }

  each_on : (state : State) → AgreeOn state.machine s.slots.keys state.slots → EachEntry (HasBlock c state.slots) state.machine → EachEntry (HasBlock d state.slots) state.machine
  each_on state agree each key index b e = in_place d state.slots key index b (has_on state.slots b (agree key index b e) (in_slot c state.slots key index b (each key index b e)))

module _ (old new : View) (s : Seen) (slot : ℕ) (writes : WritesFree old new s slot) (fit : Fit old s) where
  honest : old.honest ≡ true
  honest = fit_honest old s fit

  tells : old.tells ≡ true
  tells = fit_tells old s fit

  settled : IsSettled old s.journal fit.checkpoint (spelled fit.changes)
  settled = subst (λ (p : Option Record). InJournal old s fit.checkpoint fit.changes fit.state p) writes.settled fit.journal

  still_settled : IsSettled new s.journal fit.checkpoint (spelled fit.changes)
  still_settled = record {
    tells = writes.ran.told ∙ settled.tells;
    honest = writes.ran.kept_honest ∙ settled.honest;
    clean = settled.clean;
    still = settled.still;
    behind = settled.behind;
    aside = λ c now. let was = writes.ran.images honest c now in aside_on was.0 c s.journal.area (journal_off slot was.0 c was.2) s.journal.shut (settled.aside was.0 was.1);
    images = λ c now. let was = writes.ran.images honest c now in
        journal_kept was.0 c (journal_off slot was.0 c was.2) s.journal.area s.journal.epoch fit.checkpoint (spelled fit.changes) (settled.images was.0 was.1);
  }

  blocks_on : (c d : Image) → old.may_leave c → Keeps (OffSlot Blocks slot) c d → EachEntry (HasBlock d fit.state.slots) fit.state.machine
  blocks_on c d now kept = each_on c d s slot writes.free (kept Blocks) fit.state fit.right.keys (fit.right.stand c now)

  -- a block under lease stays too
  lies_on : (n : ℕ) (digest bytes : List ℕ) → fin.get s.slots.leases n ≡ Some digest → Lies old Blocks n bytes → Lies new Blocks n bytes
  lies_on n digest bytes e lies = record {
    reads = λ told. other_stays old.reads new.reads Blocks n slot bytes off (writes.ran.kept tells) (lies.reads tells);
    images = λ told kept c now. let was = writes.ran.images honest c now in other_stays was.0 c Blocks n slot bytes off was.2 (lies.images tells honest was.0 was.1);
  }
    where
      off : n ≢ slot
      off same = some_none digest (sym e ∙ ap (fin.get s.slots.leases) same ∙ writes.free.no_lease)

  pub written_fits : Fit new s
  written_fits = record {
    checkpoint = fit.checkpoint;
    base = fit.base;
    begins = fit.begins;
    changes = fit.changes;
    state = fit.state;
    right = record {
      history = fit.right.history;
      kept = fit.right.kept;
      keys = fit.right.keys;
      area = fit.right.area;
      apart = fit.right.apart;
      early = fit.right.early;
      named = fit.right.named;
      stand = λ c now. let was = writes.ran.images honest c now in blocks_on was.0 c was.1 was.2;
      leased = λ n digest e. let l = fit.right.leased n digest e in record { bytes = l.bytes; is = l.is; lies = lies_on n digest l.bytes e l.lies };
    };
    journal = subst (λ (p : Option Record). InJournal new s fit.checkpoint fit.changes fit.state p) (sym writes.settled) still_settled;
  }

  above_top : (stamped : SlotOfStamp) (stamps : ℕ) → AreNamed stamped stamps s.slots.top → AreNamed stamped stamps (max s.slots.top (slot + 1))
  above_top stamped stamps named stamp n e = let is = named stamp n e in (is.0, omega (arith, is.1))

  pub staged_fits : (block : List ℕ) → Lies new Blocks slot block → Fit new (record s { slots = staged s.slots slot (sha256 block) })
  staged_fits block lies = fit_with new s (staged s.slots slot (sha256 block)) refl refl (apart_staged s.slots fit.right.apart slot (sha256 block) writes.free) above_top
      (λ leased n digest e. elim (got-insert s.slots.leases slot (sha256 block) n digest e) [
        | inl at ↦ record { bytes = block; is = at.1; lies = subst (λ (m : ℕ). Lies new Blocks m block) (sym at.0) lies }
        | inr was ↦ leased n digest was
      ])
      written_fits

  module _ (law : IsTrueToItself old) where
    pub while_written : Leaves old new (λ c. Stands c (recorded old s))
    while_written = leaves_weaker old new (Was (OffSlot Blocks slot) old.may_leave) (λ c. Stands c (recorded old s))
        (λ c was. subst (Stands c) (sym (is_machine old s law fit)) (as_recorded (record {
          area = s.journal.area;
          epoch = s.journal.epoch;
          checkpoint = fit.checkpoint;
          base = fit.base;
          begins = fit.begins;
          changes = fit.changes;
          slots = fit.state.slots;
          journal = journal_kept was.0 c (journal_off slot was.0 c was.2) s.journal.area s.journal.epoch fit.checkpoint (spelled fit.changes) (settled.images was.0 was.1);
          history = fit.right.history;
          blocks = blocks_on was.0 c was.1 was.2;
        })))
        (writes.ran.moments honest)

pub written_machine : (old new : View) → IsTrueToItself old → (s t : Seen) (slot : ℕ) → IsFree s.slots slot → Ran (IsOtherSlot slot) old new → Fit old s → t.recorded ≡ s.recorded → t.slots.keys ≡ s.slots.keys
    → recorded new t ≡ recorded old s
written_machine old new law s t slot free ran fit kept keys =
    let told = fit_tells old s fit in
    let each = fit.right.stand old.reads (law.reads_as_image told (fit_honest old s fit)) in
    (λ i. refilled new.reads (keys i) (kept i))
    ∙ refilled_is new.reads s.recorded s.slots.keys fit.state fit.right.kept fit.right.keys
    (each_on old.reads new.reads s slot free (λ i off. ran.kept told Blocks i (refl, off)) fit.state fit.right.keys each)
    ∙ sym (is_machine old s law fit)

-- ---- a slot that is given back

module _ (v : View) (s : Seen) (key : ℕ) (fit : Fit v s) (dead : EachBlock (λ block. block.stamp ≢ key) s.recorded) where
  -- no block of the machine with its bytes has the stamp
  whole_dead : EachBlock (λ block. block.stamp ≢ key) fit.state.machine
  whole_dead holder index b e = dead holder index (digested_block b)
      (ap (λ (m : Machine). fin.get (blocks_at m holder) index) fit.right.kept ∙ block-digested fit.state.machine holder index ∙ ap (option_map digested_block) e)

  forgotten_fits : Fit v (record s { slots = forgotten s.slots key })
  forgotten_fits = record {
    checkpoint = fit.checkpoint;
    base = fit.base;
    begins = fit.begins;
    changes = fit.changes;
    state = fit.state;
    right = record {
      history = fit.right.history;
      kept = fit.right.kept;
      keys = λ holder index b e. stays s.slots.keys key b.stamp (whole_dead holder index b e) ∙ fit.right.keys holder index b e;
      area = fit.right.area;
      apart = apart_forgotten s.slots fit.right.apart key;
      early = fit.right.early;
      named = fit.right.named;
      stand = fit.right.stand;
      leased = fit.right.leased;
    };
    journal = at fit.checkpoint fit.changes fit.state s.pending fit.journal;
  }
    where
      at : (checkpoint : List ℕ) (changes : List Made) (state : State) (pending : Option Record) → InJournal v s checkpoint changes state pending → InJournal v (record s { slots = forgotten s.slots key }) checkpoint changes state pending
      at checkpoint changes state None j = j
      at checkpoint changes state (Some r) u = record { change = u.change; is = u.is; value = u.value; next = u.next; gate = u.gate; named = u.named; stand = u.stand }

  counted_fits : (n : ℕ) → Fit v (record s { slots = record s.slots { counts = fin.insert s.slots.counts key n } })
  counted_fits n = fit_with v s (record s.slots { counts = fin.insert s.slots.counts key n }) refl refl (apart_same s.slots fit.right.apart s.slots.area (fin.insert s.slots.counts key n))
      (λ stamped stamps named. named) (λ leased. leased) fit

  pub released_fits : Fit v (record s { slots = released s.slots key })
  released_fits = elim (nat_le (count_of s.slots key) 1) as (λ b. Fit v (record s { slots = cond b (forgotten s.slots key) (record s.slots { counts = fin.insert s.slots.counts key (count_of s.slots key - 1) }) })) [
    | true ↦ forgotten_fits
    | false ↦ counted_fits (count_of s.slots key - 1)
  ]

-- ---- slots that are given back, all at once

module _ (v : View) (s t : Seen) (fit : Fit v s) (frees : FreesDead s t) where
  -- each block of the machine with its bytes has its slot
  whole_keys : AgreeOn fit.state.machine t.slots.keys fit.state.slots
  whole_keys holder index b e =
      frees.keys holder index (digested_block b)
      (ap (λ (m : Machine). fin.get (blocks_at m holder) index) fit.right.kept ∙ block-digested fit.state.machine holder index ∙ ap (option_map digested_block) e)
      ∙ fit.right.keys holder index b e

  below_top : (stamped : SlotOfStamp) (stamps : ℕ) → AreNamed stamped stamps s.slots.top → AreNamed stamped stamps t.slots.top
  below_top stamped stamps named = subst (AreNamed stamped stamps) (sym frees.slots.top) named

  in_journal : (checkpoint : List ℕ) (changes : List Made) (state : State) (pending : Option Record) → InJournal v s checkpoint changes state pending → InJournal v t checkpoint changes state pending
  in_journal checkpoint changes state None j = subst (λ (l : Line). IsSettled v l checkpoint (spelled changes)) (sym frees.journal) j
  in_journal checkpoint changes state (Some r) u = record {
    change = u.change;
    is = u.is;
    value = u.value;
    next = u.next;
    gate = subst (λ (l : Line). IsGate v l checkpoint changes state u.change u.next) (sym frees.journal) u.gate;
    named = below_top u.next.slots u.next.machine.stamps u.named;
    stand = u.stand;
  }

  pub freed_fits : Fit v t
  freed_fits = record {
    checkpoint = fit.checkpoint;
    base = fit.base;
    begins = fit.begins;
    changes = fit.changes;
    state = fit.state;
    right = record {
      history = fit.right.history;
      kept = frees.recorded ∙ fit.right.kept;
      keys = whole_keys;
      area = frees.slots.area ∙ fit.right.area;
      apart = frees.slots.apart;
      early = omega (arith, fit.right.early, frees.clock);
      named = below_top fit.state.slots fit.state.machine.stamps fit.right.named;
      stand = fit.right.stand;
      leased = λ slot digest e. fit.right.leased slot digest (frees.slots.leases slot digest e);
    };
    journal = subst (InJournal v t fit.checkpoint fit.changes fit.state) (sym frees.pending) (in_journal fit.checkpoint fit.changes fit.state s.pending fit.journal);
  }

  pub freed_machine : IsTrueToItself v → recorded v t ≡ recorded v s
  freed_machine law =
      refilled_is v.reads t.recorded t.slots.keys fit.state (frees.recorded ∙ fit.right.kept) whole_keys (fit.right.stand v.reads (law.reads_as_image (fit_tells v s fit) (fit_honest v s fit)))
      ∙ sym (is_machine v s law fit)
