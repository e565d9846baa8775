-- Stores whose slots change while nothing is recorded, and changes that are found by the kept form.
use Rattle.std.proofs.Common.{◌≤◌, ◌≡◌, inl, inr, ℕ, Bool, true, false, cond, nat_lt, List, [], Option, Some, None, refl, sym, ap, subst, ◌∙◌, arith, ◌≢◌}
use Rattle.std.specs.Option.{option_map}
use Rattle.std.specs.Cmp.{nat_cmp_total}
use Rattle.std.specs.Ordering.{nat_cmp, eq_by_cmp}
use Rattle.std.specs.FinMap as fin
use Rattle.sha2.specs.Sha256.{sha256}
use Rattle.ebs_world.specs.declared.area.Area.{Area}
use Rattle.ebs_world.specs.declared.area.Area.TheVariants.{Journal0, Journal1, Blocks, Archive}
use Rattle.ebs_world.specs.Image.{Image}
use Rattle.ebs_world.specs.View.{View}
use Rattle.ebs_journal.specs.inner.Areas.{is_journal}
use Rattle.ebs_journal.specs.Opening.{IsJournal, OffJournal}
use Rattle.ebs_journal.specs.inner.Line.{Line}
use Rattle.ebs_journal.specs.inner.Standing.{IsSettled}
use Rattle.ebs_slots.specs.inner.Slots.{SlotTable, IsApart, abandoned}
use Rattle.ebs_slots.specs.Slots.{OffSlot}
use Rattle.ebs_slots.proofs.Apart.{apart_none, apart_abandoned}
use Rattle.ebs_slots.proofs.Maps.{got-remove}
use Rattle.ebs_model.specs.declared.keys.Moment.{Moment}
use Rattle.ebs_model.specs.Arrays.{WholeBlock}
use Rattle.ebs_model.specs.Machine.{Machine, advance, empty_machine}
use Rattle.ebs_model.specs.Kept.{same}
use Rattle.ebs_model.specs.inner.Kept.{digested}
use Rattle.ebs_records.specs.declared.record.AcceptedCall.{AcceptedCall}
use Rattle.ebs_records.specs.declared.record.Record.{Record}
use Rattle.ebs_recovery.specs.inner.Made.{IsCalled, digested_state, kept_change}
use Rattle.ebs_recovery.specs.Made.{State, SlotOfStamp, Made, called, advanced, start, IsValue, with_slot, made}
use Rattle.ebs_recovery.specs.Stands.{HasBlock, Stands, as_recorded}
use Rattle.ebs_recovery.specs.inner.Stands.{EachBlock, first_checkpoint, IsSecret}
use Rattle.ebs_recovery.specs.inner.Fits.{Seen, new_store, AreNamed, AgreeOn, IsLeased, InJournal, Fit, IsHeld, IsStagedChange, IsFound, kept_state, IsHeldSlot}
use Rattle.ebs_recovery.proofs.Alike.{made-kept, start-kept}
use Rattle.ebs_recovery.proofs.First.{no_entries, no_blocks, first_begins}
use Rattle.ebs_recovery.proofs.Agree.{free_agree}
use Rattle.ebs_recovery.proofs.Readers.{is_called, makes}
use Rattle.ebs_recovery.proofs.Outcomes.{is_after, IfWrites, comes, each_aged}
use Rattle.ebs_recovery.proofs.OneMore.{by_writes, if_none, get-itself, some_is}

-- ---- a new store

nothing_found : {A : Type 0} (q n : ℕ) → fin.get (fin.empty {X = ℕ} {R = nat_cmp}) q ≡ Some n → A
nothing_found q n e = absurd (never (sym (fin.get-empty {X = ℕ} nat_cmp q) ∙ e))
  where
    never : None ≡ Some n → ⊥
    never e = cc

nothing_leased : {A : Type 0} (q : ℕ) (d : List ℕ) → fin.get (fin.empty {X = List ℕ} {R = nat_cmp}) q ≡ Some d → A
nothing_leased q d e = absurd (never (sym (fin.get-empty {X = List ℕ} nat_cmp q) ∙ e))
  where
    never : None ≡ Some d → ⊥
    never e = cc

pub new_fits : (v : View) (secret : List ℕ) (journal : Line) → IsSecret secret → IsSettled v journal (first_checkpoint secret) [] → Fit v (new_store secret journal)
new_fits v secret journal is settled = record {
  checkpoint = first_checkpoint secret;
  base = start secret;
  begins = first_begins secret is;
  changes = [];
  state = start secret;
  right = record {
    history = record { values = tt; gives = refl };
    kept = sym (ap (λ (s : State). s.machine) (start-kept secret));
    keys = no_blocks (λ b. fin.get (fin.empty {X = ℕ} {R = nat_cmp}) b.stamp ≡ fin.get (fin.empty {X = ℕ} {R = nat_cmp}) b.stamp) secret;
    area = refl;
    apart = apart_none Blocks;
    early = omega arith;
    named = λ stamp slot e. nothing_found stamp slot e;
    stand = λ c now. no_entries (HasBlock c fin.empty) secret;
    leased = λ slot digest e. nothing_leased slot digest e;
  };
  journal = settled;
}

-- ---- a lease more, or one less

-- with other slots under lease
module _ (v : View) (s : Seen) (slots : SlotTable) (keys : slots.keys ≡ s.slots.keys) (area : slots.area ≡ s.slots.area) (apart : IsApart slots)
    (above : (stamped : SlotOfStamp) (stamps : ℕ) → AreNamed stamped stamps s.slots.top → AreNamed stamped stamps slots.top)
    (leased : ((slot : ℕ) (digest : List ℕ) → fin.get s.slots.leases slot ≡ Some digest → IsLeased v slot digest) → (slot : ℕ) (digest : List ℕ) → fin.get slots.leases slot ≡ Some digest → IsLeased v slot digest) where
  with_slots : Seen
  with_slots = record s { slots = slots }

  journal_with : (checkpoint : List ℕ) (changes : List Made) (state : State) (pending : Option Record) → InJournal v s checkpoint changes state pending → InJournal v (record s { slots = slots }) checkpoint changes state pending
  journal_with checkpoint changes state None j = j
  journal_with checkpoint changes state (Some r) u =
      record { change = u.change; is = u.is; value = u.value; next = u.next; gate = u.gate; named = above u.next.slots u.next.machine.stamps u.named; stand = u.stand }

  pub fit_with : Fit v s → Fit v (record s { slots = slots })
  fit_with fit = record {
    checkpoint = fit.checkpoint;
    base = fit.base;
    begins = fit.begins;
    changes = fit.changes;
    state = fit.state;
    right = record {
      history = fit.right.history;
      kept = fit.right.kept;
      keys = λ key index b e. ap (λ (keys : SlotOfStamp). fin.get keys b.stamp) keys ∙ fit.right.keys key index b e;
      area = area ∙ fit.right.area;
      apart = apart;
      early = fit.right.early;
      named = above fit.state.slots fit.state.machine.stamps fit.right.named;
      stand = fit.right.stand;
      leased = leased fit.right.leased;
    };
    journal = journal_with fit.checkpoint fit.changes fit.state s.pending fit.journal;
  }

-- a write in the slot at the top keeps all that is held
pub held_off : (top : ℕ) (a : Area) (i : ℕ) → IsHeld top a i → OffSlot Blocks top a i
held_off top a i (inl (inl on)) = inl (λ is. absurd (never (ap is_journal (sym is) ∙ on)))
  where
    never : is_journal Blocks ≡ true → ⊥
    never e = cc
held_off top a i (inl (inr on)) = inl (λ is. absurd (never (sym is ∙ on.0)))
  where
    never : Blocks ≡ Archive → ⊥
    never e = cc
held_off top a i (inr held) = inr (inl held.1)

pub abandoned_fits : (v : View) (s : Seen) (slot : ℕ) → Fit v s → Fit v (record s { slots = abandoned s.slots slot })
abandoned_fits v s slot fit = fit_with v s (abandoned s.slots slot) refl refl (apart_abandoned s.slots fit.right.apart slot) (λ stamped stamps named. named)
    (λ leased n digest e. leased n digest (got-remove s.slots.leases slot n digest e)) fit

-- ---- a change that is found by the kept form

-- slots that agree still do after one more
with_same : (a b : SlotOfStamp) (stamps stamp : ℕ) (slot : Option ℕ) → fin.get a stamp ≡ fin.get b stamp → fin.get (with_slot a stamps slot) stamp ≡ fin.get (with_slot b stamps slot) stamp
with_same a b stamps stamp None e = e
with_same a b stamps stamp (Some slot) e =
    fin.get-insert nat_cmp_total a stamps slot stamp ∙ ap (cond (eq_by_cmp nat_cmp stamp stamps) (Some slot)) e ∙ sym (fin.get-insert nat_cmp_total b stamps slot stamp)

module _ (state : State) (keys : SlotOfStamp) (agree : AgreeOn state.machine keys state.slots) where
  abbrev own : State
  own = record { machine = state.machine; slots = keys }

  -- the state after the same change
  pub record IsSame (e : Made) (t : State) : Type 0 where
    pub next : State
    pub gives : made sha256 state e ≡ Some next
    pub machine : next.machine ≡ t.machine
    pub agrees : AgreeOn next.machine t.slots next.slots

  module _ (a : AcceptedCall) (t : State) (value : IsValue (called a)) (is : IsCalled sha256 (record { machine = state.machine; slots = keys }) a t) where
    abbrev OneSlot : WholeBlock → Type 0
    OneSlot b = fin.get (with_slot keys state.machine.stamps a.slot) b.stamp ≡ fin.get (with_slot state.slots state.machine.stamps a.slot) b.stamp

    new : IfWrites OneSlot state.machine.stamps a.request
    new = by_writes (λ request slot. IfWrites (λ b. fin.get (with_slot keys state.machine.stamps slot) b.stamp ≡ fin.get (with_slot state.slots state.machine.stamps slot) b.stamp) state.machine.stamps request)
        (λ key index digest bytes slot. get-itself keys state.machine.stamps slot ∙ sym (get-itself state.slots state.machine.stamps slot))
        (λ key index digest bytes slot. get-itself keys state.machine.stamps slot ∙ sym (get-itself state.slots state.machine.stamps slot))
        (λ request none. if_none (λ b. fin.get keys b.stamp ≡ fin.get state.slots b.stamp) state.machine.stamps request none)
        a value

    both : EachBlock OneSlot t.machine
    both = comes OneSlot (advance state.machine a.at) (each_aged OneSlot state.machine a.at (λ key index b e. with_same keys state.slots state.machine.stamps b.stamp a.slot (agree key index b e)))
        a.request t.machine (is_after sha256 (advance state.machine a.at) a.account a.request t.machine is.answer is.acts) new

    called_same : IsSame (called a) t
    called_same = record {
      next = record { machine = t.machine; slots = with_slot state.slots state.machine.stamps a.slot };
      gives = makes sha256 state a (record { machine = t.machine; slots = with_slot state.slots state.machine.stamps a.slot })
          (record { free = sym (free_agree state.machine keys state.slots agree a.slot) ∙ is.free; on_time = is.on_time; answer = is.answer; acts = is.acts; changes = is.changes; slots = refl });
      machine = refl;
      agrees = λ key index b e. ap (λ (slots : SlotOfStamp). fin.get slots b.stamp) is.slots ∙ both key index b e;
    }

  pub same_change : (e : Made) (t : State) → IsValue e → made sha256 (record { machine = state.machine; slots = keys }) e ≡ Some t → IsSame e t
  same_change (called a) t value gives = called_same a t value (is_called sha256 (record { machine = state.machine; slots = keys }) a t gives)
  same_change (advanced at) t value gives = by (nat_lt state.machine.clock.second at.second) refl gives
    where
      by : (b : Bool) → nat_lt state.machine.clock.second at.second ≡ b → cond b (Some (record { machine = advance state.machine at; slots = keys })) None ≡ Some t → IsSame (advanced at) t
      by false late g = absurd (cc)
      by true late g =
          let is : record { machine = advance state.machine at; slots = keys } ≡ t = some_is (record { machine = advance state.machine at; slots = keys }) t g in
          subst (λ (t : State). IsSame (advanced at) t) is (record {
            next = record { machine = advance state.machine at; slots = state.slots };
            gives = ap (λ (b : Bool). cond b (Some (record { machine = advance state.machine at; slots = state.slots })) None) late;
            machine = refl;
            agrees = each_aged (λ b. fin.get keys b.stamp ≡ fin.get state.slots b.stamp) state.machine at agree;
          })

-- what a map gave came of something
came : (o : Option State) (k : State) → option_map digested_state o ≡ Some k → (t : State) × (o ≡ Some t) × (digested_state t ≡ k)
came None k e = absurd (cc)
came (Some t) k e = (t, refl, some_is (digested_state t) k e)

pub finds : (v : View) (s : Seen) (fit : Fit v s) (e : Made) (k : State) → IsValue e → IsStagedChange v s.slots.top e → made same (kept_state s) (kept_change e) ≡ Some k → IsFound v s fit e k
finds v s fit e k value staged gives =
    let own : State = record { machine = fit.state.machine; slots = s.slots.keys } in
    let whole = came (made sha256 own e) k (sym (made-kept own e) ∙ ap (λ (m : Machine). made same (record { machine = m; slots = s.slots.keys }) (kept_change e)) (sym fit.right.kept) ∙ gives) in
    let is = same_change fit.state s.slots.keys fit.right.keys e whole.0 value whole.1 in
    record {
      next = is.next;
      ready = record { value = value; staged = staged; gives = is.gives };
      machine = ap (λ (t : State). t.machine) (sym whole.2) ∙ ap digested (sym is.machine);
      keys = λ key index b there. ap (λ (t : State). fin.get t.slots b.stamp) (sym whole.2) ∙ is.agrees key index b there;
    }

-- a call on the journal keeps the slots
not_zero : Blocks ≢ Journal0
not_zero is = cc

not_one : Blocks ≢ Journal1
not_one is = cc

pub slots_off : (top : ℕ) (a : Area) (i : ℕ) → IsHeldSlot top a i → OffJournal a i
slots_off top a i held = (λ is. not_zero (sym held.0 ∙ is), λ is. not_one (sym held.0 ∙ is))

-- a journal without records
pub new_stands : (c : Image) (area : Area) (epoch : ℕ) (secret : List ℕ) → IsSecret secret → IsJournal c area epoch (first_checkpoint secret) [] → Stands c (empty_machine secret)
new_stands c area epoch secret is journal = as_recorded (record {
  area = area;
  epoch = epoch;
  checkpoint = first_checkpoint secret;
  base = start secret;
  begins = first_begins secret is;
  changes = [];
  slots = fin.empty;
  journal = journal;
  history = record { values = tt; gives = refl };
  blocks = no_entries (HasBlock c fin.empty) secret;
})

-- ---- a later clock

journal_later : (v : View) (s : Seen) (now : Moment) (checkpoint : List ℕ) (changes : List Made) (state : State) (pending : Option Record) → InJournal v s checkpoint changes state pending
    → InJournal v (record s { clock = now }) checkpoint changes state pending
journal_later v s now checkpoint changes state None j = j
journal_later v s now checkpoint changes state (Some r) u = record { change = u.change; is = u.is; value = u.value; next = u.next; gate = u.gate; named = u.named; stand = u.stand }

pub later_fits : (v : View) (s : Seen) (now : Moment) → Fit v s → s.clock.second ≤ now.second → Fit v (record s { clock = now })
later_fits v s now fit later = record {
  checkpoint = fit.checkpoint;
  base = fit.base;
  begins = fit.begins;
  changes = fit.changes;
  state = fit.state;
  right = record {
    history = fit.right.history;
    kept = fit.right.kept;
    keys = fit.right.keys;
    area = fit.right.area;
    apart = fit.right.apart;
    early = omega (arith, fit.right.early, later);
    named = fit.right.named;
    stand = fit.right.stand;
    leased = fit.right.leased;
  };
  journal = journal_later v s now fit.checkpoint fit.changes fit.state s.pending fit.journal;
}
