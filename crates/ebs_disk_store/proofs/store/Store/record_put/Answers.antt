use Rattle.std.proofs.Common.{◌≡◌, ◌∙◌, ◌≤◌, ◌<◌, ◌^◌, sym, subst, ap, ℕ, Bool, true, false, [], Some, None, Err, refl, arith}
use Rattle.std.specs.FinMap as fin
use Rattle.ebs_world.specs.View.{Leaves}
use Rattle.ebs_journal.specs.inner.Line.{Line, line}
use Rattle.ebs_slots.specs.inner.Slots.{SlotTable, adopted}
use Rattle.ebs_model.specs.Machine.{Machine, advance}
use Rattle.ebs_model.specs.Step.{changed}
use Rattle.ebs_records.specs.declared.record.AcceptedCall.{AcceptedCall}
use Rattle.ebs_records.specs.declared.record.Record.TheVariants.{Accepted}
use Rattle.ebs_records.specs.Records.{IsRecord}
use Rattle.ebs_records.specs.Fields.{IsDigest}
use Rattle.ebs_collect.specs.Backlogs.{Queue}
use Rattle.ebs_holds.specs.Holds.{nodes_in}
use Rattle.ebs_disk_store.specs.inner.Shown.{shown}
use Rattle.ebs_recovery.specs.inner.Made.{Leads}
use Rattle.ebs_recovery.specs.Made.{called}
use Rattle.ebs_recovery.specs.inner.Fits.{Seen, Fit, StandsForOne, StandsOrAfter, recorded}
use Rattle.ebs_recovery.proofs.Short.{of_record}
use Rattle.ebs_disk_store.specs.inner.Puts.{IsPutRuled, index_of, put_at}
use Rattle.ebs_disk_store.specs.declared.store.Stop.{Stop}
use Rattle.ebs_disk_store.specs.inner.Told.{without_lease}
use Rattle.ebs_disk_store.proofs.Freed.{counted_same}
use Rattle.ebs_disk_store.proofs.Taken.{is_put}
use Rattle.ebs_disk_store.proofs.Left.{left_before, left_made, left_stopped}
use Rattle.ebs_disk_store.proofs.Turns.{still}
use Rattle.ebs_disk_store.proofs.Recorded.{left_as, left_still, sound_left, stop_is, unspent}
use Rattle.ebs_disk_store.proofs.PutRuled.{few_indexes, is_record, is_small}
use Rattle.ebs_disk_store.proofs.PutRecorded as lemma
use Rattle.ebs_disk_store.proofs.store.Store.record_put.Goals as goal

later : {a b c : ℕ} → a ≤ b → b ≤ c → a ≤ c
later {a} {b} {c} first second = omega (arith, first, second)

below_top : (slot top most : ℕ) → top ≡ most → top ≤ 2 ^ 43 → slot < most → slot < 2 ^ 43
below_top slot top most is small below = omega (arith, is, small, below)

truths : {A : Type 0} (b : Bool) → b ≡ true → b ≡ false → A
truths b e f = absurd (cc)

pub invariant_of-self : goal.invariant_of-self
invariant_of-self g c =
    let none = ap (λ (s : Seen). s.pending) c.self.view_is ∙ c.requires.clean in
    let s = shown c.self.inside in
    let counted = c.blocks_stay.ensures.counted (nodes_in c.self.inside.kept.holding) (nodes_in c.reserve.new.self.holding) c.self.inside.slots c.reserve.ensures.blocks c.self.invariant.counted in
    sound_left s _ (Accepted (put_at c.args.account c.args.now c.args.head c.args.lease.slot [])) _ _ c.self.invariant
    (counted_same c.self.inside.slots c.abandon.new.self _ (ap (λ (u : SlotTable). u.keys) c.abandon.ensures) (ap (λ (u : SlotTable). u.counts) c.abandon.ensures) counted) c.reserve.ensures.machine
    (ap (λ (u : SlotTable). u.keys) c.abandon.ensures) (ap (λ (u : SlotTable). u.area) c.abandon.ensures) refl refl (λ e. truths (line c.self.inside.journal).clean (c.self.invariant.clean none) e)

pub returns-in_default-clause-fits : goal.returns-in_default-clause-fits
returns-in_default-clause-fits g c sound told honest =
    let v = g.D.Disk.view c.args.disk.now in
    let s = shown c.self.inside in
    let fit = subst (Fit v) (sym c.self.view_is) (c.requires.fits sound told honest) in
    let left : without_lease s c.args.lease.slot ≡ record s { recorded = c.reserve.new.self.machine; slots = c.abandon.new.self; waiting = c.reserve.new.self.holding.queue.waiting } =
    λ i. record s { recorded = sym c.reserve.ensures.machine i; slots = sym c.abandon.ensures i; waiting = sym (ap (λ (q : Queue). q.waiting) c.reserve.ensures.queue) i } in
    subst (Fit v) left (c.slots_fit.ensures.abandoned c.args.disk.now s c.args.lease.slot fit)

pub returns-in_default-clause-moments : goal.returns-in_default-clause-moments
returns-in_default-clause-moments g c sound told honest bytes lies =
    let old = g.D.Disk.view c.args.disk.now in
    let u : Seen = record { recorded = c.reserve.new.self.machine; clock = c.self.inside.clock; slots = c.abandon.new.self; waiting = c.reserve.new.self.holding.queue.waiting; journal = line c.self.inside.journal; pending = c.self.inside.pending } in
    left_before _ old old c.args.self.now u (called (put_at c.args.account c.args.now c.args.head c.args.lease.slot bytes))
    (still old (g.met.D.Disk.true_to_itself c.args.disk.now) (c.fit_stays.ensures.moments c.args.disk.now c.args.disk.now) c.args.self.now (c.requires.fits sound told honest))

pub append-requires-clause-value : goal.append-requires-clause-value
append-requires-clause-value g c =
    let made : record { at = c.args.now; account = c.args.account; request = c.request.result; slot = Some c.slot-slot.result } ≡ put_at c.args.account c.args.now c.args.head c.args.lease.slot [] =
    λ i. record { at = c.args.now; account = c.args.account; request = c.request.ensures i; slot = Some (c.slot-slot.ensures i) } in
    let lease = subst (λ (s : Seen). fin.get s.slots.leases c.args.lease.slot ≡ Some c.args.lease.digest) (sym c.self.view_is) c.requires.leased in
    let index_is = is_small c.args.self.now.recorded c.args.now c.args.account c.args.head _ c.check_place.ensures c.requires.ruled.gives in
    subst (λ (a : AcceptedCall). IsRecord (Accepted a)) (sym made)
    (is_record c.args.self.now.recorded c.args.head c.args.now c.args.account c.args.lease.slot c.check_place.ensures (subst IsDigest c.digest.ensures c.check_size.ensures) index_is
    (below_top c.args.lease.slot _ _ c.top-top.ensures.top c.top-top.ensures.small (c.top-top.ensures.apart.leased c.args.lease.slot c.args.lease.digest lease)) c.requires.early c.number-number.ensures.below)

pub append-requires-clause-short : goal.append-requires-clause-short
append-requires-clause-short g c =
    let made : record { at = c.args.now; account = c.args.account; request = c.request.result; slot = Some c.slot-slot.result } ≡ put_at c.args.account c.args.now c.args.head c.args.lease.slot [] =
    λ i. record { at = c.args.now; account = c.args.account; request = c.request.ensures i; slot = Some (c.slot-slot.ensures i) } in
    let lease = subst (λ (s : Seen). fin.get s.slots.leases c.args.lease.slot ≡ Some c.args.lease.digest) (sym c.self.view_is) c.requires.leased in
    let index_is = is_small c.args.self.now.recorded c.args.now c.args.account c.args.head _ c.check_place.ensures c.requires.ruled.gives in
    of_record (Accepted (record { at = c.args.now; account = c.args.account; request = c.request.result; slot = Some c.slot-slot.result })) (subst (λ (a : AcceptedCall). IsRecord (Accepted a)) (sym made)
    (is_record c.args.self.now.recorded c.args.head c.args.now c.args.account c.args.lease.slot c.check_place.ensures (subst IsDigest c.digest.ensures c.check_size.ensures) index_is
    (below_top c.args.lease.slot _ _ c.top-top.ensures.top c.top-top.ensures.small (c.top-top.ensures.apart.leased c.args.lease.slot c.args.lease.digest lease)) c.requires.early c.number-number.ensures.below))

pub invariant_of-self-in-Err : goal.invariant_of-self-in-Err
invariant_of-self-in-Err g c =
    let s = shown c.self.inside in
    let counted = c.blocks_stay.ensures.counted (nodes_in c.self.inside.kept.holding) (nodes_in c.release.new.self.holding) c.self.inside.slots (λ n. c.release.ensures.blocks n ∙ c.reserve.ensures.blocks n) c.self.invariant.counted in
    sound_left s _ _ _ _ c.self.invariant
    (counted_same c.self.inside.slots c.abandon-in-Err.new.self _ (ap (λ (u : SlotTable). u.keys) c.abandon-in-Err.ensures) (ap (λ (u : SlotTable). u.counts) c.abandon-in-Err.ensures) counted) (c.release.ensures.machine ∙ c.reserve.ensures.machine)
    (ap (λ (u : SlotTable). u.keys) c.abandon-in-Err.ensures) (ap (λ (u : SlotTable). u.area) c.abandon-in-Err.ensures) refl (ap (λ (l : Line). l.end) c.in-Err.ensures.err) (λ e. c.keep_unsure.ensures.unsure (c.is_clean.ensures ∙ e))

pub returns-in-Err-clause-err : goal.returns-in-Err-clause-err
returns-in-Err-clause-err g c =
    let none = ap (λ (s : Seen). s.pending) c.self.view_is ∙ c.requires.clean in
    let slot = c.args.lease.slot in
    let made : record { at = c.args.now; account = c.args.account; request = c.request.result; slot = Some c.slot-slot.result } ≡ put_at c.args.account c.args.now c.args.head c.args.lease.slot [] =
    λ i. record { at = c.args.now; account = c.args.account; request = c.request.ensures i; slot = Some (c.slot-slot.ensures i) } in
    let s = shown c.self.inside in
    left_as (without_lease s slot) _ (Accepted (put_at c.args.account c.args.now c.args.head slot [])) (without_lease c.args.self.now slot) (ap (λ (u : Seen). without_lease u slot) c.self.view_is)
    (c.release.ensures.machine ∙ c.reserve.ensures.machine) c.abandon-in-Err.ensures (ap (λ (q : Queue). q.waiting) (c.release.ensures.queue ∙ c.reserve.ensures.queue)) refl none (c.self.invariant.clean none) c.in-Err.ensures.err
    (λ e. c.keep_unsure.ensures.known (c.is_clean.ensures ∙ e) ∙ none) (λ e. c.keep_unsure.ensures.unsure (c.is_clean.ensures ∙ e) ∙ ap (λ (a : AcceptedCall). Some (Accepted a)) made)

pub returns-in-Err-clause-memory : goal.returns-in-Err-clause-memory
returns-in-Err-clause-memory g c = λ is.
    let none = ap (λ (s : Seen). s.pending) c.self.view_is ∙ c.requires.clean in
    let slot = c.args.lease.slot in
    let s = shown c.self.inside in
    let journal = c.append.ensures.memory (c.in-Err.is ∙ ap (λ (stop : Stop). Err stop) (stop_is _ _ is)) in
    left_still (without_lease s slot) _ (without_lease c.args.self.now slot) (ap (λ (u : Seen). without_lease u slot) c.self.view_is)
    (c.release.ensures.machine ∙ c.reserve.ensures.machine) c.abandon-in-Err.ensures (ap (λ (q : Queue). q.waiting) (c.release.ensures.queue ∙ c.reserve.ensures.queue)) refl journal
    (c.keep_unsure.ensures.known (c.is_clean.ensures ∙ ap (λ (l : Line). l.clean) journal ∙ c.self.invariant.clean none))

pub returns-in-Err-clause-same : goal.returns-in-Err-clause-same
returns-in-Err-clause-same g c sound told honest =
    c.fit_stays.ensures.machine c.args.disk.now c.append.new.disk c.args.self.now (record c.args.self.now { recorded = c.release.new.self.machine; slots = c.abandon-in-Err.new.self }) (c.requires.fits sound told honest)
    (c.held_is_kept.ensures.journal c.args.disk.now c.append.new.disk c.args.self.now.slots.top c.append.ensures.ran)
    (c.release.ensures.machine ∙ c.reserve.ensures.machine ∙ ap (λ (s : Seen). s.recorded) c.self.view_is) (ap (λ (u : SlotTable). u.keys) c.abandon-in-Err.ensures ∙ ap (λ (s : Seen). s.slots.keys) c.self.view_is)

pub take_put-requires-clause-put : goal.take_put-requires-clause-put
take_put-requires-clause-put g c = is_put (advance c.args.self.now.recorded c.args.now) c.args.now c.args.account c.args.head c.args.change c.args.answer c.requires.ruled.gives

pub take_put-requires-clause-new : goal.take_put-requires-clause-new
take_put-requires-clause-new g c = subst (λ (m : Machine). fin.get c.self.inside.slots.keys m.stamps ≡ None) (sym c.reserve.ensures.machine) (lemma.next_is_new (shown c.self.inside) _ c.self.invariant)

pub take_put-requires-clause-counted : goal.take_put-requires-clause-counted
take_put-requires-clause-counted g c = c.blocks_stay.ensures.counted (nodes_in c.self.inside.kept.holding) (nodes_in c.reserve.new.self.holding) c.self.inside.slots c.reserve.ensures.blocks c.self.invariant.counted

pub returns-clause-ok : goal.returns-clause-ok
returns-clause-ok g c =
    let slot = c.args.lease.slot in
    let is = c.take_put.ensures.machine ∙ ap (λ (m : Machine). changed (advance m c.args.now) c.args.lease.digest c.args.change) (c.reserve.ensures.machine ∙ ap (λ (s : Seen). s.recorded) c.self.view_is) in
    record {
      recorded = is;
      clock = refl;
      slots = lemma.gives_on c.take_put.new.kept.machine _ _ (adopted c.args.self.now.slots slot c.args.self.now.recorded.stamps) c.take_put.new.slots is
          (ap (λ (m : Machine). adopted c.self.inside.slots slot m.stamps) c.reserve.ensures.machine ∙ ap (λ (s : Seen). adopted s.slots slot s.recorded.stamps) c.self.view_is) c.take_put.ensures.slots;
      pending = ap (λ (s : Seen). s.pending) c.self.view_is ∙ c.requires.clean;
    }

pub returns-in-Err-clause-fits : goal.returns-in-Err-clause-fits
returns-in-Err-clause-fits g c sound told honest =
    let old = g.D.Disk.view c.args.disk.now in
    let new = g.D.Disk.view c.append.new.disk in
    let ran = c.append.ensures.ran in
    let view = sym c.self.view_is in
    let s = shown c.self.inside in
    let fit = subst (Fit old) view (c.requires.fits sound (sym ran.told ∙ told) (sym ran.kept_honest ∙ honest)) in
    let ruled = subst (λ (s : Seen). IsPutRuled (advance s.recorded c.args.now) c.args.account c.args.head c.args.lease.digest c.args.change c.args.answer) view c.requires.ruled in
    let none = ap (λ (s : Seen). s.pending) c.self.view_is ∙ c.requires.clean in
    let late = later c.self.invariant.late (subst (λ (s : Seen). s.clock.second ≤ c.args.now.second) view c.requires.late) in
    let lease = subst (λ (s : Seen). fin.get s.slots.leases c.args.lease.slot ≡ Some c.args.lease.digest) view c.requires.leased in
    let made : record { at = c.args.now; account = c.args.account; request = c.request.result; slot = Some c.slot-slot.result } ≡ put_at c.args.account c.args.now c.args.head c.args.lease.slot [] =
    λ i. record { at = c.args.now; account = c.args.account; request = c.request.ensures i; slot = Some (c.slot-slot.ensures i) } in
    let value = subst (λ (a : AcceptedCall). IsRecord (Accepted a)) (sym made)
    (is_record c.args.self.now.recorded c.args.head c.args.now c.args.account c.args.lease.slot c.check_place.ensures (subst IsDigest c.digest.ensures c.check_size.ensures)
    (is_small c.args.self.now.recorded c.args.now c.args.account c.args.head _ c.check_place.ensures c.requires.ruled.gives)
    (below_top c.args.lease.slot _ _ c.top-top.ensures.top c.top-top.ensures.small (c.top-top.ensures.apart.leased c.args.lease.slot c.args.lease.digest lease)) c.requires.early c.number-number.ensures.below) in
    let there = fit.right.leased c.args.lease.slot c.args.lease.digest lease in
    lemma.fit_refused old new s c.args.account c.args.now c.args.head c.args.lease.slot c.args.lease.digest c.args.change c.args.answer ruled
    (Accepted (record { at = c.args.now; account = c.args.account; request = c.request.result; slot = Some c.slot-slot.result })) (ap (λ (a : AcceptedCall). Accepted a) made) value late none fit (c.kept_form_finds.ensures c.args.disk.now) c.top-top.ensures.apart lease there.bytes there.lies
    (c.outcomes_fit.ensures.closed c.args.disk.now c.append.new.disk) (c.outcomes_fit.ensures.unsure c.args.disk.now c.append.new.disk) ran _
    (c.release.ensures.machine ∙ c.reserve.ensures.machine) c.abandon-in-Err.ensures refl
    (λ e. c.keep_unsure.ensures.known (c.is_clean.ensures ∙ e) ∙ none) (λ e. c.keep_unsure.ensures.unsure (c.is_clean.ensures ∙ e))
    c.in-Err.ensures.refused_clean c.in-Err.ensures.refused_unclean

pub returns-in-Err-clause-moments : goal.returns-in-Err-clause-moments
returns-in-Err-clause-moments g c sound told honest bytes lies =
    let old = g.D.Disk.view c.args.disk.now in
    let new = g.D.Disk.view c.append.new.disk in
    let ran = c.append.ensures.ran in
    let view = sym c.self.view_is in
    let s = shown c.self.inside in
    let fit = subst (Fit old) view (c.requires.fits sound told honest) in
    let ruled = subst (λ (s : Seen). IsPutRuled (advance s.recorded c.args.now) c.args.account c.args.head c.args.lease.digest c.args.change c.args.answer) view c.requires.ruled in
    let none = ap (λ (s : Seen). s.pending) c.self.view_is ∙ c.requires.clean in
    let late = later c.self.invariant.late (subst (λ (s : Seen). s.clock.second ≤ c.args.now.second) view c.requires.late) in
    let lease = subst (λ (s : Seen). fin.get s.slots.leases c.args.lease.slot ≡ Some c.args.lease.digest) view c.requires.leased in
    let made : record { at = c.args.now; account = c.args.account; request = c.request.result; slot = Some c.slot-slot.result } ≡ put_at c.args.account c.args.now c.args.head c.args.lease.slot [] =
    λ i. record { at = c.args.now; account = c.args.account; request = c.request.ensures i; slot = Some (c.slot-slot.ensures i) } in
    let value = subst (λ (a : AcceptedCall). IsRecord (Accepted a)) (sym made)
    (is_record c.args.self.now.recorded c.args.head c.args.now c.args.account c.args.lease.slot c.check_place.ensures (subst IsDigest c.digest.ensures c.check_size.ensures)
    (is_small c.args.self.now.recorded c.args.now c.args.account c.args.head _ c.check_place.ensures c.requires.ruled.gives)
    (below_top c.args.lease.slot _ _ c.top-top.ensures.top c.top-top.ensures.small (c.top-top.ensures.apart.leased c.args.lease.slot c.args.lease.digest lease)) c.requires.early c.number-number.ensures.below) in
    let u : Seen = record { recorded = c.release.new.self.machine; clock = c.self.inside.clock; slots = c.abandon-in-Err.new.self; waiting = c.release.new.self.holding.queue.waiting; journal = line c.append.new.journal; pending = c.keep_unsure.new.pending } in
    let e = called (put_at c.args.account c.args.now c.args.head c.args.lease.slot bytes) in
    let appended : Leaves old new (StandsOrAfter old c.args.self.now e) =
    subst (λ (s : Seen). Leaves old new (StandsOrAfter old s (called (put_at c.args.account c.args.now c.args.head c.args.lease.slot bytes)))) c.self.view_is
    (lemma.while_appended old new s c.args.account c.args.now c.args.head c.args.lease.slot c.args.lease.digest c.args.change c.args.answer ruled
    (Accepted (record { at = c.args.now; account = c.args.account; request = c.request.result; slot = Some c.slot-slot.result })) (ap (λ (a : AcceptedCall). Accepted a) made) value late none fit (c.kept_form_finds.ensures c.args.disk.now) c.top-top.ensures.apart lease bytes lies (c.moments_stand.ensures.appended c.args.disk.now c.append.new.disk) ran c.append.ensures.any_moment) in
    left_stopped (Err c.in-Err.stop) c.in-Err.stop refl old new c.args.self.now u e
    (λ is. subst (λ d. Leaves old (g.D.Disk.view d) (StandsForOne old c.args.self.now)) (sym (c.append.ensures.still (c.in-Err.is ∙ ap (λ (stop : Stop). Err stop) is)))
    (still old (g.met.D.Disk.true_to_itself c.args.disk.now) (c.fit_stays.ensures.moments c.args.disk.now c.args.disk.now) c.args.self.now (c.requires.fits sound told honest)))
    appended

pub invariant_of-self-2 : goal.invariant_of-self-2
invariant_of-self-2 g c =
    let s = shown c.self.inside in
    let ruled = subst (λ (s : Seen). IsPutRuled (advance s.recorded c.args.now) c.args.account c.args.head c.args.lease.digest c.args.change c.args.answer) (sym c.self.view_is) c.requires.ruled in
    let is = c.take_put.ensures.machine
    ∙ ap (λ (m : Machine). changed (advance m c.args.now) c.args.lease.digest c.args.change) c.reserve.ensures.machine in
    let gives = lemma.gives_on c.take_put.new.kept.machine c.take_put.new.kept.machine _ (adopted s.slots c.args.lease.slot s.recorded.stamps) c.take_put.new.slots refl
    (ap (λ (m : Machine). adopted c.self.inside.slots c.args.lease.slot m.stamps) c.reserve.ensures.machine) c.take_put.ensures.slots in
    let late = later c.self.invariant.late (subst (λ (s : Seen). s.clock.second ≤ c.args.now.second) (sym c.self.view_is) c.requires.late) in
    lemma.sound_put s _ c.args.account c.args.now c.args.head c.args.lease.slot c.args.lease.digest c.args.change c.args.answer _ _ c.self.invariant c.take_put.ensures.counted c.take_put.ensures.slotted ruled is refl _ gives
    c.in_default-append.ensures.ok.0 c.in_default-append.ensures.ok.1 (unspent c.self.inside.kept.machine c.args.now ruled.unspent) late c.requires.early
    (few_indexes (index_of c.args.head) (is_small c.args.self.now.recorded c.args.now c.args.account c.args.head _ c.check_place.ensures c.requires.ruled.gives))

pub returns-clause-fits : goal.returns-clause-fits
returns-clause-fits g c sound told honest =
    let old = g.D.Disk.view c.args.disk.now in
    let new = g.D.Disk.view c.append.new.disk in
    let ran = c.append.ensures.ran in
    let view = sym c.self.view_is in
    let s = shown c.self.inside in
    let fit = subst (Fit old) view (c.requires.fits sound (sym ran.told ∙ told) (sym ran.kept_honest ∙ honest)) in
    let ruled = subst (λ (s : Seen). IsPutRuled (advance s.recorded c.args.now) c.args.account c.args.head c.args.lease.digest c.args.change c.args.answer) view c.requires.ruled in
    let none = ap (λ (s : Seen). s.pending) c.self.view_is ∙ c.requires.clean in
    let late = later c.self.invariant.late (subst (λ (s : Seen). s.clock.second ≤ c.args.now.second) view c.requires.late) in
    let lease = subst (λ (s : Seen). fin.get s.slots.leases c.args.lease.slot ≡ Some c.args.lease.digest) view c.requires.leased in
    let made : record { at = c.args.now; account = c.args.account; request = c.request.result; slot = Some c.slot-slot.result } ≡ put_at c.args.account c.args.now c.args.head c.args.lease.slot [] =
    λ i. record { at = c.args.now; account = c.args.account; request = c.request.ensures i; slot = Some (c.slot-slot.ensures i) } in
    let value = subst (λ (a : AcceptedCall). IsRecord (Accepted a)) (sym made)
    (is_record c.args.self.now.recorded c.args.head c.args.now c.args.account c.args.lease.slot c.check_place.ensures (subst IsDigest c.digest.ensures c.check_size.ensures)
    (is_small c.args.self.now.recorded c.args.now c.args.account c.args.head _ c.check_place.ensures c.requires.ruled.gives)
    (below_top c.args.lease.slot _ _ c.top-top.ensures.top c.top-top.ensures.small (c.top-top.ensures.apart.leased c.args.lease.slot c.args.lease.digest lease)) c.requires.early c.number-number.ensures.below) in
    let is = c.take_put.ensures.machine
    ∙ ap (λ (m : Machine). changed (advance m c.args.now) c.args.lease.digest c.args.change) c.reserve.ensures.machine in
    let gives = lemma.gives_on c.take_put.new.kept.machine c.take_put.new.kept.machine _ (adopted s.slots c.args.lease.slot s.recorded.stamps) c.take_put.new.slots refl
    (ap (λ (m : Machine). adopted c.self.inside.slots c.args.lease.slot m.stamps) c.reserve.ensures.machine) c.take_put.ensures.slots in
    let there = fit.right.leased c.args.lease.slot c.args.lease.digest lease in
    (lemma.fit_taken old new s c.args.account c.args.now c.args.head c.args.lease.slot c.args.lease.digest c.args.change c.args.answer ruled
    (Accepted (record { at = c.args.now; account = c.args.account; request = c.request.result; slot = Some c.slot-slot.result })) (ap (λ (a : AcceptedCall). Accepted a) made) value late none fit (c.kept_form_finds.ensures c.args.disk.now) c.top-top.ensures.apart lease there.bytes there.lies
    (c.outcomes_fit.ensures.acknowledged c.args.disk.now c.append.new.disk) (c.slots_fit.ensures.freed c.append.new.disk) (c.slots_fit.ensures.same c.append.new.disk) ran _ is refl _ gives c.take_put.ensures.slotted none c.in_default-append.ensures.acknowledged).0

pub returns-clause-leads : goal.returns-clause-leads
returns-clause-leads g c sound told honest bytes lies =
    let old = g.D.Disk.view c.args.disk.now in
    let new = g.D.Disk.view c.append.new.disk in
    let ran = c.append.ensures.ran in
    let view = sym c.self.view_is in
    let s = shown c.self.inside in
    let fit = subst (Fit old) view (c.requires.fits sound told honest) in
    let ruled = subst (λ (s : Seen). IsPutRuled (advance s.recorded c.args.now) c.args.account c.args.head c.args.lease.digest c.args.change c.args.answer) view c.requires.ruled in
    let none = ap (λ (s : Seen). s.pending) c.self.view_is ∙ c.requires.clean in
    let late = later c.self.invariant.late (subst (λ (s : Seen). s.clock.second ≤ c.args.now.second) view c.requires.late) in
    let lease = subst (λ (s : Seen). fin.get s.slots.leases c.args.lease.slot ≡ Some c.args.lease.digest) view c.requires.leased in
    let made : record { at = c.args.now; account = c.args.account; request = c.request.result; slot = Some c.slot-slot.result } ≡ put_at c.args.account c.args.now c.args.head c.args.lease.slot [] =
    λ i. record { at = c.args.now; account = c.args.account; request = c.request.ensures i; slot = Some (c.slot-slot.ensures i) } in
    let value = subst (λ (a : AcceptedCall). IsRecord (Accepted a)) (sym made)
    (is_record c.args.self.now.recorded c.args.head c.args.now c.args.account c.args.lease.slot c.check_place.ensures (subst IsDigest c.digest.ensures c.check_size.ensures)
    (is_small c.args.self.now.recorded c.args.now c.args.account c.args.head _ c.check_place.ensures c.requires.ruled.gives)
    (below_top c.args.lease.slot _ _ c.top-top.ensures.top c.top-top.ensures.small (c.top-top.ensures.apart.leased c.args.lease.slot c.args.lease.digest lease)) c.requires.early c.number-number.ensures.below) in
    let is = c.take_put.ensures.machine
    ∙ ap (λ (m : Machine). changed (advance m c.args.now) c.args.lease.digest c.args.change) c.reserve.ensures.machine in
    let gives = lemma.gives_on c.take_put.new.kept.machine c.take_put.new.kept.machine _ (adopted s.slots c.args.lease.slot s.recorded.stamps) c.take_put.new.slots refl
    (ap (λ (m : Machine). adopted c.self.inside.slots c.args.lease.slot m.stamps) c.reserve.ensures.machine) c.take_put.ensures.slots in
    let t : Seen = record { recorded = c.take_put.new.kept.machine; clock = c.args.now; slots = c.take_put.new.slots; waiting = c.take_put.new.kept.holding.queue.waiting; journal = line c.append.new.journal; pending = c.self.inside.pending } in
    subst (λ (s : Seen). Leads (recorded old s) (called (put_at c.args.account c.args.now c.args.head c.args.lease.slot bytes)) (recorded new t)) c.self.view_is
    (lemma.fit_taken old new s c.args.account c.args.now c.args.head c.args.lease.slot c.args.lease.digest c.args.change c.args.answer ruled
    (Accepted (record { at = c.args.now; account = c.args.account; request = c.request.result; slot = Some c.slot-slot.result })) (ap (λ (a : AcceptedCall). Accepted a) made) value late none fit (c.kept_form_finds.ensures c.args.disk.now) c.top-top.ensures.apart lease bytes lies
    (c.outcomes_fit.ensures.acknowledged c.args.disk.now c.append.new.disk) (c.slots_fit.ensures.freed c.append.new.disk) (c.slots_fit.ensures.same c.append.new.disk) ran t is refl _ gives c.take_put.ensures.slotted none c.in_default-append.ensures.acknowledged).1

pub returns-clause-moments : goal.returns-clause-moments
returns-clause-moments g c sound told honest bytes lies =
    let old = g.D.Disk.view c.args.disk.now in
    let new = g.D.Disk.view c.append.new.disk in
    let ran = c.append.ensures.ran in
    let view = sym c.self.view_is in
    let s = shown c.self.inside in
    let fit = subst (Fit old) view (c.requires.fits sound told honest) in
    let ruled = subst (λ (s : Seen). IsPutRuled (advance s.recorded c.args.now) c.args.account c.args.head c.args.lease.digest c.args.change c.args.answer) view c.requires.ruled in
    let none = ap (λ (s : Seen). s.pending) c.self.view_is ∙ c.requires.clean in
    let late = later c.self.invariant.late (subst (λ (s : Seen). s.clock.second ≤ c.args.now.second) view c.requires.late) in
    let lease = subst (λ (s : Seen). fin.get s.slots.leases c.args.lease.slot ≡ Some c.args.lease.digest) view c.requires.leased in
    let made : record { at = c.args.now; account = c.args.account; request = c.request.result; slot = Some c.slot-slot.result } ≡ put_at c.args.account c.args.now c.args.head c.args.lease.slot [] =
    λ i. record { at = c.args.now; account = c.args.account; request = c.request.ensures i; slot = Some (c.slot-slot.ensures i) } in
    let value = subst (λ (a : AcceptedCall). IsRecord (Accepted a)) (sym made)
    (is_record c.args.self.now.recorded c.args.head c.args.now c.args.account c.args.lease.slot c.check_place.ensures (subst IsDigest c.digest.ensures c.check_size.ensures)
    (is_small c.args.self.now.recorded c.args.now c.args.account c.args.head _ c.check_place.ensures c.requires.ruled.gives)
    (below_top c.args.lease.slot _ _ c.top-top.ensures.top c.top-top.ensures.small (c.top-top.ensures.apart.leased c.args.lease.slot c.args.lease.digest lease)) c.requires.early c.number-number.ensures.below) in
    let u : Seen = record { recorded = c.take_put.new.kept.machine; clock = c.args.now; slots = c.take_put.new.slots; waiting = c.take_put.new.kept.holding.queue.waiting; journal = line c.append.new.journal; pending = c.self.inside.pending } in
    let a = put_at c.args.account c.args.now c.args.head c.args.lease.slot bytes in
    let appended : Leaves old new (StandsOrAfter old c.args.self.now (called a)) =
    subst (λ (s : Seen). Leaves old new (StandsOrAfter old s (called (put_at c.args.account c.args.now c.args.head c.args.lease.slot bytes)))) c.self.view_is
    (lemma.while_appended old new s c.args.account c.args.now c.args.head c.args.lease.slot c.args.lease.digest c.args.change c.args.answer ruled
    (Accepted (record { at = c.args.now; account = c.args.account; request = c.request.result; slot = Some c.slot-slot.result })) (ap (λ (a : AcceptedCall). Accepted a) made) value late none fit (c.kept_form_finds.ensures c.args.disk.now) c.top-top.ensures.apart lease bytes lies (c.moments_stand.ensures.appended c.args.disk.now c.append.new.disk) ran c.append.ensures.any_moment) in
    left_made _ old new c.args.self.now u a (returns-clause-leads g c sound told honest bytes lies) appended
