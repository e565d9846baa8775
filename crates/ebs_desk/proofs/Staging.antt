-- Puts in two turns: what each makes of the pass's view, and of the store.
use Rattle.std.proofs.Common.{◌≡◌, ℕ, ◌<◌, ◌^◌, List, [], length, Some, None, Result, Ok, Err, IfOk, OnErr, IsErrOf, ⊎_elim, inl, inr, refl, ap, sym, ◌∙◌, subst, arith, is_some, if◌then◌else◌, eq-eqb}
use Rattle.std.specs.FinMap as fin
use Rattle.std.specs.declared.snapshot.Snapshot.{Snapshot}
use Rattle.sha2.specs.Sha256.{sha256}
use Rattle.atomic_table.specs.Table.{Me}
use Rattle.ebs_world.specs.declared.area.Area.TheVariants.{Blocks}
use Rattle.ebs_world.specs.View.{View as DiskView, Leaves}
use Rattle.ebs_model.specs.Machine.{advance}
use Rattle.ebs_model.specs.Quotas.{Rose}
use Rattle.ebs_slots.specs.inner.Slots.{Leased, IsNext}
use Rattle.ebs_slots.specs.inner.Standing.{Lies}
use Rattle.ebs_recovery.specs.Made.{advanced}
use Rattle.ebs_recovery.specs.inner.Fits.{Seen, StandsForOne, recorded}
use Rattle.ebs_disk_store.specs.declared.store.Stop.{Stop}
use Rattle.ebs_disk_store.specs.declared.store.Stop.TheVariants.{Unavailable, Memory}
use Rattle.ebs_disk_store.specs.inner.Told.{IfSound, RanOffJournalAndOne, mended, with_lease}
use Rattle.ebs_disk_store.specs.inner.Turned.{IsSpared}
use Rattle.ebs_disk_store.proofs.Left.{left_before}
use Rattle.ebs_turns.specs.declared.line.Deed.{Deed}
use Rattle.ebs_turns.specs.declared.line.Deed.TheVariants.{Nothing, Takes, Spends}
use Rattle.ebs_turns.specs.declared.line.Turn.{Turn}
use Rattle.ebs_turns.specs.declared.seats.Opening.{Opening}
use Rattle.ebs_turns.specs.declared.seats.Place.{Place}
use Rattle.ebs_turns.specs.declared.seats.View.{View}
use Rattle.ebs_turns.specs.Line.{IsDeed}
use Rattle.ebs_turns.specs.Known.{Began, MayEnd, Ended, IsResting}
use Rattle.ebs_turns.specs.Tells.{behind, after_look}
use Rattle.ebs_desk.specs.declared.item.Item.{Item}
use Rattle.ebs_desk.specs.declared.item.Item.TheVariants.{Fault, Staged, Blank}
use Rattle.ebs_desk.specs.declared.shelf.Shelf.{Shelf}
use Rattle.ebs_desk.specs.Line.{IsFault, entries_in, block_under}
use Rattle.ebs_desk.specs.Turns.{Goes, LeavesOne, Did, Follows, IsStaged}
use Rattle.ebs_model.specs.declared.keys.Moment.{Moment}
use Rattle.ebs_model.specs.declared.request.Request.{Request}
use Rattle.ebs_model.specs.declared.answer.Answer.{Answer}
use Rattle.ebs_model.specs.declared.answer.Answer.TheVariants.{Refused}
use Rattle.ebs_model.specs.declared.answer.Answer.TheVariants as answers
use Rattle.ebs_model.specs.declared.answer.Refusal.TheVariants as refusals
use Rattle.ebs_disk_store.specs.declared.heads.PutHead.{PutHead}
use Rattle.ebs_disk_store.specs.inner.Puts.{with_bytes}
use Rattle.ebs_disk_store.specs.inner.Viewed.{IsView}
use Rattle.ebs_desk.specs.declared.desk.Receipt.{Receipt}
use Rattle.ebs_desk.specs.Calls.{turn_with, Answered, Called, failed, wanted, in_one, in_two, ended}
use Rattle.ebs_desk.proofs.StoreCalls.{put_alone}
use Rattle.ebs_desk.proofs.Pendings.{pending_of, spared_pending}
use Rattle.ebs_desk.specs.Staging.{IsLeftStaged, HasStaged, Keeps, MayTake}
use Rattle.ebs_desk.proofs.Leases.{MovesLeases, idle, taken, under_own, block_more}
use Rattle.ebs_desk.proofs.Calling.{added}

abbrev V : Type 0 → Type 0
V D = View (Shelf Seen D) (Item D)

abbrev M : Type 0 → Type 0
M D = Me (Place (Shelf Seen D) (Item D)) (V D)

spared_clock : (s t : Seen) → IsSpared s t → t.clock ≡ s.clock
spared_clock s t left = ⊎_elim (ap (λ (z : Seen). z.clock)) (ap (λ (z : Seen). z.clock)) left

spared_leases : (s t : Seen) → IsSpared s t → t.slots.leases ≡ s.slots.leases
spared_leases s t left = ⊎_elim (ap (λ (z : Seen). z.slots.leases)) (ap (λ (z : Seen). z.slots.leases)) left

module _ {D : Type 0} where
  -- behind a look that found few tickets the pass may take two turns
  pub may_take : (m n : M D) (found : ℕ) → IsResting m → n.1 ≡ m.1 → n.0 ≡ after_look found m.0 → found < 2 ^ 42 → MayTake 2 n
  may_take m n found rests hand is few = subst (λ (z : M D). MayTake 2 z) (λ i. (sym is i, sym hand i)) (record {
    rests = record { hand = rests.hand; stage = rests.stage; tally = rests.tally; held = rests.held; refused = rests.refused; lease = rests.lease };
    may = omega arith;
    few = few;
  })

  -- a lease by its slot
  pub ended_at : (n w : M D) (item : Item D) (given slot : ℕ) → given ≡ slot → Ended n item (Spends given) w → Ended n item (Spends slot) w
  ended_at n w item given slot is leaves = subst (λ (k : ℕ). Ended n item (Spends k) w) is leaves

  -- the pass rests behind a turn that leaves it without a lease
  pub rests_on : (follows : Shelf Seen D → List (Turn (Item D)) → Shelf Seen D → Type 0) (count : ℕ) (m n w : M D) (shelf : Shelf Seen D) (item : Item D) → MayTake count m → Began follows m.0 n shelf → Ended n item Nothing w → IsResting w
  rests_on follows count m n w shelf item may b is = subst (λ (z : M D). IsResting z) (sym is) (subst (λ (u : V D). IsResting (behind (record { item = item; deed = Nothing }) u, [])) (sym b.view)
      (record { hand = refl; stage = refl; tally = may.rests.tally; held = may.rests.held; refused = may.rests.refused; lease = may.rests.lease }))

module _ {D : Type 0} (sound : Type 0) (view : D → DiskView) where
  -- what the store's clauses say of a staging
  pub record Stages (v w : DiskView) (s t : Seen) (block : List ℕ) (done : Result Leased Stop) : Type 0 where
    pub lease : IfOk done (λ l. IsNext s.slots l.slot × (l.digest ≡ sha256 block))
    pub ok : IfOk done (λ l. t ≡ with_lease (mended s) l.slot l.digest)
    pub lies : IfOk done (λ l. Lies w Blocks l.slot block)
    pub err : OnErr done (IsSpared s t)
    pub same : IfSound sound v (recorded w t ≡ recorded v s)
    pub moments : IfSound sound v (Leaves v w (StandsForOne v s))
    pub ran : RanOffJournalAndOne s.slots v w
    pub cause : IsErrOf done Unavailable → Rose v.faults w.faults

  -- a staging makes no change, whatever it leaves
  no_change : (v w : DiskView) (s t : Seen) (item : Item D) → Leaves v w (StandsForOne v s) → LeavesOne v w s t item
  no_change v w s t item leaves = record { change = advanced s.clock; leaves = left_before (IsFault item) v w s t (advanced s.clock) leaves }

  -- what the turn did, by what it leaves, and that it is no entry
  pub did_staged : (s t : Seen) (d e : D) (block : List ℕ) (before : Snapshot D) (done : Result Leased Stop) (left : Item D × Deed) → before.value ≡ d → IsLeftStaged block before e done left
      → Goes (view d) (view e) → Stages (view d) (view e) s t block done → Did sound view s d left.0 t e × ((x : Turn (Item D)) → length (entries_in left.0 x) ≡ 0)
  did_staged s t d e block before (Ok lease) left was is goes st = subst (λ (z : Item D × Deed). Did sound view s d z.0 t e × ((x : Turn (Item D)) → length (entries_in z.0 x) ≡ 0)) (sym is.2) (
    record {
      goes = goes;
      did = λ sure tells honest. (λ i. advance (st.same sure tells honest i) (st.ok i).clock);
      pending = inr (inl (pending_of st.ok));
      moments = λ sure tells honest. no_change (view d) (view e) s t (Staged is.0) (st.moments sure tells honest);
    },
    λ x. refl,
  )
  did_staged s t d e block before (Err Unavailable) left was is goes st = subst (λ (z : Item D × Deed). Did sound view s d z.0 t e × ((x : Turn (Item D)) → length (entries_in z.0 x) ≡ 0)) (sym is.2) (
    record {
      goes = goes;
      did = (was, is.1, st.cause refl, λ sure tells honest. (λ i. advance (st.same sure tells honest i) (spared_clock s t st.err i)));
      pending = inl tt;
      moments = λ sure tells honest. no_change (view d) (view e) s t (Fault before is.0) (st.moments sure tells honest);
    },
    λ x. refl,
  )
  did_staged s t d e block before (Err Memory) left was is goes st = subst (λ (z : Item D × Deed). Did sound view s d z.0 t e × ((x : Turn (Item D)) → length (entries_in z.0 x) ≡ 0)) (sym is) (
    record {
      goes = goes;
      did = λ sure tells honest. (λ i. advance (st.same sure tells honest i) (spared_clock s t st.err i));
      pending = inr (spared_pending s t st.err);
      moments = λ sure tells honest. no_change (view d) (view e) s t Blank (st.moments sure tells honest);
    },
    λ x. refl,
  )

  pub moves_staged : (s t : Seen) (d e : D) (block : List ℕ) (before : Snapshot D) (done : Result Leased Stop) (left : Item D × Deed) → IsLeftStaged block before e done left
      → Stages (view d) (view e) s t block done → MovesLeases (view d) (view e) s t left.0 left.1
  moves_staged s t d e block before (Ok lease) left is st = subst (λ (z : Item D × Deed). MovesLeases (view d) (view e) s t z.0 z.1) (sym is.2)
      (taken (view d) (view e) s t lease.slot st.ran.slot is.0 st.ran.free st.ran.ran (ap (λ (z : Seen). z.slots.leases) st.ok ∙ ap (fin.insert s.slots.leases lease.slot) (st.lease.1 ∙ sym (ap sha256 is.1)))
      (subst (λ (b : List ℕ). Lies (view e) Blocks lease.slot b) (sym is.1) st.lies))
  moves_staged s t d e block before (Err Unavailable) left is st = subst (λ (z : Item D × Deed). MovesLeases (view d) (view e) s t z.0 z.1) (sym is.2) (idle (view d) (view e) s t (Fault before is.0) st.ran.slot st.ran.free st.ran.ran (spared_leases s t st.err))
  moves_staged s t d e block before (Err Memory) left is st = subst (λ (z : Item D × Deed). MovesLeases (view d) (view e) s t z.0 z.1) (sym is) (idle (view d) (view e) s t Blank st.ran.slot st.ran.free st.ran.ran (spared_leases s t st.err))

  -- the pass may take the lease, which isn't out
  pub deed_staged : (first : Shelf Seen D) (line : List (Turn (Item D))) (shelf : Shelf Seen D) (t : Seen) (e : D) (kept : ℕ) (block : List ℕ) (before : Snapshot D) (done : Result Leased Stop) (left : Item D × Deed)
      → Follows sound view first line shelf → kept ≡ 0 → IsLeftStaged block before e done left → Stages (view shelf.disk) (view e) shelf.store t block done → IsDeed line kept left.1
  deed_staged first line shelf t e kept block before (Ok lease) left f none is st = subst (λ (z : Item D × Deed). IsDeed line kept z.1) (sym is.2) (none, sym (f.leases lease.slot) ∙ ap is_some st.lease.0.free.no_lease)
  deed_staged first line shelf t e kept block before (Err Unavailable) left f none is st = subst (λ (z : Item D × Deed). IsDeed line kept z.1) (sym is.2) tt
  deed_staged first line shelf t e kept block before (Err Memory) left f none is st = subst (λ (z : Item D × Deed). IsDeed line kept z.1) (sym is) tt

  -- what it makes of the line
  pub line_staged : (about : Opening (Shelf Seen D)) (v w : V D) (n : M D) (shelf next : Shelf Seen D) (block : List ℕ) (before : Snapshot D) (done : Result Leased Stop) (left : Item D × Deed) → v.about ≡ Some about
      → Began (Follows sound view) v n shelf → MayEnd (Follows sound view) n next left.0 left.1 → w ≡ behind (record { item = left.0; deed = left.1 }) n.0 → IsLeftStaged block before next.disk done left
      → HasStaged sound view about.first.value v.number v.seen w.seen block done
  line_staged about v w n shelf next block before (Ok lease) left of b may leaves is =
      (is.0, is.1, added sound view about v w n shelf next (Staged is.0) (Takes lease.slot) of b (subst (λ (z : Item D × Deed). MayEnd (Follows sound view) n next z.0 z.1) is.2 may) (leaves ∙ ap (λ (z : Item D × Deed). behind (record { item = z.0; deed = z.1 }) n.0) is.2))
  line_staged about v w n shelf next block before (Err Unavailable) left of b may leaves is =
      (before, is.0, added sound view about v w n shelf next (Fault before is.0) Nothing of b (subst (λ (z : Item D × Deed). MayEnd (Follows sound view) n next z.0 z.1) is.2 may) (leaves ∙ ap (λ (z : Item D × Deed). behind (record { item = z.0; deed = z.1 }) n.0) is.2))
  line_staged about v w n shelf next block before (Err Memory) left of b may leaves is =
      added sound view about v w n shelf next Blank Nothing of b (subst (λ (z : Item D × Deed). MayEnd (Follows sound view) n next z.0 z.1) is may) (leaves ∙ ap (λ (z : Item D × Deed). behind (record { item = z.0; deed = z.1 }) n.0) is)

  -- the lease is the pass's own
  pub keeps_staged : (m n w : M D) (shelf : Shelf Seen D) (s t : Seen) (d e : D) (block : List ℕ) (before : Snapshot D) (done : Result Leased Stop) (left : Item D × Deed) → MayTake 2 m → Began (Follows sound view) m.0 n shelf
      → Ended n left.0 left.1 w → IsLeftStaged block before e done left → Stages (view d) (view e) s t block done → IfOk done (λ lease. Keeps lease block w)
  keeps_staged m n w shelf s t d e block before (Ok lease) left may b leaves is st = subst (λ (z : M D). Keeps lease block z) (sym (leaves ∙ ap (λ (z : Item D × Deed). (behind (record { item = z.0; deed = z.1 }) n.0, [])) is.2))
      (subst (λ (u : V D). Keeps lease block (behind (record { item = Staged is.0; deed = Takes lease.slot }) u, [])) (sym b.view) (record {
        hand = refl;
        stage = refl;
        tally = may.rests.tally;
        held = may.rests.held;
        refused = may.rests.refused;
        may = (let two = may.may in omega arith);
        own = refl;
        digest = st.lease.1;
        staged = block_more lease.slot None b.line (turn_with m.0.number (Staged is.0) (Takes lease.slot))
            ∙ (ap (λ c. if c then Some is.0.value else block_under lease.slot b.line) (eq-eqb lease.slot lease.slot refl) ∙ ap Some is.1);
      }))
  keeps_staged m n w shelf s t d e block before (Err stop) left may b leaves is st = tt

  pub rests_staged : (m n w : M D) (shelf : Shelf Seen D) (e : D) (block : List ℕ) (before : Snapshot D) (done : Result Leased Stop) (left : Item D × Deed) → MayTake 2 m → Began (Follows sound view) m.0 n shelf
      → Ended n left.0 left.1 w → IsLeftStaged block before e done left → OnErr done (IsResting w)
  rests_staged m n w shelf e block before (Ok lease) left may b leaves is = tt
  rests_staged m n w shelf e block before (Err Unavailable) left may b leaves is =
      rests_on (Follows sound view) 2 m n w shelf (Fault before is.0) may b (leaves ∙ ap (λ (z : Item D × Deed). (behind (record { item = z.0; deed = z.1 }) n.0, [])) is.2)
  rests_staged m n w shelf e block before (Err Memory) left may b leaves is =
      rests_on (Follows sound view) 2 m n w shelf Blank may b (leaves ∙ ap (λ (z : Item D × Deed). (behind (record { item = z.0; deed = z.1 }) n.0, [])) is)

  -- behind the put it has none
  pub rests_spent : (m n w : M D) (shelf : Shelf Seen D) (item : Item D) (lease : Leased) (block : List ℕ) → Keeps lease block m → Began (Follows sound view) m.0 n shelf → Ended n item (Spends lease.slot) w → IsResting w
  rests_spent m n w shelf item lease block keeps b leaves = subst (λ (z : M D). IsResting z) (sym leaves) (subst (λ (u : V D). IsResting (behind (record { item = item; deed = Spends lease.slot }) u, [])) (sym b.view)
      (record { hand = refl; stage = refl; tally = keeps.tally; held = keeps.held; refused = keeps.refused; lease = refl }))

  -- what was staged lies there still, whatever turns came between
  pub still_staged : (about : Opening (Shelf Seen D)) (m n : M D) (shelf : Shelf Seen D) (lease : Leased) (block : List ℕ) → m.0.about ≡ Some about → Keeps lease block m → Began (Follows sound view) m.0 n shelf
      → IsStaged (view shelf.disk) shelf.store lease.slot block
  still_staged about m n shelf lease block of keeps b = (b.stands about of).staged lease.slot block (under_own lease.slot b.line m.0.seen (b.sees.dealt lease.slot keeps.own) ∙ keeps.staged)

module _ {D : Type 0} (sound : Type 0) (view : D → DiskView) (first : Shelf Seen D) where
  -- a put whose block wasn't staged
  pub unstaged : (v w : V D) (account : ℕ) (reading : Moment) (request : Request) (head : PutHead) (block : List ℕ) (answer : Answer) (stop : Stop) → w.ticket_word < 2 ^ 42 → request ≡ with_bytes head block
      → (stop ≡ Unavailable → answer ≡ Refused refusals.Unavailable) → (stop ≡ Memory → answer ≡ answers.Memory) → HasStaged sound view first v.number v.seen w.seen block (Err stop)
      → Called sound view first v account reading request (record { answer = answer; place = None }) w
  unstaged v w account reading request head block answer Unavailable few is fails starves told = in_one few (failed told.0 told.1 (fails refl) (λ shown. put_alone head block (subst IsView is shown)) refl told.2)
  unstaged v w account reading request head block answer Memory few is fails starves told = in_one few (wanted (starves refl) refl told)

  -- a put whose block was, by the second turn
  pub in_two_turns : (v u w : V D) (account : ℕ) (reading : Moment) (request : Request) (head : PutHead) (block : List ℕ) (lease : Leased) (receipt : Receipt) → w.ticket_word < 2 ^ 42 → request ≡ with_bytes head block → u.number ≡ v.number
      → HasStaged sound view first v.number v.seen u.seen block (Ok lease) → Answered sound view first u.number u.seen w.seen (Spends lease.slot) account reading request receipt → Called sound view first v account reading request receipt w
  in_two_turns v u w account reading request head block lease receipt few is same told answered =
      in_two head told.0 lease.slot u.seen few (is ∙ ap (with_bytes head) (sym told.1)) told.2 (subst (λ number. Answered sound view first number u.seen w.seen (Spends lease.slot) account reading request receipt) same answered)

  -- the look at the ticket word changes nothing of what is told
  pub before_look : (v w : V D) (found : ℕ) (account : ℕ) (reading : Moment) (request : Request) (receipt : Receipt) → Called sound view first (after_look found v) account reading request receipt w → Called sound view first v account reading request receipt w
  before_look v w found account reading request receipt (in_one few answered) = in_one few answered
  before_look v w found account reading request receipt (in_two head block slot mid few is adds answered) = in_two head block slot mid few is adds answered
  before_look v w found account reading request receipt (ended answer place many same) = ended answer place many same
