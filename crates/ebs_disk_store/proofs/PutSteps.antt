-- The machine's own step of a put, and what it tells, by its exits.
use Rattle.std.proofs.Common.{◌≡◌, inl, inr, ℕ, Bool, true, cond, List, [], length, Option, None, Some, Result, Ok, Err, refl, sym, ap, subst, ◌∙◌, arith}
use Rattle.std.specs.Prelude.{◌==◌, codes}
use Rattle.std.specs.Option.{option_map}
use Rattle.std.specs.FinMap.{get, insert}
use Rattle.std.proofs.lemmas.Bool.Decides.{nat_tests}
use Rattle.sha2.specs.Sha256.{sha256}
use Rattle.ebs_world.specs.declared.area.Area.TheVariants.{Blocks}
use Rattle.ebs_world.specs.View.{View, IsTrueToItself}
use Rattle.ebs_slots.specs.inner.Standing.{Lies}
use Rattle.ebs_model.specs.declared.keys.SnapKey.{SnapKey}
use Rattle.ebs_model.specs.declared.keys.Moment.{Moment}
use Rattle.ebs_model.specs.declared.rows.SnapRow.{SnapRow}
use Rattle.ebs_model.specs.declared.request.Request.{Request}
use Rattle.ebs_model.specs.declared.request.Request.TheVariants.{PutSnapshotBlock, WriteVolumeBlock}
use Rattle.ebs_model.specs.declared.change.Change.{Change}
use Rattle.ebs_model.specs.declared.change.Decision.{Decision}
use Rattle.ebs_model.specs.declared.answer.Answer.{Answer}
use Rattle.ebs_model.specs.declared.answer.Answer.TheVariants as answers
use Rattle.ebs_model.specs.declared.answer.Answer.TheVariants.{BlockWritten}
use Rattle.ebs_model.specs.declared.answer.Failure.{Failure}
use Rattle.ebs_model.specs.declared.answer.Failure.TheVariants as failure
use Rattle.ebs_model.specs.declared.answer.Refusal.{Refusal}
use Rattle.ebs_model.specs.Refuse.{◌>>◌, refuse_bad}
use Rattle.ebs_model.specs.Limits.{bad_member, has_ten_digits, unless}
use Rattle.ebs_model.specs.Arrays.{Hash}
use Rattle.ebs_model.specs.Time.{Snapshot}
use Rattle.ebs_model.specs.Kept.{same}
use Rattle.ebs_model.specs.inner.Kept.{kept_outcome, ActsAlike, AgesAlike}
use Rattle.ebs_model.specs.Machine.{Machine, advance, rows_of, array_of, aged_rows, snap_rows}
use Rattle.ebs_model.specs.Decisions.{alters}
use Rattle.ebs_model.specs.Decide.{decide}
use Rattle.ebs_model.specs.Step.{act, call, settled, finish, changed, array_after, refuse_digest}
use Rattle.ebs_model.specs.inner.Orders.{snaps_total, exact_snaps}
use Rattle.ebs_model.proofs.Aged.{get-aged}
use Rattle.ebs_model.proofs.RowLaws.{get-row, row_in}
use Rattle.ebs_kept.specs.inner.Shown.{AreGoodRows, IsGoodRow}
use Rattle.ebs_recovery.specs.inner.Made.{Leads}
use Rattle.ebs_recovery.specs.Made.{called}
use Rattle.ebs_recovery.specs.inner.Stands.{refilled_snapshot}
use Rattle.ebs_recovery.proofs.Places.{get-map_entries}
use Rattle.ebs_recovery.specs.inner.Fits.{Seen, Fit, recorded, running}
use Rattle.ebs_recovery.proofs.Frames.{fit_tells}
use Rattle.ebs_disk_store.specs.inner.Told.{without_lease}
use Rattle.ebs_disk_store.specs.inner.Turned.{Fails, TurnAt}
use Rattle.ebs_disk_store.specs.declared.heads.PutHead.{PutHead}
use Rattle.ebs_disk_store.specs.declared.heads.PutHead.TheVariants as head
use Rattle.ebs_slots.specs.inner.Slots.{adopted}
use Rattle.ebs_disk_store.specs.inner.Puts.{with_bytes, index_of, stated_in, bad_index, kept_put, put_at, IsPutRuled, IsPutTaken, PutRules, PutTold, WouldPut, made_change, refused, memory}
use Rattle.ebs_recovery.proofs.Rests.{same_rests}
use Rattle.ebs_recovery.proofs.Replies.{IsRested, advanced_rests}
use Rattle.ebs_recovery.proofs.Resting as lemma
use Rattle.ebs_recovery.proofs.RowsKept.{HasTimeout, HaveTimeouts}
use Rattle.ebs_disk_store.proofs.Steps.{outcome_is}
use Rattle.ebs_disk_store.proofs.PutRuled.{both_ok, bind_ok, good_of, upload_of, volume_of}
use Rattle.ebs_disk_store.proofs.PutRecorded.{gives_on, put_kept}

-- ---- rows that are good are so in each form, at each later moment

refilled_good : (f : Snapshot → Snapshot) (o : Option Snapshot) (s : Snapshot) → ((r : Snapshot) → (f r).row ≡ r.row) → ((r : Snapshot) → o ≡ Some r → IsGoodRow r.row) → option_map f o ≡ Some s → IsGoodRow s.row
refilled_good f None s same good e = absurd (cc)
refilled_good f (Some r) s same good e = subst IsGoodRow (sym (same r) ∙ ap (λ (x : Snapshot). x.row) (is (f r) s e)) (good r refl)
  where
    is : (x y : Snapshot) → Some x ≡ Some y → x ≡ y
    is x y e = cc

pub good_recorded : (v : View) (s : Seen) → AreGoodRows s.recorded.snaps → AreGoodRows (recorded v s).snaps
good_recorded v s good key found e = refilled_good (refilled_snapshot v.reads s.slots.keys key) (get s.recorded.snaps key) found (λ r. refl) (good key)
    (sym (get-map_entries snaps_total exact_snaps (refilled_snapshot v.reads s.slots.keys) s.recorded.snaps key) ∙ e)

pub good_aged : (m : Machine) (now : Moment) → AreGoodRows m.snaps → AreGoodRows (advance m now).snaps
good_aged m now good key found e = good_of now.second (get m.snaps key) found (good key) (sym (get-aged now.second m.snaps key) ∙ e)

-- ---- what a put makes

pair_is : (m n : Machine) (a b : Answer) → ◌≡◌ {A = Result (Machine × Answer) Refusal} (Ok (m, a)) (Ok (n, b)) → (m ≡ n) × (a ≡ b)
pair_is m n a b e = (ap (first m) e, ap (second a) e)
  where
    first : Machine → Result (Machine × Answer) Refusal → Machine
    first m (Ok d) = d.0
    first m (Err r) = m

    second : Answer → Result (Machine × Answer) Refusal → Answer
    second a (Ok d) = d.1
    second a (Err r) = a

-- a good row of an upload has a timeout
timeouts_of : (m : Machine) → AreGoodRows m.snaps → HaveTimeouts (snap_rows m.snaps)
timeouts_of m good key row found = at (get m.snaps key) (good key) (sym (get-row m.snaps key) ∙ found)
  where
    same : (x y : SnapRow) → Some x ≡ Some y → x ≡ y
    same x y e = cc

    at : (o : Option Snapshot) → ((s : Snapshot) → o ≡ Some s → IsGoodRow s.row) → row_in o ≡ Some row → HasTimeout row
    at None good e = absurd (cc)
    at (Some s) good e = subst HasTimeout (same s.row row e) (good s refl).timeout

module _ (hash : Hash) (m : Machine) (rests : IsRested m) (good : AreGoodRows m.snaps) (account : ℕ) where
  -- a machine at the same clock, for which time has passed, and the digest that was stated is answered
  pub record IsPutMade (put : PutHead) (n : Machine) (a : Answer) : Type 0 where
    pub clock : n.clock ≡ m.clock
    pub rested : aged_rows m.clock.second n.snaps ≡ n.snaps
    pub answer : a ≡ BlockWritten (stated_in put)

  change_of : PutHead → Change
  change_of put = alters account m.clock (with_bytes put [])

  put_rests : (key : SnapKey) (index : ℕ) (stated bytes : List ℕ) → let next : Machine = changed m bytes (alters account m.clock (PutSnapshotBlock key index stated [])) in aged_rows m.clock.second next.snaps ≡ next.snaps
  put_rests key index stated bytes = lemma.put_rests m rests (timeouts_of m good) key index (array_after m bytes (alters account m.clock (PutSnapshotBlock key index stated [])))
      (λ q other. ap (λ (b : Bool). cond b (insert (array_of m q) index (record { stamp = m.stamps; bytes = bytes })) (array_of m q)) other)

  put_made : (put : PutHead) (bytes : List ℕ) (n : Machine) (a : Answer) → act hash m account (with_bytes put bytes) ≡ Ok (n, a) → IsPutMade put n a
  put_made (head.Snapshot key index stated) bytes n a e =
      let r : Request = PutSnapshotBlock key index stated bytes in
      let rest = (both_ok (refuse_digest hash r) _ (n, a) e).1 in
      let d = bind_ok (decide (rows_of m) m.clock account r) (finish hash m r) (n, a) rest in
      let f = upload_of m m.clock account key index stated d.0 d.1 in
      let made = subst (λ (d : Decision). finish hash m r d ≡ Ok (n, a)) (sym f.4) d.2 in
      let is = pair_is _ n _ a (both_ok _ _ (n, a) made).1 in
      record {
        clock = sym (ap (λ (x : Machine). x.clock) is.0);
        rested = subst (λ (x : Machine). aged_rows m.clock.second x.snaps ≡ x.snaps) is.0 (put_rests key index stated bytes);
        answer = sym is.1;
      }
  put_made (head.Volume key index stated) bytes n a e =
      let r : Request = WriteVolumeBlock key index stated bytes in
      let rest = (both_ok (refuse_digest hash r) _ (n, a) e).1 in
      let d = bind_ok (decide (rows_of m) m.clock account r) (finish hash m r) (n, a) rest in
      let f = volume_of m m.clock account key index stated d.0 d.1 in
      let made = subst (λ (d : Decision). finish hash m r d ≡ Ok (n, a)) (sym f.3) d.2 in
      let is = pair_is _ n _ a (both_ok _ _ (n, a) made).1 in
      record {
        clock = sym (ap (λ (x : Machine). x.clock) is.0);
        rested = subst (λ (x : Machine). aged_rows m.clock.second x.snaps ≡ x.snaps) is.0 (same_rests m.clock.second m.snaps rests);
        answer = sym is.1;
      }

-- ---- the machine's step

same_size : (n : ℕ) → n ≡ 524288 → (n == 524288) ≡ true
same_size n e = grind (arith, nat_tests, e)

-- of a whole block the index alone can be out of its limits
member_is : (put : PutHead) (bytes : List ℕ) → length bytes ≡ 524288 → bad_member (with_bytes put bytes) ≡ bad_index (index_of put)
member_is (head.Snapshot key index stated) bytes size = ap (λ (b : Bool). unless (has_ten_digits index) (codes "blockIndex") (unless b (codes "body") None)) (same_size (length bytes) size)
member_is (head.Volume key index stated) bytes size = ap (λ (b : Bool). unless (has_ten_digits index) (codes "blockIndex") (unless b (codes "body") None)) (same_size (length bytes) size)

by_member : (x : Result (Unit {0}) Refusal) (y : Result (Machine × Answer) Refusal) (r : Refusal) → (x >> kept_outcome y) ≡ Err r → (x >> y) ≡ Err r
by_member (Ok u) (Ok d) r e = absurd (cc)
by_member (Ok u) (Err q) r e = e
by_member (Err q) y r e = cc

module _ (v : View) (law : IsTrueToItself v) (acts : ActsAlike) (ages : AgesAlike) (s : Seen) (fit : Fit v s) (now : Moment) (account : ℕ) (put : PutHead)
    (digest bytes : List ℕ) (whole : length bytes ≡ 524288) (hashed : digest ≡ sha256 bytes) where
  abbrev M : Machine
  M = advance (recorded v s) now

  call_is : call M account (with_bytes put bytes) ≡ (refuse_bad (bad_index (index_of put)) >> act sha256 M account (with_bytes put bytes))
  call_is = ap (λ (o : Option (List ℕ)). refuse_bad o >> act sha256 M account (with_bytes put bytes)) (member_is put bytes whole)

  kept_is : act same (advance s.recorded now) account (with_bytes put digest) ≡ kept_outcome (act sha256 M account (with_bytes put bytes))
  kept_is = outcome_is v law acts ages s fit now account (with_bytes put bytes) (with_bytes put digest) (put_kept put bytes ∙ ap (with_bytes put) (sym hashed))

  pub put_refused_is : (r : Refusal) → kept_put (advance s.recorded now) account put digest ≡ Err r → settled M (call M account (with_bytes put bytes)) ≡ (M, answers.Refused r)
  put_refused_is r e = ap (settled M) (call_is ∙ by_member (refuse_bad (bad_index (index_of put))) (act sha256 M account (with_bytes put bytes)) r
      (ap (λ (x : Result (Machine × Answer) Refusal). refuse_bad (bad_index (index_of put)) >> x) (sym kept_is) ∙ e))

  pub put_made_is : AreGoodRows s.recorded.snaps → (slot : ℕ) (n : Machine) (change : Change) (answer : Answer) → IsPutRuled (advance s.recorded now) account put digest change answer
      → Leads (recorded v s) (called (put_at account now put slot bytes)) n → settled M (call M account (with_bytes put bytes)) ≡ (advance n now, answer)
  put_made_is good slot n change answer ruled leads =
      let made = put_made sha256 M (advanced_rests (recorded v s) now) (good_aged (recorded v s) now (good_recorded v s good)) account put bytes n leads.0 leads.1 in
      let kept = put_made same (advance s.recorded now) (advanced_rests s.recorded now) (good_aged s.recorded now good) account put digest _ answer ruled.acts in
      ap (settled M) (call_is ∙ ap (λ (x : Result (Unit {0}) Refusal). x >> act sha256 M account (with_bytes put bytes)) ruled.limits ∙ leads.1)
      ∙ (λ i. pair (record n { clock = made.clock i; snaps = sym made.rested i }) ((made.answer ∙ sym kept.answer) i))
    where
      pair : Machine → Answer → Machine × Answer
      pair m a = (m, a)

-- ---- what is told

pub put_told_made : (Still Rose : Type 0) (s t : Seen) (account : ℕ) (now : Moment) (put : PutHead) (slot : ℕ) (digest : List ℕ) (change : Change) (answer : Answer) → IsPutRuled (advance s.recorded now) account put digest change answer
    → IsPutTaken s now slot (changed (advance s.recorded now) digest change) t → PutTold Still Rose s t account now put slot digest answer
put_told_made Still Rose s t account now put slot digest change answer ruled taken =
    let next : t.recorded ≡ changed (advance s.recorded now) digest change = taken.recorded in
    let gives = gives_on _ _ (adopted s.slots slot s.recorded.stamps) _ t.slots (sym next) refl taken.slots in
    made_change answer
    (ap (λ (x : Result (Unit {0}) Refusal). x >> act same (advance s.recorded now) account (with_bytes put digest)) ruled.limits ∙ ruled.acts ∙ ap (λ (m : Machine). Ok (m, answer)) (sym next))
    (ap (λ (m : Machine). m.changes) next) taken.clock (ap (λ (m : Machine). m.clock) next) gives taken.pending

pub would_put : (s : Seen) (account : ℕ) (now : Moment) (put : PutHead) (digest : List ℕ) (change : Change) (answer : Answer) → IsPutRuled (advance s.recorded now) account put digest change answer → WouldPut s account now put digest
would_put s account now put digest change answer ruled = record {
  next = changed (advance s.recorded now) digest change;
  answer = answer;
  accepts = ap (λ (x : Result (Unit {0}) Refusal). x >> act same (advance s.recorded now) account (with_bytes put digest)) ruled.limits ∙ ruled.acts;
  more = refl;
}

pub put_told_failed : (Still Rose : Type 0) (s t : Seen) (account : ℕ) (now : Moment) (put : PutHead) (slot : ℕ) (digest : List ℕ) (f : Failure) (answer : Answer) → PutRules (advance s.recorded now) account put digest (Err f)
    → Fails (without_lease s slot) t now f answer → Still → PutTold Still Rose s t account now put slot digest answer
put_told_failed Still Rose s t account now put slot digest (failure.Refused refusal) answer e how still = subst (PutTold Still Rose s t account now put slot digest) (sym how.1) (refused refusal e how.0 still)
put_told_failed Still Rose s t account now put slot digest failure.Memory answer e how still = subst (PutTold Still Rose s t account now put slot digest) (sym how.1) (memory (inl how.0))

module _ (old : View) (law : IsTrueToItself old) (acts : ActsAlike) (ages : AgesAlike) (s : Seen) (fit : Fit old s) (now : Moment) (account : ℕ) (put : PutHead)
    (digest bytes : List ℕ) (whole : length bytes ≡ 524288) (hashed : digest ≡ sha256 bytes) where
  abbrev pair : Machine → Answer → Machine × Answer
  pair m a = (m, a)

  pub put_turn_made : AreGoodRows s.recorded.snaps → (slot : ℕ) (new : View) (t : Seen) (change : Change) (answer : Answer) → IsPutRuled (advance s.recorded now) account put digest change answer
      → IsPutTaken s now slot (changed (advance s.recorded now) digest change) t → Leads (recorded old s) (called (put_at account now put slot bytes)) (recorded new t)
      → TurnAt old new s t account now (with_bytes put bytes) answer
  put_turn_made good slot new t change answer ruled taken leads =
      inl (put_made_is old law acts ages s fit now account put digest bytes whole hashed good slot (recorded new t) change answer ruled leads
      ∙ ap (λ (c : Moment). pair (advance (recorded new t) c) answer) (sym taken.clock))

  -- a refusal of a store with the same machine, as it is with other leases
  pub put_turn_failed : (u t : Seen) (f : Failure) (answer : Answer) → recorded old u ≡ recorded old s → u.clock ≡ s.clock → PutRules (advance s.recorded now) account put digest (Err f) → Fails u t now f answer
      → TurnAt old old s t account now (with_bytes put bytes) answer
  put_turn_failed u t (failure.Refused refusal) answer same clock e how =
      inl (put_refused_is old law acts ages s fit now account put digest bytes whole hashed refusal e ∙ ap (λ (m : Machine). pair (advance m now) (answers.Refused refusal)) (sym same) ∙ (λ i. (running old (sym how.0 i), sym how.1 i)))
  put_turn_failed u t failure.Memory answer same clock e how =
      inr (inr how.1, ap (running old) how.0 ∙ (λ i. advance (same i) (clock i)), ap (recorded old) how.0 ∙ same)

-- what lies in the slot of a lease is a whole block
pub lies_whole : (v : View) (s : Seen) → Fit v s → (slot : ℕ) (bytes : List ℕ) → Lies v Blocks slot bytes → length bytes ≡ 524288
lies_whole v s fit slot bytes lies = (lies.reads (fit_tells v s fit)).size
