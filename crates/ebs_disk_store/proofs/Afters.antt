-- What a call of any kind leaves: its slots, what is recorded, and what is pending.
use Rattle.std.proofs.Common.{◌≡◌, ◌⊎◌, inl, inr, ⊎_elim, ℕ, ◌+◌, List, [], None, Some, refl, sym, ap, subst, ◌∙◌}
use Rattle.sha2.specs.Sha256.{sha256}
use Rattle.ebs_world.specs.declared.area.Area.{Area}
use Rattle.ebs_world.specs.declared.area.Area.TheVariants.{Blocks, Journal0, Journal1}
use Rattle.ebs_world.specs.View.{View}
use Rattle.ebs_world.specs.inner.Runs.{ran_weaker}
use Rattle.ebs_model.specs.declared.keys.Moment.{Moment}
use Rattle.ebs_model.specs.declared.request.Request.{Request}
use Rattle.ebs_model.specs.declared.request.Request.TheVariants.{StartSnapshot, PutSnapshotBlock, CompleteSnapshot, ListSnapshotBlocks, ListChangedBlocks, GetSnapshotBlock, DescribeSnapshot, DescribeSnapshots, DeleteSnapshot, ModifyPermission, LockSnapshot, UnlockSnapshot, ArchiveSnapshot, RestoreTier, CreateVolume, CreateSnapshot, WriteVolumeBlock, ReadVolumeBlock, DescribeVolume, DeleteVolume, CreateRule, GetRule, UpdateRule, DeleteRule, ListRules, LockRule, UnlockRule, ListBin, RestoreFromBin, CreatePolicy, GetPolicy, DeletePolicy, RunPolicy}
use Rattle.ebs_model.specs.declared.answer.Answer.{Answer}
use Rattle.ebs_model.specs.declared.answer.Answer.TheVariants as answers
use Rattle.ebs_model.specs.declared.answer.Refusal.TheVariants as refusals
use Rattle.ebs_model.specs.Machine.{Machine, advance}
use Rattle.ebs_records.specs.declared.record.Record.{Record}
use Rattle.ebs_records.specs.declared.record.Record.TheVariants.{Accepted}
use Rattle.ebs_recovery.specs.Made.{bare}
use Rattle.ebs_recovery.specs.inner.Fits.{Seen, Fit, recorded}
use Rattle.ebs_recovery.specs.inner.FitLaws.{IsOtherSlot, MachineWhileWritten, RecordedRests}
use Rattle.ebs_disk_store.specs.declared.heads.PutHead.{PutHead}
use Rattle.ebs_disk_store.specs.declared.heads.PutHead.TheVariants as head
use Rattle.ebs_recovery.specs.inner.Changes.{IsRowChange}
use Rattle.ebs_disk_store.specs.inner.Calls.{recorded_request}
use Rattle.ebs_disk_store.specs.Opened.{OffJournalAndSlot}
use Rattle.ebs_disk_store.specs.inner.Told.{RanOffJournalAndOne, at_clock, called_at, mended, unsure, without_lease}
use Rattle.ebs_disk_store.specs.inner.Turned as turned
use Rattle.ebs_disk_store.specs.inner.Turned.{Told, IsLeft, IsSpared, OneMoreOrNone}
use Rattle.ebs_disk_store.specs.inner.Viewed as viewed
use Rattle.ebs_disk_store.specs.inner.Viewed.{Viewed}
use Rattle.ebs_disk_store.specs.inner.Fetched as fetch
use Rattle.ebs_disk_store.specs.inner.Fetched.{Fetched}
use Rattle.ebs_disk_store.specs.inner.Puts as puts
use Rattle.ebs_disk_store.specs.inner.Puts.{WholePutTold, IsPutLeft, IsWholeSpared, put_at, staged_in, with_bytes}
use Rattle.ebs_disk_store.specs.inner.Applied as applied
use Rattle.ebs_disk_store.specs.inner.Applied.{Applied}
use Rattle.ebs_disk_store.specs.inner.Pending.{IsPendingAfter, IsRecordOf}

-- ---- the record of a call

recorded_row : (m : Machine) (account : ℕ) (request : Request) → IsRowChange request → recorded_request m account request ≡ bare (recorded_request m account request)
recorded_row m account (StartSnapshot size parent description tags token timeout) h = refl
recorded_row m account (PutSnapshotBlock key index digest bytes) h = absurd h
recorded_row m account (CompleteSnapshot key count checksum) h = refl
recorded_row m account (ListSnapshotBlocks key page most start) h = absurd h
recorded_row m account (ListChangedBlocks first second page most start) h = absurd h
recorded_row m account (GetSnapshotBlock key index token) h = absurd h
recorded_row m account (DescribeSnapshot key) h = absurd h
recorded_row m account (DescribeSnapshots from most) h = absurd h
recorded_row m account (DeleteSnapshot key) h = refl
recorded_row m account (ModifyPermission key add add_all remove remove_all) h = refl
recorded_row m account (LockSnapshot key mode term cool_hours) h = refl
recorded_row m account (UnlockSnapshot key) h = refl
recorded_row m account (ArchiveSnapshot key) h = refl
recorded_row m account (RestoreTier key days) h = refl
recorded_row m account (CreateVolume origin size tags token) h = refl
recorded_row m account (CreateSnapshot key description tags) h = refl
recorded_row m account (WriteVolumeBlock key index digest bytes) h = absurd h
recorded_row m account (ReadVolumeBlock key index) h = absurd h
recorded_row m account (DescribeVolume key) h = absurd h
recorded_row m account (DeleteVolume key) h = refl
recorded_row m account (CreateRule days tags description delay) h = refl
recorded_row m account (GetRule key) h = absurd h
recorded_row m account (UpdateRule key days tags description) h = refl
recorded_row m account (DeleteRule key) h = refl
recorded_row m account ListRules h = absurd h
recorded_row m account (LockRule key delay) h = refl
recorded_row m account (UnlockRule key) h = refl
recorded_row m account (ListBin from most) h = absurd h
recorded_row m account (RestoreFromBin key) h = refl
recorded_row m account (CreatePolicy targets hours time retain add) h = refl
recorded_row m account (GetPolicy key) h = absurd h
recorded_row m account (DeletePolicy key) h = refl
recorded_row m account (RunPolicy key) h = refl

recorded_put : (m : Machine) (account : ℕ) (put : PutHead) (bytes : List ℕ) → with_bytes put [] ≡ bare (recorded_request m account (with_bytes put bytes))
recorded_put m account (head.Snapshot key index digest) bytes = refl
recorded_put m account (head.Volume key index digest) bytes = refl

-- ---- whatever the disk

-- one change more of the kept form, at the clock; or what is kept of machine and slots stays
abbrev pub IsKeptAfter : Seen → Seen → Type 0
IsKeptAfter s t = ((t.recorded.changes ≡ s.recorded.changes + 1) × (t.recorded.clock ≡ t.clock) × (t.pending ≡ None)) ⊎ ((t.recorded ≡ s.recorded) × (t.slots.keys ≡ s.slots.keys))

pub record IsAfter (s : Seen) (account : ℕ) (now : Moment) (request : Request) (answer : Answer) (t : Seen) : Type 0 where
  pub kept : IsKeptAfter s t
  pub pending : IsPendingAfter s t account now request answer

abbrev failed : Answer
failed = answers.Refused refusals.Unavailable

module _ (s : Seen) (account : ℕ) (now : Moment) (request : Request) where
  abbrev After : Answer → Seen → Type 0
  After answer t = IsAfter s account now request answer t

  stands : (answer : Answer) → After answer s
  stands answer = record { kept = inr (refl, refl); pending = inr (inl refl) }

  ticks : (answer : Answer) → After answer (at_clock s now)
  ticks answer = record { kept = inr (refl, refl); pending = inr (inl refl) }

  is_mended : (answer : Answer) → After answer (mended s)
  is_mended answer = record { kept = inr (refl, refl); pending = inl refl }

  -- the call is pending, and E17 is answered
  is_unsure : (r : Record) → IsRecordOf (advance s.recorded now) account now request r → After failed (unsure (mended s) r)
  is_unsure r of = record { kept = inr (refl, refl); pending = inr (inr (refl, (r, refl, of))) }

  same_as : (answer : Answer) (t u : Seen) → t ≡ u → After answer u → After answer t
  same_as answer t u is after = subst (After answer) (sym is) after

  pub after_view : (t : Seen) (answer : Answer) → Viewed s t account now request answer → After answer t
  after_view t answer (viewed.shown a e is) = same_as _ t _ is (ticks _)
  after_view t answer (viewed.refused r e is) = same_as _ t _ is (ticks _)
  after_view t answer (viewed.memory is) = same_as _ t _ is (stands _)

  pub after_fetch : (Still Rose : Type 0) (v : View) (t : Seen) (answer : Answer) → Fetched Still Rose v s t account now request answer → After answer t
  after_fetch Still Rose v t answer (fetch.fetched digest bytes e hashed is) = same_as _ t _ is (ticks _)
  after_fetch Still Rose v t answer (fetch.zeros e is still) = same_as _ t _ is (ticks _)
  after_fetch Still Rose v t answer (fetch.damaged stored found e apart there is) = same_as _ t _ is (ticks _)
  after_fetch Still Rose v t answer (fetch.refused r e is still) = same_as _ t _ is (ticks _)
  after_fetch Still Rose v t answer (fetch.unavailable digest rose e is) = same_as _ t _ is (stands _)
  after_fetch Still Rose v t answer (fetch.memory still is) = same_as _ t _ is (stands _)

  after_left : IsRowChange request → (t : Seen) → IsLeft s t account now request → After failed t
  after_left row t left = ⊎_elim (λ is. same_as failed t s is (stands failed)) (λ rest. ⊎_elim (λ is. same_as failed t (mended s) is (is_mended failed))
      (λ is. same_as failed t _ is (is_unsure _ (record { slot = None; is = ap (λ (r : Request). Accepted (called_at account now r)) (recorded_row (advance s.recorded now) account request row) }))) rest) left

  after_spared : (answer : Answer) (t : Seen) → IsSpared s t → After answer t
  after_spared answer t left = ⊎_elim (λ is. same_as answer t s is (stands answer)) (λ is. same_as answer t (mended s) is (is_mended answer)) left

  pub after_told : IsRowChange request → (Still Rose : Type 0) (t : Seen) (answer : Answer) → Told Still Rose s t account now request answer → After answer t
  after_told row Still Rose t answer (turned.made_change a e counted clock at slots pending) =
      record { kept = inl (counted, at ∙ sym clock, pending); pending = inl pending }
  after_told row Still Rose t answer (turned.answered a e is still) = same_as _ t _ is (ticks _)
  after_told row Still Rose t answer (turned.refused r e is still) = same_as _ t _ is (ticks _)
  after_told row Still Rose t answer (turned.unavailable rose would left) = after_left row t left
  after_told row Still Rose t answer (turned.memory left) = after_spared _ t left

module _ (s : Seen) (account : ℕ) (now : Moment) (put : PutHead) (bytes digest : List ℕ) where
  abbrev AfterPut : Answer → Seen → Type 0
  AfterPut answer t = IsAfter s account now (with_bytes put bytes) answer t

  -- a block was staged, and its lease is given up
  given_up : (answer : Answer) (slot : ℕ) → AfterPut answer (without_lease (staged_in s slot digest) slot)
  given_up answer slot = record { kept = inr (refl, refl); pending = inl refl }

  given_up_later : (answer : Answer) (slot : ℕ) → AfterPut answer (at_clock (without_lease (staged_in s slot digest) slot) now)
  given_up_later answer slot = record { kept = inr (refl, refl); pending = inl refl }

  given_up_mended : (answer : Answer) (slot : ℕ) → AfterPut answer (mended (without_lease (staged_in s slot digest) slot))
  given_up_mended answer slot = record { kept = inr (refl, refl); pending = inl refl }

  -- the put is pending, and E17 is answered
  given_up_unsure : (slot : ℕ) → AfterPut failed (unsure (mended (without_lease (staged_in s slot digest) slot)) (Accepted (put_at account now put slot [])))
  given_up_unsure slot = record {
    kept = inr (refl, refl);
    pending = inr (inr (refl, (_, refl, record { slot = Some slot; is = ap (λ (r : Request). Accepted (record { at = now; account = account; request = r; slot = Some slot })) (recorded_put (advance s.recorded now) account put bytes) })));
  }

  after_put_left : (slot : ℕ) (t : Seen) → IsPutLeft (staged_in s slot digest) t account now put slot → AfterPut failed t
  after_put_left slot t left = ⊎_elim (λ is. subst (AfterPut failed) (sym is) (given_up failed slot))
      (λ rest. ⊎_elim (λ is. subst (AfterPut failed) (sym is) (given_up_mended failed slot)) (λ is. subst (AfterPut failed) (sym is) (given_up_unsure slot)) rest) left

  after_whole_spared : (answer : Answer) (t : Seen) → IsWholeSpared s t digest → AfterPut answer t
  after_whole_spared answer t left = ⊎_elim (λ is. subst (AfterPut answer) (sym is) (stands s account now (with_bytes put bytes) answer))
      (λ rest. ⊎_elim (λ is. subst (AfterPut answer) (sym is) (is_mended s account now (with_bytes put bytes) answer)) (λ is. subst (AfterPut answer) (sym is.2) (given_up answer is.0)) rest) left

  after_put : (Still Rose : Type 0) (t : Seen) (answer : Answer) → WholePutTold Still Rose s t account now put digest answer → AfterPut answer t
  after_put Still Rose t answer (puts.put_made a e counted clock at slot next slots pending) =
      record { kept = inl (counted, at ∙ sym clock, pending); pending = inl pending }
  after_put Still Rose t answer (puts.put_refused r e left) = ⊎_elim (λ is. subst (AfterPut (answers.Refused r)) (sym is.0) (ticks s account now (with_bytes put bytes) (answers.Refused r)))
      (λ is. subst (AfterPut (answers.Refused r)) (sym is.1.2) (given_up_later (answers.Refused r) is.1.0)) left
  after_put Still Rose t answer (puts.put_unstaged rose tested left) = after_spared s account now (with_bytes put bytes) failed t left
  after_put Still Rose t answer (puts.put_unavailable rose would slot next left) = after_put_left slot t left
  after_put Still Rose t answer (puts.put_memory left) = after_whole_spared answers.Memory t left

-- a call of any kind
pub after_applied : (Still Rose : Type 0) (v : View) (s t : Seen) (account : ℕ) (now : Moment) (request : Request) (answer : Answer) → Applied Still Rose v s t account now request answer → IsAfter s account now request answer t
after_applied Still Rose v s t account now request answer (applied.shown view still told) = after_view s account now request t answer told
after_applied Still Rose v s t account now request answer (applied.fetched fetched told) = after_fetch s account now request Still Rose v t answer told
after_applied Still Rose v s t account now request answer (applied.changed row told) = after_told s account now request row Still Rose t answer told
after_applied Still Rose v s t account now request answer (applied.put put bytes is within told) =
    subst (λ (r : Request). IsAfter s account now r answer t) (sym is) (after_put s account now put bytes (sha256 bytes) Still Rose t answer told)
after_applied Still Rose v s t account now request answer (applied.bad refusal e is still a) = same_as s account now request answer t _ is (ticks s account now request answer)
after_applied Still Rose v s t account now request answer (applied.starved is still a) = same_as s account now request answer t _ is (stands s account now request answer)

-- ---- on an honest disk

-- another slot lies off the journal
other_apart : (slot : ℕ) (a : Area) (i : ℕ) → IsOtherSlot slot a i → OffJournalAndSlot slot a i
other_apart slot a i other = ((λ is. not_zero (sym other.0 ∙ is), λ is. not_one (sym other.0 ∙ is)), other.1)
  where
    not_zero : Blocks ≡ Journal0 → ⊥
    not_zero e = cc

    not_one : Blocks ≡ Journal1 → ⊥
    not_one e = cc

pub recorded_after : (old new : View) (s t : Seen) → RecordedRests new → MachineWhileWritten old new → RanOffJournalAndOne s.slots old new → Fit old s → Fit new t → IsKeptAfter s t → OneMoreOrNone old new s t
recorded_after old new s t rests stays ran before after (inl more) = inl (more.0, sym (rests t after) ∙ ap (λ (c : Moment). advance (recorded new t) c) more.1, more.2)
recorded_after old new s t rests stays ran before after (inr same) =
    let machine = stays s t ran.slot ran.free (ran_weaker (OffJournalAndSlot ran.slot) (IsOtherSlot ran.slot) old new (other_apart ran.slot) ran.ran) before same.0 same.1 in
    inr (machine, ap (λ (m : Machine). m.changes) machine)
