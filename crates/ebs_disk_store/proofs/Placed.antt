-- A block that is followed: what it leaves of the slots, and that these count the blocks that nodes keep.
use Rattle.std.proofs.Common.{◌≡◌, ◌≢◌, inl, inr, ℕ, ◌+◌, ◌<◌, ◌≤◌, ◌^◌, List, [], true, not, Option, None, Some, Result, Ok, Err, refl, sym, ap, subst, ◌∙◌, arith}
use Rattle.std.specs.Prelude.{IfSome, IsSome, OnOk}
use Rattle.std.specs.FinMap as fin
use Rattle.ebs_slots.specs.inner.Slots.{SlotTable, placed}
use Rattle.ebs_slots.proofs.Maps.{same_or}
use Rattle.ebs_model.specs.declared.request.Request.{Request}
use Rattle.ebs_model.specs.declared.request.Request.TheVariants.{PutSnapshotBlock, WriteVolumeBlock}
use Rattle.ebs_model.specs.Machine.{Machine}
use Rattle.ebs_lineage.specs.Table.{NodeMap}
use Rattle.ebs_holds.specs.Holds.{nodes_in}
use Rattle.ebs_holds.specs.Counted.{KeepsBlocks, KeepsCounted, PutsCounted, replaced_in, without_stamp}
use Rattle.ebs_collect.specs.Slices.{IsCounted, Frees}
use Rattle.ebs_kept.specs.declared.place.Place.{Place}
use Rattle.ebs_kept.specs.declared.place.Place.TheVariants.{Upload, Volume}
use Rattle.ebs_kept.specs.inner.Counted.{ChangesCounted}
use Rattle.ebs_kept.specs.inner.Requests.{write_at}
use Rattle.ebs_kept.specs.inner.Shown.{Form}
use Rattle.ebs_records.specs.declared.record.AcceptedCall.{AcceptedCall}
use Rattle.ebs_recovery.specs.Made.{SlotOfStamp, called, is_taken}
use Rattle.ebs_recovery.specs.inner.Changes.{IsRowChange}
use Rattle.ebs_disk_store.specs.declared.following.Unfollowed.{Unfollowed}
use Rattle.ebs_disk_store.specs.inner.Following.{IsKeptState, Makes, Follows}
use Rattle.ebs_disk_store.specs.inner.Shown.{AreGiven, AreSlotted}
use Rattle.ebs_disk_store.proofs.Followed.{made_block, put_failed}
use Rattle.ebs_disk_store.proofs.PutRecorded.{slotted_more}
use Rattle.ebs_disk_store.proofs.Swept.{IsLess, frees_less, less_agree, less_follows, less_without}

-- ---- blocks are counted

-- a change without a block leaves all blocks with their nodes
keeps_row : (old new : NodeMap) (request : Request) (stamp : ℕ) (lost : Option ℕ) → IsRowChange request → KeepsCounted old new request stamp lost → KeepsBlocks old new
keeps_row old new (PutSnapshotBlock key index digest bytes) stamp lost row h = absurd row
keeps_row old new (WriteVolumeBlock key index digest bytes) stamp lost row h = absurd row
keeps_row old new request stamp lost row h = h

pub row_keeps : (old new : Form) (request : Request) → IsRowChange request → ChangesCounted old new request → KeepsBlocks (nodes_in old.holding) (nodes_in new.holding)
row_keeps old new request row changes = elim (same_or new.machine.changes old.machine.changes) [
  | inl t ↦ changes.0 t.1
  | inr t ↦ keeps_row (nodes_in old.holding) (nodes_in new.holding) request old.machine.stamps (replaced_in old.holding request) row (changes.1 t.1)
]

-- where it is followed
pub on_ok : {P : Type 0} (result : Result (Unit {0}) Unfollowed) → P → OnOk result P
on_ok (Ok done) p = p
on_ok (Err why_not) p = tt

no_stamp : (keys : SlotOfStamp) (stamps : ℕ) → AreGiven keys stamps → fin.get keys stamps ≡ None
no_stamp keys stamps given = by (fin.get keys stamps) refl
  where
    by : (o : Option ℕ) → fin.get keys stamps ≡ o → fin.get keys stamps ≡ None
    by None e = e
    by (Some slot) e = let below = given stamps slot e in absurd (omega (arith, below))

-- a stamp that has a slot has one still where another is given one
pub there_placed : (lost : Option ℕ) (nodes : NodeMap) (s t : SlotTable) (stamp slot : ℕ) → IfSome lost (λ key. (s : SlotTable) → IsCounted s nodes → IsSome (fin.get s.keys key)) → IsCounted s nodes → t ≡ placed s stamp slot
    → IfSome lost (λ key. IsSome (fin.get t.keys key))
there_placed None nodes s t stamp slot there counted is = tt
there_placed (Some key) nodes s t stamp slot there counted is = subst (λ (u : SlotTable). IsSome (fin.get u.keys key)) (sym is) (slotted_more s.keys stamp slot key (there s counted))

module _ (old new : Form) (more : new.machine.changes ≡ old.machine.changes + 1) (s : SlotTable) (state : IsKeptState old.machine s) (counted : IsCounted s (nodes_in old.holding)) (slot : ℕ) where
  once_more : (lost : Option ℕ) → PutsCounted (nodes_in old.holding) (nodes_in new.holding) old.machine.stamps lost → IsCounted (without_stamp (placed s old.machine.stamps slot) lost) (nodes_in new.holding)
  once_more lost puts = puts s (placed s old.machine.stamps slot) slot counted (no_stamp s.keys old.machine.stamps state.given) (record { keys = refl; counts = refl })

  changed : new.machine.changes ≢ old.machine.changes
  changed same = omega (arith, same, more)

  put_counted : (place : Place) (index : ℕ) (digest : List ℕ) → ChangesCounted old new (write_at place index digest digest)
      → IsCounted (without_stamp (placed s old.machine.stamps slot) (replaced_in old.holding (write_at place index [] []))) (nodes_in new.holding)
  put_counted (Upload key) index digest changes = once_more (replaced_in old.holding (write_at (Upload key) index [] [])) (changes.1 changed)
  put_counted (Volume key) index digest changes = once_more (replaced_in old.holding (write_at (Volume key) index [] [])) (changes.1 changed)

  -- the new block has its slot, and the one that it replaced has lost its own
  pub block_counted : (place : Place) (index : ℕ) (digest : List ℕ) (lost : Option ℕ) (stamp : ℕ) (middle after : SlotTable) → ChangesCounted old new (write_at place index digest digest)
      → lost ≡ replaced_in old.holding (write_at place index [] []) → stamp ≡ old.machine.stamps → middle ≡ placed s stamp slot → after ≡ without_stamp middle lost → IsCounted after (nodes_in new.holding)
  block_counted place index digest lost stamp middle after changes gone_is stamp_is middle_is after_is =
      subst (λ (u : SlotTable). IsCounted u (nodes_in new.holding))
      (sym (after_is ∙ (λ i. without_stamp ((middle_is ∙ ap (λ (n : ℕ). placed s n slot) stamp_is) i) (gone_is i)))) (put_counted place index digest changes)

-- ---- and followed

module _ (m : Machine) (slots : SlotTable) (a : AcceptedCall) (freed : Machine) (same : freed ≡ m) (before : SlotTable) (n : Machine) where
  pub block_failed : (after : SlotTable) (place : Place) (index : ℕ) (digest : List ℕ) (why_not : Unfollowed) → a.request ≡ write_at place index digest digest
      → Makes freed n a.at a.account (write_at place index digest digest) (Err why_not) → Follows m slots n after (called a) (Err why_not)
  block_failed after place index digest why_not request_is makes =
      put_failed m slots a n after why_not (subst (λ (x : Machine). Makes x n a.at a.account a.request (Err why_not)) same
      (subst (λ (q : Request). Makes freed n a.at a.account q (Err why_not)) (sym request_is) makes))

  module _ (state : IsKeptState freed before) (frees : Frees slots before) (late : m.clock.second ≤ a.at.second) (early : a.at.second ≤ 2 ^ 36) (place : Place) (index : ℕ) (digest : List ℕ) (slot : ℕ)
      (makes : Makes freed n a.at a.account (write_at place index digest digest) (Ok tt)) (few : index < 2 ^ 25) (slot_is : a.slot ≡ Some slot) (request_is : a.request ≡ write_at place index digest digest) where
    pub block_follows : (stamp : ℕ) (middle after : SlotTable) (lost : Option ℕ) → stamp ≡ freed.stamps → middle ≡ placed before stamp slot → after ≡ without_stamp middle lost → AreSlotted after.keys n
        → not (is_taken (record { machine = m; slots = slots.keys }) slot) ≡ true → Follows m slots n after (called a) (Ok tt)
    block_follows stamp middle after lost stamp_is middle_is after_is slotted free =
        less_follows n middle after (subst (λ (u : SlotTable). IsLess middle u) (sym after_is) (less_without middle lost)) slotted m slots (called a)
        (made_block m slots a n made late early before kept_before (less_agree m slots before (frees_less slots before frees) kept_before.slotted) frees.top place index digest slot slot_is request_is few free middle
        (middle_is ∙ ap (λ (k : ℕ). placed before k slot) (stamp_is ∙ ap (λ (x : Machine). x.stamps) same)))
      where
        kept_before : IsKeptState m before
        kept_before = subst (λ (x : Machine). IsKeptState x before) same state

        made : Makes m n a.at a.account a.request (Ok tt)
        made = subst (λ (x : Machine). Makes x n a.at a.account a.request (Ok tt)) same (subst (λ (q : Request). Makes freed n a.at a.account q (Ok tt)) (sym request_is) makes)
