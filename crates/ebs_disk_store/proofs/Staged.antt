-- Blocks that are staged, and calls one after the other.
use Rattle.std.proofs.Common.{◌≡◌, ℕ, true, List, Option, None, Some, refl, sym, ap, subst}
use Rattle.ebs_world.specs.declared.area.Area.{Area}
use Rattle.ebs_world.specs.declared.area.Area.TheVariants.{Journal0, Journal1, Blocks, Archive}
use Rattle.ebs_world.specs.View.{View, Ran, Leaves}
use Rattle.ebs_world.specs.inner.Runs.{leaves_weaker, leaves_on, ran_weaker}
use Rattle.std.proofs.Common.{Result, Ok, Err, ◌∙◌}
use Rattle.std.specs.Prelude.{IfOk, OnErr}
use Rattle.sha2.specs.Sha256.{sha256}
use Rattle.ebs_slots.specs.declared.refusal.StageRefusal.{StageRefusal}
use Rattle.ebs_slots.specs.inner.Slots.{SlotTable, Leased, IsApart, IsFree, IsNext, abandoned, staged}
use Rattle.ebs_slots.specs.Slots.{OffSlot}
use Rattle.ebs_slots.specs.inner.Standing.{Lies, RanOffOne}
use Rattle.ebs_slots.proofs.Apart.{top_free}
use Rattle.ebs_journal.specs.Opening.{OffJournal}
use Rattle.ebs_recovery.specs.inner.FitLaws.{StagedFits, WritesFree, WritingFits}
use Rattle.ebs_recovery.specs.inner.Fits.{Fit, Seen, StandsForOne, for_recorded, with_pending, recorded}
use Rattle.ebs_recovery.specs.Stands.{Stands}
use Rattle.ebs_model.specs.Machine.{Machine}
use Rattle.std.specs.FinMap as fin
use Rattle.ebs_lineage.specs.Table.{NodeMap}
use Rattle.ebs_recovery.specs.Made.{SlotOfStamp}
use Rattle.ebs_disk_store.specs.inner.Shown.{AreSlotted, IsSound, is_blocks}
use Rattle.ebs_disk_store.proofs.Freed.{counted_same}
use Rattle.ebs_disk_store.specs.Opened.{OffJournalAndSlot}
use Rattle.ebs_disk_store.specs.inner.Told.{RanOffJournalAndOne}

pub area_is : (a : Area) → is_blocks a ≡ true → a ≡ Blocks
area_is Journal0 e = absurd (cc)
area_is Journal1 e = absurd (cc)
area_is Blocks e = refl
area_is Archive e = absurd (cc)

-- a run of calls that changes nothing but journals
pub off_journal : (old new : View) (s slots : SlotTable) → slots ≡ s → IsApart slots → Ran OffJournal old new → RanOffJournalAndOne s old new
off_journal old new s slots is apart ran = subst (λ (t : SlotTable). RanOffJournalAndOne t old new) is (record {
  slot = slots.top;
  free = top_free slots apart;
  ran = ran_weaker OffJournal (OffJournalAndSlot slots.top) old new (λ a i here. here.0) ran;
})

-- what an image stands for after some calls that leave the recorded machine and no pending change, it stands for before them
pub one_on : (old mid : View) (s t : Seen) → recorded mid t ≡ recorded old s → t.pending ≡ None → (c : _) → StandsForOne mid t c → StandsForOne old s c
one_on old mid s t same none c (for_recorded h) = for_recorded (subst (λ (m : Machine). Stands c m) same h)
one_on old mid s t same none c (with_pending e p whole h) = absurd (nothing (sym none) p)
  where
    nothing : {A : Type 0} {x : A} {o : Option A} → None ≡ o → o ≡ Some x → ⊥
    nothing a b = cc

-- two calls, one after the other
pub after_none : (old mid new : View) (s t : Seen) → recorded mid t ≡ recorded old s → t.pending ≡ None → Leaves old mid (StandsForOne old s) → Leaves mid new (StandsForOne mid t) → Leaves old new (StandsForOne old s)
after_none old mid new s t same none first second = leaves_on old mid new (StandsForOne old s) first (leaves_weaker mid new (StandsForOne mid t) (StandsForOne old s) (one_on old mid s t same none) second)

abbrev pub with_slots : Seen → SlotTable → Seen
with_slots s t = record s { slots = t }

-- what a staging leaves of a store, by its answer
module _ (old new : View) (s : Seen) (t : SlotTable) (block : List ℕ) (settled : s.pending ≡ None) (area : s.slots.area ≡ Blocks) where
  writes : (slot : ℕ) → IsFree s.slots slot → Ran (OffSlot s.slots.area slot) old new → WritesFree old new s slot
  writes slot free ran = record { settled = settled; free = free; ran = subst (λ (a : Area). Ran (OffSlot a slot) old new) area ran }

  -- the slot that was written
  pub wrote : (r : Result Leased StageRefusal) → IfOk r (λ l. IsNext s.slots l.slot) → IfOk r (λ l. Ran (OffSlot s.slots.area l.slot) old new) → OnErr r (RanOffOne s.slots old new) → (slot : ℕ) × WritesFree old new s slot
  wrote (Ok l) next ran failed = (l.slot, writes l.slot next.free ran)
  wrote (Err e) next ran failed = (failed.slot, writes failed.slot failed.free failed.ran)

  pub one_ran : (r : Result Leased StageRefusal) → IfOk r (λ l. IsNext s.slots l.slot) → IfOk r (λ l. Ran (OffSlot s.slots.area l.slot) old new) → OnErr r (RanOffOne s.slots old new) → RanOffOne s.slots old new
  one_ran (Ok l) next ran failed = record { slot = l.slot; free = next.free; ran = ran }
  one_ran (Err e) next ran failed = failed

  pub fit_staged : (r : Result Leased StageRefusal) → StagedFits old new → WritingFits old new → Fit old s → IfOk r (λ l. IsNext s.slots l.slot) → IfOk r (λ l. l.digest ≡ sha256 block)
      → IfOk r (λ l. t ≡ staged s.slots l.slot l.digest) → IfOk r (λ l. Lies new s.slots.area l.slot block) → IfOk r (λ l. Ran (OffSlot s.slots.area l.slot) old new) → OnErr r (t ≡ s.slots) → OnErr r (RanOffOne s.slots old new)
      → Fit new (with_slots s t)
  fit_staged (Ok l) fits still fit next digest is lies ran same failed =
      subst (λ (t : SlotTable). Fit new (with_slots s t)) (sym (is ∙ ap (staged s.slots l.slot) digest))
      (fits s l.slot block (writes l.slot next.free ran) fit (subst (λ (a : Area). Lies new a l.slot block) area lies))
  fit_staged (Err e) fits still fit next digest is lies ran same failed =
      subst (λ (t : SlotTable). Fit new (with_slots s t)) (sym same) (still s failed.slot (writes failed.slot failed.free failed.ran) fit)

  pub keys_staged : (r : Result Leased StageRefusal) → IfOk r (λ l. t ≡ staged s.slots l.slot l.digest) → OnErr r (t ≡ s.slots) → t.keys ≡ s.slots.keys
  keys_staged (Ok l) is same = ap (λ (t : SlotTable). t.keys) is
  keys_staged (Err e) is same = ap (λ (t : SlotTable). t.keys) same

pub fit_abandoned : (v : View) (s : Seen) (t : SlotTable) (slot : ℕ) → t ≡ abandoned s.slots slot → Fit v (with_slots s (abandoned s.slots slot)) → Fit v (with_slots s t)
fit_abandoned v s t slot is fit = subst (λ (t : SlotTable). Fit v (with_slots s t)) (sym is) fit

-- ---- what a store keeps by itself

-- a staging leaves keys and their counts
pub kept_table : (s t : SlotTable) (r : Result Leased StageRefusal) → IfOk r (λ l. t ≡ staged s l.slot l.digest) → OnErr r (t ≡ s) → (t.keys ≡ s.keys) × (t.counts ≡ s.counts) × (t.area ≡ s.area)
kept_table s t (Ok l) is same = (ap (λ (u : SlotTable). u.keys) is, ap (λ (u : SlotTable). u.counts) is, ap (λ (u : SlotTable). u.area) is)
kept_table s t (Err e) is same = (ap (λ (u : SlotTable). u.keys) same, ap (λ (u : SlotTable). u.counts) same, ap (λ (u : SlotTable). u.area) same)

pub sound_with : (s : Seen) (nodes : NodeMap) (t : SlotTable) → IsSound s nodes → t.keys ≡ s.slots.keys → t.counts ≡ s.slots.counts → t.area ≡ s.slots.area → IsSound (with_slots s t) nodes
sound_with s nodes t sound keys counts area = record {
  late = sound.late;
  early = sound.early;
  few = sound.few;
  room = sound.room;
  given = λ stamp slot e. sound.given stamp slot (ap (λ (k : SlotOfStamp). fin.get k stamp) (sym keys) ∙ e);
  slotted = subst (λ (k : SlotOfStamp). AreSlotted k s.recorded) (sym keys) sound.slotted;
  counted = counted_same s.slots t nodes keys counts sound.counted;
  indexed = sound.indexed;
  laws = sound.laws;
  area = ap is_blocks area ∙ sound.area;
  clean = sound.clean;
}
