-- What a turn does to the leases of the store, and to the blocks that lie under them.
use Rattle.std.proofs.Common.{◌≡◌, ◌≢◌, ℕ, List, [], ◌∷◌, ◌++◌, Bool, true, false, Option, Some, None, is_some, if◌then◌else◌, cond, ◌==◌, ◌||◌, ◌&&◌, not, inl, inr, refl, ap, sym, ◌∙◌, subst}
use Rattle.std.proofs.lemmas.Bool.Decides.{eqb_tells}
use Rattle.std.specs.declared.snapshot.Snapshot.{Snapshot}
use Rattle.std.specs.FinMap as fin
use Rattle.sha2.specs.Sha256.{sha256}
use Rattle.ebs_world.specs.declared.area.Area.TheVariants.{Blocks, Journal0, Journal1}
use Rattle.ebs_world.specs.View.{View, Ran}
use Rattle.ebs_journal.specs.Opening.{OffJournal}
use Rattle.ebs_slots.specs.inner.Slots.{SlotTable, IsFree}
use Rattle.ebs_slots.specs.inner.Standing.{Lies}
use Rattle.ebs_slots.proofs.Blocks.{stays_in}
use Rattle.ebs_slots.proofs.Maps.{some_none, gets_here, gets_there, gone, stays}
use Rattle.ebs_recovery.specs.inner.Fits.{Seen}
use Rattle.ebs_disk_store.specs.Opened.{OffJournalAndSlot}
use Rattle.ebs_disk_store.proofs.Held.{lies_off}
use Rattle.ebs_turns.specs.declared.line.Deed.{Deed}
use Rattle.ebs_turns.specs.declared.line.Deed.TheVariants.{Nothing, Takes, Spends}
use Rattle.ebs_turns.specs.declared.line.Turn.{Turn}
use Rattle.ebs_turns.specs.Line.{out_after, is_on, turns_on}
use Rattle.ebs_desk.specs.declared.item.Item.{Item}
use Rattle.ebs_desk.specs.declared.item.Item.TheVariants.{Staged}
use Rattle.ebs_desk.specs.Line.{block_of, block_after, block_by, block_under}
use Rattle.ebs_desk.specs.Turns.{IsStaged}

-- ---- blocks stay where they lie

not_zero : Blocks ≢ Journal0
not_zero is = cc

not_one : Blocks ≢ Journal1
not_one is = cc

-- what was written is a journal's, or in another slot
pub lies_aside : (old new : View) (n slot : ℕ) (block : List ℕ) → slot ≢ n → Ran (OffJournalAndSlot n) old new → Lies old Blocks slot block → Lies new Blocks slot block
lies_aside old new n slot block off ran lies = record {
  reads = λ tells. let told = sym ran.told ∙ tells in stays_in old.reads new.reads Blocks slot n block off (λ i here. ran.kept told Blocks i ((not_zero, not_one), here)) (lies.reads told);
  images = λ tells honest c now.
      let told = sym ran.told ∙ tells in
      let kept = sym ran.kept_honest ∙ honest in
      let was = ran.images kept c now in
      stays_in was.0 c Blocks slot n block off (λ i here. was.2 Blocks i ((not_zero, not_one), here)) (lies.images told kept was.0 was.1);
}

-- a slot under lease isn't free
not_free : (s : SlotTable) (slot n : ℕ) (digest : List ℕ) → fin.get s.leases slot ≡ Some digest → IsFree s n → slot ≢ n
not_free s slot n digest e free same = some_none digest (sym e ∙ ap (fin.get s.leases) same ∙ free.no_lease)

-- ---- what a turn does to leases

or_true : (b : Bool) → true ≡ b || true
or_true true = refl
or_true false = refl

or_false : (b : Bool) → b ≡ b || false
or_false true = refl
or_false false = refl

and_false : (b : Bool) → false ≡ b && not true
and_false true = refl
and_false false = refl

and_true : (b : Bool) → b ≡ b && not false
and_true true = refl
and_true false = refl

some_same : (x y : List ℕ) → Some x ≡ Some y → x ≡ y
some_same x y e = cc

module _ {D : Type 0} where
  pub record MovesLeases (v w : View) (s t : Seen) (item : Item D) (deed : Deed) : Type 0 where
    pub out : (slot : ℕ) → is_some (fin.get t.slots.leases slot) ≡ out_after slot (is_some (fin.get s.slots.leases slot)) deed
    pub staged : (slot : ℕ) (was : Option (List ℕ)) → ((block : List ℕ) → was ≡ Some block → IsStaged v s slot block) → (block : List ℕ) → block_after slot was item deed ≡ Some block → IsStaged w t slot block

  -- no lease is taken or spent, and one slot is written that nothing has
  pub idle : (v w : View) (s t : Seen) (item : Item D) (n : ℕ) → IsFree s.slots n → Ran (OffJournalAndSlot n) v w → t.slots.leases ≡ s.slots.leases → MovesLeases v w s t item Nothing
  idle v w s t item n free ran same = record {
    out = λ slot. ap (λ m. is_some (fin.get m slot)) same;
    staged = λ slot was is block e. let h = is block e in record { leased = ap (λ m. fin.get m slot) same ∙ h.leased; lies = lies_aside v w n slot block (not_free s.slots slot n (sha256 block) h.leased free) ran h.lies };
  }

  -- nor is a slot written
  pub idle_off : (v w : View) (s t : Seen) (item : Item D) → Ran OffJournal v w → t.slots.leases ≡ s.slots.leases → MovesLeases v w s t item Nothing
  idle_off v w s t item ran same = record {
    out = λ slot. ap (λ m. is_some (fin.get m slot)) same;
    staged = λ slot was is block e. let h = is block e in record { leased = ap (λ m. fin.get m slot) same ∙ h.leased; lies = lies_off v w ran slot block h.lies };
  }

  -- a block is staged in a slot that nothing had
  pub taken : (v w : View) (s t : Seen) (n other : ℕ) (block : Snapshot (List ℕ)) → IsFree s.slots other → Ran (OffJournalAndSlot other) v w → t.slots.leases ≡ fin.insert s.slots.leases n (sha256 block.value)
      → Lies w Blocks n block.value → MovesLeases v w s t (Staged block) (Takes n)
  taken v w s t n other block free ran is lies = record { out = out; staged = staged }
    where
      out : (slot : ℕ) → is_some (fin.get t.slots.leases slot) ≡ is_some (fin.get s.slots.leases slot) || (slot == n)
      out slot = elim (eqb_tells slot n) [
        | inl here ↦ ap (λ m. is_some (fin.get m slot)) is ∙ ap (λ q. is_some (fin.get (fin.insert s.slots.leases n (sha256 block.value)) q)) here.1
            ∙ ap is_some (gets_here s.slots.leases n (sha256 block.value)) ∙ or_true (is_some (fin.get s.slots.leases slot)) ∙ ap (λ b. is_some (fin.get s.slots.leases slot) || b) (sym here.0)
        | inr off ↦ ap (λ m. is_some (fin.get m slot)) is ∙ ap is_some (gets_there s.slots.leases n (sha256 block.value) slot off.1)
            ∙ or_false (is_some (fin.get s.slots.leases slot)) ∙ ap (λ b. is_some (fin.get s.slots.leases slot) || b) (sym off.0)
      ]

      staged : (slot : ℕ) (was : Option (List ℕ)) → ((b : List ℕ) → was ≡ Some b → IsStaged v s slot b) → (b : List ℕ) → (if slot == n then Some block.value else was) ≡ Some b → IsStaged w t slot b
      staged slot was held b e = elim (eqb_tells slot n) [
        | inl here ↦ let same : block.value ≡ b = some_same block.value b (sym (ap (λ c. if c then Some block.value else was) here.0) ∙ e) in
            subst (λ (z : ℕ × List ℕ). IsStaged w t z.0 z.1) (λ i. (sym here.1 i, same i))
            (record { leased = ap (λ m. fin.get m n) is ∙ gets_here s.slots.leases n (sha256 block.value); lies = lies })
        | inr off ↦ let h = held b (sym (ap (λ c. if c then Some block.value else was) off.0) ∙ e) in
            record { leased = ap (λ m. fin.get m slot) is ∙ gets_there s.slots.leases n (sha256 block.value) slot off.1 ∙ h.leased; lies = lies_aside v w other slot b (not_free s.slots slot other (sha256 b) h.leased free) ran h.lies }
      ]

  -- a lease is spent, and no slot is written
  pub spent : (v w : View) (s t : Seen) (item : Item D) (n : ℕ) → Ran OffJournal v w → t.slots.leases ≡ fin.remove s.slots.leases n → MovesLeases v w s t item (Spends n)
  spent v w s t item n ran is = record { out = out; staged = staged }
    where
      out : (slot : ℕ) → is_some (fin.get t.slots.leases slot) ≡ is_some (fin.get s.slots.leases slot) && not (slot == n)
      out slot = elim (eqb_tells slot n) [
        | inl here ↦ ap (λ m. is_some (fin.get m slot)) is ∙ ap (λ q. is_some (fin.get (fin.remove s.slots.leases n) q)) here.1
            ∙ ap is_some (gone s.slots.leases n) ∙ and_false (is_some (fin.get s.slots.leases slot)) ∙ ap (λ b. is_some (fin.get s.slots.leases slot) && not b) (sym here.0)
        | inr off ↦ ap (λ m. is_some (fin.get m slot)) is ∙ ap is_some (stays s.slots.leases n slot off.1)
            ∙ and_true (is_some (fin.get s.slots.leases slot)) ∙ ap (λ b. is_some (fin.get s.slots.leases slot) && not b) (sym off.0)
      ]

      staged : (slot : ℕ) (was : Option (List ℕ)) → ((b : List ℕ) → was ≡ Some b → IsStaged v s slot b) → (b : List ℕ) → (if slot == n then None else was) ≡ Some b → IsStaged w t slot b
      staged slot was held b e = elim (eqb_tells slot n) [
        | inl here ↦ absurd (some_none b (sym e ∙ ap (λ c. if c then None else was) here.0))
        | inr off ↦ let h = held b (sym (ap (λ c. if c then None else was) off.0) ∙ e) in
            record { leased = ap (λ m. fin.get m slot) is ∙ stays s.slots.leases n slot off.1 ∙ h.leased; lies = lies_off v w ran slot b h.lies }
      ]

  -- ---- what was staged under a lease is told by the turns on that lease

  off_deed : (slot : ℕ) (block : Option (List ℕ)) (item : Item D) (deed : Deed) → is_on slot deed ≡ false → block_after slot block item deed ≡ block
  off_deed slot block item Nothing off = refl
  off_deed slot block item (Takes taken) off = ap (λ b. if b then block_of item else block) off
  off_deed slot block item (Spends given) off = ap (λ b. if b then None else block) off

  by_own : (slot : ℕ) (block : Option (List ℕ)) (line : List (Turn (Item D))) → block_by slot block line ≡ block_by slot block (turns_on slot line)
  by_own slot block [] = refl
  by_own slot block (x ∷ xs) = by_test (is_on slot x.deed) refl (λ b. by_own slot b xs)
    where
      by_test : (on : Bool) → is_on slot x.deed ≡ on → ((b : Option (List ℕ)) → block_by slot b xs ≡ block_by slot b (turns_on slot xs)) → block_by slot block (x ∷ xs) ≡ block_by slot block (cond on (x ∷ turns_on slot xs) (turns_on slot xs))
      by_test true e rest = rest (block_after slot block x.item x.deed)
      by_test false e rest = ap (λ b. block_by slot b xs) (off_deed slot block x.item x.deed e) ∙ rest block

  pub under_own : (slot : ℕ) (line seen : List (Turn (Item D))) → turns_on slot line ≡ turns_on slot seen → block_under slot line ≡ block_under slot seen
  under_own slot line seen same = by_own slot None line ∙ ap (block_by slot None) same ∙ sym (by_own slot None seen)

  pub block_more : (slot : ℕ) (block : Option (List ℕ)) (xs : List (Turn (Item D))) (x : Turn (Item D)) → block_by slot block (xs ++ x ∷ []) ≡ block_after slot (block_by slot block xs) x.item x.deed
  block_more slot block [] x = refl
  block_more slot block (y ∷ ys) x = block_more slot (block_after slot block y.item y.deed) ys x
