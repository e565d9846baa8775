-- What a pass knows at the turns of a call.
use Rattle.std.specs.Prelude.{ℕ, ◌+◌, ◌≡◌, ◌≤◌, ◌<◌, ◌^◌, List, [], Some, Result, Ok, Err}
use Rattle.std.specs.declared.snapshot.Snapshot.{Snapshot}
use Rattle.sha2.specs.Sha256.{sha256}
use Rattle.atomic_table.specs.Table.{Me}
use Rattle.ebs_world.specs.View.{View as DiskView}
use Rattle.ebs_slots.specs.inner.Slots.{Leased}
use Rattle.ebs_disk_store.specs.declared.store.Stop.{Stop}
use Rattle.ebs_disk_store.specs.declared.store.Stop.TheVariants.{Unavailable, Memory}
use Rattle.ebs_recovery.specs.inner.Fits.{Seen}
use Rattle.ebs_turns.specs.declared.line.Deed.{Deed}
use Rattle.ebs_turns.specs.declared.line.Deed.TheVariants.{Nothing, Takes}
use Rattle.ebs_turns.specs.declared.line.Turn.{Turn}
use Rattle.ebs_turns.specs.declared.seats.Place.{Place}
use Rattle.ebs_turns.specs.declared.seats.View.{View}
use Rattle.ebs_turns.specs.Known.{IsResting}
use Rattle.ebs_desk.specs.declared.item.Item.{Item}
use Rattle.ebs_desk.specs.declared.item.Item.TheVariants.{Fault, Staged, Blank}
use Rattle.ebs_desk.specs.declared.shelf.Shelf.{Shelf}
use Rattle.ebs_desk.specs.Line.{block_under}
use Rattle.ebs_desk.specs.Calls.{Adds, turn_with}

-- what a staging leaves that stopped
abbrev pub IsLeftStop : {D : Type 0} → Snapshot D → D → Stop → Item D × Deed → Type 0
IsLeftStop {D} before disk Unavailable left = (after : Snapshot D) × (after.value ≡ disk) × (left ≡ (Fault before after, Nothing))
IsLeftStop before disk Memory left = left ≡ (Blank, Nothing)

-- what the turn of a staging leaves, by its end: its item and its deed
abbrev pub IsLeftStaged : {D : Type 0} → List ℕ → Snapshot D → D → Result Leased Stop → Item D × Deed → Type 0
IsLeftStaged block before disk (Ok lease) left = (kept : Snapshot (List ℕ)) × (kept.value ≡ block) × (left ≡ (Staged kept, Takes lease.slot))
IsLeftStaged block before disk (Err stop) left = IsLeftStop before disk stop left

module _ {T D : Type 0} where
  -- the pass has no turn and no lease, and may take so many turns
  pub record MayTake (count : ℕ) (m : Me (Place T (Item D)) (View T (Item D))) : Type 0 where
    pub rests : IsResting m
    pub may : count ≤ m.0.may
    pub few : m.0.ticket_word < 2 ^ 42

  -- the block was staged under this lease of the pass, which has no turn and may take one
  pub record Keeps (lease : Leased) (block : List ℕ) (m : Me (Place T (Item D)) (View T (Item D))) : Type 0 where
    pub hand : m.1 ≡ []
    pub stage : m.0.stage ≡ 0
    pub tally : 1 ≤ m.0.tally
    pub held : m.0.held ≡ 0
    pub refused : m.0.refused ≡ 0
    pub may : 1 ≤ m.0.may
    pub own : m.0.lease ≡ lease.slot + 1
    pub digest : lease.digest ≡ sha256 block
    pub staged : block_under lease.slot m.0.seen ≡ Some block

module _ {D : Type 0} (sound : Type 0) (view : D → DiskView) (first : Shelf Seen D) where
  -- what the turn of a staging made of the line, by its end
  abbrev pub HasStaged : ℕ → List (Turn (Item D)) → List (Turn (Item D)) → List ℕ → Result Leased Stop → Type 0
  HasStaged number before after block (Ok lease) = (kept : Snapshot (List ℕ)) × (kept.value ≡ block) × Adds sound view first number before after (turn_with number (Staged kept) (Takes lease.slot))
  HasStaged number before after block (Err Unavailable) = (old : Snapshot D) × (new : Snapshot D) × Adds sound view first number before after (turn_with number (Fault old new) Nothing)
  HasStaged number before after block (Err Memory) = Adds sound view first number before after (turn_with number Blank Nothing)
