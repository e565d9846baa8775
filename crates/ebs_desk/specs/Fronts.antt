-- What a crash leaves while a line of turns is made.
use Rattle.std.specs.Prelude.{ℕ, ◌≡◌, ◌≤◌, ◌⊎◌, ◌++◌, List, [], ◌∷◌, None, length}
use Rattle.ebs_world.specs.Image.{Image}
use Rattle.ebs_world.specs.View.{View, Leaves}
use Rattle.ebs_model.specs.Machine.{Machine, advance}
use Rattle.ebs_turns.specs.declared.line.Turn.{Turn}
use Rattle.ebs_recovery.specs.Made.{Made}
use Rattle.ebs_recovery.specs.Stands.{Stands}
use Rattle.ebs_recovery.specs.inner.Fits.{Seen, StandsAfter, running}
use Rattle.ebs_disk_store.specs.inner.Told.{IfSound}
use Rattle.ebs_desk.specs.declared.item.Item.{Item}
use Rattle.ebs_desk.specs.declared.shelf.Shelf.{Shelf}
use Rattle.ebs_desk.specs.Line.{IsFault, run_line}
use Rattle.ebs_desk.specs.Turns.{Went}

-- time alone makes the machine of what is recorded
abbrev pub IsInTime : Machine → Machine → Type 0
IsInTime recorded m = m ≡ advance recorded m.clock

-- an image stands for a machine after one change more
abbrev pub StandsForOneMore : Machine → Image → Type 0
StandsForOneMore m c = (change : Made) × StandsAfter m change c

module _ {D : Type 0} where
  -- the disk failed in one of these turns
  abbrev pub HaveFailed : List (Turn (Item D)) → Type 0
  HaveFailed [] = ⊥
  HaveFailed (x ∷ xs) = IsFault x.item ⊎ HaveFailed xs

  -- it failed in the first of them
  abbrev pub HasFirstFailed : List (Turn (Item D)) → Type 0
  HasFirstFailed [] = ⊥
  HasFirstFailed (x ∷ xs) = IsFault x.item

  -- an image stands for what is recorded behind the first turns of a line, at least so many; or, where the disk failed in one of them or in the next, for that after one change more. Time alone makes the machine of these turns of what is recorded
  pub record StandsForFront (first : Machine) (line : List (Turn (Item D))) (least : ℕ) (c : Image) : Type 0 where
    pub front : List (Turn (Item D))
    pub back : List (Turn (Item D))
    pub is : line ≡ front ++ back
    pub long : least ≤ length front
    pub recorded : Machine
    pub in_time : IsInTime recorded (run_line first front)
    pub stands : Stands c recorded ⊎ ((HaveFailed front ⊎ HasFirstFailed back) × StandsForOneMore recorded c)

module _ {D : Type 0} (sound : Type 0) (view : D → View) (first : Shelf Seen D) where
  -- the store and the disk behind the first turns of a line, which the others led to its end. On an honest disk, with a sound store that had nothing pending at first, whatever a crash leaves from there on stands for a front that has these turns
  pub record KeepsFront (front back : List (Turn (Item D))) (last : Seen) (end : D) : Type 0 where
    pub store : Seen
    pub disk : D
    pub went : Went sound view first.store first.disk front store disk
    pub goes_on : Went sound view store disk back last end
    pub leaves : first.store.pending ≡ None → IfSound sound (view first.disk) (Leaves (view disk) (view end) (StandsForFront (running (view first.disk) first.store) (front ++ back) (length front)))

  -- so it is behind each front of the line: no crash takes back what was answered, and one change at most is there that wasn't
  abbrev pub LeavesOnlyFronts : List (Turn (Item D)) → Seen → D → Type 0
  LeavesOnlyFronts line last end = (front back : List (Turn (Item D))) → line ≡ front ++ back → KeepsFront front back last end
