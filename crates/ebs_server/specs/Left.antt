-- What a desk leaves of a store with its disk.
use Rattle.std.specs.Prelude.{List}
use Rattle.ebs_world.specs.View.{View as DiskView}
use Rattle.ebs_recovery.specs.inner.Fits.{Seen}
use Rattle.ebs_turns.specs.declared.line.Turn.{Turn}
use Rattle.ebs_desk.specs.declared.item.Item.{Item}
use Rattle.ebs_desk.specs.declared.shelf.Shelf.{Shelf}
use Rattle.ebs_desk.specs.Calls.{Closed}

-- a store over its disk that has answered no call
abbrev pub first_shelf : {D : Type 0} → Seen → D → Shelf Seen D
first_shelf store disk = record { store = store; disk = disk; entries = 0 }

-- the desk of this store had one line of turns, which leaves a store that fits the disk
pub record IsLeft {D : Type 0} (sound : Type 0) (view : D → DiskView) (store : Seen) (disk new : D) : Type 0 where
  pub line : List (Turn (Item D))
  pub last : Seen
  pub closed : Closed sound view (first_shelf store disk) line last new
