-- A journal, as its users see it.
use Rattle.std.specs.Prelude.{ℕ, Bool, true, false, ◌||◌}
use Rattle.ebs_world.specs.declared.area.Area.{Area}
use Rattle.ebs_journal.specs.declared.journal.Journal.{Journal}

pub record Line : Type 0 where
  -- the area that counts
  pub area : Area
  pub epoch : ℕ
  -- the byte behind the last gate
  pub end : ℕ
  -- the number of records behind the checkpoint
  pub since_checkpoint : ℕ
  -- whether no gate is in doubt: the last one, and the other area's where that was to be opened, are known to be closed
  pub clean : Bool
  -- whether the other area's gate is known to be closed
  pub shut : Bool
  -- whether the gate in doubt is the other area's, and not the last one
  pub turning : Bool

abbrev pub line : Journal → Line
line j = record { area = j.area; epoch = j.epoch; end = j.end; since_checkpoint = j.since_checkpoint; clean = j.clean; shut = j.shut; turning = j.turning }

-- after a mend: a gate that was in doubt is known to be closed
abbrev pub mended : Line → Line
mended j = record j { clean = true; shut = j.turning || j.shut; turning = false }
