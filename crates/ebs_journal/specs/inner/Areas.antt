-- The areas that a journal may lie in.
use Rattle.std.specs.Prelude.{Bool, true, false}
use Rattle.ebs_world.specs.declared.area.Area.{Area}
use Rattle.ebs_world.specs.declared.area.Area.TheVariants.{Journal0, Journal1, Blocks, Archive}

abbrev pub is_journal : Area → Bool
is_journal Journal0 = true
is_journal Journal1 = true
is_journal Blocks = false
is_journal Archive = false

-- the other of the two
abbrev pub other : Area → Area
other Journal0 = Journal1
other Journal1 = Journal0
other Blocks = Journal0
other Archive = Journal0
