-- Moments and ends.
use Rattle.std.specs.Prelude.{◌*◌, ◌≤◌}
use Rattle.ebs_model.specs.declared.keys.Moment.{Moment}
use Rattle.ebs_model.specs.Quotas.{last_second}

-- a moment of the store
abbrev pub IsMoment : Moment → Type 0
IsMoment at = at.second ≤ last_second

-- the end of a lock, of a restore, of a stay in the bin or of a rule's lock
abbrev pub IsEnd : Moment → Type 0
IsEnd at = at.second ≤ 2 * last_second
