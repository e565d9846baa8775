-- A row whose lock or tier is changed.
use Rattle.ebs_model.specs.declared.keys.Moment.{Moment}
use Rattle.ebs_model.specs.declared.rows.SnapRow.{SnapRow}
use Rattle.ebs_model.specs.declared.rows.LockState.{LockState}
use Rattle.ebs_model.specs.declared.rows.Tier.{Tier}
use Rattle.ebs_model.specs.Refuse.{or_left}
use Rattle.ebs_model.specs.Locks.{lock_change}
use Rattle.ebs_model.specs.Tiers.{archive, restore}
use Rattle.ebs_catalog.specs.declared.alterations.Alteration.{Alteration}
use Rattle.ebs_catalog.specs.declared.alterations.Alteration.TheVariants.{Lock, Archive, Restore}

-- a refusal leaves what there is
abbrev pub lock_after : Moment → Alteration → LockState → LockState
lock_after at (Lock command) lock = or_left lock (lock_change lock command at.second)
lock_after at alteration lock = lock

abbrev pub tier_after : Moment → Alteration → Tier → Tier
tier_after at (Lock command) tier = tier
tier_after at Archive tier = or_left tier (archive tier at.second)
tier_after at (Restore days) tier = or_left tier (restore tier days at.second)

abbrev pub altered_row : Moment → Alteration → SnapRow → SnapRow
altered_row at alteration row = record row { lock = lock_after at alteration row.lock; tier = tier_after at alteration row.tier }
