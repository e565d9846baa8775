-- The phases of a stay, and tiers.
use Rattle.std.specs.Prelude.{ℕ, nat_le, nat_lt, if◌then◌else◌, Result, Ok, Err, ◌+◌, ◌*◌, Option, None, Some}
use Rattle.ebs_model.specs.declared.rows.LockState.{LockState}
use Rattle.ebs_model.specs.declared.rows.LockState.TheVariants as state
use Rattle.ebs_model.specs.declared.rows.Tier.{Tier}
use Rattle.ebs_model.specs.declared.rows.Tier.TheVariants.{Archived, Standard, Temporary}
use Rattle.ebs_model.specs.declared.rows.Tier.TheVariants as tier
use Rattle.ebs_model.specs.declared.phases.LockPhase.{LockPhase}
use Rattle.ebs_model.specs.declared.phases.LockPhase.TheVariants as lock
use Rattle.ebs_model.specs.declared.phases.TierPhase.{TierPhase}
use Rattle.ebs_model.specs.declared.phases.TierPhase.TheVariants as phase

-- a lock expires at its end, whatever its mode; in compliance it cools off first
abbrev pub lock_state : LockState → ℕ → LockPhase
lock_state state.None now = lock.Unlocked
lock_state (state.Governance until) now = if nat_le until.second now then lock.Expired else lock.Governance
lock_state (state.Compliance until cool_end) now =
    if nat_le until.second now then lock.Expired else (if nat_lt now cool_end.second then lock.CoolOff else lock.Compliance)

-- a temporary restore is archived again from its end on
abbrev pub tier_at : Tier → ℕ → TierPhase
tier_at tier.Standard now = phase.Standard
tier_at tier.Archived now = phase.Archived
tier_at (tier.Temporary until) now = if nat_lt now until.second then phase.Temporary else phase.Archived

abbrev pub archive_by : TierPhase → Result Tier TierPhase
archive_by phase.Standard = Ok Archived
archive_by phase.Archived = Err phase.Archived
archive_by phase.Temporary = Err phase.Temporary

abbrev pub archive : Tier → ℕ → Result Tier TierPhase
archive tier now = archive_by (tier_at tier now)

-- for good, or for so many days from now
abbrev pub restored : Option ℕ → ℕ → Tier
restored None now = Standard
restored (Some days) now = Temporary (record { second = now + 86400 * days })

abbrev pub restore_by : TierPhase → Option ℕ → ℕ → Result Tier TierPhase
restore_by phase.Standard days now = Err phase.Standard
restore_by phase.Archived days now = Ok (restored days now)
restore_by phase.Temporary days now = Ok (restored days now)

abbrev pub restore : Tier → Option ℕ → ℕ → Result Tier TierPhase
restore tier days now = restore_by (tier_at tier now) days now
