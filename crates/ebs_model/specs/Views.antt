-- What is shown of a snapshot's row (EBS User Guide: snapshot sharing, lock, archive tier).
use Rattle.std.specs.Prelude.{Option, None, Some, ℕ, nat_lt, if◌then◌else◌}
use Rattle.ebs_model.specs.declared.keys.Moment.{Moment}
use Rattle.ebs_model.specs.declared.keys.SnapKey.{SnapKey}
use Rattle.ebs_model.specs.declared.rows.SnapRow.{SnapRow}
use Rattle.ebs_model.specs.declared.rows.LockState.{LockState}
use Rattle.ebs_model.specs.declared.rows.LockState.TheVariants as state
use Rattle.ebs_model.specs.declared.rows.Tier.{Tier}
use Rattle.ebs_model.specs.declared.rows.Tier.TheVariants as tier
use Rattle.ebs_model.specs.declared.phases.LockPhase.{LockPhase}
use Rattle.ebs_model.specs.declared.phases.LockPhase.TheVariants as lock
use Rattle.ebs_model.specs.declared.phases.TierPhase.{TierPhase}
use Rattle.ebs_model.specs.declared.phases.TierPhase.TheVariants as phase
use Rattle.ebs_model.specs.declared.views.LockName.{LockName}
use Rattle.ebs_model.specs.declared.views.LockName.TheVariants as name
use Rattle.ebs_model.specs.declared.views.TierName.{TierName}
use Rattle.ebs_model.specs.declared.views.TierName.TheVariants as shown
use Rattle.ebs_model.specs.declared.views.Permission.{Permission}
use Rattle.ebs_model.specs.declared.views.SnapView.{SnapView}
use Rattle.ebs_model.specs.Time.{status_at}
use Rattle.ebs_model.specs.Access.{owns}
use Rattle.ebs_model.specs.Tiers.{lock_state, tier_at}

abbrev pub lock_named : LockPhase → Option LockName
lock_named lock.Unlocked = None
lock_named lock.Governance = Some name.Governance
lock_named lock.CoolOff = Some name.CoolOff
lock_named lock.Compliance = Some name.Compliance
lock_named lock.Expired = Some name.Expired

abbrev pub lock_shown : LockState → ℕ → Option LockName
lock_shown lock now = lock_named (lock_state lock now)

abbrev pub lock_until : LockState → Option Moment
lock_until state.None = None
lock_until (state.Governance until) = Some until
lock_until (state.Compliance until cool_end) = Some until

abbrev pub tier_named : TierPhase → TierName
tier_named phase.Standard = shown.Standard
tier_named phase.Archived = shown.Archive
tier_named phase.Temporary = shown.Temporary

abbrev pub tier_shown : Tier → ℕ → TierName
tier_shown tier now = tier_named (tier_at tier now)

-- while a temporary restore lasts
abbrev pub restore_until : Tier → ℕ → Option Moment
restore_until tier.Standard now = None
restore_until tier.Archived now = None
restore_until (tier.Temporary until) now = if nat_lt now until.second then Some until else None

-- shown to its owner alone
abbrev pub for_owner : {A : Type 0} → ℕ → SnapKey → Option A → Option A
for_owner account key found = if owns account key then found else None

abbrev pub permission : SnapRow → Permission
permission row = record { accounts = row.shared; public = row.public }

-- a row, as it is shown to the account at the moment
abbrev pub view_of : ℕ → ℕ → SnapKey → SnapRow → SnapView
view_of account now key row = record {
  bin_end = row.bin_end;
  description = row.description;
  lock = for_owner account key (lock_shown row.lock now);
  lock_until = for_owner account key (lock_until row.lock);
  owner = key.account;
  parent = row.parent;
  permission = for_owner account key (Some (permission row));
  restore_until = restore_until row.tier now;
  key = key;
  start = row.start;
  status = status_at row now;
  tier = tier_shown row.tier now;
  tags = row.tags;
  volume = row.volume;
  size = row.size;
}
