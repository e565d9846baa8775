-- Commands one after another.
use Rattle.std.specs.Prelude.{◌≡◌, ℕ, ◌<◌, ◌≤◌, List, [], ◌∷◌}
use Rattle.ebs_model.specs.declared.keys.Moment.{Moment}
use Rattle.ebs_model.specs.declared.rows.LockState.{LockState}
use Rattle.ebs_model.specs.declared.rows.LockState.TheVariants as state
use Rattle.ebs_model.specs.declared.lock.LockCommand.{LockCommand}
use Rattle.ebs_model.specs.declared.phases.LockPhase.TheVariants as phase
use Rattle.ebs_model.specs.Tiers.{lock_state}
use Rattle.ebs_model.specs.Locks.{lock_change}
use Rattle.ebs_model.specs.Refuse.{or_left}

-- a command at a second
pub record Given : Type 0 where
  pub at : ℕ
  pub command : LockCommand

-- a refused command leaves the lock
abbrev pub after : LockState → List Given → LockState
after lock [] = lock
after lock (g ∷ gs) = after (or_left lock (lock_change lock g.command g.at)) gs

-- they are given one after another, from one second on and before another
abbrev pub AreBetween : ℕ → ℕ → List Given → Type 0
AreBetween from until [] = Unit {0}
AreBetween from until (g ∷ gs) = (from ≤ g.at) × (g.at < until) × AreBetween g.at until gs

-- a lock in compliance whose cool-off has ended stays one, and lasts no less
abbrev pub ComplianceLasts : Type 0
ComplianceLasts =
    (until cool_end : Moment) (now : ℕ) (gs : List Given) → cool_end.second ≤ now → AreBetween now until.second gs
    → (later : Moment) × (after (state.Compliance until cool_end) gs ≡ state.Compliance later cool_end) × (until.second ≤ later.second)

-- an expired lock takes a command as none does
abbrev pub ExpiredIsNone : Type 0
ExpiredIsNone = (lock : LockState) (command : LockCommand) (now : ℕ) → lock_state lock now ≡ phase.Expired → lock_change lock command now ≡ lock_change state.None command now
