-- What the commands on a tier do to each other.
use Rattle.std.specs.Prelude.{◌≡◌, ℕ, ◌+◌, ◌*◌, ◌<◌, ◌≤◌, true, false}
use Rattle.std.specs.declared.option.Option.TheVariants.{None, Some}
use Rattle.std.specs.declared.result.Result.TheVariants.{Ok}
use Rattle.ebs_model.specs.declared.rows.Tier.{Tier}
use Rattle.ebs_model.specs.declared.rows.Tier.TheVariants.{Standard}
use Rattle.ebs_model.specs.Time.{is_readable}
use Rattle.ebs_model.specs.Tiers.{archive, restore}

-- an archived snapshot isn't read at any moment, and a restore for good gives the standard tier
abbrev pub ArchiveIsUndone : Type 0
ArchiveIsUndone =
    (tier archived : Tier) (at later : ℕ) → archive tier at ≡ Ok archived
    → (is_readable archived later ≡ false) × (restore archived None later ≡ Ok Standard)

-- a restore for some days is read before its end, and not from it on
abbrev pub RestoreEnds : Type 0
RestoreEnds =
    (tier restored : Tier) (days at : ℕ) → restore tier (Some days) at ≡ Ok restored
    → ((now : ℕ) → now < at + 86400 * days → is_readable restored now ≡ true) × ((now : ℕ) → at + 86400 * days ≤ now → is_readable restored now ≡ false)
