-- What is archived, and what is restored.
use Rattle.std.proofs.Common.{◌≡◌, ℕ, ◌+◌, ◌*◌, ◌<◌, ◌≤◌, true, false, arith, None, Some, Ok, Err, sym, ap, ◌∙◌, Result}
use Rattle.std.proofs.lemmas.Bool.Decides.{nat_tests}
use Rattle.std.specs.Prelude.{nat_lt}
use Rattle.ebs_model.specs.declared.rows.Tier.{Tier}
use Rattle.ebs_model.specs.declared.rows.Tier.TheVariants.{Standard, Archived}
use Rattle.ebs_model.specs.Time.{is_readable}
use Rattle.ebs_model.specs.declared.phases.TierPhase.{TierPhase}
use Rattle.ebs_model.specs.declared.phases.TierPhase.TheVariants as phase
use Rattle.ebs_model.specs.Tiers.{archive_by, restore_by, restored, restore}

ok_is : (a b : Tier) → ◌≡◌ {A = Result Tier TierPhase} (Ok a) (Ok b) → a ≡ b
ok_is a b e = cc

err_is : (p : TierPhase) (b : Tier) → ◌≡◌ {A = Result Tier TierPhase} (Err p) (Ok b) → ⊥
err_is p b e = cc

pub archived_is : (p : TierPhase) (t : Tier) → archive_by p ≡ Ok t → t ≡ Archived
archived_is phase.Standard t e = sym (ok_is Archived t e)
archived_is phase.Archived t e = absurd (err_is phase.Archived t e)
archived_is phase.Temporary t e = absurd (err_is phase.Temporary t e)

pub undone : (t : Tier) (later : ℕ) → t ≡ Archived → (is_readable t later ≡ false) × (restore t None later ≡ Ok Standard)
undone t later e = (ap (λ (x : Tier). is_readable x later) e, ap (λ (x : Tier). restore x None later) e)

pub restored_is : (p : TierPhase) (days at : ℕ) (t : Tier) → restore_by p (Some days) at ≡ Ok t → t ≡ restored (Some days) at
restored_is phase.Standard days at t e = absurd (err_is phase.Standard t e)
restored_is phase.Archived days at t e = sym (ok_is (restored (Some days) at) t e)
restored_is phase.Temporary days at t e = sym (ok_is (restored (Some days) at) t e)

pub ends : (days at : ℕ) (t : Tier) → t ≡ restored (Some days) at
    → ((now : ℕ) → now < at + 86400 * days → is_readable t now ≡ true) × ((now : ℕ) → at + 86400 * days ≤ now → is_readable t now ≡ false)
ends days at t e = (λ now early. ap (λ (x : Tier). is_readable x now) e ∙ before now (at + 86400 * days) early, λ now late. ap (λ (x : Tier). is_readable x now) e ∙ behind now (at + 86400 * days) late)
  where
    before : (now end : ℕ) → now < end → nat_lt now end ≡ true
    before now end h = grind (arith, nat_tests)

    behind : (now end : ℕ) → end ≤ now → nat_lt now end ≡ false
    behind now end h = grind (arith, nat_tests)
