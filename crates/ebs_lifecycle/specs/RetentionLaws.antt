-- What a retention rule promises.
use Rattle.std.specs.Prelude.{◌≡◌, ℕ, ◌≤◌, true, false, not, List, [], ◌∷◌}
use Rattle.std.specs.List.{count_by}
use Rattle.ebs_model.specs.declared.policy.Retain.{Retain}
use Rattle.ebs_model.specs.declared.policy.Retain.TheVariants.{Count}
use Rattle.ebs_model.specs.declared.policy.Made.{Made}
use Rattle.ebs_model.specs.Rows.{is_key}
use Rattle.ebs_model.specs.Retention.{newer, is_picked, is_ended, is_released}

-- under a count the newest one stays
abbrev pub NewestStays : Type 0
NewestStays = (n : ℕ) (made : List Made) (now : ℕ) (m : Made) → 1 ≤ n → newer made m ≡ 0 → is_picked (Count n) made now m ≡ false

-- each snapshot once
abbrev pub AreDistinct : List Made → Type 0
AreDistinct [] = Unit {0}
AreDistinct (m ∷ made) = (count_by (λ other. is_key m.key other.key) made ≡ 0) × AreDistinct made

-- under a count at most so many aren't picked
abbrev pub AtMostStay : Type 0
AtMostStay = (n : ℕ) (made : List Made) (now : ℕ) → AreDistinct made → count_by (λ m. not (is_picked (Count n) made now m)) made ≤ n

-- what is deleted has no lock and stands in the standard tier, and what is released has one: none is both
abbrev pub LockedStay : Type 0
LockedStay =
    (retain : Retain) (made : List Made) (now : ℕ) (m : Made)
    → (is_ended retain made now m ≡ true → (m.locked ≡ false) × (m.archived ≡ false) × (is_released retain made now m ≡ false))
    × (is_released retain made now m ≡ true → (m.locked ≡ true) × (is_ended retain made now m ≡ false))

-- what is picked at a moment is picked at each later one, of the same snapshots
abbrev pub PickedStayPicked : Type 0
PickedStayPicked =
    (retain : Retain) (made : List Made) (now later : ℕ) (m : Made)
    → is_picked retain made now m ≡ true → now ≤ later → is_picked retain made later m ≡ true
