-- Worked cases of policies.
use Rattle.std.proofs.Common.{◌≡◌, ℕ, ◌+◌, ◌*◌, true, false, [], ◌∷◌, Some, None, refl}
use Rattle.jiff_core.specs.Calendar.{days_from_civil, day_count, days_of_years, days_of_months}
use Rattle.ebs_model.specs.declared.keys.SnapKey.{SnapKey}
use Rattle.ebs_model.specs.declared.keys.VolKey.{VolKey}
use Rattle.ebs_model.specs.declared.keys.PolicyKey.{PolicyKey}
use Rattle.ebs_model.specs.declared.rows.SnapRow.{SnapRow}
use Rattle.ebs_model.specs.declared.rows.VolRow.{VolRow}
use Rattle.ebs_model.specs.declared.rows.LockState.{LockState}
use Rattle.ebs_model.specs.declared.rows.LockState.TheVariants as lock
use Rattle.ebs_model.specs.declared.rows.Tier.{Tier}
use Rattle.ebs_model.specs.declared.rows.Tier.TheVariants as tier
use Rattle.ebs_model.specs.declared.policy.Policy.{Policy}
use Rattle.ebs_model.specs.declared.policy.Made.{Made}
use Rattle.ebs_model.specs.declared.policy.Retain.{Retain}
use Rattle.ebs_model.specs.declared.policy.Retain.TheVariants.{Count, Weeks, Months}
use Rattle.ebs_model.specs.Retention.{day_after, is_aged}
use Rattle.ebs_model.specs.inner.Due.{due_moment}
use Rattle.ebs_model.specs.Policies.{released, ended}
use Rattle.ebs_model.specs.Calls.Disk.{snapped_row}

abbrev policy_key : PolicyKey
policy_key = record { account = 1; number = 0 }

abbrev policy : ℕ → Retain → Policy
policy hours retain = record { key = policy_key; targets = []; hours = hours; at = 10800; retain = retain; add = []; last = record { second = 0 } }

-- ---- due moments

not_before_the_next_day : due_moment (policy 24 (Count 1)) 10800 97199 ≡ None
not_before_the_next_day = refl

on_the_next_day : due_moment (policy 24 (Count 1)) 10800 97200 ≡ Some (record { second = 97200 })
on_the_next_day = refl

half_a_day_later : due_moment (policy 12 (Count 1)) 10800 60000 ≡ Some (record { second = 54000 })
half_a_day_later = refl

-- ---- ages

abbrev made : ℕ → Made
made start = record { key = record { account = 1; number = 0 }; start = record { second = start }; locked = false; archived = false }

month_is_over : is_aged (Months 1) 5011200 (made 2592000) ≡ true
unfolding day_after days_from_civil day_count days_of_years days_of_months
month_is_over = refl

month_is_not_over : is_aged (Months 1) 5011199 (made 2592000) ≡ false
unfolding day_after days_from_civil day_count days_of_years days_of_months
month_is_not_over = refl

-- ---- retention

abbrev volume : VolKey
volume = record { account = 1; number = 0 }

abbrev volume_row : VolRow
volume_row = record { key = volume; size = 1; line = record { of_volume = true; account = 1; number = 0 }; origin = None; tags = [] }

abbrev snap : ℕ → SnapKey
snap n = record { account = 1; number = n }

-- one that the policy made on its day n
abbrev of_day : ℕ → LockState → Tier → SnapKey × SnapRow
of_day n state place =
    (snap n, record (snapped_row (record { second = 10860 + 86400 * n }) (snap n) volume volume_row None []) { policy = Some policy_key; lock = state; tier = place })

abbrev free : ℕ → SnapKey × SnapRow
free n = of_day n lock.None tier.Standard

-- under a lock until the end of day 30
abbrev locked : ℕ → SnapKey × SnapRow
locked n = of_day n (lock.Governance (record { second = 10860 + 86400 * 30 })) tier.Standard

abbrev three : Policy
three = policy 24 (Count 3)

third_releases_none : released three (10860 + 86400 * 2) (locked 0 ∷ free 1 ∷ free 2 ∷ []) ≡ []
third_releases_none = refl

fourth_releases_the_first : released three (10860 + 86400 * 3) (locked 0 ∷ free 1 ∷ free 2 ∷ free 3 ∷ []) ≡ snap 0 ∷ []
fourth_releases_the_first = refl

fourth_deletes_none : ended three (10860 + 86400 * 3) (locked 0 ∷ free 1 ∷ free 2 ∷ free 3 ∷ []) ≡ []
fourth_deletes_none = refl

fifth_deletes_the_second : ended three (10860 + 86400 * 4) (free 1 ∷ free 2 ∷ free 3 ∷ free 4 ∷ []) ≡ snap 1 ∷ []
fifth_deletes_the_second = refl

fifth_releases_none : released three (10860 + 86400 * 4) (free 1 ∷ free 2 ∷ free 3 ∷ free 4 ∷ []) ≡ []
fifth_releases_none = refl

-- a week after day 0
abbrev a_week : ℕ
a_week = 10860 + 86400 * 7

week_is_over : ended (policy 24 (Weeks 1)) a_week (free 0 ∷ []) ≡ snap 0 ∷ []
week_is_over = refl

locked_is_released : released (policy 24 (Weeks 1)) a_week (locked 0 ∷ []) ≡ snap 0 ∷ []
locked_is_released = refl

locked_is_not_deleted : ended (policy 24 (Weeks 1)) a_week (locked 0 ∷ []) ≡ []
locked_is_not_deleted = refl

archived_is_not_deleted : ended (policy 24 (Weeks 1)) a_week (of_day 0 lock.None tier.Archived ∷ []) ≡ []
archived_is_not_deleted = refl

archived_is_not_released : released (policy 24 (Weeks 1)) a_week (of_day 0 lock.None tier.Archived ∷ []) ≡ []
archived_is_not_released = refl

-- it keeps its rank
archived_is_counted : ended three (10860 + 86400 * 3) (free 0 ∷ free 1 ∷ of_day 2 lock.None tier.Archived ∷ free 3 ∷ []) ≡ snap 0 ∷ []
archived_is_counted = refl
