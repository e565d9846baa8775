-- Beside what is promised: when a policy is due (Amazon Data Lifecycle Manager, schedules).
use Rattle.std.specs.Prelude.{ℕ, if◌then◌else◌, Option, None, Some}
use Rattle.ebs_model.specs.declared.keys.Moment.{Moment}
use Rattle.ebs_model.specs.declared.policy.Policy.{Policy}
use Rattle.ebs_model.specs.Policies.{is_due, latest_due}

-- it, where one has come
abbrev pub due_moment : Policy → ℕ → ℕ → Option Moment
due_moment p since now = if is_due p since now then Some (record { second = latest_due p now }) else None
