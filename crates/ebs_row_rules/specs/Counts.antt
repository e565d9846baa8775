-- How many rows an account has.
use Rattle.std.specs.Prelude.{ℕ, ◌+◌, ◌*◌, Bool, not, ◌&&◌, ◌==◌, List, length, nat_le, nat_lt}
use Rattle.std.specs.List.{list_all, filter, count_by}
use Rattle.ebs_model.specs.declared.keys.Moment.{Moment}
use Rattle.ebs_model.specs.declared.rules.Rule.{Rule}
use Rattle.ebs_model.specs.declared.policy.Policy.{Policy}
use Rattle.ebs_model.specs.Quotas.{most_open, most_kept, most_volumes, most_rules, most_policies}
use Rattle.ebs_checkpoints.specs.declared.owned.AccountRow.{AccountRow}
use Rattle.ebs_checkpoints.specs.declared.owned.VolPoint.{VolPoint}
use Rattle.ebs_checkpoints.specs.declared.snapshots.SnapPoint.{SnapPoint}
use Rattle.ebs_checkpoints.specs.declared.checkpoint.Checkpoint.{Checkpoint}

-- the account's rows
abbrev pub rows_of : {X : Type 0} → (X → ℕ) → ℕ → List X → List X
rows_of owner account rows = filter (λ row. owner row == account) rows

abbrev pub snapshots_of : ℕ → List SnapPoint → List SnapPoint
snapshots_of account rows = rows_of (λ (s : SnapPoint). s.key.account) account rows

abbrev pub volumes_of : ℕ → List VolPoint → List VolPoint
volumes_of account points = rows_of (λ (v : VolPoint). v.row.key.account) account points

abbrev pub rules_of : ℕ → List Rule → List Rule
rules_of account rules = rows_of (λ (r : Rule). r.key.account) account rules

abbrev pub policies_of : ℕ → List Policy → List Policy
policies_of account policies = rows_of (λ (p : Policy). p.key.account) account policies

-- the upload is neither completed nor has it failed: its timeout since the last put, in minutes, isn't over at the clock
abbrev pub is_open : Moment → SnapPoint → Bool
is_open clock row = not row.completed && nat_lt clock.second (row.last.second + 60 * row.timeout)

-- kept snapshots and open uploads
abbrev pub has_few_snapshots : Moment → List SnapPoint → Bool
has_few_snapshots clock rows = nat_le (length rows) most_kept && nat_le (count_by (is_open clock) rows) most_open

abbrev pub has_few_volumes : Checkpoint → ℕ → Bool
has_few_volumes point account = nat_le (length (volumes_of account point.volumes)) most_volumes

abbrev pub has_few_rules : Checkpoint → ℕ → Bool
has_few_rules point account = nat_le (length (rules_of account point.rules)) most_rules

abbrev pub has_few_policies : Checkpoint → ℕ → Bool
has_few_policies point account = nat_le (length (policies_of account point.policies)) most_policies

-- an account has no more of a kind than it can have
abbrev pub is_in_quotas : Checkpoint → ℕ → Bool
is_in_quotas point account =
    has_few_snapshots point.clock (snapshots_of account point.snapshots)
    && (has_few_volumes point account && (has_few_rules point account && has_few_policies point account))

abbrev pub has_quotas : Checkpoint → AccountRow → Bool
has_quotas point row = is_in_quotas point row.account

abbrev pub are_in_quotas : Checkpoint → Bool
are_in_quotas point = list_all (has_quotas point) point.accounts
