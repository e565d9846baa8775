-- All of the machine that isn't a block: rows of snapshots, volumes and policies, what each account has besides, its client tokens and its rules. They are found by key.
use Rattle.std.specs.Prelude.{Result, Ok, ℕ, not, ◌==◌, unwrap_or, List, map, length, Option, None, Some, Bool, ◌&&◌}
use Rattle.std.specs.List.{filter, count_by}
use Rattle.std.specs.Ordering.{nat_cmp}
use Rattle.std.specs.FinMap as fin
use Rattle.ebs_model.specs.declared.keys.SnapKey.{SnapKey}
use Rattle.ebs_model.specs.declared.keys.VolKey.{VolKey}
use Rattle.ebs_model.specs.declared.keys.PolicyKey.{PolicyKey}
use Rattle.ebs_model.specs.declared.policy.Policy.{Policy}
use Rattle.ebs_model.specs.declared.rows.SnapRow.{SnapRow}
use Rattle.ebs_model.specs.declared.rows.VolRow.{VolRow}
use Rattle.ebs_model.specs.declared.rows.Own.{Own}
use Rattle.ebs_model.specs.declared.rows.TokenRow.{TokenRow}
use Rattle.ebs_model.specs.declared.keys.TokenKey.{TokenKey}
use Rattle.ebs_model.specs.declared.answer.Kind.TheVariants.{Snapshot as snapshot, Volume as volume, Policy as policy}
use Rattle.ebs_model.specs.declared.answer.Refusal.{Refusal}
use Rattle.ebs_model.specs.declared.answer.Refusal.TheVariants.{NotFound}
use Rattle.ebs_model.specs.Keys.{snap_cmp, vol_cmp, policy_cmp, token_cmp}
use Rattle.ebs_model.specs.Refuse.{◌>>=◌, ◌>>◌, some_or, refuse_if}
use Rattle.ebs_model.specs.Time.{status_at, is_pending}
use Rattle.ebs_model.specs.Access.{owns}
use Rattle.ebs_model.specs.Rules.{Book, no_rules}

pub record Rows : Type 0 where
  pub snaps : fin.FinMap snap_cmp SnapRow
  pub own : fin.FinMap nat_cmp Own
  pub tokens : fin.FinMap token_cmp TokenRow
  pub vols : fin.FinMap vol_cmp VolRow
  pub books : fin.FinMap nat_cmp Book
  pub policies : fin.FinMap policy_cmp Policy

-- the row with this key, where there is one that passes the test
abbrev pub the_row : Rows → SnapKey → (SnapRow → Result (Unit {0}) Refusal) → Result SnapRow Refusal
the_row rows key test = do
  row ← some_or (fin.get rows.snaps key) (NotFound snapshot)
  test row
  Ok row

-- the account's volume with this key, where there is one
abbrev pub the_volume : Rows → ℕ → VolKey → Result VolRow Refusal
the_volume rows account key = do
  refuse_if (not (account == key.account)) (NotFound volume)
  some_or (fin.get rows.vols key) (NotFound volume)

-- the account's policy with this key, where there is one
abbrev pub the_policy : Rows → ℕ → PolicyKey → Result Policy Refusal
the_policy rows account key = do
  refuse_if (not (account == key.account)) (NotFound policy)
  some_or (fin.get rows.policies key) (NotFound policy)

abbrev pub no_own : Own
no_own = record { next_snap = 0; next_vol = 0; next_policy = 0 }

abbrev pub own_of : Rows → ℕ → Own
own_of rows account = unwrap_or (fin.get rows.own account) no_own

-- the account's rules
abbrev pub book_of : Rows → ℕ → Book
book_of rows account = unwrap_or (fin.get rows.books account) (no_rules 0)

-- the rows of an account's snapshots, in ascending number
abbrev pub own_rows : Rows → ℕ → List SnapRow
own_rows rows account = map (λ e. e.1) (filter (λ e. owns account e.0) (fin.entries rows.snaps))

-- how many snapshots of the account are kept, failed uploads and those in the bin among them, and how many uploads are open
abbrev pub kept_count : Rows → ℕ → ℕ
kept_count rows account = length (own_rows rows account)

abbrev pub open_count : Rows → ℕ → ℕ → ℕ
open_count rows account now = count_by (λ row. is_pending (status_at row now)) (own_rows rows account)

-- what an earlier call used the account's client token for, where this call has one
abbrev pub first_use : Rows → ℕ → Option (List ℕ) → Option TokenRow
first_use rows account None = None
first_use rows account (Some token) = fin.get rows.tokens (record { account = account; text = token })

-- how many client tokens the account has used
abbrev pub token_count : Rows → ℕ → ℕ
token_count rows account = count_by (λ (e : TokenKey × TokenRow). account == e.0.account) (fin.entries rows.tokens)

-- how many volumes the account has
abbrev pub volume_count : Rows → ℕ → ℕ
volume_count rows account = count_by (λ (e : VolKey × VolRow). account == e.0.account) (fin.entries rows.vols)

-- how many policies the account has
abbrev pub policy_count : Rows → ℕ → ℕ
policy_count rows account = count_by (λ (e : PolicyKey × Policy). account == e.0.account) (fin.entries rows.policies)

-- keys are the same
abbrev pub is_key : SnapKey → SnapKey → Bool
is_key a b = (a.account == b.account) && (a.number == b.number)

abbrev pub changed_row : fin.FinMap snap_cmp SnapRow → SnapKey → (SnapRow → SnapRow) → Option SnapRow → fin.FinMap snap_cmp SnapRow
changed_row snaps key change None = snaps
changed_row snaps key change (Some row) = fin.insert snaps key (change row)

-- the row with this key is changed, where there is one
abbrev pub with_row : Rows → SnapKey → (SnapRow → SnapRow) → Rows
with_row rows key change = record rows { snaps = changed_row rows.snaps key change (fin.get rows.snaps key) }
