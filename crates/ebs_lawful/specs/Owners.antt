-- Whose rows are: each account has made the numbers that its rows have.
use Rattle.std.specs.Prelude.{ℕ, ◌+◌, ◌≡◌, ◌<◌, ◌≤◌, Option, None, Some}
use Rattle.std.specs.FinMap.{get}
use Rattle.ebs_model.specs.declared.keys.SnapKey.{SnapKey}
use Rattle.ebs_model.specs.declared.keys.VolKey.{VolKey}
use Rattle.ebs_model.specs.declared.keys.PolicyKey.{PolicyKey}
use Rattle.ebs_model.specs.declared.keys.TokenKey.{TokenKey}
use Rattle.ebs_model.specs.declared.rows.SnapRow.{SnapRow}
use Rattle.ebs_model.specs.declared.rows.VolRow.{VolRow}
use Rattle.ebs_model.specs.declared.rows.TokenRow.{TokenRow}
use Rattle.ebs_model.specs.declared.rows.Own.{Own}
use Rattle.ebs_model.specs.declared.policy.Policy.{Policy}
use Rattle.ebs_model.specs.declared.request.Request.{Request}
use Rattle.ebs_model.specs.declared.request.Request.TheVariants.{CreateVolume}
use Rattle.ebs_model.specs.Quotas.{most_ids}
use Rattle.ebs_model.specs.Rows.{Rows, own_of}

abbrev pub IsVolumeOf : ℕ → Option VolKey → Type 0
IsVolumeOf account None = Unit {0}
IsVolumeOf account (Some key) = key.account ≡ account

abbrev pub IsPolicyOf : ℕ → Option PolicyKey → Type 0
IsPolicyOf account None = Unit {0}
IsPolicyOf account (Some key) = key.account ≡ account

-- the account has made the snapshot; the volume and the policy that it names are the account's
pub record IsOwnSnap (own : Own) (key : SnapKey) (row : SnapRow) : Type 0 where
  pub made : key.number < own.next_snap
  pub volume : IsVolumeOf key.account row.volume
  pub policy : IsPolicyOf key.account row.policy

-- a creation makes a volume, and a start a snapshot
abbrev pub next_by : Request → Own → ℕ
next_by (CreateVolume origin size tags token) own = own.next_vol
next_by request own = own.next_snap

-- numbers that an account comes to, of which one at least was given out
pub record IsOwn (own : Own) : Type 0 where
  pub snaps : own.next_snap ≤ most_ids
  pub vols : own.next_vol ≤ most_ids
  pub policies : own.next_policy ≤ most_ids
  pub begun : 1 ≤ own.next_snap + (own.next_vol + own.next_policy)

pub record AreOwn (rows : Rows) : Type 0 where
  pub own : (account : ℕ) (own : Own) → get rows.own account ≡ Some own → IsOwn own
  pub snaps : (key : SnapKey) (row : SnapRow) → get rows.snaps key ≡ Some row → IsOwnSnap (own_of rows key.account) key row
  pub vols : (key : VolKey) (row : VolRow) → get rows.vols key ≡ Some row → key.number < (own_of rows key.account).next_vol
  pub policies : (key : PolicyKey) (policy : Policy) → get rows.policies key ≡ Some policy → key.number < (own_of rows key.account).next_policy
  pub tokens : (key : TokenKey) (row : TokenRow) → get rows.tokens key ≡ Some row → row.number < next_by row.first (own_of rows key.account)
