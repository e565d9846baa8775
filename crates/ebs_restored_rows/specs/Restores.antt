-- What lists of a checkpoint must be, so that each of their rows can be put back.
use Rattle.std.specs.Prelude.{◌≡◌, ℕ, ◌≤◌, ◌^◌, true, List}
use Rattle.std.specs.List.{list_all, All}
use Rattle.std.specs.Ordering.{nat_cmp}
use Rattle.std.specs.FinMap as map
use Rattle.ebs_model.specs.declared.rows.Own.{Own}
use Rattle.ebs_model.specs.declared.rules.Rule.{Rule}
use Rattle.ebs_model.specs.declared.policy.Policy.{Policy}
use Rattle.ebs_model.specs.Limits.{is_size, is_schedule, is_retain}
use Rattle.ebs_checkpoints.specs.declared.owned.AccountRow.{AccountRow}
use Rattle.ebs_checkpoints.specs.declared.owned.TokenPoint.{TokenPoint}
use Rattle.ebs_checkpoints.specs.declared.owned.VolPoint.{VolPoint}
use Rattle.ebs_checkpoints.specs.declared.snapshots.SnapPoint.{SnapPoint}
use Rattle.ebs_row_rules.specs.Limits.{is_account_within, is_snapshot_within, is_volume_within, is_rule_within, is_policy_within}
use Rattle.ebs_row_rules.specs.Owners.{is_owned_snapshot, is_owned_volume, is_owned_rule, has_used_tokens}
use Rattle.ebs_node_rules.specs.States.{is_plain, is_upload_or_done}
use Rattle.ebs_recovery.specs.Bases.{row_of, has_own}
use Rattle.ebs_catalog.specs.Decided.{HasLimits}

-- numbers are within their limits, each row is one that its account has made, what is in the bin is completed, and so is what is of a volume
pub record MayRestore (accounts : List AccountRow) (snapshots : List SnapPoint) (volumes : List VolPoint) (rules : List Rule) (policies : List Policy) : Type 0 where
  pub accounts_within : list_all is_account_within accounts ≡ true
  pub snapshots_within : list_all is_snapshot_within snapshots ≡ true
  pub volumes_within : list_all is_volume_within volumes ≡ true
  pub rules_within : list_all is_rule_within rules ≡ true
  pub policies_within : list_all is_policy_within policies ≡ true
  pub plain : list_all is_plain snapshots ≡ true
  pub uploads : list_all is_upload_or_done snapshots ≡ true
  pub tokens_used : list_all has_used_tokens accounts ≡ true
  pub snapshots_owned : list_all (is_owned_snapshot accounts) snapshots ≡ true
  pub volumes_owned : list_all (is_owned_volume accounts) volumes ≡ true
  pub rules_owned : list_all (is_owned_rule accounts) rules ≡ true

-- ---- row by row

abbrev pub Owns : Type 0
Owns = map.FinMap nat_cmp Own

-- its account is there, and its size is one that an image can have
pub record MayRestoreVolume (own : Owns) (v : VolPoint) : Type 0 where
  pub owner : map.contains_key own v.row.key.account ≡ true
  pub size : is_size v.row.size ≡ true

-- its account is there, and its row is within its limits
pub record MayRestoreSnapshot (own : Owns) (p : SnapPoint) : Type 0 where
  pub owner : map.contains_key own p.key.account ≡ true
  pub limits : HasLimits (row_of p)

-- it runs and keeps as one can be created
pub record MayRestorePolicy (p : Policy) : Type 0 where
  pub schedule : is_schedule p.hours p.at ≡ true
  pub retain : is_retain p.retain ≡ true

-- an account that has used a client token has made something
abbrev pub MayRestoreAccount : AccountRow → Type 0
MayRestoreAccount a = All (λ (t : TokenPoint). has_own a ≡ true) a.tokens

-- the account is there, where it has a client token
abbrev pub MayRestoreTokens : Owns → ℕ → List TokenPoint → Type 0
MayRestoreTokens own account tokens = All (λ (t : TokenPoint). map.contains_key own account ≡ true) tokens

-- numbers of rules stand below 2^28
abbrev pub HasRuleNumbers : AccountRow → Type 0
HasRuleNumbers a = a.next_rule ≤ 2 ^ 28
