-- Whose rows are: each account is listed, and has made the number that a row of its own has.
use Rattle.std.specs.Prelude.{ℕ, Bool, true, false, ◌&&◌, ◌==◌, List, nat_lt, nat_eq}
use Rattle.std.specs.List.{list_all, find}
use Rattle.std.specs.Option.{is_some}
use Rattle.std.specs.Cmp.Lexicographic.{pointwise}
use Rattle.std.specs.declared.option.Option.{Option}
use Rattle.std.specs.declared.option.Option.TheVariants.{None, Some}
use Rattle.ebs_model.specs.declared.keys.VolKey.{VolKey}
use Rattle.ebs_model.specs.declared.keys.PolicyKey.{PolicyKey}
use Rattle.ebs_model.specs.declared.rules.Rule.{Rule}
use Rattle.ebs_model.specs.declared.policy.Policy.{Policy}
use Rattle.ebs_model.specs.declared.request.Request.{Request}
use Rattle.ebs_model.specs.declared.request.Request.TheVariants.{StartSnapshot, CreateVolume}
use Rattle.ebs_records.specs.declared.record.Record.{Record}
use Rattle.ebs_records.specs.declared.record.Record.TheVariants.{Accepted, Advance, Moved}
use Rattle.ebs_checkpoints.specs.declared.owned.AccountRow.{AccountRow}
use Rattle.ebs_checkpoints.specs.declared.owned.TokenPoint.{TokenPoint}
use Rattle.ebs_checkpoints.specs.declared.owned.VolPoint.{VolPoint}
use Rattle.ebs_checkpoints.specs.declared.snapshots.SnapPoint.{SnapPoint}
use Rattle.ebs_checkpoints.specs.declared.checkpoint.Checkpoint.{Checkpoint}

-- the account's row, where it is listed
abbrev pub listed : List AccountRow → ℕ → Option AccountRow
listed accounts account = find (λ row. row.account == account) accounts

-- the account is listed, and its next number of the kind is above this one
abbrev pub is_made : (AccountRow → ℕ) → ℕ → Option AccountRow → Bool
is_made next number None = false
is_made next number (Some row) = nat_lt number (next row)

abbrev pub is_volume_of : ℕ → Option VolKey → Bool
is_volume_of account None = true
is_volume_of account (Some key) = key.account == account

abbrev pub is_policy_of : ℕ → Option PolicyKey → Bool
is_policy_of account None = true
is_policy_of account (Some key) = key.account == account

-- the volume and the policy that it names are of its account
abbrev pub is_owned_snapshot : List AccountRow → SnapPoint → Bool
is_owned_snapshot accounts row =
    is_made (λ a. a.next_snap) row.key.number (listed accounts row.key.account)
    && (is_volume_of row.key.account row.volume && is_policy_of row.key.account row.policy)

abbrev pub is_owned_volume : List AccountRow → VolPoint → Bool
is_owned_volume accounts point = is_made (λ a. a.next_vol) point.row.key.number (listed accounts point.row.key.account)

abbrev pub is_owned_rule : List AccountRow → Rule → Bool
is_owned_rule accounts rule = is_made (λ a. a.next_rule) rule.key.number (listed accounts rule.key.account)

abbrev pub is_owned_policy : List AccountRow → Policy → Bool
is_owned_policy accounts policy = is_made (λ a. a.next_policy) policy.key.number (listed accounts policy.key.account)

-- the call's client token is this text
abbrev pub has_text : Option (List ℕ) → List ℕ → Bool
has_text None text = false
has_text (Some token) text = pointwise nat_eq token text

-- the call gave this token, and made a number of the account: StartSnapshot, or CreateVolume with a size
abbrev pub is_use : AccountRow → TokenPoint → Request → Bool
is_use account token (StartSnapshot size parent description tags client_token timeout) = has_text client_token token.text && nat_lt token.number account.next_snap
is_use account token (CreateVolume origin size tags client_token) = is_some size && (has_text client_token token.text && nat_lt token.number account.next_vol)
is_use account token request = false

-- the account's accepted call at the token's moment used it
abbrev pub is_first_use : AccountRow → TokenPoint → Record → Bool
is_first_use account token (Accepted call) = call.at.second == token.at.second && (call.account == account.account && is_use account token call.request)
is_first_use account token (Advance at) = false
is_first_use account token (Moved transfer) = false

abbrev pub has_used_tokens : AccountRow → Bool
has_used_tokens account = list_all (λ token. is_first_use account token token.first) account.tokens

-- every row and every client token is one that its account has made
abbrev pub is_owned : Checkpoint → Bool
is_owned point =
    list_all (is_owned_snapshot point.accounts) point.snapshots
    && (list_all (is_owned_volume point.accounts) point.volumes
    && (list_all (is_owned_rule point.accounts) point.rules
    && (list_all (is_owned_policy point.accounts) point.policies && list_all has_used_tokens point.accounts)))
