-- What a checkpoint with all rules says is lawful, and which rules a lawful machine gives a checkpoint that says it.
use Rattle.std.specs.Prelude.{◌≡◌, ℕ, Bool, true, false, ◌&&◌, ◌==◌, List}
use Rattle.std.specs.Option.{is_some}
use Rattle.std.specs.List.{list_all}
use Rattle.std.specs.Ordering.{nat_cmp}
use Rattle.std.specs.FinMap.{get}
use Rattle.ebs_model.specs.Limits.{rises}
use Rattle.ebs_model.specs.declared.rules.Rule.{Rule}
use Rattle.ebs_records.specs.declared.record.Record.{Record}
use Rattle.ebs_records.specs.declared.record.Record.TheVariants.{Accepted, Advance, Moved}
use Rattle.ebs_checkpoints.specs.declared.owned.AccountRow.{AccountRow}
use Rattle.ebs_checkpoints.specs.declared.owned.TokenPoint.{TokenPoint}
use Rattle.ebs_checkpoints.specs.declared.snapshots.SnapPoint.{SnapPoint}
use Rattle.ebs_checkpoints.specs.declared.checkpoint.Checkpoint.{Checkpoint}
use Rattle.ebs_row_rules.specs.Order.{ascends, is_ordered}
use Rattle.ebs_row_rules.specs.Limits.{is_within, is_node_within, has_copy_index}
use Rattle.ebs_row_rules.specs.Counts.{are_in_quotas}
use Rattle.ebs_row_rules.specs.Owners.{is_owned}
use Rattle.ebs_checkpoint_rules.specs.Rules.{HasRules}
use Rattle.ebs_node_rules.specs.States.{is_upload_or_done}
use Rattle.ebs_recovery.specs.inner.Bases.{machine_of}
use Rattle.ebs_recovery.specs.Bases.{row_of, books_of}
use Rattle.ebs_lawful.specs.Snapshots.{IsSnapRow}
use Rattle.ebs_lawful.specs.Lawful.{IsLawful}

abbrev pub PointsAreLawful : Type 0
PointsAreLawful = (point : Checkpoint) → HasRules point → IsLawful (machine_of point)

-- the record is the account's call at the token's moment
abbrev pub is_its_call : AccountRow → TokenPoint → Record → Bool
is_its_call account token (Accepted call) = (call.at.second == token.at.second) && (call.account == account.account)
is_its_call account token (Advance at) = false
is_its_call account token (Moved transfer) = false

abbrev pub has_own_calls : AccountRow → Bool
has_own_calls account = list_all (λ (token : TokenPoint). is_its_call account token token.first) account.tokens

-- lists ascend; and what the machine doesn't say: a rule's account has made one, a token's record is its call, and the indexes of copies
-- and of nodes are small
pub record IsInOrder (point : Checkpoint) : Type 0 where
  pub ordered : is_ordered point ≡ true
  pub books : list_all (λ (rule : Rule). is_some (get (books_of point) rule.key.account)) point.rules ≡ true
  pub calls : list_all has_own_calls point.accounts ≡ true
  pub copies : list_all (λ (row : SnapPoint). list_all has_copy_index row.copies) point.snapshots ≡ true
  pub nodes : list_all is_node_within point.nodes ≡ true

-- such a checkpoint, of a lawful machine, is within all limits and quotas, and its rows are their accounts'
abbrev pub LawsGiveRules : Type 0
LawsGiveRules = (point : Checkpoint) → IsInOrder point → IsLawful (machine_of point) → (is_within point ≡ true) × (is_owned point ≡ true) × (are_in_quotas point ≡ true)

-- the accounts that a snapshot is shared with ascend as a checkpoint asks for it
abbrev pub SharesAscend : Type 0
SharesAscend = (accounts : List ℕ) → rises accounts ≡ true → ascends nat_cmp (λ (n : ℕ). n) accounts ≡ true

-- what is of a volume is completed
abbrev pub UploadsAreDone : Type 0
UploadsAreDone = (row : SnapPoint) → IsSnapRow row.key (row_of row) → is_upload_or_done row ≡ true
