-- The limits of what a checkpoint says.
use Rattle.std.specs.Prelude.{ℕ, ◌^◌, Bool, true, false, ◌&&◌, ◌==◌, length, nat_le}
use Rattle.std.specs.List.{list_all}
use Rattle.std.specs.Option.{is_none}
use Rattle.std.specs.declared.option.Option.{Option}
use Rattle.std.specs.declared.option.Option.TheVariants.{None, Some}
use Rattle.ebs_model.specs.declared.keys.Moment.{Moment}
use Rattle.ebs_model.specs.declared.keys.VolKey.{VolKey}
use Rattle.ebs_model.specs.declared.rows.LockState.{LockState}
use Rattle.ebs_model.specs.declared.rows.LockState.TheVariants as lock
use Rattle.ebs_model.specs.declared.rows.Tier.{Tier}
use Rattle.ebs_model.specs.declared.rows.Tier.TheVariants.{Standard, Archived, Temporary}
use Rattle.ebs_model.specs.declared.rules.Rule.{Rule}
use Rattle.ebs_model.specs.declared.rules.RuleLock.{RuleLock}
use Rattle.ebs_model.specs.declared.rules.RuleLock.TheVariants.{Unlocked, Locked, Pending}
use Rattle.ebs_model.specs.declared.policy.Policy.{Policy}
use Rattle.ebs_model.specs.declared.request.Request.{Request}
use Rattle.ebs_model.specs.declared.request.Request.TheVariants.{StartSnapshot, CreateVolume}
use Rattle.ebs_model.specs.Limits.{is_size, is_size_given, is_description, are_tags, is_timeout, is_client_token, is_retention, are_rule_tags, is_delay, are_targets, is_interval, is_time_of_day, is_retain, bad_member}
use Rattle.ebs_model.specs.Quotas.{most_tokens, most_ids, most_shared, most_changes}
use Rattle.ebs_records.specs.declared.record.Record.{Record}
use Rattle.ebs_records.specs.declared.record.Record.TheVariants.{Accepted, Advance, Moved}
use Rattle.ebs_records.specs.Records.{is_moment, is_index}
use Rattle.ebs_checkpoints.specs.declared.owned.AccountRow.{AccountRow}
use Rattle.ebs_checkpoints.specs.declared.owned.TokenPoint.{TokenPoint}
use Rattle.ebs_checkpoints.specs.declared.owned.VolPoint.{VolPoint}
use Rattle.ebs_checkpoints.specs.declared.snapshots.SnapPoint.{SnapPoint}
use Rattle.ebs_checkpoints.specs.declared.nodes.NodeRow.{NodeRow}
use Rattle.ebs_checkpoints.specs.declared.nodes.EntryRow.{EntryRow}
use Rattle.ebs_checkpoints.specs.declared.nodes.CopyRow.{CopyRow}
use Rattle.ebs_checkpoints.specs.declared.checkpoint.Checkpoint.{Checkpoint}

-- ---- ends

-- the end of a lock, a restore, a stay in the bin or a rule's lock: at most 2^37 seconds
abbrev pub is_end : Moment → Bool
is_end at = nat_le at.second (2 ^ 37)

abbrev pub is_end_given : Option Moment → Bool
is_end_given None = true
is_end_given (Some at) = is_end at

abbrev pub has_lock_end : LockState → Bool
has_lock_end lock.None = true
has_lock_end (lock.Governance until) = is_end until
has_lock_end (lock.Compliance until cool_end) = is_end until && is_end cool_end

abbrev pub has_restore_end : Tier → Bool
has_restore_end Standard = true
has_restore_end Archived = true
has_restore_end (Temporary until) = is_end until

abbrev pub is_rule_lock : RuleLock → Bool
is_rule_lock Unlocked = true
is_rule_lock (Locked delay) = is_delay delay
is_rule_lock (Pending end) = is_end end

-- ---- accounts

abbrev pub is_call_within : Request → Bool
is_call_within (StartSnapshot size parent description tags token timeout) = is_size size && is_none (bad_member (StartSnapshot size parent description tags token timeout))
is_call_within (CreateVolume origin size tags token) = is_size_given size && is_none (bad_member (CreateVolume origin size tags token))
is_call_within request = is_none (bad_member request)

-- a client token was first used by an accepted call within the limits of its members
abbrev pub is_record_within : Record → Bool
is_record_within (Accepted call) = is_moment call.at && is_call_within call.request
is_record_within (Advance at) = false
is_record_within (Moved transfer) = false

abbrev pub is_token_within : TokenPoint → Bool
is_token_within token = is_client_token token.text && (is_moment token.at && is_record_within token.first)

abbrev pub is_counter : ℕ → Bool
is_counter next = nat_le next most_ids

abbrev pub is_account_within : AccountRow → Bool
is_account_within account =
    is_counter account.next_snap
    && (is_counter account.next_vol
    && (is_counter account.next_rule
    && (is_counter account.next_policy && (nat_le (length account.tokens) most_tokens && list_all is_token_within account.tokens))))

-- ---- snapshots and volumes

-- 10 to 4320 minutes, but 0 of a volume's snapshot
abbrev pub is_timeout_of : Option VolKey → ℕ → Bool
is_timeout_of None minutes = is_timeout minutes
is_timeout_of (Some volume) minutes = minutes == 0

abbrev pub has_moments : SnapPoint → Bool
has_moments row = is_moment row.start && (is_moment row.last && is_timeout_of row.volume row.timeout)

abbrev pub has_ends : SnapPoint → Bool
has_ends row = has_lock_end row.lock && (has_restore_end row.tier && is_end_given row.bin_end)

abbrev pub is_told_within : SnapPoint → Bool
is_told_within row = is_description row.description && (are_tags row.tags && nat_le (length row.shared) most_shared)

abbrev pub has_copy_index : CopyRow → Bool
has_copy_index copy = is_index copy.index

abbrev pub is_snapshot_within : SnapPoint → Bool
is_snapshot_within row =
    is_size row.size
    && (has_moments row && (has_ends row && (is_told_within row && (list_all is_index row.put && list_all has_copy_index row.copies))))

abbrev pub is_volume_within : VolPoint → Bool
is_volume_within point = is_size point.row.size && are_tags point.row.tags

-- ---- rules and policies

abbrev pub is_rule_within : Rule → Bool
is_rule_within rule = is_retention rule.days && (are_rule_tags rule.tags && (is_description rule.description && is_rule_lock rule.lock))

abbrev pub is_policy_within : Policy → Bool
is_policy_within policy =
    are_targets policy.targets
    && (is_interval policy.hours && (is_time_of_day policy.at && (is_retain policy.retain && (are_tags policy.add && is_moment policy.last))))

-- ---- nodes

abbrev pub has_entry_index : EntryRow → Bool
has_entry_index entry = is_index entry.index

abbrev pub is_node_within : NodeRow → Bool
is_node_within node = list_all has_entry_index node.entries

-- ---- all

-- every number of a checkpoint is within its limits
abbrev pub is_within : Checkpoint → Bool
is_within point =
    is_moment point.clock
    && (nat_le point.accepted most_changes
    && (list_all is_account_within point.accounts
    && (list_all is_snapshot_within point.snapshots
    && (list_all is_volume_within point.volumes
    && (list_all is_rule_within point.rules && (list_all is_policy_within point.policies && list_all is_node_within point.nodes))))))
