-- What is shown in JSON: members, ids, names, entries, rows and rules.
use Rattle.std.specs.Prelude.{ℕ, List, Option, Some, None, map, codes, [], ◌∷◌, option_map}
use Rattle.base64.specs.Engines.{standard}
use Rattle.serde_json.specs.Data.{Data, Members, put, number, unsigned, object, string, no_members, boolean, array}
use Rattle.base64.specs.GeneralPurpose.{encode_of}
use Rattle.serde_json.specs.View.{items_of}
use Rattle.serde_json.specs.Written.{compact_text}
use Rattle.ebs_model.specs.declared.rows.RowStatus.{RowStatus}
use Rattle.ebs_model.specs.declared.entries.BlockEntry.{BlockEntry}
use Rattle.ebs_model.specs.declared.keys.PolicyKey.{PolicyKey}
use Rattle.ebs_model.specs.declared.rows.RowStatus.TheVariants as status
use Rattle.ebs_model.specs.declared.views.SnapView.{SnapView}
use Rattle.ebs_model.specs.declared.entries.ChangedToken.{ChangedToken}
use Rattle.ebs_model.specs.declared.keys.AnyKey.{AnyKey}
use Rattle.ebs_model.specs.declared.keys.RuleKey.{RuleKey}
use Rattle.ebs_model.specs.declared.views.LockName.{LockName}
use Rattle.ebs_model.specs.declared.keys.AnyKey.TheVariants.{Snap, Vol, Rule, Policy}
use Rattle.ebs_model.specs.declared.rules.RuleTag.{RuleTag}
use Rattle.ebs_model.specs.declared.views.LockName.TheVariants as lock
use Rattle.ebs_model.specs.declared.keys.Moment.{Moment}
use Rattle.ebs_model.specs.declared.rules.RuleView.{RuleView}
use Rattle.ebs_model.specs.declared.views.TierName.{TierName}
use Rattle.ebs_model.specs.declared.keys.SnapKey.{SnapKey}
use Rattle.ebs_model.specs.declared.views.TierName.TheVariants as tier
use Rattle.ebs_model.specs.declared.answer.StateName.{StateName}
use Rattle.ebs_model.specs.declared.keys.VolKey.{VolKey}
use Rattle.ebs_model.specs.declared.answer.StateName.TheVariants.{Pending, Completed, Error, Archived, Standard, Temporary, Unlocked, TagLevel}
use Rattle.ebs_model.specs.declared.tags.Tag.{Tag}
use Rattle.ebs_model.specs.declared.answer.QuotaName.{QuotaName}
use Rattle.ebs_model.specs.declared.views.Permission.{Permission}
use Rattle.ebs_model.specs.declared.answer.QuotaName.TheVariants.{Snapshots, Volumes, Rules, Policies, ClientTokens, SharedAccounts, Ids}
use Rattle.ebs_model.specs.Ids.{snap_id, vol_id, decimal_of_width, policy_id, rule_id}
use Rattle.ebs_model.specs.declared.answer.Spent.{Spent}
use Rattle.ebs_model.specs.declared.answer.Spent.TheVariants.{Changes, Turns}
use Rattle.ebs_model.specs.declared.rules.RuleLockName.{RuleLockName}
use Rattle.ebs_model.specs.declared.rules.RuleLockName.TheVariants as rule_lock
use Rattle.ebs_model.specs.Quotas.{block_size}

-- the member, where it has a value
abbrev pub put_some : List ℕ → Option Data → Members → Members
put_some key None members = members
put_some key (Some value) members = put key value members

-- a number without sign, fraction and exponent
abbrev pub whole : ℕ → Data
whole n = number (unsigned n)

-- the object in JSON, without spaces
unfoldable pub object_text : Members → List ℕ
object_text members = compact_text (object members)

-- Base64 with padding (RFC 4648, section 4)
unfoldable pub base64_text : List ℕ → List ℕ
base64_text bytes = encode_of standard bytes

abbrev pub moment_shown : Moment → Data
moment_shown moment = whole moment.second

abbrev pub id_shown : SnapKey → Data
id_shown key = string (snap_id key)

abbrev pub volume_shown : VolKey → Data
volume_shown key = string (vol_id key)

abbrev pub account_shown : ℕ → Data
account_shown account = string (decimal_of_width 12 account)

abbrev pub permission_shown : Permission → Data
permission_shown permission = object (
    put (codes "Accounts") (array (items_of (map account_shown permission.accounts))) (
    put (codes "Public") (boolean permission.public)
    no_members))

abbrev pub tag_shown : Tag → Data
tag_shown tag = object (
    put (codes "Key") (string tag.key) (
    put (codes "Value") (string tag.value)
    no_members))

-- an array with an object for each tag, or nothing where there are none
abbrev pub tags_shown : List Tag → Option Data
tags_shown [] = None
tags_shown (tag ∷ tags) = Some (array (items_of (map tag_shown (tag ∷ tags))))

abbrev pub policy_id_shown : PolicyKey → Data
policy_id_shown key = string (policy_id key)

-- the id of a resource of any kind
abbrev pub any_id : AnyKey → List ℕ
any_id (Snap key) = snap_id key
any_id (Vol key) = vol_id key
any_id (Rule key) = rule_id key
any_id (Policy key) = policy_id key

abbrev pub any_id_shown : AnyKey → Data
any_id_shown key = string (any_id key)

abbrev pub block_shown : BlockEntry → Data
block_shown entry = object (
    put (codes "BlockIndex") (whole entry.index) (
    put (codes "BlockToken") (string entry.token)
    no_members))

abbrev pub changed_shown : ChangedToken → Data
changed_shown entry = object (
    put (codes "BlockIndex") (whole entry.index) (
    put_some (codes "FirstBlockToken") (option_map string entry.first) (
    put_some (codes "SecondBlockToken") (option_map string entry.second)
    no_members)))

abbrev pub lock_text : LockName → List ℕ
lock_text lock.Governance = codes "governance"
lock_text lock.CoolOff = codes "compliance-cooloff"
lock_text lock.Compliance = codes "compliance"
lock_text lock.Expired = codes "expired"

abbrev pub tier_text : TierName → List ℕ
tier_text tier.Standard = codes "standard"
tier_text tier.Archive = codes "archive"
tier_text tier.Temporary = codes "temporary"

-- the status of a row
abbrev pub row_status_text : RowStatus → List ℕ
row_status_text status.Pending = codes "pending"
row_status_text status.Completed = codes "completed"
row_status_text status.Failed = codes "error"

-- the state that a refusal names
abbrev pub state_text : StateName → List ℕ
state_text Pending = codes "pending"
state_text Completed = codes "completed"
state_text Error = codes "error"
state_text Archived = codes "archived"
state_text Standard = codes "standard"
state_text Temporary = codes "temporary"
state_text Unlocked = codes "unlocked"
state_text TagLevel = codes "tag-level"

abbrev pub quota_text : QuotaName → List ℕ
quota_text Snapshots = codes "snapshots"
quota_text Volumes = codes "volumes"
quota_text Rules = codes "rules"
quota_text Policies = codes "policies"
quota_text ClientTokens = codes "client-tokens"
quota_text SharedAccounts = codes "shared-accounts"
quota_text Ids = codes "ids"

abbrev pub spent_text : Spent → List ℕ
spent_text Changes = codes "changes"
spent_text Turns = codes "turns"

-- the lock of a Recycle Bin rule
abbrev pub rule_lock_text : RuleLockName → List ℕ
rule_lock_text rule_lock.Unlocked = codes "unlocked"
rule_lock_text rule_lock.Locked = codes "locked"
rule_lock_text rule_lock.Pending = codes "pending_unlock"

-- the members from SnapshotId on, in the order of their names
unfoldable pub later_members : SnapView → Members
later_members row =
    put (codes "SnapshotId") (id_shown row.key) (
    put (codes "StartTime") (whole row.start.second) (
    put (codes "Status") (string (row_status_text row.status)) (
    put (codes "StorageTier") (string (tier_text row.tier)) (
    put_some (codes "Tags") (tags_shown row.tags) (
    put_some (codes "VolumeId") (option_map volume_shown row.volume) (
    put (codes "VolumeSize") (whole row.size)
    no_members))))))

-- those from OwnerId on
unfoldable pub owner_members : SnapView → Members
owner_members row =
    put (codes "OwnerId") (account_shown row.owner) (
    put_some (codes "ParentSnapshotId") (option_map id_shown row.parent) (
    put_some (codes "Permission") (option_map permission_shown row.permission) (
    put_some (codes "RestoreUntil") (option_map moment_shown row.restore_until)
    (later_members row))))

unfoldable pub row_members : SnapView → Members
row_members row =
    put_some (codes "BinEnd") (option_map moment_shown row.bin_end) (
    put (codes "BlockSize") (whole block_size) (
    put_some (codes "Description") (option_map string row.description) (
    put_some (codes "LockState") (option_map (λ name. string (lock_text name)) row.lock) (
    put_some (codes "LockUntil") (option_map moment_shown row.lock_until)
    (owner_members row)))))

abbrev pub row_shown : SnapView → Data
row_shown row = object (row_members row)

abbrev pub rule_id_shown : RuleKey → Data
rule_id_shown key = string (rule_id key)

-- a key, and its value where one is asked for
abbrev pub rule_tag_shown : RuleTag → Data
rule_tag_shown tag = object (
    put (codes "ResourceTagKey") (string tag.key) (
    put_some (codes "ResourceTagValue") (option_map string tag.value)
    no_members))

-- an array with an object for each resource tag, or nothing where there are none
abbrev pub rule_tags_shown : List RuleTag → Option Data
rule_tags_shown [] = None
rule_tags_shown (tag ∷ tags) = Some (array (items_of (map rule_tag_shown (tag ∷ tags))))

-- the members of a rule, in the order of their names; LockEnd stands there while an unlock waits
unfoldable pub rule_members : RuleView → Members
rule_members row =
    put_some (codes "Description") (option_map string row.description) (
    put (codes "Identifier") (rule_id_shown row.key) (
    put_some (codes "LockEnd") (option_map moment_shown row.lock_end) (
    put (codes "LockState") (string (rule_lock_text row.lock)) (
    put_some (codes "ResourceTags") (rule_tags_shown row.tags) (
    put (codes "RetentionDays") (whole row.days)
    no_members)))))

abbrev pub rule_shown : RuleView → Data
rule_shown row = object (rule_members row)
