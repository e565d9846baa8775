-- What the types of its values say of a checkpoint: keys, accounts and digests have their widths, and texts are in UTF-8.
use Rattle.std.specs.Prelude.{◌≡◌, ◌<◌, ◌^◌, List, length, None}
use Rattle.std.specs.List.{AllByRecursion}
use Rattle.std.specs.Str.{IsUtf8}
use Rattle.ebs_model.specs.declared.tags.Tag.{Tag}
use Rattle.ebs_model.specs.declared.rules.Rule.{Rule}
use Rattle.ebs_model.specs.declared.rules.RuleTag.{RuleTag}
use Rattle.ebs_model.specs.declared.policy.Policy.{Policy}
use Rattle.ebs_model.specs.declared.request.Request.{Request}
use Rattle.ebs_model.specs.declared.request.Request.TheVariants.{StartSnapshot, CreateVolume}
use Rattle.ebs_records.specs.Fields.{IsLong, IsOptional, IsAccount, IsKeyNumber, IsKey, IsVolume, IsRule, IsPolicyKey, IsDigest}
use Rattle.ebs_records.specs.Names.{IsLine, IsBlock}
use Rattle.ebs_records.specs.declared.record.Record.{Record}
use Rattle.ebs_records.specs.declared.record.Record.TheVariants.{Accepted, Advance, Moved}
use Rattle.ebs_checkpoints.specs.declared.owned.AccountRow.{AccountRow}
use Rattle.ebs_checkpoints.specs.declared.owned.TokenPoint.{TokenPoint}
use Rattle.ebs_checkpoints.specs.declared.owned.VolPoint.{VolPoint}
use Rattle.ebs_checkpoints.specs.declared.snapshots.SnapPoint.{SnapPoint}
use Rattle.ebs_checkpoints.specs.declared.nodes.CopyRow.{CopyRow}
use Rattle.ebs_checkpoints.specs.declared.nodes.EntryRow.{EntryRow}
use Rattle.ebs_checkpoints.specs.declared.nodes.NodeRow.{NodeRow}
use Rattle.ebs_checkpoints.specs.declared.checkpoint.Checkpoint.{Checkpoint}
use Rattle.ebs_checkpoints.specs.Nodes.{IsSlot}

abbrev pub HasTexts : Tag → Type 0
HasTexts tag = IsUtf8 tag.key × IsUtf8 tag.value

abbrev pub HasRuleTexts : RuleTag → Type 0
HasRuleTexts tag = IsUtf8 tag.key × IsOptional IsUtf8 tag.value

-- the members of a call that gives a client token
abbrev pub HasMembers : Request → Type 0
HasMembers (StartSnapshot size parent description tags token timeout) = IsOptional IsKey parent × (IsOptional IsUtf8 description × (AllByRecursion HasTexts tags × IsOptional IsUtf8 token))
HasMembers (CreateVolume origin size tags token) = IsOptional IsKey origin × (AllByRecursion HasTexts tags × IsOptional IsUtf8 token)
HasMembers request = Unit {0}

-- the record of such a call names no slot
abbrev pub HasCall : Record → Type 0
HasCall (Accepted call) = IsAccount call.account × ((call.slot ≡ None) × HasMembers call.request)
HasCall (Advance at) = Unit {0}
HasCall (Moved transfer) = Unit {0}

pub record HasTokenValues (token : TokenPoint) : Type 0 where
  pub text : IsUtf8 token.text
  pub first : HasCall token.first
  pub number : IsKeyNumber token.number

pub record HasAccountValues (row : AccountRow) : Type 0 where
  pub account : IsAccount row.account
  pub tokens : AllByRecursion HasTokenValues row.tokens

-- a copy's number, and its block
abbrev pub HasCopyValues : CopyRow → Type 0
HasCopyValues copy = IsLong copy.copy × IsBlock copy.block

pub record HasSnapValues (row : SnapPoint) : Type 0 where
  pub key : IsKey row.key
  pub line : IsLine row.line
  pub parent : IsOptional IsKey row.parent
  pub volume : IsOptional IsVolume row.volume
  pub policy : IsOptional IsPolicyKey row.policy
  pub description : IsOptional IsUtf8 row.description
  pub tags : AllByRecursion HasTexts row.tags
  pub shared : AllByRecursion IsAccount row.shared
  pub node : IsOptional IsLong row.node
  pub copies : AllByRecursion HasCopyValues row.copies

pub record HasVolValues (point : VolPoint) : Type 0 where
  pub key : IsVolume point.row.key
  pub line : IsLine point.row.line
  pub origin : IsOptional IsKey point.row.origin
  pub tags : AllByRecursion HasTexts point.row.tags
  pub node : IsLong point.node

pub record HasRuleValues (rule : Rule) : Type 0 where
  pub key : IsRule rule.key
  pub tags : AllByRecursion HasRuleTexts rule.tags
  pub description : IsOptional IsUtf8 rule.description

pub record HasPolicyValues (policy : Policy) : Type 0 where
  pub key : IsPolicyKey policy.key
  pub targets : AllByRecursion HasTexts policy.targets
  pub add : AllByRecursion HasTexts policy.add

abbrev pub HasEntryValues : EntryRow → Type 0
HasEntryValues entry = IsBlock entry.block

pub record HasNodeValues (node : NodeRow) : Type 0 where
  pub number : IsLong node.number
  pub parent : IsOptional IsLong node.parent
  pub entries : AllByRecursion HasEntryValues node.entries

abbrev pub IsShort : {X : Type 0} → List X → Type 0
IsShort xs = length xs < 2 ^ 32

-- a list is counted in 32 bits; those within rows and nodes are short by their limits
pub record HasShortLists (point : Checkpoint) : Type 0 where
  pub accounts : IsShort point.accounts
  pub snapshots : IsShort point.snapshots
  pub volumes : IsShort point.volumes
  pub rules : IsShort point.rules
  pub policies : IsShort point.policies
  pub nodes : IsShort point.nodes
  pub standard : IsShort point.standard
  pub archive : IsShort point.archive

pub record HasValues (point : Checkpoint) : Type 0 where
  pub secret : IsDigest point.secret
  pub accounts : AllByRecursion HasAccountValues point.accounts
  pub snapshots : AllByRecursion HasSnapValues point.snapshots
  pub volumes : AllByRecursion HasVolValues point.volumes
  pub rules : AllByRecursion HasRuleValues point.rules
  pub policies : AllByRecursion HasPolicyValues point.policies
  pub nodes : AllByRecursion HasNodeValues point.nodes
  pub standard : AllByRecursion IsSlot point.standard
  pub archive : AllByRecursion IsSlot point.archive
  pub short : HasShortLists point
