-- The members of each call in the order in which they are tried (EBS direct APIs reference, Request Parameters of each action; of the calls on rows the profile).
use Rattle.std.specs.Prelude.{codes, Result, [], Ok, ℕ, List, ◌==◌, length, Option, Some, None, Err, Bool, true, false}
use Rattle.std.specs.Option.{unwrap_or}
use Rattle.ebs_model.specs.declared.request.Request.{Request}
use Rattle.ebs_model.specs.declared.request.Request.TheVariants.{StartSnapshot, PutSnapshotBlock, CompleteSnapshot, ListSnapshotBlocks, ListChangedBlocks, GetSnapshotBlock, DescribeSnapshot, DescribeSnapshots, ModifyPermission, DeleteSnapshot, LockSnapshot, UnlockSnapshot, ArchiveSnapshot, RestoreTier, CreateVolume, CreateSnapshot, WriteVolumeBlock, ReadVolumeBlock, DescribeVolume, DeleteVolume, CreateRule, GetRule, UpdateRule, DeleteRule, ListRules, LockRule, UnlockRule, ListBin, RestoreFromBin, CreatePolicy, GetPolicy, DeletePolicy, RunPolicy}
use Rattle.ebs_model.specs.declared.answer.Refusal.{Refusal}
use Rattle.ebs_model.specs.declared.answer.Refusal.TheVariants.{BadParameter}
use Rattle.ebs_model.specs.declared.keys.SnapKey.{SnapKey}
use Rattle.ebs_model.specs.declared.keys.VolKey.{VolKey}
use Rattle.ebs_model.specs.declared.keys.RuleKey.{RuleKey}
use Rattle.ebs_model.specs.declared.keys.PolicyKey.{PolicyKey}
use Rattle.ebs_model.specs.declared.lock.Term.{Term}
use Rattle.ebs_model.specs.declared.lock.Term.TheVariants.{Days, Date}
use Rattle.ebs_model.specs.Limits.{bad_member, is_sized, is_first_delay}
use Rattle.ebs_model.specs.Refuse.{◌>>=◌, ◌>>◌}
use Rattle.ebs_members.specs.declared.kinds.Named.{Named}
use Rattle.ebs_members.specs.declared.kinds.Spell.TheVariants.{LockDays, CoolHours, RestoreDays}
use Rattle.ebs_members.specs.declared.rules.Period.TheVariants.{Retention, UnlockDelay}
use Rattle.ebs_members.specs.Sources.{Members, required, optional, need, in_body, body_of, refuse_unless}
use Rattle.ebs_members.specs.Kinds.{nobody}
use Rattle.ebs_members.specs.Kinds as kind
use Rattle.ebs_members.specs.Policies as policy_kind
use Rattle.ebs_model.specs.Quotas.{block_size}

-- what a path names
abbrev pub snapshot : Members → Result SnapKey Refusal
snapshot path = required path (codes "snapshotId") kind.snapshot

abbrev pub volume : Members → Result VolKey Refusal
volume path = required path (codes "volumeId") kind.volume

abbrev pub rule : Members → Result RuleKey Refusal
rule path = required path (codes "identifier") kind.rule

abbrev pub policy : Members → Result PolicyKey Refusal
policy path = required path (codes "policyId") policy_kind.policy

abbrev pub start_of : Members → Result Request Refusal
start_of body = do
  size ← required body (codes "VolumeSize") kind.number
  parent ← optional body (codes "ParentSnapshotId") kind.snapshot
  description ← optional body (codes "Description") kind.description
  tags ← optional body (codes "Tags") kind.tags
  token ← optional body (codes "ClientToken") kind.token
  timeout ← optional body (codes "Timeout") (kind.number_within 10 4320)
  encrypted ← optional body (codes "Encrypted") kind.only_false
  key ← optional body (codes "KmsKeyArn") kind.absent
  Ok (StartSnapshot size parent description (unwrap_or tags []) token (unwrap_or timeout 60))

abbrev pub start : List ℕ → Result Request Refusal
start bytes = do
  body ← need (codes "body") (body_of bytes)
  start_of (in_body body)

-- the digest that comes with a block
abbrev pub block_digest : Members → List ℕ → Result (List ℕ) Refusal
block_digest fields body = do
  required fields (codes "x-amz-Data-Length") (kind.exactly (codes "524288"))
  digest ← required fields (codes "x-amz-Checksum") kind.digest
  required fields (codes "x-amz-Checksum-Algorithm") (kind.exactly (codes "SHA256"))
  progress ← optional fields (codes "x-amz-Progress") (kind.number_within 0 100)
  refuse_unless (length body == block_size) (codes "body")
  Ok digest

abbrev pub put_block : Members → Members → List ℕ → Result Request Refusal
put_block path fields body = do
  key ← snapshot path
  index ← required path (codes "blockIndex") kind.index
  digest ← block_digest fields body
  Ok (PutSnapshotBlock key index digest body)

-- with a checksum, its algorithm and method are the only ones there are
abbrev pub checksum_named : Members → Result (Unit {0}) Refusal
checksum_named fields = do
  algorithm ← optional fields (codes "x-amz-Checksum-Algorithm") (kind.exactly (codes "SHA256"))
  method ← optional fields (codes "x-amz-Checksum-Aggregation-Method") (kind.exactly (codes "LINEAR"))
  Ok tt

abbrev pub stated : Members → Option (List ℕ) → Result (Unit {0}) Refusal
stated fields None = Ok tt
stated fields (Some checksum) = checksum_named fields

abbrev pub complete : Members → Members → Result Request Refusal
complete path fields = do
  key ← snapshot path
  count ← required fields (codes "x-amz-ChangedBlocksCount") kind.index
  checksum ← optional fields (codes "x-amz-Checksum") kind.digest
  stated fields checksum
  Ok (CompleteSnapshot key count checksum)

abbrev pub page_of : SnapKey → Members → Result Request Refusal
page_of key query = do
  page ← optional query (codes "pageToken") kind.any_text
  most ← optional query (codes "maxResults") (kind.number_within 100 10000)
  start ← optional query (codes "startingBlockIndex") kind.index
  Ok (ListSnapshotBlocks key page (unwrap_or most 1000) (unwrap_or start 0))

abbrev pub list_blocks : Members → Members → Result Request Refusal
list_blocks path query = do
  key ← snapshot path
  page_of key query

abbrev pub list_changed : Members → Members → Result Request Refusal
list_changed path query = do
  first ← required query (codes "firstSnapshotId") kind.snapshot
  second ← required path (codes "secondSnapshotId") kind.snapshot
  page ← optional query (codes "pageToken") kind.any_text
  most ← optional query (codes "maxResults") (kind.number_within 100 10000)
  start ← optional query (codes "startingBlockIndex") kind.index
  Ok (ListChangedBlocks first second page (unwrap_or most 1000) (unwrap_or start 0))

abbrev pub get_block : Members → Members → Result Request Refusal
get_block path query = do
  key ← snapshot path
  index ← required path (codes "blockIndex") kind.index
  token ← required query (codes "blockToken") kind.any_text
  Ok (GetSnapshotBlock key index token)

abbrev pub describe : Members → Result Request Refusal
describe path = do
  key ← snapshot path
  Ok (DescribeSnapshot key)

-- the first of the rows that are asked for, and how many at most
abbrev pub rows_asked : Members → Result (ℕ × ℕ) Refusal
rows_asked query = do
  from ← optional query (codes "from") (kind.number_within 0 268435455)
  most ← optional query (codes "max") (kind.number_within 1 1000)
  Ok (unwrap_or from 0, unwrap_or most 1000)

abbrev pub describe_all : Members → Result Request Refusal
describe_all query = do
  rows ← rows_asked query
  Ok (DescribeSnapshots rows.0 rows.1)

-- refused by the name of the first member outside its limits
abbrev pub limited_by : Request → Option (List ℕ) → Result Request Refusal
limited_by request None = Ok request
limited_by request (Some name) = Err (BadParameter name)

abbrev pub limited : Request → Result Request Refusal
limited request = limited_by request (bad_member request)

abbrev pub permission : SnapKey → Named → Named → Request
permission key add remove = ModifyPermission key add.accounts add.all remove.accounts remove.all

abbrev pub permission_of : SnapKey → Members → Result Request Refusal
permission_of key body = do
  add ← optional body (codes "Add") kind.named
  remove ← optional body (codes "Remove") kind.named
  limited (permission key (unwrap_or add nobody) (unwrap_or remove nobody))

abbrev pub modify_permission : Members → List ℕ → Result Request Refusal
modify_permission path bytes = do
  key ← snapshot path
  body ← need (codes "body") (body_of bytes)
  permission_of key (in_body body)

abbrev pub delete : Members → Result Request Refusal
delete path = do
  key ← snapshot path
  Ok (DeleteSnapshot key)

-- so many days or a date, and not both
abbrev pub one_term : Option ℕ → Option ℕ → Result Term Refusal
one_term None None = Err (BadParameter (codes "LockDuration"))
one_term (Some days) None = Ok (Days days)
one_term None (Some second) = Ok (Date (record { second = second }))
one_term (Some days) (Some second) = Err (BadParameter (codes "ExpirationDate"))

abbrev pub term_of : Members → Result Term Refusal
term_of body = do
  days ← optional body (codes "LockDuration") (kind.spell LockDays)
  date ← optional body (codes "ExpirationDate") kind.number
  one_term days date

abbrev pub lock_of : SnapKey → Members → Result Request Refusal
lock_of key body = do
  mode ← required body (codes "LockMode") kind.lock_mode
  term ← term_of body
  cool_hours ← optional body (codes "CoolOffPeriod") (kind.spell (CoolHours mode))
  Ok (LockSnapshot key mode term cool_hours)

abbrev pub lock : Members → List ℕ → Result Request Refusal
lock path bytes = do
  key ← snapshot path
  body ← need (codes "body") (body_of bytes)
  lock_of key (in_body body)

abbrev pub unlock : Members → Result Request Refusal
unlock path = do
  key ← snapshot path
  Ok (UnlockSnapshot key)

abbrev pub archive_of : SnapKey → Members → Result Request Refusal
archive_of key body = do
  required body (codes "StorageTier") (kind.exactly (codes "archive"))
  Ok (ArchiveSnapshot key)

abbrev pub archive : Members → List ℕ → Result Request Refusal
archive path bytes = do
  key ← snapshot path
  body ← need (codes "body") (body_of bytes)
  archive_of key (in_body body)

-- for so many days or for good, and not both
abbrev pub one_restore : SnapKey → Option ℕ → Bool → Result Request Refusal
one_restore key None false = Err (BadParameter (codes "TemporaryRestoreDays"))
one_restore key (Some days) false = Ok (RestoreTier key (Some days))
one_restore key None true = Ok (RestoreTier key None)
one_restore key (Some days) true = Err (BadParameter (codes "PermanentRestore"))

abbrev pub restore_of : SnapKey → Members → Result Request Refusal
restore_of key body = do
  days ← optional body (codes "TemporaryRestoreDays") (kind.spell RestoreDays)
  for_good ← optional body (codes "PermanentRestore") kind.bool_in
  one_restore key days (unwrap_or for_good false)

abbrev pub restore : Members → List ℕ → Result Request Refusal
restore path bytes = do
  key ← snapshot path
  body ← need (codes "body") (body_of bytes)
  restore_of key (in_body body)

-- without a snapshot it has a size
abbrev pub create_of : Members → Result Request Refusal
create_of body = do
  origin ← optional body (codes "SnapshotId") kind.snapshot
  size ← optional body (codes "Size") kind.number
  refuse_unless (is_sized origin size) (codes "Size")
  tags ← optional body (codes "Tags") kind.tags
  token ← optional body (codes "ClientToken") kind.token
  Ok (CreateVolume origin size (unwrap_or tags []) token)

abbrev pub create : List ℕ → Result Request Refusal
create bytes = do
  body ← need (codes "body") (body_of bytes)
  create_of (in_body body)

abbrev pub snapshot_of : VolKey → Members → Result Request Refusal
snapshot_of key body = do
  description ← optional body (codes "Description") kind.description
  tags ← optional body (codes "Tags") kind.tags
  Ok (CreateSnapshot key description (unwrap_or tags []))

abbrev pub create_snapshot : Members → List ℕ → Result Request Refusal
create_snapshot path bytes = do
  key ← volume path
  body ← need (codes "body") (body_of bytes)
  snapshot_of key (in_body body)

abbrev pub write_block : Members → Members → List ℕ → Result Request Refusal
write_block path fields body = do
  key ← volume path
  index ← required path (codes "blockIndex") kind.index
  digest ← block_digest fields body
  Ok (WriteVolumeBlock key index digest body)

abbrev pub read_block : Members → Result Request Refusal
read_block path = do
  key ← volume path
  index ← required path (codes "blockIndex") kind.index
  Ok (ReadVolumeBlock key index)

abbrev pub describe_volume : Members → Result Request Refusal
describe_volume path = do
  key ← volume path
  Ok (DescribeVolume key)

abbrev pub delete_volume : Members → Result Request Refusal
delete_volume path = do
  key ← volume path
  Ok (DeleteVolume key)

-- a rule with resource tags isn't created locked
abbrev pub rule_of : Members → Result Request Refusal
rule_of body = do
  days ← required body (codes "RetentionPeriod") (kind.period Retention)
  required body (codes "ResourceType") (kind.exactly (codes "EBS_SNAPSHOT"))
  tags ← optional body (codes "ResourceTags") kind.rule_tags
  description ← optional body (codes "Description") kind.description
  delay ← optional body (codes "LockConfiguration") (kind.period UnlockDelay)
  refuse_unless (is_first_delay (unwrap_or tags []) delay) (codes "LockConfiguration")
  Ok (CreateRule days (unwrap_or tags []) description delay)

abbrev pub create_rule : List ℕ → Result Request Refusal
create_rule bytes = do
  body ← need (codes "body") (body_of bytes)
  rule_of (in_body body)

abbrev pub get_rule : Members → Result Request Refusal
get_rule path = do
  key ← rule path
  Ok (GetRule key)

-- no tags at all make it a rule of the whole account
abbrev pub update_of : RuleKey → Members → Result Request Refusal
update_of key body = do
  days ← optional body (codes "RetentionPeriod") (kind.period Retention)
  tags ← optional body (codes "ResourceTags") kind.rule_tags
  description ← optional body (codes "Description") kind.description
  Ok (UpdateRule key days tags description)

abbrev pub update_rule : Members → List ℕ → Result Request Refusal
update_rule path bytes = do
  key ← rule path
  body ← need (codes "body") (body_of bytes)
  update_of key (in_body body)

abbrev pub delete_rule : Members → Result Request Refusal
delete_rule path = do
  key ← rule path
  Ok (DeleteRule key)

abbrev pub list_rules : Result Request Refusal
list_rules = Ok ListRules

abbrev pub lock_rule_of : RuleKey → Members → Result Request Refusal
lock_rule_of key body = do
  delay ← required body (codes "LockConfiguration") (kind.period UnlockDelay)
  Ok (LockRule key delay)

abbrev pub lock_rule : Members → List ℕ → Result Request Refusal
lock_rule path bytes = do
  key ← rule path
  body ← need (codes "body") (body_of bytes)
  lock_rule_of key (in_body body)

abbrev pub unlock_rule : Members → Result Request Refusal
unlock_rule path = do
  key ← rule path
  Ok (UnlockRule key)

abbrev pub list_bin : Members → Result Request Refusal
list_bin query = do
  rows ← rows_asked query
  Ok (ListBin rows.0 rows.1)

abbrev pub restore_from_bin : Members → Result Request Refusal
restore_from_bin path = do
  key ← snapshot path
  Ok (RestoreFromBin key)

abbrev pub policy_of : Members → Result Request Refusal
policy_of body = do
  targets ← required body (codes "TargetTags") policy_kind.targets
  schedule ← required body (codes "Schedule") policy_kind.schedule
  retain ← required body (codes "RetainRule") policy_kind.retention
  add ← optional body (codes "TagsToAdd") kind.tags
  Ok (CreatePolicy targets schedule.hours schedule.at retain (unwrap_or add []))

abbrev pub create_policy : List ℕ → Result Request Refusal
create_policy bytes = do
  body ← need (codes "body") (body_of bytes)
  policy_of (in_body body)

abbrev pub get_policy : Members → Result Request Refusal
get_policy path = do
  key ← policy path
  Ok (GetPolicy key)

abbrev pub delete_policy : Members → Result Request Refusal
delete_policy path = do
  key ← policy path
  Ok (DeletePolicy key)

abbrev pub run_policy : Members → Result Request Refusal
run_policy path = do
  key ← policy path
  Ok (RunPolicy key)
