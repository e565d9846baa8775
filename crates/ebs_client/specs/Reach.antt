-- Every request within its limits is asked for by a message.
use Rattle.std.specs.Prelude.{◌≡◌, ℕ, ◌<◌, ◌^◌, Bool, true, false, List, [], ◌∷◌, codes, length, IfSome, IsUtf8}
use Rattle.std.specs.declared.option.Option.TheVariants.{None, Some}
use Rattle.std.specs.declared.result.Result.TheVariants.{Ok}
use Rattle.std.specs.List.{AllByRecursion}
use Rattle.base64.specs.GeneralPurpose.{IsBytes}
use Rattle.ebs_http.specs.declared.message.Message.{Message}
use Rattle.ebs_model.specs.declared.keys.SnapKey.{SnapKey}
use Rattle.ebs_model.specs.declared.keys.VolKey.{VolKey}
use Rattle.ebs_model.specs.declared.keys.RuleKey.{RuleKey}
use Rattle.ebs_model.specs.declared.keys.PolicyKey.{PolicyKey}
use Rattle.ebs_model.specs.declared.request.Request.{Request}
use Rattle.ebs_model.specs.declared.request.Request.TheVariants.{StartSnapshot, CreateVolume, PutSnapshotBlock, CompleteSnapshot, ListSnapshotBlocks, ListChangedBlocks, GetSnapshotBlock, DescribeSnapshot, DeleteSnapshot, ModifyPermission, LockSnapshot, UnlockSnapshot, ArchiveSnapshot, RestoreTier, CreateSnapshot, WriteVolumeBlock, ReadVolumeBlock, DescribeVolume, DeleteVolume, CreateRule, GetRule, UpdateRule, DeleteRule, LockRule, UnlockRule, RestoreFromBin, CreatePolicy, GetPolicy, DeletePolicy, RunPolicy}
use Rattle.ebs_model.specs.declared.tags.Tag.{Tag}
use Rattle.ebs_model.specs.declared.rules.RuleTag.{RuleTag}
use Rattle.ebs_model.specs.declared.policy.Retain.TheVariants as retain
use Rattle.ebs_model.specs.declared.lock.Term.{Term}
use Rattle.ebs_model.specs.declared.lock.Term.TheVariants.{Days, Date}
use Rattle.ebs_model.specs.Limits.{bad_member}
use Rattle.ebs_rest.specs.CallOf.{call_of}
use Rattle.ebs_client.specs.Messages.{message_of}

-- the numbers that keys have
abbrev pub IsSnapshot : SnapKey → Type 0
IsSnapshot key = (key.account < 10 ^ 12) × (key.number < 2 ^ 28)

abbrev pub IsVolume : VolKey → Type 0
IsVolume key = (key.account < 10 ^ 12) × (key.number < 2 ^ 28)

abbrev pub IsRule : RuleKey → Type 0
IsRule key = (key.account < 10 ^ 12) × (key.number < 2 ^ 28)

abbrev pub IsPolicy : PolicyKey → Type 0
IsPolicy key = (key.account < 10 ^ 12) × (key.number < 2 ^ 28)

-- 32 bytes
abbrev pub IsDigest : List ℕ → Type 0
IsDigest digest = (length digest ≡ 32) × IsBytes digest

-- a moment has 64 bits
abbrev pub IsTerm : Term → Type 0
IsTerm (Days days) = Unit {0}
IsTerm (Date date) = date.second < 2 ^ 64

-- a tag's texts
abbrev pub HasTexts : Tag → Type 0
HasTexts tag = IsUtf8 tag.key × IsUtf8 tag.value

-- a resource tag's texts
abbrev pub HasRuleTexts : RuleTag → Type 0
HasRuleTexts tag = IsUtf8 tag.key × IfSome tag.value IsUtf8

abbrev pub AllHaveRuleTexts : List RuleTag → Type 0
AllHaveRuleTexts tags = AllByRecursion HasRuleTexts tags

-- everybody is chosen without a list, and an account has twelve digits
abbrev pub IsChoice : List ℕ → Bool → Type 0
IsChoice chosen true = chosen ≡ []
IsChoice chosen false = AllByRecursion (λ account. account < 10 ^ 12) chosen

-- what the types of a request's fields hold of each request of the program, and of a choice what its reader gives
abbrev pub IsHeld : Request → Type 0
IsHeld (PutSnapshotBlock key index digest bytes) = IsSnapshot key × IsDigest digest
IsHeld (CompleteSnapshot key count checksum) = IsSnapshot key × IfSome checksum IsDigest
IsHeld (ListSnapshotBlocks key token most start) = IsSnapshot key × IfSome token IsUtf8
IsHeld (ListChangedBlocks first second token most start) = IsSnapshot first × IsSnapshot second × IfSome token IsUtf8
IsHeld (GetSnapshotBlock key index token) = IsSnapshot key × IsUtf8 token
IsHeld (DescribeSnapshot key) = IsSnapshot key
IsHeld (DeleteSnapshot key) = IsSnapshot key
IsHeld (ModifyPermission key add add_all remove remove_all) = IsSnapshot key × IsChoice add add_all × IsChoice remove remove_all
IsHeld (LockSnapshot key mode term cool_hours) = IsSnapshot key × IsTerm term
IsHeld (UnlockSnapshot key) = IsSnapshot key
IsHeld (ArchiveSnapshot key) = IsSnapshot key
IsHeld (RestoreTier key days) = IsSnapshot key
IsHeld (StartSnapshot size parent description tags token timeout) = (size < 2 ^ 64) × IfSome parent IsSnapshot × IfSome description IsUtf8 × AllByRecursion HasTexts tags × IfSome token IsUtf8
IsHeld (CreateVolume origin size tags token) = IfSome origin IsSnapshot × IfSome size (λ n. n < 2 ^ 64) × AllByRecursion HasTexts tags × IfSome token IsUtf8
IsHeld (CreateSnapshot key description tags) = IsVolume key × IfSome description IsUtf8 × AllByRecursion HasTexts tags
IsHeld (WriteVolumeBlock key index digest bytes) = IsVolume key × IsDigest digest
IsHeld (ReadVolumeBlock key index) = IsVolume key
IsHeld (DescribeVolume key) = IsVolume key
IsHeld (DeleteVolume key) = IsVolume key
IsHeld (CreateRule days tags description delay) = AllHaveRuleTexts tags × IfSome description IsUtf8
IsHeld (GetRule key) = IsRule key
IsHeld (UpdateRule key days tags description) = IsRule key × IfSome tags AllHaveRuleTexts × IfSome description IsUtf8
IsHeld (DeleteRule key) = IsRule key
IsHeld (LockRule key delay) = IsRule key
IsHeld (UnlockRule key) = IsRule key
IsHeld (RestoreFromBin key) = IsSnapshot key
IsHeld (CreatePolicy targets hours at retain add) = AllByRecursion HasTexts targets × AllByRecursion HasTexts add
IsHeld (GetPolicy key) = IsPolicy key
IsHeld (DeletePolicy key) = IsPolicy key
IsHeld (RunPolicy key) = IsPolicy key
IsHeld request = Unit {0}

-- the message's call is the request itself
abbrev pub IsReached : Type 0
IsReached = (account : ℕ) (request : Request) → account < 10 ^ 12 → bad_member request ≡ None → IsHeld request
    → call_of (message_of account request) ≡ Ok (record { account = account; request = request })

-- a change of permissions that any message asks for is within its limits and held
abbrev pub AreChangesHeld : Type 0
AreChangesHeld = (message : Message) (account : ℕ) (key : SnapKey) (add : List ℕ) (add_all : Bool) (remove : List ℕ) (remove_all : Bool)
    → call_of message ≡ Ok (record { account = account; request = ModifyPermission key add add_all remove remove_all })
    → (account < 10 ^ 12) × (bad_member (ModifyPermission key add add_all remove remove_all) ≡ None) × IsHeld (ModifyPermission key add add_all remove remove_all)

-- a read of block 3 of the first snapshot of account 1, as it goes over the wire
abbrev pub IsRead : Type 0
IsRead = message_of 1 (GetSnapshotBlock (record { account = 1; number = 0 }) 3 (codes "a token")) ≡ record {
  method = codes "GET";
  target = codes "/snapshots/snap-00000000010000000/blocks/3?blockToken=a+token";
  headers = record { name = codes "x-ebs-account"; value = codes "000000000001" } ∷ [];
  body = [];
}

-- the second page of a list
abbrev pub IsPaged : Type 0
IsPaged = message_of 1 (ListSnapshotBlocks (record { account = 1; number = 0 }) (Some (codes "next=")) 100 0) ≡ record {
  method = codes "GET";
  target = codes "/snapshots/snap-00000000010000000/blocks?pageToken=next%3D&maxResults=100&startingBlockIndex=0";
  headers = record { name = codes "x-ebs-account"; value = codes "000000000001" } ∷ [];
  body = [];
}

-- a snapshot is shared with two accounts, and no longer with everybody
abbrev pub IsShared : Type 0
IsShared = message_of 1 (ModifyPermission (record { account = 1; number = 0 }) (2 ∷ 34 ∷ []) false [] true) ≡ record {
  method = codes "PATCH";
  target = codes "/snapshots/snap-00000000010000000/permission";
  headers = record { name = codes "x-ebs-account"; value = codes "000000000001" } ∷ [];
  body = codes "{\"Add\":[\"000000000002\",\"000000000034\"],\"Remove\":\"all\"}";
}

-- a rule for snapshots with one of two tags, of the second with any value
abbrev pub IsRuled : Type 0
IsRuled = message_of 1 (CreateRule 30 (record { key = codes "team"; value = Some (codes "disks") } ∷ record { key = codes "test"; value = None } ∷ []) (Some (codes "kept a month")) None) ≡ record {
  method = codes "POST";
  target = codes "/rules";
  headers = record { name = codes "x-ebs-account"; value = codes "000000000001" } ∷ [];
  body = codes "{\"RetentionPeriod\":{\"RetentionPeriodValue\":30,\"RetentionPeriodUnit\":\"DAYS\"},\"ResourceType\":\"EBS_SNAPSHOT\",\"ResourceTags\":[{\"ResourceTagKey\":\"team\",\"ResourceTagValue\":\"disks\"},{\"ResourceTagKey\":\"test\"}],\"Description\":\"kept a month\"}";
}

-- and one for all snapshots of the account, locked, so that its unlock waits for a week
abbrev pub IsRuledForAll : Type 0
IsRuledForAll = message_of 1 (CreateRule 365 [] None (Some 7)) ≡ record {
  method = codes "POST";
  target = codes "/rules";
  headers = record { name = codes "x-ebs-account"; value = codes "000000000001" } ∷ [];
  body = codes "{\"RetentionPeriod\":{\"RetentionPeriodValue\":365,\"RetentionPeriodUnit\":\"DAYS\"},\"ResourceType\":\"EBS_SNAPSHOT\",\"ResourceTags\":[],\"LockConfiguration\":{\"UnlockDelay\":{\"UnlockDelayValue\":7,\"UnlockDelayUnit\":\"DAYS\"}}}";
}

-- a policy: every day at half past three, seven snapshots of each volume of a team, which get a tag
abbrev pub IsScheduled : Type 0
IsScheduled = message_of 1 (CreatePolicy (record { key = codes "team"; value = codes "disks" } ∷ []) 24 12600 (retain.Count 7) (record { key = codes "by"; value = codes "policy" } ∷ [])) ≡ record {
  method = codes "POST";
  target = codes "/policies";
  headers = record { name = codes "x-ebs-account"; value = codes "000000000001" } ∷ [];
  body = codes "{\"TargetTags\":[{\"Key\":\"team\",\"Value\":\"disks\"}],\"Schedule\":{\"Interval\":24,\"IntervalUnit\":\"HOURS\",\"Times\":[\"03:30\"]},\"RetainRule\":{\"Count\":7},\"TagsToAdd\":[{\"Key\":\"by\",\"Value\":\"policy\"}]}";
}

-- and one that keeps each snapshot for a year
abbrev pub IsAged : Type 0
IsAged = message_of 1 (CreatePolicy (record { key = codes "team"; value = [] } ∷ []) 12 86340 (retain.Years 1) []) ≡ record {
  method = codes "POST";
  target = codes "/policies";
  headers = record { name = codes "x-ebs-account"; value = codes "000000000001" } ∷ [];
  body = codes "{\"TargetTags\":[{\"Key\":\"team\",\"Value\":\"\"}],\"Schedule\":{\"Interval\":12,\"IntervalUnit\":\"HOURS\",\"Times\":[\"23:59\"]},\"RetainRule\":{\"Interval\":1,\"IntervalUnit\":\"YEARS\"},\"TagsToAdd\":[]}";
}
