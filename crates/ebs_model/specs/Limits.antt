-- The limits of a request's fields, whatever the machine (EBS direct APIs reference, the parameters of each action).
use Rattle.std.specs.Prelude.{ℕ, Bool, ◌&&◌, nat_le, true, Option, None, Some, List, length, nat_eq, not, [], ◌∷◌, ◌^◌, nat_lt, false, codes, ◌==◌, ◌%◌}
use Rattle.std.specs.List.{list_any, list_all}
use Rattle.std.specs.Cmp.Lexicographic.{pointwise}
use Rattle.ebs_model.specs.declared.keys.SnapKey.{SnapKey}
use Rattle.ebs_model.specs.declared.tags.Tag.{Tag}
use Rattle.ebs_model.specs.declared.rules.RuleTag.{RuleTag}
use Rattle.ebs_model.specs.declared.lock.LockMode.{LockMode}
use Rattle.ebs_model.specs.declared.lock.LockMode.TheVariants.{Governance, Compliance}
use Rattle.ebs_model.specs.declared.lock.Term.{Term}
use Rattle.ebs_model.specs.declared.lock.Term.TheVariants.{Days, Date}
use Rattle.ebs_model.specs.declared.policy.Retain.{Retain}
use Rattle.ebs_model.specs.declared.policy.Retain.TheVariants as retain
use Rattle.ebs_model.specs.declared.request.Request.{Request}
use Rattle.ebs_model.specs.declared.request.Request.TheVariants.{StartSnapshot, PutSnapshotBlock, CompleteSnapshot, ListSnapshotBlocks, ListChangedBlocks, GetSnapshotBlock, DescribeSnapshot, DescribeSnapshots, DeleteSnapshot, ModifyPermission, LockSnapshot, UnlockSnapshot, ArchiveSnapshot, RestoreTier, CreateVolume, CreateSnapshot, WriteVolumeBlock, ReadVolumeBlock, DescribeVolume, DeleteVolume, CreateRule, GetRule, UpdateRule, DeleteRule, ListRules, LockRule, UnlockRule, ListBin, RestoreFromBin, CreatePolicy, GetPolicy, DeletePolicy, RunPolicy}
use Rattle.ebs_model.specs.Quotas.{block_size}

-- the greatest size of an image, in GiB
abbrev pub most_gib : ℕ
most_gib = 16384

abbrev pub is_size : ℕ → Bool
is_size size = nat_le 1 size && nat_le size most_gib

abbrev pub is_size_given : Option ℕ → Bool
is_size_given None = true
is_size_given (Some size) = is_size size

-- 0 to 255 bytes
abbrev pub is_description : Option (List ℕ) → Bool
is_description None = true
is_description (Some text) = nat_le (length text) 255

abbrev pub is_tag : Tag → Bool
is_tag tag = nat_le 1 (length tag.key) && (nat_le (length tag.key) 128 && nat_le (length tag.value) 256)

abbrev pub has_key : List ℕ → List Tag → Bool
has_key key tags = list_any (λ tag. pointwise nat_eq tag.key key) tags

abbrev pub has_distinct_keys : List Tag → Bool
has_distinct_keys [] = true
has_distinct_keys (tag ∷ tags) = not (has_key tag.key tags) && has_distinct_keys tags

-- at most 50, each within its limits, no key twice
abbrev pub are_tags : List Tag → Bool
are_tags tags = nat_le (length tags) 50 && (list_all is_tag tags && has_distinct_keys tags)

-- 10 to 4320 minutes
abbrev pub is_timeout : ℕ → Bool
is_timeout minutes = nat_le 10 minutes && nat_le minutes 4320

-- what ten decimal digits can say
abbrev pub has_ten_digits : ℕ → Bool
has_ten_digits n = nat_lt n (10 ^ 10)

-- nothing where the test holds, else the member's name
abbrev pub unless : Bool → List ℕ → Option (List ℕ) → Option (List ℕ)
unless true name next = next
unless false name next = Some name

abbrev pub is_visible : ℕ → Bool
is_visible byte = nat_le 0x21 byte && nat_le byte 0x7e

-- 1 to 255 bytes that are visible in ASCII
abbrev pub is_client_token : List ℕ → Bool
is_client_token text = nat_le 1 (length text) && (nat_le (length text) 255 && list_all is_visible text)

abbrev pub is_token_given : Option (List ℕ) → Bool
is_token_given None = true
is_token_given (Some text) = is_client_token text

abbrev pub bad_start : Option (List ℕ) → List Tag → Option (List ℕ) → ℕ → Option (List ℕ)
bad_start description tags token timeout =
    unless (is_description description) (codes "Description")
    (unless (are_tags tags) (codes "Tags") (unless (is_token_given token) (codes "ClientToken") (unless (is_timeout timeout) (codes "Timeout") None)))

abbrev pub bad_put : ℕ → ℕ → Option (List ℕ)
bad_put index size = unless (has_ten_digits index) (codes "blockIndex") (unless (size == block_size) (codes "body") None)

-- a page has 100 to 10000 entries
abbrev pub is_page_size : ℕ → Bool
is_page_size most = nat_le 100 most && nat_le most 10000

abbrev pub bad_list : ℕ → ℕ → Option (List ℕ)
bad_list most start = unless (is_page_size most) (codes "maxResults") (unless (has_ten_digits start) (codes "startingBlockIndex") None)

-- a list of rows has 1 to 1000 of them, from a number on that a snapshot can have
abbrev pub bad_rows : ℕ → ℕ → Option (List ℕ)
bad_rows from most = unless (nat_lt from (2 ^ 28)) (codes "from") (unless (nat_le 1 most && nat_le most 1000) (codes "max") None)

abbrev pub is_below : ℕ → List ℕ → Bool
is_below account [] = true
is_below account (next ∷ accounts) = nat_lt account next

-- each is below the next
abbrev pub rises : List ℕ → Bool
rises [] = true
rises (account ∷ accounts) = is_below account accounts && rises accounts

-- at most 1000 accounts, ascending and each once
abbrev pub are_accounts : List ℕ → Bool
are_accounts accounts = nat_le (length accounts) 1000 && rises accounts

-- no account is in both
abbrev pub are_apart : List ℕ → List ℕ → Bool
are_apart add remove = list_all (λ a. not (list_any (λ b. b == a) remove)) add

abbrev pub bad_permission : List ℕ → Bool → List ℕ → Bool → Option (List ℕ)
bad_permission add add_all remove remove_all =
    unless (are_accounts add) (codes "Add") (unless (are_accounts remove && (are_apart add remove && not (add_all && remove_all))) (codes "Remove") None)

-- 1 to 36500 days; the bounds of a date depend on the moment
abbrev pub is_term : Term → Bool
is_term (Days days) = nat_le 1 days && nat_le days 36500
is_term (Date date) = true

-- a cool-off has 1 to 72 hours and is for compliance alone
abbrev pub is_cool_off : LockMode → Option ℕ → Bool
is_cool_off mode None = true
is_cool_off Governance (Some hours) = false
is_cool_off Compliance (Some hours) = nat_le 1 hours && nat_le hours 72

abbrev pub bad_lock : LockMode → Term → Option ℕ → Option (List ℕ)
bad_lock mode term cool_hours = unless (is_term term) (codes "LockDuration") (unless (is_cool_off mode cool_hours) (codes "CoolOffPeriod") None)

-- for good, or for 1 to 180 days
abbrev pub is_restore : Option ℕ → Bool
is_restore None = true
is_restore (Some days) = nat_le 1 days && nat_le days 180

-- a volume has a size, or that of its origin
abbrev pub is_sized : Option SnapKey → Option ℕ → Bool
is_sized None None = false
is_sized None (Some size) = true
is_sized (Some origin) size = true

abbrev pub bad_create : Option SnapKey → Option ℕ → List Tag → Option (List ℕ) → Option (List ℕ)
bad_create origin size tags token =
    unless (is_sized origin size) (codes "Size") (unless (are_tags tags) (codes "Tags") (unless (is_token_given token) (codes "ClientToken") None))

abbrev pub bad_snapshot : Option (List ℕ) → List Tag → Option (List ℕ)
bad_snapshot description tags = unless (is_description description) (codes "Description") (unless (are_tags tags) (codes "Tags") None)

-- a snapshot stays in the bin for 1 to 365 days
abbrev pub is_retention : ℕ → Bool
is_retention days = nat_le 1 days && nat_le days 365

abbrev pub is_retention_given : Option ℕ → Bool
is_retention_given None = true
is_retention_given (Some days) = is_retention days

-- 0 to 256 bytes, where a value is asked for
abbrev pub is_rule_value : Option (List ℕ) → Bool
is_rule_value None = true
is_rule_value (Some value) = nat_le (length value) 256

abbrev pub is_rule_tag : RuleTag → Bool
is_rule_tag tag = nat_le 1 (length tag.key) && (nat_le (length tag.key) 128 && is_rule_value tag.value)

abbrev pub has_rule_key : List ℕ → List RuleTag → Bool
has_rule_key key tags = list_any (λ tag. pointwise nat_eq tag.key key) tags

abbrev pub has_distinct_rule_keys : List RuleTag → Bool
has_distinct_rule_keys [] = true
has_distinct_rule_keys (tag ∷ tags) = not (has_rule_key tag.key tags) && has_distinct_rule_keys tags

-- at most 50, each within its limits, no key twice
abbrev pub are_rule_tags : List RuleTag → Bool
are_rule_tags tags = nat_le (length tags) 50 && (list_all is_rule_tag tags && has_distinct_rule_keys tags)

abbrev pub are_rule_tags_given : Option (List RuleTag) → Bool
are_rule_tags_given None = true
are_rule_tags_given (Some tags) = are_rule_tags tags

-- an unlock waits for 7 to 30 days
abbrev pub is_delay : ℕ → Bool
is_delay days = nat_le 7 days && nat_le days 30

-- only a rule of the whole account begins with a lock
abbrev pub is_first_delay : List RuleTag → Option ℕ → Bool
is_first_delay tags None = true
is_first_delay [] (Some delay) = is_delay delay
is_first_delay (tag ∷ tags) (Some delay) = false

abbrev pub bad_rule : ℕ → List RuleTag → Option (List ℕ) → Option ℕ → Option (List ℕ)
bad_rule days tags description delay =
    unless (is_retention days) (codes "RetentionPeriod")
    (unless (are_rule_tags tags) (codes "ResourceTags") (unless (is_description description) (codes "Description") (unless (is_first_delay tags delay) (codes "LockConfiguration") None)))

abbrev pub bad_update : Option ℕ → Option (List RuleTag) → Option (List ℕ) → Option (List ℕ)
bad_update days tags description =
    unless (is_retention_given days) (codes "RetentionPeriod") (unless (are_rule_tags_given tags) (codes "ResourceTags") (unless (is_description description) (codes "Description") None))

-- 1 to 50 tags
abbrev pub are_targets : List Tag → Bool
are_targets tags = nat_le 1 (length tags) && are_tags tags

-- a day has a whole number of intervals of so many hours
abbrev pub is_interval : ℕ → Bool
is_interval hours = list_any (λ n. n == hours) (1 ∷ 2 ∷ 3 ∷ 4 ∷ 6 ∷ 8 ∷ 12 ∷ 24 ∷ [])

-- a whole minute of a day, in seconds
abbrev pub is_time_of_day : ℕ → Bool
is_time_of_day at = nat_lt at 86400 && at % 60 == 0

abbrev pub is_schedule : ℕ → ℕ → Bool
is_schedule hours at = is_interval hours && is_time_of_day at

-- so many snapshots of a volume, or an age
abbrev pub is_retain : Retain → Bool
is_retain (retain.Count n) = nat_le 1 n && nat_le n 1000
is_retain (retain.Days n) = nat_le 1 n && nat_le n 36500
is_retain (retain.Weeks n) = nat_le 1 n && nat_le n 5200
is_retain (retain.Months n) = nat_le 1 n && nat_le n 1200
is_retain (retain.Years n) = nat_le 1 n && nat_le n 100

abbrev pub bad_policy : List Tag → ℕ → ℕ → Retain → List Tag → Option (List ℕ)
bad_policy targets hours at kept add =
    unless (are_targets targets) (codes "TargetTags")
    (unless (is_schedule hours at) (codes "Schedule") (unless (is_retain kept) (codes "RetainRule") (unless (are_tags add) (codes "TagsToAdd") None)))

-- the first member outside its limits
abbrev pub bad_member : Request → Option (List ℕ)
bad_member (StartSnapshot size parent description tags token timeout) = bad_start description tags token timeout
bad_member (PutSnapshotBlock key index digest bytes) = bad_put index (length bytes)
bad_member (CompleteSnapshot key count checksum) = unless (has_ten_digits count) (codes "x-amz-ChangedBlocksCount") None
bad_member (ListSnapshotBlocks key page most start) = bad_list most start
bad_member (ListChangedBlocks first second page most start) = bad_list most start
bad_member (GetSnapshotBlock key index token) = unless (has_ten_digits index) (codes "blockIndex") None
bad_member (DescribeSnapshot key) = None
bad_member (DescribeSnapshots from most) = bad_rows from most
bad_member (DeleteSnapshot key) = None
bad_member (ModifyPermission key add add_all remove remove_all) = bad_permission add add_all remove remove_all
bad_member (LockSnapshot key mode term cool_hours) = bad_lock mode term cool_hours
bad_member (UnlockSnapshot key) = None
bad_member (ArchiveSnapshot key) = None
bad_member (RestoreTier key days) = unless (is_restore days) (codes "TemporaryRestoreDays") None
bad_member (CreateVolume origin size tags token) = bad_create origin size tags token
bad_member (CreateSnapshot key description tags) = bad_snapshot description tags
bad_member (WriteVolumeBlock key index digest bytes) = bad_put index (length bytes)
bad_member (ReadVolumeBlock key index) = unless (has_ten_digits index) (codes "blockIndex") None
bad_member (DescribeVolume key) = None
bad_member (DeleteVolume key) = None
bad_member (CreateRule days tags description delay) = bad_rule days tags description delay
bad_member (GetRule key) = None
bad_member (UpdateRule key days tags description) = bad_update days tags description
bad_member (DeleteRule key) = None
bad_member ListRules = None
bad_member (LockRule key delay) = unless (is_delay delay) (codes "LockConfiguration") None
bad_member (UnlockRule key) = None
bad_member (ListBin from most) = bad_rows from most
bad_member (RestoreFromBin key) = None
bad_member (CreatePolicy targets hours at kept add) = bad_policy targets hours at kept add
bad_member (GetPolicy key) = None
bad_member (DeletePolicy key) = None
bad_member (RunPolicy key) = None
