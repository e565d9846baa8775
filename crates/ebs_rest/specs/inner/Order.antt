-- The members of each call as a table, and that the first bad one is the one that is named.
use Rattle.std.specs.Prelude.{ℕ, Bool, List, [], ◌∷◌, Option, Some, None, if◌then◌else◌, Result, Ok, Err, is_some, codes, ◌==◌, length, false, ◌++◌, ◌≡◌}
use Rattle.std.specs.Option.{option_and_then, unwrap_or}
use Rattle.serde_json.specs.Data.{Data}
use Rattle.ebs_model.specs.declared.answer.Refusal.{Refusal}
use Rattle.ebs_model.specs.declared.answer.Refusal.TheVariants.{BadParameter}
use Rattle.ebs_model.specs.declared.keys.SnapKey.{SnapKey}
use Rattle.ebs_model.specs.declared.keys.VolKey.{VolKey}
use Rattle.ebs_model.specs.declared.lock.LockMode.{LockMode}
use Rattle.ebs_model.specs.Limits.{bad_member}
use Rattle.ebs_members.specs.declared.kinds.Named.{Named}
use Rattle.ebs_members.specs.declared.kinds.Spell.TheVariants.{CoolHours, LockDays, RestoreDays}
use Rattle.ebs_members.specs.Sources.{Given, Members, if_any, in_body, body_of}
use Rattle.ebs_members.specs.Kinds as kind
use Rattle.ebs_rest.specs.Calls as call
use Rattle.ebs_model.specs.Quotas.{block_size}

-- members by name, in the order in which they are tried, each with whether it is good
abbrev pub Tried : Type 0
Tried = List (List ℕ × Bool)

abbrev pub first_bad : Tried → Option (List ℕ)
first_bad [] = None
first_bad (member ∷ others) = if member.1 then first_bad others else Some member.0

-- the member that a refusal names
abbrev pub named : Refusal → Option (List ℕ)
named (BadParameter name) = Some name
named _ = None

abbrev pub refused_for : {A : Type 0} → Result A Refusal → Option (List ℕ)
refused_for (Ok x) = None
refused_for (Err refusal) = named refusal

abbrev pub must : {A : Type 0} → Members → List ℕ → (Given → Option A) → List ℕ × Bool
must source name kind = (name, is_some (option_and_then kind (source name)))

abbrev pub may : {A : Type 0} → Members → List ℕ → (Given → Option A) → List ℕ × Bool
may source name kind = (name, is_some (if_any kind (source name)))

abbrev pub start_members : Members → Tried
start_members body =
    must body (codes "VolumeSize") kind.number
    ∷ may body (codes "ParentSnapshotId") kind.snapshot
    ∷ may body (codes "Description") kind.description
    ∷ may body (codes "Tags") kind.tags
    ∷ may body (codes "ClientToken") kind.token
    ∷ may body (codes "Timeout") (kind.number_within 10 4320)
    ∷ may body (codes "Encrypted") kind.only_false
    ∷ may body (codes "KmsKeyArn") kind.absent
    ∷ []

abbrev pub digest_members : Members → List ℕ → Tried
digest_members fields body =
    must fields (codes "x-amz-Data-Length") (kind.exactly (codes "524288"))
    ∷ must fields (codes "x-amz-Checksum") kind.digest
    ∷ must fields (codes "x-amz-Checksum-Algorithm") (kind.exactly (codes "SHA256"))
    ∷ may fields (codes "x-amz-Progress") (kind.number_within 0 100)
    ∷ (codes "body", length body == block_size)
    ∷ []

abbrev pub put_members : Members → Members → List ℕ → Tried
put_members path fields body =
    must path (codes "snapshotId") kind.snapshot
    ∷ must path (codes "blockIndex") kind.index
    ∷ digest_members fields body

-- these are read with a checksum alone
abbrev pub stated_members : Members → Option (Option (List ℕ)) → Tried
stated_members fields None = []
stated_members fields (Some None) = []
stated_members fields (Some (Some checksum)) =
    may fields (codes "x-amz-Checksum-Algorithm") (kind.exactly (codes "SHA256"))
    ∷ may fields (codes "x-amz-Checksum-Aggregation-Method") (kind.exactly (codes "LINEAR"))
    ∷ []

abbrev pub complete_members : Members → Members → Tried
complete_members path fields =
    must path (codes "snapshotId") kind.snapshot
    ∷ must fields (codes "x-amz-ChangedBlocksCount") kind.index
    ∷ may fields (codes "x-amz-Checksum") kind.digest
    ∷ stated_members fields (if_any kind.digest (fields (codes "x-amz-Checksum")))

abbrev pub get_members : Members → Members → Tried
get_members path query =
    must path (codes "snapshotId") kind.snapshot
    ∷ must path (codes "blockIndex") kind.index
    ∷ must query (codes "blockToken") kind.any_text
    ∷ []

abbrev pub page_members : Members → Tried
page_members query =
    may query (codes "pageToken") kind.any_text
    ∷ may query (codes "maxResults") (kind.number_within 100 10000)
    ∷ may query (codes "startingBlockIndex") kind.index
    ∷ []

abbrev pub list_members : Members → Members → Tried
list_members path query = must path (codes "snapshotId") kind.snapshot ∷ page_members query

abbrev pub changed_members : Members → Members → Tried
changed_members path query =
    must query (codes "firstSnapshotId") kind.snapshot
    ∷ must path (codes "secondSnapshotId") kind.snapshot
    ∷ page_members query

abbrev pub describe_members : Members → Tried
describe_members path = must path (codes "snapshotId") kind.snapshot ∷ []

abbrev pub rows_members : Members → Tried
rows_members query = may query (codes "from") (kind.number_within 0 268435455) ∷ may query (codes "max") (kind.number_within 1 1000) ∷ []

abbrev pub limit_of : Option (List ℕ) → Tried
limit_of None = []
limit_of (Some name) = (name, false) ∷ []

-- the request's own limits are tried last
abbrev pub limit_members : SnapKey → Option (Option Named) → Option (Option Named) → Tried
limit_members key None remove = []
limit_members key (Some add) None = []
limit_members key (Some add) (Some remove) = limit_of (bad_member (call.permission key (unwrap_or add kind.nobody) (unwrap_or remove kind.nobody)))

-- these are read with a key and a body alone
abbrev pub named_members : Option SnapKey → Option Data → Tried
named_members None body = []
named_members (Some key) None = []
named_members (Some key) (Some body) =
    may (in_body body) (codes "Add") kind.named
    ∷ may (in_body body) (codes "Remove") kind.named
    ∷ limit_members key (if_any kind.named (in_body body (codes "Add"))) (if_any kind.named (in_body body (codes "Remove")))

abbrev pub permission_members : Members → List ℕ → Tried
permission_members path bytes =
    must path (codes "snapshotId") kind.snapshot
    ∷ (codes "body", is_some (body_of bytes))
    ∷ named_members (option_and_then kind.snapshot (path (codes "snapshotId"))) (body_of bytes)

abbrev pub in_object : (Members → Tried) → Option Data → Tried
in_object others None = []
in_object others (Some body) = others (in_body body)

-- a body that is an object, and its members
abbrev pub object_members : List ℕ → (Members → Tried) → Tried
object_members bytes others = (codes "body", is_some (body_of bytes)) ∷ in_object others (body_of bytes)

-- the same behind a path's key
abbrev pub behind_object : Members → List ℕ → (Members → Tried) → Tried
behind_object path bytes others = must path (codes "snapshotId") kind.snapshot ∷ object_members bytes others

-- with neither of two the first is named, with both the second
abbrev pub one_of : {A B : Type 0} → List ℕ → List ℕ → Option (Option A) → Option (Option B) → Tried
one_of first second (Some None) (Some None) = (first, false) ∷ []
one_of first second (Some (Some x)) (Some (Some y)) = (second, false) ∷ []
one_of first second x y = []

abbrev pub cool_members : Members → Option LockMode → Tried
cool_members body None = []
cool_members body (Some mode) = may body (codes "CoolOffPeriod") (kind.spell (CoolHours mode)) ∷ []

abbrev pub lock_members : Members → Tried
lock_members body =
    must body (codes "LockMode") kind.lock_mode
    ∷ may body (codes "LockDuration") (kind.spell LockDays)
    ∷ may body (codes "ExpirationDate") kind.number
    ∷ one_of (codes "LockDuration") (codes "ExpirationDate") (if_any (kind.spell LockDays) (body (codes "LockDuration"))) (if_any kind.number (body (codes "ExpirationDate")))
    ++ cool_members body (option_and_then kind.lock_mode (body (codes "LockMode")))

abbrev pub tier_members : Members → Tried
tier_members body = must body (codes "StorageTier") (kind.exactly (codes "archive")) ∷ []

-- `false` counts as absent
abbrev pub if_true : Option (Option Bool) → Option (Option (Unit {0}))
if_true None = None
if_true (Some None) = Some None
if_true (Some (Some b)) = Some (kind.good_if b)

abbrev pub restore_members : Members → Tried
restore_members body =
    may body (codes "TemporaryRestoreDays") (kind.spell RestoreDays)
    ∷ may body (codes "PermanentRestore") kind.bool_in
    ∷ one_of (codes "TemporaryRestoreDays") (codes "PermanentRestore") (if_any (kind.spell RestoreDays) (body (codes "TemporaryRestoreDays"))) (if_true (if_any kind.bool_in (body (codes "PermanentRestore"))))

-- without a snapshot there is a size
abbrev pub size_member : Option (Option SnapKey) → Option (Option ℕ) → Tried
size_member (Some None) (Some None) = (codes "Size", false) ∷ []
size_member origin size = []

abbrev pub create_members : Members → Tried
create_members body =
    may body (codes "SnapshotId") kind.snapshot
    ∷ may body (codes "Size") kind.number
    ∷ size_member (if_any kind.snapshot (body (codes "SnapshotId"))) (if_any kind.number (body (codes "Size")))
    ++ (may body (codes "Tags") kind.tags ∷ may body (codes "ClientToken") kind.token ∷ [])

abbrev pub volume_members : Members → Tried
volume_members path = must path (codes "volumeId") kind.volume ∷ []

abbrev pub snapshot_members : Members → Tried
snapshot_members body = may body (codes "Description") kind.description ∷ may body (codes "Tags") kind.tags ∷ []

abbrev pub read_members : Members → Tried
read_members path = must path (codes "volumeId") kind.volume ∷ must path (codes "blockIndex") kind.index ∷ []

-- whatever is bad, the first bad member of the table is named, and a later one never
abbrev pub StartNames : Type 0
StartNames = (body : Members) → refused_for (call.start_of body) ≡ first_bad (start_members body)

abbrev pub PutNames : Type 0
PutNames = (path fields : Members) (body : List ℕ) → refused_for (call.put_block path fields body) ≡ first_bad (put_members path fields body)

abbrev pub CompleteNames : Type 0
CompleteNames = (path fields : Members) → refused_for (call.complete path fields) ≡ first_bad (complete_members path fields)

abbrev pub GetNames : Type 0
GetNames = (path query : Members) → refused_for (call.get_block path query) ≡ first_bad (get_members path query)

abbrev pub ListNames : Type 0
ListNames = (path query : Members) → refused_for (call.list_blocks path query) ≡ first_bad (list_members path query)

abbrev pub ChangedNames : Type 0
ChangedNames = (path query : Members) → refused_for (call.list_changed path query) ≡ first_bad (changed_members path query)

abbrev pub DescribeNames : Type 0
DescribeNames = (path : Members) → refused_for (call.describe path) ≡ first_bad (describe_members path)

abbrev pub RowsNames : Type 0
RowsNames = (query : Members) → refused_for (call.describe_all query) ≡ first_bad (rows_members query)

abbrev pub PermissionNames : Type 0
PermissionNames = (path : Members) (bytes : List ℕ) → refused_for (call.modify_permission path bytes) ≡ first_bad (permission_members path bytes)

abbrev pub DeleteNames : Type 0
DeleteNames = (path : Members) → refused_for (call.delete path) ≡ first_bad (describe_members path)

abbrev pub LockNames : Type 0
LockNames = (path : Members) (bytes : List ℕ) → refused_for (call.lock path bytes) ≡ first_bad (behind_object path bytes lock_members)

abbrev pub UnlockNames : Type 0
UnlockNames = (path : Members) → refused_for (call.unlock path) ≡ first_bad (describe_members path)

abbrev pub ArchiveNames : Type 0
ArchiveNames = (path : Members) (bytes : List ℕ) → refused_for (call.archive path bytes) ≡ first_bad (behind_object path bytes tier_members)

abbrev pub RestoreNames : Type 0
RestoreNames = (path : Members) (bytes : List ℕ) → refused_for (call.restore path bytes) ≡ first_bad (behind_object path bytes restore_members)

abbrev pub CreateNames : Type 0
CreateNames = (bytes : List ℕ) → refused_for (call.create bytes) ≡ first_bad (object_members bytes create_members)

abbrev pub CreateSnapshotNames : Type 0
CreateSnapshotNames = (path : Members) (bytes : List ℕ) → refused_for (call.create_snapshot path bytes) ≡ first_bad (volume_members path ++ object_members bytes snapshot_members)

abbrev pub WriteBlockNames : Type 0
WriteBlockNames = (path fields : Members) (body : List ℕ) → refused_for (call.write_block path fields body) ≡ first_bad (read_members path ++ digest_members fields body)

abbrev pub ReadBlockNames : Type 0
ReadBlockNames = (path : Members) → refused_for (call.read_block path) ≡ first_bad (read_members path)

abbrev pub DescribeVolumeNames : Type 0
DescribeVolumeNames = (path : Members) → refused_for (call.describe_volume path) ≡ first_bad (volume_members path)

abbrev pub DeleteVolumeNames : Type 0
DeleteVolumeNames = (path : Members) → refused_for (call.delete_volume path) ≡ first_bad (volume_members path)

-- the same is found under each of these names
abbrev pub Agree : List (List ℕ) → Members → Members → Type 0
Agree [] here there = Unit {0}
Agree (name ∷ names) here there = (here name ≡ there name) × Agree names here there

abbrev pub page_names : List (List ℕ)
page_names = codes "pageToken" ∷ codes "maxResults" ∷ codes "startingBlockIndex" ∷ []

-- what stands under a name that the table doesn't list changes nothing
abbrev pub GetOthers : Type 0
GetOthers = (path other query another : Members) → Agree (codes "snapshotId" ∷ codes "blockIndex" ∷ []) path other → Agree (codes "blockToken" ∷ []) query another
    → call.get_block path query ≡ call.get_block other another

abbrev pub ListOthers : Type 0
ListOthers = (path other query another : Members) → Agree (codes "snapshotId" ∷ []) path other → Agree page_names query another
    → call.list_blocks path query ≡ call.list_blocks other another

abbrev pub ChangedOthers : Type 0
ChangedOthers = (path other query another : Members) → Agree (codes "secondSnapshotId" ∷ []) path other → Agree (codes "firstSnapshotId" ∷ page_names) query another
    → call.list_changed path query ≡ call.list_changed other another

abbrev pub DescribeOthers : Type 0
DescribeOthers = (path other : Members) → Agree (codes "snapshotId" ∷ []) path other → call.describe path ≡ call.describe other

abbrev pub RowsOthers : Type 0
RowsOthers = (query another : Members) → Agree (codes "from" ∷ codes "max" ∷ []) query another → call.describe_all query ≡ call.describe_all another

abbrev pub PermissionOthers : Type 0
PermissionOthers = (key : SnapKey) (body another : Members) → Agree (codes "Add" ∷ codes "Remove" ∷ []) body another → call.permission_of key body ≡ call.permission_of key another

abbrev pub DeleteOthers : Type 0
DeleteOthers = (path other : Members) → Agree (codes "snapshotId" ∷ []) path other → call.delete path ≡ call.delete other

abbrev pub LockOthers : Type 0
LockOthers = (key : SnapKey) (body another : Members) → Agree (codes "LockMode" ∷ codes "LockDuration" ∷ codes "ExpirationDate" ∷ codes "CoolOffPeriod" ∷ []) body another
    → call.lock_of key body ≡ call.lock_of key another

abbrev pub UnlockOthers : Type 0
UnlockOthers = (path other : Members) → Agree (codes "snapshotId" ∷ []) path other → call.unlock path ≡ call.unlock other

abbrev pub ArchiveOthers : Type 0
ArchiveOthers = (key : SnapKey) (body another : Members) → Agree (codes "StorageTier" ∷ []) body another → call.archive_of key body ≡ call.archive_of key another

abbrev pub RestoreOthers : Type 0
RestoreOthers = (key : SnapKey) (body another : Members) → Agree (codes "TemporaryRestoreDays" ∷ codes "PermanentRestore" ∷ []) body another
    → call.restore_of key body ≡ call.restore_of key another

abbrev pub CreateOthers : Type 0
CreateOthers = (body another : Members) → Agree (codes "SnapshotId" ∷ codes "Size" ∷ codes "Tags" ∷ codes "ClientToken" ∷ []) body another → call.create_of body ≡ call.create_of another

abbrev pub CreateSnapshotOthers : Type 0
CreateSnapshotOthers = (key : VolKey) (body another : Members) → Agree (codes "Description" ∷ codes "Tags" ∷ []) body another → call.snapshot_of key body ≡ call.snapshot_of key another

abbrev pub digest_names : List (List ℕ)
digest_names = codes "x-amz-Data-Length" ∷ codes "x-amz-Checksum" ∷ codes "x-amz-Checksum-Algorithm" ∷ codes "x-amz-Progress" ∷ []

abbrev pub WriteBlockOthers : Type 0
WriteBlockOthers = (path other fields another : Members) (body : List ℕ) → Agree (codes "volumeId" ∷ codes "blockIndex" ∷ []) path other → Agree digest_names fields another
    → call.write_block path fields body ≡ call.write_block other another body

abbrev pub ReadBlockOthers : Type 0
ReadBlockOthers = (path other : Members) → Agree (codes "volumeId" ∷ codes "blockIndex" ∷ []) path other → call.read_block path ≡ call.read_block other

abbrev pub DescribeVolumeOthers : Type 0
DescribeVolumeOthers = (path other : Members) → Agree (codes "volumeId" ∷ []) path other → call.describe_volume path ≡ call.describe_volume other

abbrev pub DeleteVolumeOthers : Type 0
DeleteVolumeOthers = (path other : Members) → Agree (codes "volumeId" ∷ []) path other → call.delete_volume path ≡ call.delete_volume other
