-- The first bad member is named, and others change nothing.
use Rattle.std.proofs.Common.{◌≡◌, ◌==◌, ℕ, Bool, true, false, List, [], ◌∷◌, ◌++◌, length, codes, Option, Some, None, is_some, refl, ◌∙◌}
use Rattle.std.specs.Option.{option_and_then, unwrap_or}
use Rattle.std.specs.declared.result.Result.{Result}
use Rattle.std.specs.declared.result.Result.TheVariants.{Ok, Err}
use Rattle.ebs_model.specs.declared.keys.SnapKey.{SnapKey}
use Rattle.ebs_model.specs.declared.keys.VolKey.{VolKey}
use Rattle.ebs_model.specs.declared.lock.LockMode.{LockMode}
use Rattle.ebs_model.specs.declared.lock.Term.{Term}
use Rattle.ebs_model.specs.declared.lock.Term.TheVariants.{Days, Date}
use Rattle.ebs_model.specs.declared.tags.Tag.{Tag}
use Rattle.ebs_model.specs.declared.request.Request.TheVariants.{StartSnapshot, PutSnapshotBlock, CompleteSnapshot, ListSnapshotBlocks, ListChangedBlocks, GetSnapshotBlock, DescribeSnapshot, DescribeSnapshots, DeleteSnapshot, LockSnapshot, UnlockSnapshot, ArchiveSnapshot, CreateVolume, CreateSnapshot, WriteVolumeBlock, ReadVolumeBlock, DescribeVolume, DeleteVolume}
use Rattle.ebs_model.specs.declared.request.Request.{Request}
use Rattle.ebs_model.specs.Limits.{bad_member, is_sized}
use Rattle.serde_json.specs.Data.{Data}
use Rattle.ebs_members.specs.declared.kinds.Named.{Named}
use Rattle.ebs_members.specs.declared.kinds.Spell.TheVariants.{LockDays, CoolHours, RestoreDays}
use Rattle.ebs_model.specs.declared.answer.Refusal.{Refusal}
use Rattle.ebs_model.specs.Quotas.{block_size}
use Rattle.ebs_model.specs.Refuse.{◌>>=◌, ◌>>◌}
use Rattle.ebs_members.specs.Sources.{need, refuse_unless, Members, in_body, body_of, if_any, optional}
use Rattle.ebs_members.specs.Kinds as kind
use Rattle.ebs_rest.specs.Calls as call
use Rattle.ebs_rest.specs.inner.Order.{Tried, first_bad, refused_for, digest_members, stated_members, StartNames, PutNames, CompleteNames, GetNames, ListNames, ChangedNames, GetOthers, ListOthers, ChangedOthers, limit_of, limit_members, named_members, DescribeNames, RowsNames, PermissionNames, DescribeOthers, RowsOthers, PermissionOthers, in_object, one_of, cool_members, lock_members, tier_members, if_true, restore_members, DeleteNames, LockNames, UnlockNames, ArchiveNames, RestoreNames, DeleteOthers, LockOthers, UnlockOthers, ArchiveOthers, RestoreOthers, size_member, create_members, CreateNames, snapshot_members, CreateSnapshotNames, WriteBlockNames, ReadBlockNames, DescribeVolumeNames, DeleteVolumeNames, CreateOthers, CreateSnapshotOthers, WriteBlockOthers, ReadBlockOthers, DescribeVolumeOthers, DeleteVolumeOthers}

start_named : (size : Option ℕ) (parent : Option (Option SnapKey)) (description : Option (Option (List ℕ))) (tags : Option (Option (List Tag))) (token : Option (Option (List ℕ))) (timeout : Option (Option ℕ)) (encrypted key : Option (Option (Unit {0})))
    → refused_for (need (codes "VolumeSize") size >>= λ s. need (codes "ParentSnapshotId") parent >>= λ p. need (codes "Description") description >>= λ d. need (codes "Tags") tags >>= λ t. need (codes "ClientToken") token >>= λ c. need (codes "Timeout") timeout >>= λ o. need (codes "Encrypted") encrypted >>= λ e. need (codes "KmsKeyArn") key >>= λ k. Ok (StartSnapshot s p d (unwrap_or t []) c (unwrap_or o 60)))
    ≡ first_bad ((codes "VolumeSize", is_some size) ∷ (codes "ParentSnapshotId", is_some parent) ∷ (codes "Description", is_some description) ∷ (codes "Tags", is_some tags) ∷ (codes "ClientToken", is_some token) ∷ (codes "Timeout", is_some timeout) ∷ (codes "Encrypted", is_some encrypted) ∷ (codes "KmsKeyArn", is_some key) ∷ [])
start_named None parent description tags token timeout encrypted key = refl
start_named (Some s) None description tags token timeout encrypted key = refl
start_named (Some s) (Some p) None tags token timeout encrypted key = refl
start_named (Some s) (Some p) (Some d) None token timeout encrypted key = refl
start_named (Some s) (Some p) (Some d) (Some t) None timeout encrypted key = refl
start_named (Some s) (Some p) (Some d) (Some t) (Some c) None encrypted key = refl
start_named (Some s) (Some p) (Some d) (Some t) (Some c) (Some o) None key = refl
start_named (Some s) (Some p) (Some d) (Some t) (Some c) (Some o) (Some e) None = refl
start_named (Some s) (Some p) (Some d) (Some t) (Some c) (Some o) (Some e) (Some k) = refl

pub start_names : StartNames
start_names body =
    start_named (option_and_then kind.number (body (codes "VolumeSize"))) (if_any kind.snapshot (body (codes "ParentSnapshotId")))
    (if_any kind.description (body (codes "Description"))) (if_any kind.tags (body (codes "Tags"))) (if_any kind.token (body (codes "ClientToken")))
    (if_any (kind.number_within 10 4320) (body (codes "Timeout"))) (if_any kind.only_false (body (codes "Encrypted"))) (if_any kind.absent (body (codes "KmsKeyArn")))

digest_named : (size : Option (Unit {0})) (digest : Option (List ℕ)) (algorithm : Option (Unit {0})) (progress : Option (Option ℕ)) (whole : Bool)
    → refused_for (need (codes "x-amz-Data-Length") size >> (need (codes "x-amz-Checksum") digest >>= λ d. need (codes "x-amz-Checksum-Algorithm") algorithm >> (need (codes "x-amz-Progress") progress >>= λ p. refuse_unless whole (codes "body") >> Ok d)))
    ≡ first_bad ((codes "x-amz-Data-Length", is_some size) ∷ (codes "x-amz-Checksum", is_some digest) ∷ (codes "x-amz-Checksum-Algorithm", is_some algorithm) ∷ (codes "x-amz-Progress", is_some progress) ∷ (codes "body", whole) ∷ [])
digest_named None digest algorithm progress whole = refl
digest_named (Some s) None algorithm progress whole = refl
digest_named (Some s) (Some d) None progress whole = refl
digest_named (Some s) (Some d) (Some a) None whole = refl
digest_named (Some s) (Some d) (Some a) (Some p) true = refl
digest_named (Some s) (Some d) (Some a) (Some p) false = refl

digest_names : (fields : Members) (body : List ℕ) → refused_for (call.block_digest fields body) ≡ first_bad (digest_members fields body)
digest_names fields body =
    digest_named (option_and_then (kind.exactly (codes "524288")) (fields (codes "x-amz-Data-Length"))) (option_and_then kind.digest (fields (codes "x-amz-Checksum")))
    (option_and_then (kind.exactly (codes "SHA256")) (fields (codes "x-amz-Checksum-Algorithm"))) (if_any (kind.number_within 0 100) (fields (codes "x-amz-Progress"))) (length body == block_size)

-- behind the key and the index of a block stands what its digest is refused for
put_named : {K : Type 0} (name : List ℕ) (of : K → ℕ → List ℕ → Request) (key : Option K) (index : Option ℕ) (digest : Result (List ℕ) Refusal) (others : Tried) → refused_for digest ≡ first_bad others
    → refused_for (need name key >>= λ k. need (codes "blockIndex") index >>= λ i. digest >>= λ d. Ok (of k i d))
    ≡ first_bad ((name, is_some key) ∷ (codes "blockIndex", is_some index) ∷ others)
put_named name of None index digest others h = refl
put_named name of (Some k) None digest others h = refl
put_named name of (Some k) (Some i) (Ok d) others h = h
put_named name of (Some k) (Some i) (Err r) others h = h

pub put_names : PutNames
put_names path fields body =
    put_named (codes "snapshotId") (λ k i d. PutSnapshotBlock k i d body) (option_and_then kind.snapshot (path (codes "snapshotId"))) (option_and_then kind.index (path (codes "blockIndex")))
    (call.block_digest fields body) (digest_members fields body) (digest_names fields body)

abbrev good : Result (Unit {0}) Refusal
good = Ok tt

checksum_named : (algorithm method : Option (Option (Unit {0})))
    → refused_for (need (codes "x-amz-Checksum-Algorithm") algorithm >>= λ a. need (codes "x-amz-Checksum-Aggregation-Method") method >>= λ m. good)
    ≡ first_bad ((codes "x-amz-Checksum-Algorithm", is_some algorithm) ∷ (codes "x-amz-Checksum-Aggregation-Method", is_some method) ∷ [])
checksum_named None method = refl
checksum_named (Some a) None = refl
checksum_named (Some a) (Some m) = refl

checksum_names : (fields : Members) (checksum : List ℕ) → refused_for (call.checksum_named fields) ≡ first_bad (stated_members fields (Some (Some checksum)))
checksum_names fields checksum =
    checksum_named (if_any (kind.exactly (codes "SHA256")) (fields (codes "x-amz-Checksum-Algorithm"))) (if_any (kind.exactly (codes "LINEAR")) (fields (codes "x-amz-Checksum-Aggregation-Method")))

goes_on : {B : Type 0} (want : Result (Unit {0}) Refusal) (value : B) → refused_for (want >> Ok value) ≡ refused_for want
goes_on (Ok x) value = refl
goes_on (Err r) value = refl

complete_named : (fields : Members) (key : Option SnapKey) (count : Option ℕ) (checksum : Option (Option (List ℕ)))
    → refused_for (need (codes "snapshotId") key >>= λ k. need (codes "x-amz-ChangedBlocksCount") count >>= λ n. need (codes "x-amz-Checksum") checksum >>= λ c. call.stated fields c >> Ok (CompleteSnapshot k n c))
    ≡ first_bad ((codes "snapshotId", is_some key) ∷ (codes "x-amz-ChangedBlocksCount", is_some count) ∷ (codes "x-amz-Checksum", is_some checksum) ∷ stated_members fields checksum)
complete_named fields None count checksum = refl
complete_named fields (Some k) None checksum = refl
complete_named fields (Some k) (Some n) None = refl
complete_named fields (Some k) (Some n) (Some None) = refl
complete_named fields (Some k) (Some n) (Some (Some c)) = goes_on (call.checksum_named fields) (CompleteSnapshot k n (Some c)) ∙ checksum_names fields c

pub complete_names : CompleteNames
complete_names path fields =
    complete_named fields (option_and_then kind.snapshot (path (codes "snapshotId"))) (option_and_then kind.index (fields (codes "x-amz-ChangedBlocksCount")))
    (if_any kind.digest (fields (codes "x-amz-Checksum")))

get_named : (key : Option SnapKey) (index : Option ℕ) (token : Option (List ℕ))
    → refused_for (need (codes "snapshotId") key >>= λ k. need (codes "blockIndex") index >>= λ i. need (codes "blockToken") token >>= λ t. Ok (GetSnapshotBlock k i t))
    ≡ first_bad ((codes "snapshotId", is_some key) ∷ (codes "blockIndex", is_some index) ∷ (codes "blockToken", is_some token) ∷ [])
get_named None index token = refl
get_named (Some k) None token = refl
get_named (Some k) (Some i) None = refl
get_named (Some k) (Some i) (Some t) = refl

pub get_names : GetNames
get_names path query =
    get_named (option_and_then kind.snapshot (path (codes "snapshotId"))) (option_and_then kind.index (path (codes "blockIndex")))
    (option_and_then kind.any_text (query (codes "blockToken")))

list_named : (key : Option SnapKey) (page : Option (Option (List ℕ))) (most start : Option (Option ℕ))
    → refused_for (need (codes "snapshotId") key >>= λ k. need (codes "pageToken") page >>= λ p. need (codes "maxResults") most >>= λ m. need (codes "startingBlockIndex") start >>= λ s. Ok (ListSnapshotBlocks k p (unwrap_or m 1000) (unwrap_or s 0)))
    ≡ first_bad ((codes "snapshotId", is_some key) ∷ (codes "pageToken", is_some page) ∷ (codes "maxResults", is_some most) ∷ (codes "startingBlockIndex", is_some start) ∷ [])
list_named None page most start = refl
list_named (Some k) None most start = refl
list_named (Some k) (Some p) None start = refl
list_named (Some k) (Some p) (Some m) None = refl
list_named (Some k) (Some p) (Some m) (Some s) = refl

pub list_names : ListNames
list_names path query =
    list_named (option_and_then kind.snapshot (path (codes "snapshotId"))) (if_any kind.any_text (query (codes "pageToken")))
    (if_any (kind.number_within 100 10000) (query (codes "maxResults"))) (if_any kind.index (query (codes "startingBlockIndex")))

changed_named : (first second : Option SnapKey) (page : Option (Option (List ℕ))) (most start : Option (Option ℕ))
    → refused_for (need (codes "firstSnapshotId") first >>= λ f. need (codes "secondSnapshotId") second >>= λ k. need (codes "pageToken") page >>= λ p. need (codes "maxResults") most >>= λ m. need (codes "startingBlockIndex") start >>= λ s. Ok (ListChangedBlocks f k p (unwrap_or m 1000) (unwrap_or s 0)))
    ≡ first_bad ((codes "firstSnapshotId", is_some first) ∷ (codes "secondSnapshotId", is_some second) ∷ (codes "pageToken", is_some page) ∷ (codes "maxResults", is_some most) ∷ (codes "startingBlockIndex", is_some start) ∷ [])
changed_named None second page most start = refl
changed_named (Some f) None page most start = refl
changed_named (Some f) (Some k) None most start = refl
changed_named (Some f) (Some k) (Some p) None start = refl
changed_named (Some f) (Some k) (Some p) (Some m) None = refl
changed_named (Some f) (Some k) (Some p) (Some m) (Some s) = refl

pub changed_names : ChangedNames
changed_names path query =
    changed_named (option_and_then kind.snapshot (query (codes "firstSnapshotId"))) (option_and_then kind.snapshot (path (codes "secondSnapshotId")))
    (if_any kind.any_text (query (codes "pageToken"))) (if_any (kind.number_within 100 10000) (query (codes "maxResults"))) (if_any kind.index (query (codes "startingBlockIndex")))

-- a call of one key
pub key_named : {K : Type 0} (name : List ℕ) (of : K → Request) (key : Option K)
    → refused_for (need name key >>= λ k. Ok (of k)) ≡ first_bad ((name, is_some key) ∷ [])
key_named name of None = refl
key_named name of (Some k) = refl

pub describe_names : DescribeNames
describe_names path = key_named (codes "snapshotId") DescribeSnapshot (option_and_then kind.snapshot (path (codes "snapshotId")))

abbrev rows_with : Option ℕ → Option ℕ → Result (ℕ × ℕ) Refusal
rows_with from most = Ok (unwrap_or from 0, unwrap_or most 1000)

-- a call of rows
pub rows_named : (of : ℕ → ℕ → Request) (from most : Option (Option ℕ))
    → refused_for ((need (codes "from") from >>= λ f. need (codes "max") most >>= λ m. rows_with f m) >>= λ rows. Ok (of rows.0 rows.1))
    ≡ first_bad ((codes "from", is_some from) ∷ (codes "max", is_some most) ∷ [])
rows_named of None most = refl
rows_named of (Some f) None = refl
rows_named of (Some f) (Some m) = refl

pub rows_names : RowsNames
rows_names query = rows_named DescribeSnapshots (if_any (kind.number_within 0 268435455) (query (codes "from"))) (if_any (kind.number_within 1 1000) (query (codes "max")))

limit_named : (request : Request) (bad : Option (List ℕ)) → refused_for (call.limited_by request bad) ≡ first_bad (limit_of bad)
limit_named request None = refl
limit_named request (Some name) = refl

shares_named : (key : SnapKey) (add remove : Option (Option Named))
    → refused_for (need (codes "Add") add >>= λ a. need (codes "Remove") remove >>= λ r. call.limited (call.permission key (unwrap_or a kind.nobody) (unwrap_or r kind.nobody)))
    ≡ first_bad ((codes "Add", is_some add) ∷ (codes "Remove", is_some remove) ∷ limit_members key add remove)
shares_named key None remove = refl
shares_named key (Some a) None = refl
shares_named key (Some a) (Some r) =
    let request = call.permission key (unwrap_or a kind.nobody) (unwrap_or r kind.nobody) in
    limit_named request (bad_member request)

permission_named : (key : Option SnapKey) (body : Option Data)
    → refused_for (need (codes "snapshotId") key >>= λ k. need (codes "body") body >>= λ b. call.permission_of k (in_body b))
    ≡ first_bad ((codes "snapshotId", is_some key) ∷ (codes "body", is_some body) ∷ named_members key body)
permission_named None body = refl
permission_named (Some k) None = refl
permission_named (Some k) (Some b) = shares_named k (if_any kind.named (in_body b (codes "Add"))) (if_any kind.named (in_body b (codes "Remove")))

pub permission_names : PermissionNames
permission_names path bytes = permission_named (option_and_then kind.snapshot (path (codes "snapshotId"))) (body_of bytes)

pub delete_names : DeleteNames
delete_names path = key_named (codes "snapshotId") DeleteSnapshot (option_and_then kind.snapshot (path (codes "snapshotId")))

pub unlock_names : UnlockNames
unlock_names path = key_named (codes "snapshotId") UnlockSnapshot (option_and_then kind.snapshot (path (codes "snapshotId")))

-- behind a key and an object stands what the object's members are refused for
pub object_named : {K : Type 0} (name : List ℕ) (of : K → Members → Result Request Refusal) (others : Members → Tried) → ((key : K) (body : Members) → refused_for (of key body) ≡ first_bad (others body)) → (key : Option K) (body : Option Data)
    → refused_for (need name key >>= λ k. need (codes "body") body >>= λ b. of k (in_body b))
    ≡ first_bad ((name, is_some key) ∷ (codes "body", is_some body) ∷ in_object others body)
object_named name of others same None body = refl
object_named name of others same (Some k) None = refl
object_named name of others same (Some k) (Some b) = same k (in_body b)

hours_named : (body : Members) (key : SnapKey) (mode : LockMode) (term : Term) (hours : Option (Option ℕ))
    → refused_for (need (codes "CoolOffPeriod") hours >>= λ h. Ok (LockSnapshot key mode term h)) ≡ first_bad ((codes "CoolOffPeriod", is_some hours) ∷ [])
hours_named body key mode term None = refl
hours_named body key mode term (Some h) = refl

terms_named : (body : Members) (key : SnapKey) (mode : Option LockMode) (days date : Option (Option ℕ))
    → refused_for (need (codes "LockMode") mode >>= λ m. (need (codes "LockDuration") days >>= λ d. need (codes "ExpirationDate") date >>= λ e. call.one_term d e) >>= λ t. optional body (codes "CoolOffPeriod") (kind.spell (CoolHours m)) >>= λ h. Ok (LockSnapshot key m t h))
    ≡ first_bad ((codes "LockMode", is_some mode) ∷ (codes "LockDuration", is_some days) ∷ (codes "ExpirationDate", is_some date) ∷ one_of (codes "LockDuration") (codes "ExpirationDate") days date ++ cool_members body mode)
terms_named body key None days date = refl
terms_named body key (Some m) None date = refl
terms_named body key (Some m) (Some d) None = refl
terms_named body key (Some m) (Some None) (Some None) = refl
terms_named body key (Some m) (Some (Some d)) (Some (Some e)) = refl
terms_named body key (Some m) (Some (Some d)) (Some None) = hours_named body key m (Days d) (if_any (kind.spell (CoolHours m)) (body (codes "CoolOffPeriod")))
terms_named body key (Some m) (Some None) (Some (Some e)) = hours_named body key m (Date (record { second = e })) (if_any (kind.spell (CoolHours m)) (body (codes "CoolOffPeriod")))

lock_named : (key : SnapKey) (body : Members) → refused_for (call.lock_of key body) ≡ first_bad (lock_members body)
lock_named key body =
    terms_named body key (option_and_then kind.lock_mode (body (codes "LockMode"))) (if_any (kind.spell LockDays) (body (codes "LockDuration"))) (if_any kind.number (body (codes "ExpirationDate")))

pub lock_names : LockNames
lock_names path bytes = object_named (codes "snapshotId") call.lock_of lock_members lock_named (option_and_then kind.snapshot (path (codes "snapshotId"))) (body_of bytes)

tier_named : (key : SnapKey) (tier : Option (Unit {0}))
    → refused_for (need (codes "StorageTier") tier >> Ok (ArchiveSnapshot key)) ≡ first_bad ((codes "StorageTier", is_some tier) ∷ [])
tier_named key None = refl
tier_named key (Some t) = refl

pub archive_names : ArchiveNames
archive_names path bytes =
    object_named (codes "snapshotId") call.archive_of tier_members (λ key body. tier_named key (option_and_then (kind.exactly (codes "archive")) (body (codes "StorageTier"))))
    (option_and_then kind.snapshot (path (codes "snapshotId"))) (body_of bytes)

restore_named : (key : SnapKey) (days : Option (Option ℕ)) (for_good : Option (Option Bool))
    → refused_for (need (codes "TemporaryRestoreDays") days >>= λ d. need (codes "PermanentRestore") for_good >>= λ p. call.one_restore key d (unwrap_or p false))
    ≡ first_bad ((codes "TemporaryRestoreDays", is_some days) ∷ (codes "PermanentRestore", is_some for_good) ∷ one_of (codes "TemporaryRestoreDays") (codes "PermanentRestore") days (if_true for_good))
restore_named key None for_good = refl
restore_named key (Some d) None = refl
restore_named key (Some None) (Some None) = refl
restore_named key (Some None) (Some (Some false)) = refl
restore_named key (Some None) (Some (Some true)) = refl
restore_named key (Some (Some d)) (Some None) = refl
restore_named key (Some (Some d)) (Some (Some false)) = refl
restore_named key (Some (Some d)) (Some (Some true)) = refl

pub restore_names : RestoreNames
restore_names path bytes =
    object_named (codes "snapshotId") call.restore_of restore_members
    (λ key body. restore_named key (if_any (kind.spell RestoreDays) (body (codes "TemporaryRestoreDays"))) (if_any kind.bool_in (body (codes "PermanentRestore"))))
    (option_and_then kind.snapshot (path (codes "snapshotId"))) (body_of bytes)

tagged_named : (origin : Option SnapKey) (size : Option ℕ) (tags : Option (Option (List Tag))) (token : Option (Option (List ℕ)))
    → refused_for (need (codes "Tags") tags >>= λ t. need (codes "ClientToken") token >>= λ c. Ok (CreateVolume origin size (unwrap_or t []) c))
    ≡ first_bad ((codes "Tags", is_some tags) ∷ (codes "ClientToken", is_some token) ∷ [])
tagged_named origin size None token = refl
tagged_named origin size (Some t) None = refl
tagged_named origin size (Some t) (Some c) = refl

create_named : (origin : Option (Option SnapKey)) (size : Option (Option ℕ)) (tags : Option (Option (List Tag))) (token : Option (Option (List ℕ)))
    → refused_for (need (codes "SnapshotId") origin >>= λ o. need (codes "Size") size >>= λ s. refuse_unless (is_sized o s) (codes "Size") >> (need (codes "Tags") tags >>= λ t. need (codes "ClientToken") token >>= λ c. Ok (CreateVolume o s (unwrap_or t []) c)))
    ≡ first_bad ((codes "SnapshotId", is_some origin) ∷ (codes "Size", is_some size) ∷ size_member origin size ++ ((codes "Tags", is_some tags) ∷ (codes "ClientToken", is_some token) ∷ []))
create_named None size tags token = refl
create_named (Some o) None tags token = refl
create_named (Some None) (Some None) tags token = refl
create_named (Some None) (Some (Some s)) tags token = tagged_named None (Some s) tags token
create_named (Some (Some o)) (Some s) tags token = tagged_named (Some o) s tags token

created_named : (body : Option Data)
    → refused_for (need (codes "body") body >>= λ b. call.create_of (in_body b)) ≡ first_bad ((codes "body", is_some body) ∷ in_object create_members body)
created_named None = refl
created_named (Some b) =
    create_named (if_any kind.snapshot (in_body b (codes "SnapshotId"))) (if_any kind.number (in_body b (codes "Size"))) (if_any kind.tags (in_body b (codes "Tags"))) (if_any kind.token (in_body b (codes "ClientToken")))

pub create_names : CreateNames
create_names bytes = created_named (body_of bytes)

snapped_named : (key : VolKey) (description : Option (Option (List ℕ))) (tags : Option (Option (List Tag)))
    → refused_for (need (codes "Description") description >>= λ d. need (codes "Tags") tags >>= λ t. Ok (CreateSnapshot key d (unwrap_or t []))) ≡ first_bad ((codes "Description", is_some description) ∷ (codes "Tags", is_some tags) ∷ [])
snapped_named key None tags = refl
snapped_named key (Some d) None = refl
snapped_named key (Some d) (Some t) = refl

pub create_snapshot_names : CreateSnapshotNames
create_snapshot_names path bytes =
    object_named (codes "volumeId") call.snapshot_of snapshot_members
    (λ key body. snapped_named key (if_any kind.description (body (codes "Description"))) (if_any kind.tags (body (codes "Tags"))))
    (option_and_then kind.volume (path (codes "volumeId"))) (body_of bytes)

pub write_block_names : WriteBlockNames
write_block_names path fields body =
    put_named (codes "volumeId") (λ k i d. WriteVolumeBlock k i d body) (option_and_then kind.volume (path (codes "volumeId"))) (option_and_then kind.index (path (codes "blockIndex")))
    (call.block_digest fields body) (digest_members fields body) (digest_names fields body)

read_named : (key : Option VolKey) (index : Option ℕ)
    → refused_for (need (codes "volumeId") key >>= λ k. need (codes "blockIndex") index >>= λ i. Ok (ReadVolumeBlock k i)) ≡ first_bad ((codes "volumeId", is_some key) ∷ (codes "blockIndex", is_some index) ∷ [])
read_named None index = refl
read_named (Some k) None = refl
read_named (Some k) (Some i) = refl

pub read_block_names : ReadBlockNames
read_block_names path = read_named (option_and_then kind.volume (path (codes "volumeId"))) (option_and_then kind.index (path (codes "blockIndex")))

pub describe_volume_names : DescribeVolumeNames
describe_volume_names path = key_named (codes "volumeId") DescribeVolume (option_and_then kind.volume (path (codes "volumeId")))

pub delete_volume_names : DeleteVolumeNames
delete_volume_names path = key_named (codes "volumeId") DeleteVolume (option_and_then kind.volume (path (codes "volumeId")))

pub get_others : GetOthers
get_others path other query another h k = rw (h.0, h.1.0, k.0) refl

pub list_others : ListOthers
list_others path other query another h k = rw (h.0, k.0, k.1.0, k.1.1.0) refl

pub changed_others : ChangedOthers
changed_others path other query another h k = rw (h.0, k.0, k.1.0, k.1.1.0, k.1.1.1.0) refl

pub describe_others : DescribeOthers
describe_others path other h = rw h.0 refl

pub rows_others : RowsOthers
rows_others query another h = rw (h.0, h.1.0) refl

pub permission_others : PermissionOthers
permission_others key body another h = rw (h.0, h.1.0) refl

pub delete_others : DeleteOthers
delete_others path other h = rw h.0 refl

pub lock_others : LockOthers
lock_others key body another h = rw (h.0, h.1.0, h.1.1.0, h.1.1.1.0) refl

pub unlock_others : UnlockOthers
unlock_others path other h = rw h.0 refl

pub archive_others : ArchiveOthers
archive_others key body another h = rw h.0 refl

pub restore_others : RestoreOthers
restore_others key body another h = rw (h.0, h.1.0) refl

pub create_others : CreateOthers
create_others body another h = rw (h.0, h.1.0, h.1.1.0, h.1.1.1.0) refl

pub create_snapshot_others : CreateSnapshotOthers
create_snapshot_others key body another h = rw (h.0, h.1.0) refl

pub write_block_others : WriteBlockOthers
write_block_others path other fields another body h k = rw (h.0, h.1.0, k.0, k.1.0, k.1.1.0, k.1.1.1.0) refl

pub read_block_others : ReadBlockOthers
read_block_others path other h = rw (h.0, h.1.0) refl

pub describe_volume_others : DescribeVolumeOthers
describe_volume_others path other h = rw h.0 refl

pub delete_volume_others : DeleteVolumeOthers
delete_volume_others path other h = rw h.0 refl
