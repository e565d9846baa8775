-- The message by which a client asks for a call: a line for each.
use Rattle.std.specs.Prelude.{ℕ, List, [], ◌∷◌, ◌++◌, codes}
use Rattle.std.specs.declared.option.Option.{Option}
use Rattle.std.specs.declared.option.Option.TheVariants.{None, Some}
use Rattle.std.specs.Fmt.{decimal}
use Rattle.form_urlencoded.specs.Form.{extend_pairs}
use Rattle.base64.specs.Engines.{standard}
use Rattle.base64.specs.GeneralPurpose.{encode_of}
use Rattle.ebs_model.specs.Ids.{decimal_of_width, snap_id, vol_id, rule_id, policy_id}
use Rattle.ebs_model.specs.declared.keys.SnapKey.{SnapKey}
use Rattle.ebs_model.specs.declared.keys.VolKey.{VolKey}
use Rattle.ebs_model.specs.declared.keys.RuleKey.{RuleKey}
use Rattle.ebs_model.specs.declared.keys.PolicyKey.{PolicyKey}
use Rattle.ebs_model.specs.declared.request.Request.{Request}
use Rattle.ebs_model.specs.declared.request.Request.TheVariants.{StartSnapshot, ModifyPermission, CreateVolume, PutSnapshotBlock, CompleteSnapshot, ListSnapshotBlocks, ListChangedBlocks, GetSnapshotBlock, DescribeSnapshot, DescribeSnapshots, DeleteSnapshot, LockSnapshot, UnlockSnapshot, ArchiveSnapshot, RestoreTier, CreateSnapshot, WriteVolumeBlock, ReadVolumeBlock, DescribeVolume, DeleteVolume, CreateRule, GetRule, UpdateRule, DeleteRule, ListRules, LockRule, UnlockRule, ListBin, RestoreFromBin, CreatePolicy, GetPolicy, DeletePolicy, RunPolicy}
use Rattle.ebs_client.specs.Bodies.{text_of, archived, restored, locked, shared, described, created, started, rule_created, rule_updated, rule_locked, policy_created}
use Rattle.ebs_http.specs.declared.headers.Header.{Header}
use Rattle.ebs_http.specs.declared.message.Message.{Message}

abbrev pub field : List ℕ → List ℕ → Header
field name value = record { name = name; value = value }

-- the caller is named in a field, by twelve digits
abbrev pub asking : ℕ → List ℕ → List ℕ → List Header → List ℕ → Message
asking account method target fields body =
    record { method = method; target = target; headers = field (codes "x-ebs-account") (decimal_of_width 12 account) ∷ fields; body = body }

-- `/snapshots/{snapshotId}`
abbrev pub snapshot : SnapKey → List ℕ
snapshot key = codes "/snapshots/" ++ snap_id key

-- `/volumes/{volumeId}`
abbrev pub volume : VolKey → List ℕ
volume key = codes "/volumes/" ++ vol_id key

-- `/rules/{identifier}`
abbrev pub rule : RuleKey → List ℕ
rule key = codes "/rules/" ++ rule_id key

-- `/policies/{policyId}`
abbrev pub policy : PolicyKey → List ℕ
policy key = codes "/policies/" ++ policy_id key

-- `/blocks/{blockIndex}` behind either
abbrev pub block : List ℕ → ℕ → List ℕ
block path index = path ++ (codes "/blocks/" ++ decimal index)

-- a path with a query, as a web form writes it
abbrev pub with_query : List ℕ → List (List ℕ × List ℕ) → List ℕ
with_query path pairs = path ++ (codes "?" ++ extend_pairs [] pairs)

-- a page that goes on names the token that it goes on from
abbrev pub paged : Option (List ℕ) → List (List ℕ × List ℕ) → List (List ℕ × List ℕ)
paged None pairs = pairs
paged (Some token) pairs = (codes "pageToken", token) ∷ pairs

abbrev pub page : Option (List ℕ) → ℕ → ℕ → List (List ℕ × List ℕ)
page token most start = paged token ((codes "maxResults", decimal most) ∷ (codes "startingBlockIndex", decimal start) ∷ [])

-- rows from a number on, so many at most
abbrev pub rows : ℕ → ℕ → List (List ℕ × List ℕ)
rows from most = (codes "from", decimal from) ∷ (codes "max", decimal most) ∷ []

-- 32 bytes in Base64
abbrev pub base64 : List ℕ → List ℕ
base64 digest = encode_of standard digest

-- the fields of a block
abbrev pub of_block : List ℕ → List Header
of_block digest = field (codes "x-amz-Data-Length") (codes "524288") ∷ field (codes "x-amz-Checksum") (base64 digest) ∷ field (codes "x-amz-Checksum-Algorithm") (codes "SHA256") ∷ []

-- the checksum over all blocks, where one is given
abbrev pub checked : Option (List ℕ) → List Header
checked None = []
checked (Some checksum) = field (codes "x-amz-Checksum") (base64 checksum) ∷ field (codes "x-amz-Checksum-Algorithm") (codes "SHA256") ∷ field (codes "x-amz-Checksum-Aggregation-Method") (codes "LINEAR") ∷ []

abbrev pub counted : ℕ → Option (List ℕ) → List Header
counted count checksum = field (codes "x-amz-ChangedBlocksCount") (decimal count) ∷ checked checksum

abbrev pub message_of : ℕ → Request → Message
message_of account (StartSnapshot size parent description tags token timeout) = asking account (codes "POST") (codes "/snapshots") [] (text_of (started size parent description tags token timeout))
message_of account (PutSnapshotBlock key index digest bytes) = asking account (codes "PUT") (block (snapshot key) index) (of_block digest) bytes
message_of account (CompleteSnapshot key count checksum) = asking account (codes "POST") (codes "/snapshots/completion/" ++ snap_id key) (counted count checksum) []
message_of account (ListSnapshotBlocks key token most start) = asking account (codes "GET") (with_query (snapshot key ++ codes "/blocks") (page token most start)) [] []
message_of account (ListChangedBlocks first second token most start) =
    asking account (codes "GET") (with_query (snapshot second ++ codes "/changedblocks") ((codes "firstSnapshotId", snap_id first) ∷ page token most start)) [] []
message_of account (GetSnapshotBlock key index token) = asking account (codes "GET") (with_query (block (snapshot key) index) ((codes "blockToken", token) ∷ [])) [] []
message_of account (DescribeSnapshot key) = asking account (codes "GET") (snapshot key) [] []
message_of account (DescribeSnapshots from most) = asking account (codes "GET") (with_query (codes "/snapshots") (rows from most)) [] []
message_of account (DeleteSnapshot key) = asking account (codes "DELETE") (snapshot key) [] []
message_of account (UnlockSnapshot key) = asking account (codes "DELETE") (snapshot key ++ codes "/lock") [] []
message_of account (CreateVolume origin size tags token) = asking account (codes "POST") (codes "/volumes") [] (text_of (created origin size tags token))
message_of account (CreateSnapshot key description tags) = asking account (codes "POST") (volume key ++ codes "/snapshots") [] (text_of (described description tags))
message_of account (WriteVolumeBlock key index digest bytes) = asking account (codes "PUT") (block (volume key) index) (of_block digest) bytes
message_of account (ReadVolumeBlock key index) = asking account (codes "GET") (block (volume key) index) [] []
message_of account (DescribeVolume key) = asking account (codes "GET") (volume key) [] []
message_of account (DeleteVolume key) = asking account (codes "DELETE") (volume key) [] []
message_of account (LockSnapshot key mode term cool_hours) = asking account (codes "PUT") (snapshot key ++ codes "/lock") [] (text_of (locked mode term cool_hours))
message_of account (ArchiveSnapshot key) = asking account (codes "PUT") (snapshot key ++ codes "/tier") [] (text_of archived)
message_of account (RestoreTier key days) = asking account (codes "POST") (snapshot key ++ codes "/restore-tier") [] (text_of (restored days))
message_of account (ModifyPermission key add add_all remove remove_all) = asking account (codes "PATCH") (snapshot key ++ codes "/permission") [] (text_of (shared add add_all remove remove_all))
message_of account (CreateRule days tags description delay) = asking account (codes "POST") (codes "/rules") [] (text_of (rule_created days tags description delay))
message_of account (GetRule key) = asking account (codes "GET") (rule key) [] []
message_of account (UpdateRule key days tags description) = asking account (codes "PATCH") (rule key) [] (text_of (rule_updated days tags description))
message_of account (DeleteRule key) = asking account (codes "DELETE") (rule key) [] []
message_of account ListRules = asking account (codes "POST") (codes "/list-rules") [] []
message_of account (LockRule key delay) = asking account (codes "PATCH") (rule key ++ codes "/lock") [] (text_of (rule_locked delay))
message_of account (UnlockRule key) = asking account (codes "PATCH") (rule key ++ codes "/unlock") [] []
message_of account (ListBin from most) = asking account (codes "GET") (with_query (codes "/recycle-bin") (rows from most)) [] []
message_of account (RestoreFromBin key) = asking account (codes "POST") (codes "/recycle-bin/" ++ snap_id key) [] []
message_of account (CreatePolicy targets hours at retain add) = asking account (codes "POST") (codes "/policies") [] (text_of (policy_created targets hours at retain add))
message_of account (GetPolicy key) = asking account (codes "GET") (policy key) [] []
message_of account (DeletePolicy key) = asking account (codes "DELETE") (policy key) [] []
message_of account (RunPolicy key) = asking account (codes "POST") (policy key ++ codes "/run") [] []
