-- The text of an answer: its head, and the body behind it.
use Rattle.std.specs.Prelude.{ℕ, List, ◌++◌, codes, decimal, length, replicate, [], ◌∷◌, Option, option_map, map, Bool, true, false}
use Rattle.http.specs.StatusCode.{status_text}
use Rattle.serde_json.specs.Data.{Members, no_members, put, string, Data, array}
use Rattle.serde_json.specs.View.{items_of}
use Rattle.ebs_model.specs.declared.answer.Answer.{Answer}
use Rattle.ebs_model.specs.declared.keys.SnapKey.{SnapKey}
use Rattle.ebs_model.specs.declared.answer.Answer.TheVariants.{Started, BlockWritten, Completed, BlockList, ChangedList, BlockRead, ZeroBlockRead, SnapshotShown, SnapshotList, Done, LockShown, TierShown, VolumeShown, RuleShown, RuleList, PolicyShown, PolicyRan, Refused, Memory}
use Rattle.ebs_model.specs.declared.keys.Moment.{Moment}
use Rattle.ebs_model.specs.declared.entries.BlockEntry.{BlockEntry}
use Rattle.ebs_model.specs.declared.keys.PolicyKey.{PolicyKey}
use Rattle.ebs_model.specs.declared.tags.Tag.{Tag}
use Rattle.ebs_model.specs.declared.entries.ChangedToken.{ChangedToken}
use Rattle.ebs_model.specs.declared.keys.AnyKey.{AnyKey}
use Rattle.ebs_model.specs.declared.keys.VolKey.{VolKey}
use Rattle.ebs_model.specs.declared.views.LockName.{LockName}
use Rattle.ebs_shown.specs.Values.{object_text, base64_text, put_some, whole, block_shown, changed_shown, moment_shown, policy_id_shown, any_id_shown, lock_text, tier_text, id_shown, volume_shown, tags_shown, row_shown, rule_shown, account_shown, row_members as shown_members, rule_members}
use Rattle.ebs_model.specs.declared.views.TierName.{TierName}
use Rattle.ebs_model.specs.declared.views.SnapView.{SnapView}
use Rattle.ebs_model.specs.declared.rules.RuleView.{RuleView}
use Rattle.ebs_print.specs.Refusals.{Row, row_members, memory_row, row_of}
use Rattle.ebs_model.specs.Quotas.{block_size}

-- the head of an answer whose body is of this kind and has `size` bytes; `lines` are further lines, each with its end
unfoldable pub head : ℕ → List ℕ → ℕ → List ℕ → List ℕ
head status kind size lines =
    codes "HTTP/1.1 " ++ (status_text status ++ (codes "\r\nContent-Type: " ++ (kind ++ (codes "\r\nContent-Length: "
    ++ (decimal size ++ (codes "\r\n" ++ (lines ++ codes "\r\n")))))))

abbrev pub message : ℕ → List ℕ → List ℕ → List ℕ → List ℕ
message status kind lines body = head status kind (length body) lines ++ body

-- the message whose body is an object with these members
abbrev pub json_message : ℕ → List ℕ → Members → List ℕ
json_message status lines members = message status (codes "application/json") lines (object_text members)

-- the lines of a head that tell a block's SHA-256
unfoldable pub checksum_lines : List ℕ → List ℕ
checksum_lines digest =
    codes "x-amz-Checksum: " ++ (base64_text digest ++ codes "\r\nx-amz-Checksum-Algorithm: SHA256\r\n")

-- the same for a block that is handed out, after its length
unfoldable pub block_lines : ℕ → List ℕ → List ℕ
block_lines size digest = codes "x-amz-Data-Length: " ++ (decimal size ++ (codes "\r\n" ++ checksum_lines digest))

-- a block that is handed out
abbrev pub block_text : List ℕ → List ℕ → List ℕ
block_text digest bytes = message 200 (codes "application/octet-stream") (block_lines (length bytes) digest) bytes

-- the bytes of a block that was never written
unfoldable pub zeros : List ℕ
zeros = replicate block_size 0

-- their SHA-256 (FIPS 180-4), which no proof computes, but a test
unfoldable pub zero_digest : List ℕ
zero_digest =
    0x07 ∷ 0x85 ∷ 0x4d ∷ 0x2f ∷ 0xef ∷ 0x29 ∷ 0x7a ∷ 0x06 ∷ 0xba ∷ 0x81 ∷ 0x68 ∷ 0x5e ∷ 0x66 ∷ 0x0c ∷ 0x33 ∷ 0x2d
    ∷ 0xe3 ∷ 0x6d ∷ 0x5d ∷ 0x18 ∷ 0xd5 ∷ 0x46 ∷ 0x92 ∷ 0x7d ∷ 0x30 ∷ 0xda ∷ 0xad ∷ 0x6d ∷ 0x7f ∷ 0xda ∷ 0x15 ∷ 0x41 ∷ []

unfoldable pub completed_members : Members
completed_members = put (codes "Status") (string (codes "completed")) no_members

-- a page whose entries stand under this name
unfoldable pub page_members : List ℕ → Data → Moment → Option (List ℕ) → ℕ → Members
page_members name entries expiry next size =
    put (codes "BlockSize") (whole block_size) (
    put name entries (
    put (codes "ExpiryTime") (whole expiry.second) (
    put_some (codes "NextToken") (option_map string next) (
    put (codes "VolumeSize") (whole size)
    no_members))))

abbrev pub block_members : List BlockEntry → Moment → Option (List ℕ) → ℕ → Members
block_members entries expiry next size = page_members (codes "Blocks") (array (items_of (map block_shown entries))) expiry next size

abbrev pub changed_members : List ChangedToken → Moment → Option (List ℕ) → ℕ → Members
changed_members entries expiry next size = page_members (codes "ChangedBlocks") (array (items_of (map changed_shown entries))) expiry next size

unfoldable pub policy_members : PolicyKey → Moment → Members
policy_members key last =
    put (codes "LastRun") (moment_shown last) (
    put (codes "PolicyId") (policy_id_shown key)
    no_members)

abbrev pub ids_shown : List AnyKey → Data
ids_shown ids = array (items_of (map any_id_shown ids))

unfoldable pub run_members : List AnyKey → List AnyKey → Members
run_members deleted made =
    put (codes "Deleted") (ids_shown deleted) (
    put (codes "Made") (ids_shown made)
    no_members)

-- a lock, and a tier, after a command
unfoldable pub lock_members : LockName → Option Moment → Members
lock_members name until =
    put (codes "LockState") (string (lock_text name)) (
    put_some (codes "LockUntil") (option_map moment_shown until)
    no_members)

unfoldable pub tier_members : Option Moment → TierName → Members
tier_members until name =
    put_some (codes "RestoreUntil") (option_map moment_shown until) (
    put (codes "StorageTier") (string (tier_text name))
    no_members)

-- a volume, with the snapshot that it was created from
unfoldable pub volume_members : ℕ → Option SnapKey → List Tag → VolKey → Members
volume_members size origin tags key =
    put (codes "Size") (whole size) (
    put_some (codes "SnapshotId") (option_map id_shown origin) (
    put_some (codes "Tags") (tags_shown tags) (
    put (codes "VolumeId") (volume_shown key)
    no_members)))

unfoldable pub list_members : Option ℕ → List SnapView → Members
list_members next rows =
    put_some (codes "NextNumber") (option_map whole next) (
    put (codes "Snapshots") (array (items_of (map row_shown rows)))
    no_members)

unfoldable pub rule_list_members : List RuleView → Members
rule_list_members rows = put (codes "Rules") (array (items_of (map rule_shown rows))) no_members

unfoldable pub started_members : Option (List ℕ) → ℕ → Option SnapKey → SnapKey → Moment → List Tag → ℕ → Members
started_members description owner parent key start tags size =
    put (codes "BlockSize") (whole block_size) (
    put_some (codes "Description") (option_map string description) (
    put (codes "OwnerId") (account_shown owner) (
    put_some (codes "ParentSnapshotId") (option_map id_shown parent) (
    put (codes "SnapshotId") (id_shown key) (
    put (codes "StartTime") (whole start.second) (
    put (codes "Status") (string (codes "pending")) (
    put_some (codes "Tags") (tags_shown tags) (
    put (codes "VolumeSize") (whole size)
    no_members))))))))

abbrev pub row_text : Row → List ℕ
row_text told = json_message told.status [] (row_members told)

abbrev pub memory_text : List ℕ
memory_text = row_text memory_row

-- 201 where the row was created by this call
abbrev pub created_status : Bool → ℕ
created_status true = 201
created_status false = 200

abbrev pub text_of : Answer → List ℕ
text_of (Started description owner parent key start tags size) =
    json_message 201 [] (started_members description owner parent key start tags size)
text_of (BlockWritten digest) = json_message 201 (checksum_lines digest) no_members
text_of Completed = json_message 202 [] completed_members
text_of (BlockList entries expiry next size) = json_message 200 [] (block_members entries expiry next size)
text_of (ChangedList entries expiry next size) = json_message 200 [] (changed_members entries expiry next size)
text_of (BlockRead digest bytes) = block_text digest bytes
text_of ZeroBlockRead = block_text zero_digest zeros
text_of (SnapshotShown created row) = json_message (created_status created) [] (shown_members row)
text_of (SnapshotList next shown) = json_message 200 [] (list_members next shown)
text_of Done = json_message 200 [] no_members
text_of (LockShown name until) = json_message 200 [] (lock_members name until)
text_of (TierShown until name) = json_message 200 [] (tier_members until name)
text_of (VolumeShown created size origin tags key) = json_message (created_status created) [] (volume_members size origin tags key)
text_of (RuleShown created row) = json_message (created_status created) [] (rule_members row)
text_of (RuleList shown) = json_message 200 [] (rule_list_members shown)
text_of (PolicyShown created key last) = json_message (created_status created) [] (policy_members key last)
text_of (PolicyRan deleted made) = json_message 200 [] (run_members deleted made)
text_of (Refused refusal) = row_text (row_of refusal)
text_of Memory = memory_text
