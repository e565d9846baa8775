-- What a message gives is read back, member by member and call by call.
use Rattle.std.proofs.Common.{[], ◌≡◌, ℕ, ◌<◌, ◌^◌, Bool, true, ◌==◌, List, length, refl, ap, ◌∙◌, IsUtf8, codes}
use Rattle.std.specs.declared.option.Option.{Option}
use Rattle.std.specs.declared.option.Option.TheVariants.{None, Some}
use Rattle.std.specs.declared.result.Result.{Result}
use Rattle.std.specs.declared.result.Result.TheVariants.{Ok}
use Rattle.std.specs.Option.{option_and_then}
use Rattle.std.specs.Result.{result_ok}
use Rattle.std.specs.Fmt.{decimal}
use Rattle.std.specs.Str.{bytes_eq}
use Rattle.std.proofs.lemmas.Str.{is_utf8-from_IsUtf8}
use Rattle.base64.specs.Engines.{standard}
use Rattle.base64.proofs.EngineFacts.{decode_of-encode_of}
use Rattle.ebs_model.specs.declared.answer.Refusal.{Refusal}
use Rattle.ebs_model.specs.declared.keys.SnapKey.{SnapKey}
use Rattle.ebs_model.specs.declared.keys.VolKey.{VolKey}
use Rattle.ebs_model.specs.declared.keys.RuleKey.{RuleKey}
use Rattle.ebs_model.specs.declared.keys.PolicyKey.{PolicyKey}
use Rattle.serde_json.specs.Data.{Data, Items, string, array}
use Rattle.std.specs.Prelude.{if◌then◌else◌}
use Rattle.std.specs.Option.{unwrap_or}
use Rattle.ebs_model.specs.declared.tags.Tag.{Tag}
use Rattle.ebs_model.specs.Limits.{are_tags}
use Rattle.ebs_model.specs.declared.request.Request.{Request}
use Rattle.ebs_model.specs.Quotas.{block_size}
use Rattle.ebs_model.specs.Refuse.{◌>>=◌, ◌>>◌}
use Rattle.ebs_model.specs.Ids.{snap_id, vol_id, rule_id, policy_id}
use Rattle.ebs_model.specs.declared.request.Request.TheVariants.{PutSnapshotBlock, CompleteSnapshot, ListSnapshotBlocks, ListChangedBlocks, GetSnapshotBlock, DescribeSnapshot, DescribeSnapshots, DeleteSnapshot, UnlockSnapshot, CreateSnapshot, WriteVolumeBlock, ReadVolumeBlock, DescribeVolume, DeleteVolume, GetRule, DeleteRule, UnlockRule, ListBin, RestoreFromBin, GetPolicy, DeletePolicy, RunPolicy}
use Rattle.ebs_model.proofs.ReaderLaws.{snap_whole, vol_whole, rule_whole, policy_whole}
use Rattle.ebs_members.specs.Sources.{Given, given_text, given_json, Members, in_body, body_of, required, optional, need, refuse_unless}
use Rattle.ebs_members.specs.Kinds as kind
use Rattle.ebs_members.specs.Policies as policy_kind
use Rattle.ebs_rest.specs.Calls as call
use Rattle.ebs_client.specs.Messages.{base64}
use Rattle.ebs_client.specs.Reach.{IsSnapshot, IsVolume, IsRule, IsPolicy, IsDigest}
use Rattle.ebs_client.proofs.Pieces.{number_read}

pub there : {A : Type 0} (source : Members) (name : List ℕ) (reads : Given → Option A) (told : Given) (value : A) → source name ≡ Some told → reads told ≡ Some value → required source name reads ≡ Ok value
there source name reads told value found is = rw (found, is) refl

pub stands : {A : Type 0} (source : Members) (name : List ℕ) (reads : Given → Option A) (told : Given) (value : A) → source name ≡ Some told → reads told ≡ Some value → optional source name reads ≡ Ok (Some value)
stands source name reads told value found is = rw (found, is) refl

pub absent : {A : Type 0} (source : Members) (name : List ℕ) (reads : Given → Option A) → source name ≡ None → optional source name reads ≡ Ok None
absent source name reads found = rw found refl

pub snapshot_there : (source : Members) (name : List ℕ) (key : SnapKey) → IsSnapshot key → source name ≡ Some (given_text (snap_id key)) → required source name kind.snapshot ≡ Ok key
snapshot_there source name key is found = there source name kind.snapshot (given_text (snap_id key)) key found (snap_whole key (snap_id key) is.0 is.1 refl)

pub volume_there : (source : Members) (name : List ℕ) (key : VolKey) → IsVolume key → source name ≡ Some (given_text (vol_id key)) → required source name kind.volume ≡ Ok key
volume_there source name key is found = there source name kind.volume (given_text (vol_id key)) key found (vol_whole key (vol_id key) is.0 is.1 refl)

pub rule_there : (source : Members) (name : List ℕ) (key : RuleKey) → IsRule key → source name ≡ Some (given_text (rule_id key)) → required source name kind.rule ≡ Ok key
rule_there source name key is found = there source name kind.rule (given_text (rule_id key)) key found (rule_whole key (rule_id key) is.0 is.1 refl)

pub policy_there : (source : Members) (name : List ℕ) (key : PolicyKey) → IsPolicy key → source name ≡ Some (given_text (policy_id key)) → required source name policy_kind.policy ≡ Ok key
policy_there source name key is found = there source name policy_kind.policy (given_text (policy_id key)) key found (policy_whole key (policy_id key) is.0 is.1 refl)

pub index_there : (source : Members) (name : List ℕ) (n : ℕ) → n < 10 ^ 10 → source name ≡ Some (given_text (decimal n)) → required source name kind.index ≡ Ok n
index_there source name n small found = there source name kind.index (given_text (decimal n)) n found (number_read n small)

pub index_given : (source : Members) (name : List ℕ) (n : ℕ) → n < 10 ^ 10 → source name ≡ Some (given_text (decimal n)) → optional source name kind.index ≡ Ok (Some n)
index_given source name n small found = stands source name kind.index (given_text (decimal n)) n found (number_read n small)

within : (low high n : ℕ) → n < 10 ^ 10 → kind.is_within low high n ≡ true → kind.number_within low high (given_text (decimal n)) ≡ Some n
within low high n small inside = rw (number_read n small, inside) refl

pub number_given : (source : Members) (name : List ℕ) (low high n : ℕ) → n < 10 ^ 10 → kind.is_within low high n ≡ true → source name ≡ Some (given_text (decimal n)) → optional source name (kind.number_within low high) ≡ Ok (Some n)
number_given source name low high n small inside found = stands source name (kind.number_within low high) (given_text (decimal n)) n found (within low high n small inside)

text_read : (text : List ℕ) → IsUtf8 text → kind.any_text (given_text text) ≡ Some text
text_read text h = rw (is_utf8-from_IsUtf8 text h) refl

pub text_there : (source : Members) (name text : List ℕ) → IsUtf8 text → source name ≡ Some (given_text text) → required source name kind.any_text ≡ Ok text
text_there source name text h found = there source name kind.any_text (given_text text) text found (text_read text h)

pub text_given : (source : Members) (name text : List ℕ) → IsUtf8 text → source name ≡ Some (given_text text) → optional source name kind.any_text ≡ Ok (Some text)
text_given source name text h found = stands source name kind.any_text (given_text text) text found (text_read text h)

digest_kept : (digest : List ℕ) → length digest ≡ 32 → kind.digest_only digest ≡ Some digest
digest_kept digest size = rw size refl

digest_read : (digest : List ℕ) → IsDigest digest → kind.digest (given_text (base64 digest)) ≡ Some digest
digest_read digest is =
    ap (λ r. option_and_then kind.digest_only (result_ok r)) (decode_of-encode_of standard digest refl is.1) ∙ digest_kept digest is.0

pub digest_there : (source : Members) (name digest : List ℕ) → IsDigest digest → source name ≡ Some (given_text (base64 digest)) → required source name kind.digest ≡ Ok digest
digest_there source name digest is found = there source name kind.digest (given_text (base64 digest)) digest found (digest_read digest is)

pub digest_given : (source : Members) (name digest : List ℕ) → IsDigest digest → source name ≡ Some (given_text (base64 digest)) → optional source name kind.digest ≡ Ok (Some digest)
digest_given source name digest is found = stands source name kind.digest (given_text (base64 digest)) digest found (digest_read digest is)

-- the calls, line by line
pub describe_read : (path : Members) (key : SnapKey) → required path (codes "snapshotId") kind.snapshot ≡ Ok key → call.describe path ≡ Ok (DescribeSnapshot key)
describe_read path key e = rw e refl

pub delete_read : (path : Members) (key : SnapKey) → required path (codes "snapshotId") kind.snapshot ≡ Ok key → call.delete path ≡ Ok (DeleteSnapshot key)
delete_read path key e = rw e refl

pub unlock_read : (path : Members) (key : SnapKey) → required path (codes "snapshotId") kind.snapshot ≡ Ok key → call.unlock path ≡ Ok (UnlockSnapshot key)
unlock_read path key e = rw e refl

pub describe_volume_read : (path : Members) (key : VolKey) → required path (codes "volumeId") kind.volume ≡ Ok key → call.describe_volume path ≡ Ok (DescribeVolume key)
describe_volume_read path key e = rw e refl

pub delete_volume_read : (path : Members) (key : VolKey) → required path (codes "volumeId") kind.volume ≡ Ok key → call.delete_volume path ≡ Ok (DeleteVolume key)
delete_volume_read path key e = rw e refl

pub read_block_read : (path : Members) (key : VolKey) (index : ℕ) → required path (codes "volumeId") kind.volume ≡ Ok key → required path (codes "blockIndex") kind.index ≡ Ok index
    → call.read_block path ≡ Ok (ReadVolumeBlock key index)
read_block_read path key index e f = rw (e, f) refl

pub get_block_read : (path query : Members) (key : SnapKey) (index : ℕ) (token : List ℕ) → required path (codes "snapshotId") kind.snapshot ≡ Ok key
    → required path (codes "blockIndex") kind.index ≡ Ok index → required query (codes "blockToken") kind.any_text ≡ Ok token → call.get_block path query ≡ Ok (GetSnapshotBlock key index token)
get_block_read path query key index token e f g = rw (e, f, g) refl

pub describe_all_read : (query : Members) (from most : ℕ) → optional query (codes "from") (kind.number_within 0 268435455) ≡ Ok (Some from)
    → optional query (codes "max") (kind.number_within 1 1000) ≡ Ok (Some most) → call.describe_all query ≡ Ok (DescribeSnapshots from most)
describe_all_read query from most e f = rw (e, f) refl

pub list_read : (path query : Members) (key : SnapKey) (token : Option (List ℕ)) (most start : ℕ) → required path (codes "snapshotId") kind.snapshot ≡ Ok key
    → optional query (codes "pageToken") kind.any_text ≡ Ok token → optional query (codes "maxResults") (kind.number_within 100 10000) ≡ Ok (Some most)
    → optional query (codes "startingBlockIndex") kind.index ≡ Ok (Some start) → call.list_blocks path query ≡ Ok (ListSnapshotBlocks key token most start)
list_read path query key token most start e f g h = rw (e, f, g, h) refl

pub changed_read : (path query : Members) (first second : SnapKey) (token : Option (List ℕ)) (most start : ℕ) → required query (codes "firstSnapshotId") kind.snapshot ≡ Ok first
    → required path (codes "secondSnapshotId") kind.snapshot ≡ Ok second → optional query (codes "pageToken") kind.any_text ≡ Ok token
    → optional query (codes "maxResults") (kind.number_within 100 10000) ≡ Ok (Some most) → optional query (codes "startingBlockIndex") kind.index ≡ Ok (Some start)
    → call.list_changed path query ≡ Ok (ListChangedBlocks first second token most start)
changed_read path query first second token most start d e f g h = rw (d, e, f, g, h) refl

pub block_digest_read : (fields : Members) (digest body : List ℕ) → required fields (codes "x-amz-Data-Length") (kind.exactly (codes "524288")) ≡ Ok tt
    → required fields (codes "x-amz-Checksum") kind.digest ≡ Ok digest → required fields (codes "x-amz-Checksum-Algorithm") (kind.exactly (codes "SHA256")) ≡ Ok tt
    → optional fields (codes "x-amz-Progress") (kind.number_within 0 100) ≡ Ok None → refuse_unless (length body == block_size) (codes "body") ≡ Ok tt
    → call.block_digest fields body ≡ Ok digest
block_digest_read fields digest body d e f g h = rw (d, e, f, g, h) refl

pub put_read : (path fields : Members) (body : List ℕ) (key : SnapKey) (index : ℕ) (digest : List ℕ) → required path (codes "snapshotId") kind.snapshot ≡ Ok key
    → required path (codes "blockIndex") kind.index ≡ Ok index → call.block_digest fields body ≡ Ok digest → call.put_block path fields body ≡ Ok (PutSnapshotBlock key index digest body)
put_read path fields body key index digest d e f =
    ap (λ k. k >>= (λ key. required path (codes "blockIndex") kind.index >>= (λ index. call.block_digest fields body >>= (λ digest. Ok (PutSnapshotBlock key index digest body))))) d
    ∙ ap (λ i. i >>= (λ index. call.block_digest fields body >>= (λ digest. Ok (PutSnapshotBlock key index digest body)))) e
    ∙ ap (λ b. b >>= (λ digest. Ok (PutSnapshotBlock key index digest body))) f

pub write_read : (path fields : Members) (body : List ℕ) (key : VolKey) (index : ℕ) (digest : List ℕ) → required path (codes "volumeId") kind.volume ≡ Ok key
    → required path (codes "blockIndex") kind.index ≡ Ok index → call.block_digest fields body ≡ Ok digest → call.write_block path fields body ≡ Ok (WriteVolumeBlock key index digest body)
write_read path fields body key index digest d e f =
    ap (λ k. k >>= (λ key. required path (codes "blockIndex") kind.index >>= (λ index. call.block_digest fields body >>= (λ digest. Ok (WriteVolumeBlock key index digest body))))) d
    ∙ ap (λ i. i >>= (λ index. call.block_digest fields body >>= (λ digest. Ok (WriteVolumeBlock key index digest body)))) e
    ∙ ap (λ b. b >>= (λ digest. Ok (WriteVolumeBlock key index digest body))) f

pub checksum_read : (fields : Members) → optional fields (codes "x-amz-Checksum-Algorithm") (kind.exactly (codes "SHA256")) ≡ Ok (Some tt)
    → optional fields (codes "x-amz-Checksum-Aggregation-Method") (kind.exactly (codes "LINEAR")) ≡ Ok (Some tt) → call.checksum_named fields ≡ Ok tt
checksum_read fields e f = rw (e, f) refl

pub complete_read : (path fields : Members) (key : SnapKey) (count : ℕ) (checksum : Option (List ℕ)) → required path (codes "snapshotId") kind.snapshot ≡ Ok key
    → required fields (codes "x-amz-ChangedBlocksCount") kind.index ≡ Ok count → optional fields (codes "x-amz-Checksum") kind.digest ≡ Ok checksum → call.stated fields checksum ≡ Ok tt
    → call.complete path fields ≡ Ok (CompleteSnapshot key count checksum)
complete_read path fields key count checksum d e f g =
    ap (λ k. k >>= (λ key. required fields (codes "x-amz-ChangedBlocksCount") kind.index >>= (λ count. optional fields (codes "x-amz-Checksum") kind.digest >>= (λ checksum. call.stated fields checksum >> Ok (CompleteSnapshot key count checksum))))) d
    ∙ ap (λ c. c >>= (λ count. optional fields (codes "x-amz-Checksum") kind.digest >>= (λ checksum. call.stated fields checksum >> Ok (CompleteSnapshot key count checksum)))) e
    ∙ ap (λ s. s >>= (λ checksum. call.stated fields checksum >> Ok (CompleteSnapshot key count checksum))) f
    ∙ ap (λ u. u >> Ok (CompleteSnapshot key count checksum)) g

pub word_there : (source : Members) (name word : List ℕ) → bytes_eq word word ≡ true → source name ≡ Some (given_text word) → required source name (kind.exactly word) ≡ Ok tt
word_there source name word same found = there source name (kind.exactly word) (given_text word) tt found (rw same refl)

pub word_given : (source : Members) (name word : List ℕ) → bytes_eq word word ≡ true → source name ≡ Some (given_text word) → optional source name (kind.exactly word) ≡ Ok (Some tt)
word_given source name word same found = stands source name (kind.exactly word) (given_text word) tt found (rw same refl)

pub same_optional : {A : Type 0} (source other : Members) (name : List ℕ) (reads : Given → Option A) → source name ≡ other name → optional source name reads ≡ optional other name reads
same_optional source other name reads same = rw same refl

pub passes : (test : Bool) (name : List ℕ) → test ≡ true → refuse_unless test name ≡ Ok tt
passes test name h = rw h refl

-- a call of a key with a body in JSON
pub object_read : {K : Type 0} (key : Result K Refusal) (bytes : List ℕ) (of : K → Members → Result Request Refusal) (k : K) (body : Data) (request : Request) → key ≡ Ok k → body_of bytes ≡ Some body
    → of k (in_body body) ≡ Ok request → (key >>= (λ k. need (codes "body") (body_of bytes) >>= (λ body. of k (in_body body)))) ≡ Ok request
object_read key bytes of k body request e f g =
    ap (λ r. r >>= (λ k. need (codes "body") (body_of bytes) >>= (λ body. of k (in_body body)))) e
    ∙ ap (λ found. need (codes "body") found >>= (λ body. of k (in_body body))) f ∙ g

description_read : (text : List ℕ) → IsUtf8 text → kind.is_description text ≡ true → kind.description (given_json (string text)) ≡ Some text
description_read text h short = rw (is_utf8-from_IsUtf8 text h, short) refl

pub description_given : (source : Members) (name text : List ℕ) → IsUtf8 text → kind.is_description text ≡ true → source name ≡ Some (given_json (string text)) → optional source name kind.description ≡ Ok (Some text)
description_given source name text h short found = stands source name kind.description (given_json (string text)) text found (description_read text h short)

tags_kept : (ts : List Tag) → are_tags ts ≡ true → kind.keep_if are_tags (Some ts) ≡ Some ts
tags_kept ts h = ap (λ b. if b then Some ts else None) h

pub tags_given : (source : Members) (name : List ℕ) (items : Items) (ts : List Tag) → kind.all_of kind.tag_of items ≡ Some ts → are_tags ts ≡ true → source name ≡ Some (given_json (array items)) → optional source name kind.tags ≡ Ok (Some ts)
tags_given source name items ts said h found = stands source name kind.tags (given_json (array items)) ts found (ap (kind.keep_if are_tags) said ∙ tags_kept ts h)

pub snapshot_of_read : (body : Members) (key : VolKey) (description : Option (List ℕ)) (ts : List Tag) → optional body (codes "Description") kind.description ≡ Ok description
    → optional body (codes "Tags") kind.tags ≡ Ok (Some ts) → call.snapshot_of key body ≡ Ok (CreateSnapshot key description ts)
snapshot_of_read body key description ts e f =
    ap (λ d. d >>= (λ description. optional body (codes "Tags") kind.tags >>= (λ tags. Ok (CreateSnapshot key description (unwrap_or tags []))))) e
    ∙ ap (λ t. t >>= (λ tags. Ok (CreateSnapshot key description (unwrap_or tags [])))) f

-- a call with a body in JSON alone
pub body_alone : (bytes : List ℕ) (of : Data → Result Request Refusal) (body : Data) (request : Request) → body_of bytes ≡ Some body → of body ≡ Ok request → (need (codes "body") (body_of bytes) >>= of) ≡ Ok request
body_alone bytes of body request f g = ap (λ found. need (codes "body") found >>= of) f ∙ g

-- rules, policies and the bin
pub get_rule_read : (path : Members) (key : RuleKey) → required path (codes "identifier") kind.rule ≡ Ok key → call.get_rule path ≡ Ok (GetRule key)
get_rule_read path key e = rw e refl

pub delete_rule_read : (path : Members) (key : RuleKey) → required path (codes "identifier") kind.rule ≡ Ok key → call.delete_rule path ≡ Ok (DeleteRule key)
delete_rule_read path key e = rw e refl

pub unlock_rule_read : (path : Members) (key : RuleKey) → required path (codes "identifier") kind.rule ≡ Ok key → call.unlock_rule path ≡ Ok (UnlockRule key)
unlock_rule_read path key e = rw e refl

pub get_policy_read : (path : Members) (key : PolicyKey) → required path (codes "policyId") policy_kind.policy ≡ Ok key → call.get_policy path ≡ Ok (GetPolicy key)
get_policy_read path key e = rw e refl

pub delete_policy_read : (path : Members) (key : PolicyKey) → required path (codes "policyId") policy_kind.policy ≡ Ok key → call.delete_policy path ≡ Ok (DeletePolicy key)
delete_policy_read path key e = rw e refl

pub run_policy_read : (path : Members) (key : PolicyKey) → required path (codes "policyId") policy_kind.policy ≡ Ok key → call.run_policy path ≡ Ok (RunPolicy key)
run_policy_read path key e = rw e refl

pub restore_from_bin_read : (path : Members) (key : SnapKey) → required path (codes "snapshotId") kind.snapshot ≡ Ok key → call.restore_from_bin path ≡ Ok (RestoreFromBin key)
restore_from_bin_read path key e = rw e refl

pub list_bin_read : (query : Members) (from most : ℕ) → optional query (codes "from") (kind.number_within 0 268435455) ≡ Ok (Some from)
    → optional query (codes "max") (kind.number_within 1 1000) ≡ Ok (Some most) → call.list_bin query ≡ Ok (ListBin from most)
list_bin_read query from most e f = rw (e, f) refl
