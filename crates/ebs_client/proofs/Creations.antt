-- Uploads and volumes: bodies of many members.
use Rattle.std.proofs.Common.{◌≡◌, ℕ, ◌<◌, ◌^◌, true, false, List, refl, ◌∙◌, codes, IsUtf8, IfSome}
use Rattle.std.specs.declared.option.Option.{Option}
use Rattle.std.specs.declared.option.Option.TheVariants.{None, Some}
use Rattle.std.specs.declared.result.Result.TheVariants.{Ok}
use Rattle.std.specs.Str.{bytes_eq}
use Rattle.std.specs.List.{AllByRecursion}
use Rattle.json.specs.Json as json
use Rattle.serde_json.specs.Data.{Data, Members, no_members, put, string, array, object}
use Rattle.ebs_model.specs.declared.tags.Tag.{Tag}
use Rattle.ebs_model.specs.declared.keys.SnapKey.{SnapKey}
use Rattle.ebs_model.specs.declared.request.Request.TheVariants.{StartSnapshot, CreateVolume}
use Rattle.ebs_model.specs.Ids.{snap_id}
use Rattle.ebs_model.specs.Limits.{is_description, are_tags, is_token_given, is_timeout, is_sized}
use Rattle.ebs_members.specs.Sources.{in_body, body_of, Members as Sources, required, optional, refuse_unless}
use Rattle.ebs_members.specs.Kinds as kind
use Rattle.ebs_rest.specs.Calls as call
use Rattle.ebs_client.specs.Bodies.{text_of, if_any, whole, tags, created, started}
use Rattle.ebs_client.specs.Reach.{HasTexts, IsSnapshot}
use Rattle.ebs_client.proofs.Bodies.{num}
use Rattle.ebs_client.proofs.Tags.{tags_data}
use Rattle.ebs_client.proofs.Objects as object_of
use Rattle.ebs_client.proofs.Objects.{put_any, id_data, Holds, at, past, at_any, past_any}
use Rattle.ebs_client.proofs.Lines as line

abbrev created_members : Option SnapKey → Option ℕ → List Tag → Option (List ℕ) → json.Members
created_members origin size ts token =
    if_any (codes "SnapshotId") (λ key. json.string (snap_id key)) origin
    (if_any (codes "Size") whole size (json.member (codes "Tags") (json.array (tags ts)) (if_any (codes "ClientToken") json.string token json.no_members)))

abbrev of_origin : Option SnapKey → Members
of_origin origin = put_any (codes "SnapshotId") id_data origin no_members

abbrev of_size : Option SnapKey → Option ℕ → Members
of_size origin size = put_any (codes "Size") num size (of_origin origin)

abbrev of_tags : Option SnapKey → Option ℕ → List Tag → Members
of_tags origin size ts = put (codes "Tags") (array (tags_data ts)) (of_size origin size)

abbrev pub created_data : Option SnapKey → Option ℕ → List Tag → Option (List ℕ) → Members
created_data origin size ts token = put_any (codes "ClientToken") string token (of_tags origin size ts)

pub created_body : (origin : Option SnapKey) (size : Option ℕ) (ts : List Tag) (token : Option (List ℕ)) → IfSome origin IsSnapshot → IfSome size (λ n. n < 2 ^ 64) → AllByRecursion HasTexts ts → IfSome token IsUtf8
    → body_of (text_of (created origin size ts token)) ≡ Some (object (created_data origin size ts token))
created_body origin size ts token is small texts utf8 =
    let last = if_any (codes "ClientToken") json.string token json.no_members in
    let tagged = json.member (codes "Tags") (json.array (tags ts)) last in
    let sized = if_any (codes "Size") whole size tagged in
    let fine_last = object_of.fine_if_text (codes "ClientToken") token json.no_members refl utf8 object_of.fine_none in
    let fine_tagged = object_of.fine_tags (codes "Tags") ts last refl texts fine_last in
    let fine_sized = object_of.fine_if_number (codes "Size") size tagged refl small fine_tagged in
    object_of.whole_body (created_members origin size ts token) (created_data origin size ts token) (object_of.fine_if_id (codes "SnapshotId") origin sized refl is fine_sized)
    (object_of.read_if_id (codes "SnapshotId") origin sized no_members ∙ object_of.read_if_number (codes "Size") size tagged (of_origin origin) small
    ∙ object_of.read_tags (codes "Tags") ts last (of_size origin size) ∙ object_of.read_if_text (codes "ClientToken") token json.no_members (of_tags origin size ts))

create_read : (body : Sources) (origin : Option SnapKey) (size : Option ℕ) (ts : List Tag) (token : Option (List ℕ)) → optional body (codes "SnapshotId") kind.snapshot ≡ Ok origin → optional body (codes "Size") kind.number ≡ Ok size
    → refuse_unless (is_sized origin size) (codes "Size") ≡ Ok tt → optional body (codes "Tags") kind.tags ≡ Ok (Some ts) → optional body (codes "ClientToken") kind.token ≡ Ok token
    → call.create_of body ≡ Ok (CreateVolume origin size ts token)
create_read body origin size ts token e f g h i = rw (e, f, g, h, i) refl

pub created_read : (origin : Option SnapKey) (size : Option ℕ) (ts : List Tag) (token : Option (List ℕ)) → IfSome origin IsSnapshot → IfSome token IsUtf8 → is_sized origin size ≡ true → are_tags ts ≡ true → is_token_given token ≡ true
    → call.create_of (in_body (object (created_data origin size ts token))) ≡ Ok (CreateVolume origin size ts token)
created_read origin size ts token is utf8 sized good given =
    let ms = created_data origin size ts token in
    let tagged = of_tags origin size ts in
    create_read (in_body (object ms)) origin size ts token
    (object_of.id_member ms (codes "SnapshotId") origin is (past_any (codes "SnapshotId") (codes "ClientToken") string token tagged _ refl
    (past (codes "SnapshotId") (codes "Tags") (array (tags_data ts)) (of_size origin size) _ refl (past_any (codes "SnapshotId") (codes "Size") num size (of_origin origin) _ refl (at_any (codes "SnapshotId") id_data origin no_members refl)))))
    (object_of.number_member ms (codes "Size") size (past_any (codes "Size") (codes "ClientToken") string token tagged _ refl
    (past (codes "Size") (codes "Tags") (array (tags_data ts)) (of_size origin size) _ refl (at_any (codes "Size") num size (of_origin origin) (past_any (codes "Size") (codes "SnapshotId") id_data origin no_members _ refl refl)))))
    (line.passes (is_sized origin size) (codes "Size") sized)
    (object_of.tags_member ms (codes "Tags") ts good (past_any (codes "Tags") (codes "ClientToken") string token tagged _ refl (at (codes "Tags") (array (tags_data ts)) (of_size origin size))))
    (object_of.token_member ms (codes "ClientToken") token utf8 given (at_any (codes "ClientToken") string token tagged
    (past (codes "ClientToken") (codes "Tags") (array (tags_data ts)) (of_size origin size) _ refl
    (past_any (codes "ClientToken") (codes "Size") num size (of_origin origin) _ refl (past_any (codes "ClientToken") (codes "SnapshotId") id_data origin no_members _ refl refl)))))

-- an upload, member by member
abbrev of_volume_size : ℕ → Members
of_volume_size size = put (codes "VolumeSize") (num size) no_members

abbrev of_parent : ℕ → Option SnapKey → Members
of_parent size parent = put_any (codes "ParentSnapshotId") id_data parent (of_volume_size size)

abbrev of_description : ℕ → Option SnapKey → Option (List ℕ) → Members
of_description size parent description = put_any (codes "Description") string description (of_parent size parent)

abbrev of_upload_tags : ℕ → Option SnapKey → Option (List ℕ) → List Tag → Members
of_upload_tags size parent description ts = put (codes "Tags") (array (tags_data ts)) (of_description size parent description)

abbrev of_token : ℕ → Option SnapKey → Option (List ℕ) → List Tag → Option (List ℕ) → Members
of_token size parent description ts token = put_any (codes "ClientToken") string token (of_upload_tags size parent description ts)

abbrev pub started_data : ℕ → Option SnapKey → Option (List ℕ) → List Tag → Option (List ℕ) → ℕ → Members
started_data size parent description ts token timeout = put (codes "Timeout") (num timeout) (of_token size parent description ts token)

pub started_body : (size : ℕ) (parent : Option SnapKey) (description : Option (List ℕ)) (ts : List Tag) (token : Option (List ℕ)) (timeout : ℕ) → size < 2 ^ 64 → timeout < 2 ^ 64 → IfSome parent IsSnapshot
    → IfSome description IsUtf8 → AllByRecursion HasTexts ts → IfSome token IsUtf8 → body_of (text_of (started size parent description ts token timeout)) ≡ Some (object (started_data size parent description ts token timeout))
started_body size parent description ts token timeout small brief is text texts utf8 =
    let timed = json.member (codes "Timeout") (whole timeout) json.no_members in
    let named = if_any (codes "ClientToken") json.string token timed in
    let tagged = json.member (codes "Tags") (json.array (tags ts)) named in
    let told = if_any (codes "Description") json.string description tagged in
    let from = if_any (codes "ParentSnapshotId") (λ key. json.string (snap_id key)) parent told in
    let fine_timed = object_of.fine_number (codes "Timeout") timeout json.no_members refl brief object_of.fine_none in
    let fine_named = object_of.fine_if_text (codes "ClientToken") token timed refl utf8 fine_timed in
    let fine_tagged = object_of.fine_tags (codes "Tags") ts named refl texts fine_named in
    let fine_told = object_of.fine_if_text (codes "Description") description tagged refl text fine_tagged in
    let fine_from = object_of.fine_if_id (codes "ParentSnapshotId") parent told refl is fine_told in
    object_of.whole_body (json.member (codes "VolumeSize") (whole size) from) (started_data size parent description ts token timeout) (object_of.fine_number (codes "VolumeSize") size from refl small fine_from)
    (object_of.read_number (codes "VolumeSize") size from no_members small ∙ object_of.read_if_id (codes "ParentSnapshotId") parent told (of_volume_size size)
    ∙ object_of.read_if_text (codes "Description") description tagged (of_parent size parent) ∙ object_of.read_tags (codes "Tags") ts named (of_description size parent description)
    ∙ object_of.read_if_text (codes "ClientToken") token timed (of_upload_tags size parent description ts) ∙ object_of.read_number (codes "Timeout") timeout json.no_members (of_token size parent description ts token) brief)

start_read : (body : Data) (size : ℕ) (parent : Option SnapKey) (description : Option (List ℕ)) (ts : List Tag) (token : Option (List ℕ)) (timeout : ℕ) → required (in_body body) (codes "VolumeSize") kind.number ≡ Ok size
    → optional (in_body body) (codes "ParentSnapshotId") kind.snapshot ≡ Ok parent → optional (in_body body) (codes "Description") kind.description ≡ Ok description → optional (in_body body) (codes "Tags") kind.tags ≡ Ok (Some ts)
    → optional (in_body body) (codes "ClientToken") kind.token ≡ Ok token → optional (in_body body) (codes "Timeout") (kind.number_within 10 4320) ≡ Ok (Some timeout)
    → optional (in_body body) (codes "Encrypted") kind.only_false ≡ Ok None → optional (in_body body) (codes "KmsKeyArn") kind.absent ≡ Ok None
    → call.start_of (in_body body) ≡ Ok (StartSnapshot size parent description ts token timeout)
start_read body size parent description ts token timeout e f g h i j k l = rw (e, f, g, h, i, j, k, l) refl

-- a name that no member of an upload has
not_there : (size : ℕ) (parent : Option SnapKey) (description : Option (List ℕ)) (ts : List Tag) (token : Option (List ℕ)) (timeout : ℕ) (name : List ℕ) → bytes_eq name (codes "Timeout") ≡ false → bytes_eq name (codes "ClientToken") ≡ false
    → bytes_eq name (codes "Tags") ≡ false → bytes_eq name (codes "Description") ≡ false → bytes_eq name (codes "ParentSnapshotId") ≡ false → Holds (of_volume_size size) name None → Holds (started_data size parent description ts token timeout) name None
not_there size parent description ts token timeout name a b c d e h =
    past name (codes "Timeout") (num timeout) (of_token size parent description ts token) None a (past_any name (codes "ClientToken") string token (of_upload_tags size parent description ts) None b
    (past name (codes "Tags") (array (tags_data ts)) (of_description size parent description) None c (past_any name (codes "Description") string description (of_parent size parent) None d
    (past_any name (codes "ParentSnapshotId") id_data parent (of_volume_size size) None e h))))

pub started_read : (size : ℕ) (parent : Option SnapKey) (description : Option (List ℕ)) (ts : List Tag) (token : Option (List ℕ)) (timeout : ℕ) → IfSome parent IsSnapshot → IfSome description IsUtf8 → IfSome token IsUtf8
    → is_description description ≡ true → are_tags ts ≡ true → is_token_given token ≡ true → is_timeout timeout ≡ true → call.start_of (in_body (object (started_data size parent description ts token timeout))) ≡ Ok (StartSnapshot size parent description ts token timeout)
started_read size parent description ts token timeout is text utf8 short good given lasts =
    let ms = started_data size parent description ts token timeout in
    let named = of_token size parent description ts token in
    let tagged = of_upload_tags size parent description ts in
    let told = of_description size parent description in
    let from = of_parent size parent in
    let sized = of_volume_size size in
    start_read (object ms) size parent description ts token timeout
    (object_of.whole_member ms (codes "VolumeSize") size (past (codes "VolumeSize") (codes "Timeout") (num timeout) named _ refl (past_any (codes "VolumeSize") (codes "ClientToken") string token tagged _ refl
    (past (codes "VolumeSize") (codes "Tags") (array (tags_data ts)) told _ refl (past_any (codes "VolumeSize") (codes "Description") string description from _ refl
    (past_any (codes "VolumeSize") (codes "ParentSnapshotId") id_data parent sized _ refl (at (codes "VolumeSize") (num size) no_members)))))))
    (object_of.id_member ms (codes "ParentSnapshotId") parent is (past (codes "ParentSnapshotId") (codes "Timeout") (num timeout) named _ refl (past_any (codes "ParentSnapshotId") (codes "ClientToken") string token tagged _ refl
    (past (codes "ParentSnapshotId") (codes "Tags") (array (tags_data ts)) told _ refl (past_any (codes "ParentSnapshotId") (codes "Description") string description from _ refl
    (at_any (codes "ParentSnapshotId") id_data parent sized refl))))))
    (object_of.description_member ms (codes "Description") description text short (past (codes "Description") (codes "Timeout") (num timeout) named _ refl (past_any (codes "Description") (codes "ClientToken") string token tagged _ refl
    (past (codes "Description") (codes "Tags") (array (tags_data ts)) told _ refl (at_any (codes "Description") string description from (past_any (codes "Description") (codes "ParentSnapshotId") id_data parent sized _ refl refl))))))
    (object_of.tags_member ms (codes "Tags") ts good (past (codes "Tags") (codes "Timeout") (num timeout) named _ refl (past_any (codes "Tags") (codes "ClientToken") string token tagged _ refl (at (codes "Tags") (array (tags_data ts)) told))))
    (object_of.token_member ms (codes "ClientToken") token utf8 given (past (codes "ClientToken") (codes "Timeout") (num timeout) named _ refl (at_any (codes "ClientToken") string token tagged
    (past (codes "ClientToken") (codes "Tags") (array (tags_data ts)) told _ refl (past_any (codes "ClientToken") (codes "Description") string description from _ refl
    (past_any (codes "ClientToken") (codes "ParentSnapshotId") id_data parent sized _ refl refl))))))
    (object_of.within_member ms (codes "Timeout") 10 4320 timeout lasts (at (codes "Timeout") (num timeout) named))
    (object_of.no_member ms (codes "Encrypted") kind.only_false (not_there size parent description ts token timeout (codes "Encrypted") refl refl refl refl refl refl))
    (object_of.no_member ms (codes "KmsKeyArn") kind.absent (not_there size parent description ts token timeout (codes "KmsKeyArn") refl refl refl refl refl refl))
