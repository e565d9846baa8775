-- What each refusal prints: status, type, reason and message.
use Rattle.std.specs.Prelude.{ℕ, List, [], ◌∷◌, codes, Bool, nat_eq, if◌then◌else◌, ◌++◌, decimal}
use Rattle.std.specs.List.{list_any}
use Rattle.std.specs.Cmp.Lexicographic.{pointwise}
use Rattle.serde_json.specs.Data.{Members, no_members, put, string}
use Rattle.ebs_model.specs.declared.answer.Refusal.{Refusal}
use Rattle.ebs_model.specs.declared.answer.Refusal.TheVariants.{BadParameter, BadSize, BadIndex, BadBlockToken, BadPageToken, WrongState, Unrelated, Checksum, NotFound, NotOwner, TokenConflict, OpenUploads, Quota, Locked, RuleLocked, Exhausted, Unavailable, Damaged, NoSuchCall}
use Rattle.ebs_model.specs.declared.answer.Kind.{Kind}
use Rattle.ebs_model.specs.declared.answer.Kind.TheVariants.{Snapshot, Volume, Rule, Policy}
use Rattle.ebs_model.specs.declared.answer.FirstKey.{FirstKey}
use Rattle.ebs_model.specs.declared.answer.FirstKey.TheVariants.{Snap, Vol}
use Rattle.ebs_model.specs.Ids.{snap_id, vol_id}
use Rattle.ebs_shown.specs.Values.{base64_text, state_text, quota_text, spent_text}

-- the members that hold the id of a snapshot
abbrev pub snapshot_names : List (List ℕ)
snapshot_names =
    codes "snapshotId" ∷ codes "firstSnapshotId" ∷ codes "secondSnapshotId" ∷ codes "ParentSnapshotId" ∷ codes "SnapshotId" ∷ []

abbrev pub is_snapshot_name : List ℕ → Bool
is_snapshot_name name = list_any (λ own. pointwise nat_eq own name) snapshot_names

abbrev pub parameter_reason : List ℕ → List ℕ
parameter_reason name = if is_snapshot_name name then codes "INVALID_SNAPSHOT_ID" else codes "INVALID_PARAMETER_VALUE"

abbrev pub absence_reason : Kind → List ℕ
absence_reason Snapshot = codes "SNAPSHOT_NOT_FOUND"
absence_reason Volume = codes "NOT_FOUND"
absence_reason Rule = codes "NOT_FOUND"
absence_reason Policy = codes "NOT_FOUND"

abbrev pub checksum_message : List ℕ → List ℕ → List ℕ
checksum_message stated found = codes "checksum stated " ++ (base64_text stated ++ (codes ", found " ++ base64_text found))

abbrev pub damaged_message : List ℕ → List ℕ → List ℕ
damaged_message stored found = codes "damaged: stored " ++ (base64_text stored ++ (codes ", found " ++ base64_text found))

-- the id of what a client token's first call made
abbrev pub first_id : FirstKey → List ℕ
first_id (Snap key) = snap_id key
first_id (Vol key) = vol_id key

pub record Row : Type 0 where
  pub status : ℕ
  pub kind : List ℕ
  pub reason : List ℕ
  pub message : List ℕ

abbrev pub row : ℕ → List ℕ → List ℕ → List ℕ → Row
row status kind reason message = record { status = status; kind = kind; reason = reason; message = message }

abbrev pub row_of : Refusal → Row
row_of (BadParameter name) = row 400 (codes "ValidationException") (parameter_reason name) (codes "bad parameter: " ++ name)
row_of BadSize = row 400 (codes "ValidationException") (codes "INVALID_VOLUME_SIZE") (codes "bad volume size")
row_of BadIndex = row 400 (codes "ValidationException") (codes "INVALID_BLOCK") (codes "bad block index")
row_of BadBlockToken = row 400 (codes "ValidationException") (codes "INVALID_BLOCK_TOKEN") (codes "bad block token")
row_of BadPageToken = row 400 (codes "ValidationException") (codes "INVALID_PAGE_TOKEN") (codes "bad page token")
row_of (WrongState name) = row 409 (codes "ConflictException") (codes "INVALID_STATE") (codes "wrong state: " ++ state_text name)
row_of Unrelated = row 400 (codes "ValidationException") (codes "UNRELATED_SNAPSHOTS") (codes "unrelated snapshots")
row_of (Checksum stated found) =
    row 400 (codes "ValidationException") (codes "CHECKSUM_DIFFERS") (checksum_message stated found)
row_of (NotFound kind) = row 404 (codes "ResourceNotFoundException") (absence_reason kind) (codes "not found")
row_of NotOwner = row 403 (codes "AccessDeniedException") (codes "UNAUTHORIZED_ACCOUNT") (codes "not the owner")
row_of (TokenConflict first) = row 409 (codes "ConflictException") (codes "TOKEN_CONFLICT") (codes "token made " ++ first_id first)
row_of OpenUploads = row 400 (codes "ConcurrentLimitExceededException") (codes "OPEN_UPLOADS") (codes "100 uploads are open")
row_of (Quota what number) =
    row 402 (codes "ServiceQuotaExceededException") (codes "QUOTA") (codes "quota of " ++ (quota_text what ++ (codes " is " ++ decimal number)))
row_of (Locked until) = row 409 (codes "ConflictException") (codes "LOCKED") (codes "locked until " ++ decimal until.second)
row_of RuleLocked = row 409 (codes "ConflictException") (codes "RULE_LOCKED") (codes "rule is locked")
row_of (Exhausted spent) = row 402 (codes "ServiceQuotaExceededException") (codes "EXHAUSTED") (codes "no more " ++ spent_text spent)
row_of Unavailable = row 503 (codes "InternalServerException") (codes "UNAVAILABLE") (codes "unavailable")
row_of (Damaged stored found) = row 500 (codes "InternalServerException") (codes "DAMAGED") (damaged_message stored found)
row_of NoSuchCall = row 404 (codes "ValidationException") (codes "UNKNOWN_CALL") (codes "no such call")

-- want of memory, which is no refusal, in the same form
abbrev pub memory_row : Row
memory_row = row 507 (codes "InternalServerException") (codes "OUT_OF_MEMORY") (codes "out of memory")

unfoldable pub row_members : Row → Members
row_members told =
    put (codes "Message") (string told.message) (
    put (codes "Reason") (string told.reason) (
    put (codes "Type") (string told.kind)
    no_members))
