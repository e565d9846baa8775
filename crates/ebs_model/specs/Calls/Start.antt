-- StartSnapshot: a new upload (EBS direct APIs reference).
use Rattle.std.specs.Prelude.{ℕ, Option, None, Some, Result, Ok, Bool, true, false, List, nat_eq, ◌&&◌, ◌==◌, not, [], ◌∷◌, nat_le, nat_lt, ◌+◌}
use Rattle.std.specs.Cmp.Lexicographic.{pointwise}
use Rattle.std.specs.FinMap as fin
use Rattle.ebs_model.specs.declared.keys.SnapKey.{SnapKey}
use Rattle.ebs_model.specs.declared.keys.Moment.{Moment}
use Rattle.ebs_model.specs.declared.keys.AnyKey.TheVariants.{Snap}
use Rattle.ebs_model.specs.declared.tags.Tag.{Tag}
use Rattle.ebs_model.specs.declared.rows.SnapRow.{SnapRow}
use Rattle.ebs_model.specs.declared.rows.TokenRow.{TokenRow}
use Rattle.ebs_model.specs.declared.rows.Line.{Line}
use Rattle.ebs_model.specs.declared.rows.LockState.TheVariants as lock
use Rattle.ebs_model.specs.declared.rows.Tier.TheVariants as tier
use Rattle.ebs_model.specs.declared.request.Request.{Request}
use Rattle.ebs_model.specs.declared.request.Request.TheVariants.{StartSnapshot, CreateVolume}
use Rattle.ebs_model.specs.declared.change.Decision.{Decision}
use Rattle.ebs_model.specs.declared.change.Decision.TheVariants as decision
use Rattle.ebs_model.specs.declared.answer.Answer.TheVariants.{Started}
use Rattle.ebs_model.specs.declared.answer.Refusal.{Refusal}
use Rattle.ebs_model.specs.declared.answer.FirstKey.{FirstKey}
use Rattle.ebs_model.specs.declared.answer.FirstKey.TheVariants as made
use Rattle.ebs_model.specs.declared.answer.Refusal.TheVariants.{TokenConflict, BadSize, OpenUploads, Quota}
use Rattle.ebs_model.specs.declared.answer.QuotaName.TheVariants.{Snapshots, ClientTokens, Ids}
use Rattle.ebs_model.specs.Keys.{snap_cmp, token_cmp}
use Rattle.ebs_model.specs.Quotas.{most_open, most_kept, most_tokens, most_ids}
use Rattle.ebs_model.specs.Refuse.{◌>>=◌, ◌>>◌, refuse_if}
use Rattle.ebs_model.specs.Access.{base}
use Rattle.ebs_model.specs.Rows.{Rows, own_of, the_row, is_key, open_count, kept_count, token_count, first_use}
use Rattle.ebs_model.specs.Decisions.{makes}

-- the account's next snapshot
abbrev pub next_key : Rows → ℕ → SnapKey
next_key rows account = record { account = account; number = (own_of rows account).next_snap }

-- the least size in GiB of what begins from a snapshot: the snapshot's
abbrev pub least_size : Rows → ℕ → ℕ → Option SnapKey → Result ℕ Refusal
least_size rows account now None = Ok 0
least_size rows account now (Some parent) = do
  row ← the_row rows parent (base account parent now)
  Ok row.size

abbrev pub is_same_text : Option (List ℕ) → Option (List ℕ) → Bool
is_same_text None None = true
is_same_text None (Some b) = false
is_same_text (Some a) None = false
is_same_text (Some a) (Some b) = pointwise nat_eq a b

abbrev pub is_same_parent : Option SnapKey → Option SnapKey → Bool
is_same_parent None None = true
is_same_parent None (Some b) = false
is_same_parent (Some a) None = false
is_same_parent (Some a) (Some b) = is_key a b

abbrev pub is_same_tag : Tag → Tag → Bool
is_same_tag a b = pointwise nat_eq a.key b.key && pointwise nat_eq a.value b.value

-- the call is a start with these parameters, its tags in the same order
abbrev pub is_same_start : Request → ℕ → Option SnapKey → Option (List ℕ) → List Tag → ℕ → Bool
is_same_start (StartSnapshot first_size first_parent first_description first_tags first_token first_timeout) size parent description tags timeout =
    (first_size == size) && (is_same_parent first_parent parent && (is_same_text first_description description && (pointwise is_same_tag first_tags tags && (first_timeout == timeout))))
is_same_start first size parent description tags timeout = false

-- the snapshot that the first call with the account's client token made
abbrev pub first_made : ℕ → TokenRow → SnapKey
first_made account row = record { account = account; number = row.number }

-- what the first call with the account's client token made, of its kind
abbrev pub key_by : Request → ℕ → ℕ → FirstKey
key_by (CreateVolume origin size tags token) account number = made.Vol (record { account = account; number = number })
key_by request account number = made.Snap (record { account = account; number = number })

abbrev pub first_key : ℕ → TokenRow → FirstKey
first_key account row = key_by row.first account row.number

-- a client token that the account has used: the answer of its first call to the same call, and a conflict to another one
abbrev pub repeat_start : ℕ → ℕ → Option SnapKey → Option (List ℕ) → List Tag → ℕ → TokenRow → Result Decision Refusal
repeat_start account size parent description tags timeout row = do
  refuse_if (not (is_same_start row.first size parent description tags timeout)) (TokenConflict (first_key account row))
  Ok (decision.Kept (Started description account parent (first_made account row) row.at tags size))

abbrev pub has_token : Option (List ℕ) → Bool
has_token None = false
has_token (Some token) = true

-- a call that repeats no other
abbrev pub fresh_start : Rows → Moment → ℕ → ℕ → Option SnapKey → Option (List ℕ) → List Tag → Option (List ℕ) → ℕ → Result Decision Refusal
fresh_start rows at account size parent description tags token timeout = do
  let key : SnapKey = next_key rows account
  least ← least_size rows account at.second parent
  refuse_if (nat_lt size least) BadSize
  refuse_if (nat_le most_open (open_count rows account at.second)) OpenUploads
  refuse_if (nat_le most_kept (kept_count rows account)) (Quota Snapshots most_kept)
  refuse_if (has_token token && nat_le most_tokens (token_count rows account)) (Quota ClientTokens most_tokens)
  refuse_if (nat_le most_ids key.number) (Quota Ids most_ids)
  Ok (decision.Change (makes account at (StartSnapshot size parent description tags token timeout) (Snap key ∷ [])) (Started description account parent key at tags size))

-- where a client token was used before, that decides, and else the call by itself
abbrev pub by_token : Option TokenRow → (TokenRow → Result Decision Refusal) → Result Decision Refusal → Result Decision Refusal
by_token None repeat fresh = fresh
by_token (Some row) repeat fresh = repeat row

abbrev pub decide_start : Rows → Moment → ℕ → ℕ → Option SnapKey → Option (List ℕ) → List Tag → Option (List ℕ) → ℕ → Result Decision Refusal
decide_start rows at account size parent description tags token timeout =
    by_token (first_use rows account token) (repeat_start account size parent description tags timeout) (fresh_start rows at account size parent description tags token timeout)

-- the line of an image that begins with nothing
abbrev pub new_line : SnapKey → Line
new_line key = record { of_volume = false; account = key.account; number = key.number }

-- the parent's line, or its own
abbrev pub line_by : Line → Option SnapRow → Line
line_by line None = line
line_by line (Some row) = row.line

abbrev pub line_of : fin.FinMap snap_cmp SnapRow → SnapKey → Option SnapKey → Line
line_of snaps key None = new_line key
line_of snaps key (Some parent) = line_by (new_line key) (fin.get snaps parent)

-- an upload that starts at a moment
abbrev pub started_row : Moment → SnapKey → ℕ → Option SnapKey → Line → Option (List ℕ) → List Tag → ℕ → SnapRow
started_row now key size parent line description tags timeout = record {
  key = key;
  size = size;
  line = line;
  parent = parent;
  volume = None;
  policy = None;
  start = now;
  timeout = timeout;
  last = now;
  completed = false;
  put = fin.empty;
  description = description;
  tags = tags;
  shared = [];
  public = false;
  lock = lock.None;
  tier = tier.Standard;
  bin_end = None;
}

-- the upload gets the account's next number
abbrev pub with_upload : Rows → SnapKey → SnapRow → Rows
with_upload rows key row = record rows {
  snaps = fin.insert rows.snaps key row;
  own = fin.insert rows.own key.account (record (own_of rows key.account) { next_snap = key.number + 1 });
}

-- the client token is kept with the call that it was used for, and the number that it made
abbrev pub with_token : fin.FinMap token_cmp TokenRow → Moment → ℕ → ℕ → Request → Option (List ℕ) → fin.FinMap token_cmp TokenRow
with_token tokens at account number request None = tokens
with_token tokens at account number request (Some token) = fin.insert tokens (record { account = account; text = token }) (record { at = at; first = request; number = number })

abbrev pub commit_start : Rows → Moment → Option SnapKey → ℕ → Option SnapKey → Option (List ℕ) → List Tag → Option (List ℕ) → ℕ → Rows
commit_start rows at None size parent description tags token timeout = rows
commit_start rows at (Some key) size parent description tags token timeout =
    record (with_upload rows key (started_row at key size parent (line_of rows.snaps key parent) description tags timeout)) {
      tokens = with_token rows.tokens at key.account key.number (StartSnapshot size parent description tags token timeout) token;
    }
