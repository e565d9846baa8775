-- CreateVolume, DescribeVolume and DeleteVolume (EBS User Guide, volumes).
use Rattle.std.specs.Prelude.{ℕ, Bool, true, false, ◌==◌, Option, None, Some, ◌&&◌, List, unwrap_or, not, Result, Ok, [], ◌∷◌, nat_le, nat_lt, ◌+◌}
use Rattle.std.specs.Cmp.Lexicographic.{pointwise}
use Rattle.std.specs.FinMap as fin
use Rattle.ebs_model.specs.declared.keys.SnapKey.{SnapKey}
use Rattle.ebs_model.specs.declared.keys.VolKey.{VolKey}
use Rattle.ebs_model.specs.declared.keys.Moment.{Moment}
use Rattle.ebs_model.specs.declared.keys.AnyKey.TheVariants.{Vol}
use Rattle.ebs_model.specs.declared.tags.Tag.{Tag}
use Rattle.ebs_model.specs.declared.rows.SnapRow.{SnapRow}
use Rattle.ebs_model.specs.declared.rows.VolRow.{VolRow}
use Rattle.ebs_model.specs.declared.rows.TokenRow.{TokenRow}
use Rattle.ebs_model.specs.declared.rows.Line.{Line}
use Rattle.ebs_model.specs.declared.request.Request.{Request}
use Rattle.ebs_model.specs.declared.request.Request.TheVariants.{CreateVolume, DeleteVolume}
use Rattle.ebs_model.specs.declared.change.Decision.{Decision}
use Rattle.ebs_model.specs.declared.change.Decision.TheVariants as decision
use Rattle.ebs_model.specs.declared.answer.Answer.TheVariants.{VolumeShown, Done}
use Rattle.ebs_model.specs.declared.answer.Refusal.{Refusal}
use Rattle.ebs_model.specs.declared.answer.Refusal.TheVariants.{TokenConflict, BadSize, Quota}
use Rattle.ebs_model.specs.declared.answer.QuotaName.TheVariants.{Volumes, ClientTokens, Ids}
use Rattle.ebs_model.specs.Keys.{snap_cmp}
use Rattle.ebs_model.specs.Quotas.{most_volumes, most_tokens, most_ids}
use Rattle.ebs_model.specs.Refuse.{◌>>=◌, ◌>>◌, refuse_if}
use Rattle.ebs_model.specs.Rows.{Rows, own_of, volume_count, token_count, first_use, the_volume}
use Rattle.ebs_model.specs.Decisions.{makes, alters}
use Rattle.ebs_model.specs.Calls.Start.{is_same_parent, is_same_tag, first_key, least_size, has_token, by_token, line_by, with_token}

-- the account's next volume
abbrev pub next_volume : Rows → ℕ → VolKey
next_volume rows account = record { account = account; number = (own_of rows account).next_vol }

-- an absent size counts as the size that was made
abbrev pub is_same_size : Option ℕ → Option ℕ → Bool
is_same_size first None = true
is_same_size None (Some size) = false
is_same_size (Some first) (Some size) = first == size

-- the call is a creation with these parameters, its tags in the same order
abbrev pub is_same_create : Request → Option SnapKey → Option ℕ → List Tag → Bool
is_same_create (CreateVolume first_origin first_size first_tags first_token) origin size tags =
    is_same_parent first_origin origin && (is_same_size first_size size && pointwise is_same_tag first_tags tags)
is_same_create first origin size tags = false

-- the size of the volume that a call made
abbrev pub made_size : Request → ℕ
made_size (CreateVolume origin size tags token) = unwrap_or size 0
made_size first = 0

-- the volume that the first call with the account's client token made
abbrev pub first_volume : ℕ → TokenRow → VolKey
first_volume account row = record { account = account; number = row.number }

-- a client token that the account has used: the answer of its first call to the same call, and a conflict to another one
abbrev pub repeat_create : ℕ → Option SnapKey → Option ℕ → List Tag → TokenRow → Result Decision Refusal
repeat_create account origin size tags row = do
  refuse_if (not (is_same_create row.first origin size tags)) (TokenConflict (first_key account row))
  Ok (decision.Kept (VolumeShown true (made_size row.first) origin tags (first_volume account row)))

-- a call that repeats no other; the change holds the size that the volume gets
abbrev pub fresh_create : Rows → Moment → ℕ → Option SnapKey → Option ℕ → List Tag → Option (List ℕ) → Result Decision Refusal
fresh_create rows at account origin size tags token = do
  let key : VolKey = next_volume rows account
  least ← least_size rows account at.second origin
  let wanted : ℕ = unwrap_or size least
  refuse_if (nat_lt wanted least) BadSize
  refuse_if (nat_le most_volumes (volume_count rows account)) (Quota Volumes most_volumes)
  refuse_if (has_token token && nat_le most_tokens (token_count rows account)) (Quota ClientTokens most_tokens)
  refuse_if (nat_le most_ids key.number) (Quota Ids most_ids)
  Ok (decision.Change (makes account at (CreateVolume origin (Some wanted) tags token) (Vol key ∷ [])) (VolumeShown true wanted origin tags key))

abbrev pub decide_create : Rows → Moment → ℕ → Option SnapKey → Option ℕ → List Tag → Option (List ℕ) → Result Decision Refusal
decide_create rows at account origin size tags token =
    by_token (first_use rows account token) (repeat_create account origin size tags) (fresh_create rows at account origin size tags token)

-- the line of a volume that begins with nothing
abbrev pub new_volume_line : VolKey → Line
new_volume_line key = record { of_volume = true; account = key.account; number = key.number }

-- the origin's line, or its own
abbrev pub volume_line : fin.FinMap snap_cmp SnapRow → VolKey → Option SnapKey → Line
volume_line snaps key None = new_volume_line key
volume_line snaps key (Some origin) = line_by (new_volume_line key) (fin.get snaps origin)

-- a volume gets the account's next number
abbrev pub with_volume : Rows → VolKey → VolRow → Rows
with_volume rows key row = record rows {
  vols = fin.insert rows.vols key row;
  own = fin.insert rows.own key.account (record (own_of rows key.account) { next_vol = key.number + 1 });
}

abbrev pub commit_create : Rows → Moment → Option VolKey → Option SnapKey → Option ℕ → List Tag → Option (List ℕ) → Rows
commit_create rows at None origin size tags token = rows
commit_create rows at (Some key) origin size tags token =
    record (with_volume rows key (record { key = key; size = unwrap_or size 0; line = volume_line rows.snaps key origin; origin = origin; tags = tags })) {
      tokens = with_token rows.tokens at key.account key.number (CreateVolume origin size tags token) token;
    }

abbrev pub decide_volume : Rows → ℕ → VolKey → Result Decision Refusal
decide_volume rows account key = do
  row ← the_volume rows account key
  Ok (decision.View (VolumeShown false row.size row.origin row.tags key))

abbrev pub decide_drop : Rows → Moment → ℕ → VolKey → Result Decision Refusal
decide_drop rows at account key = do
  row ← the_volume rows account key
  Ok (decision.Change (alters account at (DeleteVolume key)) Done)

abbrev pub commit_drop : Rows → VolKey → Rows
commit_drop rows key = record rows { vols = fin.remove rows.vols key }
