-- The tests on a new upload, and the client token that it keeps.
use Rattle.std.specs.Prelude.{ℕ, ◌≡◌, Bool, false, not, ◌&&◌, nat_le, nat_lt, List}
use Rattle.std.specs.FinMap as map
use Rattle.std.specs.declared.option.Option.{Option}
use Rattle.std.specs.declared.result.Result.{Result}
use Rattle.std.specs.declared.result.Result.TheVariants.{Ok}
use Rattle.std.specs.declared.option.Option.TheVariants.{None, Some}
use Rattle.ebs_model.specs.declared.keys.SnapKey.{SnapKey}
use Rattle.ebs_model.specs.declared.rows.TokenRow.{TokenRow}
use Rattle.ebs_model.specs.Keys.{token_cmp}
use Rattle.ebs_catalog.specs.declared.rows.NewToken.{NewToken}
use Rattle.ebs_model.specs.declared.keys.Moment.{Moment}
use Rattle.ebs_model.specs.declared.answer.Refusal.{Refusal}
use Rattle.ebs_model.specs.declared.answer.Refusal.TheVariants.{BadSize, OpenUploads, Quota}
use Rattle.ebs_model.specs.declared.answer.QuotaName.TheVariants.{Snapshots, ClientTokens, Ids}
use Rattle.ebs_model.specs.Quotas.{most_open, most_kept, most_tokens, most_ids}
use Rattle.ebs_model.specs.Refuse.{◌>>=◌, ◌>>◌, refuse_if}
use Rattle.ebs_model.specs.Rows.{Rows, open_count, kept_count, token_count}
use Rattle.ebs_model.specs.Calls.Start.{next_key, least_size, has_token}

-- the key of a new upload, where the account may start it
abbrev pub next_upload : Rows → Moment → ℕ → ℕ → Option SnapKey → Option (List ℕ) → Result SnapKey Refusal
next_upload rows at account size parent token = do
  least ← least_size rows account at.second parent
  refuse_if (nat_lt size least) BadSize
  refuse_if (nat_le most_open (open_count rows account at.second)) OpenUploads
  refuse_if (nat_le most_kept (kept_count rows account)) (Quota Snapshots most_kept)
  refuse_if (has_token token && nat_le most_tokens (token_count rows account)) (Quota ClientTokens most_tokens)
  refuse_if (nat_le most_ids (next_key rows account).number) (Quota Ids most_ids)
  Ok (next_key rows account)

-- the client tokens with one more
abbrev pub with_new : map.FinMap token_cmp TokenRow → Moment → ℕ → Option NewToken → map.FinMap token_cmp TokenRow
with_new tokens at number None = tokens
with_new tokens at number (Some new) = map.insert tokens new.key (record { at = at; first = new.first; number = number })

-- whether it is one more
abbrev pub is_new : map.FinMap token_cmp TokenRow → Option NewToken → Bool
is_new tokens None = false
is_new tokens (Some new) = not (map.contains_key tokens new.key)

-- a client token is the account's
abbrev pub IsOf : ℕ → Option NewToken → Type 0
IsOf account None = Unit {0}
IsOf account (Some new) = new.key.account ≡ account
