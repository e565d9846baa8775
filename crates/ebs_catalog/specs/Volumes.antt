-- The tests on a new volume.
use Rattle.std.specs.Prelude.{ℕ, ◌&&◌, nat_le, nat_lt, List, unwrap_or}
use Rattle.std.specs.declared.option.Option.{Option}
use Rattle.std.specs.declared.result.Result.{Result}
use Rattle.std.specs.declared.result.Result.TheVariants.{Ok}
use Rattle.ebs_model.specs.declared.keys.SnapKey.{SnapKey}
use Rattle.ebs_model.specs.declared.keys.VolKey.{VolKey}
use Rattle.ebs_model.specs.declared.keys.Moment.{Moment}
use Rattle.ebs_model.specs.declared.answer.Refusal.{Refusal}
use Rattle.ebs_model.specs.declared.answer.Refusal.TheVariants.{BadSize, Quota}
use Rattle.ebs_model.specs.declared.answer.QuotaName.TheVariants.{Volumes, ClientTokens, Ids}
use Rattle.ebs_model.specs.Quotas.{most_volumes, most_tokens, most_ids}
use Rattle.ebs_model.specs.Refuse.{◌>>=◌, ◌>>◌, refuse_if}
use Rattle.ebs_model.specs.Rows.{Rows, volume_count, token_count}
use Rattle.ebs_model.specs.Calls.Start.{least_size, has_token}
use Rattle.ebs_model.specs.Calls.Volume.{next_volume}

-- the key of a new volume and its size in GiB, where the account may create it
abbrev pub next_created : Rows → Moment → ℕ → Option SnapKey → Option ℕ → Option (List ℕ) → Result (VolKey × ℕ) Refusal
next_created rows at account origin size token = do
  least ← least_size rows account at.second origin
  refuse_if (nat_lt (unwrap_or size least) least) BadSize
  refuse_if (nat_le most_volumes (volume_count rows account)) (Quota Volumes most_volumes)
  refuse_if (has_token token && nat_le most_tokens (token_count rows account)) (Quota ClientTokens most_tokens)
  refuse_if (nat_le most_ids (next_volume rows account).number) (Quota Ids most_ids)
  Ok (next_volume rows account, unwrap_or size least)
