-- ArchiveSnapshot and RestoreTier: the tier of a snapshot (EBS User Guide, archive tier).
use Rattle.std.specs.Prelude.{Result, Ok, Err, ℕ, Option}
use Rattle.ebs_model.specs.declared.keys.SnapKey.{SnapKey}
use Rattle.ebs_model.specs.declared.keys.Moment.{Moment}
use Rattle.ebs_model.specs.declared.rows.SnapRow.{SnapRow}
use Rattle.ebs_model.specs.declared.rows.Tier.{Tier}
use Rattle.ebs_model.specs.declared.phases.TierPhase.{TierPhase}
use Rattle.ebs_model.specs.declared.phases.TierPhase.TheVariants.{Standard, Archived, Temporary}
use Rattle.ebs_model.specs.declared.request.Request.TheVariants.{ArchiveSnapshot, RestoreTier}
use Rattle.ebs_model.specs.declared.change.Decision.{Decision}
use Rattle.ebs_model.specs.declared.change.Decision.TheVariants as decision
use Rattle.ebs_model.specs.declared.answer.Answer.TheVariants.{Done, TierShown}
use Rattle.ebs_model.specs.declared.answer.StateName.{StateName}
use Rattle.ebs_model.specs.declared.answer.StateName.TheVariants as state
use Rattle.ebs_model.specs.declared.answer.Refusal.{Refusal}
use Rattle.ebs_model.specs.declared.answer.Refusal.TheVariants.{WrongState}
use Rattle.ebs_model.specs.Refuse.{◌>>=◌, or_left}
use Rattle.ebs_model.specs.Access.{done}
use Rattle.ebs_model.specs.Tiers.{archive, restore}
use Rattle.ebs_model.specs.Views.{tier_shown, restore_until}
use Rattle.ebs_model.specs.Rows.{Rows, the_row, with_row}
use Rattle.ebs_model.specs.Decisions.{alters}

abbrev pub tier_state : TierPhase → StateName
tier_state Standard = state.Standard
tier_state Archived = state.Archived
tier_state Temporary = state.Temporary

abbrev pub changed_tier : Result Tier TierPhase → Result Tier Refusal
changed_tier (Ok new) = Ok new
changed_tier (Err phase) = Err (WrongState (tier_state phase))

abbrev pub decide_archive : Rows → Moment → ℕ → SnapKey → Result Decision Refusal
decide_archive rows at account key = do
  row ← the_row rows key (done account key at.second)
  new ← changed_tier (archive row.tier at.second)
  Ok (decision.Change (alters account at (ArchiveSnapshot key)) Done)

abbrev pub archived_row : Moment → SnapRow → SnapRow
archived_row at row = record row { tier = or_left row.tier (archive row.tier at.second) }

abbrev pub commit_archive : Rows → Moment → SnapKey → Rows
commit_archive rows at key = with_row rows key (archived_row at)

abbrev pub decide_restore : Rows → Moment → ℕ → SnapKey → Option ℕ → Result Decision Refusal
decide_restore rows at account key days = do
  row ← the_row rows key (done account key at.second)
  new ← changed_tier (restore row.tier days at.second)
  Ok (decision.Change (alters account at (RestoreTier key days)) (TierShown (restore_until new at.second) (tier_shown new at.second)))

abbrev pub restored_row : Moment → Option ℕ → SnapRow → SnapRow
restored_row at days row = record row { tier = or_left row.tier (restore row.tier days at.second) }

abbrev pub commit_restore : Rows → Moment → SnapKey → Option ℕ → Rows
commit_restore rows at key days = with_row rows key (restored_row at days)
