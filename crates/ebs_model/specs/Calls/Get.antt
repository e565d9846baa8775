-- GetSnapshotBlock: one block of a snapshot (EBS direct APIs reference).
use Rattle.std.specs.Prelude.{ℕ, true, Result, Ok, not, List}
use Rattle.std.specs.FinMap as fin
use Rattle.ebs_model.specs.declared.keys.SnapKey.{SnapKey}
use Rattle.ebs_model.specs.declared.keys.Moment.{Moment}
use Rattle.ebs_model.specs.declared.change.Decision.{Decision}
use Rattle.ebs_model.specs.declared.change.Decision.TheVariants as decision
use Rattle.ebs_model.specs.declared.answer.Answer.{Answer}
use Rattle.ebs_model.specs.declared.answer.Answer.TheVariants.{BlockRead}
use Rattle.ebs_model.specs.declared.answer.Refusal.{Refusal}
use Rattle.ebs_model.specs.declared.answer.Refusal.TheVariants.{BadIndex, BadBlockToken}
use Rattle.ebs_model.specs.Refuse.{◌>>=◌, ◌>>◌, refuse_if, some_or}
use Rattle.ebs_model.specs.Tokens.{is_block_token}
use Rattle.ebs_model.specs.Arrays.{Hash, WholeArray}
use Rattle.ebs_model.specs.Access.{ready}
use Rattle.ebs_model.specs.Rows.{Rows, the_row}

abbrev pub decide_get : Rows → Moment → ℕ → SnapKey → Result Decision Refusal
decide_get rows at account key = do
  row ← the_row rows key (ready account key at.second)
  Ok (decision.Read (record { size = row.size; related = true }))

-- the block's token comes before its index
abbrev pub read_block : Hash → List ℕ → SnapKey → ℕ → WholeArray → ℕ → List ℕ → Result Answer Refusal
read_block hash secret key now array index token = do
  refuse_if (not (is_block_token secret key index now token)) BadBlockToken
  block ← some_or (fin.get array index) BadIndex
  Ok (BlockRead (hash block.bytes) block.bytes)
