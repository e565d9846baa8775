-- CreateSnapshot, WriteVolumeBlock and ReadVolumeBlock: the blocks of a volume (EBS User Guide, volumes and snapshots).
use Rattle.std.specs.Prelude.{ℕ, true, false, List, [], Option, None, Some, ◌∷◌, nat_le, Result, Ok}
use Rattle.std.specs.FinMap as fin
use Rattle.ebs_model.specs.declared.keys.SnapKey.{SnapKey}
use Rattle.ebs_model.specs.declared.keys.VolKey.{VolKey}
use Rattle.ebs_model.specs.declared.keys.Moment.{Moment}
use Rattle.ebs_model.specs.declared.keys.AnyKey.TheVariants.{Snap}
use Rattle.ebs_model.specs.declared.tags.Tag.{Tag}
use Rattle.ebs_model.specs.declared.rows.SnapRow.{SnapRow}
use Rattle.ebs_model.specs.declared.rows.VolRow.{VolRow}
use Rattle.ebs_model.specs.declared.rows.LockState.TheVariants as lock
use Rattle.ebs_model.specs.declared.rows.Tier.TheVariants as tier
use Rattle.ebs_model.specs.declared.request.Request.TheVariants.{CreateSnapshot, WriteVolumeBlock}
use Rattle.ebs_model.specs.declared.change.Decision.{Decision}
use Rattle.ebs_model.specs.declared.change.Decision.TheVariants as decision
use Rattle.ebs_model.specs.declared.answer.Answer.{Answer}
use Rattle.ebs_model.specs.declared.answer.Answer.TheVariants.{SnapshotShown, BlockWritten, BlockRead, ZeroBlockRead}
use Rattle.ebs_model.specs.declared.answer.Refusal.{Refusal}
use Rattle.ebs_model.specs.declared.answer.Refusal.TheVariants.{Quota, BadIndex}
use Rattle.ebs_model.specs.declared.answer.QuotaName.TheVariants.{Snapshots, Ids}
use Rattle.ebs_model.specs.Quotas.{most_kept, most_ids, blocks_of}
use Rattle.ebs_model.specs.Refuse.{◌>>=◌, ◌>>◌, refuse_if}
use Rattle.ebs_model.specs.Arrays.{Hash, WholeBlock, WholeArray}
use Rattle.ebs_model.specs.Views.{view_of}
use Rattle.ebs_model.specs.Rows.{Rows, the_volume, kept_count}
use Rattle.ebs_model.specs.Decisions.{makes, alters}
use Rattle.ebs_model.specs.Calls.Start.{next_key, with_upload}

-- a snapshot of a volume: it is completed at once, and has the volume's size and line
abbrev pub snapped_row : Moment → SnapKey → VolKey → VolRow → Option (List ℕ) → List Tag → SnapRow
snapped_row now key volume row description tags = record {
  key = key;
  size = row.size;
  line = row.line;
  parent = None;
  volume = Some volume;
  policy = None;
  start = now;
  timeout = 0;
  last = now;
  completed = true;
  put = fin.empty;
  description = description;
  tags = tags;
  shared = [];
  public = false;
  lock = lock.None;
  tier = tier.Standard;
  bin_end = None;
}

abbrev pub decide_snap : Rows → Moment → ℕ → VolKey → Option (List ℕ) → List Tag → Result Decision Refusal
decide_snap rows at account volume description tags = do
  let key : SnapKey = next_key rows account
  row ← the_volume rows account volume
  refuse_if (nat_le most_kept (kept_count rows account)) (Quota Snapshots most_kept)
  refuse_if (nat_le most_ids key.number) (Quota Ids most_ids)
  Ok (decision.Change (makes account at (CreateSnapshot volume description tags) (Snap key ∷ [])) (SnapshotShown true (view_of account at.second key (snapped_row at key volume row description tags))))

abbrev pub with_snapped : Rows → Moment → SnapKey → VolKey → Option (List ℕ) → List Tag → Option VolRow → Rows
with_snapped rows at key volume description tags None = rows
with_snapped rows at key volume description tags (Some row) = with_upload rows key (snapped_row at key volume row description tags)

abbrev pub commit_snap : Rows → Moment → Option SnapKey → VolKey → Option (List ℕ) → List Tag → Rows
commit_snap rows at None volume description tags = rows
commit_snap rows at (Some key) volume description tags = with_snapped rows at key volume description tags (fin.get rows.vols volume)

-- the change keeps no bytes
abbrev pub decide_write : Rows → Moment → ℕ → VolKey → ℕ → List ℕ → Result Decision Refusal
decide_write rows at account key index digest = do
  row ← the_volume rows account key
  refuse_if (nat_le (blocks_of row.size) index) BadIndex
  Ok (decision.Change (alters account at (WriteVolumeBlock key index digest [])) (BlockWritten digest))

abbrev pub decide_fetch : Rows → ℕ → VolKey → Result Decision Refusal
decide_fetch rows account key = do
  row ← the_volume rows account key
  Ok (decision.Read (record { size = row.size; related = true }))

-- a block that was never written is all zeros
abbrev pub block_or_zeros : Hash → Option WholeBlock → Answer
block_or_zeros hash None = ZeroBlockRead
block_or_zeros hash (Some block) = BlockRead (hash block.bytes) block.bytes

abbrev pub read_volume : Hash → WholeArray → ℕ → ℕ → Result Answer Refusal
read_volume hash array index size = do
  refuse_if (nat_le (blocks_of size) index) BadIndex
  Ok (block_or_zeros hash (fin.get array index))
