-- What a walk over the rows makes of their nodes.
use Rattle.std.specs.Prelude.{◌≡◌, ℕ, true}
use Rattle.std.specs.declared.option.Option.TheVariants.{Some}
use Rattle.std.specs.FinMap as map
use Rattle.ebs_model.specs.declared.keys.SnapKey.{SnapKey}
use Rattle.ebs_model.specs.declared.keys.VolKey.{VolKey}
use Rattle.ebs_model.specs.declared.rows.SnapRow.{SnapRow}
use Rattle.ebs_model.specs.declared.rows.VolRow.{VolRow}
use Rattle.ebs_model.specs.Time.{status_at, stays}
use Rattle.ebs_model.specs.Rows.{Rows}
use Rattle.ebs_holds.specs.declared.holder.Holder.{Holder}
use Rattle.ebs_holds.specs.Holders.{of_snap, of_vol}
use Rattle.ebs_holds.specs.Holds.{HasOpen, Holding, blocks_at, nodes_in}
use Rattle.ebs_holds.specs.Counted.{KeepsBlocks}
use Rattle.ebs_kept.specs.inner.Nodes.{HasNodeBy}

-- arrays stay, and so do the blocks that nodes keep and those that wait
pub record KeepsArrays (old new : Holding) : Type 0 where
  pub arrays : (q : Holder) → blocks_at new q ≡ blocks_at old q
  pub blocks : KeepsBlocks (nodes_in old) (nodes_in new)
  pub queue : new.queue ≡ old.queue

-- a snapshot that the moment leaves has the node of its status
abbrev pub HasSnapNode : ℕ → Holding → SnapKey → SnapRow → Type 0
HasSnapNode now h key row = stays now row ≡ true → HasNodeBy (status_at row now) h (of_snap key)

abbrev pub HaveSnapNodes : ℕ → Rows → Holding → Type 0
HaveSnapNodes now rows h = (key : SnapKey) (row : SnapRow) → map.get rows.snaps key ≡ Some row → HasSnapNode now h key row

abbrev pub HasVolNode : Holding → VolKey → VolRow → Type 0
HasVolNode h key row = HasOpen h (of_vol key)

abbrev pub HaveVolNodes : Rows → Holding → Type 0
HaveVolNodes rows h = (key : VolKey) (row : VolRow) → map.get rows.vols key ≡ Some row → HasVolNode h key row
