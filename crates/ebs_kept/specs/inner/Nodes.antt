-- The nodes that rows have in a checkpoint.
use Rattle.std.specs.Prelude.{◌≡◌, ℕ, true}
use Rattle.std.specs.declared.option.Option.TheVariants.{Some}
use Rattle.std.specs.FinMap as map
use Rattle.ebs_model.specs.declared.keys.SnapKey.{SnapKey}
use Rattle.ebs_model.specs.declared.keys.VolKey.{VolKey}
use Rattle.ebs_model.specs.declared.rows.SnapRow.{SnapRow}
use Rattle.ebs_model.specs.declared.rows.VolRow.{VolRow}
use Rattle.ebs_model.specs.declared.rows.RowStatus.{RowStatus}
use Rattle.ebs_model.specs.declared.rows.RowStatus.TheVariants.{Pending, Completed, Failed}
use Rattle.ebs_model.specs.Time.{status_at, stays}
use Rattle.ebs_model.specs.Rows.{Rows}
use Rattle.ebs_holds.specs.declared.holder.Holder.{Holder}
use Rattle.ebs_holds.specs.Holders.{of_snap, of_vol}
use Rattle.ebs_holds.specs.Holds.{HasClosed, HasOpen, Holding}

-- an upload that goes on has an open node, and what is completed a closed one
abbrev pub HasNodeBy : RowStatus → Holding → Holder → Type 0
HasNodeBy Pending h q = HasOpen h q
HasNodeBy Completed h q = HasClosed h q
HasNodeBy Failed h q = Unit {0}

pub record HaveNodes (now : ℕ) (rows : Rows) (h : Holding) : Type 0 where
  pub snapshots : (key : SnapKey) (row : SnapRow) → map.get rows.snaps key ≡ Some row → stays now row ≡ true → HasNodeBy (status_at row now) h (of_snap key)
  pub volumes : (key : VolKey) (row : VolRow) → map.get rows.vols key ≡ Some row → HasOpen h (of_vol key)
