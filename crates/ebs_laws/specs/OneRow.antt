-- One row that is written anew.
use Rattle.std.specs.Prelude.{◌≡◌, ◌≢◌, ℕ, true}
use Rattle.std.specs.FinMap as fin
use Rattle.std.specs.declared.option.Option.TheVariants.{Some}
use Rattle.ebs_model.specs.declared.keys.SnapKey.{SnapKey}
use Rattle.ebs_model.specs.declared.rows.SnapRow.{SnapRow}
use Rattle.ebs_model.specs.Time.{Snapshot}
use Rattle.ebs_model.specs.Machine.{Machine}

-- a completed snapshot of the account's own has another row, and its blocks as before; every other snapshot, account and client token stays
pub record WritesRow (old new : Machine) (account : ℕ) (key : SnapKey) : Type 0 where
  pub found : Snapshot
  pub was_there : fin.get old.snaps key ≡ Some found
  pub owned : account ≡ key.account
  pub completed : found.row.completed ≡ true
  pub row : SnapRow
  pub is_there : fin.get new.snaps key ≡ Some (record { row = row; array = found.array })
  pub other_snapshots : (k : SnapKey) → k ≢ key → fin.get new.snaps k ≡ fin.get old.snaps k
  pub accounts : new.own ≡ old.own
  pub tokens : new.tokens ≡ old.tokens
  pub volumes : new.vols ≡ old.vols
  pub disks : new.disks ≡ old.disks
  pub rules : new.books ≡ old.books
  pub policies : new.policies ≡ old.policies
