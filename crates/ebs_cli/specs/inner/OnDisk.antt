-- Beside what is promised: what a session does over a disk.
use Rattle.std.specs.Prelude.{◌≡◌, List, true}
use Rattle.ebs_world.specs.View.{View}
use Rattle.ebs_model.specs.Machine.{Machine}
use Rattle.ebs_exchanges.specs.Exchanges.{Exchange}
use Rattle.ebs_recovery.specs.Stands.{Stands}
use Rattle.ebs_service.specs.Fronts.{IsCounted}
use Rattle.ebs_cli.specs.OnDisk.{WentFrom}
use Rattle.ebs_disk_store.specs.inner.Told.{IfSound}
use Rattle.ebs_recovery.specs.inner.Fits.{Seen}
use Rattle.ebs_service.specs.inner.Fronts.{Stood}

-- so it is where `sound` holds and the disk is honest and tells what a read gives; over any disk, no more calls are answered E17 than the disk has failed
pub record WentWhere (sound : Type 0) (v w : View) (xs : List Exchange) : Type 0 where
  pub tells : w.tells ≡ v.tells
  pub honest : w.honest ≡ v.honest
  pub counted : IsCounted v xs w
  pub went : sound → v.tells ≡ true → v.honest ≡ true → (m : Machine) → Stands v.reads m → WentFrom m v w xs

-- what is known of the exchanges over the store s that was opened: the count, and where `sound` holds, what they are
pub record AnsweredBy (sound : Type 0) (u w : View) (s : Seen) (xs : List Exchange) : Type 0 where
  pub tells : w.tells ≡ u.tells
  pub honest : w.honest ≡ u.honest
  pub counted : IsCounted u xs w
  pub last : Seen
  pub stood : IfSound sound u (Stood u w s last xs)
