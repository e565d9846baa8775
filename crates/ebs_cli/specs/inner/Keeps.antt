-- Beside what is promised: what was answered stays.
use Rattle.std.specs.Prelude.{List, ◌≡◌, ◌++◌}
use Rattle.ebs_world.specs.View.{View}
use Rattle.ebs_exchanges.specs.Exchanges.{Exchange}
use Rattle.ebs_disk_store.specs.inner.Told.{IfSound}
use Rattle.ebs_recovery.specs.inner.Fits.{Seen}
use Rattle.ebs_service.specs.inner.Fronts.{Stays}
use Rattle.ebs_service.specs.inner.Served.{served_on}
use Rattle.ebs_session.specs.Session.{Chain}

-- the store answered the exchanges, one after another, whatever its disk
pub record AnswersAll {D : Type 0} (view : D → View) (sound : Type 0) (store : Seen) (opened e : D) (xs : List Exchange) : Type 0 where
  pub last : Seen
  pub replies : Chain (served_on sound view) store opened xs last e

-- the replies fall apart behind the first exchanges, and from there on each image has them
abbrev pub FallsApart : {D : Type 0} → (D → View) → Type 0 → Seen → D → D → List Exchange → Type 0
FallsApart {D} view sound s d e xs = (front back : List Exchange) → xs ≡ front ++ back
    → (between : Seen) × (mid : D) × Chain (served_on sound view) s d front between mid × IfSound sound (view d) (Stays (view d) (view mid) (view e) s front back)
