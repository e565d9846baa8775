-- What a session does over a disk.
use Rattle.std.specs.Prelude.{List, length, ◌++◌, ◌≡◌, true, ℕ, ◌^◌, Option}
use Rattle.ebs_world.specs.Image.{Image}
use Rattle.ebs_world.specs.View.{View}
use Rattle.ebs_model.specs.Machine.{Machine}
use Rattle.ebs_exchanges.specs.Exchanges.{Exchange}
use Rattle.ebs_exchanges.specs.Lives.{Event, at_rest, Lives, all_exchanged}
use Rattle.ebs_exchanges.specs.ReadBack.{IsRunFrom, ReadsBack}
use Rattle.ebs_recovery.specs.Stands.{Stands}
use Rattle.ebs_service.specs.Fronts.{IsCounted}
use Rattle.ebs_session.specs.Session.{Session}
use Rattle.ebs_disk_store.specs.declared.refusal.OpenRefusal.{OpenRefusal}
use Rattle.ebs_cli.specs.Left.{IsLeftOf, Acknowledges}
use Rattle.ebs_opening.specs.Opens.{AllStand, IsUnready}
use Rattle.ebs_cli.specs.Opens.{OnlyMakes}
use Rattle.ebs_cli.specs.declared.outcome.Outcome.{Outcome}
use Rattle.ebs_cli.specs.declared.outcome.Outcome.TheVariants as outcome
use Rattle.ebs_session.specs.declared.end.End.{End}
use Rattle.ebs_exchanges.specs.Stops.{Point, Runs}

-- at the end whatever a crash leaves has all that was answered
abbrev pub EndsWith : Machine → View → List Exchange → Type 0
EndsWith m w xs = (c : Image) → w.may_leave c → IsLeftOf m xs (length xs) c

-- the exchanges of a session over a disk that stood for this machine, seen as v before the session and as w after it: they are a run of the
-- machine, they read back what was put in the disk's life, and no crash takes back what was answered; from the first moment on, where each image
-- stood for the machine
pub record WentFrom (m : Machine) (v w : View) (xs : List Exchange) : Type 0 where
  pub after : Point
  pub runs : Runs (at_rest m) xs after
  pub is_run : IsRunFrom m xs after.running
  pub read_back : (past : List Event) → Lives past (at_rest m) → ReadsBack (past ++ all_exchanged xs)
  pub acknowledges : Acknowledges v w (IsLeftOf m xs) (length xs)
  pub ends : EndsWith m w xs
  pub from_first : AllStand v m → (c : Image) → w.left_since v.moment c → IsLeftOf m xs 0 c

-- so it is over an honest disk that tells what a read gives
pub record WentOnDisk (v w : View) (xs : List Exchange) : Type 0 where
  pub tells : w.tells ≡ v.tells
  pub honest : w.honest ≡ v.honest
  pub counted : IsCounted v xs w
  pub went : v.tells ≡ true → v.honest ≡ true → (m : Machine) → Stands v.reads m → WentFrom m v w xs

-- there is no store, and where each image stood for a machine each image of each moment does
pub record IsUnbegun (v w : View) (refusal : OpenRefusal) : Type 0 where
  pub cause : IsUnready v w refusal
  pub opening : OnlyMakes v w
  pub stays : v.tells ≡ true → v.honest ≡ true → (m : Machine) → Stands v.reads m → AllStand v m → (c : Image) → w.left_since v.moment c → Stands c m

-- how a session was done, of whose exchanges `Went` holds: it answered messages by the store of the disk; or there was none, and nothing was taken, written or
-- read of the clock
pub data Played (Untouched : Type 0) (Went : List Exchange → Type 0) (v w : View) (left_old left_new written_old written_new clock_old clock_new : Option (List ℕ)) (done : Outcome) : Type 0 where
  answered : (end : End) → done ≡ outcome.Session end → Session (2 ^ 40) end Went left_old left_new written_old written_new clock_old clock_new
      → Played Untouched Went v w left_old left_new written_old written_new clock_old clock_new done
  unbegun : (refusal : OpenRefusal) → done ≡ outcome.Unready refusal → IsUnbegun v w refusal → Untouched
      → Played Untouched Went v w left_old left_new written_old written_new clock_old clock_new done
