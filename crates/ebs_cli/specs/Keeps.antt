-- What was answered stays.
use Rattle.std.specs.Prelude.{◌≡◌, ℕ, List, ◌++◌, length, true}
use Rattle.std.specs.List.{AllByRecursion}
use Rattle.sha2.specs.Sha256.{sha256}
use Rattle.ebs_world.specs.Image.{Image}
use Rattle.ebs_world.specs.View.{View}
use Rattle.ebs_model.specs.Machine.{Machine}
use Rattle.ebs_model.specs.declared.answer.Answer.TheVariants.{BlockRead}
use Rattle.ebs_exchanges.specs.Exchanges.{Exchange}
use Rattle.ebs_recovery.specs.Stands.{Stands}
use Rattle.ebs_cli.specs.Told.{Kept, replies_on}
use Rattle.ebs_cli.specs.Left.{IsLeftOf}
use Rattle.ebs_cli.specs.Done.{IsHad}
use Rattle.ebs_session.specs.Session.{Chain}

-- each block that is handed out has the digest that is told of it
abbrev pub AreWhole : List Exchange → Type 0
AreWhole xs = AllByRecursion (λ (x : Exchange). (digest bytes : List ℕ) → x.answer ≡ BlockRead digest bytes → sha256 bytes ≡ digest) xs

-- the disk as it was when the first exchanges had been answered: whatever a crash leaves from then on has them
pub record HasThem {D : Type 0} (view : D → View) (kept : Kept) (opened e : D) (m : Machine) (front back : List Exchange) : Type 0 where
  pub mid : D
  pub between : Kept
  pub answered : Chain (replies_on view) kept opened front between mid
  pub left : (c : Image) → (view e).left_since (view mid).moment c → IsLeftOf m (front ++ back) (length front) c

-- the exchanges were answered, one after another, by the store that was had of the disk, whatever the disk; and so it is of any first of them, over a disk that stood for a machine
pub record KeepsAll {D : Type 0} (view : D → View) (sound : Type 0) (d e : D) (xs : List Exchange) : Type 0 where
  pub opened : D
  pub kept : Kept
  pub had : IsHad (view d) (view opened) kept
  pub last : Kept
  pub answers : Chain (replies_on view) kept opened xs last e
  pub each : sound → (view d).tells ≡ true → (view d).honest ≡ true → (m : Machine) → Stands (view d).reads m → (front back : List Exchange) → xs ≡ front ++ back → HasThem view kept opened e m front back
