-- Beside what is promised: what the images of the moments of a session, or of a command, stand for.
use Rattle.std.specs.Prelude.{◌≡◌, ℕ, ◌+◌, ◌≤◌, List, length, ◌++◌}
use Rattle.ebs_world.specs.Image.{Image}
use Rattle.ebs_world.specs.View.{View, Leaves}
use Rattle.ebs_exchanges.specs.Exchanges.{Exchange}
use Rattle.ebs_exchanges.specs.Stops.{Point, Along, OwnCall, Makes, Does, Obeys, IsOwn}
use Rattle.ebs_recovery.specs.inner.Fits.{Seen, recorded, running}
use Rattle.ebs_service.specs.Fronts.{FrontOf, StandsForFront}

-- the machine that a store has recorded, and the one that answers its calls
abbrev pub point : View → Seen → Point
point v s = record { recorded = recorded v s; running = running v s }

-- ---- of exchanges, or of a command's own calls: the call that one of them makes, and its part of both machines

-- both machines went along these; after each of them there is a moment, no earlier than that before, from which on each image has all that was answered by then
pub record StoodOf {X : Type 0} (Makes : X → OwnCall → Type 0) (Part : Point → X → Point → Type 0) (old new : View) (s t : Seen) (xs : List X) : Type 0 where
  pub runs : Along Part (point old s) xs (point new t)
  pub moments : Leaves old new (FrontOf Makes Part (point old s) xs 0)
  -- the moment after so many of them
  pub when : ℕ → ℕ
  pub begins : when 0 ≡ old.moment
  pub ascends : (i : ℕ) → when i ≤ when (i + 1)
  pub ends : when (length xs) ≤ new.moment
  pub fronts : (i : ℕ) (c : Image) → i ≤ length xs → new.left_since (when i) c → FrontOf Makes Part (point old s) xs i c

-- ---- of a session

abbrev pub Stood : View → View → Seen → Seen → List Exchange → Type 0
Stood old new s t xs = StoodOf Makes Does old new s t xs

-- each image of a moment since the first exchanges were answered, where the disk was seen as `mid`, has them
abbrev pub Stays : View → View → View → Seen → List Exchange → List Exchange → Type 0
Stays old mid new s front back = (c : Image) → new.left_since mid.moment c → StandsForFront (point old s) (front ++ back) (length front) c

-- ---- of the calls that a command makes by itself

abbrev pub CallsStood : View → View → Seen → Seen → List OwnCall → Type 0
CallsStood old new s t xs = StoodOf IsOwn Obeys old new s t xs
