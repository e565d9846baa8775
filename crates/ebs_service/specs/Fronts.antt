-- What the images of the moments of a session, or of a command, stand for, and how often the disk failed.
use Rattle.std.specs.Prelude.{Bool, true, false, Result, Ok, Err, ℕ, ◌+◌, ◌&&◌, List, [], ◌∷◌, if◌then◌else◌, ◌-◌, ◌^◌, ◌≤◌, min, ◌≡◌, ◌⊎◌, ◌++◌, length}
use Rattle.ebs_world.specs.Image.{Image}
use Rattle.ebs_model.specs.Machine.{Machine}
use Rattle.ebs_world.specs.View.{View}
use Rattle.ebs_exchanges.specs.Stops.{Point, OwnCall, IsUntold, Makes, IsOpen, second_at, Along, Does, Obeys, IsOwn}
use Rattle.ebs_model.specs.declared.request.Call.{Call}
use Rattle.ebs_model.specs.declared.answer.Answer.{Answer}
use Rattle.ebs_recovery.specs.Stands.{Stands}
use Rattle.ebs_model.specs.declared.answer.Answer.TheVariants.{Refused}
use Rattle.ebs_model.specs.declared.answer.Refusal.{Refusal}
use Rattle.ebs_model.specs.declared.answer.Refusal.TheVariants.{Unavailable}
use Rattle.ebs_rest.specs.CallOf.{call_of}
use Rattle.ebs_exchanges.specs.Exchanges.{Exchange}

-- ---- how often the disk failed

abbrev pub is_e17 : Answer → Bool
is_e17 (Refused Unavailable) = true
is_e17 answer = false

abbrev pub is_call : Result Call Refusal → Bool
is_call (Ok call) = true
is_call (Err refusal) = false

-- how many calls were answered E17
abbrev pub failures_in : List Exchange → ℕ
failures_in [] = 0
failures_in (x ∷ xs) = (if is_call (call_of x.message) && is_e17 x.answer then 1 else 0) + failures_in xs

-- the count of faults rose that often, or is at its type's last value
abbrev pub IsCounted : View → List Exchange → View → Type 0
IsCounted old xs new = min (old.faults + failures_in xs) (2 ^ 64 - 1) ≤ new.faults

-- ---- of exchanges, or of a command's own calls: the call that one of them makes, and its part of both machines

-- an image stands for what is recorded behind the first of these and one change more, that of a call that is open then, made at its own moment
pub record OneMoreOf {X : Type 0} (Makes : X → OwnCall → Type 0) (Part : Point → X → Point → Type 0) (start : Point) (xs front : List X) (reached : Point) (c : Image) : Type 0 where
  pub made : OwnCall
  pub at : Point
  pub is_open : IsOpen Makes Part start xs front reached made at
  pub next : Machine
  pub lost : IsUntold made.call (second_at at made) reached.recorded next
  -- while it is in hand it is done with the very bytes that it brought
  pub exact : front ≡ is_open.before → lost.done ≡ made.call.request
  pub stands : Stands c next

-- an image stands for what is recorded behind the first of these, at least so many, of which the last may still be in hand; or for that and one change more
pub record FrontOf {X : Type 0} (Makes : X → OwnCall → Type 0) (Part : Point → X → Point → Type 0) (start : Point) (xs : List X) (least : ℕ) (c : Image) : Type 0 where
  pub front : List X
  pub back : List X
  pub is : xs ≡ front ++ back
  pub long : least ≤ length front
  pub after : Point
  pub runs : Along Part start front after
  pub stands : Stands c after.recorded ⊎ OneMoreOf Makes Part start xs front after c

-- ---- of a session

abbrev pub StandsForFront : Point → List Exchange → ℕ → Image → Type 0
StandsForFront p xs least c = FrontOf Makes Does p xs least c

-- ---- of the calls that a command makes by itself

abbrev pub StandsForCalls : Point → List OwnCall → ℕ → Image → Type 0
StandsForCalls p xs least c = FrontOf IsOwn Obeys p xs least c
