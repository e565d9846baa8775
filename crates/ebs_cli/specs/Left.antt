-- What a crash leaves of a session, or of a command, for the runs of the program that come after it.
use Rattle.std.specs.Prelude.{◌≡◌, ◌⊎◌, ℕ, List, ◌+◌, ◌≤◌, [], ◌∷◌, ◌++◌, length, map}
use Rattle.ebs_world.specs.Image.{Image, Images}
use Rattle.ebs_world.specs.View.{View}
use Rattle.ebs_model.specs.Machine.{Machine, advance}
use Rattle.ebs_exchanges.specs.Exchanges.{Exchange}
use Rattle.ebs_model.specs.declared.answer.Answer.{Answer}
use Rattle.ebs_exchanges.specs.Stops.{Point, OwnCall, Makes, second_at, Along, Does, Obeys, IsOwn}
use Rattle.ebs_exchanges.specs.Lives.{Event, restarted, at_rest, Lives, lost, exchanged, lost_command, commanded, aged, all_commanded}
use Rattle.ebs_recovery.specs.Stands.{Stands}
use Rattle.ebs_service.specs.Fronts.{OneMoreOf, StandsForFront, StandsForCalls}
use Rattle.ebs_opening.specs.Opens.{AllStand}
use Rattle.ebs_commands.specs.Ticks.{Asked}

-- the program stops behind the first of these, and leaves this image of this machine: the one that is recorded then; or that after one change more, of a call that is
-- open then, made at its own moment
abbrev pub StopsAfter : {X : Type 0} → (X → OwnCall → Type 0) → (Point → X → Point → Type 0) → (X → ℕ → Event) → Point → List X → List X → Point → Image → Machine → Event → Type 0
StopsAfter {X} Makes Part lose start xs front reached c machine stop =
    ((machine ≡ reached.recorded) × (stop ≡ restarted)) ⊎ ((more : OneMoreOf Makes Part start xs front reached c) × (machine ≡ more.next) × (stop ≡ lose more.is_open.x (second_at more.at more.made)))

-- an image stands for a machine with which the disk's life goes on: after its past, the first of these, at least so many, and a stop
pub record GoesOn {X : Type 0} (Makes : X → OwnCall → Type 0) (Part : Point → X → Point → Type 0) (tell : X → Event) (lose : X → ℕ → Event) (start : Point) (past : List Event) (xs : List X) (least : ℕ) (c : Image) : Type 0 where
  pub front : List X
  pub back : List X
  pub is : xs ≡ front ++ back
  pub long : least ≤ length front
  pub reached : Point
  pub runs : Along Part start front reached
  pub machine : Machine
  pub stop : Event
  pub stops : StopsAfter Makes Part lose start xs front reached c machine stop
  pub lives : Lives ((past ++ map tell front) ++ stop ∷ []) (at_rest machine)
  pub stands : Stands c machine

-- after each of so many there is a moment, no earlier than that before, from which on whatever a crash leaves has all that was answered by then
pub record Acknowledges (v w : View) (Has : ℕ → Images) (count : ℕ) : Type 0 where
  -- the moment after so many
  pub when : ℕ → ℕ
  pub begins : v.moment ≤ when 0
  pub ascends : (i : ℕ) → when i ≤ when (i + 1)
  pub ends : when count ≤ w.moment
  pub left : (i : ℕ) (c : Image) → i ≤ count → w.left_since (when i) c → Has i c

abbrev pub loses_message : Exchange → ℕ → Event
loses_message x second = lost x.message second

-- what a crash leaves of a session that began with this machine has the first exchanges, at least so many, and beside them at most the change of a message that is answered by E17;
-- so whatever life the disk had, it goes on
pub record IsLeftOf (m : Machine) (xs : List Exchange) (least : ℕ) (c : Image) : Type 0 where
  pub front : StandsForFront (at_rest m) xs least c
  pub goes_on : (past : List Event) → Lives past (at_rest m) → GoesOn Makes Does exchanged loses_message (at_rest m) past xs least c

-- the calls of a command with their answers, as a life has them
abbrev pub own_call : Asked × Answer → OwnCall
own_call x = record { call = record { account = x.0.account; request = x.0.request }; reading = x.0.reading.second; answer = x.1 }

abbrev pub own_calls : List (Asked × Answer) → List OwnCall
own_calls xs = map own_call xs

abbrev pub loses_call : OwnCall → ℕ → Event
loses_call x second = lost_command x.call second

-- what a crash leaves of a command that began with this machine has the first of its calls, at least so many, and beside them at most the change of one that is answered by E17;
-- so whatever life the disk had, it goes on
pub record IsLeftOfCalls (m : Machine) (xs : List OwnCall) (least : ℕ) (c : Image) : Type 0 where
  pub front : StandsForCalls (at_rest m) xs least c
  pub goes_on : (past : List Event) → Lives past (at_rest m) → GoesOn IsOwn Obeys commanded loses_call (at_rest m) past xs least c

-- the calls of a command over a disk that stood for this machine, seen as v before the command and as w after it: they are the machine's own steps,
-- the disk's life goes on by them, and no crash takes back what was answered; from the first moment on, where each image stood for the machine
pub record Commanded (m : Machine) (v w : View) (xs : List OwnCall) : Type 0 where
  pub after : Point
  pub obeys : Along Obeys (at_rest m) xs after
  pub lives : (past : List Event) → Lives past (at_rest m) → Lives (past ++ all_commanded xs) after
  pub acknowledges : Acknowledges v w (IsLeftOfCalls m xs) (length xs)
  pub ends : (c : Image) → w.may_leave c → IsLeftOfCalls m xs (length xs) c
  pub from_first : AllStand v m → (c : Image) → w.left_since v.moment c → IsLeftOfCalls m xs 0 c

-- what a crash leaves of a collection at this second stands for the machine, or for what time leaves of it then, where that is recorded; so whatever life
-- the disk had, it goes on
pub record IsLeftAged (m : Machine) (second : ℕ) (c : Image) : Type 0 where
  pub machine : Machine
  pub stop : Event
  pub stops : ((machine ≡ m) × (stop ≡ restarted)) ⊎ ((machine ≡ advance m (record { second = second })) × (stop ≡ aged second))
  pub stands : Stands c machine
  pub lives : (past : List Event) → Lives past (at_rest m) → Lives (past ++ stop ∷ []) (at_rest machine)
