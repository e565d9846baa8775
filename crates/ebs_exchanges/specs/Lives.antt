-- The life of a disk: what was called in the runs of the program over it, one after the other, and how they stopped.
use Rattle.std.specs.Prelude.{ℕ, ◌≡◌, ◌≤◌, Ok, List, map}
use Rattle.ebs_model.specs.Machine.{Machine, advance, empty_machine}
use Rattle.ebs_model.specs.declared.request.Call.{Call}
use Rattle.ebs_http.specs.declared.message.Message.{Message}
use Rattle.ebs_rest.specs.CallOf.{call_of}
use Rattle.ebs_exchanges.specs.Exchanges.{Exchange}
use Rattle.ebs_exchanges.specs.Stops.{OwnCall, IsUntold, Point, Does, Obeys, Along}

pub data Event : Type 0 where
  -- a message was answered; or it was in hand when the program stopped, and was done as it would have been answered
  exchanged : Exchange → Event
  -- a command of the program made a call by itself, as a tick runs policies, and it was answered
  commanded : OwnCall → Event
  -- the program stopped and began again with what is recorded
  restarted : Event
  -- it stopped so too, and the change that this message asked for was recorded, at this second; nobody was told of it
  lost : Message → ℕ → Event
  -- or the change of a call that a command made
  lost_command : Call → ℕ → Event
  -- or what time had ended by this second was given up, which was recorded
  aged : ℕ → Event

-- the change of a message's call, of which nobody was told
abbrev pub IsLost : Message → ℕ → Machine → Machine → Type 0
IsLost m second old new = (call : Call) × (call_of m ≡ Ok call) × IsUntold call second old new

-- both machines are this one
abbrev pub at_rest : Machine → Point
at_rest m = record { recorded = m; running = m }

-- what an event does to both: after a stop the running machine is the recorded one, whose clock may be an earlier one
abbrev pub Happens : Point → Event → Point → Type 0
Happens p (exchanged x) q = Does p x q
Happens p (commanded x) q = Obeys p x q
Happens p restarted q = q ≡ at_rest p.recorded
Happens p (lost m second) q = IsLost m second p.recorded q.recorded × (q ≡ at_rest q.recorded)
Happens p (lost_command call second) q = IsUntold call second p.recorded q.recorded × (q ≡ at_rest q.recorded)
Happens p (aged second) q = (p.recorded.clock.second ≤ second) × (q ≡ at_rest (advance p.recorded (record { second = second })))

-- all of them, in their order
abbrev pub Passes : Point → List Event → Point → Type 0
Passes p es q = Along Happens p es q

-- a disk's life begins with the empty machine, with some secret of its tokens
abbrev pub Lives : List Event → Point → Type 0
Lives es p = (secret : List ℕ) × Passes (at_rest (empty_machine secret)) es p

abbrev pub all_exchanged : List Exchange → List Event
all_exchanged xs = map exchanged xs

abbrev pub all_commanded : List OwnCall → List Event
all_commanded xs = map commanded xs
