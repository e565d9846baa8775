-- What follows of a disk's life.
use Rattle.std.specs.Prelude.{List, ◌++◌, [], ◌∷◌, ℕ, ◌≤◌}
use Rattle.ebs_model.specs.Machine.{Machine, advance}
use Rattle.ebs_model.specs.declared.request.Call.{Call}
use Rattle.ebs_http.specs.declared.message.Message.{Message}
use Rattle.ebs_exchanges.specs.Exchanges.{Exchange}
use Rattle.ebs_exchanges.specs.Lives.{Event, Lives, all_exchanged, restarted, at_rest, lost, IsLost, all_commanded, lost_command, aged}
use Rattle.ebs_exchanges.specs.ReadBack.{ReadsBack, IsRunFrom}
use Rattle.ebs_exchanges.specs.Stops.{Point, Runs, Along, OwnCall, Obeys, IsUntold}
use Rattle.ebs_exchanges.specs.inner.Lives.{IsLater}

-- a run of the program goes on with the life
abbrev pub LivesOn : Type 0
LivesOn = (past : List Event) (p q : Point) (xs : List Exchange) → Lives past p → Runs p xs q → Lives (past ++ all_exchanged xs) q

-- it may stop at any point, and then begins again with what is recorded
abbrev pub LivesAgain : Type 0
LivesAgain = (past : List Event) (p : Point) → Lives past p → Lives (past ++ restarted ∷ []) (at_rest p.recorded)

-- or with that after a change that nobody was told of
abbrev pub LivesUntold : Type 0
LivesUntold = (past : List Event) (p : Point) (m : Message) (second : ℕ) (next : Machine) → Lives past p → IsLost m second p.recorded next → Lives (past ++ lost m second ∷ []) (at_rest next)

-- so it is of a command
abbrev pub LivesOnByCommand : Type 0
LivesOnByCommand = (past : List Event) (p q : Point) (xs : List OwnCall) → Lives past p → Along Obeys p xs q → Lives (past ++ all_commanded xs) q

abbrev pub CommandIsLost : Type 0
CommandIsLost = (past : List Event) (p : Point) (call : Call) (second : ℕ) (next : Machine) → Lives past p → IsUntold call second p.recorded next → Lives (past ++ lost_command call second ∷ []) (at_rest next)

-- or with what time left at a second, where that was recorded
abbrev pub LivesAged : Type 0
LivesAged = (past : List Event) (p : Point) (second : ℕ) → Lives past p → p.recorded.clock.second ≤ second → Lives (past ++ aged second ∷ []) (at_rest (advance p.recorded (record { second = second })))

-- the running machine is the recorded one, or what time leaves of it: so a stop takes back nothing but time
abbrev pub StopForgetsTimeAlone : Type 0
StopForgetsTimeAlone = (es : List Event) (p : Point) → Lives es p → IsLater p.recorded p.running

-- in a life what was put last is read back
abbrev pub LifeReadsBack : Type 0
LifeReadsBack = (es : List Event) (p : Point) → Lives es p → ReadsBack es

-- the running machine is where the calls of the exchanges bring it
abbrev pub RunIsOfCalls : Type 0
RunIsOfCalls = (p q : Point) (xs : List Exchange) → Runs p xs q → IsRunFrom p.running xs q.running
