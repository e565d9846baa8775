-- The states of a framer.
use Rattle.std.specs.Prelude.{Option, Some, None, ℕ, List, ⊤, ◌≡◌, ◌<◌, ◌≤◌, length, drop}
use Rattle.ebs_http.specs.Messages.{Stands}
use Rattle.ebs_http.specs.declared.message.BadKind.{BadKind}
use Rattle.ebs_http.specs.declared.message.Step.TheVariants as step
use Rattle.ebs_http.specs.declared.state.State.{State}
use Rattle.ebs_http.specs.declared.state.State.TheVariants.{Head, Fields, Body, Bad}
use Rattle.ebs_http.specs.declared.state.Transition.{Transition}
use Rattle.ebs_http.specs.inner.Begun.{HasBegun}
use Rattle.ebs_http.specs.inner.Received.{HasReceived}
use Rattle.ebs_http.specs.inner.Waiting.{Waiting, Gives, TakesMemory, longest_message}

-- the kind that was found
abbrev pub bad_of : State → Option BadKind
bad_of Head = None
bad_of (Fields begun) = None
bad_of (Body received) = None
bad_of (Bad kind) = Some kind

-- what the state says of the bytes that wait holds of them
abbrev pub IsStateOf : List ℕ → State → Type 0
IsStateOf bytes Head = ⊤
IsStateOf bytes (Fields begun) = HasBegun bytes begun
IsStateOf bytes (Body received) = HasReceived bytes received
IsStateOf bytes (Bad kind) = Stands kind bytes

-- the bytes that wait in this state
abbrev pub waiting_in : List ℕ → State → Waiting
waiting_in bytes state = record { bytes = bytes; bad = bad_of state }

-- the state, the bytes taken and the step that follow on a state
pub record IsTransition (bytes : List ℕ) (old : State) (next : Transition) : Type 0 where
  pub within : next.taken ≤ length bytes
  pub state : IsStateOf (drop next.taken bytes) next.state
  pub gives : Gives (waiting_in bytes old) (waiting_in (drop next.taken bytes) next.state) next.step
  pub for_ever : (kind : BadKind) → bad_of old ≡ Some kind → next.step ≡ step.Bad kind
  pub wanted : next.step ≡ step.Memory → TakesMemory bytes
  pub short : next.step ≡ step.More → length bytes < longest_message
