-- A framer as the bytes that wait in it.
use Rattle.std.specs.Prelude.{drop, ◌<◌, ◌≤◌, length, vec_capacity}
use Rattle.ebs_http.specs.declared.framer.Framer.TheInside.{Inside}
use Rattle.ebs_http.specs.inner.States.{waiting_in, IsStateOf}
use Rattle.ebs_http.specs.inner.Waiting.{Waiting, roomiest}

abbrev pub waiting : Inside → Waiting
waiting f = waiting_in (drop f.start f.buffer.items) f.state

pub record IsSound (f : Inside) : Type 0 where
  pub within : f.start ≤ length f.buffer.items
  pub state : IsStateOf (drop f.start f.buffer.items) f.state
  pub roomy : 0 < length f.buffer.items → roomiest ≤ vec_capacity f.buffer
