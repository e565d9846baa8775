-- A pass between two turns.
use Rattle.std.specs.Prelude.{ℕ}
use Rattle.atomic_table.specs.declared.shared.Shared.{Shared}
use Rattle.atomic_table.specs.declared.shared.Seat.{Seat}
use Rattle.ebs_turns.specs.declared.seats.Opening.{Opening}
use Rattle.ebs_turns.specs.declared.seats.Place.{Place}
use Rattle.ebs_turns.specs.declared.seats.Rule.{Rule}
use Rattle.ebs_turns.specs.declared.seats.View.{View}
use Rattle.ebs_turns.specs.Known.{IsAt, IsResting}

pub record IsReady {T I : Type 0} (table : Shared (Place T I) (View T I) (Opening T) (Rule T I)) (passes : ℕ) (seat : Seat (Place T I) (View T I)) : Type 0 where
  pub at : IsAt table passes seat
  pub rests : IsResting seat.me
