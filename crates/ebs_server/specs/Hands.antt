-- The hands of a server: each has a post or is the collector, and has a pass.
use Rattle.std.specs.Prelude.{◌≡◌, ℕ, List, [], ◌∷◌, ◌++◌}
use Rattle.atomic_table.specs.declared.shared.Shared.{Shared}
use Rattle.atomic_table.specs.declared.shared.Seat.{Seat}
use Rattle.ebs_doors.specs.Doors.{Door}
use Rattle.ebs_turns.specs.declared.seats.Opening.{Opening}
use Rattle.ebs_turns.specs.declared.seats.Place.{Place}
use Rattle.ebs_turns.specs.declared.seats.Rule.{Rule}
use Rattle.ebs_turns.specs.declared.seats.View.{View}
use Rattle.ebs_turns.specs.Known.{IsAt}
use Rattle.ebs_server.specs.declared.hand.Hand.{Hand}
use Rattle.ebs_server.specs.declared.hand.Task.{Task}
use Rattle.ebs_server.specs.declared.hand.Task.TheVariants.{Serve, Collect}
use Rattle.ebs_server.specs.declared.post.Post.{Post}
use Rattle.ebs_server.specs.declared.post.PostEnd.{PostEnd}
use Rattle.ebs_server.specs.Posts.{IsPostEnd}

-- the pass is of the desk with this table, and stands for itself alone
pub record IsReady {T I : Type 0} (table : Shared (Place T I) (View T I) (Opening T) (Rule T I)) (passes : ℕ) (seat : Seat (Place T I) (View T I)) : Type 0 where
  pub at : IsAt table passes seat
  pub one : seat.me.0.tally ≡ 1

module _ {L K : Type 0} where
  -- what a task is after it was done, and how it ended
  abbrev pub IsDone : (L → Door) → Task L K → Task L K → PostEnd → Type 0
  IsDone door (Serve old) (Serve new) end = IsPostEnd (door old.listener) (door new.listener) end
  IsDone door (Collect old) (Collect new) end = Unit {0}
  IsDone door (Serve old) (Collect new) end = ⊥
  IsDone door (Collect old) (Serve new) end = ⊥

  -- the post of a task, with its end
  abbrev pub ends_in : Task L K → PostEnd → List (Post L K × PostEnd)
  ends_in (Serve post) end = (post, end) ∷ []
  ends_in (Collect clock) end = []

  module _ {P : Type 0} where
    -- each task was done
    abbrev pub AreDone : (L → Door) → List (Hand L K P) → List (Hand L K P) → Type 0
    AreDone door [] [] = Unit {0}
    AreDone door (x ∷ xs) (y ∷ ys) = IsDone door x.task y.task y.end × AreDone door xs ys
    AreDone door [] (y ∷ ys) = ⊥
    AreDone door (x ∷ xs) [] = ⊥

    abbrev pub task_of : Hand L K P → Task L K
    task_of hand = hand.task

    -- the posts of the tasks, each with its end, from the last one to the first
    abbrev pub ends_back : List (Hand L K P) → List (Post L K × PostEnd)
    ends_back [] = []
    ends_back (x ∷ xs) = ends_back xs ++ ends_in x.task x.end
