-- How posts end.
use Rattle.std.specs.Prelude.{◌≡◌, List, [], ◌∷◌, true}
use Rattle.ebs_model.specs.Quotas.{Rose}
use Rattle.ebs_doors.specs.Doors.{Door}
use Rattle.ebs_server.specs.declared.post.Post.{Post}
use Rattle.ebs_server.specs.declared.post.PostEnd.{PostEnd}
use Rattle.ebs_server.specs.declared.post.PostEnd.TheVariants.{Closed, ListenFailed, Memory}

-- what is told of a post's listener where it ended so: it is closed, or its count of faults rose
abbrev pub IsPostEnd : Door → Door → PostEnd → Type 0
IsPostEnd old new Closed = new.closed ≡ true
IsPostEnd old new ListenFailed = Rose old.faults new.faults
IsPostEnd old new Memory = Unit {0}

-- each post is given back with its end, in their order
abbrev pub AreEnded : {L K : Type 0} → (L → Door) → List (Post L K) → List (Post L K × PostEnd) → Type 0
AreEnded door [] [] = Unit {0}
AreEnded door (post ∷ posts) ((left, end) ∷ ends) = IsPostEnd (door post.listener) (door left.listener) end × AreEnded door posts ends
AreEnded door [] (end ∷ ends) = ⊥
AreEnded door (post ∷ posts) [] = ⊥
