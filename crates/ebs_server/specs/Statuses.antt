-- The statuses of a program that serves.
use Rattle.std.specs.Prelude.{ℕ, Bool, true, false, List, if◌then◌else◌}
use Rattle.std.specs.List.{list_any}
use Rattle.ebs_disk_store.specs.declared.refusal.OpenRefusal.TheVariants.{DiskFailed}
use Rattle.ebs_server.specs.declared.post.Post.{Post}
use Rattle.ebs_server.specs.declared.post.PostEnd.{PostEnd}
use Rattle.ebs_server.specs.declared.post.PostEnd.TheVariants as ends
use Rattle.ebs_server.specs.declared.serving.ServeEnd.{ServeEnd}
use Rattle.ebs_server.specs.declared.serving.ServeEnd.TheVariants.{Refused, Ended, Memory}

abbrev pub is_failed_end : PostEnd → Bool
is_failed_end ends.ListenFailed = true
is_failed_end end = false

abbrev pub is_starved_end : PostEnd → Bool
is_starved_end ends.Memory = true
is_starved_end end = false

-- 0 where each post was closed, 4 where a listener failed, else 8
abbrev pub ended_at : {L K : Type 0} → List (Post L K × PostEnd) → ℕ
ended_at ends = if list_any (λ end. is_failed_end end.1) ends then 4 else (if list_any (λ end. is_starved_end end.1) ends then 8 else 0)

-- 2 where the disk failed at the start, 3 where it has no store that can be used
abbrev pub status_at : {L K D : Type 0} → ServeEnd L K D → ℕ
status_at (Refused DiskFailed disk) = 2
status_at (Refused refusal disk) = 3
status_at (Ended ends disk) = ended_at ends.items
status_at (Memory disk) = 8
