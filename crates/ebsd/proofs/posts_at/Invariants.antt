use Rattle.std.proofs.Common.{◌-◌, ◌≤◌, vec_len}
use Rattle.ebsd.proofs.posts_at.Given as goal

abbrev pub invariant-post : goal.invariant-post
invariant-post l = vec_len l.posts ≤ l.workers

abbrev pub decreases-post : goal.decreases-post
decreases-post l = l.workers - vec_len l.posts
