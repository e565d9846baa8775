use Rattle.std.proofs.Common.{◌≡◌, ◌+◌, ◌<◌, ◌++◌, map, reverse, vec_len, vec_capacity, All}
use Rattle.ebs_server.specs.declared.hand.Task.TheVariants.{Serve}
use Rattle.ebs_server.specs.Hands.{IsReady, task_of}
use Rattle.ebs_server.proofs.hands.hands_for.Given as goal

abbrev pub invariant-post : goal.invariant-post
invariant-post g l = record {
  ready : IsReady l.desk.turns.board.shared l.desk.turns.passes l.first.inner.seat;
  all_ready : All (λ hand. IsReady l.desk.turns.board.shared l.desk.turns.passes hand.pass.inner.seat) l.hands.items;
  tasks : map task_of l.hands.items ++ map Serve (reverse l.posts.items) ≡ map Serve (reverse l.fn.posts.items);
  len : vec_len l.hands + vec_len l.posts ≡ vec_len l.fn.hands + vec_len l.fn.posts;
  room : vec_len l.hands + vec_len l.posts < vec_capacity l.hands;
}

abbrev pub decreases-post : goal.decreases-post
decreases-post g l = vec_len l.posts
