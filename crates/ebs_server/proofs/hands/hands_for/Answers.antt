use Rattle.std.proofs.Common.{◌≡◌, sym, ap, subst, All, [], ◌∷◌, arith}
use Rattle.std.proofs.lemmas.List.Elements.{All-append}
use Rattle.ebs_server.specs.Hands.{IsReady}
use Rattle.ebs_server.proofs.Rows.{all_one, tasks_on}
use Rattle.ebs_server.proofs.hands.hands_for.Goals as goal

pub post-preserved : goal.post-preserved
post-preserved g c = record {
  ready = c.next_pass-pass.ensures.ready;
  all_ready = rw c.in-Ok.ensures.items (All-append (λ hand. IsReady c.args.desk.now.turns.board.shared c.args.desk.now.turns.passes hand.pass.inner.seat) c.post.hands.items (c.hand_for.result ∷ []) c.post.invariant.all_ready
      (all_one (λ hand. IsReady c.args.desk.now.turns.board.shared c.args.desk.now.turns.passes hand.pass.inner.seat) c.hand_for.result (rw c.hand_for.ensures c.next_pass-pass.ensures.next)));
  tasks = rw c.in-Ok.ensures.items (tasks_on c.post.hands.items c.hand_for.result c.post.posts.items c.pop.new.self.items c.in-Some.post _ (ap (λ h. h.task) c.hand_for.ensures) c.in-Some.ensures.items c.post.invariant.tasks);
  len = omega (arith, c.in-Ok.ensures.len, c.in-Some.ensures.cases, c.post.invariant.len);
  room = omega (arith, c.in-Ok.ensures.len, c.in-Ok.ensures.capacity, c.in-Some.ensures.cases, c.post.invariant.room);
}
