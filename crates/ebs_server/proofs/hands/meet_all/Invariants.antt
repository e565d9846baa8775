use Rattle.std.proofs.Common.{◌≡◌, ◌+◌, ◌≤◌, ◌++◌, vec_len, vec_capacity, All}
use Rattle.ebs_turns.specs.Known.{IsAt}
use Rattle.ebs_server.specs.Hands.{IsReady, ends_back}
use Rattle.ebs_server.proofs.hands.meet_all.Given as goal

abbrev pub invariant-hand : goal.invariant-hand
invariant-hand g l = record {
  at : IsAt l.desk.turns.board.shared l.desk.turns.passes l.kept.inner.seat;
  tally : l.kept.inner.seat.me.0.tally + vec_len l.hands ≡ vec_len l.fn.hands;
  ready : All (λ hand. IsReady l.desk.turns.board.shared l.desk.turns.passes hand.pass.inner.seat) l.hands.items;
  ends : l.ends.items ++ ends_back l.hands.items ≡ ends_back l.fn.hands.items;
  room : vec_len l.ends + vec_len l.hands ≤ vec_capacity l.ends;
}

abbrev pub decreases-hand : goal.decreases-hand
decreases-hand g l = vec_len l.hands
