use Rattle.ebs_turns.specs.Known.{IsAt}
use Rattle.desk_tests.proofs.play.is_played.Given as goal

abbrev pub invariant-row : goal.invariant-row
invariant-row g l = IsAt l.desk.turns.board.shared l.desk.turns.passes l.pass.inner.seat
