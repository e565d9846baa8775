use Rattle.std.proofs.Common.{◌≡◌, []}
use Rattle.ebs_turns.specs.Tells.{with_ticket}
use Rattle.ebs_turns.proofs.turns.Turns.begin.Given as goal

abbrev pub invariant-loop : goal.invariant-loop
invariant-loop g l = (l.seat.table_id ≡ l.fn.pass.seat.table_id) × (l.seat.me ≡ (with_ticket l.ticket l.fn.pass.seat.me.0, []))
