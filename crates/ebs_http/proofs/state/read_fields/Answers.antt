use Rattle.std.proofs.Common.{refl, arith}
use Rattle.ebs_http.proofs.ReceivedLemmas.{partial_more, open_partial}
use Rattle.ebs_http.proofs.state.read_fields.Goals as goal

pub returns-then-is_open_after : goal.returns-then-is_open_after
returns-then-is_open_after c =
    let more = partial_more c.args.bytes.now (open_partial c.args.bytes.now c.args.begun c.requires (c.if-is_open_after.ensures refl)) in
    rw c.stay.ensures (record { within = omega arith; state = c.lines_after.ensures; gives = (refl, refl, more.0, more.1); for_ever = λ k e. cc; wanted = λ e. cc; short = λ e. (let short = (c.if-is_open_after.ensures refl).short in omega (arith, short)) })
