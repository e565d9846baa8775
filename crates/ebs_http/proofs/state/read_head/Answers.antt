use Rattle.std.proofs.Common.{refl, arith}
use Rattle.ebs_http.proofs.ReceivedLemmas.{partial_more}
use Rattle.ebs_http.proofs.StateLemmas.{waiting_as}
use Rattle.ebs_http.proofs.state.read_head.Goals as goal

pub returns-in-Ok-Partial : goal.returns-in-Ok-Partial
returns-in-Ok-Partial c =
    let partial = rw c.in-Ok-Partial.field-0-is at c.in-Ok-Partial.ensures.outcome in
    let more = partial_more c.args.bytes.now partial in
    let same = waiting_as c.args.bytes.now c.partial_state.result c.partial_state.ensures.good in
    rw c.stay.ensures (record { within = omega arith; state = c.partial_state.ensures.state; gives = (refl, same, more.0, more.1); for_ever = λ k e. cc; wanted = λ e. cc; short = λ e. (let short = partial.short in omega (arith, short)) })
