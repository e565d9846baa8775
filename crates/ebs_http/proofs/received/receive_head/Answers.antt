use Rattle.std.proofs.Common.{arith, inl, inr}
use Rattle.std.proofs.lemmas.List.{length-take}
use Rattle.ebs_http.proofs.ReceivedLemmas.{front_short, outcome_all, bad_all, partial_all, takes_all, at_error}
use Rattle.ebs_http.proofs.received.receive_head.Goals as goal

pub parse_head-requires : goal.parse_head-requires
parse_head-requires c = record { short = rw c.front_of-front.ensures (front_short c.args.bytes.now) }

pub read_whole-requires-clause-short : goal.read_whole-requires-clause-short
read_whole-requires-clause-short c = rw c.front_of-front.ensures (front_short c.args.bytes.now)

pub returns-in-Whole-clause-outcome : goal.returns-in-Whole-clause-outcome
returns-in-Whole-clause-outcome c = outcome_all c.args.bytes.now _ (rw c.front_of-front.ensures at c.read_whole.ensures)

pub returns-in-Partial-clause-outcome : goal.returns-in-Partial-clause-outcome
returns-in-Partial-clause-outcome c =
    partial_all c.args.bytes.now (rw (c.in-Partial.is, c.front_of-front.ensures) at c.in_ok-spans.ensures.parse)

pub returns-in-Bad-clause-outcome : goal.returns-in-Bad-clause-outcome
returns-in-Bad-clause-outcome c = bad_all c.args.bytes.now (rw (c.in-Bad.is, c.front_of-front.ensures) at c.in_ok-spans.ensures.parse)

pub returns-in-TooLong-clause-outcome : goal.returns-in-TooLong-clause-outcome
returns-in-TooLong-clause-outcome c =
    let step = rw (c.in-TooLong.is, c.front_of-front.ensures) at c.in_ok-spans.ensures.parse in
    (omega (arith, step.0, length-take 65536 c.args.bytes.now), step.1)

pub returns-in_err-spans-clause-wanted : goal.returns-in_err-spans-clause-wanted
returns-in_err-spans-clause-wanted c =
    at_error c.from_residual.result (takes_all c.args.bytes.now (inr (rw c.front_of-front.ensures at c.in_err-spans.ensures.crowded)))

pub returns-in-Whole-clause-wanted : goal.returns-in-Whole-clause-wanted
returns-in-Whole-clause-wanted c =
    let whole = rw (c.in-Whole.is, c.front_of-front.ensures) at c.in_ok-spans.ensures.parse in
    at_error c.read_whole.result (takes_all c.args.bytes.now (inl (whole.1.0, _, whole.1.1.reads, tt)))
