use Rattle.std.proofs.Common.{◌≡◌, ◌∙◌, Err, arith, rules}
use Rattle.ebs_session.proofs.Servings.{one_more}
use Rattle.ebs_session.proofs.Endings.{none_waits}
use Rattle.ebs_session.proofs.Counts.{ok_is_no_err}
use Rattle.ebs_session.proofs.serving.answer_waiting.Goals as goal

pub message-smaller : goal.message-smaller
message-smaller g c = c.framing.ensures.shrinks _ _ _ c.in-Message.ensures.gives.2

pub message-preserved : goal.message-preserved
message-preserved g c = record {
  ready = c.in_ok-answer-in-Message.ensures.ready;
  served = one_more _ _ c.message.invariant.served c.in-Message.ensures.gives.2 c.in_ok-answer-in-Message.ensures.answered;
  waits = omega (arith, c.framing.ensures.shrinks _ _ _ c.in-Message.ensures.gives.2, c.message.invariant.waits);
  quiet = c.in_ok-answer-in-Message.ensures.quiet (ok_is_no_err _ _) ∙ c.message.invariant.quiet;
}

pub returns-in_err-answer-in-Message-clause-served : goal.returns-in_err-answer-in-Message-clause-served
returns-in_err-answer-in-Message-clause-served g c =
    let same : c.from_residual.result ≡ Err c.in_err-answer-in-Message.field-0.0 = search rules in
    rw same (one_more _ _ c.message.invariant.served c.in-Message.ensures.gives.2 c.in_err-answer-in-Message.ensures.answered)

pub returns-clause-rest : goal.returns-clause-rest
returns-clause-rest g c = let past = c.message-test.false in none_waits c.framing.ensures.shrinks c.message.framer.bytes (omega arith)
