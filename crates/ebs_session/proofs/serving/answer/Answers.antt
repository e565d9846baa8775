use Rattle.std.proofs.Common.{◌≡◌, Err, rules}
use Rattle.ebs_session.proofs.Counts.{ok_is_no_err}
use Rattle.ebs_session.proofs.serving.answer.Goals as goal

pub returns-clause-answered : goal.returns-clause-answered
returns-clause-answered g c = record {
  reading = c.now-reading.result.second;
  ticks = c.now-reading.ensures;
  answer = c.reply-answer.result;
  replied = c.reply-answer.ensures.replies;
  put = c.in_ok-put_answer.ensures.put;
  told = λ ended. absurd (ok_is_no_err _ _ ended);
}

pub returns-in_err-put_answer-clause-answered : goal.returns-in_err-put_answer-clause-answered
returns-in_err-put_answer-clause-answered g c =
    let same : c.from_residual.result ≡ Err c.in_err-put_answer.field-0.0 = search rules in
    record {
      reading = c.now-reading.result.second;
      ticks = c.now-reading.ensures;
      answer = c.reply-answer.result;
      replied = c.reply-answer.ensures.replies;
      put = rw same c.in_err-put_answer.ensures.put;
      told = rw same (λ ended is. c.in_err-put_answer.ensures.told is ended);
    }
