use Rattle.std.proofs.Common.{◌≡◌, Err, rules}
use Rattle.ebs_commands.proofs.RunEnds.{unwritten}
use Rattle.ebs_commands.proofs.ticking.run_policy.Goals as goal

pub returns-in_err-line-clause-ran : goal.returns-in_err-line-clause-ran
returns-in_err-line-clause-ran g c =
    let is : c.from_residual.result ≡ Err c.in_err-line.field-0.0 = search rules in
    record {
      answer = c.run-answer.result;
      applies = c.run-answer.ensures.applies;
      ends = rw is (unwritten _ c.args.key.now c.run-answer.result c.in_err-line.field-0.0 _ c.run-answer.ensures.applies.cause c.in_err-line.ensures.stop);
    }
