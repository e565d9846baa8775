use Rattle.std.proofs.Common.{rules}
use Rattle.ebs_session.proofs.serving.put_answer.Goals.{in-Memory, in_default+in-Ok}
use Rattle.ebs_session.proofs.serving.put_answer.Goals as goal

pub returns-in-Err-put-clause-put : goal.returns-in-Err-put-clause-put
returns-in-Err-put-clause-put g c = elim c.match-answer.branch [
  | in-Memory w ↦ search rules
  | in_default+in-Ok w ↦ search rules
]
