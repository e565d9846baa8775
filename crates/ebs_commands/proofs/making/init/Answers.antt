use Rattle.ebs_commands.proofs.making.init.Goals as goal

pub returns-in-Ok-put_line-clause-ends : goal.returns-in-Ok-put_line-clause-ends
returns-in-Ok-put_line-clause-ends g c = (c.in-Ok.ensures.made, c.in-Ok-put_line.ensures.wrote)

pub returns-in-Err-put_line-clause-ends : goal.returns-in-Err-put_line-clause-ends
returns-in-Err-put_line-clause-ends g c = rw c.in-Err-put_line.ensures.end (c.in-Ok.ensures.made, c.in-Err-put_line.ensures.failed)
