use Rattle.ebs_commands.proofs.Given.{gives_by}
use Rattle.ebs_commands.proofs.sampling.give.Goals as goal

pub returns-clause-gives : goal.returns-clause-gives
returns-clause-gives g c =
    gives_by g.D.Disk.view g.S.Promise.sound c.args.asked c.call-answer.result c.args.disk.now c.args.store.now c.call-answer.new.disk c.call-answer.new.store c.owner.result c.moment_of.result c.in-Ok.request c.is_accepted-accepted.result
    c.owner.ensures c.moment_of.ensures c.in-Ok.ensures c.call-answer.ensures.applies c.is_accepted-accepted.ensures.goes_on c.is_accepted-accepted.ensures.stop
