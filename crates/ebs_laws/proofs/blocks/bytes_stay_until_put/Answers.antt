use Rattle.ebs_laws.proofs.Standing.{put-leaves, call-keeps, child-has, get-answers}
use Rattle.ebs_laws.proofs.blocks.bytes_stay_until_put.Goals as goal

pub returns-clause-put : goal.returns-clause-put
returns-clause-put c = put-leaves

pub returns-clause-each_call : goal.returns-clause-each_call
returns-clause-each_call c = call-keeps

pub returns-clause-child : goal.returns-clause-child
returns-clause-child c = λ m account reading size parent text tags token timeout told owner from key begin shown gib index bytes given has. child-has m account reading size parent text tags token timeout told owner from key begin shown gib index bytes has

pub returns-clause-get : goal.returns-clause-get
returns-clause-get c = get-answers
