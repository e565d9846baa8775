use Rattle.ebs_disk_store.proofs.Followed.{judged_as}
use Rattle.ebs_disk_store.proofs.Placed.{row_keeps}
use Rattle.ebs_disk_store.proofs.following.call.Goals as goal

pub returns-clause-makes : goal.returns-clause-makes
returns-clause-makes c = judged_as c.args.kept.now.machine c.act-answered.new.self.machine c.args.at c.args.account c.args.request.now c.changes.result c.changes-before.result c.act-answered.result c.judge.result
    c.changes.ensures c.changes-before.ensures c.act-answered.ensures.follows c.judge.ensures

pub returns-clause-blocks : goal.returns-clause-blocks
returns-clause-blocks c = row_keeps c.args.kept.now c.act-answered.new.self c.args.request.now c.requires.row c.act-answered.ensures.counted
