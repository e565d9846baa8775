use Rattle.ebs_kept.specs.inner.Requests.{write_at}
use Rattle.ebs_disk_store.proofs.Followed.{judged_as}
use Rattle.ebs_disk_store.proofs.following.put.Goals as goal

pub returns-clause-makes : goal.returns-clause-makes
returns-clause-makes c = judged_as c.args.kept.now.machine c.put-answered.new.self.machine c.args.at c.args.account (write_at c.args.block.now.place c.args.block.now.index c.args.block.now.digest c.args.block.now.digest) c.changes.result c.changes-before.result c.put-answered.result c.judge.result
    c.changes.ensures c.changes-before.ensures c.put-answered.ensures.follows c.judge.ensures
