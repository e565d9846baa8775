use Rattle.ebs_disk_store.proofs.Followed.{of_record}
use Rattle.ebs_disk_store.proofs.following.follow_payload.Goals as goal

pub returns-in-Value-clause-follows : goal.returns-in-Value-clause-follows
returns-in-Value-clause-follows c = of_record c.args.kept.now.machine c.args.slots.now c.follow.new.kept.machine c.follow.new.slots c.args.payload.now c.in-Value.made c.in-Value.ensures.0 c.in-Value.ensures.1 c.follow.result c.follow.ensures.follows
