use Rattle.std.proofs.Common.{ap, arith}
use Rattle.ebs_model.specs.declared.keys.Moment.{Moment}
use Rattle.ebs_disk_store.proofs.Followed.{passed}
use Rattle.ebs_disk_store.proofs.following.advance.Goals as goal

pub returns-clause-follows : goal.returns-clause-follows
returns-clause-follows c =
    let clock = ap (λ (t : Moment). t.second) c.clock.ensures in
    let late = c.if-at-clock.false in
    passed c.args.kept.now.machine c.args.slots.now c.args.at c.tick.new.self.machine c.requires.state (omega (arith, clock, late)) c.requires.early c.tick.ensures.machine
