use Rattle.std.proofs.Common.{length}
use Rattle.ebs_world.specs.Image.{Everywhere, IsOutside}
use Rattle.ebs_world.specs.inner.Runs.{ran_on, ran_weaker}
use Rattle.ebs_world.proofs.durable.write_durably.Goals as goal

pub returns-in_err-sync-clause-ran : goal.returns-in_err-sync-clause-ran
returns-in_err-sync-clause-ran g c =
    let places = IsOutside c.args.area c.args.at (length c.args.piece.now) in
    ran_on places _ _ _ c.write.ensures.ran (ran_weaker Everywhere places _ _ (λ a i here. tt) c.sync.ensures.ran)

pub returns-clause-ran : goal.returns-clause-ran
returns-clause-ran g c =
    let places = IsOutside c.args.area c.args.at (length c.args.piece.now) in
    ran_on places _ _ _ c.write.ensures.ran (ran_weaker Everywhere places _ _ (λ a i here. tt) c.sync.ensures.ran)
