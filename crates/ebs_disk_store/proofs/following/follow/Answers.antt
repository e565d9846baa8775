use Rattle.std.proofs.Common.{refl, subst, sym}
use Rattle.ebs_collect.specs.Slices.{IsCounted}
use Rattle.ebs_holds.specs.Holds.{Holding, nodes_in}
use Rattle.ebs_records.specs.declared.record.Record.{Record}
use Rattle.ebs_records.specs.declared.record.Record.TheVariants.{Accepted, Advance}
use Rattle.ebs_disk_store.specs.inner.Following.{FollowsRecord}
use Rattle.ebs_disk_store.proofs.Followed.{of_change}
use Rattle.ebs_disk_store.proofs.Placed.{on_ok}
use Rattle.ebs_disk_store.proofs.following.follow.Goals as goal

pub returns-in-Accepted-clause-follows : goal.returns-in-Accepted-clause-follows
returns-in-Accepted-clause-follows c =
    let m = c.args.kept.now.machine in
    let made = c.in-Accepted.made in
    subst (λ (r : Record). FollowsRecord m c.args.slots.now c.accepted.new.kept.machine c.accepted.new.slots r c.accepted.result) (sym c.in-Accepted.is)
    (of_change m c.args.slots.now c.accepted.new.kept.machine c.accepted.new.slots (Accepted made) _ refl refl c.accepted.result c.accepted.ensures.follows)

pub returns-in-Advance-clause-follows : goal.returns-in-Advance-clause-follows
returns-in-Advance-clause-follows c =
    let m = c.args.kept.now.machine in
    subst (λ (r : Record). FollowsRecord m c.args.slots.now c.advance.new.kept.machine c.args.slots.now r c.advance.result) (sym c.in-Advance.is)
    (of_change m c.args.slots.now c.advance.new.kept.machine c.args.slots.now (Advance c.in-Advance.at) _ refl refl c.advance.result c.advance.ensures.follows)

pub returns-in-Advance-clause-counted : goal.returns-in-Advance-clause-counted
returns-in-Advance-clause-counted c = on_ok c.advance.result (subst (λ (h : Holding). IsCounted c.args.slots.now (nodes_in h)) (sym c.advance.ensures.holding) c.requires.counted)
