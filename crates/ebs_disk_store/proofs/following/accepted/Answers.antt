use Rattle.std.proofs.Common.{◌≡◌, ◌≤◌, ◌^◌, true, ap, arith, nat_le}
use Rattle.std.proofs.lemmas.Bool.Decides.{nat_tests}
use Rattle.ebs_model.specs.declared.keys.Moment.{Moment}
use Rattle.ebs_records.specs.declared.record.AcceptedCall.{AcceptedCall}
use Rattle.ebs_records.specs.declared.record.Record.TheVariants.{Accepted}
use Rattle.ebs_records.specs.Records.{IsRecord, is_moment}
use Rattle.ebs_lawful_points.proofs.Parts.{two}
use Rattle.ebs_holds.specs.Holds.{nodes_in}
use Rattle.ebs_disk_store.proofs.Followed.{plain_call}
use Rattle.ebs_disk_store.proofs.Placed.{on_ok}
use Rattle.ebs_disk_store.proofs.following.accepted.Goals as goal

limited : (a : AcceptedCall) → IsRecord (Accepted a) → a.at.second ≤ 2 ^ 36
limited a value = at_most (two (is_moment a.at) _ value.limits).0
  where
    at_most : nat_le a.at.second (2 ^ 36) ≡ true → a.at.second ≤ 2 ^ 36
    at_most e = grind (arith, nat_tests, e)

pub returns-in-None-clause-follows : goal.returns-in-None-clause-follows
returns-in-None-clause-follows c =
    let clock = ap (λ (t : Moment). t.second) c.clock.ensures in
    let late = c.if-made-clock.false in
    plain_call c.args.kept.now.machine c.args.slots.now c.args.made.now c.call.new.kept.machine c.call.result c.requires.state (omega (arith, clock, late)) (limited c.args.made.now c.requires.value) c.in-None.ensures.none.0 c.in-None.ensures.none.1 c.in-None.ensures.none.2 c.call.ensures.makes

pub returns-in-None-clause-counted : goal.returns-in-None-clause-counted
returns-in-None-clause-counted c =
    on_ok c.call.result (c.blocks_stay.ensures.counted (nodes_in c.args.kept.now.holding) (nodes_in c.call.new.kept.holding) c.args.slots.now c.call.ensures.blocks c.requires.counted)
