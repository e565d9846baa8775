use Rattle.std.proofs.Common.{ap, ◌∙◌}
use Rattle.std.specs.Map.{keys_of}
use Rattle.std.specs.FinMap as map
use Rattle.ebs_pointed.proofs.Keys.{from_none}
use Rattle.ebs_pointed.proofs.Slotted.{all_slotted, next_there, none_slotted, one_slotted}
use Rattle.ebs_pointed.proofs.standard.slots_of.Goals as goal

pub loop-stamp-init : goal.loop-stamp-init
loop-stamp-init c =
    none_slotted c.args.kept.now.keys c.args.found.now c.new-rows.result c.into_iter-stamp-iterator.result c.new-rows.ensures
    (c.into_iter-stamp-iterator.ensures.into_iter_gives ∙ c.from-stamp-items.ensures.values ∙ from_none (map.entries c.args.found.now)) c.requires

pub slot_at-requires : goal.slot_at-requires
slot_at-requires c = next_there c.args.kept.now.keys c.loop-stamp.rows (keys_of c.loop-stamp.stamp-iterator) (keys_of c.next.new.self) (map.keys c.args.found.now) (ap keys_of c.in-Some.ensures.steps) c.loop-stamp.invariant

pub loop-stamp-preserved : goal.loop-stamp-preserved
loop-stamp-preserved c =
    one_slotted c.args.kept.now.keys c.loop-stamp.rows c.push.new.self (record { key = c.in-Some.stamp.now; slot = c.slot_at.result }) (keys_of c.loop-stamp.stamp-iterator) (keys_of c.next.new.self) (map.keys c.args.found.now)
    c.in_ok-push.ensures.ok (ap keys_of c.in-Some.ensures.steps) c.slot_at.ensures c.loop-stamp.invariant

pub returns-clause-keys : goal.returns-clause-keys
returns-clause-keys c = all_slotted c.args.kept.now.keys c.loop-stamp.rows (keys_of c.loop-stamp.stamp-iterator) (map.keys c.args.found.now) (ap keys_of c.in-None.ensures.steps.0) c.loop-stamp.invariant
