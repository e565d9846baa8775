use Rattle.std.proofs.Common.{IsSome, sym, subst, ◌∙◌}
use Rattle.ebs_regrown.proofs.Slotted.{fits, has_slot, is_free, is_none, placed_counts, placed_slotted, retained_counts, retained_slotted}
use Rattle.ebs_regrown.proofs.counted.count.Goals as goal

pub returns-then-is_some-clause-slotted : goal.returns-then-is_some-clause-slotted
returns-then-is_some-clause-slotted c =
    retained_slotted c.args.standard.now c.requires.slots c.args.counted.now c.requires.slotted c.args.stamp c.count_once_more.new.counted
    (subst IsSome c.slot_of.ensures (sym c.is_some.ensures ∙ c.if-is_some.true)) c.in_ok-count_once_more.ensures

pub returns-then-is_some-clause-counts : goal.returns-then-is_some-clause-counts
returns-then-is_some-clause-counts c =
    retained_counts c.args.standard.now c.requires.slots c.args.counted.now c.requires.slotted c.args.stamp c.count_once_more.new.counted
    (subst IsSome c.slot_of.ensures (sym c.is_some.ensures ∙ c.if-is_some.true)) c.in_ok-count_once_more.ensures

pub place-requires-clause-free : goal.place-requires-clause-free
place-requires-clause-free c =
    is_free c.args.standard.now c.requires.slots c.args.counted.now c.requires.slotted c.args.stamp c.in-Some.slot
    (is_none c.slot_of.result _ c.if-is_some.ensures c.slot_of.ensures) (sym c.slot_at.ensures ∙ c.in-Some.is)

pub place-requires-clause-fits : goal.place-requires-clause-fits
place-requires-clause-fits c =
    fits c.args.standard.now c.requires.slots c.args.counted.now c.requires.slotted c.args.stamp c.in-Some.slot
    (is_none c.slot_of.result _ c.if-is_some.ensures c.slot_of.ensures) (sym c.slot_at.ensures ∙ c.in-Some.is)

pub returns-clause-slotted : goal.returns-clause-slotted
returns-clause-slotted c =
    placed_slotted c.args.standard.now c.requires.slots c.args.counted.now c.requires.slotted c.args.stamp c.in-Some.slot
    (is_none c.slot_of.result _ c.if-is_some.ensures c.slot_of.ensures) (sym c.slot_at.ensures ∙ c.in-Some.is) c.place.new.self c.in_ok-place.ensures.ok

pub returns-clause-counts : goal.returns-clause-counts
returns-clause-counts c =
    placed_counts c.args.standard.now c.requires.slots c.args.counted.now c.requires.slotted c.args.stamp c.in-Some.slot
    (is_none c.slot_of.result _ c.if-is_some.ensures c.slot_of.ensures) (sym c.slot_at.ensures ∙ c.in-Some.is) c.place.new.self c.in_ok-place.ensures.ok

pub returns-in_default-clause-counts : goal.returns-in_default-clause-counts
returns-in_default-clause-counts c = absurd (has_slot c.args.standard.now c.args.stamp c.requires.listed (sym c.slot_at.ensures ∙ c.in_default.is))
