use Rattle.std.proofs.Common.{sym, subst}
use Rattle.ebs_lineage.specs.Lines.{Lines}
use Rattle.ebs_slots.specs.inner.Slots.{SlotTable}
use Rattle.ebs_collect.specs.Slices.{IsCounted, Frees}
use Rattle.ebs_collect.proofs.Adding.{not-both}
use Rattle.ebs_collect.proofs.Judged.{judged-taken, judged-same, stamp-there, counted-taken}
use Rattle.ebs_collect.proofs.Releases.{frees-same, released-frees}
use Rattle.ebs_collect.proofs.judging.judge.Goals as goal

pub take_dead-requires : goal.take_dead-requires
take_dead-requires c = not-both c.args.lineage.now.table.nodes c.args.number c.requires.free

pub returns-in_default-clause-judged : goal.returns-in_default-clause-judged
returns-in_default-clause-judged c = judged-same c.args.lineage.now c.take_dead.new.self c.args.number c.args.index c.in_default.ensures.stays

pub returns-in_default-clause-counted : goal.returns-in_default-clause-counted
returns-in_default-clause-counted c = subst (λ (l : Lines). IsCounted c.args.slots.now l.table.nodes) (sym c.in_default.ensures.stays.0) c.requires.counted

pub returns-in_default-clause-slots : goal.returns-in_default-clause-slots
returns-in_default-clause-slots c = frees-same c.args.slots.now

pub release-requires : goal.release-requires
release-requires c = stamp-there c.args.lineage.now c.args.slots.now c.requires.counted c.args.number c.args.index c.in-Some.block c.in-Some.ensures.taken.0

pub returns-clause-judged : goal.returns-clause-judged
returns-clause-judged c =
    judged-taken c.args.lineage.now c.take_dead.new.self c.args.number c.args.index c.in-Some.block c.in-Some.ensures.taken.0 c.in-Some.ensures.taken.1 c.in-Some.ensures.arrays c.in-Some.ensures.owners

pub returns-clause-counted : goal.returns-clause-counted
returns-clause-counted c =
    counted-taken c.args.lineage.now c.args.slots.now c.requires.counted c.args.number c.args.index c.in-Some.block c.in-Some.ensures.taken.0
    c.entries_count.ensures.kept c.entries_count.ensures.taken c.take_dead.new.self c.release.new.self c.in-Some.ensures.taken.1 c.release.ensures

pub returns-clause-slots : goal.returns-clause-slots
returns-clause-slots c = subst (λ (t : SlotTable). Frees c.args.slots.now t) (sym c.release.ensures) (released-frees c.args.slots.now c.in-Some.block.stamp)
