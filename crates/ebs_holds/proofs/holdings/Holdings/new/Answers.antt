use Rattle.std.proofs.Common.{sym, ap, subst}
use Rattle.ebs_lineage.specs.Lines.{Lines}
use Rattle.ebs_world.specs.declared.area.Area.TheVariants.{Blocks}
use Rattle.ebs_slots.specs.inner.Slots.{no_slots}
use Rattle.ebs_collect.specs.Backlogs.{Queue, IsLinked, Covers}
use Rattle.ebs_collect.specs.Slices.{IsCounted}
use Rattle.ebs_holds.proofs.Steps.{empty_stand, empty_at}
use Rattle.ebs_holds.proofs.holdings.Holdings.new.Goals as goal

pub invariant_of-result : goal.invariant_of-result
invariant_of-result c =
    let law = c.others_cover.ensures.none 0 0 Blocks in
    record {
      holders = empty_stand c.new.result _ c.new.ensures c.new-2.ensures.held;
      linked = subst (λ (x : Queue × Lines). IsLinked x.0 x.1) (sym (λ i. (c.new-3.ensures i, c.new.ensures i))) law.0;
      covers = subst Covers (sym c.new.ensures) law.1;
    }

pub returns-clause-arrays : goal.returns-clause-arrays
returns-clause-arrays c = empty_at c.new.result _ c.new.ensures c.new-2.ensures.held

pub returns-clause-counted : goal.returns-clause-counted
returns-clause-counted c = λ area. subst (λ (l : Lines). IsCounted (no_slots area) l.table.nodes) (sym c.new.ensures) (c.others_cover.ensures.none 0 0 area).2

pub returns-clause-waiting : goal.returns-clause-waiting
returns-clause-waiting c = ap (λ (q : Queue). q.waiting) c.new-3.ensures
