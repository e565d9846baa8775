use Rattle.ebs_holds.proofs.Backed.{same_room}
use Rattle.ebs_holds.proofs.Collected.{sliced_stand, sliced_at, sliced_shared}
use Rattle.ebs_holds.proofs.holdings.Holdings.collect.Goals as goal

pub slice-progress-requires-clause-linked : goal.slice-progress-requires-clause-linked
slice-progress-requires-clause-linked c = c.self.invariant.linked

pub slice-progress-requires-clause-covers : goal.slice-progress-requires-clause-covers
slice-progress-requires-clause-covers c = c.self.invariant.covers

pub slice-progress-requires-clause-counted : goal.slice-progress-requires-clause-counted
slice-progress-requires-clause-counted c = rw (← c.self.view_is) at c.requires

pub invariant_of-self : goal.invariant_of-self
invariant_of-self c = record {
  holders = sliced_stand c.self.inside.lineage c.slice-progress.new.lineage _ c.self.invariant.holders c.slice-progress.ensures.nodes c.keeps_lines.ensures;
  linked = c.slice-progress.ensures.linked;
  covers = c.slice-progress.ensures.covers;
}

pub returns-clause-arrays : goal.returns-clause-arrays
returns-clause-arrays c = rw (← c.self.view_is) (sliced_at c.self.inside.lineage c.slice-progress.new.lineage _ c.self.invariant.holders c.slice-progress.ensures.nodes c.keeps_lines.ensures)

pub returns-clause-room : goal.returns-clause-room
returns-clause-room c = rw (← c.self.view_is) (λ count room. same_room _ _ c.slice-progress.ensures.nodes.spare c.slice-progress.ensures.nodes.made count room)

pub returns-clause-shared : goal.returns-clause-shared
returns-clause-shared c = λ none.
    let stand = sliced_stand c.self.inside.lineage c.slice-progress.new.lineage _ c.self.invariant.holders c.slice-progress.ensures.nodes c.keeps_lines.ensures in
    sliced_shared c.slice-progress.new.lineage _ stand c.slice-progress.new.slots c.slice-progress.ensures.counted c.finished_keeps_reached.ensures.exact (c.slice-progress.ensures.collected none)
