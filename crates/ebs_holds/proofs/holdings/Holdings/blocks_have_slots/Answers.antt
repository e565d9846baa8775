use Rattle.ebs_holds.proofs.Collected.{block_slot}
use Rattle.ebs_holds.proofs.holdings.Holdings.blocks_have_slots.Goals as goal

pub returns : goal.returns
returns c = rw (← c.self.view_is) (λ s q index block counted found. block_slot c.self.inside.lineage _ c.self.invariant.holders s counted c.finished_keeps_reached.ensures.kept q index block found)
