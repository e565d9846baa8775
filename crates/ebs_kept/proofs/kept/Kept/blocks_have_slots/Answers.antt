use Rattle.ebs_kept.proofs.Slotted.{snapshot-slot, volume-slot}
use Rattle.ebs_kept.proofs.kept.Kept.blocks_have_slots.Goals as goal

pub returns-clause-snapshots : goal.returns-clause-snapshots
returns-clause-snapshots c = rw (← c.self.view_is) (λ s key index block counted found. snapshot-slot c.self.inside s (λ q i b e. c.blocks_have_slots.ensures s q i b counted e) key index block found)

pub returns-clause-volumes : goal.returns-clause-volumes
returns-clause-volumes c = rw (← c.self.view_is) (λ s key index block counted found. volume-slot c.self.inside s (λ q i b e. c.blocks_have_slots.ensures s q i b counted e) key index block found)
