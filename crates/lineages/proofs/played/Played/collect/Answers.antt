use Rattle.lineages.proofs.played.Played.collect.Goals as goal

pub collect-requires : goal.collect-requires
collect-requires c = c.self.invariant

pub invariant_of-self : goal.invariant_of-self
invariant_of-self c = c.collect.ensures.counted
