use Rattle.ebs_holds.proofs.holdings.Holdings.keeps_holders.Goals as goal

pub returns : goal.returns
returns c = rw (← c.self.view_is) c.self.invariant.holders
