use Rattle.ebs_holds.proofs.Released.{free_key, free_other}
use Rattle.ebs_holds.proofs.holdings.Holdings.release.Goals as goal

pub returns-clause-free : goal.returns-clause-free
returns-clause-free c = free_key _ _ c.args.holder.now c.release.ensures.slots c.release.ensures.held

pub returns-clause-others : goal.returns-clause-others
returns-clause-others c = λ q before.
    let free = rw (← c.self.view_is) at before in
    free_other _ _ c.args.holder.now c.release.ensures.slots c.release.ensures.held q free
