use Rattle.std.proofs.Common.{◌≡◌, Bool, true, false, not, refl, sym, subst}
use Rattle.std.proofs.lemmas.Bool.{false≢true}
use Rattle.ebs_lineage.specs.Lines.{IsFrozen}
use Rattle.ebs_holds.specs.Holds.{Holding, nodes_in}
use Rattle.ebs_holds.proofs.holdings.Holdings.is_closed.Goals as goal

shut : (b : Bool) → not b ≡ true → b ≡ false
shut true e = absurd (false≢true e)
shut false e = refl

pub returns-in-Some : goal.returns-in-Some
returns-in-Some c = λ closed.
    let has = rw (← c.self.view_is) at c.in-Some.ensures in
    let frozen = c.is_open.ensures.frozen (shut c.is_open.result closed) (c.self.invariant.holders.there c.args.holder.now c.in-Some.node (sym has)) in
    (c.in-Some.node, sym c.in-Some.ensures, subst (λ (h : Holding). IsFrozen (nodes_in h) c.in-Some.node.number) c.self.view_is frozen)
