use Rattle.std.proofs.Common.{arith, max, refl, ap, ◌∙◌}
use Rattle.ebs_lineage.specs.Lines.{Lines}
use Rattle.ebs_lineage.specs.Kin.{places_of}
use Rattle.ebs_lineage.proofs.Lent.{both, on_ok, on_err}
use Rattle.ebs_lineage.proofs.Sound.{on_failure, roomy-sound, roomy-shown, respared-sound, max_within}
use Rattle.ebs_lineage.proofs.lineage.Lineage.reserve_nodes.Goals as goal

pub invariant_of-self : goal.invariant_of-self
invariant_of-self c = roomy-sound c.self.inside c.self.invariant c.self.inside.nodes c.reserve.new.self refl c.reserve.ensures.links c.reserve.ensures.spare

pub returns-in_err-reserve-clause-err : goal.returns-in_err-reserve-clause-err
returns-in_err-reserve-clause-err c = on_failure c.from_residual.result (roomy-shown c.self.inside c.self.invariant c.self.inside.nodes c.reserve.new.self refl c.reserve.ensures.links c.reserve.ensures.spare ∙ c.self.view_is)

pub invariant_of-self-2 : goal.invariant_of-self-2
invariant_of-self-2 c =
    let a = c.self.inside in
    both c.reserve-2.result _ _ _ c.reserve-2.ensures.ok c.reserve-2.ensures.err
    (λ e. respared-sound a c.self.invariant c.reserve-2.new.self c.reserve.new.self (max a.nodes.spare c.args.count) e c.reserve.ensures.links (max_within a.nodes.spare c.args.count c.reserve.new.self.spare (omega (arith, c.self.invariant.room, c.reserve.ensures.spare)) c.in_ok-reserve.ensures.room))
    (λ e. roomy-sound a c.self.invariant c.reserve-2.new.self c.reserve.new.self e c.reserve.ensures.links c.reserve.ensures.spare)

pub returns-clause-ok : goal.returns-clause-ok
returns-clause-ok c =
    let a = c.self.inside in
    on_ok c.reserve-2.result
    (λ e. (λ i. record { table = e i; made = a.made; places = places_of (c.reserve.ensures.links i) }) ∙ ap (λ (l : Lines). record l { table = record l.table { spare = max l.table.spare c.args.count } }) c.self.view_is)
    c.reserve-2.ensures.ok

pub returns-clause-err : goal.returns-clause-err
returns-clause-err c =
    on_err c.reserve-2.result
    (λ e. roomy-shown c.self.inside c.self.invariant c.reserve-2.new.self c.reserve.new.self e c.reserve.ensures.links c.reserve.ensures.spare ∙ c.self.view_is)
    c.reserve-2.ensures.err
