use Rattle.std.proofs.Common.{ap, ◌∙◌, ◌+◌, drop}
use Rattle.ebs_node_rules.specs.inner.Lookups.{marked}
use Rattle.ebs_node_rules.proofs.Marks.{turn, ended}
use Rattle.ebs_node_rules.proofs.nodes.set_of.Goals as goal

pub loop-number-init : goal.loop-number-init
loop-number-init c = ap (λ set. marked set c.args.numbers.now) c.new-set.ensures

pub loop-number-preserved : goal.loop-number-preserved
loop-number-preserved c =
    ap (λ set. marked set (drop (c.loop-number.number-index + 1) c.args.numbers.now)) c.in_ok-insert.ensures.ok
    ∙ turn (marked c.loop-number.set) c.args.numbers.now c.loop-number.number-index 0 c.loop-number-test.true
    ∙ c.loop-number.invariant

pub returns : goal.returns
returns c = ended (marked c.loop-number.set) c.args.numbers.now c.loop-number.number-index c.loop-number-test.false ∙ c.loop-number.invariant
