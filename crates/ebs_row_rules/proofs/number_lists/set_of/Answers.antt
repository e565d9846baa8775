use Rattle.ebs_row_rules.proofs.Sets.{empty_has, push}
use Rattle.ebs_row_rules.proofs.number_lists.set_of.Goals as goal

pub loop-number-init : goal.loop-number-init
loop-number-init c = empty_has c.new-set.result c.new-set.ensures

pub loop-number-preserved : goal.loop-number-preserved
loop-number-preserved c = push c.loop-number.set c.insert.new.self c.args.list.now c.loop-number.number-index c.loop-number-test.true c.loop-number.invariant c.in_ok-insert.ensures.ok
