use Rattle.std.proofs.Common.{sym}
use Rattle.std.specs.FinMap as fin
use Rattle.ebs_pointed.proofs.Draining.{all_drained, key_there, one_drained, one_less}
use Rattle.ebs_pointed.proofs.accounts.in_order.Goals as goal

pub take-row-requires : goal.take-row-requires
take-row-requires c = key_there c.loop-number.left c.in-Some.number (sym c.in-Some.ensures)

pub loop-number-preserved : goal.loop-number-preserved
loop-number-preserved c =
    one_drained c.loop-number.left c.take-row.new.found c.in-Some.number c.take-row.result c.loop-number.rows c.push.new.self (fin.values c.args.found) (sym c.in-Some.ensures) c.take-row.ensures.row c.take-row.ensures.rest
    c.in_ok-push.ensures.ok c.loop-number.invariant

pub loop-number-smaller : goal.loop-number-smaller
loop-number-smaller c = one_less c.loop-number.left c.take-row.new.found c.in-Some.number (sym c.in-Some.ensures) c.take-row.ensures.rest

pub returns : goal.returns
returns c = all_drained c.loop-number.left c.loop-number.rows (fin.values c.args.found) (sym c.in_default.ensures) c.loop-number.invariant
