use Rattle.std.proofs.Common.{◌≡◌, subst, arith}
use Rattle.ebs_node_rows.proofs.Marking.{IsMarking, all_marked, none_marked, one_marked}
use Rattle.ebs_node_rows.proofs.marks.wanted_nodes.Goals as goal

pub loop-number-init : goal.loop-number-init
loop-number-init c = none_marked c.args.lineage.now.table.nodes c.args.lineage.now.made c.keeps_lines.ensures c.args.named.now c.requires c.new-wanted.result c.made-number.result c.made-number.ensures c.new-wanted.ensures

pub loop-number-preserved : goal.loop-number-preserved
loop-number-preserved c =
    one_marked c.args.lineage.now.table.nodes c.args.lineage.now.made c.keeps_lines.ensures c.args.named.now c.loop-number.number _ c.loop-number.wanted c.mark_named.new.wanted c.mark_parent.new.wanted
    (let some = c.loop-number-test.true in omega (arith, some)) c.in_ok-mark_named.ensures c.in_ok-mark_parent.ensures c.loop-number.invariant

pub returns : goal.returns
returns c =
    let none : c.loop-number.number ≡ 0 = let end = c.loop-number-test.false in omega (arith, end) in
    all_marked c.args.lineage.now.table.nodes c.args.lineage.now.made c.keeps_lines.ensures c.args.named.now c.loop-number.wanted
    (subst (λ n. IsMarking c.args.lineage.now.table.nodes c.args.named.now n c.loop-number.wanted) none c.loop-number.invariant)
