use Rattle.std.proofs.Common.{arith, sym, subst, ◌+◌, ℕ}
use Rattle.ebs_lineage.specs.Lines.{array}
use Rattle.ebs_kept.proofs.Live.{NoneBelow, stamped, unstamped, none-stamped, next-unstamped}
use Rattle.ebs_kept.proofs.stamps.has_stamp.Goals as goal

pub returns-in_default : goal.returns-in_default
returns-in_default c = sym (none-stamped c.args.stamp c.loop-from.from (array c.args.lineage.now.table.nodes c.args.node.number) c.loop-from.invariant.0 c.in_default.ensures)

pub returns-then-block-stamp : goal.returns-then-block-stamp
returns-then-block-stamp c = sym (stamped c.args.stamp (array c.args.lineage.now.table.nodes c.args.node.number) c.in-Some.index c.in-Some.block c.in-Some.ensures.1 c.if-block-stamp.true)

pub loop-from-preserved : goal.loop-from-preserved
loop-from-preserved c =
    let blocks = array c.args.lineage.now.table.nodes c.args.node.number in
    let near = c.keeps_small.ensures c.args.node.number c.in-Some.index c.in-Some.block c.in-Some.ensures.1 in
    let is = c.from-from.ensures in (
      subst (λ (n : ℕ). NoneBelow c.args.stamp blocks (n + 1)) (sym is) (next-unstamped c.args.stamp c.loop-from.from c.in-Some.index blocks c.in-Some.block c.loop-from.invariant.0 c.in-Some.ensures.1 c.in-Some.ensures.2 c.if-block-stamp.false),
      omega (arith, is, near),
    )

pub returns : goal.returns
returns c =
    let small = c.keeps_small.ensures c.args.node.number in
    let far = c.loop-from-test.false in
    sym (unstamped c.args.stamp (array c.args.lineage.now.table.nodes c.args.node.number) (λ index block found. let near = small index block found in c.loop-from.invariant.0 index block found (omega (arith, near, far))))
