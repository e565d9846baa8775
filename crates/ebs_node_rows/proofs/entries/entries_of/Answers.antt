use Rattle.std.proofs.Common.{ℕ, ◌+◌, ◌<◌, ◌^◌, sym, subst, arith}
use Rattle.ebs_checkpoints.specs.declared.nodes.EntryRow.{EntryRow}
use Rattle.ebs_lineage.specs.Lines.{own}
use Rattle.ebs_node_rows.proofs.Entered.{IsEntered, all_entered, none_entered, none_far, one_entered, own_small}
use Rattle.ebs_node_rows.proofs.entries.entries_of.Goals as goal

pub loop-from-init : goal.loop-from-init
loop-from-init c = (none_entered (own c.args.lineage.now.table.nodes c.args.node.number) c.new-entries.result c.new-entries.ensures, omega arith)

pub returns-in_default : goal.returns-in_default
returns-in_default c = all_entered (own c.args.lineage.now.table.nodes c.args.node.number) c.loop-from.from c.loop-from.entries c.in_default.ensures c.loop-from.invariant.0

pub loop-from-preserved : goal.loop-from-preserved
loop-from-preserved c =
    let l = c.args.lineage.now in
    let blocks = own l.table.nodes c.args.node.number in
    let near : c.in-Some.index < 2 ^ 32 = own_small l.table.nodes l.made c.keeps_lines.ensures c.args.node.number c.in-Some.index c.in-Some.block c.in-Some.ensures.1 in
    let e : EntryRow = record { index = c.in-Some.index; block = c.in-Some.block } in
    let is = c.from-from.ensures in (
      subst (λ (n : ℕ). IsEntered blocks (n + 1) c.push.new.self) (sym is) (one_entered blocks c.loop-from.from c.loop-from.entries c.push.new.self e c.in_ok-push.ensures.ok near c.in-Some.ensures c.loop-from.invariant.0),
      omega (arith, is, near),
    )

pub returns : goal.returns
returns c =
    let l = c.args.lineage.now in
    let far = c.loop-from-test.false in
    all_entered (own l.table.nodes c.args.node.number) c.loop-from.from c.loop-from.entries
    (λ q more. none_far l.table.nodes l.made c.keeps_lines.ensures c.args.node.number c.loop-from.from q (omega (arith, far)) more) c.loop-from.invariant.0
