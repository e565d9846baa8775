use Rattle.std.proofs.Common.{ap, sym, ◌∙◌}
use Rattle.std.specs.FinMap as fin
use Rattle.ebs_lineage.specs.declared.node_id.NodeId.{NodeId}
use Rattle.ebs_tables.specs.Full.{held}
use Rattle.ebs_holds.specs.Holders.{holder_cmp}
use Rattle.ebs_holds.specs.Holds.{HeldBy}
use Rattle.ebs_restored.proofs.Naming.{one_more}
use Rattle.ebs_restored.proofs.holders.hold.Goals as goal

pub returns : goal.returns
returns c = λ names have.
    let node : NodeId = record { number = c.in-Some.number } in
    one_more c.args.numbers.now names (held holder_cmp c.args.nodes.now) (held holder_cmp c.fill.new.self) c.args.holder.now c.args.number c.in-Some.number
    (sym c.get.ensures ∙ sym c.copied.ensures ∙ c.in-Some.is) (c.fill.ensures.held ∙ ap (λ (m : HeldBy). fin.insert m c.args.holder.now node) c.in_ok-prepare.ensures.held) have
