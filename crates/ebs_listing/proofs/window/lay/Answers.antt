use Rattle.std.proofs.Common.{refl, ap}
use Rattle.std.specs.Option.{option_map}
use Rattle.ebs_lineage.specs.declared.node_id.NodeId.{NodeId}
use Rattle.ebs_listing.proofs.Windowed.{line-none, line-end}
use Rattle.ebs_listing.proofs.window.lay.Goals as goal

pub loop-at-init : goal.loop-at-init
loop-at-init c = line-none c.args.lineage.now.table.nodes c.args.node.number c.args.start (record { blocks = c.new.result; end = 4294967296 }) c.new.ensures refl

pub returns : goal.returns
returns c = line-end c.args.lineage.now.table.nodes c.args.node.number c.args.start c.loop-at.window _ (ap (option_map (λ (n : NodeId). n.number)) c.in_default.is) c.loop-at.invariant
