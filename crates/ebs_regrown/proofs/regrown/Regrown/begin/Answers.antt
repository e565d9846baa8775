use Rattle.std.proofs.Common.{ap}
use Rattle.std.specs.Option.{option_map}
use Rattle.ebs_lineage.specs.declared.node_id.NodeId.{NodeId}
use Rattle.ebs_regrown.proofs.Growing.{parent_is}
use Rattle.ebs_regrown.proofs.regrown.Regrown.begin.Goals as goal

pub child-requires-clause-frozen : goal.child-requires-clause-frozen
child-requires-clause-frozen c =
    (parent_is c.args.self.now.numbers c.args.self.now.lineage.table.nodes c.args.parent _ c.in-Some.node.number c.node_of.ensures (ap (option_map (λ (n : NodeId). n.number)) c.in-Some.is) c.requires.parent).0

pub child-requires-clause-held : goal.child-requires-clause-held
child-requires-clause-held c =
    (parent_is c.args.self.now.numbers c.args.self.now.lineage.table.nodes c.args.parent _ c.in-Some.node.number c.node_of.ensures (ap (option_map (λ (n : NodeId). n.number)) c.in-Some.is) c.requires.parent).1
