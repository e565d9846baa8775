use Rattle.ebs_regrown.specs.Regrown.{up}
use Rattle.ebs_regrown.proofs.Adding.{added, begun_open, filled_open}
use Rattle.ebs_regrown.proofs.regrown.Regrown.add.Goals as goal

pub fill-requires : goal.fill-requires
fill-requires c =
    begun_open c.args.self.now.lineage c.begin.new.self.lineage (up c.args.self.now.numbers c.args.row.now.parent) c.in_ok-node.ensures.ok.1 c.in_ok-node.node.number c.in_ok-node.ensures.ok.0

pub close-requires : goal.close-requires
close-requires c =
    filled_open c.args.self.now.lineage c.begin.new.self.lineage (up c.args.self.now.numbers c.args.row.now.parent) c.in_ok-node.ensures.ok.1 c.in_ok-node.node.number c.in_ok-node.ensures.ok.0
    c.as_slice.result.now c.fill.new.lineage c.in_ok-fill.ensures

pub returns-clause-added : goal.returns-clause-added
returns-clause-added c =
    added c.args.self.now.numbers c.args.self.now.lineage c.begin.new.self.lineage c.fill.new.lineage c.close.new.lineage c.args.row.now c.insert.new.self c.in_ok-node.node.number c.as_slice.result.now
    c.begin.new.self.numbers c.in_ok-node.ensures.ok.0 c.in_ok-node.ensures.ok.1 c.in_ok-node.ensures.array c.in_ok-node.ensures.others c.as_slice.ensures c.in_ok-fill.ensures c.close.ensures
    c.in_ok-node.ensures.numbers c.in_ok-insert.ensures.ok
