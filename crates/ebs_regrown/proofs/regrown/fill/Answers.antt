use Rattle.std.proofs.Common.{subst}
use Rattle.std.proofs.lemmas.List.{drop_all}
use Rattle.ebs_regrown.proofs.Filling.{IsFilling, filled, put_more, still_open}
use Rattle.ebs_regrown.proofs.regrown.fill.Goals as goal

pub put-requires : goal.put-requires
put-requires c = still_open c.args.lineage.now c.args.node.number c.args.entries.now _ c.loop-entry.lineage c.requires c.loop-entry.invariant

pub loop-entry-preserved : goal.loop-entry-preserved
loop-entry-preserved c =
    put_more c.args.lineage.now c.args.node.number c.args.entries.now c.loop-entry.entry-index _ c.loop-entry.lineage c.put.new.self c.loop-entry-test.true
    c.in_ok-put.ensures.ok c.in_ok-put.ensures.array c.in_ok-put.ensures.others c.loop-entry.invariant

pub returns : goal.returns
returns c =
    filled c.args.lineage.now c.args.node.number c.args.entries.now c.loop-entry.lineage
    (subst (λ rest. IsFilling c.args.lineage.now c.args.node.number c.args.entries.now rest c.loop-entry.lineage) (drop_all c.loop-entry.entry-index c.args.entries.now c.loop-entry-test.false) c.loop-entry.invariant)
