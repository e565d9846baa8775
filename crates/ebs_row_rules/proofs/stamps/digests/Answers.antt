use Rattle.std.proofs.Common.{[]}
use Rattle.ebs_row_rules.proofs.Digests.{digest_push, no_digests}
use Rattle.ebs_row_rules.proofs.stamps.digests.Goals as goal

pub loop-block-init : goal.loop-block-init
loop-block-init c = no_digests c.new-found.result c.new-found.ensures

pub loop-block-preserved : goal.loop-block-preserved
loop-block-preserved c =
    digest_push c.loop-block.found c.insert.new.self c.args.blocks.now c.loop-block.block-index (record { stamp = 0; digest = [] }) c.loop-block-test.true c.loop-block.invariant c.in_ok-insert.ensures.ok
