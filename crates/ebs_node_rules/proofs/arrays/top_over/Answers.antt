use Rattle.std.proofs.Common.{◌+◌, max, ap, ◌∙◌}
use Rattle.ebs_node_rules.proofs.Keyed.{top_more}
use Rattle.ebs_node_rules.proofs.arrays.top_over.Goals as goal

pub loop-entry-preserved : goal.loop-entry-preserved
loop-entry-preserved c = λ limit. top_more c.args.below c.loop-entry.top c.max-top.result c.args.entries.now c.loop-entry.entry-index limit _ c.loop-entry-test.true (c.max-top.ensures ∙ ap (λ n. max c.loop-entry.top (n + 1)) c.from.ensures) (c.loop-entry.invariant limit)
