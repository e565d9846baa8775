use Rattle.std.proofs.Common.{ap, ◌∙◌}
use Rattle.ebs_lineage.specs.Lines.{array}
use Rattle.ebs_model.specs.Arrays.{linear}
use Rattle.ebs_model.specs.Kept.{same}
use Rattle.ebs_kept.specs.inner.Shown.{kept_array}
use Rattle.ebs_kept.proofs.kept.checksum_of.Goals as goal

pub returns : goal.returns
returns c = c.linear_of.ensures ∙ ap (linear same (kept_array (array c.args.lineage.now.table.nodes c.args.node.number))) c.indexes_or.ensures
