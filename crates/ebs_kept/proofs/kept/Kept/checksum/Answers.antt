use Rattle.std.proofs.Common.{ap, ◌∙◌}
use Rattle.ebs_lineage.specs.Lines.{Lines, array}
use Rattle.ebs_holds.specs.Holds.{nodes_in}
use Rattle.ebs_model.specs.Arrays.{linear}
use Rattle.ebs_model.specs.Kept.{same}
use Rattle.ebs_kept.specs.inner.Shown.{Form, kept_array}
use Rattle.ebs_kept.proofs.kept.Kept.checksum.Goals as goal

pub returns : goal.returns
returns c =
    let n = c.node_at.result.number in
    let blocks = ap (λ (l : Lines). kept_array (array l.table.nodes n)) c.lineage.ensures ∙ ap (λ (f : Form). kept_array (array (nodes_in f.holding) n)) c.self.view_is ∙ c.node_at.ensures in
    c.checksum_of.ensures ∙ (λ i. linear same (blocks i) (c.put_at.ensures i))
