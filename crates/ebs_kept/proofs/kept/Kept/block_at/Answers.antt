use Rattle.std.proofs.Common.{sym, ap, ◌∙◌}
use Rattle.std.specs.Option.{option_map}
use Rattle.std.specs.FinMap.{get}
use Rattle.ebs_lineage.specs.Lines.{Lines, array}
use Rattle.ebs_holds.specs.Holds.{nodes_in}
use Rattle.ebs_kept.specs.inner.Shown.{Form, kept_block, kept_array}
use Rattle.ebs_kept.proofs.Arrays.{get-kept}
use Rattle.ebs_kept.proofs.kept.Kept.block_at.Goals as goal

pub returns : goal.returns
returns c =
    let n = c.node_at.result.number in
    let index = c.args.index in
    ap (option_map kept_block) (c.find.ensures ∙ ap (λ (l : Lines). get (array l.table.nodes n) index) c.lineage.ensures)
    ∙ sym (get-kept (array (nodes_in c.self.inside.holdings) n) index)
    ∙ ap (λ (f : Form). get (kept_array (array (nodes_in f.holding) n)) index) c.self.view_is
    ∙ ap (λ a. get a index) c.node_at.ensures
