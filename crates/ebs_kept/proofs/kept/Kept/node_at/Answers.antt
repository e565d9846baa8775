use Rattle.std.proofs.Common.{sym, ap, cond, ◌∙◌}
use Rattle.std.specs.FinMap.{empty}
use Rattle.ebs_lineage.specs.Lines.{Lines, array}
use Rattle.ebs_holds.specs.Holds.{nodes_in, blocks_at}
use Rattle.ebs_kept.specs.inner.Shown.{Form, kept_array, snap_array}
use Rattle.ebs_kept.proofs.Arrays.{kept-empty}
use Rattle.ebs_kept.proofs.AsKept.{array-at}
use Rattle.ebs_kept.proofs.kept.Kept.node_at.Goals as goal

pub returns-then-has_blocks : goal.returns-then-has_blocks
returns-then-has_blocks c =
    let k = c.self.inside in
    let key = c.args.key.now in
    let n = c.node_of.result.number in
    ap (λ (f : Form). kept_array (array (nodes_in f.holding) n)) (sym c.self.view_is)
    ∙ ap kept_array (c.node_of.ensures ∙ ap (blocks_at k.holdings) c.snapshot.ensures)
    ∙ ap (λ b. cond b (snap_array k.holdings key) empty) (sym c.if-has_blocks.true ∙ c.has_blocks.ensures)
    ∙ sym (array-at k c.args.self.now.machine (ap (λ (f : Form). f.machine) c.self.view_is) c.args.now c.requires key)

pub returns-else-has_blocks : goal.returns-else-has_blocks
returns-else-has_blocks c =
    let k = c.self.inside in
    let key = c.args.key.now in
    let n = c.without_blocks.result.number in
    ap (λ (f : Form). kept_array (array (nodes_in f.holding) n)) (sym c.self.view_is)
    ∙ ap kept_array (ap (λ (l : Lines). array l.table.nodes n) (sym c.lineage.ensures) ∙ c.without_blocks.ensures)
    ∙ kept-empty
    ∙ ap (λ b. cond b (snap_array k.holdings key) empty) (sym c.if-has_blocks.false ∙ c.has_blocks.ensures)
    ∙ sym (array-at k c.args.self.now.machine (ap (λ (f : Form). f.machine) c.self.view_is) c.args.now c.requires key)
