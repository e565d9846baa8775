use Rattle.std.proofs.Common.{refl, ap, subst, ◌∙◌}
use Rattle.std.proofs.lemmas.List.{drop_all}
use Rattle.ebs_lineage.specs.Lines.{Lines}
use Rattle.ebs_regrown.proofs.Numbered.{next_rest, row_found}
use Rattle.ebs_regrown.proofs.Growing.{IsGrowing, all_grown, has_parent_here, none_grown, one_more}
use Rattle.ebs_regrown.proofs.regrown.grow.Goals as goal

pub loop-row-init : goal.loop-row-init
loop-row-init c = (
  none_grown c.args.rows.now c.new-3.result c.new.result c.new-3.ensures (ap (λ (l : Lines). l.table.nodes) c.new.ensures) (ap (λ (l : Lines). l.made) c.new.ensures) (ap (λ (l : Lines). l.places) c.new.ensures)
      c.requires.ascend c.requires.parents,
  refl,
)

pub add-requires-clause-parent : goal.add-requires-clause-parent
add-requires-clause-parent c =
    has_parent_here c.args.rows.now _ c.row-item.result c.loop-row.grown.numbers c.loop-row.grown.lineage
    (subst (λ rest. IsGrowing c.args.rows.now rest c.loop-row.grown.numbers c.loop-row.grown.lineage) (next_rest c.args.rows.now c.loop-row.row-index c.row-item.result c.loop-row-test.true c.row-item.is) c.loop-row.invariant.0)

pub loop-row-preserved : goal.loop-row-preserved
loop-row-preserved c = (
  one_more c.args.rows.now _ c.row-item.result c.loop-row.grown.numbers c.loop-row.grown.lineage
      (subst (λ rest. IsGrowing c.args.rows.now rest c.loop-row.grown.numbers c.loop-row.grown.lineage) (next_rest c.args.rows.now c.loop-row.row-index c.row-item.result c.loop-row-test.true c.row-item.is) c.loop-row.invariant.0)
      (row_found c.args.rows.now c.loop-row.row-index c.row-item.result c.requires.ascend c.loop-row-test.true c.row-item.is)
      c.add.new.self.numbers c.add.new.self.lineage c.in_ok-add.ensures.added,
  c.in_ok-add.ensures.backlog ∙ c.loop-row.invariant.1,
)

pub returns-clause-grown : goal.returns-clause-grown
returns-clause-grown c =
    all_grown c.args.rows.now c.loop-row.grown.numbers c.loop-row.grown.lineage
    (subst (λ rest. IsGrowing c.args.rows.now rest c.loop-row.grown.numbers c.loop-row.grown.lineage) (drop_all c.loop-row.row-index c.args.rows.now c.loop-row-test.false) c.loop-row.invariant.0)

pub returns-clause-places : goal.returns-clause-places
returns-clause-places c = c.loop-row.invariant.0.places

pub returns-clause-backlog : goal.returns-clause-backlog
returns-clause-backlog c = c.loop-row.invariant.1 ∙ c.new-2.ensures
