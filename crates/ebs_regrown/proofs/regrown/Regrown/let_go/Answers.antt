use Rattle.std.proofs.Common.{◌≡◌, ◌+◌, true, drop, sym, subst, ◌∙◌}
use Rattle.std.proofs.lemmas.Bool.{and_parts}
use Rattle.std.proofs.lemmas.List.{drop_all}
use Rattle.std.specs.FinMap.{contains_key}
use Rattle.ebs_collect.specs.Backlogs.{Covers, IsLinked}
use Rattle.ebs_node_rules.specs.inner.Nodes.{nodes_ascend}
use Rattle.ebs_regrown.specs.declared.regrown.Regrown.{Regrown}
use Rattle.ebs_regrown.specs.Regrown.{IsRegrown}
use Rattle.ebs_regrown.proofs.Numbered.{next_rest, row_found}
use Rattle.ebs_regrown.proofs.Leaving.{all_held, held_by, is_held_here, kept_named, left_unnamed}
use Rattle.ebs_regrown.proofs.regrown.Regrown.let_go.Goals.{then-not-contains, else-not-contains}
use Rattle.ebs_regrown.proofs.regrown.Regrown.let_go.Goals as goal

pub loop-row-init : goal.loop-row-init
loop-row-init c = (all_held c.args.rows.now (contains_key c.args.named.now) c.args.self.now.numbers c.args.self.now.lineage c.requires.grown, c.requires.ascend, c.requires.linked, c.requires.covers)

pub leave-requires-clause-held : goal.leave-requires-clause-held
leave-requires-clause-held c =
    let next = next_rest c.args.rows.now c.loop-row.row-index c.row-item.result c.loop-row-test.true c.row-item.is in
    is_held_here c.args.rows.now (drop (c.loop-row.row-index + 1) c.args.rows.now) c.row-item.result (contains_key c.args.named.now) c.loop-row.self.numbers c.loop-row.self.lineage
    (subst (λ rest. IsRegrown c.args.rows.now (held_by rest (contains_key c.args.named.now)) c.loop-row.self.numbers c.loop-row.self.lineage) next c.loop-row.invariant.0)
    (row_found c.args.rows.now c.loop-row.row-index c.row-item.result c.requires.ascend c.loop-row-test.true c.row-item.is)

pub leave-requires-clause-linked : goal.leave-requires-clause-linked
leave-requires-clause-linked c = c.loop-row.invariant.2

pub leave-requires-clause-covers : goal.leave-requires-clause-covers
leave-requires-clause-covers c = c.loop-row.invariant.3

pub loop-row-preserved : goal.loop-row-preserved
loop-row-preserved c =
    let x = c.row-item.result in
    let rest = drop (c.loop-row.row-index + 1) c.args.rows.now in
    let next = next_rest c.args.rows.now c.loop-row.row-index x c.loop-row-test.true c.row-item.is in
    let found = row_found c.args.rows.now c.loop-row.row-index x c.requires.ascend c.loop-row-test.true c.row-item.is in
    let ascends = and_parts _ _ (subst (λ rows. nodes_ascend rows ≡ true) next c.loop-row.invariant.1) in
    let grown = subst (λ rows. IsRegrown c.args.rows.now (held_by rows (contains_key c.args.named.now)) c.loop-row.self.numbers c.loop-row.self.lineage) next c.loop-row.invariant.0 in
    elim c.if-not-contains.branch [
      | then-not-contains w ↦
          let known = sym c.contains.ensures ∙ w.if-not-contains.true in
          let left = left_unnamed c.args.rows.now rest x (contains_key c.args.named.now) c.loop-row.self.numbers c.loop-row.self.lineage grown found ascends.0 c.requires.named known w.leave.new.self.lineage w.leave.ensures.lineage w.leave.ensures.arrays in (
            subst (λ (s : Regrown). IsRegrown c.args.rows.now (held_by rest (contains_key c.args.named.now)) s.numbers s.lineage) (sym w.self-is)
                (subst (λ numbers. IsRegrown c.args.rows.now (held_by rest (contains_key c.args.named.now)) numbers w.leave.new.self.lineage) (sym w.leave.ensures.numbers) left),
            ascends.1,
            subst (λ (s : Regrown). IsLinked s.backlog s.lineage) (sym w.self-is) w.leave.ensures.linked,
            subst (λ (s : Regrown). Covers s.lineage) (sym w.self-is) w.leave.ensures.covers,
          )
      | else-not-contains w ↦
          let known = sym c.contains.ensures ∙ w.if-not-contains.false in
          let stays = kept_named c.args.rows.now rest x (contains_key c.args.named.now) c.loop-row.self.numbers c.loop-row.self.lineage grown found known in (
            subst (λ (s : Regrown). IsRegrown c.args.rows.now (held_by rest (contains_key c.args.named.now)) s.numbers s.lineage) (sym w.self-is) stays,
            ascends.1,
            subst (λ (s : Regrown). IsLinked s.backlog s.lineage) (sym w.self-is) c.loop-row.invariant.2,
            subst (λ (s : Regrown). Covers s.lineage) (sym w.self-is) c.loop-row.invariant.3,
          )
    ]

pub returns-clause-grown : goal.returns-clause-grown
returns-clause-grown c =
    subst (λ rest. IsRegrown c.args.rows.now (held_by rest (contains_key c.args.named.now)) c.loop-row.self.numbers c.loop-row.self.lineage)
    (drop_all c.loop-row.row-index c.args.rows.now c.loop-row-test.false) c.loop-row.invariant.0
