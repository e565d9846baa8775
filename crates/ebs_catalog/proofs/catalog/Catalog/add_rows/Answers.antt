use Rattle.std.proofs.Common.{sym, ap, subst, ◌∙◌}
use Rattle.ebs_catalog.specs.Held.{rows_in}
use Rattle.ebs_catalog.specs.Runs.{with_rows, AreNew, CoversRows}
use Rattle.ebs_catalog.proofs.RunRows.{rows-room}
use Rattle.ebs_catalog.proofs.catalog.Catalog.add_rows.Goals as goal

pub loop-row-preserved : goal.loop-row-preserved
loop-row-preserved c =
    let held = c.loop-row.invariant in
    let rest = c.next.new.self.rest.items in
    let steps = c.in-Some.ensures.steps.0 in
    let new = subst AreNew steps held.1.1.1.0 in
    let room = subst (CoversRows c.loop-row.self) steps held.1.1.1.1 in (
      ap (λ r. with_rows r rest) c.add_row.ensures.rows ∙ ap (with_rows (rows_in c.loop-row.self)) (sym steps) ∙ held.0,
      (c.add_row.ensures.waits ∙ held.1.0, (c.add_row.ensures.latest ∙ held.1.1.0, (new.1, rows-room c.loop-row.self c.add_row.new.self c.add_row.ensures.others rest room.1))),
    )
