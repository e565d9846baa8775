use Rattle.std.proofs.Common.{◌≡◌}
use Rattle.ebs_catalog.specs.Held.{rows_in}
use Rattle.ebs_catalog.specs.Runs.{with_rows, AreNew, CoversRows}
use Rattle.ebs_catalog.proofs.catalog.Catalog.add_rows.Given as goal

-- the rows so far, with those that are still to come, are all
abbrev pub invariant-loop-row : goal.invariant-loop-row
invariant-loop-row l =
    (with_rows (rows_in l.self) l.row-iterator.rest.items ≡ with_rows (rows_in l.initial.self) l.initial.row-iterator.rest.items)
    × ((l.self.waits ≡ l.initial.self.waits) × ((l.self.latest ≡ l.initial.self.latest) × (AreNew l.row-iterator.rest.items × CoversRows l.self l.row-iterator.rest.items)))
