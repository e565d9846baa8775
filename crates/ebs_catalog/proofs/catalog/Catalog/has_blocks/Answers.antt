use Rattle.std.proofs.Common.{ap, sym, not, ◌∙◌}
use Rattle.std.specs.FinMap as map
use Rattle.ebs_model.proofs.RowLaws.{get-aged_snaps}
use Rattle.ebs_catalog.specs.Held.{rows_in, whole}
use Rattle.ebs_catalog.proofs.Bearing.{of_left, of_gone}
use Rattle.ebs_catalog.proofs.catalog.Catalog.has_blocks.Goals as goal

pub returns-in-Some : goal.returns-in-Some
returns-in-Some c =
    let now = c.args.now.second in
    let rows = (rows_in c.args.self.now).snaps in
    ap not c.has_failed.ensures
    ∙ of_left now (map.get rows c.args.key.now) (whole c.in-Some.kept.now) (sym (get-aged_snaps now rows c.args.key.now) ∙ sym c.in-Some.ensures)

pub returns-in-None : goal.returns-in-None
returns-in-None c =
    let now = c.args.now.second in
    let rows = (rows_in c.args.self.now).snaps in
    of_gone now (map.get rows c.args.key.now) (sym (get-aged_snaps now rows c.args.key.now) ∙ sym c.in-None.ensures)
