use Rattle.std.proofs.Common.{◌≤◌, ◌^◌, Some, sym, ap, subst, ◌∙◌}
use Rattle.ebs_model.specs.declared.rows.SnapRow.{SnapRow}
use Rattle.ebs_model.specs.Limits.{is_size}
use Rattle.ebs_model.specs.Calls.Start.{with_upload}
use Rattle.ebs_model.specs.Calls.Disk.{with_snapped}
use Rattle.ebs_catalog.specs.Held.{rows_in, CoversSnap}
use Rattle.ebs_catalog.proofs.catalog.Catalog.commit_snap.Goals as goal

pub add_row-requires-clause-room : goal.add_row-requires-clause-room
add_row-requires-clause-room c = subst (λ (r : SnapRow). CoversSnap c.args.self.now (Some r.key)) (sym c.snapped_row-row.ensures) c.requires.room

pub add_row-requires-clause-new : goal.add_row-requires-clause-new
add_row-requires-clause-new c =
    let row_is = c.snapped_row-row.ensures in
    let size = (c.in-Some.ensures.sound c.in-Some.found.now (sym c.in-Some.ensures.row)).size in
    record {
      size = ap (λ (r : SnapRow). is_size r.size) row_is ∙ size;
      start = subst (λ (r : SnapRow). r.start.second ≤ 2 ^ 36) (sym row_is) c.requires.moment;
      completed = ap (λ (r : SnapRow). r.completed) row_is;
      put = ap (λ (r : SnapRow). r.put) row_is;
      out = ap (λ (r : SnapRow). r.bin_end) row_is;
    }

pub returns-clause-rows : goal.returns-clause-rows
returns-clause-rows c =
    c.add_row.ensures.rows
    ∙ ap (λ (r : SnapRow). with_upload (rows_in c.args.self.now) r.key r) c.snapped_row-row.ensures
    ∙ ap (with_snapped (rows_in c.args.self.now) c.args.at c.args.key.now c.args.volume.now c.args.description c.args.tags) c.in-Some.ensures.row
