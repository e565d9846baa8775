use Rattle.std.proofs.Common.{sym, ap, cond, [], ◌∙◌}
use Rattle.std.specs.Option.{option_map, option_copied, unwrap_or}
use Rattle.std.specs.FinMap.{get, keys}
use Rattle.ebs_model.specs.declared.rows.SnapRow.{SnapRow}
use Rattle.ebs_catalog.specs.Held.{rows_in}
use Rattle.ebs_kept.specs.inner.Shown.{Form}
use Rattle.ebs_kept.proofs.AsKept.{put-at, put-found}
use Rattle.ebs_kept.proofs.kept.Kept.put_at.Goals as goal

pub returns-then-has_blocks : goal.returns-then-has_blocks
returns-then-has_blocks c =
    let k = c.self.inside in
    let key = c.args.key.now in
    let row = get (rows_in k.catalog).snaps key in
    put-found (option_copied c.put.result) row c.put.ensures
    ∙ ap (λ b. cond b (unwrap_or (option_map (λ (row : SnapRow). keys row.put) row) []) []) (sym c.if-has_blocks.true ∙ c.has_blocks.ensures)
    ∙ sym (put-at k c.args.self.now.machine (ap (λ (f : Form). f.machine) c.self.view_is) c.args.now c.requires key)

pub returns-else-has_blocks : goal.returns-else-has_blocks
returns-else-has_blocks c =
    let k = c.self.inside in
    let key = c.args.key.now in
    let row = get (rows_in k.catalog).snaps key in
    ap (λ b. cond b (unwrap_or (option_map (λ (row : SnapRow). keys row.put) row) []) []) (sym c.if-has_blocks.false ∙ c.has_blocks.ensures)
    ∙ sym (put-at k c.args.self.now.machine (ap (λ (f : Form). f.machine) c.self.view_is) c.args.now c.requires key)
