use Rattle.std.proofs.Common.{List, map, Ok, sym, ap, ◌∙◌}
use Rattle.std.specs.FinMap.{entries}
use Rattle.std.specs.List.{filter}
use Rattle.ebs_tables.specs.Full.{full}
use Rattle.ebs_model.specs.declared.keys.SnapKey.{SnapKey}
use Rattle.ebs_model.specs.declared.rows.SnapRow.{SnapRow}
use Rattle.ebs_model.specs.declared.answer.Answer.TheVariants.{SnapshotList}
use Rattle.ebs_model.specs.declared.change.Decision.TheVariants.{View}
use Rattle.ebs_model.specs.Lists.{page_of, next_of}
use Rattle.ebs_model.specs.Views.{view_of}
use Rattle.ebs_catalog.specs.Held.{rows_in}
use Rattle.ebs_catalog.specs.Shows.{is_listed, shown_page}
use Rattle.ebs_catalog.proofs.Listed.{listed-rows, shown-page}
use Rattle.ebs_catalog.proofs.catalog.Catalog.decide_rows.Goals as goal

pub returns-clause-decided : goal.returns-clause-decided
returns-clause-decided c =
    let account = c.args.account in
    let now = c.args.at.second in
    let bin = c.args.bin in
    let most = c.args.max in
    let h = c.args.self.now in
    let shown = λ (es : List (SnapKey × SnapRow)). SnapshotList (next_of (λ e. e.0.number) most es) (map (λ e. view_of account now e.0 e.1) (page_of most es)) in
    let is = c.in_ok-answer.ensures in
    ap (λ a. Ok (View a)) (is ∙ ap (shown_page account now most) (c.rows_from-rows.ensures bin now) ∙ shown-page now account most (filter (is_listed bin account now c.args.from) (entries (full h.snaps))) ∙ ap shown (sym (listed-rows bin now account c.args.from (full h.snaps) (rows_in h))))
