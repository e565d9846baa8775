use Rattle.std.proofs.Common.{sym, ap, ◌∙◌, Some, None, cond}
use Rattle.std.specs.Option.{option_map, option_copied}
use Rattle.std.specs.FinMap.{get}
use Rattle.ebs_tables.specs.Full.{full}
use Rattle.ebs_model.specs.Time.{rested_row}
use Rattle.ebs_model.proofs.RowLaws.{get-aged_snaps, left_row}
use Rattle.ebs_catalog.specs.Held.{Held, rows_in, whole}
use Rattle.ebs_catalog.proofs.RowsKept.{get-rows}
use Rattle.ebs_catalog.proofs.catalog.Catalog.row_at.Goals.{in_default-via-in-Some+else-stays, in_default-via-in_default}
use Rattle.ebs_catalog.proofs.catalog.Catalog.row_at.Goals as goal

pub returns-in-Some : goal.returns-in-Some
returns-in-Some c =
    let now = c.args.at.second in
    let k = c.args.key.now in
    let found = ap (λ (h : Held). get (full h.snaps) k) (sym c.self.view_is) ∙ sym c.in-Some.ensures in
    sym (get-aged_snaps now (rows_in c.args.self.now).snaps k
    ∙ ap (left_row now) (get-rows (full c.args.self.now.snaps) k ∙ ap (option_map whole) found)
    ∙ ap (λ b. option_map (rested_row now) (cond b (Some (whole c.in-Some.kept.now)) None)) (sym c.stays.ensures ∙ c.if-stays.true))

pub returns-in_default : goal.returns-in_default
returns-in_default c =
    let now = c.args.at.second in
    let k = c.args.key.now in
    let found = get-aged_snaps now (rows_in c.args.self.now).snaps k
    ∙ ap (left_row now) (get-rows (full c.args.self.now.snaps) k ∙ ap (λ (h : Held). option_map whole (get (full h.snaps) k)) (sym c.self.view_is) ∙ ap (option_map whole) (sym c.get.ensures)) in
    elim c.in_default.branch [
      | in_default-via-in-Some+else-stays w ↦ sym (found
          ∙ ap (λ o. left_row now (option_map whole (option_copied o))) w.in-Some.is
          ∙ ap (λ b. option_map (rested_row now) (cond b (Some (whole w.in-Some.kept.now)) None)) (sym w.stays.ensures ∙ w.if-stays.false))
      | in_default-via-in_default w ↦ sym (found ∙ ap (λ o. left_row now (option_map whole (option_copied o))) w.in_default.is)
    ]
