use Rattle.std.proofs.Common.{sym, ap, ◌∙◌}
use Rattle.std.specs.Option.{option_map}
use Rattle.std.specs.FinMap.{get}
use Rattle.ebs_tables.specs.Full.{full}
use Rattle.ebs_catalog.specs.Held.{Held, whole, is_ended}
use Rattle.ebs_catalog.proofs.RowsKept.{get-rows}
use Rattle.ebs_catalog.proofs.catalog.Catalog.is_ended.Goals as goal

pub returns-in-Some : goal.returns-in-Some
returns-in-Some c =
    let k = c.args.key.now in
    let at = ap (λ (h : Held). get (full h.snaps) k) (sym c.self.view_is) ∙ sym c.in-Some.ensures in
    c.is_row_ended.ensures ∙ sym (ap (is_ended c.args.now.second) (get-rows (full c.args.self.now.snaps) k ∙ ap (option_map whole) at))

pub returns-in-None : goal.returns-in-None
returns-in-None c =
    let k = c.args.key.now in
    let at = ap (λ (h : Held). get (full h.snaps) k) (sym c.self.view_is) ∙ sym c.in-None.ensures in
    sym (ap (is_ended c.args.now.second) (get-rows (full c.args.self.now.snaps) k ∙ ap (option_map whole) at))
