use Rattle.std.proofs.Common.{ap, ◌∙◌}
use Rattle.std.specs.List.{filter}
use Rattle.std.specs.FinMap.{entries}
use Rattle.ebs_tables.specs.Seen.{is_within}
use Rattle.ebs_tables.specs.Full.{full, held}
use Rattle.ebs_model.specs.Keys.{snap_cmp}
use Rattle.ebs_catalog.specs.Held.{Held}
use Rattle.ebs_catalog.specs.Shows.{is_listed}
use Rattle.ebs_catalog.proofs.CountLaws.{first_of}
use Rattle.ebs_catalog.proofs.Listed.{listed-until, listed-from}
use Rattle.ebs_catalog.proofs.catalog.Catalog.rows_from.Goals as goal

pub returns-in-Some : goal.returns-in-Some
returns-in-Some c = λ bin now.
    let account = c.args.account in
    let p = is_listed bin account now c.args.from in
    let m = held snap_cmp c.self.inside.snaps in
    let start = c.key_from-start.result in
    ap (filter p) (c.until.ensures.values ∙ (λ i. filter (λ e. is_within snap_cmp start (c.first_of.ensures i) e.0) (entries m)) ∙ ap (λ n. filter (λ e. is_within snap_cmp start (first_of n) e.0) (entries m)) c.in-Some.ensures)
    ∙ listed-until bin now account c.args.from start c.key_from-start.ensures.account c.key_from-start.ensures.number (entries m)
    ∙ ap (λ (h : Held). filter p (entries (full h.snaps))) c.self.view_is

pub returns-in-None : goal.returns-in-None
returns-in-None c = λ bin now.
    let account = c.args.account in
    let p = is_listed bin account now c.args.from in
    let m = held snap_cmp c.self.inside.snaps in
    ap (filter p) c.from.ensures.values
    ∙ listed-from bin now account c.args.from c.key_from-start.result c.key_from-start.ensures.account c.key_from-start.ensures.number (entries m)
    ∙ ap (λ (h : Held). filter p (entries (full h.snaps))) c.self.view_is
