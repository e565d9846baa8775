use Rattle.std.proofs.Common.{sym, ap, ◌∙◌}
use Rattle.std.specs.List.{count_by, filter}
use Rattle.std.specs.FinMap.{entries}
use Rattle.std.specs.Ordering.{is_le}
use Rattle.ebs_tables.specs.Seen.{is_within}
use Rattle.ebs_tables.specs.Full.{full, held}
use Rattle.ebs_model.specs.Keys.{snap_cmp}
use Rattle.ebs_catalog.specs.Held.{Held, rows_in}
use Rattle.ebs_catalog.specs.Counts.{is_kept}
use Rattle.ebs_catalog.proofs.CountLaws.{walked-until, walked-from, kept-own, kept-count, first_of}
use Rattle.ebs_catalog.proofs.catalog.Catalog.count_kept.Goals as goal

pub returns-in-Some : goal.returns-in-Some
returns-in-Some c =
    let account = c.args.account in
    let now = c.args.at.second in
    let m = held snap_cmp c.self.inside.snaps in
    let p = is_kept account now in
    c.count_kept.ensures
    ∙ ap (count_by p) (c.until.ensures.values ∙ (λ i. filter (λ e. is_within snap_cmp (c.first_of-start.ensures i) (c.first_of.ensures i) e.0) (entries m)) ∙ ap (λ n. filter (λ e. is_within snap_cmp (first_of account) (first_of n) e.0) (entries m)) c.in-Some.ensures)
    ∙ walked-until account p (kept-own account now) m
    ∙ ap (λ (h : Held). count_by p (entries (full h.snaps))) c.self.view_is
    ∙ sym (kept-count now account (full c.args.self.now.snaps) (rows_in c.args.self.now))

pub returns-in-None : goal.returns-in-None
returns-in-None c =
    let account = c.args.account in
    let now = c.args.at.second in
    let m = held snap_cmp c.self.inside.snaps in
    let p = is_kept account now in
    c.count_kept-in-None.ensures
    ∙ ap (count_by p) (c.from.ensures.values ∙ (λ i. filter (λ e. is_le (snap_cmp (c.first_of-start.ensures i) e.0)) (entries m)))
    ∙ walked-from account p (kept-own account now) m
    ∙ ap (λ (h : Held). count_by p (entries (full h.snaps))) c.self.view_is
    ∙ sym (kept-count now account (full c.args.self.now.snaps) (rows_in c.args.self.now))
