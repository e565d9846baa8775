use Rattle.std.proofs.Common.{◌≤◌, sym, ap, subst, ◌∙◌}
use Rattle.std.specs.List.{count_by, filter}
use Rattle.std.specs.FinMap.{get, entries}
use Rattle.std.specs.Ordering.{is_le}
use Rattle.ebs_tables.specs.Seen.{is_within}
use Rattle.ebs_tables.specs.Full.{held}
use Rattle.ebs_model.specs.Keys.{snap_cmp}
use Rattle.ebs_model.specs.inner.Rows.{aged}
use Rattle.ebs_model.specs.Rows.{open_count}
use Rattle.ebs_catalog.specs.Held.{Held, rows_in}
use Rattle.ebs_catalog.specs.Counts.{is_open}
use Rattle.ebs_catalog.proofs.Awaited.{waiting-count}
use Rattle.ebs_catalog.proofs.CountLaws.{walked-until, walked-from, open-own, open-count, first_of}
use Rattle.ebs_catalog.proofs.catalog.Catalog.count_open.Goals as goal

pub returns-in-Some : goal.returns-in-Some
returns-in-Some c =
    let account = c.args.account in
    let now = c.args.at.second in
    let m = held snap_cmp c.self.inside.snaps in
    let w = held snap_cmp c.self.inside.waits in
    let p = λ (e : _ × Unit {0}). is_open account now e.0 (get m e.0) in
    let later = subst (λ (h : Held). h.latest ≤ now) (sym c.self.view_is) c.requires in
    c.count_open.ensures
    ∙ ap (count_by p) (c.until-waiting.ensures.values ∙ (λ i. filter (λ e. is_within snap_cmp (c.first_of-start.ensures i) (c.first_of.ensures i) e.0) (entries w)) ∙ ap (λ n. filter (λ e. is_within snap_cmp (first_of account) (first_of n) e.0) (entries w)) c.in-Some.ensures)
    ∙ walked-until account p (open-own account now m) w
    ∙ waiting-count m w c.self.inside.latest.second now c.self.invariant.0.1.1 later account
    ∙ sym (open-count now account m (rows_in c.args.self.now))
    ∙ ap (λ (h : Held). open_count (aged now (record (rows_in c.args.self.now) { snaps = (rows_in h).snaps })) account now) c.self.view_is

pub returns-in-None : goal.returns-in-None
returns-in-None c =
    let account = c.args.account in
    let now = c.args.at.second in
    let m = held snap_cmp c.self.inside.snaps in
    let w = held snap_cmp c.self.inside.waits in
    let p = λ (e : _ × Unit {0}). is_open account now e.0 (get m e.0) in
    let later = subst (λ (h : Held). h.latest ≤ now) (sym c.self.view_is) c.requires in
    c.count_open-in-None.ensures
    ∙ ap (count_by p) (c.from.ensures.values ∙ (λ i. filter (λ e. is_le (snap_cmp (c.first_of-start.ensures i) e.0)) (entries w)))
    ∙ walked-from account p (open-own account now m) w
    ∙ waiting-count m w c.self.inside.latest.second now c.self.invariant.0.1.1 later account
    ∙ sym (open-count now account m (rows_in c.args.self.now))
    ∙ ap (λ (h : Held). open_count (aged now (record (rows_in c.args.self.now) { snaps = (rows_in h).snaps })) account now) c.self.view_is
