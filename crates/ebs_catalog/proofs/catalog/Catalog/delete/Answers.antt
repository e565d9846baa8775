use Rattle.std.proofs.Common.{sym, ap, ◌∙◌}
use Rattle.std.specs.FinMap.{remove}
use Rattle.ebs_tables.specs.Full.{full}
use Rattle.ebs_model.specs.Rows.{Rows}
use Rattle.ebs_model.specs.inner.Rows.{aged}
use Rattle.ebs_catalog.specs.Held.{rows_in}
use Rattle.ebs_catalog.proofs.Stale.{stale_in, stale-removed}
use Rattle.ebs_catalog.proofs.Commits.{left-others}
use Rattle.ebs_catalog.proofs.Binned.{binned-aged, removed-aged, binned-stale, completed-days}
use Rattle.ebs_catalog.proofs.catalog.Catalog.delete.Goals as goal

pub put_in_bin-requires-clause-completed : goal.put_in_bin-requires-clause-completed
put_in_bin-requires-clause-completed c = λ row e. completed-days (rows_in c.args.self.now) c.args.key.now c.in-Some.days row e (sym c.in-Some.ensures.value)

pub returns-in-Some-clause-rows : goal.returns-in-Some-clause-rows
returns-in-Some-clause-rows c =
    let t = c.requires.there in
    ap (aged c.args.at.second) c.put_in_bin.ensures.rows
    ∙ binned-aged (rows_in c.args.self.now) c.args.at c.args.key.now t.row t.found c.in-Some.days c.in-Some.ensures.lasts (sym c.in-Some.ensures.value)

pub returns-in-Some-clause-stale : goal.returns-in-Some-clause-stale
returns-in-Some-clause-stale c =
    let rows = rows_in c.args.self.now in
    let now = c.args.at.second in
    let k = c.args.key.now in
    let t = c.requires.there in
    let new = ap (λ (r : Rows). r.snaps) c.put_in_bin.ensures.rows in
    (λ i. stale_in (new i) (c.put_in_bin.ensures.waits i) now)
    ∙ binned-stale rows c.args.at k t.row t.found c.in-Some.days c.in-Some.ensures.lasts (sym c.in-Some.ensures.value) (full c.args.self.now.waits)

pub returns-in-None-clause-rows : goal.returns-in-None-clause-rows
returns-in-None-clause-rows c =
    let t = c.requires.there in
    ap (aged c.args.at.second) c.remove.ensures.rows
    ∙ removed-aged (rows_in c.args.self.now) c.args.at c.args.key.now t.row t.found (sym c.in-None.ensures.value)

pub returns-in-None-clause-stale : goal.returns-in-None-clause-stale
returns-in-None-clause-stale c =
    let rows = rows_in c.args.self.now in
    let now = c.args.at.second in
    let k = c.args.key.now in
    let new = ap (λ (r : Rows). r.snaps) c.remove.ensures.rows in
    (λ i. stale_in (new i) (c.remove.ensures.waits i) now)
    ∙ stale-removed rows.snaps (remove rows.snaps k) (full c.args.self.now.waits) k now (left-others rows.snaps k)
