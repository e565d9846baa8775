use Rattle.std.proofs.Common.{Option, sym, ap, subst, ◌∙◌}
use Rattle.ebs_model.specs.declared.keys.PolicyKey.{PolicyKey}
use Rattle.ebs_model.specs.Decisions.{made_snap, made_vol}
use Rattle.ebs_model.specs.inner.Rows.{aged}
use Rattle.ebs_catalog.specs.Held.{rows_in}
use Rattle.ebs_catalog.specs.Rooms.{CoversTable}
use Rattle.ebs_catalog.specs.Decided.{PassedTable}
use Rattle.ebs_catalog.proofs.Policed.{covers-table, passed-table, passed-before, table-aged}
use Rattle.ebs_catalog.proofs.catalog.Catalog.commit_table.Goals as goal

pub commit_in_table-requires-clause-room : goal.commit_in_table-requires-clause-room
commit_in_table-requires-clause-room c =
    let change = c.args.change in
    subst (λ (o : Option PolicyKey). CoversTable c.args.self.now o change.request) (sym c.made_policy-policy.ensures)
    (covers-table c.args.self.now change.made change.ended change.request c.requires.table c.requires.room)

pub commit_in_table-requires-clause-decided : goal.commit_in_table-requires-clause-decided
commit_in_table-requires-clause-decided c =
    let change = c.args.change in
    let rows = rows_in c.args.self.now in
    subst (λ (o : Option PolicyKey). PassedTable rows change.account o change.request) (sym c.made_policy-policy.ensures)
    (passed-before change.at.second rows change.account _ change.request (passed-table (aged change.at.second rows) change change.request c.requires.decided))

pub returns-clause-rows : goal.returns-clause-rows
returns-clause-rows c =
    let change = c.args.change in
    ap (aged change.at.second) (c.commit_in_table.ensures.rows (made_snap change.made) (made_vol change.made))
    ∙ table-aged change.at.second (rows_in c.args.self.now) change.at change.account (made_snap change.made) (made_vol change.made) change.request c.requires.call c.requires.table
