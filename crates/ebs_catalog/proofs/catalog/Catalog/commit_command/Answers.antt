use Rattle.std.proofs.Common.{sym, ap, ◌∙◌}
use Rattle.ebs_model.specs.Decisions.{made_snap, made_vol}
use Rattle.ebs_model.specs.inner.Rows.{aged}
use Rattle.ebs_catalog.specs.Held.{Held, rows_in, stale}
use Rattle.ebs_catalog.proofs.Passes.{decided-passed}
use Rattle.ebs_catalog.proofs.Policed.{about-others, no-policies}
use Rattle.ebs_catalog.proofs.Ruled.{about-rules, commits-rules, passed-rules, days-ruled}
use Rattle.ebs_catalog.proofs.catalog.Catalog.commit_command.Goals as goal

pub commit_rules-requires-clause-taken : goal.commit_rules-requires-clause-taken
commit_rules-requires-clause-taken c =
    let change = c.args.change in
    let rows = aged change.at.second (rows_in c.args.self.now) in
    (passed-rules rows change.at change.account change.shared change.request c.requires.call (decided-passed rows change c.requires.decided)).taken

pub commit_rules-requires-clause-days : goal.commit_rules-requires-clause-days
commit_rules-requires-clause-days c =
    let change = c.args.change in
    let rows = aged change.at.second (rows_in c.args.self.now) in
    days-ruled rows change.at.second change.account change.request c.keeps_days.ensures c.requires.call (passed-rules rows change.at change.account change.shared change.request c.requires.call (decided-passed rows change c.requires.decided)).fits

pub returns-clause-rows : goal.returns-clause-rows
returns-clause-rows c =
    let change = c.args.change in
    let rows = aged change.at.second (rows_in c.args.self.now) in
    ap (aged change.at.second) c.commit_rules.ensures.rows
    ∙ commits-rules rows change.at change.account (made_snap change.made) (made_vol change.made) change.request c.requires.call

pub returns-clause-stale : goal.returns-clause-stale
returns-clause-stale c =
    let change = c.args.change in
    ap (λ (h : Held). stale h change.at.second) c.commit_rules.ensures.rest
    ∙ sym (about-rules (made_snap change.made) change.request c.requires.call (stale c.args.self.now change.at.second))
    ∙ about-others change (no-policies change.request c.requires.call) (stale c.args.self.now change.at.second)
