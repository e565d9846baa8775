use Rattle.std.proofs.Common.{ℕ, not, Option, refl, sym, ap, subst, ◌∙◌}
use Rattle.std.specs.List.{filter}
use Rattle.std.specs.FinMap.{insert}
use Rattle.ebs_tables.specs.Full.{full}
use Rattle.ebs_model.specs.Rows.{Rows}
use Rattle.ebs_model.specs.inner.Rows.{aged, aged_snaps}
use Rattle.ebs_catalog.specs.Held.{rows_in, is_ended, stale, new_token_by}
use Rattle.ebs_catalog.proofs.Stale.{stale_in}
use Rattle.ebs_catalog.proofs.RowsKept.{found, timed}
use Rattle.ebs_model.specs.inner.Orders.{snaps_total, exact_snaps}
use Rattle.ebs_catalog.proofs.Commits.{upload-aged, fresh, left-empty, open-ended, filter-all, stale-inserted, others, size-fits}
use Rattle.ebs_model.specs.Calls.Start.{started_row, line_of, with_upload, with_token, commit_start}
use Rattle.ebs_model.specs.Step.{is_made}
use Rattle.ebs_model.specs.declared.keys.SnapKey.{SnapKey}
use Rattle.ebs_model.specs.declared.request.Request.TheVariants.{StartSnapshot}
use Rattle.ebs_catalog.specs.Starts.{with_new, IsOf}
use Rattle.ebs_catalog.proofs.UsedTokens.{kept-token, of-account}
use Rattle.ebs_catalog.proofs.catalog.Catalog.add_upload.Goals as goal

pub narrow-size-requires : goal.narrow-size-requires
narrow-size-requires c = size-fits c.args.size c.requires.fits.0

pub returns-in-Some-clause-rows : goal.returns-in-Some-clause-rows
returns-in-Some-clause-rows c =
    let rows = rows_in c.args.self.now in
    let at = c.args.at in
    let k = c.in-Some.key in
    let row = λ (size : ℕ). started_row at k size c.args.parent (line_of (aged_snaps at.second rows.snaps) k c.args.parent) c.args.description c.args.tags c.args.timeout in
    let request = StartSnapshot c.args.size c.args.parent c.args.description c.args.tags c.args.client_token c.args.timeout in
    let given = c.requires.token ∙ ap (λ (o : Option SnapKey). new_token_by o request c.args.client_token) c.in-Some.is in
    let tokens = ap (with_new rows.tokens at k.number) given ∙ kept-token rows.tokens at k.account k.number request c.args.client_token in
    ap (aged at.second) (c.commit_start.ensures.rows ∙ (λ i. record (with_upload rows k (row (c.narrow-size.ensures i))) { tokens = tokens i }))
    ∙ (λ i. record (upload-aged at.second rows k (row c.args.size) (left-empty at.second (row c.args.size) refl refl) i) { tokens = with_token rows.tokens at k.account k.number request c.args.client_token })
    ∙ ap (λ o. commit_start (aged at.second rows) at o c.args.size c.args.parent c.args.description c.args.tags c.args.client_token c.args.timeout) (sym c.in-Some.is)

pub commit_start-requires-clause-owner : goal.commit_start-requires-clause-owner
commit_start-requires-clause-owner c =
    let request = StartSnapshot c.args.size c.args.parent c.args.description c.args.tags c.args.client_token c.args.timeout in
    subst (IsOf c.in-Some.key.account) (sym (c.requires.token ∙ ap (λ (o : Option SnapKey). new_token_by o request c.args.client_token) c.in-Some.is)) (of-account c.in-Some.key.account request c.args.client_token)

pub returns-in-Some-clause-stale : goal.returns-in-Some-clause-stale
returns-in-Some-clause-stale c =
    let rows = rows_in c.args.self.now in
    let at = c.args.at in
    let k = c.in-Some.key in
    let row = λ (size : ℕ). started_row at k size c.args.parent (line_of (aged_snaps at.second rows.snaps) k c.args.parent) c.args.description c.args.tags c.args.timeout in
    let new = ap (λ (r : Rows). r.snaps) c.commit_start.ensures.rows ∙ (λ i. insert rows.snaps k (row (c.narrow-size.ensures i))) in
    let ended = ap (is_ended at.second) (found snaps_total exact_snaps rows.snaps k (row c.args.size)) ∙ open-ended at.second (row c.args.size) refl (fresh at (row c.args.size) refl (timed c.args.timeout c.requires.fits.1)) in
    (λ i. stale_in (new i) (c.commit_start.ensures.waits i) at.second)
    ∙ stale-inserted rows.snaps (insert rows.snaps k (row c.args.size)) k at.second (others rows.snaps k (row c.args.size)) ended (full c.args.self.now.waits)
    ∙ ap (λ (o : Option SnapKey). filter (λ q. not (is_made q o)) (stale c.args.self.now at.second)) (sym c.in-Some.is)

pub returns-in-None-clause-stale : goal.returns-in-None-clause-stale
returns-in-None-clause-stale c = sym (filter-all (stale c.args.self.now c.args.at.second)) ∙ ap (λ (o : Option SnapKey). filter (λ q. not (is_made q o)) (stale c.args.self.now c.args.at.second)) (sym c.in-None.is)
