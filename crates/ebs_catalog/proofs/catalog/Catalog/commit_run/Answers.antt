use Rattle.std.proofs.Common.{List, not, sym, ap, subst, ◌∙◌}
use Rattle.std.specs.List.{filter}
use Rattle.ebs_tables.specs.Full.{full}
use Rattle.ebs_model.specs.declared.keys.AnyKey.{AnyKey}
use Rattle.ebs_model.specs.Rows.{Rows}
use Rattle.ebs_model.specs.inner.Rows.{aged}
use Rattle.ebs_model.specs.Calls.Run.{with_freed, with_deleted}
use Rattle.ebs_catalog.specs.Held.{rows_in}
use Rattle.ebs_catalog.specs.PolicyCalls.{is_among}
use Rattle.ebs_catalog.specs.Runs.{snaps_of, AreThere, AreDistinct}
use Rattle.ebs_catalog.specs.Rooms.{CoversEnded}
use Rattle.ebs_catalog.proofs.Stale.{stale_in}
use Rattle.ebs_catalog.proofs.RunCommits.{key, request, rows-covered, ended-covered, rows-new, gone-distinct, gone-there, run-rows, run-stale}
use Rattle.ebs_catalog.proofs.catalog.Catalog.commit_run.Goals as goal

pub add_run-requires-clause-room : goal.add_run-requires-clause-room
add_run-requires-clause-room c = rows-covered c.args.self.now c.args.change c.args.room c.requires.room c.requires.call c.requires.decided

pub add_run-requires-clause-new : goal.add_run-requires-clause-new
add_run-requires-clause-new c = rows-new c.args.self.now c.args.change c.args.room c.requires.room c.requires.call c.requires.decided c.volume_limits.ensures c.requires.moment

pub delete_all-requires-clause-room : goal.delete_all-requires-clause-room
delete_all-requires-clause-room c =
    let waits = c.free_all-2.ensures.waits ∙ c.free_all.ensures.waits ∙ c.add_run.ensures.waits in
    subst (CoversEnded c.free_all-2.new.self) (sym c.as_slice-3.ensures) (ended-covered c.args.self.now c.args.change c.args.room c.requires.room c.requires.call c.requires.decided c.free_all-2.new.self waits)

pub delete_all-requires-clause-there : goal.delete_all-requires-clause-there
delete_all-requires-clause-there c =
    let change = c.args.change in
    let at = change.at in
    let rows =
    c.free_all-2.ensures.rows ∙ (λ i. with_freed (c.free_all.ensures.rows i) (snaps_of (c.as_slice-2.ensures i)))
    ∙ (λ i. with_freed (with_freed (c.add_run.ensures.rows i) (snaps_of (c.as_slice.ensures i))) (snaps_of change.ended)) in
    let new = rows-new c.args.self.now change c.args.room c.requires.room c.requires.call c.requires.decided c.volume_limits.ensures c.requires.moment in
    let there = gone-there c.args.self.now change c.args.room c.requires.room c.requires.call c.requires.decided new in
    subst (λ (l : List AnyKey). AreThere (aged at.second (rows_in c.free_all-2.new.self)) (snaps_of l)) (sym c.as_slice-3.ensures)
    (subst (λ (r : Rows). AreThere (aged at.second r) (snaps_of change.ended)) (sym rows) there)

pub delete_all-requires-clause-distinct : goal.delete_all-requires-clause-distinct
delete_all-requires-clause-distinct c =
    subst (λ (l : List AnyKey). AreDistinct (snaps_of l)) (sym c.as_slice-3.ensures) (gone-distinct c.args.self.now c.args.change c.args.room c.requires.room c.requires.call c.requires.decided)

pub returns-clause-rows : goal.returns-clause-rows
returns-clause-rows c =
    let change = c.args.change in
    let at = change.at in
    let h = c.args.self.now in
    let rows =
    c.free_all-2.ensures.rows ∙ (λ i. with_freed (c.free_all.ensures.rows i) (snaps_of (c.as_slice-2.ensures i)))
    ∙ (λ i. with_freed (with_freed (c.add_run.ensures.rows i) (snaps_of (c.as_slice.ensures i))) (snaps_of change.ended)) in
    let new = rows-new h change c.args.room c.requires.room c.requires.call c.requires.decided c.volume_limits.ensures c.requires.moment in
    let left = c.delete_all.ensures.rows ∙ (λ i. with_deleted (aged at.second (rows i)) at (snaps_of (c.as_slice-3.ensures i))) in
    let k = key h change c.args.room c.requires.room c.requires.call c.requires.decided in
    let last = c.set_last_of.ensures.rows k (request h change c.args.room c.requires.room c.requires.call c.requires.decided) in
    ap (aged at.second) last
    ∙ run-rows h change c.args.room c.requires.room c.requires.call c.requires.decided new (rows_in c.delete_all.new.self) left

pub returns-clause-stale : goal.returns-clause-stale
returns-clause-stale c =
    let change = c.args.change in
    let now = change.at.second in
    let rows =
    c.free_all-2.ensures.rows ∙ (λ i. with_freed (c.free_all.ensures.rows i) (snaps_of (c.as_slice-2.ensures i)))
    ∙ (λ i. with_freed (with_freed (c.add_run.ensures.rows i) (snaps_of (c.as_slice.ensures i))) (snaps_of change.ended)) in
    let waits = c.free_all-2.ensures.waits ∙ c.free_all.ensures.waits ∙ c.add_run.ensures.waits in
    c.set_last_of.ensures.stale now
    ∙ c.delete_all.ensures.stale
    ∙ (λ i. filter (λ q. not (is_among q (c.as_slice-3.ensures i))) (stale_in (rows i).snaps (full (waits i)) now))
    ∙ run-stale c.args.self.now change c.args.room c.requires.room c.requires.call c.requires.decided (full c.args.self.now.waits)
