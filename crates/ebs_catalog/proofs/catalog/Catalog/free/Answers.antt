use Rattle.std.proofs.Common.{None, refl, sym, ap, subst, ◌∙◌}
use Rattle.std.specs.Option.{option_map}
use Rattle.std.specs.Ordering.{nat_cmp}
use Rattle.std.specs.FinMap.{get, insert}
use Rattle.ebs_tables.specs.Full.{full, slots_of, held}
use Rattle.ebs_tables.proofs.FullLaws.{ready-some, remove-none}
use Rattle.ebs_model.specs.Keys.{snap_cmp, vol_cmp, token_cmp}
use Rattle.ebs_model.specs.inner.Orders.{snaps_total, exact_snaps}
use Rattle.ebs_model.specs.inner.MapValues.{map_values}
use Rattle.ebs_model.specs.Rows.{changed_row}
use Rattle.ebs_catalog.specs.declared.rows.KeptRow.{KeptRow}
use Rattle.ebs_bin.specs.Books.{book}
use Rattle.ebs_catalog.specs.Held.{Held, rows_in, whole, own_in}
use Rattle.ebs_catalog.specs.Sound.{IsSound, AreCounted, AreAwaited}
use Rattle.ebs_model.specs.Calls.Run.{freed}
use Rattle.ebs_catalog.proofs.RowsKept.{rows_of, get-rows, rows-again, sound-kept}
use Rattle.ebs_catalog.proofs.CountedRows.{counted-again}
use Rattle.ebs_catalog.proofs.Awaited.{awaited-status}
use Rattle.ebs_catalog.proofs.catalog.Catalog.free.Goals as goal

pub invariant_of-self : goal.invariant_of-self
invariant_of-self c =
    let m = held snap_cmp c.self.inside.snaps in
    let same = c.take.ensures.held ∙ remove-none snaps_total exact_snaps m c.args.key.now (sym c.take.ensures.value ∙ c.in_default.is) in
    ((subst IsSound (sym same) c.self.invariant.0.0, (subst (λ x. AreCounted x (held nat_cmp c.self.inside.owns)) (sym same) c.self.invariant.0.1.0, subst (λ x. AreAwaited x (held snap_cmp c.self.inside.waits) c.self.inside.latest.second) (sym same) c.self.invariant.0.1.1)), c.self.invariant.1)

pub returns-in_default-clause-rows : goal.returns-in_default-clause-rows
returns-in_default-clause-rows c =
    let m = held snap_cmp c.self.inside.snaps in
    let k = c.args.key.now in
    let f = freed in
    let none = sym c.take.ensures.value ∙ c.in_default.is in
    let snaps = ap rows_of (c.take.ensures.held ∙ remove-none snaps_total exact_snaps m k none) in
    let there = get-rows m k ∙ ap (option_map whole) none in
    (λ i. record { snaps = snaps i; own = map_values own_in (held nat_cmp c.self.inside.owns); tokens = held token_cmp c.self.inside.tokens; vols = held vol_cmp c.self.inside.vols; books = map_values book (held nat_cmp c.self.inside.books); policies = full c.self.inside.policies })
    ∙ (λ i. record { snaps = changed_row (rows_of m) k f (sym there i); own = map_values own_in (held nat_cmp c.self.inside.owns); tokens = held token_cmp c.self.inside.tokens; vols = held vol_cmp c.self.inside.vols; books = map_values book (held nat_cmp c.self.inside.books); policies = full c.self.inside.policies })
    ∙ ap (λ (h : Held). record (rows_in h) { snaps = changed_row (rows_in h).snaps k f (get (rows_in h).snaps k) }) c.self.view_is

pub fill-requires : goal.fill-requires
fill-requires c = c.take.ensures.ready c.args.key.now ∙ ready-some snaps_total (slots_of snap_cmp c.self.inside.snaps) c.args.key.now c.in-Some.kept (sym c.in-Some.ensures.value)

pub invariant_of-self-2 : goal.invariant_of-self-2
invariant_of-self-2 c =
    let m = held snap_cmp c.self.inside.snaps in
    let k = c.args.key.now in
    let kept = c.in-Some.kept in
    let new : KeptRow = record { row = record kept.row { policy = None }; put = kept.put } in
    let is = c.fill.ensures.held ∙ ap (λ x. insert x k new) c.take.ensures.held in
    ((subst IsSound (sym is) (sound-kept m k kept (sym c.in-Some.ensures.value) new refl refl refl refl (λ e. e) (λ h. h) c.self.invariant.0.0), (subst (λ x. AreCounted x (held nat_cmp c.self.inside.owns)) (sym is) (counted-again m _ k kept new (sym c.in-Some.ensures.value) c.self.invariant.0.1.0), subst (λ x. AreAwaited x (held snap_cmp c.self.inside.waits) c.self.inside.latest.second) (sym is) (awaited-status m (held snap_cmp c.self.inside.waits) k new c.self.inside.latest.second kept (sym c.in-Some.ensures.value) (λ now. refl) c.self.invariant.0.1.1))), c.self.invariant.1)

pub returns-clause-rows : goal.returns-clause-rows
returns-clause-rows c =
    let m = held snap_cmp c.self.inside.snaps in
    let k = c.args.key.now in
    let kept = c.in-Some.kept in
    let f = freed in
    let new : KeptRow = record { row = record kept.row { policy = None }; put = kept.put } in
    let there = get-rows m k ∙ ap (option_map whole) (sym c.in-Some.ensures.value) in
    let snaps = ap rows_of (c.fill.ensures.held ∙ ap (λ x. insert x k new) c.take.ensures.held) ∙ rows-again m k new
    ∙ (λ i. changed_row (rows_of m) k f (sym there i)) in
    (λ i. record { snaps = snaps i; own = map_values own_in (held nat_cmp c.self.inside.owns); tokens = held token_cmp c.self.inside.tokens; vols = held vol_cmp c.self.inside.vols; books = map_values book (held nat_cmp c.self.inside.books); policies = full c.self.inside.policies })
    ∙ ap (λ (h : Held). record (rows_in h) { snaps = changed_row (rows_in h).snaps k f (get (rows_in h).snaps k) }) c.self.view_is
