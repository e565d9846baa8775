use Rattle.std.proofs.Common.{◌≡◌, refl, sym, ap, subst, ◌∙◌}
use Rattle.std.specs.Ordering.{nat_cmp}
use Rattle.std.specs.FinMap.{get, insert, contains_key}
use Rattle.ebs_tables.specs.Full.{full, slots_of, held}
use Rattle.ebs_tables.proofs.FullLaws.{ready-some, remove-none}
use Rattle.ebs_model.specs.Keys.{snap_cmp, vol_cmp, token_cmp}
use Rattle.ebs_model.specs.inner.Orders.{snaps_total, exact_snaps}
use Rattle.ebs_model.specs.inner.MapValues.{map_values}
use Rattle.ebs_bin.specs.Books.{book}
use Rattle.ebs_catalog.specs.Held.{Held, rows_in, own_in, stale, FreeIndex}
use Rattle.ebs_catalog.specs.Sound.{IsSound, AreCounted, AreAwaited}
use Rattle.ebs_catalog.proofs.RowsKept.{rows_of, found, gone, same-put, sound-kept, released-free}
use Rattle.ebs_catalog.proofs.Stale.{stale_in}
use Rattle.std.specs.Cmp.{nat_cmp_total}
use Rattle.std.specs.FinMap.{nat_cmp-IsAntisymmetric}
use Rattle.ebs_catalog.proofs.CountedRows.{counted-again}
use Rattle.ebs_catalog.proofs.Awaited.{awaited-again}
use Rattle.ebs_catalog.proofs.catalog.Catalog.release_put.Goals as goal

pub invariant_of-self : goal.invariant_of-self
invariant_of-self c =
    let m = held snap_cmp c.self.inside.snaps in
    let same = c.take.ensures.held ∙ remove-none snaps_total exact_snaps m c.args.key.now (sym c.take.ensures.value ∙ c.in_default.is) in
    ((subst IsSound (sym same) c.self.invariant.0.0, (subst (λ x. AreCounted x (held nat_cmp c.self.inside.owns)) (sym same) c.self.invariant.0.1.0, subst (λ x. AreAwaited x (held snap_cmp c.self.inside.waits) c.self.inside.latest.second) (sym same) c.self.invariant.0.1.1)), c.self.invariant.1)

pub returns-in_default-clause-rows : goal.returns-in_default-clause-rows
returns-in_default-clause-rows c =
    let m = held snap_cmp c.self.inside.snaps in
    let snaps = ap rows_of (c.take.ensures.held ∙ remove-none snaps_total exact_snaps m c.args.key.now (sym c.take.ensures.value ∙ c.in_default.is)) in
    (λ i. record { snaps = snaps i; own = map_values own_in (held nat_cmp c.self.inside.owns); tokens = held token_cmp c.self.inside.tokens; vols = held vol_cmp c.self.inside.vols; books = map_values book (held nat_cmp c.self.inside.books); policies = full c.self.inside.policies }) ∙ ap rows_in c.self.view_is

pub returns-in_default-clause-stale : goal.returns-in_default-clause-stale
returns-in_default-clause-stale c = λ now.
    let m = held snap_cmp c.self.inside.snaps in
    let snaps = ap rows_of (c.take.ensures.held ∙ remove-none snaps_total exact_snaps m c.args.key.now (sym c.take.ensures.value ∙ c.in_default.is)) in
    ap (λ s. stale_in s (held snap_cmp c.self.inside.waits) now) snaps ∙ ap (λ (h : Held). stale h now) c.self.view_is

pub fill-requires : goal.fill-requires
fill-requires c = c.take.ensures.ready c.args.key.now ∙ ready-some snaps_total (slots_of snap_cmp c.self.inside.snaps) c.args.key.now c.in-Some.kept (sym c.in-Some.ensures.value)

pub invariant_of-self-2 : goal.invariant_of-self-2
invariant_of-self-2 c =
    let m = held snap_cmp c.self.inside.snaps in
    let k = c.args.key.now in
    let new = record c.in-Some.kept { put = c.release.new.self } in
    let is = c.fill.ensures.held ∙ ap (λ x. insert x k new) c.take.ensures.held in
    ((subst IsSound (sym is) (sound-kept m k c.in-Some.kept (sym c.in-Some.ensures.value) new refl refl refl refl (λ e. e) (λ h. h) c.self.invariant.0.0), (subst (λ x. AreCounted x (held nat_cmp c.self.inside.owns)) (sym is) (counted-again m _ k c.in-Some.kept new (sym c.in-Some.ensures.value) c.self.invariant.0.1.0), subst (λ x. AreAwaited x (held snap_cmp c.self.inside.waits) c.self.inside.latest.second) (sym is) (awaited-again m (held snap_cmp c.self.inside.waits) k new c.self.inside.latest.second c.in-Some.kept (sym c.in-Some.ensures.value) refl c.self.invariant.0.1.1))), c.self.invariant.1)

pub returns-clause-rows : goal.returns-clause-rows
returns-clause-rows c =
    let m = held snap_cmp c.self.inside.snaps in
    let k = c.args.key.now in
    let new = record c.in-Some.kept { put = c.release.new.self } in
    let snaps = ap rows_of (c.fill.ensures.held ∙ ap (λ x. insert x k new) c.take.ensures.held) ∙ same-put m k c.in-Some.kept (sym c.in-Some.ensures.value) c.release.new.self c.release.ensures.values in
    (λ i. record { snaps = snaps i; own = map_values own_in (held nat_cmp c.self.inside.owns); tokens = held token_cmp c.self.inside.tokens; vols = held vol_cmp c.self.inside.vols; books = map_values book (held nat_cmp c.self.inside.books); policies = full c.self.inside.policies }) ∙ ap rows_in c.self.view_is

pub returns-clause-stale : goal.returns-clause-stale
returns-clause-stale c = λ now.
    let m = held snap_cmp c.self.inside.snaps in
    let k = c.args.key.now in
    let new = record c.in-Some.kept { put = c.release.new.self } in
    let snaps = ap rows_of (c.fill.ensures.held ∙ ap (λ x. insert x k new) c.take.ensures.held) ∙ same-put m k c.in-Some.kept (sym c.in-Some.ensures.value) c.release.new.self c.release.ensures.values in
    ap (λ s. stale_in s (held snap_cmp c.self.inside.waits) now) snaps ∙ ap (λ (h : Held). stale h now) c.self.view_is

pub returns-in_default-clause-free : goal.returns-in_default-clause-free
returns-in_default-clause-free c =
    let k = c.args.key.now in
    let none = ap (λ x. get x k) c.take.ensures.held ∙ gone snaps_total exact_snaps (held snap_cmp c.self.inside.snaps) k in
    subst (λ o. FreeIndex o c.args.index) (sym none) tt

pub returns-clause-free : goal.returns-clause-free
returns-clause-free c =
    let k = c.args.key.now in
    let new = record c.in-Some.kept { put = c.release.new.self } in
    let is = ap (λ x. get x k) c.fill.ensures.held ∙ found snaps_total exact_snaps _ k new in
    let free = subst (λ m. contains_key m c.args.index ≡ contains_key (full m) c.args.index) (sym c.release.ensures.slots) (released-free nat_cmp_total nat_cmp-IsAntisymmetric c.in-Some.kept.put c.args.index) in
    subst (λ o. FreeIndex o c.args.index) (sym is) (λ _. free)
