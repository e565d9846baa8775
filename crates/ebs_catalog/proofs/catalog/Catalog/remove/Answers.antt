use Rattle.std.proofs.Common.{◌≡◌, true, Option, sym, ap, subst, ◌∙◌}
use Rattle.std.specs.Ordering.{nat_cmp}
use Rattle.std.specs.FinMap.{FinMap, contains_key, remove}
use Rattle.ebs_tables.specs.Full.{full, held}
use Rattle.ebs_tables.proofs.FullLaws.{remove-none}
use Rattle.ebs_model.specs.Keys.{snap_cmp, vol_cmp, token_cmp}
use Rattle.ebs_model.specs.inner.Orders.{snaps_total, exact_snaps}
use Rattle.ebs_model.specs.inner.MapValues.{map_values}
use Rattle.ebs_bin.specs.Books.{book}
use Rattle.ebs_catalog.specs.Held.{Held, rows_in, own_in}
use Rattle.ebs_catalog.specs.Sound.{IsSound, AreCounted, AreAwaited}
use Rattle.ebs_catalog.proofs.RowsKept.{Kept, rows_of, rows-remove, sound-remove}
use Rattle.ebs_catalog.proofs.CountedRows.{counted-removed, one-at-least}
use Rattle.ebs_catalog.proofs.Awaited.{le_self, awaited-removed}
use Rattle.ebs_catalog.proofs.Stale.{Waits}
use Rattle.ebs_catalog.proofs.OneByOne.{ready-others}
use Rattle.ebs_catalog.proofs.UsedTokens.{used-less}
use Rattle.ebs_catalog.proofs.CountedVolumes.{volumes-less}
use Rattle.ebs_catalog.proofs.catalog.Catalog.remove.Goals as goal

pub invariant_of-self : goal.invariant_of-self
invariant_of-self c =
    let m = held snap_cmp c.self.inside.snaps in
    let latest = c.self.inside.latest.second in
    let same = c.remove-2.ensures.held ∙ remove-none snaps_total exact_snaps m c.args.key.now (sym c.in_default.ensures.value) in
    ((subst IsSound (sym same) c.self.invariant.0.0, (subst (λ x. AreCounted x (held nat_cmp c.self.inside.owns)) (sym same) c.self.invariant.0.1.0, subst (λ (x : Kept × Waits). AreAwaited x.0 x.1 latest) (λ i. (sym c.remove-2.ensures.held i, sym c.remove.ensures.held i)) (awaited-removed m (held snap_cmp c.self.inside.waits) c.args.key.now latest latest (le_self latest) c.self.invariant.0.1.1))), c.self.invariant.1)

pub returns-in_default-clause-rows : goal.returns-in_default-clause-rows
returns-in_default-clause-rows c =
    let m = held snap_cmp c.self.inside.snaps in
    let k = c.args.key.now in
    (λ i. record { snaps = (ap rows_of c.remove-2.ensures.held ∙ rows-remove m k) i; own = map_values own_in (held nat_cmp c.self.inside.owns); tokens = held token_cmp c.self.inside.tokens; vols = held vol_cmp c.self.inside.vols; books = map_values book (held nat_cmp c.self.inside.books); policies = full c.self.inside.policies })
    ∙ ap (λ (h : Held). record (rows_in h) { snaps = remove (rows_in h).snaps k }) c.self.view_is

pub one_row_less-requires : goal.one_row_less-requires
one_row_less-requires c = one-at-least (held snap_cmp c.self.inside.snaps) (held nat_cmp c.self.inside.owns) c.args.key.now c.in-Some._gone (sym c.in-Some.ensures.value) c.self.invariant.0.1.0

pub invariant_of-self-2 : goal.invariant_of-self-2
invariant_of-self-2 c =
    let m = held snap_cmp c.self.inside.snaps in
    let latest = c.self.inside.latest.second in
    let is = c.remove-2.ensures.held in
    let at = sym c.in-Some.ensures.value in
    ((subst IsSound (sym is) (sound-remove _ _ c.self.invariant.0.0), (subst (λ x. AreCounted x (held nat_cmp c.one_row_less.new.owns)) (sym is) (counted-removed m _ _ c.args.key.now c.in-Some._gone at c.one_row_less.ensures c.self.invariant.0.1.0), subst (λ (x : Kept × Waits). AreAwaited x.0 x.1 latest) (λ i. (sym is i, sym c.remove.ensures.held i)) (awaited-removed m (held snap_cmp c.self.inside.waits) c.args.key.now latest latest (le_self latest) c.self.invariant.0.1.1))), (used-less _ _ _ _ c.one_row_less.ensures c.self.invariant.1.0, (volumes-less _ _ _ _ c.one_row_less.ensures c.self.invariant.1.1.0, c.self.invariant.1.1.1)))

pub returns-clause-rows : goal.returns-clause-rows
returns-clause-rows c =
    let m = held snap_cmp c.self.inside.snaps in
    let k = c.args.key.now in
    (λ i. record { snaps = (ap rows_of c.remove-2.ensures.held ∙ rows-remove m k) i; own = c.one_row_less.ensures.own i; tokens = held token_cmp c.self.inside.tokens; vols = held vol_cmp c.self.inside.vols; books = map_values book (held nat_cmp c.self.inside.books); policies = full c.self.inside.policies })
    ∙ ap (λ (h : Held). record (rows_in h) { snaps = remove (rows_in h).snaps k }) c.self.view_is

pub returns-in_default-clause-others : goal.returns-in_default-clause-others
returns-in_default-clause-others c = λ other apart there.
    let before = subst (λ (x : Held). contains_key x.waits other ≡ true) (sym c.self.view_is) there in
    ap (λ (m : FinMap snap_cmp (Option (Unit {0}))). contains_key m other) c.remove.ensures.slots ∙ ready-others _ c.args.key.now other apart before

pub returns-clause-others : goal.returns-clause-others
returns-clause-others c = λ other apart there.
    let before = subst (λ (x : Held). contains_key x.waits other ≡ true) (sym c.self.view_is) there in
    ap (λ (m : FinMap snap_cmp (Option (Unit {0}))). contains_key m other) c.remove.ensures.slots ∙ ready-others _ c.args.key.now other apart before
