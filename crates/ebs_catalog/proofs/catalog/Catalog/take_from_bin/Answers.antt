use Rattle.std.proofs.Common.{◌≡◌, ℕ, ◌+◌, ◌*◌, false, refl, sym, ap, subst, ◌∙◌}
use Rattle.std.proofs.lemmas.Bool.{false≢true}
use Rattle.std.specs.Prelude.{nat_le, None}
use Rattle.std.specs.Option.{option_map}
use Rattle.std.specs.Ordering.{nat_cmp}
use Rattle.std.specs.FinMap.{get, insert}
use Rattle.ebs_tables.specs.Full.{full, slots_of, held}
use Rattle.ebs_tables.proofs.FullLaws.{ready-some, remove-none}
use Rattle.ebs_model.specs.Keys.{snap_cmp, vol_cmp, token_cmp}
use Rattle.ebs_model.specs.inner.Orders.{snaps_total, exact_snaps}
use Rattle.ebs_model.specs.inner.MapValues.{map_values}
use Rattle.ebs_model.specs.Time.{status_at, status_by, is_pending}
use Rattle.ebs_model.specs.Rows.{changed_row}
use Rattle.ebs_model.specs.Calls.Bin.{recovered}
use Rattle.ebs_bin.specs.Books.{book}
use Rattle.ebs_catalog.specs.declared.rows.KeptRow.{KeptRow}
use Rattle.ebs_catalog.specs.Held.{Held, rows_in, whole, own_in}
use Rattle.ebs_catalog.specs.Sound.{IsSound, AreCounted, AreAwaited}
use Rattle.ebs_catalog.proofs.RowsKept.{Kept, rows_of, get-rows, rows-again, sound-kept}
use Rattle.ebs_catalog.proofs.CountedRows.{counted-again}
use Rattle.ebs_catalog.proofs.Awaited.{le_self, awaited-removed, awaited-over}
use Rattle.ebs_catalog.proofs.Stale.{Waits}
use Rattle.ebs_catalog.proofs.catalog.Catalog.take_from_bin.Goals as goal

pub invariant_of-self : goal.invariant_of-self
invariant_of-self c =
    let m = held snap_cmp c.self.inside.snaps in
    let same = c.take.ensures.held ∙ remove-none snaps_total exact_snaps m c.args.key.now (sym c.take.ensures.value ∙ c.in_default.is) in
    ((subst IsSound (sym same) c.self.invariant.0.0, (subst (λ x. AreCounted x (held nat_cmp c.self.inside.owns)) (sym same) c.self.invariant.0.1.0, subst (λ (x : Kept × Waits). AreAwaited x.0 x.1 c.self.inside.latest.second) (λ i. (sym c.take.ensures.held i, sym c.remove.ensures.held i)) (awaited-removed m (held snap_cmp c.self.inside.waits) c.args.key.now c.self.inside.latest.second c.self.inside.latest.second (le_self c.self.inside.latest.second) c.self.invariant.0.1.1))), c.self.invariant.1)

pub returns-in_default-clause-rows : goal.returns-in_default-clause-rows
returns-in_default-clause-rows c =
    let m = held snap_cmp c.self.inside.snaps in
    let k = c.args.key.now in
    let none = sym c.take.ensures.value ∙ c.in_default.is in
    let snaps = ap rows_of (c.take.ensures.held ∙ remove-none snaps_total exact_snaps m k none) in
    let there = get-rows m k ∙ ap (option_map whole) none in
    (λ i. record { snaps = snaps i; own = map_values own_in (held nat_cmp c.self.inside.owns); tokens = held token_cmp c.self.inside.tokens; vols = held vol_cmp c.self.inside.vols; books = map_values book (held nat_cmp c.self.inside.books); policies = full c.self.inside.policies })
    ∙ (λ i. record { snaps = changed_row (rows_of m) k recovered (sym there i); own = map_values own_in (held nat_cmp c.self.inside.owns); tokens = held token_cmp c.self.inside.tokens; vols = held vol_cmp c.self.inside.vols; books = map_values book (held nat_cmp c.self.inside.books); policies = full c.self.inside.policies })
    ∙ ap (λ (h : Held). record (rows_in h) { snaps = changed_row (rows_in h).snaps k recovered (get (rows_in h).snaps k) }) c.self.view_is

pub fill-requires : goal.fill-requires
fill-requires c = c.take.ensures.ready c.args.key.now ∙ ready-some snaps_total (slots_of snap_cmp c.self.inside.snaps) c.args.key.now c.in-Some.kept (sym c.in-Some.ensures.value)

pub invariant_of-self-2 : goal.invariant_of-self-2
invariant_of-self-2 c =
    let m = held snap_cmp c.self.inside.snaps in
    let k = c.args.key.now in
    let kept = c.in-Some.kept in
    let at = sym c.in-Some.ensures.value in
    let new : KeptRow = record { row = record kept.row { bin_end = None }; put = kept.put } in
    let is = c.fill.ensures.held ∙ ap (λ x. insert x k new) c.take.ensures.held in
    let there = ap (λ (h : Held). get (rows_in h).snaps k) (sym c.self.view_is) ∙ get-rows m k ∙ ap (option_map whole) at in
    let completed = c.requires.completed (whole kept) there in
    let over : (now : ℕ) → is_pending (status_at new.row now) ≡ false = λ now. ap (λ b. is_pending (status_by b (nat_le (kept.row.last.second + 60 * kept.row.timeout) now))) completed in
    ((subst IsSound (sym is) (sound-kept m k kept at new refl refl refl refl (λ e. e) (λ h e. absurd (false≢true e)) c.self.invariant.0.0), (subst (λ x. AreCounted x (held nat_cmp c.self.inside.owns)) (sym is) (counted-again m _ k kept new at c.self.invariant.0.1.0), subst (λ (x : Kept × Waits). AreAwaited x.0 x.1 c.self.inside.latest.second) (λ i. (sym is i, sym c.remove.ensures.held i)) (awaited-over m (held snap_cmp c.self.inside.waits) k new c.self.inside.latest.second c.self.inside.latest.second (le_self c.self.inside.latest.second) (λ now later. over now) c.self.invariant.0.1.1))), c.self.invariant.1)

pub returns-clause-rows : goal.returns-clause-rows
returns-clause-rows c =
    let m = held snap_cmp c.self.inside.snaps in
    let k = c.args.key.now in
    let kept = c.in-Some.kept in
    let new : KeptRow = record { row = record kept.row { bin_end = None }; put = kept.put } in
    let there = get-rows m k ∙ ap (option_map whole) (sym c.in-Some.ensures.value) in
    let snaps = ap rows_of (c.fill.ensures.held ∙ ap (λ x. insert x k new) c.take.ensures.held) ∙ rows-again m k new
    ∙ (λ i. changed_row (rows_of m) k recovered (sym there i)) in
    (λ i. record { snaps = snaps i; own = map_values own_in (held nat_cmp c.self.inside.owns); tokens = held token_cmp c.self.inside.tokens; vols = held vol_cmp c.self.inside.vols; books = map_values book (held nat_cmp c.self.inside.books); policies = full c.self.inside.policies })
    ∙ ap (λ (h : Held). record (rows_in h) { snaps = changed_row (rows_in h).snaps k recovered (get (rows_in h).snaps k) }) c.self.view_is
