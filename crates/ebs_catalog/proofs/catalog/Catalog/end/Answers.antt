use Rattle.std.specs.List.{filter}
use Rattle.std.proofs.Common.{◌≡◌, ◌≤◌, true, false, not, cond, Some, None, refl, sym, ap, subst, ◌∙◌}
use Rattle.std.specs.Option.{option_map}
use Rattle.std.specs.Ordering.{nat_cmp}
use Rattle.std.specs.FinMap.{get, insert, remove}
use Rattle.ebs_tables.specs.Full.{full, slots_of, held}
use Rattle.ebs_tables.proofs.FullLaws.{ready-some, remove-none}
use Rattle.ebs_model.specs.Keys.{snap_cmp, vol_cmp, token_cmp}
use Rattle.ebs_model.specs.inner.Orders.{snaps_total, exact_snaps}
use Rattle.ebs_model.specs.inner.MapValues.{map_values}
use Rattle.ebs_catalog.specs.declared.rows.KeptRow.{KeptRow}
use Rattle.ebs_bin.specs.Books.{book}
use Rattle.ebs_catalog.specs.Held.{Held, rows_in, whole, own_in, stale, is_ended, HasNoPut}
use Rattle.ebs_catalog.specs.Sound.{IsSound, AreCounted, AreAwaited}
use Rattle.ebs_catalog.proofs.RowsKept.{Kept, rows_of, get-rows, rows-again, sound-remove, sound-kept}
use Rattle.ebs_catalog.proofs.Stale.{stale_in}
use Rattle.std.specs.FinMap.{get-insert, get-remove, entries}
use Rattle.ebs_model.specs.Time.{stays, status_at, is_failed}
use Rattle.ebs_model.specs.inner.Rows.{aged_snaps}
use Rattle.ebs_model.specs.Rows.{is_key}
use Rattle.ebs_model.specs.declared.keys.SnapKey.{SnapKey}
use Rattle.ebs_catalog.proofs.RowsKept.{given_up, gone-row, rows-remove}
use Rattle.ebs_catalog.proofs.Stale.{first-ended, stale-removed, other, not_left}
use Rattle.ebs_catalog.proofs.CountedRows.{counted-again, counted-removed, one-at-least}
use Rattle.ebs_catalog.proofs.Awaited.{failed-later, awaited-removed, awaited-over}
use Rattle.ebs_catalog.proofs.Stale.{Waits}
use Rattle.std.specs.Cmp.{nat_cmp_total}
use Rattle.std.specs.FinMap.{nat_cmp-IsAntisymmetric}
use Rattle.ebs_tables.proofs.FullLaws.{full-empty}
use Rattle.ebs_catalog.proofs.RowsKept.{found, gone}
use Rattle.ebs_catalog.proofs.UsedTokens.{used-less}
use Rattle.ebs_catalog.proofs.CountedVolumes.{volumes-less}
use Rattle.ebs_catalog.proofs.catalog.Catalog.end.Goals as goal

-- rows that are the same but for a key
taken : (m : Kept) (k q : SnapKey) → is_key q k ≡ false → get (rows_of (remove m k)) q ≡ get (rows_of m) q
taken m k q h = ap (λ s. get s q) (rows-remove m k) ∙ get-remove snaps_total (rows_of m) k q ∙ ap (λ b. cond b None (get (rows_of m) q)) (other q k h)

written : (m : Kept) (k : SnapKey) (v : KeptRow) (q : SnapKey) → is_key q k ≡ false → get (rows_of (insert (remove m k) k v)) q ≡ get (rows_of m) q
written m k v q h = ap (λ s. get s q) (rows-again m k v) ∙ get-insert snaps_total (rows_of m) k (whole v) q ∙ ap (λ b. cond b (Some (whole v)) (get (rows_of m) q)) (other q k h)

pub invariant_of-self : goal.invariant_of-self
invariant_of-self c =
    let m = held snap_cmp c.self.inside.snaps in
    let same = c.take.ensures.held ∙ remove-none snaps_total exact_snaps m c.args.key.now (sym c.take.ensures.value ∙ c.in_default.is) in
    let later = subst (λ (h : Held). h.latest ≤ c.args.now.second) (sym c.self.view_is) c.requires.later in
    ((subst IsSound (sym same) c.self.invariant.0.0, (subst (λ x. AreCounted x (held nat_cmp c.self.inside.owns)) (sym same) c.self.invariant.0.1.0, subst (λ (x : Kept × Waits). AreAwaited x.0 x.1 c.args.now.second) (λ i. (sym c.take.ensures.held i, sym c.remove.ensures.held i)) (awaited-removed m (held snap_cmp c.self.inside.waits) c.args.key.now c.self.inside.latest.second c.args.now.second later c.self.invariant.0.1.1))), c.self.invariant.1)

pub returns-in_default-clause-rows : goal.returns-in_default-clause-rows
returns-in_default-clause-rows c =
    let m = held snap_cmp c.self.inside.snaps in
    let snaps = ap rows_of (c.take.ensures.held ∙ remove-none snaps_total exact_snaps m c.args.key.now (sym c.take.ensures.value ∙ c.in_default.is)) in
    (λ i. record { snaps = aged_snaps c.args.now.second (snaps i); own = map_values own_in (held nat_cmp c.self.inside.owns); tokens = held token_cmp c.self.inside.tokens; vols = held vol_cmp c.self.inside.vols; books = map_values book (held nat_cmp c.self.inside.books); policies = full c.self.inside.policies })
    ∙ ap (λ (h : Held). record (rows_in h) { snaps = aged_snaps c.args.now.second (rows_in h).snaps }) c.self.view_is

pub returns-in_default-clause-stale : goal.returns-in_default-clause-stale
returns-in_default-clause-stale c = λ t.
    let m = held snap_cmp c.self.inside.snaps in
    let k = c.args.key.now in
    ap (λ w. stale_in (rows_of (held snap_cmp c.take.new.self)) w t) c.remove.ensures.held
    ∙ stale-removed (rows_of m) (rows_of (held snap_cmp c.take.new.self)) (held snap_cmp c.self.inside.waits) k t (λ q h. ap (λ x. get (rows_of x) q) c.take.ensures.held ∙ taken m k q h)
    ∙ ap (λ (h : Held). filter (λ q. not (is_key q k)) (stale h t)) c.self.view_is

pub fill-requires : goal.fill-requires
fill-requires c = c.take.ensures.ready c.args.key.now ∙ ready-some snaps_total (slots_of snap_cmp c.self.inside.snaps) c.args.key.now c.in-Some.kept (sym c.in-Some.ensures.value)

pub invariant_of-self-then-stays : goal.invariant_of-self-then-stays
invariant_of-self-then-stays c =
    let m = held snap_cmp c.self.inside.snaps in
    let k = c.args.key.now in
    let new = record c.in-Some.kept { put = c.new.result } in
    let at = sym c.in-Some.ensures.value in
    let is = c.fill.ensures.held ∙ ap (λ x. insert x k new) c.take.ensures.held in
    let later = subst (λ (h : Held). h.latest ≤ c.args.now.second) (sym c.self.view_is) c.requires.later in
    let now = c.args.now.second in
    let h = c.args.self.now in
    let ended = first-ended (λ q. is_ended now (get (rows_in h).snaps q)) k (entries (full h.waits)) c.requires.next in
    let there = ap (λ (h : Held). get (rows_in h).snaps k) (sym c.self.view_is) ∙ get-rows m k ∙ ap (option_map whole) at in
    let failed = not_left (stays now c.in-Some.kept.row) (is_failed (status_at c.in-Some.kept.row now)) (subst (λ o. is_ended now o ≡ true) there ended) (sym c.stays.ensures ∙ c.if-stays.true) in
    ((subst IsSound (sym is) (sound-kept m k c.in-Some.kept at new refl refl refl refl (λ e. e) (λ h. h) c.self.invariant.0.0), (subst (λ x. AreCounted x (held nat_cmp c.self.inside.owns)) (sym is) (counted-again m _ k c.in-Some.kept new at c.self.invariant.0.1.0), subst (λ (x : Kept × Waits). AreAwaited x.0 x.1 c.args.now.second) (λ i. (sym is i, sym c.remove.ensures.held i)) (awaited-over m (held snap_cmp c.self.inside.waits) k new c.self.inside.latest.second c.args.now.second later (λ t le. failed-later c.in-Some.kept.row now t failed le) c.self.invariant.0.1.1))), c.self.invariant.1)

pub invariant_of-self-else-stays : goal.invariant_of-self-else-stays
invariant_of-self-else-stays c =
    let m = held snap_cmp c.self.inside.snaps in
    let is = c.release.ensures.held ∙ c.take.ensures.held in
    let at = sym c.in-Some.ensures.value in
    let later = subst (λ (h : Held). h.latest ≤ c.args.now.second) (sym c.self.view_is) c.requires.later in
    ((subst IsSound (sym is) (sound-remove _ _ c.self.invariant.0.0), (subst (λ x. AreCounted x (held nat_cmp c.one_row_less.new.owns)) (sym is) (counted-removed m _ _ c.args.key.now c.in-Some.kept at c.one_row_less.ensures c.self.invariant.0.1.0), subst (λ (x : Kept × Waits). AreAwaited x.0 x.1 c.args.now.second) (λ i. (sym is i, sym c.remove.ensures.held i)) (awaited-removed m (held snap_cmp c.self.inside.waits) c.args.key.now c.self.inside.latest.second c.args.now.second later c.self.invariant.0.1.1))), (used-less _ _ _ _ c.one_row_less.ensures c.self.invariant.1.0, (volumes-less _ _ _ _ c.one_row_less.ensures c.self.invariant.1.1.0, c.self.invariant.1.1.1)))

pub one_row_less-requires : goal.one_row_less-requires
one_row_less-requires c = one-at-least (held snap_cmp c.self.inside.snaps) (held nat_cmp c.self.inside.owns) c.args.key.now c.in-Some.kept (sym c.in-Some.ensures.value) c.self.invariant.0.1.0

pub returns-then-stays-clause-rows : goal.returns-then-stays-clause-rows
returns-then-stays-clause-rows c =
    let now = c.args.now.second in
    let m = held snap_cmp c.self.inside.snaps in
    let k = c.args.key.now in
    let kept = c.in-Some.kept in
    let new = record kept { put = c.new.result } in
    let at = sym c.in-Some.ensures.value in
    let h = c.args.self.now in
    let ended = first-ended (λ q. is_ended now (get (rows_in h).snaps q)) k (entries (full h.waits)) c.requires.next in
    let there = ap (λ (h : Held). get (rows_in h).snaps k) (sym c.self.view_is) ∙ get-rows m k ∙ ap (option_map whole) at in
    let failed = not_left (stays now kept.row) (is_failed (status_at kept.row now)) (subst (λ o. is_ended now o ≡ true) there ended) (sym c.stays.ensures ∙ c.if-stays.true) in
    let snaps = ap (λ x. aged_snaps now (rows_of x)) (c.fill.ensures.held ∙ ap (λ x. insert x k new) c.take.ensures.held) ∙ given_up now m k kept at c.new.result failed in
    (λ i. record { snaps = snaps i; own = map_values own_in (held nat_cmp c.self.inside.owns); tokens = held token_cmp c.self.inside.tokens; vols = held vol_cmp c.self.inside.vols; books = map_values book (held nat_cmp c.self.inside.books); policies = full c.self.inside.policies })
    ∙ ap (λ (h : Held). record (rows_in h) { snaps = aged_snaps now (rows_in h).snaps }) c.self.view_is

pub returns-then-stays-clause-stale : goal.returns-then-stays-clause-stale
returns-then-stays-clause-stale c = λ t.
    let m = held snap_cmp c.self.inside.snaps in
    let k = c.args.key.now in
    let new = record c.in-Some.kept { put = c.new.result } in
    ap (λ w. stale_in (rows_of (held snap_cmp c.fill.new.self)) w t) c.remove.ensures.held
    ∙ stale-removed (rows_of m) (rows_of (held snap_cmp c.fill.new.self)) (held snap_cmp c.self.inside.waits) k t (λ q h. ap (λ x. get (rows_of x) q) (c.fill.ensures.held ∙ ap (λ x. insert x k new) c.take.ensures.held) ∙ written m k new q h)
    ∙ ap (λ (h : Held). filter (λ q. not (is_key q k)) (stale h t)) c.self.view_is

pub returns-else-stays-clause-rows : goal.returns-else-stays-clause-rows
returns-else-stays-clause-rows c =
    let now = c.args.now.second in
    let m = held snap_cmp c.self.inside.snaps in
    let snaps = ap (λ x. aged_snaps now (rows_of x)) (c.release.ensures.held ∙ c.take.ensures.held) ∙ gone-row now m c.args.key.now c.in-Some.kept (sym c.in-Some.ensures.value) (sym c.stays.ensures ∙ c.if-stays.false) in
    (λ i. record { snaps = snaps i; own = c.one_row_less.ensures.own i; tokens = held token_cmp c.self.inside.tokens; vols = held vol_cmp c.self.inside.vols; books = map_values book (held nat_cmp c.self.inside.books); policies = full c.self.inside.policies })
    ∙ ap (λ (h : Held). record (rows_in h) { snaps = aged_snaps now (rows_in h).snaps }) c.self.view_is

pub returns-else-stays-clause-stale : goal.returns-else-stays-clause-stale
returns-else-stays-clause-stale c = λ t.
    let m = held snap_cmp c.self.inside.snaps in
    let k = c.args.key.now in
    ap (λ w. stale_in (rows_of (held snap_cmp c.release.new.self)) w t) c.remove.ensures.held
    ∙ stale-removed (rows_of m) (rows_of (held snap_cmp c.release.new.self)) (held snap_cmp c.self.inside.waits) k t (λ q h. ap (λ x. get (rows_of x) q) (c.release.ensures.held ∙ c.take.ensures.held) ∙ taken m k q h)
    ∙ ap (λ (h : Held). filter (λ q. not (is_key q k)) (stale h t)) c.self.view_is

pub returns-in_default-clause-gone : goal.returns-in_default-clause-gone
returns-in_default-clause-gone c =
    let m = held snap_cmp c.self.inside.snaps in
    let k = c.args.key.now in
    subst HasNoPut (sym (ap (λ x. get (rows_of x) k) c.take.ensures.held ∙ get-rows (remove m k) k ∙ ap (option_map whole) (gone snaps_total exact_snaps m k))) tt

pub returns-then-stays-clause-gone : goal.returns-then-stays-clause-gone
returns-then-stays-clause-gone c =
    let m = held snap_cmp c.self.inside.snaps in
    let k = c.args.key.now in
    let new = record c.in-Some.kept { put = c.new.result } in
    let is = c.fill.ensures.held ∙ ap (λ x. insert x k new) c.take.ensures.held in
    subst HasNoPut (sym (ap (λ x. get (rows_of x) k) is ∙ get-rows (insert (remove m k) k new) k ∙ ap (option_map whole) (found snaps_total exact_snaps (remove m k) k new)))
    (ap full c.new.ensures ∙ full-empty nat_cmp_total nat_cmp-IsAntisymmetric)

pub returns-else-stays-clause-gone : goal.returns-else-stays-clause-gone
returns-else-stays-clause-gone c =
    let m = held snap_cmp c.self.inside.snaps in
    let k = c.args.key.now in
    subst HasNoPut (sym (ap (λ x. get (rows_of x) k) (c.release.ensures.held ∙ c.take.ensures.held) ∙ get-rows (remove m k) k ∙ ap (option_map whole) (gone snaps_total exact_snaps m k))) tt
