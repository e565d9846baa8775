use Rattle.std.proofs.Common.{◌+◌, ◌*◌, cond, Some, None, refl, sym, ap, subst, ◌∙◌}
use Rattle.std.proofs.lemmas.Bool.{false≢true}
use Rattle.std.specs.Prelude.{nat_le}
use Rattle.std.specs.Ordering.{nat_cmp}
use Rattle.std.specs.Cmp.{nat_cmp_total}
use Rattle.std.specs.FinMap.{nat_cmp-IsAntisymmetric, get, contains_key, insert}
use Rattle.ebs_tables.specs.Full.{full, held}
use Rattle.ebs_tables.proofs.FullLaws.{full-empty}
use Rattle.ebs_model.specs.Keys.{snap_cmp, vol_cmp, token_cmp}
use Rattle.ebs_model.specs.inner.MapValues.{map_values}
use Rattle.ebs_model.specs.Time.{status_by, is_pending}
use Rattle.ebs_model.proofs.Values.{map_values-insert}
use Rattle.ebs_catalog.specs.declared.rows.KeptRow.{KeptRow}
use Rattle.ebs_catalog.specs.Held.{Held, rows_in, own_in, CoversSnap}
use Rattle.ebs_catalog.specs.Sound.{IsSound, AreCounted, AreAwaited, AreUsed, AreVolumes, rows_at, tokens_at, volumes_at}
use Rattle.ebs_catalog.proofs.Awaited.{awaited-closed}
use Rattle.ebs_catalog.proofs.CountedRows.{Accounts, counted-added}
use Rattle.ebs_catalog.proofs.CountedVolumes.{volumes-kept}
use Rattle.ebs_catalog.proofs.RowsKept.{Kept, rows_of, rows-insert, sound-insert}
use Rattle.ebs_catalog.proofs.UsedTokens.{used-added}
use Rattle.ebs_catalog.proofs.catalog.Catalog.add_row.Goals as goal

pub invariant_of-self : goal.invariant_of-self
invariant_of-self c =
    let row = c.args.row in
    let new = c.requires.new in
    let key = row.key in
    let m = held snap_cmp c.self.inside.snaps in
    let accounts = held nat_cmp c.self.inside.owns in
    let latest = c.self.inside.latest.second in
    let account = key.account in
    let number = c.rows_with-rows.ensures ∙ ap (λ (h : Held). cond (contains_key (full h.snaps) key) (rows_at (get (full h.owns) account)) (rows_at (get (full h.owns) account) + 1)) (sym c.self.view_is) in
    let tokens = c.tokens_of-tokens.ensures.kept ∙ ap (λ (h : Held). tokens_at (get (full h.owns) account)) (sym c.self.view_is) in
    let volumes = c.volumes_of-volumes.ensures.kept ∙ ap (λ (h : Held). volumes_at (get (full h.owns) account)) (sym c.self.view_is) in (
      (
        subst IsSound (sym c.fill.ensures.held) (sound-insert m key _ c.self.invariant.0.0 (record {
          place = refl;
          size = new.size;
          start = new.start;
          timeout = λ e. absurd (false≢true (sym e ∙ new.completed));
          binned = λ e. new.completed;
        })),
        (
          subst (λ (x : Kept × Accounts). AreCounted x.0 x.1) (λ i. (sym c.fill.ensures.held i, sym c.fill-2.ensures.held i)) (counted-added m accounts key _ _ number c.self.invariant.0.1.0),
          subst (λ x. AreAwaited x (held snap_cmp c.self.inside.waits) latest) (sym c.fill.ensures.held)
              (awaited-closed m (held snap_cmp c.self.inside.waits) key _ latest (λ now. ap (λ b. is_pending (status_by b (nat_le (row.last.second + 60 * row.timeout) now))) new.completed) c.self.invariant.0.1.1),
        ),
      ),
      (
        subst (AreUsed (held token_cmp c.self.inside.tokens)) (sym c.fill-2.ensures.held) (used-added accounts account _ (held token_cmp c.self.inside.tokens) row.last key.number None tt tokens c.self.invariant.1.0),
        (subst (AreVolumes (held vol_cmp c.self.inside.vols)) (sym c.fill-2.ensures.held) (volumes-kept (held vol_cmp c.self.inside.vols) accounts account _ volumes c.self.invariant.1.1.0), c.self.invariant.1.1.1),
      ),
    )

pub returns-clause-rows : goal.returns-clause-rows
returns-clause-rows c =
    let row = c.args.row in
    let key = row.key in
    let m = held snap_cmp c.self.inside.snaps in
    let old = ap rows_in c.self.view_is in
    let put = ap full c.new-put.ensures ∙ full-empty nat_cmp_total nat_cmp-IsAntisymmetric ∙ sym c.requires.new.put in
    let new : KeptRow = record { row = row; put = c.new-put.result } in
    let snaps = ap rows_of c.fill.ensures.held ∙ rows-insert m key new ∙ (λ i. insert (old i).snaps key (record row { put = put i })) in
    let own = ap (map_values own_in) c.fill-2.ensures.held ∙ map_values-insert nat_cmp_total own_in nat_cmp-IsAntisymmetric (held nat_cmp c.self.inside.owns) key.account _
    ∙ (λ i. insert (old i).own key.account (c.own_after-own.ensures i)) in
    λ i. record { snaps = snaps i; own = own i; tokens = (old i).tokens; vols = (old i).vols; books = (old i).books; policies = (old i).policies }

pub returns-clause-others : goal.returns-clause-others
returns-clause-others c = λ other h.
    let before = subst (λ (x : Held). CoversSnap x (Some other)) (sym c.self.view_is) h in
    (c.fill.ensures.ready other ∙ before.0, c.fill-2.ensures.ready other.account ∙ before.1)
