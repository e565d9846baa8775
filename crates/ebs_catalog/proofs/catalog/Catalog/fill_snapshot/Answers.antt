use Rattle.std.proofs.Common.{◌+◌, cond, None, refl, sym, ap, subst, ◌∙◌}
use Rattle.std.specs.Ordering.{nat_cmp}
use Rattle.std.specs.FinMap.{get, contains_key, insert}
use Rattle.ebs_tables.specs.Full.{full, held, slots_of}
use Rattle.ebs_model.specs.Keys.{snap_cmp, vol_cmp, token_cmp}
use Rattle.ebs_model.specs.inner.MapValues.{map_values}
use Rattle.ebs_model.specs.Rows.{own_of}
use Rattle.ebs_catalog.specs.declared.rows.KeptRow.{KeptRow}
use Rattle.ebs_catalog.specs.Held.{Held, rows_in, own_in}
use Rattle.ebs_catalog.specs.Sound.{IsSound, AreCounted, AreAwaited, AreUsed, AreVolumes, rows_at, tokens_at, volumes_at}
use Rattle.ebs_catalog.proofs.CountedRows.{Accounts, counted-added}
use Rattle.ebs_catalog.proofs.CountedVolumes.{volumes-kept}
use Rattle.ebs_catalog.proofs.RowsKept.{Kept, rows_of, rows-insert, sound-insert}
use Rattle.ebs_catalog.proofs.UsedTokens.{used-added}
use Rattle.ebs_catalog.proofs.Restored.{awaited-restored, own-stays, owner-ready}
use Rattle.ebs_catalog.proofs.catalog.Catalog.fill_snapshot.Goals as goal

pub fill-requires-2 : goal.fill-requires-2
fill-requires-2 c = owner-ready (slots_of nat_cmp c.self.inside.owns) c.args.row.key.account (ap (λ (h : Held). contains_key (rows_in h).own c.args.row.key.account) c.self.view_is ∙ c.requires.owner)

pub invariant_of-self : goal.invariant_of-self
invariant_of-self c =
    let m = held snap_cmp c.self.inside.snaps in
    let w = held snap_cmp c.self.inside.waits in
    let owns = held nat_cmp c.self.inside.owns in
    let t = held token_cmp c.self.inside.tokens in
    let v = held vol_cmp c.self.inside.vols in
    let latest = c.self.inside.latest.second in
    let row = c.args.row in
    let limits = c.requires.limits in
    let key = row.key in
    let account = key.account in
    let new : KeptRow = record { row = row; put = c.args.put } in
    let number = c.rows_with.ensures ∙ ap (λ (h : Held). cond (contains_key (full h.snaps) key) (rows_at (get (full h.owns) account)) (rows_at (get (full h.owns) account) + 1)) (sym c.self.view_is) in
    let tokens = c.account_row-account.ensures.tokens ∙ ap (λ (h : Held). tokens_at (get (full h.owns) account)) (sym c.self.view_is) in
    let volumes = c.account_row-account.ensures.volumes ∙ ap (λ (h : Held). volumes_at (get (full h.owns) account)) (sym c.self.view_is) in (
      (
        subst IsSound (sym c.fill.ensures.held) (sound-insert m key new c.self.invariant.0.0 (record { place = refl; size = limits.size; start = limits.start; timeout = limits.timeout; binned = limits.binned })),
        (
          subst (λ (x : Kept × Accounts). AreCounted x.0 x.1) (λ i. (sym c.fill.ensures.held i, sym c.fill-2.ensures.held i)) (counted-added m owns key new _ number c.self.invariant.0.1.0),
          subst (λ x. AreAwaited x w latest) (sym c.fill.ensures.held)
              (awaited-restored m w key new latest (λ e. ap (λ (h : Held). contains_key (full h.waits) key) c.self.view_is ∙ c.requires.waits e) c.self.invariant.0.1.1),
        ),
      ),
      (
        subst (AreUsed t) (sym c.fill-2.ensures.held) (used-added owns account _ t c.self.inside.latest 0 None tt tokens c.self.invariant.1.0),
        (subst (AreVolumes v) (sym c.fill-2.ensures.held) (volumes-kept v owns account _ volumes c.self.invariant.1.1.0), c.self.invariant.1.1.1),
      ),
    )

pub returns-clause-rows : goal.returns-clause-rows
returns-clause-rows c =
    let row = c.args.row in
    let account = row.key.account in
    let m = held snap_cmp c.self.inside.snaps in
    let owns = held nat_cmp c.self.inside.owns in
    let old = ap rows_in c.self.view_is in
    let new : KeptRow = record { row = row; put = c.args.put } in
    let there = ap (λ (h : Held). contains_key (rows_in h).own account) c.self.view_is ∙ c.requires.owner in
    let same = c.account_row-account.ensures.own ∙ ap (λ (h : Held). own_of (rows_in h) account) (sym c.self.view_is) in
    let snaps = ap rows_of c.fill.ensures.held ∙ rows-insert m row.key new ∙ (λ i. insert (old i).snaps row.key (record row { put = full c.args.put })) in
    let own = ap (map_values own_in) c.fill-2.ensures.held ∙ own-stays owns account there _ same ∙ (λ i. (old i).own) in
    λ i. record { snaps = snaps i; own = own i; tokens = (old i).tokens; vols = (old i).vols; books = (old i).books; policies = (old i).policies }
