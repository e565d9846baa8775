use Rattle.std.proofs.Common.{◌+◌, ◌==◌, ◌<◌, ◌^◌, arith, cond, None, refl, sym, ap, subst, ◌∙◌}
use Rattle.std.specs.Ordering.{nat_cmp}
use Rattle.std.specs.FinMap.{get, contains_key, insert, entries, len-entries}
use Rattle.ebs_tables.specs.Full.{full, held, slots_of}
use Rattle.ebs_model.specs.Keys.{snap_cmp, vol_cmp, token_cmp}
use Rattle.ebs_model.specs.inner.MapValues.{map_values}
use Rattle.ebs_model.specs.declared.keys.VolKey.{VolKey}
use Rattle.ebs_model.specs.declared.rows.VolRow.{VolRow}
use Rattle.ebs_model.specs.Rows.{own_of}
use Rattle.ebs_catalog.specs.Held.{Held, rows_in, own_in}
use Rattle.ebs_catalog.specs.Sound.{AreCounted, AreUsed, AreVolumes, AreSoundVolumes, rows_at, tokens_at, volumes_at}
use Rattle.ebs_catalog.proofs.CountLaws.{few}
use Rattle.ebs_catalog.proofs.CountedRows.{Accounts}
use Rattle.ebs_catalog.proofs.CountedVolumes.{Volumes, rows-kept, volumes-added}
use Rattle.ebs_catalog.proofs.SoundVolumes.{volume-written}
use Rattle.ebs_catalog.proofs.UsedTokens.{used-added}
use Rattle.ebs_catalog.proofs.Restored.{own-stays, owner-ready}
use Rattle.ebs_catalog.proofs.catalog.Catalog.fill_volume.Goals as goal

pub more-requires : goal.more-requires
more-requires c =
    let v = held vol_cmp c.self.inside.vols in
    let account = c.args.row.key.account in
    let number = c.account_row-account.ensures.volumes ∙ ap (λ (h : Held). volumes_at (get (full h.owns) account)) (sym c.self.view_is) ∙ c.self.invariant.1.1.0.each account in
    let most = c.ready_len-most.ensures.values in
    let small = c.ready_len-most.ensures.small in
    let all = len-entries v in
    subst (λ n. n < 2 ^ 63) (sym number) (few (λ (e : VolKey × VolRow). account == e.0.account) (entries v) (entries v) refl (omega (arith, most, small, all)))

pub fill-requires-2 : goal.fill-requires-2
fill-requires-2 c = owner-ready (slots_of nat_cmp c.self.inside.owns) c.args.row.key.account (ap (λ (h : Held). contains_key (rows_in h).own c.args.row.key.account) c.self.view_is ∙ c.requires.owner)

pub invariant_of-self : goal.invariant_of-self
invariant_of-self c =
    let m = held snap_cmp c.self.inside.snaps in
    let owns = held nat_cmp c.self.inside.owns in
    let t = held token_cmp c.self.inside.tokens in
    let v = held vol_cmp c.self.inside.vols in
    let row = c.args.row in
    let account = row.key.account in
    let rows = c.account_row-account.ensures.rows ∙ ap (λ (h : Held). rows_at (get (full h.owns) account)) (sym c.self.view_is) in
    let tokens = c.account_row-account.ensures.tokens ∙ ap (λ (h : Held). tokens_at (get (full h.owns) account)) (sym c.self.view_is) in
    let count = c.account_row-account.ensures.volumes ∙ ap (λ (h : Held). volumes_at (get (full h.owns) account)) (sym c.self.view_is) in
    let volumes = c.more.ensures ∙ (λ i. cond (c.contains-known.ensures i) (count i) (count i + 1)) in (
      (c.self.invariant.0.0, (subst (AreCounted m) (sym c.fill-2.ensures.held) (rows-kept m owns account _ rows c.self.invariant.0.1.0), c.self.invariant.0.1.1)),
      (
        subst (AreUsed t) (sym c.fill-2.ensures.held) (used-added owns account _ t c.self.inside.latest 0 None tt tokens c.self.invariant.1.0),
        (
          subst (λ (x : Volumes × Accounts). AreVolumes x.0 x.1) (λ i. (sym c.fill.ensures.held i, sym c.fill-2.ensures.held i)) (volumes-added v owns row.key row _ volumes c.self.invariant.1.1.0),
          (subst AreSoundVolumes (sym c.fill.ensures.held) (volume-written v row.key row c.self.invariant.1.1.1.0 (record { place = refl; size = c.requires.size })), c.self.invariant.1.1.1.1),
        ),
      ),
    )

pub returns-clause-rows : goal.returns-clause-rows
returns-clause-rows c =
    let account = c.args.row.key.account in
    let owns = held nat_cmp c.self.inside.owns in
    let old = ap rows_in c.self.view_is in
    let there = ap (λ (h : Held). contains_key (rows_in h).own account) c.self.view_is ∙ c.requires.owner in
    let same = c.account_row-account.ensures.own ∙ ap (λ (h : Held). own_of (rows_in h) account) (sym c.self.view_is) in
    let own = ap (map_values own_in) c.fill-2.ensures.held ∙ own-stays owns account there _ same ∙ (λ i. (old i).own) in
    let vols = c.fill.ensures.held ∙ (λ i. insert (old i).vols c.args.row.key c.args.row) in
    λ i. record { snaps = (old i).snaps; own = own i; tokens = (old i).tokens; vols = vols i; books = (old i).books; policies = (old i).policies }
