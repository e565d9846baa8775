use Rattle.std.proofs.Common.{◌≡◌, ◌+◌, ◌==◌, ◌<◌, ◌^◌, arith, Bool, true, false, cond, not, Some, refl, sym, ap, subst, ◌∙◌}
use Rattle.std.specs.Ordering.{nat_cmp}
use Rattle.std.specs.FinMap.{get, contains_key, insert, entries, len-entries}
use Rattle.ebs_tables.specs.Full.{full, held, slots_of}
use Rattle.ebs_model.specs.Keys.{snap_cmp, vol_cmp, token_cmp}
use Rattle.ebs_model.specs.inner.MapValues.{map_values}
use Rattle.ebs_model.specs.declared.keys.TokenKey.{TokenKey}
use Rattle.ebs_model.specs.declared.rows.TokenRow.{TokenRow}
use Rattle.ebs_model.specs.Rows.{own_of}
use Rattle.ebs_catalog.specs.Held.{Held, rows_in, own_in}
use Rattle.ebs_catalog.specs.Sound.{AreCounted, AreUsed, AreVolumes, rows_at, tokens_at, volumes_at}
use Rattle.ebs_catalog.proofs.CountLaws.{few}
use Rattle.ebs_catalog.proofs.CountedRows.{Accounts}
use Rattle.ebs_catalog.proofs.CountedVolumes.{rows-kept, volumes-kept}
use Rattle.ebs_catalog.proofs.UsedTokens.{Tokens, used-added}
use Rattle.ebs_catalog.proofs.Restored.{own-stays, owner-ready}
use Rattle.ebs_catalog.proofs.catalog.Catalog.fill_token.Goals as goal

twice : (b : Bool) → b ≡ not (not b)
twice true = refl
twice false = refl

pub more-requires : goal.more-requires
more-requires c =
    let t = held token_cmp c.self.inside.tokens in
    let account = c.args.key.account in
    let used = c.account_row-account.ensures.tokens ∙ ap (λ (h : Held). tokens_at (get (full h.owns) account)) (sym c.self.view_is) ∙ c.self.invariant.1.0.each account in
    let most = c.ready_len-most.ensures.values in
    let small = c.ready_len-most.ensures.small in
    let all = len-entries t in
    subst (λ n. n < 2 ^ 63) (sym used) (few (λ (e : TokenKey × TokenRow). account == e.0.account) (entries t) (entries t) refl (omega (arith, most, small, all)))

pub fill-requires-2 : goal.fill-requires-2
fill-requires-2 c = owner-ready (slots_of nat_cmp c.self.inside.owns) c.args.key.account (ap (λ (h : Held). contains_key (rows_in h).own c.args.key.account) c.self.view_is ∙ c.requires.owner)

pub invariant_of-self : goal.invariant_of-self
invariant_of-self c =
    let m = held snap_cmp c.self.inside.snaps in
    let owns = held nat_cmp c.self.inside.owns in
    let t = held token_cmp c.self.inside.tokens in
    let key = c.args.key in
    let row = c.args.row in
    let account = key.account in
    let rows = c.account_row-account.ensures.rows ∙ ap (λ (h : Held). rows_at (get (full h.owns) account)) (sym c.self.view_is) in
    let volumes = c.account_row-account.ensures.volumes ∙ ap (λ (h : Held). volumes_at (get (full h.owns) account)) (sym c.self.view_is) in
    let used = c.account_row-account.ensures.tokens ∙ ap (λ (h : Held). tokens_at (get (full h.owns) account)) (sym c.self.view_is) in
    let known = c.contains-known.ensures ∙ twice (contains_key t key) in
    let tokens = c.more.ensures ∙ (λ i. cond (known i) (used i) (used i + 1)) in (
      (c.self.invariant.0.0, (subst (AreCounted m) (sym c.fill-2.ensures.held) (rows-kept m owns account _ rows c.self.invariant.0.1.0), c.self.invariant.0.1.1)),
      (
        subst (λ (x : Tokens × Accounts). AreUsed x.0 x.1) (λ i. (sym c.fill.ensures.held i, sym c.fill-2.ensures.held i))
            (used-added owns account _ t row.at row.number (Some (record { key = key; first = row.first })) refl tokens c.self.invariant.1.0),
        (subst (AreVolumes (held vol_cmp c.self.inside.vols)) (sym c.fill-2.ensures.held) (volumes-kept (held vol_cmp c.self.inside.vols) owns account _ volumes c.self.invariant.1.1.0), c.self.invariant.1.1.1),
      ),
    )

pub returns-clause-rows : goal.returns-clause-rows
returns-clause-rows c =
    let account = c.args.key.account in
    let owns = held nat_cmp c.self.inside.owns in
    let old = ap rows_in c.self.view_is in
    let there = ap (λ (h : Held). contains_key (rows_in h).own account) c.self.view_is ∙ c.requires.owner in
    let same = c.account_row-account.ensures.own ∙ ap (λ (h : Held). own_of (rows_in h) account) (sym c.self.view_is) in
    let own = ap (map_values own_in) c.fill-2.ensures.held ∙ own-stays owns account there _ same ∙ (λ i. (old i).own) in
    let tokens = c.fill.ensures.held ∙ (λ i. insert (old i).tokens c.args.key c.args.row) in
    λ i. record { snaps = (old i).snaps; own = own i; tokens = tokens i; vols = (old i).vols; books = (old i).books; policies = (old i).policies }
