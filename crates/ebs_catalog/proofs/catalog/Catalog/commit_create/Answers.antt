use Rattle.std.proofs.Common.{◌+◌, ◌==◌, ◌<◌, ◌^◌, arith, cond, not, refl, sym, ap, subst, ◌∙◌}
use Rattle.std.specs.Ordering.{nat_cmp}
use Rattle.std.specs.Cmp.{nat_cmp_total}
use Rattle.std.specs.FinMap.{nat_cmp-IsAntisymmetric, get, insert, entries, len-entries}
use Rattle.ebs_tables.specs.Full.{full, held}
use Rattle.ebs_model.specs.Keys.{snap_cmp, vol_cmp, token_cmp}
use Rattle.ebs_model.specs.inner.MapValues.{map_values}
use Rattle.ebs_model.specs.declared.keys.VolKey.{VolKey}
use Rattle.ebs_model.specs.declared.keys.TokenKey.{TokenKey}
use Rattle.ebs_model.specs.declared.rows.Line.{Line}
use Rattle.ebs_model.specs.declared.rows.VolRow.{VolRow}
use Rattle.ebs_model.specs.declared.rows.TokenRow.{TokenRow}
use Rattle.ebs_model.proofs.Values.{map_values-insert}
use Rattle.ebs_catalog.specs.Held.{Held, rows_in, own_in}
use Rattle.ebs_catalog.specs.Starts.{with_new, is_new}
use Rattle.ebs_catalog.specs.Sound.{AreCounted, AreUsed, AreVolumes, AreSoundVolumes, rows_at, tokens_at, volumes_at}
use Rattle.ebs_catalog.proofs.CountLaws.{few}
use Rattle.ebs_catalog.proofs.CountedRows.{Accounts}
use Rattle.ebs_catalog.proofs.UsedTokens.{Tokens, used-added}
use Rattle.ebs_catalog.proofs.CountedVolumes.{Volumes, rows-kept, volumes-added}
use Rattle.ebs_catalog.proofs.SoundVolumes.{volume-written}
use Rattle.ebs_catalog.proofs.catalog.Catalog.commit_create.Goals as goal

pub more-volumes-requires : goal.more-volumes-requires
more-volumes-requires c =
    let v = held vol_cmp c.self.inside.vols in
    let account = c.args.key.now.account in
    let number = c.volumes_of.ensures.kept ∙ ap (λ (h : Held). volumes_at (get (full h.owns) account)) (sym c.self.view_is) ∙ c.self.invariant.1.1.0.each account in
    let most = c.ready_len-most.ensures.values in
    let small = c.ready_len-most.ensures.small in
    let all = len-entries v in
    subst (λ n. n < 2 ^ 63) (sym number) (few (λ (e : VolKey × VolRow). account == e.0.account) (entries v) (entries v) refl (omega (arith, most, small, all)))

pub more-tokens-requires : goal.more-tokens-requires
more-tokens-requires c =
    let t = held token_cmp c.self.inside.tokens in
    let account = c.args.key.now.account in
    let used = c.tokens_of.ensures.kept ∙ ap (λ (h : Held). tokens_at (get (full h.owns) account)) (sym c.self.view_is) ∙ c.self.invariant.1.0.each account in
    let most = c.ready_len-most_tokens.ensures.values in
    let small = c.ready_len-most_tokens.ensures.small in
    let all = len-entries t in
    subst (λ n. n < 2 ^ 63) (sym used) (few (λ (e : TokenKey × TokenRow). account == e.0.account) (entries t) (entries t) refl (omega (arith, most, small, all)))

pub invariant_of-self : goal.invariant_of-self
invariant_of-self c =
    let account = c.args.key.now.account in
    let owns = held nat_cmp c.self.inside.owns in
    let v = held vol_cmp c.self.inside.vols in
    let m = held snap_cmp c.self.inside.snaps in
    let count = c.volumes_of.ensures.kept ∙ ap (λ (h : Held). volumes_at (get (full h.owns) account)) (sym c.self.view_is) in
    let volumes = c.more-volumes.ensures ∙ (λ i. cond (c.contains-known.ensures i) (count i) (count i + 1)) in
    let used = c.tokens_of.ensures.kept ∙ ap (λ (h : Held). tokens_at (get (full h.owns) account)) (sym c.self.view_is) in
    let again = c.is_new-again.ensures ∙ ap (λ (h : Held). is_new (full h.tokens) c.args.token) (sym c.self.view_is) in
    let tokens = c.more-tokens.ensures ∙ (λ i. cond (not (again i)) (used i) (used i + 1)) in
    let rows = c.rows_of-rows.ensures ∙ ap (λ (h : Held). rows_at (get (full h.owns) account)) (sym c.self.view_is) in (
      (c.self.invariant.0.0, (subst (AreCounted m) (sym c.fill-2.ensures.held) (rows-kept m owns account _ rows c.self.invariant.0.1.0), c.self.invariant.0.1.1)),
      (
        subst (λ (x : Tokens × Accounts). AreUsed x.0 x.1) (λ i. (sym c.keep_token.ensures i, sym c.fill-2.ensures.held i))
            (used-added owns account _ (held token_cmp c.self.inside.tokens) c.args.at c.args.key.now.number c.args.token c.requires.owner tokens c.self.invariant.1.0),
        (
          subst (λ (x : Volumes × Accounts). AreVolumes x.0 x.1) (λ i. (sym c.fill.ensures.held i, sym c.fill-2.ensures.held i))
              (volumes-added v owns c.args.key.now _ _ volumes c.self.invariant.1.1.0),
          (subst AreSoundVolumes (sym c.fill.ensures.held) (volume-written v c.args.key.now _ c.self.invariant.1.1.1.0 (record { place = refl; size = c.requires.size })), c.self.invariant.1.1.1.1),
        ),
      ),
    )

pub returns-clause-rows : goal.returns-clause-rows
returns-clause-rows c =
    let key = c.args.key.now in
    let old = ap rows_in c.self.view_is in
    let new : Line → VolRow = λ line. record { key = key; size = c.args.size; line = line; origin = c.args.origin; tags = c.args.tags } in
    let vols = c.fill.ensures.held ∙ (λ i. insert (old i).vols key (new (c.volume_line-line.ensures i))) in
    let own = ap (map_values own_in) c.fill-2.ensures.held ∙ map_values-insert nat_cmp_total own_in nat_cmp-IsAntisymmetric (held nat_cmp c.self.inside.owns) key.account _
    ∙ (λ i. insert (old i).own key.account (record (c.own_of-own.ensures i) { next_vol = c.number.ensures.value i + 1 })) in
    let tokens = c.keep_token.ensures ∙ ap (λ (h : Held). with_new (full h.tokens) c.args.at key.number c.args.token) c.self.view_is in
    λ i. record { snaps = (old i).snaps; own = own i; tokens = tokens i; vols = vols i; books = (old i).books; policies = (old i).policies }
