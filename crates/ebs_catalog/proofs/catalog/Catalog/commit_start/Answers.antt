use Rattle.std.proofs.Common.{◌+◌, ◌≤◌, sym, ap, subst, ◌∙◌}
use Rattle.std.proofs.Common.{is_some}
use Rattle.std.proofs.lemmas.Bool.{false≢true}
use Rattle.std.specs.Ordering.{nat_cmp}
use Rattle.std.specs.FinMap.{insert}
use Rattle.ebs_tables.specs.Full.{full, held}
use Rattle.ebs_tables.proofs.FullLaws.{full-empty}
use Rattle.ebs_model.specs.Keys.{snap_cmp, vol_cmp, token_cmp}
use Rattle.ebs_model.specs.inner.MapValues.{map_values}
use Rattle.ebs_model.specs.declared.rows.SnapRow.{SnapRow}
use Rattle.ebs_catalog.specs.declared.rows.KeptRow.{KeptRow}
use Rattle.ebs_catalog.specs.Held.{Held, CoversToken, rows_in, own_in}
use Rattle.ebs_catalog.specs.Sound.{IsSound, AreCounted, AreUsed, AreVolumes, rows_at, tokens_at, volumes_at, AreAwaited}
use Rattle.ebs_catalog.proofs.RowsKept.{rows_of, rows-insert, sound-insert, timed}
use Rattle.std.specs.Cmp.{nat_cmp_total}
use Rattle.std.specs.FinMap.{nat_cmp-IsAntisymmetric}
use Rattle.ebs_model.proofs.Values.{map_values-insert}
use Rattle.ebs_model.specs.Limits.{is_size}
use Rattle.ebs_model.specs.Calls.Start.{started_row}
use Rattle.ebs_catalog.proofs.CountedRows.{Accounts, counted-added}
use Rattle.std.proofs.Common.{◌<◌, ◌^◌, arith, cond, refl}
use Rattle.std.specs.FinMap.{entries, len-entries, get, contains_key}
use Rattle.ebs_catalog.proofs.CountLaws.{few}
use Rattle.ebs_catalog.proofs.RowsKept.{Kept}
use Rattle.ebs_catalog.proofs.Awaited.{awaited-added}
use Rattle.ebs_catalog.proofs.Stale.{Waits}
use Rattle.std.proofs.Common.{◌==◌, not}
use Rattle.ebs_model.specs.declared.keys.TokenKey.{TokenKey}
use Rattle.ebs_model.specs.declared.rows.TokenRow.{TokenRow}
use Rattle.ebs_catalog.specs.Starts.{with_new, is_new}
use Rattle.ebs_catalog.proofs.UsedTokens.{Tokens, used-added}
use Rattle.ebs_catalog.proofs.CountedVolumes.{volumes-kept}
use Rattle.ebs_catalog.proofs.catalog.Catalog.commit_start.Goals as goal

pub more-tokens-requires : goal.more-tokens-requires
more-tokens-requires c =
    let t = held token_cmp c.self.inside.tokens in
    let account = c.args.key.now.account in
    let used = c.tokens_of.ensures.kept ∙ ap (λ (h : Held). tokens_at (get (full h.owns) account)) (sym c.self.view_is) ∙ c.self.invariant.1.0.each account in
    let most = c.ready_len-most_tokens.ensures.values in
    let small = c.ready_len-most_tokens.ensures.small in
    let all = len-entries t in
    subst (λ n. n < 2 ^ 63) (sym used) (few (λ (e : TokenKey × TokenRow). account == e.0.account) (entries t) (entries t) refl (omega (arith, most, small, all)))

pub keep_token-requires : goal.keep_token-requires
keep_token-requires c = subst (λ (h : Held). CoversToken h.tokens c.args.token) (sym c.self.view_is) c.requires.kept

pub invariant_of-self : goal.invariant_of-self
invariant_of-self c =
    let row_is = c.upload_row-row.ensures in
    let m = held snap_cmp c.self.inside.snaps in
    let account = c.args.key.now.account in
    let number = c.rows_with-rows.ensures ∙ ap (λ (h : Held). cond (contains_key (full h.snaps) c.args.key.now) (rows_at (get (full h.owns) account)) (rows_at (get (full h.owns) account) + 1)) (sym c.self.view_is) in
    let used = c.tokens_of.ensures.kept ∙ ap (λ (h : Held). tokens_at (get (full h.owns) account)) (sym c.self.view_is) in
    let again = c.is_new-again.ensures ∙ ap (λ (h : Held). is_new (full h.tokens) c.args.token) (sym c.self.view_is) in
    let tokens = c.more-tokens.ensures ∙ (λ i. cond (not (again i)) (used i) (used i + 1)) in
    let volumes = c.volumes_of-volumes.ensures.kept ∙ ap (λ (h : Held). volumes_at (get (full h.owns) account)) (sym c.self.view_is) in (
      (
        subst IsSound (sym c.fill.ensures.held) (sound-insert m c.args.key.now _ c.self.invariant.0.0 (record {
          place = ap (λ (r : SnapRow). r.key) row_is;
          size = ap (λ (r : SnapRow). is_size r.size) row_is ∙ c.requires.size;
          start = subst (λ (r : SnapRow). r.start.second ≤ 2 ^ 36) (sym row_is) c.requires.moment;
          timeout = λ e. subst (λ (r : SnapRow). 1 ≤ r.timeout) (sym row_is) (timed c.args.timeout c.requires.timeout);
          binned = λ e. absurd (false≢true (sym (ap (λ (r : SnapRow). is_some r.bin_end) row_is) ∙ e));
        })),
        (
          subst (λ (x : Kept × Accounts). AreCounted x.0 x.1) (λ i. (sym c.fill.ensures.held i, sym c.fill-2.ensures.held i)) (counted-added m (held nat_cmp c.self.inside.owns) c.args.key.now _ _ number c.self.invariant.0.1.0),
          subst (λ (x : Kept × Waits). AreAwaited x.0 x.1 c.self.inside.latest.second) (λ i. (sym c.fill.ensures.held i, sym c.fill-3.ensures.held i)) (awaited-added m (held snap_cmp c.self.inside.waits) c.args.key.now _ c.self.inside.latest.second c.self.invariant.0.1.1),
        ),
      ),
      (
        subst (λ (x : Tokens × Accounts). AreUsed x.0 x.1) (λ i. (sym c.keep_token.ensures i, sym c.fill-2.ensures.held i))
            (used-added (held nat_cmp c.self.inside.owns) account _ (held token_cmp c.self.inside.tokens) c.args.at c.args.key.now.number c.args.token c.requires.owner tokens c.self.invariant.1.0),
        (subst (AreVolumes (held vol_cmp c.self.inside.vols)) (sym c.fill-2.ensures.held) (volumes-kept (held vol_cmp c.self.inside.vols) (held nat_cmp c.self.inside.owns) account _ volumes c.self.invariant.1.1.0), c.self.invariant.1.1.1),
      ),
    )

pub returns-clause-rows : goal.returns-clause-rows
returns-clause-rows c =
    let key = c.args.key.now in
    let m = held snap_cmp c.self.inside.snaps in
    let rows = rows_in c.args.self.now in
    let old = ap rows_in c.self.view_is in
    let row_is = c.upload_row-row.ensures ∙ ap (λ line. started_row c.args.at key c.args.size c.args.parent line c.args.description c.args.tags c.args.timeout) c.line_of-line.ensures in
    let put = ap full c.new-put.ensures ∙ full-empty nat_cmp_total nat_cmp-IsAntisymmetric in
    let new : KeptRow = record { row = c.upload_row-row.result; put = c.new-put.result } in
    let snaps = ap rows_of c.fill.ensures.held ∙ rows-insert m key new ∙ (λ i. insert (old i).snaps key (record (row_is i) { put = put i })) in
    let own = ap (map_values own_in) c.fill-2.ensures.held ∙ map_values-insert nat_cmp_total own_in nat_cmp-IsAntisymmetric (held nat_cmp c.self.inside.owns) key.account _
    ∙ (λ i. insert (old i).own key.account (c.own_after-own.ensures i)) in
    let tokens = c.keep_token.ensures ∙ ap (λ (h : Held). with_new (full h.tokens) c.args.at key.number c.args.token) c.self.view_is in
    let vols = ap (λ (h : Held). full h.vols) c.self.view_is in
    λ i. record { snaps = snaps i; own = own i; tokens = tokens i; vols = vols i; books = (old i).books; policies = (old i).policies }
