-- Whose rows are, through each change.
use Rattle.std.proofs.Common.{◌≡◌, ℕ, ◌+◌, ◌<◌, ◌≤◌, arith, Bool, true, false, cond, List, [], ◌∷◌, length, Option, Some, None, refl, sym, ap, subst, ◌∙◌}
use Rattle.std.specs.Prelude.{unwrap_or}
use Rattle.std.specs.Ordering.{nat_cmp, eq_by_cmp}
use Rattle.std.specs.Cmp.{nat_cmp_total}
use Rattle.std.specs.FinMap.{FinMap, nat_cmp-IsAntisymmetric, get, insert, get-insert}
use Rattle.ebs_tables.proofs.MapEdits.{is_same, tied}
use Rattle.ebs_model.specs.declared.keys.SnapKey.{SnapKey}
use Rattle.ebs_model.specs.declared.keys.VolKey.{VolKey}
use Rattle.ebs_model.specs.declared.keys.PolicyKey.{PolicyKey}
use Rattle.ebs_model.specs.declared.keys.TokenKey.{TokenKey}
use Rattle.ebs_model.specs.declared.keys.Moment.{Moment}
use Rattle.ebs_model.specs.declared.policy.Policy.{Policy}
use Rattle.ebs_model.specs.declared.tags.Tag.{Tag}
use Rattle.ebs_model.specs.declared.rows.Own.{Own}
use Rattle.ebs_model.specs.declared.rows.SnapRow.{SnapRow}
use Rattle.ebs_model.specs.declared.rows.VolRow.{VolRow}
use Rattle.ebs_model.specs.declared.rows.TokenRow.{TokenRow}
use Rattle.ebs_model.specs.declared.request.Request.{Request}
use Rattle.ebs_model.specs.declared.request.Request.TheVariants.{StartSnapshot, CreateVolume}
use Rattle.ebs_model.specs.Keys.{vol_cmp, policy_cmp, token_cmp}
use Rattle.ebs_model.specs.inner.Orders.{snaps_total, exact_snaps, vols_total, exact_vols, policies_total, exact_policies, tokens_total, exact_tokens}
use Rattle.ebs_model.specs.Quotas.{most_ids}
use Rattle.ebs_model.specs.Rows.{Rows, no_own, own_of}
use Rattle.ebs_model.specs.Calls.Start.{next_key, started_row, line_of, with_upload, with_token}
use Rattle.ebs_model.specs.Calls.Disk.{snapped_row}
use Rattle.ebs_model.specs.Calls.Volume.{next_volume, volume_line}
use Rattle.ebs_model.specs.Calls.Policy.{next_policy, new_policy}
use Rattle.ebs_model.specs.Calls.Run.{due_targets, run_row, with_new, made_rows, run_rows}
use Rattle.ebs_model.proofs.RunLaws.{run-beside, new-next}
use Rattle.ebs_lawful.specs.Owners.{IsOwnSnap, next_by, IsOwn, AreOwn}
use Rattle.ebs_lawful.proofs.Maps.{Each, each-insert, each-remove}
use Rattle.ebs_lawful.proofs.Effects.{IsAltered, got_block, was_completed, was_binned, was_shared, was_locked, was_moved, was_recovered, was_freed, IsSnapping, IsRun, IsEffect, left_all, altered, taken_out, started, snapped, created, dropped, commanded, planned, unplanned, ran}
use Rattle.ebs_lawful.proofs.Ran.{IsNewKey, ran_each}

-- ---- counters that grow

pub record Grows (old new : Own) : Type 0 where
  pub snaps : old.next_snap ≤ new.next_snap
  pub vols : old.next_vol ≤ new.next_vol
  pub policies : old.next_policy ≤ new.next_policy

abbrev pub AllGrow : Rows → Rows → Type 0
AllGrow rows new = (account : ℕ) → Grows (own_of rows account) (own_of new account)

itself : (own : Own) → Grows own own
itself own = record { snaps = omega arith; vols = omega arith; policies = omega arith }

joined : (a b c : Own) → Grows a b → Grows b c → Grows a c
joined a b c h g = record {
  snaps = let x = h.snaps in let y = g.snaps in omega (arith, x, y);
  vols = let x = h.vols in let y = g.vols in omega (arith, x, y);
  policies = let x = h.policies in let y = g.policies in omega (arith, x, y);
}

next-grows : (request : Request) (old new : Own) → Grows old new → next_by request old ≤ next_by request new
next-grows (CreateVolume origin size tags token) old new g = g.vols
next-grows request old new g = g.snaps

reached : (n a b : ℕ) → n < a → a ≤ b → n < b
reached n a b h g = omega (arith, h, g)

snap-grows : (old new : Own) (key : SnapKey) (row : SnapRow) → Grows old new → IsOwnSnap old key row → IsOwnSnap new key row
snap-grows old new key row g h = record { made = reached _ _ _ h.made g.snaps; volume = h.volume; policy = h.policy }

-- ---- an account's counters are replaced

-- what has an account, or none
pub record HasRoom (own : Own) : Type 0 where
  pub snaps : own.next_snap ≤ most_ids
  pub vols : own.next_vol ≤ most_ids
  pub policies : own.next_policy ≤ most_ids

pub room_of : (o : Option Own) → ((own : Own) → o ≡ Some own → IsOwn own) → HasRoom (unwrap_or o no_own)
room_of None h = record { snaps = omega arith; vols = omega arith; policies = omega arith }
room_of (Some own) h = let is = h own refl in record { snaps = is.snaps; vols = is.vols; policies = is.policies }

module _ (owns : FinMap nat_cmp Own) (account : ℕ) (up : Own) where
  pub own-after : (q : ℕ) → unwrap_or (get (insert owns account up) q) no_own ≡ cond (eq_by_cmp nat_cmp q account) up (unwrap_or (get owns q) no_own)
  own-after q = ap (λ (o : Option Own). unwrap_or o no_own) (get-insert nat_cmp_total owns account up q) ∙ by (eq_by_cmp nat_cmp q account)
    where
      by : (b : Bool) → unwrap_or (cond b (Some up) (get owns q)) no_own ≡ cond b up (unwrap_or (get owns q) no_own)
      by true = refl
      by false = refl

  pub own-here : unwrap_or (get (insert owns account up) account) no_own ≡ up
  own-here = own-after account ∙ ap (λ (b : Bool). cond b up (unwrap_or (get owns account) no_own)) (tied nat_cmp_total account)

  pub replaced-grows : Grows (unwrap_or (get owns account) no_own) up → (q : ℕ) → Grows (unwrap_or (get owns q) no_own) (unwrap_or (get (insert owns account up) q) no_own)
  replaced-grows g q = subst (Grows (unwrap_or (get owns q) no_own)) (sym (own-after q)) (by (eq_by_cmp nat_cmp q account) refl)
    where
      by : (b : Bool) → eq_by_cmp nat_cmp q account ≡ b → Grows (unwrap_or (get owns q) no_own) (cond b up (unwrap_or (get owns q) no_own))
      by true t = subst (λ (a : ℕ). Grows (unwrap_or (get owns a) no_own) up) (sym (is_same nat_cmp-IsAntisymmetric q account t)) g
      by false t = itself _

-- ---- rows whose counters grow

module _ (rows new : Rows) (own : AreOwn rows) (grows : AllGrow rows new) where
  pub snaps-stay : Each (λ (key : SnapKey) (row : SnapRow). IsOwnSnap (own_of new key.account) key row) rows.snaps
  snaps-stay key row e = snap-grows (own_of rows key.account) (own_of new key.account) key row (grows key.account) (own.snaps key row e)

  pub vols-stay : Each (λ (key : VolKey) (row : VolRow). key.number < (own_of new key.account).next_vol) rows.vols
  vols-stay key row e = reached _ _ _ (own.vols key row e) (grows key.account).vols

  pub policies-stay : Each (λ (key : PolicyKey) (p : Policy). key.number < (own_of new key.account).next_policy) rows.policies
  policies-stay key p e = reached _ _ _ (own.policies key p e) (grows key.account).policies

  pub tokens-stay : Each (λ (key : TokenKey) (row : TokenRow). row.number < next_by row.first (own_of new key.account)) rows.tokens
  tokens-stay key row e = reached _ _ _ (own.tokens key row e) (next-grows row.first (own_of rows key.account) (own_of new key.account) (grows key.account))

-- ---- a row that is altered

altered-own : (rows : Rows) (at : Moment) (own : Own) (key : SnapKey) (row next : SnapRow) → IsAltered rows at key row next → IsOwnSnap own key row → IsOwnSnap own key next
altered-own rows at own key row next (got_block index pending below is) h = subst (IsOwnSnap own key) (sym is) (record { made = h.made; volume = h.volume; policy = h.policy })
altered-own rows at own key row next (was_completed is) h = subst (IsOwnSnap own key) (sym is) (record { made = h.made; volume = h.volume; policy = h.policy })
altered-own rows at own key row next (was_binned days stays is) h = subst (IsOwnSnap own key) (sym is) (record { made = h.made; volume = h.volume; policy = h.policy })
altered-own rows at own key row next (was_shared shared public fits is) h = subst (IsOwnSnap own key) (sym is) (record { made = h.made; volume = h.volume; policy = h.policy })
altered-own rows at own key row next (was_locked lock ends is) h = subst (IsOwnSnap own key) (sym is) (record { made = h.made; volume = h.volume; policy = h.policy })
altered-own rows at own key row next (was_moved tier done ends is) h = subst (IsOwnSnap own key) (sym is) (record { made = h.made; volume = h.volume; policy = h.policy })
altered-own rows at own key row next (was_recovered is) h = subst (IsOwnSnap own key) (sym is) (record { made = h.made; volume = h.volume; policy = h.policy })
altered-own rows at own key row next (was_freed is) h = subst (IsOwnSnap own key) (sym is) (record { made = h.made; volume = h.volume; policy = tt })

-- ---- an upload

-- the account's counters once it has one snapshot more
abbrev more_snaps : Rows → ℕ → Own
more_snaps rows account = record (own_of rows account) { next_snap = (next_key rows account).number + 1 }

module _ (rows : Rows) (account : ℕ) (row : SnapRow) where
  abbrev uploaded : Rows
  uploaded = with_upload rows (next_key rows account) row

  upload-grows : AllGrow rows uploaded
  upload-grows = replaced-grows rows.own account (more_snaps rows account) (record { snaps = omega arith; vols = omega arith; policies = omega arith })

  upload-owns : Each (λ (a : ℕ) (own : Own). IsOwn own) rows.own → (next_key rows account).number < most_ids → Each (λ (a : ℕ) (own : Own). IsOwn own) uploaded.own
  upload-owns each low =
      let room : HasRoom (own_of rows account) = room_of (get rows.own account) (λ own e. each account own e) in
      each-insert (λ (a : ℕ) (own : Own). IsOwn own) nat_cmp_total nat_cmp-IsAntisymmetric rows.own each account (more_snaps rows account)
      (record { snaps = omega (arith, low); vols = room.vols; policies = room.policies; begun = omega arith })

  upload-next : (own_of uploaded account).next_snap ≡ (own_of rows account).next_snap + 1
  upload-next = ap (λ (o : Own). o.next_snap) (own-here rows.own account (more_snaps rows account))

  -- the new key is below the account's next number
  upload-made : (next_key rows account).number < (own_of uploaded account).next_snap
  upload-made = let next = upload-next in omega (arith, next)

-- ---- the uploads of a run

new-grows : (rows : Rows) (at : Moment) (policy : PolicyKey) (p : Policy) (volumes : List (VolKey × VolRow)) → AllGrow rows (with_new rows at policy p volumes)
new-grows rows at policy p [] account = itself _
new-grows rows at policy p (e ∷ volumes) account =
    let row : SnapRow = run_row at (next_key rows policy.account) policy p e in
    let next : Rows = with_upload rows (next_key rows policy.account) row in
    joined _ _ _ (upload-grows rows policy.account row account) (new-grows next at policy p volumes account)

new-owns : (rows : Rows) (at : Moment) (policy : PolicyKey) (p : Policy) (volumes : List (VolKey × VolRow)) → Each (λ (a : ℕ) (own : Own). IsOwn own) rows.own
    → (next_key rows policy.account).number + length volumes ≤ most_ids → Each (λ (a : ℕ) (own : Own). IsOwn own) (with_new rows at policy p volumes).own
new-owns rows at policy p [] each low = each
new-owns rows at policy p (e ∷ volumes) each low =
    let row : SnapRow = run_row at (next_key rows policy.account) policy p e in
    let next : Rows = with_upload rows (next_key rows policy.account) row in
    let step = upload-next rows policy.account row in
    new-owns next at policy p volumes (upload-owns rows policy.account row each (omega (arith, low))) (omega (arith, low, step))

-- ---- a change

module _ (rows : Rows) (at : Moment) (account : ℕ) (own : AreOwn rows) where
  -- counters and keys stay
  same-own : AllGrow rows rows
  same-own q = itself _

  started-own : (size : ℕ) (parent : Option SnapKey) (description : Option (List ℕ)) (tags : List Tag) (token : Option (List ℕ)) (timeout : ℕ) → (next_key rows account).number < most_ids
      → AreOwn (Rattle.ebs_model.specs.Calls.Start.commit_start rows at (Some (next_key rows account)) size parent description tags token timeout)
  started-own size parent description tags token timeout low =
      let key : SnapKey = next_key rows account in
      let row : SnapRow = started_row at key size parent (line_of rows.snaps key parent) description tags timeout in
      let new : Rows = with_upload rows key row in
      let grows = upload-grows rows account row in record {
        own = upload-owns rows account row own.own low;
        snaps = each-insert (λ (key : SnapKey) (row : SnapRow). IsOwnSnap (own_of new key.account) key row) snaps_total exact_snaps rows.snaps (snaps-stay rows new own grows) key row (record { made = upload-made rows account row; volume = tt; policy = tt });
        vols = vols-stay rows new own grows;
        policies = policies-stay rows new own grows;
        tokens = used token;
      }
    where
      used : (token : Option (List ℕ)) → Each (λ (k : TokenKey) (t : TokenRow). t.number < next_by t.first (own_of (with_upload rows (next_key rows account) (started_row at (next_key rows account) size parent (line_of rows.snaps (next_key rows account) parent) description tags timeout)) k.account))
          (with_token rows.tokens at account (next_key rows account).number (StartSnapshot size parent description tags token timeout) token)
      used None = tokens-stay rows (with_upload rows (next_key rows account) (started_row at (next_key rows account) size parent (line_of rows.snaps (next_key rows account) parent) description tags timeout)) own
          (upload-grows rows account (started_row at (next_key rows account) size parent (line_of rows.snaps (next_key rows account) parent) description tags timeout))
      used (Some text) =
          let row : SnapRow = started_row at (next_key rows account) size parent (line_of rows.snaps (next_key rows account) parent) description tags timeout in
          let new : Rows = with_upload rows (next_key rows account) row in
          each-insert (λ (k : TokenKey) (t : TokenRow). t.number < next_by t.first (own_of new k.account)) tokens_total exact_tokens rows.tokens (tokens-stay rows new own (upload-grows rows account row))
          (record { account = account; text = text }) (record { at = at; first = StartSnapshot size parent description tags (Some text) timeout; number = (next_key rows account).number }) (upload-made rows account row)

  snapped-own : (volume : VolKey) (row : VolRow) (description : Option (List ℕ)) (tags : List Tag) → IsSnapping rows account volume row description tags
      → AreOwn (with_upload rows (next_key rows account) (snapped_row at (next_key rows account) volume row description tags))
  snapped-own volume row description tags of =
      let key : SnapKey = next_key rows account in
      let made : SnapRow = snapped_row at key volume row description tags in
      let new : Rows = with_upload rows key made in
      let grows = upload-grows rows account made in record {
        own = upload-owns rows account made own.own of.ids;
        snaps = each-insert (λ (key : SnapKey) (row : SnapRow). IsOwnSnap (own_of new key.account) key row) snaps_total exact_snaps rows.snaps (snaps-stay rows new own grows) key made
            (record { made = upload-made rows account made; volume = sym of.owner; policy = tt });
        vols = vols-stay rows new own grows;
        policies = policies-stay rows new own grows;
        tokens = tokens-stay rows new own grows;
      }

  abbrev more_vols : Own
  more_vols = record (own_of rows account) { next_vol = (next_volume rows account).number + 1 }

  created-own : (origin : Option SnapKey) (size : ℕ) (tags : List Tag) (token : Option (List ℕ)) → (next_volume rows account).number < most_ids
      → AreOwn (Rattle.ebs_model.specs.Calls.Volume.commit_create rows at (Some (next_volume rows account)) origin (Some size) tags token)
  created-own origin size tags token low =
      let new : Rows = record rows { own = insert rows.own account more_vols } in
      let room : HasRoom (own_of rows account) = room_of (get rows.own account) (λ o e. own.own account o e) in
      let key : VolKey = next_volume rows account in record {
        own = each-insert (λ (a : ℕ) (o : Own). IsOwn o) nat_cmp_total nat_cmp-IsAntisymmetric rows.own own.own account more_vols (record { snaps = room.snaps; vols = omega (arith, low); policies = room.policies; begun = omega arith });
        snaps = snaps-stay rows new own grows;
        vols = each-insert (λ (k : VolKey) (v : VolRow). k.number < (own_of new k.account).next_vol) vols_total exact_vols rows.vols (vols-stay rows new own grows) key
            (record { key = key; size = size; line = volume_line rows.snaps key origin; origin = origin; tags = tags }) made;
        policies = policies-stay rows new own grows;
        tokens = used token;
      }
    where
      grows : AllGrow rows (record rows { own = insert rows.own account more_vols })
      grows = replaced-grows rows.own account more_vols (record { snaps = omega arith; vols = omega arith; policies = omega arith })

      made : (next_volume rows account).number < (own_of (record rows { own = insert rows.own account more_vols }) account).next_vol
      made = let next : (own_of (record rows { own = insert rows.own account more_vols }) account).next_vol ≡ (own_of rows account).next_vol + 1 = ap (λ (o : Own). o.next_vol) (own-here rows.own account more_vols) in omega (arith, next)

      used : (token : Option (List ℕ)) → Each (λ (k : TokenKey) (t : TokenRow). t.number < next_by t.first (own_of (record rows { own = insert rows.own account more_vols }) k.account))
          (with_token rows.tokens at account (next_volume rows account).number (CreateVolume origin (Some size) tags token) token)
      used None = tokens-stay rows (record rows { own = insert rows.own account more_vols }) own grows
      used (Some text) = each-insert (λ (k : TokenKey) (t : TokenRow). t.number < next_by t.first (own_of (record rows { own = insert rows.own account more_vols }) k.account)) tokens_total exact_tokens rows.tokens
          (tokens-stay rows (record rows { own = insert rows.own account more_vols }) own grows)
          (record { account = account; text = text }) (record { at = at; first = CreateVolume origin (Some size) tags (Some text); number = (next_volume rows account).number }) made

  abbrev more_policies : Own
  more_policies = record (own_of rows account) { next_policy = (next_policy rows account).number + 1 }

  planned-own : (p : Policy) → (next_policy rows account).number < most_ids → AreOwn (Rattle.ebs_model.specs.Calls.Policy.with_new_policy rows (next_policy rows account) p)
  planned-own p low =
      let new : Rows = record rows { own = insert rows.own account more_policies } in
      let room : HasRoom (own_of rows account) = room_of (get rows.own account) (λ o e. own.own account o e) in record {
        own = each-insert (λ (a : ℕ) (o : Own). IsOwn o) nat_cmp_total nat_cmp-IsAntisymmetric rows.own own.own account more_policies (record { snaps = room.snaps; vols = room.vols; policies = omega (arith, low); begun = omega arith });
        snaps = snaps-stay rows new own grows;
        vols = vols-stay rows new own grows;
        policies = each-insert (λ (k : PolicyKey) (p : Policy). k.number < (own_of new k.account).next_policy) policies_total exact_policies rows.policies (policies-stay rows new own grows) (next_policy rows account) p made;
        tokens = tokens-stay rows new own grows;
      }
    where
      grows : AllGrow rows (record rows { own = insert rows.own account more_policies })
      grows = replaced-grows rows.own account more_policies (record { snaps = omega arith; vols = omega arith; policies = omega arith })

      made : (next_policy rows account).number < (own_of (record rows { own = insert rows.own account more_policies }) account).next_policy
      made = let next : (own_of (record rows { own = insert rows.own account more_policies }) account).next_policy ≡ (own_of rows account).next_policy + 1 = ap (λ (o : Own). o.next_policy) (own-here rows.own account more_policies) in omega (arith, next)

  ran-own : (key : PolicyKey) (p : Policy) → IsRun rows account key p at.second → AreOwn (run_rows rows at key p)
  ran-own key p of =
      let made : Rows = made_rows rows at key p in
      let volumes : List (VolKey × VolRow) = due_targets rows key p at.second in
      let beside = run-beside rows at key p in
      let next = new-next rows at key p volumes in record {
        own = subst (λ (m : FinMap nat_cmp Own). Each (λ (a : ℕ) (o : Own). IsOwn o) m) (sym owns_are) (new-owns rows at key p volumes own.own (subst (λ (a : ℕ). (next_key rows a).number + length volumes ≤ most_ids) of.owner of.ids));
        snaps = ran_each (λ (k : SnapKey) (row : SnapRow). IsOwnSnap (own_of (run_rows rows at key p) k.account) k row) rows at key p
            (λ q row later how h. altered-own rows at (own_of (run_rows rows at key p) q.account) q row later how h)
            (λ first e fresh mine. record { made = below first fresh; volume = mine.owner ∙ sym fresh.account; policy = sym fresh.account })
            (snaps-stay rows (run_rows rows at key p) own grows);
        vols = subst (λ (m : FinMap vol_cmp VolRow). Each (λ (k : VolKey) (v : VolRow). k.number < (own_of (run_rows rows at key p) k.account).next_vol) m) (sym beside.0) (vols-stay rows (run_rows rows at key p) own grows);
        policies = subst (λ (m : FinMap policy_cmp Policy). Each (λ (k : PolicyKey) (x : Policy). k.number < (own_of (run_rows rows at key p) k.account).next_policy) m) (sym beside.1.1.1.0)
            (each-insert (λ (k : PolicyKey) (x : Policy). k.number < (own_of (run_rows rows at key p) k.account).next_policy) policies_total exact_policies rows.policies (policies-stay rows (run_rows rows at key p) own grows) key (record p { last = at })
            (policies-stay rows (run_rows rows at key p) own grows key p of.found));
        tokens = subst (λ (m : FinMap token_cmp TokenRow). Each (λ (k : TokenKey) (t : TokenRow). t.number < next_by t.first (own_of (run_rows rows at key p) k.account)) m) (sym beside.1.0) (tokens-stay rows (run_rows rows at key p) own grows);
      }
    where
      owns_are : (run_rows rows at key p).own ≡ (made_rows rows at key p).own
      owns_are = (run-beside rows at key p).1.1.1.1

      own_is : (a : ℕ) → own_of (run_rows rows at key p) a ≡ own_of (made_rows rows at key p) a
      own_is a = ap (λ (m : FinMap nat_cmp Own). unwrap_or (get m a) no_own) owns_are

      grows : AllGrow rows (run_rows rows at key p)
      grows a = subst (Grows (own_of rows a)) (sym (own_is a)) (new-grows rows at key p (due_targets rows key p at.second) a)

      below : (first : SnapKey) → IsNewKey rows key p at.second first → first.number < (own_of (run_rows rows at key p) first.account).next_snap
      below first fresh =
          let next = new-next rows at key p (due_targets rows key p at.second) in
          let is : (own_of (run_rows rows at key p) first.account).next_snap ≡ (own_of (made_rows rows at key p) key.account).next_snap = ap (λ (a : ℕ). (own_of (run_rows rows at key p) a).next_snap) fresh.account ∙ ap (λ (o : Own). o.next_snap) (own_is key.account) in
          let under = fresh.below in
          omega (arith, next, is, under)

  pub own-kept : (new : Rows) → IsEffect rows at account new → AreOwn new
  own-kept new (left_all is) = subst AreOwn (sym is) own
  own-kept new (altered key row next there how is) = subst AreOwn (sym is) (record {
    own = own.own;
    vols = own.vols;
    policies = own.policies;
    tokens = own.tokens;
    snaps = each-insert (λ (k : SnapKey) (r : SnapRow). IsOwnSnap (own_of rows k.account) k r) snaps_total exact_snaps rows.snaps own.snaps key next (altered-own rows at (own_of rows key.account) key row next how (own.snaps key row there));
  })
  own-kept new (taken_out key is) = subst AreOwn (sym is) (record {
    own = own.own;
    vols = own.vols;
    policies = own.policies;
    tokens = own.tokens;
    snaps = each-remove (λ (k : SnapKey) (r : SnapRow). IsOwnSnap (own_of rows k.account) k r) snaps_total exact_snaps rows.snaps own.snaps key;
  })
  own-kept new (started size parent description tags token timeout of is) = subst AreOwn (sym is) (started-own size parent description tags token timeout of.ids)
  own-kept new (snapped volume row description tags of is) = subst AreOwn (sym is) (snapped-own volume row description tags of)
  own-kept new (created origin size tags token of is) = subst AreOwn (sym is) (created-own origin size tags token of.ids)
  own-kept new (dropped key is) = subst AreOwn (sym is) (record {
    own = own.own;
    snaps = own.snaps;
    policies = own.policies;
    tokens = own.tokens;
    vols = each-remove (λ (k : VolKey) (v : VolRow). k.number < (own_of rows k.account).next_vol) vols_total exact_vols rows.vols own.vols key;
  })
  own-kept new (commanded command change fits taken is) = subst AreOwn (sym is) (record { own = own.own; snaps = own.snaps; vols = own.vols; policies = own.policies; tokens = own.tokens })
  own-kept new (planned targets hours time retain add of is) = subst AreOwn (sym is) (planned-own (new_policy at (next_policy rows account) targets hours time retain add) of.ids)
  own-kept new (unplanned key is) = subst AreOwn (sym is) (record {
    own = own.own;
    snaps = own.snaps;
    vols = own.vols;
    tokens = own.tokens;
    policies = each-remove (λ (k : PolicyKey) (x : Policy). k.number < (own_of rows k.account).next_policy) policies_total exact_policies rows.policies own.policies key;
  })
  own-kept new (ran key p of is) = subst AreOwn (sym is) (ran-own key p of)
