-- Client tokens that a checkpoint says, and whose its rows are.
use Rattle.std.proofs.Common.{◌≡◌, ℕ, ◌+◌, ◌<◌, ◌≤◌, arith, Bool, true, false, cond, ◌==◌, List, [], ◌∷◌, ◌++◌, map, Option, Some, None, is_some, refl, sym, ap, subst, ◌∙◌}
use Rattle.std.specs.Prelude.{nat_le, nat_lt, nat_eq, flat_map, unwrap_or}
use Rattle.std.specs.Option.{is_none}
use Rattle.std.specs.List.{list_all, filter, AllByRecursion}
use Rattle.std.specs.Cmp.Lexicographic.{pointwise}
use Rattle.std.specs.Ordering.{nat_cmp, eq_by_cmp}
use Rattle.std.specs.Cmp.{nat_cmp_total}
use Rattle.std.specs.FinMap.{FinMap, nat_cmp-IsAntisymmetric, get, find, get-from_entries}
use Rattle.ebs_tables.proofs.MapEdits.{is_same}
use Rattle.ebs_model.specs.declared.keys.SnapKey.{SnapKey}
use Rattle.ebs_model.specs.declared.keys.VolKey.{VolKey}
use Rattle.ebs_model.specs.declared.keys.PolicyKey.{PolicyKey}
use Rattle.ebs_model.specs.declared.keys.TokenKey.{TokenKey}
use Rattle.ebs_model.specs.declared.policy.Policy.{Policy}
use Rattle.ebs_model.specs.declared.rows.SnapRow.{SnapRow}
use Rattle.ebs_model.specs.declared.rows.VolRow.{VolRow}
use Rattle.ebs_model.specs.declared.rows.Own.{Own}
use Rattle.ebs_model.specs.declared.rows.TokenRow.{TokenRow}
use Rattle.ebs_model.specs.declared.request.Request.{Request}
use Rattle.ebs_model.specs.declared.request.Request.TheVariants.{StartSnapshot, CreateVolume}
use Rattle.ebs_model.specs.Keys.{token_cmp}
use Rattle.ebs_model.specs.inner.Orders.{exact_snaps, exact_vols, exact_policies, tokens_total, exact_tokens}
use Rattle.ebs_model.specs.Limits.{is_size, is_size_given, is_client_token, bad_member}
use Rattle.ebs_model.specs.Quotas.{most_tokens}
use Rattle.ebs_model.specs.Machine.{rows_of}
use Rattle.ebs_records.specs.declared.record.Record.{Record}
use Rattle.ebs_records.specs.declared.record.Record.TheVariants.{Accepted, Advance, Moved}
use Rattle.ebs_records.specs.Records.{is_moment}
use Rattle.ebs_checkpoints.specs.declared.owned.AccountRow.{AccountRow}
use Rattle.ebs_checkpoints.specs.declared.owned.TokenPoint.{TokenPoint}
use Rattle.ebs_checkpoints.specs.declared.snapshots.SnapPoint.{SnapPoint}
use Rattle.ebs_checkpoints.specs.declared.checkpoint.Checkpoint.{Checkpoint}
use Rattle.ebs_row_rules.specs.Limits.{is_account_within, is_token_within, is_record_within, is_call_within}
use Rattle.ebs_row_rules.specs.Owners.{listed, is_made, is_volume_of, is_policy_of, is_owned_snapshot, is_owned_volume, is_owned_policy, has_text, is_use, is_first_use, has_used_tokens}
use Rattle.ebs_checkpoint_rules.specs.Rules.{HasRules}
use Rattle.ebs_recovery.specs.inner.Bases.{machine_of}
use Rattle.ebs_recovery.specs.Bases.{has_own, own_of, owns_of, first_of, token_entry, tokens_of}
use Rattle.ebs_recovery.proofs.Bases.{found_in}
use Rattle.ebs_lawful.specs.Tokens.{HasSize, Gives, IsToken, AreTokens}
use Rattle.ebs_lawful.specs.Owners.{IsVolumeOf, IsPolicyOf, IsOwnSnap, next_by, IsOwn, AreOwn}
use Rattle.ebs_lawful_points.proofs.Parts.{two, three}
use Rattle.ebs_lawful_points.proofs.Taken.{within, owned, accounts-ordered}
use Rattle.ebs_lawful_points.proofs.SnapPoints.{less, same, moment-of, row-found}
use Rattle.ebs_lawful_points.proofs.VolPoints.{vol-found, policy-found, filter_all, all_kept, counters-of}
use Rattle.ebs_lawful_points.proofs.Listed.{maker, own-listed, all-listed}

-- ---- tokens

none-is : {A : Type 0} (o : Option A) → is_none o ≡ true → o ≡ None
none-is None e = refl
none-is (Some x) e = absurd (cc)

pub same-text : (a b : List ℕ) → pointwise nat_eq a b ≡ true → a ≡ b
same-text [] [] e = refl
same-text [] (y ∷ ys) e = absurd (cc)
same-text (x ∷ xs) [] e = absurd (cc)
same-text (x ∷ xs) (y ∷ ys) e = let both = two (x == y) (pointwise nat_eq xs ys) e in λ i. same x y both.0 i ∷ same-text xs ys both.1 i

given : (token : Option (List ℕ)) (text : List ℕ) → has_text token text ≡ true → token ≡ Some text
given None text e = absurd (cc)
given (Some token) text e = ap Some (same-text token text e)

sized : (size : Option ℕ) → is_some size ≡ true → is_size_given size ≡ true → HasSize size
sized None e fits = absurd (cc)
sized (Some size) e fits = fits

-- what a call that used a token tells
uses : (a : AccountRow) (t : TokenPoint) (request : Request) → is_use a t request ≡ true → is_call_within request ≡ true → Gives t.text request × (bad_member request ≡ None) × (t.number < next_by request (own_of a))
uses a t (StartSnapshot size parent description tags token timeout) e fits =
    let used = two (has_text token t.text) (nat_lt t.number a.next_snap) e in
    let good = two (is_size size) (is_none (bad_member (StartSnapshot size parent description tags token timeout))) fits in
    ((given token t.text used.0, good.0), none-is _ good.1, less t.number a.next_snap used.1)
uses a t (CreateVolume origin size tags token) e fits =
    let used = three (is_some size) (has_text token t.text) (nat_lt t.number a.next_vol) e in
    let good = two (is_size_given size) (is_none (bad_member (CreateVolume origin size tags token))) fits in
    ((given token t.text used.1, sized size used.0 good.0), none-is _ good.1, less t.number a.next_vol used.2)
uses a t request e fits = absurd (cc)

first-uses : (a : AccountRow) (t : TokenPoint) (r : Record) → is_first_use a t r ≡ true → is_record_within r ≡ true → Gives t.text (first_of r) × (bad_member (first_of r) ≡ None) × (t.number < next_by (first_of r) (own_of a))
first-uses a t (Accepted call) e fits =
    let used = three (call.at.second == t.at.second) (call.account == a.account) (is_use a t call.request) e in
    uses a t call.request used.2 (two (is_moment call.at) (is_call_within call.request) fits).1
first-uses a t (Advance at) e fits = absurd (cc)
first-uses a t (Moved transfer) e fits = absurd (cc)

-- a token of a listed account
record IsTokenOf (accounts : List AccountRow) (q : TokenKey) (x : TokenRow) : Type 0 where
  account : AccountRow
  token : TokenPoint
  there : listed accounts account.account ≡ Some account
  inside : is_token_within token ≡ true
  used : is_first_use account token token.first ≡ true
  at : q ≡ record { account = account.account; text = token.text }
  is : x ≡ record { at = token.at; first = first_of token.first; number = token.number }

some_is : {A : Type 0} (x y : A) → Some x ≡ Some y → x ≡ y
some_is x y e = cc

module _ (all : List AccountRow) (q : TokenKey) (x : TokenRow) where
  in-account : (a : AccountRow) → listed all a.account ≡ Some a → (ts : List TokenPoint) → list_all is_token_within ts ≡ true → list_all (λ (t : TokenPoint). is_first_use a t t.first) ts ≡ true → (rest : List (TokenKey × TokenRow))
      → (find token_cmp q rest ≡ Some x → IsTokenOf all q x) → find token_cmp q (map (token_entry a.account) ts ++ rest) ≡ Some x → IsTokenOf all q x
  in-account a there [] inside used rest later e = later e
  in-account a there (t ∷ ts) inside used rest later e =
      let within = two (is_token_within t) (list_all is_token_within ts) inside in
      let uses = two (is_first_use a t t.first) (list_all (λ (t : TokenPoint). is_first_use a t t.first) ts) used in
      by within.0 uses.0 (eq_by_cmp token_cmp q (token_entry a.account t).0) refl (λ h. in-account a there ts within.1 uses.1 rest later h) e
    where
      by : is_token_within t ≡ true → is_first_use a t t.first ≡ true → (b : Bool) → eq_by_cmp token_cmp q (token_entry a.account t).0 ≡ b → (find token_cmp q (map (token_entry a.account) ts ++ rest) ≡ Some x → IsTokenOf all q x)
          → cond b (Some (token_entry a.account t).1) (find token_cmp q (map (token_entry a.account) ts ++ rest)) ≡ Some x → IsTokenOf all q x
      by good was true is again h = record { account = a; token = t; there = there; inside = good; used = was; at = is_same exact_tokens q (token_entry a.account t).0 is; is = sym (some_is (token_entry a.account t).1 x h) }
      by good was false is again h = again h

  in-accounts : (accounts : List AccountRow) → AllByRecursion (λ (a : AccountRow). listed all a.account ≡ Some a) accounts → list_all is_account_within accounts ≡ true → list_all has_used_tokens accounts ≡ true
      → find token_cmp q (flat_map (λ (a : AccountRow). map (token_entry a.account) a.tokens) accounts) ≡ Some x → IsTokenOf all q x
  in-accounts [] there inside used e = absurd (cc)
  in-accounts (a ∷ accounts) there inside used e =
      let within = two (is_account_within a) (list_all is_account_within accounts) inside in
      let uses = two (has_used_tokens a) (list_all has_used_tokens accounts) used in
      let counters = counters-of a within.0 in
      let tokens = two (nat_le (Rattle.std.specs.Prelude.length a.tokens) most_tokens) (list_all is_token_within a.tokens) counters.tokens in
      in-account a there.0 a.tokens tokens.1 uses.0 (flat_map (λ (a : AccountRow). map (token_entry a.account) a.tokens) accounts) (λ h. in-accounts accounts there.1 within.1 uses.1 h) e

token-found : (point : Checkpoint) → HasRules point → (key : TokenKey) (row : TokenRow) → get (tokens_of point) key ≡ Some row → IsTokenOf point.accounts key row
unfolding tokens_of
token-found point rules key row e =
    let inside = within point rules in
    let mine = owned point rules in
    in-accounts point.accounts key row point.accounts (all-listed point.accounts (accounts-ordered point rules)) inside.accounts mine.tokens
    (sym (get-from_entries tokens_total (flat_map (λ (a : AccountRow). map (token_entry a.account) a.tokens) point.accounts) key) ∙ e)

pub tokens-fit : (point : Checkpoint) → HasRules point → AreTokens (rows_of (machine_of point))
tokens-fit point rules key row e =
    let r = token-found point rules key row e in
    let t : TokenPoint = r.token in
    let limits = three (is_client_token t.text) (is_moment t.at) (is_record_within t.first) r.inside in
    let told = first-uses r.account t t.first r.used limits.2 in
    subst (λ (k : TokenKey). IsToken k row) (sym r.at) (subst (IsToken (record { account = r.account.account; text = t.text })) (sym r.is) (record { text = limits.0; at = moment-of t.at limits.1; gives = told.0; within = told.1 }))

-- ---- owners

volume-of : (account : ℕ) (volume : Option VolKey) → is_volume_of account volume ≡ true → IsVolumeOf account volume
volume-of account None e = tt
volume-of account (Some key) e = same key.account account e

policy-of : (account : ℕ) (policy : Option PolicyKey) → is_policy_of account policy ≡ true → IsPolicyOf account policy
policy-of account None e = tt
policy-of account (Some key) e = same key.account account e

one-at-least : (request : Request) (a : AccountRow) (n : ℕ) → n < next_by request (own_of a) → 1 ≤ a.next_snap + (a.next_vol + a.next_policy)
one-at-least (CreateVolume origin size tags token) a n h = omega (arith, h)
one-at-least request a n h = omega (arith, h)

module _ (point : Checkpoint) (rules : HasRules point) where
  abbrev own_at : ℕ → Own
  own_at q = Rattle.ebs_model.specs.Rows.own_of (rows_of (machine_of point)) q

  own-fits : (account : ℕ) (own : Own) → get (owns_of point) account ≡ Some own → IsOwn own
  unfolding owns_of
  own-fits account own e =
      let r = found_in nat_cmp (λ (a : AccountRow). a.account) own_of (filter has_own point.accounts) account own (sym (get-from_entries nat_cmp_total (map (λ (a : AccountRow). (a.account, own_of a)) (filter has_own point.accounts)) account) ∙ e) in
      let inside = within point rules in
      let counters = counters-of r.point (r.each is_account_within (filter_all is_account_within has_own point.accounts inside.accounts)) in
      let begun = less 0 (r.point.next_snap + (r.point.next_vol + r.point.next_policy)) (r.each has_own (all_kept has_own point.accounts)) in
      subst IsOwn (sym r.is) (record { snaps = counters.snaps; vols = counters.vols; policies = counters.policies; begun = begun })

  snap-owned : (key : SnapKey) (row : SnapRow) → get (rows_of (machine_of point)).snaps key ≡ Some row → IsOwnSnap (own_at key.account) key row
  snap-owned key row e =
      let r = row-found point key row e in
      let p : SnapPoint = r.point in
      let mine = owned point rules in
      let all = three (is_made (λ (a : AccountRow). a.next_snap) p.key.number (listed point.accounts p.key.account)) (is_volume_of p.key.account p.volume) (is_policy_of p.key.account p.policy) (r.each (is_owned_snapshot point.accounts) mine.snapshots) in
      let made = maker (λ (a : AccountRow). a.next_snap) p.key.number (listed point.accounts p.key.account) all.0 in
      let low = made.2 in
      let is : own_at p.key.account ≡ own_of made.0 = own-listed point p.key.account made.0 made.1 (omega (arith, low)) in
      subst (λ (k : SnapKey). IsOwnSnap (own_at k.account) k row) (sym (is_same exact_snaps key p.key r.at))
      (subst (IsOwnSnap (own_at p.key.account) p.key) (sym r.is) (record { made = subst (λ (o : Own). p.key.number < o.next_snap) (sym is) low; volume = volume-of p.key.account p.volume all.1; policy = policy-of p.key.account p.policy all.2 }))

  vol-owned : (key : VolKey) (row : VolRow) → get (rows_of (machine_of point)).vols key ≡ Some row → key.number < (own_at key.account).next_vol
  vol-owned key row e =
      let r = vol-found point key row e in
      let mine = owned point rules in
      let made = maker (λ (a : AccountRow). a.next_vol) r.point.row.key.number (listed point.accounts r.point.row.key.account) (r.each (is_owned_volume point.accounts) mine.volumes) in
      let low = made.2 in
      let is : own_at r.point.row.key.account ≡ own_of made.0 = own-listed point r.point.row.key.account made.0 made.1 (omega (arith, low)) in
      subst (λ (k : VolKey). k.number < (own_at k.account).next_vol) (sym (is_same exact_vols key r.point.row.key r.at)) (subst (λ (o : Own). r.point.row.key.number < o.next_vol) (sym is) low)

  policy-owned : (key : PolicyKey) (p : Policy) → get (rows_of (machine_of point)).policies key ≡ Some p → key.number < (own_at key.account).next_policy
  policy-owned key p e =
      let r = policy-found point key p e in
      let mine = owned point rules in
      let made = maker (λ (a : AccountRow). a.next_policy) r.point.key.number (listed point.accounts r.point.key.account) (r.each (is_owned_policy point.accounts) mine.policies) in
      let low = made.2 in
      let is : own_at r.point.key.account ≡ own_of made.0 = own-listed point r.point.key.account made.0 made.1 (omega (arith, low)) in
      subst (λ (k : PolicyKey). k.number < (own_at k.account).next_policy) (sym (is_same exact_policies key r.point.key r.at)) (subst (λ (o : Own). r.point.key.number < o.next_policy) (sym is) low)

  token-owned : (key : TokenKey) (row : TokenRow) → get (rows_of (machine_of point)).tokens key ≡ Some row → row.number < next_by row.first (own_at key.account)
  token-owned key row e =
      let r = token-found point rules key row e in
      let t : TokenPoint = r.token in
      let limits = three (is_client_token t.text) (is_moment t.at) (is_record_within t.first) r.inside in
      let told = first-uses r.account t t.first r.used limits.2 in
      let is : own_at r.account.account ≡ own_of r.account = own-listed point r.account.account r.account r.there (one-at-least (first_of t.first) r.account t.number told.2) in
      subst (λ (k : TokenKey). row.number < next_by row.first (own_at k.account)) (sym r.at)
      (subst (λ (x : TokenRow). x.number < next_by x.first (own_at r.account.account)) (sym r.is) (subst (λ (o : Own). t.number < next_by (first_of t.first) o) (sym is) told.2))

  pub owners-fit : AreOwn (rows_of (machine_of point))
  owners-fit = record { own = own-fits; snaps = snap-owned; vols = vol-owned; policies = policy-owned; tokens = token-owned }
