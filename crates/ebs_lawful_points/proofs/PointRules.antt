-- The rules that a lawful machine gives a checkpoint that says it.
use Rattle.std.proofs.Common.{◌≡◌, ℕ, ◌+◌, ◌*◌, ◌<◌, ◌≤◌, arith, Bool, true, false, not, ◌&&◌, ◌==◌, List, [], ◌∷◌, length, map, Option, Some, None, is_some, refl, sym, ap, subst, ◌∙◌}
use Rattle.std.specs.Prelude.{nat_le, nat_lt, unwrap_or}
use Rattle.std.proofs.lemmas.Bool.Decides.{nat_tests}
use Rattle.std.proofs.lemmas.List.Sums.{length-filter}
use Rattle.std.proofs.lemmas.List.{length-map}
use Rattle.std.specs.List.{list_all, filter, count_by, AllByRecursion}
use Rattle.std.specs.Ordering.{nat_cmp}
use Rattle.std.specs.Cmp.{nat_cmp_total}
use Rattle.std.specs.FinMap.{nat_cmp-IsAntisymmetric, get, entries, len, from_entries, get-from_entries}
use Rattle.ebs_tables.proofs.MapEdits.{is_same}
use Rattle.ebs_model.specs.declared.keys.SnapKey.{SnapKey}
use Rattle.ebs_model.specs.declared.keys.VolKey.{VolKey}
use Rattle.ebs_model.specs.declared.keys.PolicyKey.{PolicyKey}
use Rattle.ebs_model.specs.declared.keys.TokenKey.{TokenKey}
use Rattle.ebs_model.specs.declared.policy.Policy.{Policy}
use Rattle.ebs_model.specs.declared.rows.Own.{Own}
use Rattle.ebs_model.specs.declared.rows.SnapRow.{SnapRow}
use Rattle.ebs_model.specs.declared.rows.VolRow.{VolRow}
use Rattle.ebs_model.specs.declared.rows.TokenRow.{TokenRow}
use Rattle.ebs_model.specs.declared.rules.Rule.{Rule}
use Rattle.ebs_model.specs.declared.request.Request.{Request}
use Rattle.ebs_model.specs.declared.request.Request.TheVariants.{CreateVolume}
use Rattle.ebs_model.specs.Keys.{snap_cmp, vol_cmp, policy_cmp}
use Rattle.ebs_model.specs.inner.Orders.{snaps_total, vols_total, policies_total}
use Rattle.ebs_model.specs.Quotas.{most_open, most_kept, most_volumes, most_rules, most_policies, most_tokens, most_ids, most_changes}
use Rattle.ebs_model.specs.Time.{Snapshot, status_by, status_at, is_pending}
use Rattle.ebs_model.specs.Access.{owns}
use Rattle.ebs_model.specs.Rules.{Book, no_rules}
use Rattle.ebs_model.specs.Rows.{no_own}
use Rattle.ebs_model.specs.Machine.{rows_of, snap_rows}
use Rattle.ebs_model.proofs.RowLaws.{get-row, row_in, entries-rows}
use Rattle.ebs_checkpoints.specs.declared.owned.AccountRow.{AccountRow}
use Rattle.ebs_checkpoints.specs.declared.owned.TokenPoint.{TokenPoint}
use Rattle.ebs_checkpoints.specs.declared.owned.VolPoint.{VolPoint}
use Rattle.ebs_checkpoints.specs.declared.snapshots.SnapPoint.{SnapPoint}
use Rattle.ebs_checkpoints.specs.declared.checkpoint.Checkpoint.{Checkpoint}
use Rattle.ebs_row_rules.specs.Order.{ascends, rule_cmp, has_ordered_accounts, has_ordered_tokens, has_ordered_rows, has_ordered_blocks, has_ordered_members, has_ordered_parts, has_ordered_entries}
use Rattle.ebs_row_rules.specs.Order as order
use Rattle.ebs_row_rules.specs.Limits.{is_counter, is_account_within, is_token_within, is_snapshot_within, is_volume_within, is_rule_within, is_policy_within, has_copy_index}
use Rattle.ebs_row_rules.specs.Limits as limits
use Rattle.ebs_row_rules.specs.Counts as counts
use Rattle.ebs_row_rules.specs.Owners.{listed, is_made, is_first_use, has_used_tokens, is_owned_snapshot, is_owned_volume, is_owned_rule, is_owned_policy}
use Rattle.ebs_row_rules.specs.Owners as owners
use Rattle.ebs_node_rules.specs.Arrays.{arrays_of}
use Rattle.ebs_checkpoint_rules.proofs.Ascents.{pairwise}
use Rattle.ebs_recovery.specs.inner.Bases.{snapshot_of, snaps_of, machine_of}
use Rattle.ebs_recovery.specs.Bases.{row_of, vols_of, policies_of, has_own, own_of, owns_of, has_book, book_of, books_of, first_of, token_entry, tokens_of}
use Rattle.ebs_recovery.proofs.Bases.{found_in}
use Rattle.ebs_lawful.specs.Owners.{IsOwnSnap, next_by}
use Rattle.ebs_lawful.specs.Lawful.{IsLawful}
use Rattle.ebs_lawful.proofs.OwnRows.{HasRoom, room_of}
use Rattle.ebs_lawful.proofs.Tallies.{count_by-map, count_by-filter}
use Rattle.ebs_lawful.proofs.Tallies as tallies
use Rattle.ebs_lawful.proofs.QuotaRows.{is_open, kept-is, open-is}
use Rattle.ebs_lawful_points.specs.PointLaws.{is_its_call, has_own_calls, IsInOrder, LawsGiveRules}
use Rattle.ebs_lawful_points.proofs.Parts.{two, three, five, each-of, all-of, weaker, both, swapped}
use Rattle.ebs_lawful_points.proofs.SnapPoints.{same}
use Rattle.ebs_lawful_points.proofs.VolPoints.{filter_all}
use Rattle.ebs_lawful_points.proofs.Listed.{own-listed, book-listed, all-listed}
use Rattle.ebs_lawful_points.proofs.QuotaPoints.{none-of}
use Rattle.ebs_lawful_points.proofs.Ordered.{entries-are, each-found}
use Rattle.ebs_lawful_points.proofs.Numbered.{numbered, rules-len, rules-found}
use Rattle.ebs_lawful_points.proofs.Tokened.{flat, flat-entries, tokens-there, tokens-counted}
use Rattle.ebs_lawful_points.proofs.RowRules.{no_more-is, less-is, same-is, moment-is, snapshot-within, volume-within, rule-within, policy-within, token-within, volume_of-is, policy_of-is}

some_is : {A : Type 0} (x y : A) → ◌≡◌ {A = Option A} (Some x) (Some y) → x ≡ y
some_is x y e = cc

-- ---- counters of a listed row

is_itself : Option AccountRow → AccountRow → Bool
is_itself None x = false
is_itself (Some a) x = (a.next_snap == x.next_snap) && ((a.next_vol == x.next_vol) && ((a.next_rule == x.next_rule) && (a.next_policy == x.next_policy)))

record HasCounters (o : Option AccountRow) (x : AccountRow) : Type 0 where
  row : AccountRow
  there : o ≡ Some row
  own : own_of row ≡ own_of x
  rules : row.next_rule ≡ x.next_rule

counters-of : (o : Option AccountRow) (x : AccountRow) → is_itself o x ≡ true → HasCounters o x
unfolding is_itself
counters-of None x e = absurd (cc)
counters-of (Some a) x e =
    let one = two (a.next_snap == x.next_snap) ((a.next_vol == x.next_vol) && ((a.next_rule == x.next_rule) && (a.next_policy == x.next_policy))) e in
    let rest = three (a.next_vol == x.next_vol) (a.next_rule == x.next_rule) (a.next_policy == x.next_policy) one.1 in
    let snaps = same a.next_snap x.next_snap one.0 in
    let vols = same a.next_vol x.next_vol rest.0 in
    let policies = same a.next_policy x.next_policy rest.2 in
    record { row = a; there = refl; own = (λ i. record { next_snap = snaps i; next_vol = vols i; next_policy = policies i }); rules = same a.next_rule x.next_rule rest.1 }

itself : (a : AccountRow) (o : Option AccountRow) → o ≡ Some a → is_itself o a ≡ true
unfolding is_itself
itself a o e = ap (λ (x : Option AccountRow). is_itself x a) e ∙ (λ i. same-is a.next_snap a.next_snap refl i && (same-is a.next_vol a.next_vol refl i && (same-is a.next_rule a.next_rule refl i && same-is a.next_policy a.next_policy refl i)))

next-none : (request : Request) → next_by request no_own ≡ 0
next-none (CreateVolume origin size tags token) = refl
next-none request = refl

next-some : (request : Request) (own : Own) → next_by request own ≤ own.next_snap + (own.next_vol + own.next_policy)
next-some (CreateVolume origin size tags token) own = omega arith
next-some request own = omega arith

made-is : (next : AccountRow → ℕ) (number : ℕ) (o : Option AccountRow) (a : AccountRow) → o ≡ Some a → number < next a → is_made next number o ≡ true
made-is next number o a e low = ap (is_made next number) e ∙ less-is number (next a) low

open-pending : (completed : Bool) (end now : ℕ) → (not completed && nat_lt now end) ≡ true → is_pending (status_by completed (nat_le end now)) ≡ true
open-pending true end now e = absurd (cc)
open-pending false end now e = by (nat_le end now) refl
  where
    by : (b : Bool) → nat_le end now ≡ b → is_pending (status_by false b) ≡ true
    by true t = absurd (wrong t e)
      where
        wrong : nat_le end now ≡ true → nat_lt now end ≡ true → ⊥
        wrong t e = grind (arith, nat_tests)
    by false t = refl

turned : (a b : ℕ) → (a == b) ≡ true → (b == a) ≡ true
turned a b e = grind (arith, nat_tests)

module _ (point : Checkpoint) (given : IsInOrder point) (law : IsLawful (machine_of point)) where
  abbrev now : ℕ
  now = point.clock.second

  abbrev own_at : ℕ → Own
  own_at q = Rattle.ebs_model.specs.Rows.own_of (rows_of (machine_of point)) q

  -- ---- lists in order

  ordered : (has_ordered_rows point ≡ true) × (has_ordered_blocks point ≡ true) × (has_ordered_members point ≡ true)
  ordered = three (has_ordered_rows point) (has_ordered_blocks point) (has_ordered_members point) given.ordered

  rows-ordered : (has_ordered_accounts point.accounts ≡ true) × (ascends snap_cmp (λ (s : SnapPoint). s.key) point.snapshots ≡ true) × (ascends vol_cmp (λ (v : VolPoint). v.row.key) point.volumes ≡ true)
      × (ascends rule_cmp (λ (r : Rule). r.key) point.rules ≡ true) × (ascends policy_cmp (λ (p : Policy). p.key) point.policies ≡ true)
  rows-ordered = five (has_ordered_accounts point.accounts) (ascends snap_cmp (λ (s : SnapPoint). s.key) point.snapshots) (ascends vol_cmp (λ (v : VolPoint). v.row.key) point.volumes)
      (ascends rule_cmp (λ (r : Rule). r.key) point.rules) (ascends order.policy_cmp (λ (p : Policy). p.key) point.policies) ordered.0

  texts-ordered : list_all has_ordered_tokens point.accounts ≡ true
  texts-ordered = (three (list_all has_ordered_tokens point.accounts) (list_all has_ordered_parts point.snapshots) (list_all has_ordered_entries point.nodes) ordered.2).0

  accounts-up : AllByRecursion (λ (a : AccountRow). listed point.accounts a.account ≡ Some a) point.accounts
  accounts-up = all-listed point.accounts rows-ordered.0

  each-itself : list_all (λ (x : AccountRow). is_itself (listed point.accounts x.account) x) point.accounts ≡ true
  each-itself = all-of (λ (x : AccountRow). is_itself (listed point.accounts x.account) x) point.accounts
      (weaker (λ (a : AccountRow). listed point.accounts a.account ≡ Some a) (λ (a : AccountRow). is_itself (listed point.accounts a.account) a ≡ true) (λ a e. itself a (listed point.accounts a.account) e) point.accounts accounts-up)

  -- ---- whose counters the machine has

  record IsKnown (q : ℕ) : Type 0 where
    row : AccountRow
    there : listed point.accounts q ≡ Some row
    own : own_at q ≡ own_of row

  own-there : (q : ℕ) (own : Own) → get (owns_of point) q ≡ Some own → (a : AccountRow) × (listed point.accounts q ≡ Some a) × (own ≡ own_of a)
  unfolding owns_of
  own-there q own e =
      let r = found_in nat_cmp (λ (a : AccountRow). a.account) own_of (filter has_own point.accounts) q own (sym (get-from_entries nat_cmp_total (map (λ (a : AccountRow). (a.account, own_of a)) (filter has_own point.accounts)) q) ∙ e) in
      let c = counters-of (listed point.accounts r.point.account) r.point (r.each (λ (x : AccountRow). is_itself (listed point.accounts x.account) x) (filter_all (λ (x : AccountRow). is_itself (listed point.accounts x.account) x) has_own point.accounts each-itself)) in
      (c.row, ap (listed point.accounts) (is_same nat_cmp-IsAntisymmetric q r.point.account r.at) ∙ c.there, r.is ∙ sym c.own)

  known : (q : ℕ) → 1 ≤ (own_at q).next_snap + ((own_at q).next_vol + (own_at q).next_policy) → IsKnown q
  known q begun = by (get (owns_of point) q) refl begun
    where
      by : (o : Option Own) → get (owns_of point) q ≡ o → 1 ≤ (unwrap_or o no_own).next_snap + ((unwrap_or o no_own).next_vol + (unwrap_or o no_own).next_policy) → IsKnown q
      by None e begun = absurd (omega (arith, begun))
      by (Some own) e begun = let a = own-there q own e in record { row = a.0; there = a.1; own = ap (λ (o : Option Own). unwrap_or o no_own) e ∙ a.2 }

  -- ---- snapshots

  snaps-there : AllByRecursion (λ (p : SnapPoint). get (snap_rows (snaps_of point)) p.key ≡ Some (row_of p)) point.snapshots
  unfolding snaps_of
  snaps-there = weaker (λ (p : SnapPoint). get (snaps_of point) p.key ≡ Some (snapshot_of (arrays_of point.nodes) p)) (λ (p : SnapPoint). get (snap_rows (snaps_of point)) p.key ≡ Some (row_of p))
      (λ p e. get-row (snaps_of point) p.key ∙ ap row_in e) point.snapshots (each-found snaps_total (λ (p : SnapPoint). p.key) (snapshot_of (arrays_of point.nodes)) point.snapshots rows-ordered.1)

  snaps-within : list_all is_snapshot_within point.snapshots ≡ true
  snaps-within = all-of is_snapshot_within point.snapshots
      (weaker (λ (p : SnapPoint). (get (snap_rows (snaps_of point)) p.key ≡ Some (row_of p)) × (list_all has_copy_index p.copies ≡ true)) (λ (p : SnapPoint). is_snapshot_within p ≡ true) (λ p h. snapshot-within p h.1 (law.snaps p.key (row_of p) h.0)) point.snapshots
      (both (λ (p : SnapPoint). get (snap_rows (snaps_of point)) p.key ≡ Some (row_of p)) (λ (p : SnapPoint). list_all has_copy_index p.copies ≡ true) point.snapshots snaps-there (each-of (λ (p : SnapPoint). list_all has_copy_index p.copies) point.snapshots given.copies)))

  snap-owned : (p : SnapPoint) → IsOwnSnap (own_at p.key.account) p.key (row_of p) → is_owned_snapshot point.accounts p ≡ true
  snap-owned p h =
      let low = h.made in
      let a = known p.key.account (omega (arith, low)) in
      let made = made-is (λ (a : AccountRow). a.next_snap) p.key.number (listed point.accounts p.key.account) a.row a.there (subst (λ (o : Own). p.key.number < o.next_snap) a.own low) in
      let volume = volume_of-is p.key.account p.volume h.volume in
      let policy = policy_of-is p.key.account p.policy h.policy in
      λ i. made i && (volume i && policy i)

  snaps-owned : list_all (is_owned_snapshot point.accounts) point.snapshots ≡ true
  snaps-owned =
      let own = law.own in
      all-of (is_owned_snapshot point.accounts) point.snapshots (weaker (λ (p : SnapPoint). get (snap_rows (snaps_of point)) p.key ≡ Some (row_of p)) (λ (p : SnapPoint). is_owned_snapshot point.accounts p ≡ true)
      (λ p e. snap-owned p (own.snaps p.key (row_of p) e)) point.snapshots snaps-there)

  -- ---- volumes and policies

  vols-there : AllByRecursion (λ (v : VolPoint). get (vols_of point) v.row.key ≡ Some v.row) point.volumes
  unfolding vols_of
  vols-there = each-found vols_total (λ (v : VolPoint). v.row.key) (λ (v : VolPoint). v.row) point.volumes rows-ordered.2

  vol-rules : (v : VolPoint) → get (vols_of point) v.row.key ≡ Some v.row → (is_volume_within v ≡ true) × (is_owned_volume point.accounts v ≡ true)
  vol-rules v e =
      let own = law.own in
      let low = own.vols v.row.key v.row e in
      let a = known v.row.key.account (omega (arith, low)) in
      (volume-within v (law.vols v.row.key v.row e), made-is (λ (a : AccountRow). a.next_vol) v.row.key.number (listed point.accounts v.row.key.account) a.row a.there (subst (λ (o : Own). v.row.key.number < o.next_vol) a.own low))

  policies-there : AllByRecursion (λ (p : Policy). get (policies_of point) p.key ≡ Some p) point.policies
  unfolding policies_of
  policies-there = each-found policies_total (λ (p : Policy). p.key) (λ (p : Policy). p) point.policies rows-ordered.4

  policy-rules : (p : Policy) → get (policies_of point) p.key ≡ Some p → (is_policy_within p ≡ true) × (is_owned_policy point.accounts p ≡ true)
  policy-rules p e =
      let own = law.own in
      let low = own.policies p.key p e in
      let a = known p.key.account (omega (arith, low)) in
      (policy-within p (law.policies p.key p e), made-is (λ (a : AccountRow). a.next_policy) p.key.number (listed point.accounts p.key.account) a.row a.there (subst (λ (o : Own). p.key.number < o.next_policy) a.own low))

  -- ---- rules

  record IsShelf (q : ℕ) (b : Book) : Type 0 where
    account : AccountRow
    number : account.account ≡ q
    is : b ≡ book_of point.rules account
    row : AccountRow
    there : listed point.accounts q ≡ Some row
    next : row.next_rule ≡ b.next

  shelf : (q : ℕ) (b : Book) → get (books_of point) q ≡ Some b → IsShelf q b
  unfolding books_of
  shelf q b e =
      let r = found_in nat_cmp (λ (a : AccountRow). a.account) (book_of point.rules) (filter has_book point.accounts) q b (sym (get-from_entries nat_cmp_total (map (λ (a : AccountRow). (a.account, book_of point.rules a)) (filter has_book point.accounts)) q) ∙ e) in
      let c = counters-of (listed point.accounts r.point.account) r.point (r.each (λ (x : AccountRow). is_itself (listed point.accounts x.account) x) (filter_all (λ (x : AccountRow). is_itself (listed point.accounts x.account) x) has_book point.accounts each-itself)) in
      let number : q ≡ r.point.account = is_same nat_cmp-IsAntisymmetric q r.point.account r.at in
      record { account = r.point; number = sym number; is = r.is; row = c.row; there = ap (listed point.accounts) number ∙ c.there; next = c.rules ∙ sym (ap (λ (x : Book). x.next) r.is) }

  abbrev IsThere : Rule → Type 0
  IsThere r = (n : ℕ) → (r.key.account == n) ≡ true → get (from_entries {R = nat_cmp} (numbered n point.rules)) r.key.number ≡ Some r

  rules-there : AllByRecursion IsThere point.rules
  rules-there = swapped (λ (n : ℕ) (r : Rule). (r.key.account == n) ≡ true → get (from_entries {R = nat_cmp} (numbered n point.rules)) r.key.number ≡ Some r) point.rules (λ n. rules-found n point.rules rows-ordered.3)

  rule-rules : (r : Rule) → IsThere r → is_some (get (books_of point) r.key.account) ≡ true → (is_rule_within r ≡ true) × (is_owned_rule point.accounts r ≡ true)
  rule-rules r there has = by (get (books_of point) r.key.account) refl has
    where
      by : (o : Option Book) → get (books_of point) r.key.account ≡ o → is_some o ≡ true → (is_rule_within r ≡ true) × (is_owned_rule point.accounts r ≡ true)
      by None e has = absurd (cc)
      by (Some b) e has =
          let s = shelf r.key.account b e in
          let found : get b.rules r.key.number ≡ Some r = ap (λ (x : Book). get x.rules r.key.number) s.is ∙ there s.account.account (same-is r.key.account s.account.account (sym s.number)) in
          let book = law.books r.key.account b e in
          let low = book.numbers r.key.number r found in
          let next = s.next in
          (rule-within r.key.account r.key.number r (book.rules r.key.number r found), made-is (λ (a : AccountRow). a.next_rule) r.key.number (listed point.accounts r.key.account) s.row s.there (omega (arith, low, next)))

  each-rule : AllByRecursion (λ (r : Rule). (is_rule_within r ≡ true) × (is_owned_rule point.accounts r ≡ true)) point.rules
  each-rule = weaker (λ (r : Rule). IsThere r × (is_some (get (books_of point) r.key.account) ≡ true)) (λ (r : Rule). (is_rule_within r ≡ true) × (is_owned_rule point.accounts r ≡ true)) (λ r h. rule-rules r h.0 h.1) point.rules
      (both IsThere (λ (r : Rule). is_some (get (books_of point) r.key.account) ≡ true) point.rules rules-there (each-of (λ (r : Rule). is_some (get (books_of point) r.key.account)) point.rules given.books))

  -- ---- tokens

  abbrev TokenIsThere : AccountRow → TokenPoint → Type 0
  TokenIsThere a t = get (tokens_of point) (token_entry a.account t).0 ≡ Some (token_entry a.account t).1

  all-tokens : AllByRecursion (λ (a : AccountRow). AllByRecursion (TokenIsThere a) a.tokens) point.accounts
  unfolding tokens_of
  all-tokens = tokens-there point.accounts (pairwise (λ (a : AccountRow). a.account) point.accounts rows-ordered.0) texts-ordered

  token-rules : (a : AccountRow) → listed point.accounts a.account ≡ Some a → (t : TokenPoint) → TokenIsThere a t → is_its_call a t t.first ≡ true → (is_token_within t ≡ true) × (is_first_use a t t.first ≡ true)
  token-rules a is t there its =
      let own = law.own in
      let low = own.tokens (token_entry a.account t).0 (token_entry a.account t).1 there in
      let most = next-some (first_of t.first) (own_at a.account) in
      let k = known a.account (omega (arith, low, most)) in
      let row : k.row ≡ a = some_is k.row a (sym k.there ∙ is) in
      token-within a t its (law.tokens (token_entry a.account t).0 (token_entry a.account t).1 there) (subst (λ (o : Own). t.number < next_by (first_of t.first) o) (k.own ∙ ap own_of row) low)

  record HasTokenRules (a : AccountRow) : Type 0 where
    within : list_all is_token_within a.tokens ≡ true
    used : has_used_tokens a ≡ true

  tokens-of : (a : AccountRow) → listed point.accounts a.account ≡ Some a → AllByRecursion (TokenIsThere a) a.tokens → has_own_calls a ≡ true → HasTokenRules a
  tokens-of a is there its =
      let all = weaker (λ (t : TokenPoint). TokenIsThere a t × (is_its_call a t t.first ≡ true)) (λ (t : TokenPoint). (is_token_within t ≡ true) × (is_first_use a t t.first ≡ true)) (λ t h. token-rules a is t h.0 h.1) a.tokens
      (both (TokenIsThere a) (λ (t : TokenPoint). is_its_call a t t.first ≡ true) a.tokens there (each-of (λ (t : TokenPoint). is_its_call a t t.first) a.tokens its)) in
      record {
        within = all-of is_token_within a.tokens (weaker (λ (t : TokenPoint). (is_token_within t ≡ true) × (is_first_use a t t.first ≡ true)) (λ (t : TokenPoint). is_token_within t ≡ true) (λ t h. h.0) a.tokens all);
        used = all-of (λ (t : TokenPoint). is_first_use a t t.first) a.tokens (weaker (λ (t : TokenPoint). (is_token_within t ≡ true) × (is_first_use a t t.first ≡ true)) (λ (t : TokenPoint). is_first_use a t t.first ≡ true) (λ t h. h.1) a.tokens all);
      }

  -- ---- accounts

  counter-small : (a : AccountRow) → listed point.accounts a.account ≡ Some a → (a.next_snap ≤ most_ids) × (a.next_vol ≤ most_ids) × (a.next_policy ≤ most_ids)
  counter-small a is = by (nat_le 1 (a.next_snap + (a.next_vol + a.next_policy))) refl
    where
      some : nat_le 1 (a.next_snap + (a.next_vol + a.next_policy)) ≡ true → 1 ≤ a.next_snap + (a.next_vol + a.next_policy)
      some e = grind (arith, nat_tests)

      none : nat_le 1 (a.next_snap + (a.next_vol + a.next_policy)) ≡ false → a.next_snap + (a.next_vol + a.next_policy) < 1
      none e = grind (arith, nat_tests)

      by : (b : Bool) → nat_le 1 (a.next_snap + (a.next_vol + a.next_policy)) ≡ b → (a.next_snap ≤ most_ids) × (a.next_vol ≤ most_ids) × (a.next_policy ≤ most_ids)
      by true e =
          let own = law.own in
          let room = subst HasRoom (own-listed point a.account a is (some e)) (room_of (get (owns_of point) a.account) (λ o h. own.own a.account o h)) in
          (room.snaps, room.vols, room.policies)
      by false e = let few = none e in (omega (arith, few), omega (arith, few), omega (arith, few))

  rules-small : (a : AccountRow) → listed point.accounts a.account ≡ Some a → a.next_rule ≤ most_ids
  rules-small a is = by (nat_le 1 a.next_rule) refl
    where
      some : nat_le 1 a.next_rule ≡ true → 1 ≤ a.next_rule
      some e = grind (arith, nat_tests)

      none : nat_le 1 a.next_rule ≡ false → a.next_rule < 1
      none e = grind (arith, nat_tests)

      by : (b : Bool) → nat_le 1 a.next_rule ≡ b → a.next_rule ≤ most_ids
      by true e = let book = law.books a.account (book_of point.rules a) (book-listed point a.account a is (some e)) in book.next
      by false e = let few = none e in omega (arith, few)

  tokens-few : (a : AccountRow) → length a.tokens ≤ count_by (λ (e : TokenKey × TokenRow). a.account == e.0.account) (flat point.accounts) → length a.tokens ≤ most_tokens
  unfolding tokens_of
  tokens-few a few =
      let quotas = law.quotas a.account in
      let most = quotas.tokens in
      let is : count_by (λ (e : TokenKey × TokenRow). a.account == e.0.account) (entries (tokens_of point)) ≡ count_by (λ (e : TokenKey × TokenRow). a.account == e.0.account) (flat point.accounts) =
      ap (count_by (λ (e : TokenKey × TokenRow). a.account == e.0.account)) (flat-entries point.accounts (pairwise (λ (a : AccountRow). a.account) point.accounts rows-ordered.0) texts-ordered) in
      omega (arith, few, most, is)

  account-within : (a : AccountRow) → listed point.accounts a.account ≡ Some a → HasTokenRules a → length a.tokens ≤ count_by (λ (e : TokenKey × TokenRow). a.account == e.0.account) (flat point.accounts) → is_account_within a ≡ true
  account-within a is tokens few =
      let small = counter-small a is in
      let snaps = no_more-is a.next_snap most_ids small.0 in
      let vols = no_more-is a.next_vol most_ids small.1 in
      let policies = no_more-is a.next_policy most_ids small.2 in
      let rules = no_more-is a.next_rule most_ids (rules-small a is) in
      let most = no_more-is (length a.tokens) most_tokens (tokens-few a few) in
      let within = tokens.within in
      λ i. snaps i && (vols i && (rules i && (policies i && (most i && within i))))

  abbrev IsGiven : AccountRow → Type 0
  IsGiven a = (listed point.accounts a.account ≡ Some a) × HasTokenRules a

  each-given : AllByRecursion IsGiven point.accounts
  each-given = weaker (λ (a : AccountRow). (listed point.accounts a.account ≡ Some a) × (AllByRecursion (TokenIsThere a) a.tokens × (has_own_calls a ≡ true))) IsGiven (λ a h. (h.0, tokens-of a h.0 h.1.0 h.1.1)) point.accounts
      (both (λ (a : AccountRow). listed point.accounts a.account ≡ Some a) (λ (a : AccountRow). AllByRecursion (TokenIsThere a) a.tokens × (has_own_calls a ≡ true)) point.accounts accounts-up
      (both (λ (a : AccountRow). AllByRecursion (TokenIsThere a) a.tokens) (λ (a : AccountRow). has_own_calls a ≡ true) point.accounts all-tokens (each-of has_own_calls point.accounts given.calls)))

  accounts-within : list_all is_account_within point.accounts ≡ true
  accounts-within = all-of is_account_within point.accounts
      (weaker (λ (a : AccountRow). IsGiven a × (length a.tokens ≤ count_by (λ (e : TokenKey × TokenRow). a.account == e.0.account) (flat point.accounts))) (λ (a : AccountRow). is_account_within a ≡ true) (λ a h. account-within a h.0.0 h.0.1 h.1) point.accounts
      (both IsGiven (λ (a : AccountRow). length a.tokens ≤ count_by (λ (e : TokenKey × TokenRow). a.account == e.0.account) (flat point.accounts)) point.accounts each-given (tokens-counted point.accounts)))

  tokens-used : list_all has_used_tokens point.accounts ≡ true
  tokens-used = all-of has_used_tokens point.accounts (weaker IsGiven (λ (a : AccountRow). has_used_tokens a ≡ true) (λ a h. let tokens = h.1 in tokens.used) point.accounts each-given)

  -- ---- quotas

  snaps-counted : (test : SnapKey × SnapRow → Bool) → count_by test (entries (snap_rows (snaps_of point))) ≡ count_by (λ (p : SnapPoint). test (p.key, row_of p)) point.snapshots
  unfolding snaps_of
  snaps-counted test =
      ap (count_by test) (entries-rows (snaps_of point)) ∙ count_by-map test (λ (e : SnapKey × Snapshot). (e.0, e.1.row)) (entries (snaps_of point))
      ∙ ap (count_by (λ (e : SnapKey × Snapshot). test (e.0, e.1.row))) (entries-are snaps_total (λ (p : SnapPoint). p.key) (snapshot_of (arrays_of point.nodes)) point.snapshots rows-ordered.1)
      ∙ count_by-map (λ (e : SnapKey × Snapshot). test (e.0, e.1.row)) (λ (p : SnapPoint). (p.key, snapshot_of (arrays_of point.nodes) p)) point.snapshots

  vols-counted : (q : ℕ) → count_by (λ (e : VolKey × VolRow). q == e.0.account) (entries (vols_of point)) ≡ count_by (λ (v : VolPoint). q == v.row.key.account) point.volumes
  unfolding vols_of
  vols-counted q =
      ap (count_by (λ (e : VolKey × VolRow). q == e.0.account)) (entries-are vols_total (λ (v : VolPoint). v.row.key) (λ (v : VolPoint). v.row) point.volumes rows-ordered.2)
      ∙ count_by-map (λ (e : VolKey × VolRow). q == e.0.account) (λ (v : VolPoint). (v.row.key, v.row)) point.volumes

  policies-counted : (q : ℕ) → count_by (λ (e : PolicyKey × Policy). q == e.0.account) (entries (policies_of point)) ≡ count_by (λ (p : Policy). q == p.key.account) point.policies
  unfolding policies_of
  policies-counted q =
      ap (count_by (λ (e : PolicyKey × Policy). q == e.0.account)) (entries-are policies_total (λ (p : Policy). p.key) (λ (p : Policy). p) point.policies rows-ordered.4)
      ∙ count_by-map (λ (e : PolicyKey × Policy). q == e.0.account) (λ (p : Policy). (p.key, p)) point.policies

  -- rows of an account are as many as are counted for it
  listed-few : {X : Type 0} (owner : X → ℕ) (q most : ℕ) (xs : List X) → count_by (λ x. q == owner x) xs ≤ most → nat_le (length (counts.rows_of owner q xs)) most ≡ true
  listed-few owner q most xs few =
      let is = length-filter (λ x. owner x == q) xs in
      let less = tallies.weaker (λ x. owner x == q) (λ x. q == owner x) (λ x e. turned (owner x) q e) xs in
      no_more-is (length (counts.rows_of owner q xs)) most (omega (arith, few, is, less))

  rules-few : (q : ℕ) → nat_le (length (counts.rules_of q point.rules)) most_rules ≡ true
  rules-few q = no_more-is (length (counts.rules_of q point.rules)) most_rules (by (get (books_of point) q) refl (let quotas = law.quotas q in quotas.rules))
    where
      by : (o : Option Book) → get (books_of point) q ≡ o → len (unwrap_or o (no_rules 0)).rules ≤ most_rules → length (counts.rules_of q point.rules) ≤ most_rules
      by None e few =
          let none = none-of (λ (r : Rule). is_some (get (books_of point) r.key.account)) (λ (r : Rule). r.key.account == q) most_rules
          (λ r has t. never (sym (ap is_some (ap (get (books_of point)) (same r.key.account q t) ∙ e)) ∙ has)) point.rules given.books in
          let is = length-filter (λ (r : Rule). r.key.account == q) point.rules in
          omega (arith, none, is)
        where
          never : false ≡ true → ⊥
          never e = cc
      by (Some b) e few =
          let s = shelf q b e in
          let made : len (book_of point.rules s.account).rules ≤ most_rules = subst (λ (x : Book). len x.rules ≤ most_rules) s.is few in
          let long = rules-len s.account.account point.rules rows-ordered.3 in
          let as_long = length-map {B = ℕ × Rule} (filter (λ (r : Rule). r.key.account == s.account.account) point.rules) (λ (r : Rule). (r.key.number, r)) in
          let rest : length (counts.rules_of s.account.account point.rules) ≤ most_rules = omega (arith, made, long, as_long) in
          subst (λ (n : ℕ). length (counts.rules_of n point.rules) ≤ most_rules) s.number rest

  uploads-few : (q : ℕ) → nat_le (count_by (counts.is_open point.clock) (counts.snapshots_of q point.snapshots)) most_open ≡ true
  uploads-few q =
      let quotas = law.quotas q in
      let most = quotas.uploads in
      let a = open-is (rows_of (machine_of point)) q now in
      let b = snaps-counted (is_open q now) in
      let c = count_by-filter (counts.is_open point.clock) (λ (p : SnapPoint). p.key.account == q) point.snapshots in
      let less = tallies.weaker (λ (p : SnapPoint). (p.key.account == q) && counts.is_open point.clock p) (λ (p : SnapPoint). owns q p.key && is_pending (status_at (row_of p) now))
      (λ p e. let parts = two (p.key.account == q) (counts.is_open point.clock p) e in (λ i. turned p.key.account q parts.0 i && open-pending p.completed (p.last.second + 60 * p.timeout) now parts.1 i)) point.snapshots in
      no_more-is (count_by (counts.is_open point.clock) (counts.snapshots_of q point.snapshots)) most_open (omega (arith, most, a, b, c, less))

  in-quotas : (a : AccountRow) → counts.has_quotas point a ≡ true
  in-quotas a =
      let quotas = law.quotas a.account in
      let most-kept = quotas.kept in
      let most-volumes = quotas.volumes in
      let most-policies = quotas.policies in
      let k = kept-is (rows_of (machine_of point)) a.account in
      let l = snaps-counted (λ (e : SnapKey × SnapRow). owns a.account e.0) in
      let v = vols-counted a.account in
      let p = policies-counted a.account in
      let kept = listed-few (λ (s : SnapPoint). s.key.account) a.account most_kept point.snapshots (omega (arith, most-kept, k, l)) in
      let uploads = uploads-few a.account in
      let volumes = listed-few (λ (x : VolPoint). x.row.key.account) a.account most_volumes point.volumes (omega (arith, most-volumes, v)) in
      let rules = rules-few a.account in
      let policies = listed-few (λ (x : Policy). x.key.account) a.account most_policies point.policies (omega (arith, most-policies, p)) in
      λ i. (kept i && uploads i) && (volumes i && (rules i && policies i))

  all-in-quotas : (accounts : List AccountRow) → list_all (counts.has_quotas point) accounts ≡ true
  all-in-quotas [] = refl
  all-in-quotas (a ∷ accounts) = λ i. in-quotas a i && all-in-quotas accounts i

  -- ---- all of them

  vols-all : AllByRecursion (λ (v : VolPoint). (is_volume_within v ≡ true) × (is_owned_volume point.accounts v ≡ true)) point.volumes
  vols-all = weaker (λ (v : VolPoint). get (vols_of point) v.row.key ≡ Some v.row) (λ (v : VolPoint). (is_volume_within v ≡ true) × (is_owned_volume point.accounts v ≡ true)) vol-rules point.volumes vols-there

  policies-all : AllByRecursion (λ (p : Policy). (is_policy_within p ≡ true) × (is_owned_policy point.accounts p ≡ true)) point.policies
  policies-all = weaker (λ (p : Policy). get (policies_of point) p.key ≡ Some p) (λ (p : Policy). (is_policy_within p ≡ true) × (is_owned_policy point.accounts p ≡ true)) policy-rules point.policies policies-there

  is-within : limits.is_within point ≡ true
  is-within =
      let head = law.counts in
      let clock = moment-is point.clock head.clock in
      let accepted = no_more-is point.accepted most_changes head.changes in
      let vols = all-of is_volume_within point.volumes (weaker (λ (v : VolPoint). (is_volume_within v ≡ true) × (is_owned_volume point.accounts v ≡ true)) (λ (v : VolPoint). is_volume_within v ≡ true) (λ v h. h.0) point.volumes vols-all) in
      let rules = all-of is_rule_within point.rules (weaker (λ (r : Rule). (is_rule_within r ≡ true) × (is_owned_rule point.accounts r ≡ true)) (λ (r : Rule). is_rule_within r ≡ true) (λ r h. h.0) point.rules each-rule) in
      let policies = all-of is_policy_within point.policies (weaker (λ (p : Policy). (is_policy_within p ≡ true) × (is_owned_policy point.accounts p ≡ true)) (λ (p : Policy). is_policy_within p ≡ true) (λ p h. h.0) point.policies policies-all) in
      let nodes = given.nodes in
      λ i. clock i && (accepted i && (accounts-within i && (snaps-within i && (vols i && (rules i && (policies i && nodes i))))))

  is-owned : owners.is_owned point ≡ true
  is-owned =
      let vols = all-of (is_owned_volume point.accounts) point.volumes (weaker (λ (v : VolPoint). (is_volume_within v ≡ true) × (is_owned_volume point.accounts v ≡ true)) (λ (v : VolPoint). is_owned_volume point.accounts v ≡ true) (λ v h. h.1) point.volumes vols-all) in
      let rules = all-of (is_owned_rule point.accounts) point.rules (weaker (λ (r : Rule). (is_rule_within r ≡ true) × (is_owned_rule point.accounts r ≡ true)) (λ (r : Rule). is_owned_rule point.accounts r ≡ true) (λ r h. h.1) point.rules each-rule) in
      let policies = all-of (is_owned_policy point.accounts) point.policies (weaker (λ (p : Policy). (is_policy_within p ≡ true) × (is_owned_policy point.accounts p ≡ true)) (λ (p : Policy). is_owned_policy point.accounts p ≡ true) (λ p h. h.1) point.policies policies-all) in
      λ i. snaps-owned i && (vols i && (rules i && (policies i && tokens-used i)))

pub laws-give-rules : LawsGiveRules
laws-give-rules point given law = (is-within point given law, is-owned point given law, all-in-quotas point given law point.accounts)
