-- No account of a checkpoint has more of a kind than it may have.
use Rattle.std.proofs.Common.{◌≡◌, ℕ, ◌+◌, ◌*◌, ◌≤◌, arith, Bool, true, false, cond, not, ◌&&◌, ◌==◌, List, [], ◌∷◌, ◌++◌, length, map, Option, Some, None, refl, sym, ap, subst, ◌∙◌}
use Rattle.std.specs.Prelude.{nat_le, nat_lt, flat_map, unwrap_or}
use Rattle.std.proofs.lemmas.Bool.Decides.{nat_tests}
use Rattle.std.proofs.lemmas.List.Sums.{length-filter, count_by-le-length, sum_by-cons, sum_by-append}
use Rattle.std.proofs.lemmas.List.{length-map}
use Rattle.std.specs.List.{list_all, filter, count_by}
use Rattle.std.specs.Ordering.{nat_cmp}
use Rattle.std.specs.Cmp.{nat_cmp_total}
use Rattle.std.specs.FinMap.{nat_cmp-IsAntisymmetric, get, entries, len, len-entries, len-empty, from_entries}
use Rattle.ebs_model.specs.declared.keys.SnapKey.{SnapKey}
use Rattle.ebs_model.specs.declared.keys.VolKey.{VolKey}
use Rattle.ebs_model.specs.declared.keys.PolicyKey.{PolicyKey}
use Rattle.ebs_model.specs.declared.keys.TokenKey.{TokenKey}
use Rattle.ebs_model.specs.declared.policy.Policy.{Policy}
use Rattle.ebs_model.specs.declared.rows.SnapRow.{SnapRow}
use Rattle.ebs_model.specs.declared.rows.VolRow.{VolRow}
use Rattle.ebs_model.specs.declared.rows.TokenRow.{TokenRow}
use Rattle.ebs_model.specs.declared.rules.Rule.{Rule}
use Rattle.ebs_model.specs.inner.Orders.{snaps_total, exact_snaps, vols_total, exact_vols, policies_total, exact_policies, tokens_total, exact_tokens}
use Rattle.ebs_model.specs.Quotas.{most_open, most_kept, most_volumes, most_rules, most_policies, most_tokens}
use Rattle.ebs_model.specs.Time.{Snapshot, status_at, status_by, is_pending}
use Rattle.ebs_model.specs.Access.{owns}
use Rattle.ebs_model.specs.Rules.{Book, no_rules}
use Rattle.ebs_model.specs.Machine.{rows_of, snap_rows}
use Rattle.ebs_model.proofs.RowLaws.{entries-rows}
use Rattle.ebs_checkpoints.specs.declared.owned.AccountRow.{AccountRow}
use Rattle.ebs_checkpoints.specs.declared.owned.TokenPoint.{TokenPoint}
use Rattle.ebs_checkpoints.specs.declared.owned.VolPoint.{VolPoint}
use Rattle.ebs_checkpoints.specs.declared.snapshots.SnapPoint.{SnapPoint}
use Rattle.ebs_checkpoints.specs.declared.checkpoint.Checkpoint.{Checkpoint}
use Rattle.ebs_row_rules.specs.Limits.{is_account_within, is_token_within}
use Rattle.ebs_row_rules.specs.Counts as counts
use Rattle.ebs_row_rules.specs.Owners.{listed, is_made, is_volume_of, is_policy_of, is_owned_snapshot, is_owned_volume, is_owned_policy}
use Rattle.ebs_node_rules.specs.Arrays.{arrays_of}
use Rattle.ebs_node_rules.specs.inner.Nodes as pairs
use Rattle.ebs_checkpoint_rules.specs.Rules.{HasRules}
use Rattle.ebs_checkpoint_rules.proofs.Ascents.{pairwise}
use Rattle.ebs_recovery.specs.inner.Bases.{snapshot_of, snaps_of, machine_of}
use Rattle.ebs_recovery.specs.Bases.{row_of, vols_of, policies_of, tokens_of, token_entry, has_book, book_of, books_of}
use Rattle.ebs_lawful.specs.Quotas.{IsInQuotas, AreInQuotas}
use Rattle.ebs_lawful.proofs.Tallies.{seen-fewer, weaker, count_by-map, count_by-filter}
use Rattle.ebs_lawful.proofs.QuotaRows.{is_open, kept-is, open-is}
use Rattle.ebs_lawful_points.proofs.Parts.{two, three, four}
use Rattle.ebs_lawful_points.proofs.Taken.{within, owned, accounts-ordered}
use Rattle.ebs_lawful_points.proofs.SnapPoints.{no_more, same}
use Rattle.ebs_lawful_points.proofs.VolPoints.{filter_all, counters-of, book-found}
use Rattle.ebs_lawful_points.proofs.Listed.{maker}

-- ---- of a listed account

some_is : {A : Type 0} (x y : A) → Some x ≡ Some y → x ≡ y
some_is x y e = cc

none_some : {A : Type 0} {B : Type 0} {x : A} → ◌≡◌ {A = Option A} None (Some x) → B
none_some e = absurd (cc)

number_is : (a b : ℕ) → a ≡ b → (a == b) ≡ true
number_is a b e = grind (arith, nat_tests)

turned : (a b c : ℕ) → b ≡ a → (a == c) ≡ true → (c == b) ≡ true
turned a b c e h = grind (arith, nat_tests)

-- it passes what all pass, and has this number
listed-test : (test : AccountRow → Bool) (accounts : List AccountRow) (q : ℕ) (a : AccountRow) → listed accounts q ≡ Some a → list_all test accounts ≡ true → (test a ≡ true) × (a.account ≡ q)
listed-test test [] q a e all = none_some e
listed-test test (x ∷ xs) q a e all = by (x.account == q) refl (λ h. listed-test test xs q a h (two (test x) (list_all test xs) all).1) e
  where
    by : (b : Bool) → (x.account == q) ≡ b → (listed xs q ≡ Some a → (test a ≡ true) × (a.account ≡ q)) → cond b (Some x) (listed xs q) ≡ Some a → (test a ≡ true) × (a.account ≡ q)
    by true t again h =
        let is : x ≡ a = some_is x a h in
        (ap test (sym is) ∙ (two (test x) (list_all test xs) all).0, ap (λ (y : AccountRow). y.account) (sym is) ∙ same x.account q t)
    by false t again h = again h

-- where each that passes would be of a listed account, and this one isn't listed, none passes
pub none-of : {X : Type 0} (mine test : X → Bool) (most : ℕ) → ((x : X) → mine x ≡ true → test x ≡ true → ⊥) → (xs : List X) → list_all mine xs ≡ true → count_by test xs ≤ most
none-of mine test most h [] all = omega arith
none-of mine test most h (x ∷ xs) all =
    let both = two (mine x) (list_all mine xs) all in
    let rest = none-of mine test most h xs both.1 in
    let is = sum_by-cons (λ y. cond (test y) 1 0) x xs in
    let first : cond (test x) 1 0 ≤ 0 = by (test x) refl both.0 in
    omega (arith, rest, is, first)
  where
    by : (b : Bool) → test x ≡ b → mine x ≡ true → cond b 1 0 ≤ 0
    by true t m = absurd (h x m t)
    by false t m = omega arith

at_most : (a b c : ℕ) → a ≤ b → b ≤ c → a ≤ c
at_most a b c h g = omega (arith, h, g)

-- rows by their owners
module _ {X : Type 0} (owner : X → ℕ) (accounts : List AccountRow) (mine : X → Bool) (xs : List X) (most : ℕ) (all : list_all mine xs ≡ true) (of : (x : X) → mine x ≡ true → (a : AccountRow) × (listed accounts (owner x) ≡ Some a)) where
  counted-of : (q : ℕ) (more : X → Bool) → ((a : AccountRow) → listed accounts q ≡ Some a → count_by (λ x. (owner x == a.account) && more x) xs ≤ most) → (numbers : (a : AccountRow) → listed accounts q ≡ Some a → a.account ≡ q)
      → count_by (λ x. (q == owner x) && more x) xs ≤ most
  counted-of q more few numbers = by (listed accounts q) refl
    where
      and-true : (a b c : Bool) → (a ≡ true → c ≡ true) → (a && b) ≡ true → (c && b) ≡ true
      and-true a b c h e = let parts = two a b e in rw (h parts.0, parts.1) refl

      unlisted : listed accounts q ≡ None → (x : X) → mine x ≡ true → ((q == owner x) && more x) ≡ true → ⊥
      unlisted none x m t = let a = of x m in none_some (sym none ∙ ap (listed accounts) (same q (owner x) (two (q == owner x) (more x) t).0) ∙ a.1)

      by : (o : Option AccountRow) → listed accounts q ≡ o → count_by (λ x. (q == owner x) && more x) xs ≤ most
      by None none = none-of mine (λ x. (q == owner x) && more x) most (unlisted none) xs all
      by (Some a) is = at_most _ _ _ (weaker (λ x. (q == owner x) && more x) (λ x. (owner x == a.account) && more x)
          (λ x t. and-true (q == owner x) (more x) (owner x == a.account) (turned q a.account (owner x) (numbers a is)) t) xs) (few a is)

always : {X : Type 0} (test : X → Bool) (xs : List X) → count_by (λ x. test x && true) xs ≡ count_by test xs
always test xs = λ i. count_by (λ x. and-true (test x) i) xs
  where
    and-true : (b : Bool) → (b && true) ≡ b
    and-true true = refl
    and-true false = refl

pending-open : (completed : Bool) (end now : ℕ) → is_pending (status_by completed (nat_le end now)) ≡ true → (not completed && nat_lt now end) ≡ true
pending-open true end now e = absurd (cc)
pending-open false end now e = by (nat_le end now) refl e
  where
    by : (b : Bool) → nat_le end now ≡ b → is_pending (status_by false b) ≡ true → nat_lt now end ≡ true
    by true t e = absurd (cc)
    by false t e = grind (arith, nat_tests)

module _ (point : Checkpoint) (rules : HasRules point) (q : ℕ) where
  abbrev now : ℕ
  now = point.clock.second

  snap-listed : (p : SnapPoint) → is_owned_snapshot point.accounts p ≡ true → (a : AccountRow) × (listed point.accounts p.key.account ≡ Some a)
  snap-listed p e =
      let all = three (is_made (λ (a : AccountRow). a.next_snap) p.key.number (listed point.accounts p.key.account)) (is_volume_of p.key.account p.volume) (is_policy_of p.key.account p.policy) e in
      let made = maker (λ (a : AccountRow). a.next_snap) p.key.number (listed point.accounts p.key.account) all.0 in (made.0, made.1)

  vol-listed : (v : VolPoint) → is_owned_volume point.accounts v ≡ true → (a : AccountRow) × (listed point.accounts v.row.key.account ≡ Some a)
  vol-listed v e = let made = maker (λ (a : AccountRow). a.next_vol) v.row.key.number (listed point.accounts v.row.key.account) e in (made.0, made.1)

  policy-listed : (p : Policy) → is_owned_policy point.accounts p ≡ true → (a : AccountRow) × (listed point.accounts p.key.account ≡ Some a)
  policy-listed p e = let made = maker (λ (a : AccountRow). a.next_policy) p.key.number (listed point.accounts p.key.account) e in (made.0, made.1)

  number-of : (a : AccountRow) → listed point.accounts q ≡ Some a → a.account ≡ q
  number-of a e = (listed-test (counts.has_quotas point) point.accounts q a e rules.in_quotas).1

  -- the quotas of a listed account
  quotas-of : (a : AccountRow) → counts.has_quotas point a ≡ true → (nat_le (length (counts.snapshots_of a.account point.snapshots)) most_kept ≡ true) × (nat_le (count_by (counts.is_open point.clock) (counts.snapshots_of a.account point.snapshots)) most_open ≡ true)
      × (counts.has_few_volumes point a.account ≡ true) × (counts.has_few_rules point a.account ≡ true) × (counts.has_few_policies point a.account ≡ true)
  quotas-of a e =
      let all = four (counts.has_few_snapshots point.clock (counts.snapshots_of a.account point.snapshots)) (counts.has_few_volumes point a.account) (counts.has_few_rules point a.account) (counts.has_few_policies point a.account) e in
      let snaps = two (nat_le (length (counts.snapshots_of a.account point.snapshots)) most_kept) (nat_le (count_by (counts.is_open point.clock) (counts.snapshots_of a.account point.snapshots)) most_open) all.0 in
      (snaps.0, snaps.1, all.1, all.2, all.3)

  has-quotas : (a : AccountRow) → listed point.accounts q ≡ Some a → counts.has_quotas point a ≡ true
  has-quotas a e = (listed-test (counts.has_quotas point) point.accounts q a e rules.in_quotas).0

  -- ---- snapshots

  seen-snaps : (test : SnapKey × SnapRow → Bool) → count_by test (entries (snap_rows (snaps_of point))) ≤ count_by (λ (p : SnapPoint). test (p.key, row_of p)) point.snapshots
  unfolding snaps_of
  seen-snaps test =
      let es : List (SnapKey × Snapshot) = map (λ (p : SnapPoint). (p.key, snapshot_of (arrays_of point.nodes) p)) point.snapshots in
      let few = seen-fewer snaps_total exact_snaps (λ (e : SnapKey × Snapshot). test (e.0, e.1.row)) es in
      let a : count_by test (entries (snap_rows (snaps_of point))) ≡ count_by (λ (e : SnapKey × Snapshot). test (e.0, e.1.row)) (entries (snaps_of point)) =
      ap (count_by test) (entries-rows (snaps_of point)) ∙ count_by-map test (λ (e : SnapKey × Snapshot). (e.0, e.1.row)) (entries (snaps_of point)) in
      let b = count_by-map (λ (e : SnapKey × Snapshot). test (e.0, e.1.row)) (λ (p : SnapPoint). (p.key, snapshot_of (arrays_of point.nodes) p)) point.snapshots in
      omega (arith, few, a, b)

  kept-few : count_by (λ (p : SnapPoint). owns q p.key) point.snapshots ≤ most_kept
  kept-few =
      let mine = owned point rules in
      let few = counted-of (λ (p : SnapPoint). p.key.account) point.accounts (is_owned_snapshot point.accounts) point.snapshots most_kept mine.snapshots snap-listed q (λ p. true)
      (λ a e.
      let room = no_more _ most_kept (quotas-of a (has-quotas a e)).0 in
      let is = length-filter (λ (p : SnapPoint). p.key.account == a.account) point.snapshots in
      let all = always (λ (p : SnapPoint). p.key.account == a.account) point.snapshots in
      omega (arith, room, is, all)) number-of in
      let all = always (λ (p : SnapPoint). q == p.key.account) point.snapshots in
      omega (arith, few, all)

  abbrev opens : SnapPoint → Bool
  opens p = is_pending (status_at (row_of p) now)

  open-few : count_by (λ (p : SnapPoint). owns q p.key && is_pending (status_at (row_of p) now)) point.snapshots ≤ most_open
  open-few =
      let mine = owned point rules in
      counted-of (λ (p : SnapPoint). p.key.account) point.accounts (is_owned_snapshot point.accounts) point.snapshots most_open mine.snapshots snap-listed q (λ (p : SnapPoint). is_pending (status_at (row_of p) now))
      (λ a e.
      let room = no_more _ most_open (quotas-of a (has-quotas a e)).1 in
      let is = count_by-filter (counts.is_open point.clock) (λ (p : SnapPoint). p.key.account == a.account) point.snapshots in
      let more = weaker (λ (p : SnapPoint). (p.key.account == a.account) && is_pending (status_at (row_of p) now)) (λ (p : SnapPoint). (p.key.account == a.account) && counts.is_open point.clock p)
      (λ p t. let parts = two (p.key.account == a.account) (is_pending (status_at (row_of p) now)) t in (λ i. parts.0 i && pending-open p.completed (p.last.second + 60 * p.timeout) now parts.1 i)) point.snapshots in
      omega (arith, room, is, more)) number-of

  -- ---- volumes and policies

  vols-few : count_by (λ (e : VolKey × VolRow). q == e.0.account) (entries (vols_of point)) ≤ most_volumes
  unfolding vols_of
  vols-few =
      let mine = owned point rules in
      let es : List (VolKey × VolRow) = map (λ (v : VolPoint). (v.row.key, v.row)) point.volumes in
      let seen = seen-fewer vols_total exact_vols (λ (e : VolKey × VolRow). q == e.0.account) es in
      let is = count_by-map (λ (e : VolKey × VolRow). q == e.0.account) (λ (v : VolPoint). (v.row.key, v.row)) point.volumes in
      let few = counted-of (λ (v : VolPoint). v.row.key.account) point.accounts (is_owned_volume point.accounts) point.volumes most_volumes mine.volumes vol-listed q (λ v. true)
      (λ a e.
      let room = no_more _ most_volumes (quotas-of a (has-quotas a e)).2 in
      let is = length-filter (λ (v : VolPoint). v.row.key.account == a.account) point.volumes in
      let all = always (λ (v : VolPoint). v.row.key.account == a.account) point.volumes in
      omega (arith, room, is, all)) number-of in
      let all = always (λ (v : VolPoint). q == v.row.key.account) point.volumes in
      omega (arith, seen, is, few, all)

  policies-few : count_by (λ (e : PolicyKey × Policy). q == e.0.account) (entries (policies_of point)) ≤ most_policies
  unfolding policies_of
  policies-few =
      let mine = owned point rules in
      let es : List (PolicyKey × Policy) = map (λ (p : Policy). (p.key, p)) point.policies in
      let seen = seen-fewer policies_total exact_policies (λ (e : PolicyKey × Policy). q == e.0.account) es in
      let is = count_by-map (λ (e : PolicyKey × Policy). q == e.0.account) (λ (p : Policy). (p.key, p)) point.policies in
      let few = counted-of (λ (p : Policy). p.key.account) point.accounts (is_owned_policy point.accounts) point.policies most_policies mine.policies policy-listed q (λ p. true)
      (λ a e.
      let room = no_more _ most_policies (quotas-of a (has-quotas a e)).4 in
      let is = length-filter (λ (p : Policy). p.key.account == a.account) point.policies in
      let all = always (λ (p : Policy). p.key.account == a.account) point.policies in
      omega (arith, room, is, all)) number-of in
      let all = always (λ (p : Policy). q == p.key.account) point.policies in
      omega (arith, seen, is, few, all)

  -- ---- rules

  counts-all : {X : Type 0} (xs : List X) → length xs ≡ count_by (λ x. true) xs
  counts-all [] = refl
  counts-all (x ∷ xs) = let rest = counts-all xs in let is = sum_by-cons (λ y. 1) x xs in omega (arith, rest, is)

  made-few : (a : AccountRow) → counts.has_quotas point a ≡ true → len (book_of point.rules a).rules ≤ most_rules
  made-few a e =
      let room = no_more _ most_rules (quotas-of a e).3 in
      let es : List (ℕ × Rule) = map (λ (r : Rule). (r.key.number, r)) (filter (λ (r : Rule). r.key.account == a.account) point.rules) in
      let seen = seen-fewer nat_cmp_total nat_cmp-IsAntisymmetric (λ (x : ℕ × Rule). true) es in
      let one = counts-all (entries (from_entries {R = nat_cmp} es)) in
      let two = counts-all es in
      let is = len-entries (from_entries {R = nat_cmp} es) in
      let long = length-map {B = ℕ × Rule} (filter (λ (r : Rule). r.key.account == a.account) point.rules) (λ (r : Rule). (r.key.number, r)) in
      omega (arith, room, seen, one, two, is, long)

  rules-few : len (unwrap_or (get (books_of point) q) (no_rules 0)).rules ≤ most_rules
  rules-few = by (get (books_of point) q) refl
    where
      by : (o : Option Book) → get (books_of point) q ≡ o → len (unwrap_or o (no_rules 0)).rules ≤ most_rules
      by None is = let none = len-empty nat_cmp Rule in omega (arith, none)
      by (Some b) is =
          let r = book-found point rules q b is in
          subst (λ (x : Book). len x.rules ≤ most_rules) (sym r.is) (made-few r.point (r.each (counts.has_quotas point) (filter_all (counts.has_quotas point) has_book point.accounts rules.in_quotas)))

  -- ---- tokens

  abbrev of_q : TokenKey × TokenRow → Bool
  of_q e = q == e.0.account

  count-append : (xs ys : List (TokenKey × TokenRow)) → count_by of_q (xs ++ ys) ≡ count_by of_q xs + count_by of_q ys
  count-append xs ys = sum_by-append (λ e. cond (of_q e) 1 0) xs ys

  -- those of one account
  at-most : (account : ℕ) (ts : List TokenPoint) → count_by of_q (map (token_entry account) ts) ≤ length ts
  at-most account ts = let few = count_by-le-length of_q (map (token_entry account) ts) in let is = length-map ts (token_entry account) in omega (arith, few, is)

  another : (account : ℕ) → (q == account) ≡ false → (ts : List TokenPoint) → count_by of_q (map (token_entry account) ts) ≤ 0
  another account apart [] = omega arith
  another account apart (t ∷ ts) =
      let rest = another account apart ts in
      let is = sum_by-cons (λ (e : TokenKey × TokenRow). cond (of_q e) 1 0) (token_entry account t) (map (token_entry account) ts) in
      let first : ◌≡◌ {A = ℕ} (cond (q == account) 1 0) 0 = ap {B = ℕ} (λ (b : Bool). cond b 1 0) apart in
      omega (arith, rest, is, first)

  later : (n : ℕ) (accounts : List AccountRow) → q ≤ n → list_all (λ (a : AccountRow). nat_lt n a.account) accounts ≡ true → count_by of_q (flat_map (λ (a : AccountRow). map (token_entry a.account) a.tokens) accounts) ≤ 0
  later n [] low above = omega arith
  later n (a ∷ accounts) low above =
      let parts = two (nat_lt n a.account) (list_all (λ (a : AccountRow). nat_lt n a.account) accounts) above in
      let rest = later n accounts low parts.1 in
      let first = another a.account (apart parts.0) a.tokens in
      let is = count-append (map (token_entry a.account) a.tokens) (flat_map (λ (a : AccountRow). map (token_entry a.account) a.tokens) accounts) in
      omega (arith, rest, first, is)
    where
      apart : nat_lt n a.account ≡ true → (q == a.account) ≡ false
      apart h = grind (arith, nat_tests)

  used-few : (accounts : List AccountRow) → pairs.ascends (λ (a : AccountRow). a.account) accounts ≡ true → list_all is_account_within accounts ≡ true → count_by of_q (flat_map (λ (a : AccountRow). map (token_entry a.account) a.tokens) accounts) ≤ most_tokens
  used-few [] up inside = omega arith
  used-few (a ∷ accounts) up inside =
      let ups = two (list_all (λ (y : AccountRow). nat_lt a.account y.account) accounts) (pairs.ascends (λ (a : AccountRow). a.account) accounts) up in
      let limits = two (is_account_within a) (list_all is_account_within accounts) inside in
      by (q == a.account) refl ups.0 (used-few accounts ups.1 limits.1) limits.0
    where
      by : (b : Bool) → (q == a.account) ≡ b → list_all (λ (y : AccountRow). nat_lt a.account y.account) accounts ≡ true → count_by of_q (flat_map (λ (a : AccountRow). map (token_entry a.account) a.tokens) accounts) ≤ most_tokens → is_account_within a ≡ true
          → count_by of_q (map (token_entry a.account) a.tokens ++ flat_map (λ (a : AccountRow). map (token_entry a.account) a.tokens) accounts) ≤ most_tokens
      by true t above rest good =
          let counters = counters-of a good in
          let room = no_more (length a.tokens) most_tokens (two (nat_le (length a.tokens) most_tokens) (list_all is_token_within a.tokens) counters.tokens).0 in
          let own = same q a.account t in
          let first = at-most a.account a.tokens in
          let none = later a.account accounts (omega (arith, own)) above in
          let is = count-append (map (token_entry a.account) a.tokens) (flat_map (λ (a : AccountRow). map (token_entry a.account) a.tokens) accounts) in
          omega (arith, room, first, none, is)
      by false t above rest good =
          let first = another a.account t a.tokens in
          let is = count-append (map (token_entry a.account) a.tokens) (flat_map (λ (a : AccountRow). map (token_entry a.account) a.tokens) accounts) in
          omega (arith, rest, first, is)

  tokens-few : count_by (λ (e : TokenKey × TokenRow). q == e.0.account) (entries (tokens_of point)) ≤ most_tokens
  unfolding tokens_of
  tokens-few =
      let inside = within point rules in
      let seen = seen-fewer tokens_total exact_tokens (λ (e : TokenKey × TokenRow). q == e.0.account) (flat_map (λ (a : AccountRow). map (token_entry a.account) a.tokens) point.accounts) in
      let few = used-few point.accounts (pairwise (λ (a : AccountRow). a.account) point.accounts (accounts-ordered point rules)) inside.accounts in
      omega (arith, seen, few)

  quotas-fit : IsInQuotas (rows_of (machine_of point)) now q
  quotas-fit =
      let kept = kept-is (rows_of (machine_of point)) q in
      let uploads = open-is (rows_of (machine_of point)) q now in
      let seen-kept = seen-snaps (λ (e : SnapKey × SnapRow). owns q e.0) in
      let seen-open = seen-snaps (is_open q now) in
      let few = kept-few in
      let opened = open-few in record {
        kept = omega (arith, kept, seen-kept, few);
        uploads = omega (arith, uploads, seen-open, opened);
        volumes = vols-few;
        rules = rules-few;
        policies = policies-few;
        tokens = tokens-few;
      }

pub quotas-of-point : (point : Checkpoint) → HasRules point → AreInQuotas (rows_of (machine_of point)) point.clock.second
quotas-of-point point rules q = quotas-fit point rules q
