-- Volumes, policies and rules that a checkpoint says are within their limits.
use Rattle.std.proofs.Common.{◌≡◌, ℕ, ◌<◌, ◌≤◌, arith, Bool, true, false, cond, ◌&&◌, ◌==◌, List, [], ◌∷◌, map, Some, refl, sym, ap, subst, ◌∙◌}
use Rattle.std.specs.Prelude.{nat_le, nat_lt}
use Rattle.std.specs.List.{list_all, filter}
use Rattle.std.specs.Ordering.{nat_cmp}
use Rattle.std.specs.Cmp.{nat_cmp_total}
use Rattle.std.specs.FinMap.{FinMap, nat_cmp-IsAntisymmetric, get, get-from_entries}
use Rattle.ebs_tables.proofs.MapEdits.{is_same}
use Rattle.ebs_model.specs.declared.keys.VolKey.{VolKey}
use Rattle.ebs_model.specs.declared.keys.PolicyKey.{PolicyKey}
use Rattle.ebs_model.specs.declared.policy.Policy.{Policy}
use Rattle.ebs_model.specs.declared.rows.VolRow.{VolRow}
use Rattle.ebs_model.specs.declared.rules.Rule.{Rule}
use Rattle.ebs_model.specs.declared.rules.RuleLock.{RuleLock}
use Rattle.ebs_model.specs.declared.rules.RuleLock.TheVariants.{Unlocked, Locked, Pending}
use Rattle.ebs_model.specs.Keys.{vol_cmp, policy_cmp}
use Rattle.ebs_model.specs.inner.Orders.{vols_total, exact_vols, policies_total, exact_policies}
use Rattle.ebs_model.specs.Limits.{is_size, are_tags, are_targets, is_interval, is_time_of_day, is_schedule, is_retain, is_retention, are_rule_tags, is_description}
use Rattle.ebs_model.specs.Quotas.{most_ids, most_tokens}
use Rattle.ebs_model.specs.Rules.{Book}
use Rattle.ebs_model.specs.Machine.{rows_of}
use Rattle.ebs_records.specs.Records.{is_moment}
use Rattle.ebs_checkpoints.specs.declared.owned.AccountRow.{AccountRow}
use Rattle.ebs_checkpoints.specs.declared.owned.VolPoint.{VolPoint}
use Rattle.ebs_checkpoints.specs.declared.checkpoint.Checkpoint.{Checkpoint}
use Rattle.ebs_row_rules.specs.Limits.{is_counter, is_account_within, is_volume_within, is_rule_within, is_policy_within, is_rule_lock, is_token_within}
use Rattle.ebs_row_rules.specs.Owners.{listed, is_owned_rule}
use Rattle.ebs_checkpoint_rules.specs.Rules.{HasRules}
use Rattle.ebs_recovery.specs.inner.Bases.{machine_of}
use Rattle.ebs_recovery.specs.Bases.{vols_of, policies_of, has_book, book_of, books_of}
use Rattle.ebs_recovery.proofs.Bases.{FoundIn, found_in}
use Rattle.ebs_lawful.specs.Volumes.{IsVolRow, AreVolRows}
use Rattle.ebs_lawful.specs.Policies.{IsPolicy, ArePolicies}
use Rattle.ebs_lawful.specs.Rules.{IsRuleLock, IsRule, IsBook, AreBooks}
use Rattle.ebs_lawful_points.proofs.Parts.{two, four, five, six}
use Rattle.ebs_lawful_points.proofs.Taken.{within, owned}
use Rattle.ebs_lawful_points.proofs.SnapPoints.{no_more, less, same, end-of, moment-of}
use Rattle.ebs_lawful_points.proofs.Listed.{maker, book-listed}

-- ---- volumes and policies

module _ (point : Checkpoint) where
  pub vol-found : (key : VolKey) (row : VolRow) → get (vols_of point) key ≡ Some row → FoundIn vol_cmp (λ (v : VolPoint). v.row.key) (λ (v : VolPoint). v.row) point.volumes key row
  unfolding vols_of
  vol-found key row e = found_in vol_cmp (λ (v : VolPoint). v.row.key) (λ (v : VolPoint). v.row) point.volumes key row (sym (get-from_entries vols_total (map (λ (v : VolPoint). (v.row.key, v.row)) point.volumes) key) ∙ e)

  pub policy-found : (key : PolicyKey) (p : Policy) → get (policies_of point) key ≡ Some p → FoundIn policy_cmp (λ (p : Policy). p.key) (λ (p : Policy). p) point.policies key p
  unfolding policies_of
  policy-found key p e = found_in policy_cmp (λ (p : Policy). p.key) (λ (p : Policy). p) point.policies key p (sym (get-from_entries policies_total (map (λ (p : Policy). (p.key, p)) point.policies) key) ∙ e)

pub vols-fit : (point : Checkpoint) → HasRules point → AreVolRows (rows_of (machine_of point))
vols-fit point rules key row e =
    let r = vol-found point key row e in
    let inside = within point rules in
    let both = two (is_size r.point.row.size) (are_tags r.point.row.tags) (r.each is_volume_within inside.volumes) in
    let place : r.point.row.key ≡ key = sym (is_same exact_vols key r.point.row.key r.at) in
    subst (IsVolRow key) (sym r.is) (record { place = place; size = both.0; tags = both.1 })

pub policies-fit : (point : Checkpoint) → HasRules point → ArePolicies (rows_of (machine_of point))
policies-fit point rules key p e =
    let r = policy-found point key p e in
    let x : Policy = r.point in
    let inside = within point rules in
    let all = six (are_targets x.targets) (is_interval x.hours) (is_time_of_day x.at) (is_retain x.retain) (are_tags x.add) (is_moment x.last) (r.each is_policy_within inside.policies) in
    let place : x.key ≡ key = sym (is_same exact_policies key x.key r.at) in
    let schedule : is_schedule x.hours x.at ≡ true = rw (all.1, all.2) refl in
    subst (IsPolicy key) (sym r.is) (record { place = place; targets = all.0; schedule = schedule; retain = all.3; add = all.4; last = moment-of x.last all.5 })

-- ---- rules

lock-of : (l : RuleLock) → is_rule_lock l ≡ true → IsRuleLock l
lock-of Unlocked e = tt
lock-of (Locked delay) e = e
lock-of (Pending end) e = end-of end e

pub filter_all : {X : Type 0} (test keep : X → Bool) (xs : List X) → list_all test xs ≡ true → list_all test (filter keep xs) ≡ true
filter_all test keep [] all = refl
filter_all test keep (x ∷ xs) all = by (keep x) (filter_all test keep xs (two (test x) (list_all test xs) all).1)
  where
    by : (b : Bool) → list_all test (filter keep xs) ≡ true → list_all test (cond b (x ∷ filter keep xs) (filter keep xs)) ≡ true
    by true rest = rw ((two (test x) (list_all test xs) all).0, rest) refl
    by false rest = rest

pub all_kept : {X : Type 0} (keep : X → Bool) (xs : List X) → list_all keep (filter keep xs) ≡ true
all_kept keep [] = refl
all_kept keep (x ∷ xs) = by (keep x) refl (all_kept keep xs)
  where
    by : (b : Bool) → keep x ≡ b → list_all keep (filter keep xs) ≡ true → list_all keep (cond b (x ∷ filter keep xs) (filter keep xs)) ≡ true
    by true is rest = rw (is, rest) refl
    by false is rest = rest

some_is : {A : Type 0} (x y : A) → Some x ≡ Some y → x ≡ y
some_is x y e = cc

-- the counters of an account that is within its limits
pub record HasCounters (a : AccountRow) : Type 0 where
  pub snaps : a.next_snap ≤ most_ids
  pub vols : a.next_vol ≤ most_ids
  pub rules : a.next_rule ≤ most_ids
  pub policies : a.next_policy ≤ most_ids
  pub tokens : (nat_le (Rattle.std.specs.Prelude.length a.tokens) most_tokens && list_all is_token_within a.tokens) ≡ true

pub counters-of : (a : AccountRow) → is_account_within a ≡ true → HasCounters a
counters-of a inside =
    let all = five (is_counter a.next_snap) (is_counter a.next_vol) (is_counter a.next_rule) (is_counter a.next_policy) (nat_le (Rattle.std.specs.Prelude.length a.tokens) most_tokens && list_all is_token_within a.tokens) inside in
    record { snaps = no_more a.next_snap most_ids all.0; vols = no_more a.next_vol most_ids all.1; rules = no_more a.next_rule most_ids all.2; policies = no_more a.next_policy most_ids all.3; tokens = all.4 }

module _ (point : Checkpoint) (rules : HasRules point) (account : ℕ) (b : Book) (there : get (books_of point) account ≡ Some b) where
  pub book-found : FoundIn nat_cmp (λ (a : AccountRow). a.account) (book_of point.rules) (filter has_book point.accounts) account b
  unfolding books_of
  book-found = found_in nat_cmp (λ (a : AccountRow). a.account) (book_of point.rules) (filter has_book point.accounts) account b (sym (get-from_entries nat_cmp_total (map (λ (a : AccountRow). (a.account, book_of point.rules a)) (filter has_book point.accounts)) account) ∙ there)

  rule-found : (number : ℕ) (rule : Rule) → get b.rules number ≡ Some rule → FoundIn nat_cmp (λ (r : Rule). r.key.number) (λ (r : Rule). r) (filter (λ (r : Rule). r.key.account == book-found.point.account) point.rules) number rule
  rule-found number rule e = found_in nat_cmp (λ (r : Rule). r.key.number) (λ (r : Rule). r) (filter (λ (r : Rule). r.key.account == book-found.point.account) point.rules) number rule
      (sym (get-from_entries nat_cmp_total (map (λ (r : Rule). (r.key.number, r)) (filter (λ (r : Rule). r.key.account == book-found.point.account) point.rules)) number) ∙ ap (λ (x : Book). get x.rules number) (sym book-found.is) ∙ e)

  account-is : account ≡ book-found.point.account
  account-is = is_same nat_cmp-IsAntisymmetric account book-found.point.account book-found.at

  rule-fits : (number : ℕ) (rule : Rule) → get b.rules number ≡ Some rule → (number < b.next) × IsRule account number rule
  rule-fits number rule e =
      let r = rule-found number rule e in
      let x : Rule = r.point in
      let inside = within point rules in
      let mine = owned point rules in
      let all = four (is_retention x.days) (are_rule_tags x.tags) (is_description x.description) (is_rule_lock x.lock) (r.each is_rule_within (filter_all is_rule_within (λ r. r.key.account == book-found.point.account) point.rules inside.rules)) in
      let owner : x.key.account ≡ account = same x.key.account book-found.point.account (r.each (λ r. r.key.account == book-found.point.account) (all_kept (λ (r : Rule). r.key.account == book-found.point.account) point.rules)) ∙ sym account-is in
      let place : number ≡ x.key.number = is_same nat_cmp-IsAntisymmetric number x.key.number r.at in
      let made = maker (λ (a : AccountRow). a.next_rule) x.key.number (listed point.accounts x.key.account) (r.each (is_owned_rule point.accounts) (filter_all (is_owned_rule point.accounts) (λ r. r.key.account == book-found.point.account) point.rules mine.rules)) in
      let low = made.2 in
      let book : get (books_of point) x.key.account ≡ Some (book_of point.rules made.0) = book-listed point x.key.account made.0 made.1 (omega (arith, low)) in
      let next : b.next ≡ made.0.next_rule = ap (λ (k : Book). k.next) (some_is b (book_of point.rules made.0) (sym there ∙ ap (get (books_of point)) (sym owner) ∙ book)) in
      (omega (arith, low, next, place), subst (IsRule account number) (sym r.is) (record { owner = owner; place = sym place; days = all.0; tags = all.1; description = all.2; lock = lock-of x.lock all.3 }))

  book-fits : IsBook account b
  book-fits =
      let r = book-found in
      let inside = within point rules in
      let counters = counters-of r.point (r.each is_account_within (filter_all is_account_within has_book point.accounts inside.accounts)) in
      let begun : 0 < r.point.next_rule = less 0 r.point.next_rule (r.each has_book (all_kept has_book point.accounts)) in
      let next : b.next ≡ r.point.next_rule = ap (λ (k : Book). k.next) r.is in
      let top = counters.rules in
      record { begun = omega (arith, begun, next); next = omega (arith, top, next); numbers = λ number rule e. (rule-fits number rule e).0; rules = λ number rule e. (rule-fits number rule e).1 }

pub books-fit : (point : Checkpoint) → HasRules point → AreBooks (rows_of (machine_of point))
books-fit point rules account b e = book-fits point rules account b e
