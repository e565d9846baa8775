-- What an account may have, through each change.
use Rattle.std.proofs.Common.{◌≡◌, ℕ, ◌+◌, ◌<◌, ◌≤◌, arith, Bool, true, false, cond, ◌==◌, ◌&&◌, List, [], ◌∷◌, ◌++◌, length, Option, Some, None, refl, sym, ap, subst, ◌∙◌}
use Rattle.std.specs.Prelude.{unwrap_or}
use Rattle.std.proofs.lemmas.Bool.Decides.{nat_tests}
use Rattle.std.proofs.lemmas.List.Sums.{length-filter, count_by-le-length}
use Rattle.std.proofs.lemmas.List.{length-map}
use Rattle.std.specs.declared.cmp.Ordering.{Ordering}
use Rattle.std.specs.List.{filter, count_by}
use Rattle.std.specs.Option.{option_map}
use Rattle.std.specs.Ordering.{nat_cmp, eq_by_cmp}
use Rattle.std.specs.Cmp.{IsTotalOrder, nat_cmp_total}
use Rattle.std.specs.FinMap.{FinMap, IsAntisymmetric, empty, get-empty, len-empty, len-entries, get, insert, remove, entries, len, get-insert, get-remove}
use Rattle.ebs_tables.proofs.MapEdits.{is_same}
use Rattle.ebs_model.specs.declared.keys.SnapKey.{SnapKey}
use Rattle.ebs_model.specs.declared.keys.VolKey.{VolKey}
use Rattle.ebs_model.specs.declared.keys.PolicyKey.{PolicyKey}
use Rattle.ebs_model.specs.declared.keys.TokenKey.{TokenKey}
use Rattle.ebs_model.specs.declared.keys.Moment.{Moment}
use Rattle.ebs_model.specs.declared.policy.Policy.{Policy}
use Rattle.ebs_model.specs.declared.rules.Rule.{Rule}
use Rattle.ebs_model.specs.declared.rows.SnapRow.{SnapRow}
use Rattle.ebs_model.specs.declared.rows.VolRow.{VolRow}
use Rattle.ebs_model.specs.declared.rows.TokenRow.{TokenRow}
use Rattle.ebs_model.specs.declared.request.Request.{Request}
use Rattle.ebs_model.specs.declared.request.Request.TheVariants.{StartSnapshot, CreateVolume}
use Rattle.ebs_model.specs.declared.tags.Tag.{Tag}
use Rattle.ebs_model.specs.Keys.{snap_cmp, vol_cmp, policy_cmp, token_cmp}
use Rattle.ebs_model.specs.inner.Orders.{snaps_total, exact_snaps, vols_total, exact_vols, policies_total, exact_policies, tokens_total, exact_tokens}
use Rattle.ebs_model.specs.Quotas.{last_second, most_open, most_kept, most_volumes, most_rules, most_policies, most_tokens}
use Rattle.ebs_model.specs.Time.{status_at, is_pending}
use Rattle.ebs_model.specs.Access.{owns}
use Rattle.ebs_model.specs.inner.Rows.{no_rows}
use Rattle.ebs_model.specs.Rules.{Book, no_rules}
use Rattle.ebs_model.specs.RuleCommands.{committed}
use Rattle.ebs_model.specs.Rows.{Rows, book_of, kept_count, open_count, volume_count, policy_count, token_count}
use Rattle.ebs_model.specs.Calls.Start.{next_key, started_row, line_of, with_upload, with_token, has_token}
use Rattle.ebs_model.specs.Calls.Disk.{snapped_row}
use Rattle.ebs_model.specs.Calls.Volume.{next_volume, volume_line}
use Rattle.ebs_model.specs.Calls.Policy.{next_policy, new_policy}
use Rattle.ebs_model.specs.Calls.Run.{due_targets, run_row, with_new, made_rows, freed, with_freed, run_released, run_ended, run_rows}
use Rattle.ebs_model.proofs.RunLaws.{among, left_of, run-beside, get-freed, get-deleted}
use Rattle.ebs_lawful.specs.Rules.{AreBooks}
use Rattle.ebs_lawful.specs.Quotas.{IsInQuotas, AreInQuotas}
use Rattle.ebs_lawful.proofs.Maps.{Each, some_is, none_some, both_of}
use Rattle.ebs_lawful.proofs.Tallies.{one_more, no_more, count_by-map, count_by-filter}
use Rattle.ebs_lawful.proofs.Books.{HasRules, rules-of, puts-change, few-rules}
use Rattle.ebs_lawful.proofs.Effects.{IsAltered, got_block, was_completed, was_binned, was_shared, was_locked, was_moved, was_recovered, was_freed, IsStart, IsCreation, IsRun, IsEffect, left_all, altered, taken_out, started, snapped, created, dropped, commanded, planned, unplanned, ran}
use Rattle.ebs_lawful.proofs.Ran.{ran_each}

-- ---- counts are counts of entries

abbrev pub is_open : ℕ → ℕ → SnapKey × SnapRow → Bool
is_open account now e = owns account e.0 && is_pending (status_at e.1 now)

pub kept-is : (rows : Rows) (account : ℕ) → kept_count rows account ≡ count_by (λ (e : SnapKey × SnapRow). owns account e.0) (entries rows.snaps)
kept-is rows account = length-map (filter (λ (e : SnapKey × SnapRow). owns account e.0) (entries rows.snaps)) (λ e. e.1) ∙ length-filter (λ (e : SnapKey × SnapRow). owns account e.0) (entries rows.snaps)

pub open-is : (rows : Rows) (account now : ℕ) → open_count rows account now ≡ count_by (is_open account now) (entries rows.snaps)
open-is rows account now =
    count_by-map (λ (row : SnapRow). is_pending (status_at row now)) (λ (e : SnapKey × SnapRow). e.1) (filter (λ e. owns account e.0) (entries rows.snaps))
    ∙ count_by-filter (λ (e : SnapKey × SnapRow). is_pending (status_at e.1 now)) (λ e. owns account e.0) (entries rows.snaps)

-- ---- edits of a map

module _ {K X : Type 0} {R : K → K → Ordering} (o : IsTotalOrder R) (exact : IsAntisymmetric R) (test : K × X → Bool) (m : FinMap R X) where
  -- one more, where there is room for it
  with_room : (most : ℕ) (k : K) (v : X) → count_by test (entries m) ≤ most → (test (k, v) ≡ true → count_by test (entries m) < most) → count_by test (entries (insert m k v)) ≤ most
  with_room most k v few room = by (test (k, v)) refl
    where
      by : (b : Bool) → test (k, v) ≡ b → count_by test (entries (insert m k v)) ≤ most
      by true t = let less = room t in let more = one_more o test m k v in omega (arith, less, more)
      by false t =
          let same : count_by test (entries (insert m k v)) ≤ count_by test (entries m) = no_more o exact test (insert m k v) m (λ q x e passes. at q x (eq_by_cmp R q k) refl (sym (get-insert o m k v q) ∙ e) passes) in
          omega (arith, few, same)
        where
          other : {A : Type 0} (q : K) (x : X) → q ≡ k → v ≡ x → test (q, x) ≡ true → A
          other q x key value passes = absurd (never (sym t ∙ ap (λ (j : K). test (j, v)) (sym key) ∙ ap (λ (y : X). test (q, y)) value ∙ passes))
            where
              never : false ≡ true → ⊥
              never e = cc

          at : (q : K) (x : X) (b : Bool) → eq_by_cmp R q k ≡ b → cond b (Some v) (get m q) ≡ Some x → test (q, x) ≡ true → (y : X) × (get m q ≡ Some y) × (test (q, y) ≡ true)
          at q x true is e passes = other q x (is_same exact q k is) (some_is v x e) passes
          at q x false is e passes = (x, e, passes)

  -- a value in the place of another, by a test that passes only where it passed
  replaced : (k : K) (old new : X) → get m k ≡ Some old → (test (k, new) ≡ true → test (k, old) ≡ true) → count_by test (entries (insert m k new)) ≤ count_by test (entries m)
  replaced k old new there still = no_more o exact test (insert m k new) m (λ q x e passes. at q x (eq_by_cmp R q k) refl (sym (get-insert o m k new q) ∙ e) passes)
    where
      at : (q : K) (x : X) (b : Bool) → eq_by_cmp R q k ≡ b → cond b (Some new) (get m q) ≡ Some x → test (q, x) ≡ true → (y : X) × (get m q ≡ Some y) × (test (q, y) ≡ true)
      at q x true is e passes =
          let key : q ≡ k = is_same exact q k is in
          (old, ap (get m) key ∙ there, ap (λ (j : K). test (j, old)) key ∙ still (ap (λ (j : K). test (j, new)) (sym key) ∙ ap (λ (y : X). test (q, y)) (some_is new x e) ∙ passes))
      at q x false is e passes = (x, e, passes)

  gone : (k : K) → count_by test (entries (remove m k)) ≤ count_by test (entries m)
  gone k = no_more o exact test (remove m k) m (λ q x e passes. at q x (eq_by_cmp R q k) (sym (get-remove o m k q) ∙ e) passes)
    where
      at : (q : K) (x : X) (b : Bool) → cond b None (get m q) ≡ Some x → test (q, x) ≡ true → (y : X) × (get m q ≡ Some y) × (test (q, y) ≡ true)
      at q x true e passes = none_some e
      at q x false e passes = (x, e, passes)

-- ---- snapshots

same : (a b : ℕ) → (a == b) ≡ true → b ≡ a
same a b t = grind (arith, nat_tests)

at_most : (a b c : ℕ) → a ≤ b → b ≤ c → a ≤ c
at_most a b c h g = omega (arith, h, g)

-- each snapshot was there, and each open upload was one
pub record AreFewer (now : ℕ) (new old : FinMap snap_cmp SnapRow) : Type 0 where
  pub kept : (q : SnapKey) (x : SnapRow) → get new q ≡ Some x → (y : SnapRow) × (get old q ≡ Some y)
  pub uploads : (q : SnapKey) (x : SnapRow) → get new q ≡ Some x → is_pending (status_at x now) ≡ true → (y : SnapRow) × (get old q ≡ Some y) × (is_pending (status_at y now) ≡ true)

fewer-uploads : (now : ℕ) (new old : FinMap snap_cmp SnapRow) (account : ℕ)
    → ((q : SnapKey) (x : SnapRow) → get new q ≡ Some x → is_pending (status_at x now) ≡ true → (y : SnapRow) × (get old q ≡ Some y) × (is_pending (status_at y now) ≡ true))
    → count_by (is_open account now) (entries new) ≤ count_by (is_open account now) (entries old)
fewer-uploads now new old account h = no_more snaps_total exact_snaps (is_open account now) new old (λ q x e passes.
    let two = both_of (owns account q) (is_pending (status_at x now)) passes in
    let was = h q x e two.1 in
    (was.0, was.1, (λ i. two.0 i && was.2 i)))

fewer-kept : (new old : FinMap snap_cmp SnapRow) (account : ℕ) → ((q : SnapKey) (x : SnapRow) → get new q ≡ Some x → owns account q ≡ true → (y : SnapRow) × (get old q ≡ Some y))
    → count_by (λ (e : SnapKey × SnapRow). owns account e.0) (entries new) ≤ count_by (λ (e : SnapKey × SnapRow). owns account e.0) (entries old)
fewer-kept new old account h = no_more snaps_total exact_snaps (λ (e : SnapKey × SnapRow). owns account e.0) new old (λ q x e passes. let was = h q x e passes in (was.0, was.1, passes))

-- what is open after it is altered was open
altered-open : (rows : Rows) (at : Moment) (key : SnapKey) (row next : SnapRow) → IsAltered rows at key row next → is_pending (status_at next at.second) ≡ true → is_pending (status_at row at.second) ≡ true
altered-open rows at key row next (got_block index pending below is) e = pending
altered-open rows at key row next (was_completed is) e = absurd (never (sym (ap (λ (r : SnapRow). is_pending (status_at r at.second)) is) ∙ e))
  where
    never : false ≡ true → ⊥
    never e = cc
altered-open rows at key row next (was_binned days stays is) e = sym (ap (λ (r : SnapRow). is_pending (status_at r at.second)) is) ∙ e
altered-open rows at key row next (was_shared shared public fits is) e = sym (ap (λ (r : SnapRow). is_pending (status_at r at.second)) is) ∙ e
altered-open rows at key row next (was_locked lock ends is) e = sym (ap (λ (r : SnapRow). is_pending (status_at r at.second)) is) ∙ e
altered-open rows at key row next (was_moved tier done ends is) e = sym (ap (λ (r : SnapRow). is_pending (status_at r at.second)) is) ∙ e
altered-open rows at key row next (was_recovered is) e = sym (ap (λ (r : SnapRow). is_pending (status_at r at.second)) is) ∙ e
altered-open rows at key row next (was_freed is) e = sym (ap (λ (r : SnapRow). is_pending (status_at r at.second)) is) ∙ e

-- with the snapshots replaced
pub with-fewer : (rows : Rows) (now later : ℕ) (snaps : FinMap snap_cmp SnapRow) (account : ℕ) → ((q : SnapKey) (x : SnapRow) → get snaps q ≡ Some x → owns account q ≡ true → (y : SnapRow) × (get rows.snaps q ≡ Some y))
    → count_by (is_open account later) (entries snaps) ≤ count_by (is_open account now) (entries rows.snaps) → IsInQuotas rows now account → IsInQuotas (record rows { snaps = snaps }) later account
with-fewer rows now later snaps account kept uploads h = record {
  kept = let few = fewer-kept snaps rows.snaps account kept in let is = kept-is (record rows { snaps = snaps }) account in let was = kept-is rows account in let most = h.kept in omega (arith, few, is, was, most);
  uploads = let is = open-is (record rows { snaps = snaps }) account later in let was = open-is rows account now in let most = h.uploads in omega (arith, uploads, is, was, most);
  volumes = h.volumes;
  rules = h.rules;
  policies = h.policies;
  tokens = h.tokens;
}

-- ---- a run

module _ (rows : Rows) (at : Moment) (account : ℕ) (key : PolicyKey) (p : Policy) (of : IsRun rows account key p at.second) where
  abbrev run : Rows
  run = run_rows rows at key p

  -- what is made counts as so many at most
  made-kept : (other : ℕ) (start : Rows) (volumes : List (VolKey × VolRow))
      → count_by (λ (e : SnapKey × SnapRow). owns other e.0) (entries (with_new start at key p volumes).snaps) ≤ count_by (λ (e : SnapKey × SnapRow). owns other e.0) (entries start.snaps) + length volumes
  made-kept other start [] = omega arith
  made-kept other start (e ∷ volumes) =
      let first : SnapKey = next_key start key.account in
      let row : SnapRow = run_row at first key p e in
      let rest = made-kept other (with_upload start first row) volumes in
      let one = one_more snaps_total (λ (e : SnapKey × SnapRow). owns other e.0) start.snaps first row in
      omega (arith, rest, one)

  -- what a run leaves was made, or was there
  left-there : (q : SnapKey) (x : SnapRow) → get run.snaps q ≡ Some x → (y : SnapRow) × (get (made_rows rows at key p).snaps q ≡ Some y)
  left-there q x e =
      let gone : List SnapKey = run_ended rows at key p in
      let free : List SnapKey = run_released rows at key p ++ gone in
      let made : Rows = made_rows rows at key p in
      let rest : Rows = with_freed made free in
      let left = taken rest (among q gone) (get rest.snaps q) x (sym (get-deleted rest at gone q) ∙ e) in
      let_go (among q free) (get made.snaps q) left.0 (sym (get-freed made free q) ∙ left.1)
    where
      taken : (rest : Rows) (b : Bool) (o : Option SnapRow) (x : SnapRow) → cond b (left_of rest at q o) o ≡ Some x → (y : SnapRow) × (o ≡ Some y)
      taken rest b (Some y) x e = (y, refl)
      taken rest true None x e = none_some e
      taken rest false None x e = none_some e

      let_go : (b : Bool) (o : Option SnapRow) (x : SnapRow) → cond b (option_map freed o) o ≡ Some x → (y : SnapRow) × (o ≡ Some y)
      let_go b (Some y) x e = (y, refl)
      let_go true None x e = none_some e
      let_go false None x e = none_some e

  abbrev WasOpen : SnapKey → SnapRow → Type 0
  WasOpen q row = is_pending (status_at row at.second) ≡ true → (y : SnapRow) × (get rows.snaps q ≡ Some y) × (is_pending (status_at y at.second) ≡ true)

  ran-open : Each WasOpen run.snaps
  ran-open = ran_each WasOpen rows at key p (λ q row next how was pending. was (altered-open rows at q row next how pending)) (λ first e fresh mine pending. absurd (never pending)) (λ q row there pending. (row, there, pending))
    where
      never : false ≡ true → ⊥
      never e = cc

  module _ (other : ℕ) where
    abbrev WasKept : SnapKey → SnapRow → Type 0
    WasKept q row = owns other q ≡ true → (y : SnapRow) × (get rows.snaps q ≡ Some y)

    -- of another account nothing is made
    others-kept : (other == account) ≡ false → Each WasKept run.snaps
    others-kept apart = ran_each WasKept rows at key p (λ q row next how was mine. was mine) (λ first e fresh owner mine. absurd (never (sym apart ∙ ap (λ (a : ℕ). other == a) (of.owner ∙ sym fresh.account) ∙ mine))) (λ q row there mine. (row, there))
      where
        never : false ≡ true → ⊥
        never e = cc

    ran-kept : IsInQuotas rows at.second other → kept_count run other ≤ most_kept
    ran-kept h = by (other == account) refl
      where
        by : (b : Bool) → (other == account) ≡ b → kept_count run other ≤ most_kept
        by true t =
            let volumes : List (VolKey × VolRow) = due_targets rows key p at.second in
            let few = fewer-kept run.snaps (made_rows rows at key p).snaps other (λ q x e mine. left-there q x e) in
            let more = made-kept other rows volumes in
            let room : kept_count rows other + length volumes ≤ most_kept = subst (λ (a : ℕ). kept_count rows a + length volumes ≤ most_kept) (same other account t) of.kept in
            let is = kept-is run other in
            let was = kept-is rows other in
            omega (arith, few, more, room, is, was)
        by false t =
            let few = fewer-kept run.snaps rows.snaps other (others-kept t) in
            let is = kept-is run other in
            let was = kept-is rows other in
            let most = h.kept in
            omega (arith, few, is, was, most)

    ran-quotas : IsInQuotas rows at.second other → IsInQuotas run at.second other
    ran-quotas h =
        let beside = run-beside rows at key p in
        let few = fewer-uploads at.second run.snaps rows.snaps other ran-open in
        let is = open-is run other at.second in
        let was = open-is rows other at.second in
        let most = h.uploads in record {
          kept = ran-kept h;
          uploads = omega (arith, few, is, was, most);
          volumes = subst (λ (m : FinMap vol_cmp VolRow). count_by (λ (e : VolKey × VolRow). other == e.0.account) (entries m) ≤ most_volumes) (sym beside.0) h.volumes;
          tokens = subst (λ (m : FinMap token_cmp TokenRow). count_by (λ (e : TokenKey × TokenRow). other == e.0.account) (entries m) ≤ most_tokens) (sym beside.1.0) h.tokens;
          rules = subst (λ (m : FinMap nat_cmp Book). len (unwrap_or (get m other) (no_rules 0)).rules ≤ most_rules) (sym beside.1.1.0) h.rules;
          policies = subst (λ (m : FinMap policy_cmp Policy). count_by (λ (e : PolicyKey × Policy). other == e.0.account) (entries m) ≤ most_policies) (sym beside.1.1.1.0)
              (at_most _ _ _ (replaced policies_total exact_policies (λ (e : PolicyKey × Policy). other == e.0.account) rows.policies key p (record p { last = at }) of.found (λ t. t)) h.policies);
        }

-- ---- a change

module _ (rows : Rows) (at : Moment) (account : ℕ) (early : at.second ≤ last_second) (books : AreBooks rows) (quotas : AreInQuotas rows at.second) where
  abbrev now : ℕ
  now = at.second

  altered-quotas : (key : SnapKey) (row next : SnapRow) → get rows.snaps key ≡ Some row → IsAltered rows at key row next → AreInQuotas (record rows { snaps = insert rows.snaps key next }) now
  altered-quotas key row next there how other = with-fewer rows now now (insert rows.snaps key next) other
      (λ q x e mine. at_key q x (eq_by_cmp snap_cmp q key) refl (sym (get-insert snaps_total rows.snaps key next q) ∙ e))
      (replaced snaps_total exact_snaps (is_open other now) rows.snaps key row next there (λ passes.
      let two = both_of (owns other key) (is_pending (status_at next now)) passes in
      let was = altered-open rows at key row next how two.1 in (λ i. two.0 i && was i)))
      (quotas other)
    where
      at_key : (q : SnapKey) (x : SnapRow) (b : Bool) → eq_by_cmp snap_cmp q key ≡ b → cond b (Some next) (get rows.snaps q) ≡ Some x → (y : SnapRow) × (get rows.snaps q ≡ Some y)
      at_key q x true is e = (row, ap (get rows.snaps) (is_same exact_snaps q key is) ∙ there)
      at_key q x false is e = (x, e)

  taken-quotas : (key : SnapKey) → AreInQuotas (record rows { snaps = remove rows.snaps key }) now
  taken-quotas key other = with-fewer rows now now (remove rows.snaps key) other
      (λ q x e mine. at_key q x (eq_by_cmp snap_cmp q key) (sym (get-remove snaps_total rows.snaps key q) ∙ e))
      (gone snaps_total exact_snaps (is_open other now) rows.snaps key)
      (quotas other)
    where
      at_key : (q : SnapKey) (x : SnapRow) (b : Bool) → cond b None (get rows.snaps q) ≡ Some x → (y : SnapRow) × (get rows.snaps q ≡ Some y)
      at_key q x true e = none_some e
      at_key q x false e = (x, e)

  -- an account's own count, where another is asked for
  of_other : (P : ℕ → Type 0) (other : ℕ) → P account → (other == account) ≡ true → P other
  of_other P other h t = subst P (same other account t) h

  more-kept : (row : SnapRow) → kept_count rows account < most_kept → (other : ℕ) → count_by (λ (e : SnapKey × SnapRow). owns other e.0) (entries (insert rows.snaps (next_key rows account) row)) ≤ most_kept
  more-kept row room other =
      let was = kept-is rows other in
      let few = (quotas other).kept in
      with_room snaps_total exact_snaps (λ (e : SnapKey × SnapRow). owns other e.0) rows.snaps most_kept (next_key rows account) row (omega (arith, was, few))
      (λ t. let less : kept_count rows other < most_kept = of_other (λ (a : ℕ). kept_count rows a < most_kept) other room t in omega (arith, was, less))

  more-tokens : (token : Option (List ℕ)) (request : Request) (number : ℕ) → (has_token token ≡ true → token_count rows account < most_tokens) → (other : ℕ)
      → count_by (λ (e : TokenKey × TokenRow). other == e.0.account) (entries (with_token rows.tokens at account number request token)) ≤ most_tokens
  more-tokens None request number room other = (quotas other).tokens
  more-tokens (Some text) request number room other =
      with_room tokens_total exact_tokens (λ (e : TokenKey × TokenRow). other == e.0.account) rows.tokens most_tokens (record { account = account; text = text }) (record { at = at; first = request; number = number }) (quotas other).tokens
      (λ t. of_other (λ (a : ℕ). token_count rows a < most_tokens) other (room refl) t)

  started-quotas : (size : ℕ) (parent : Option SnapKey) (description : Option (List ℕ)) (tags : List Tag) (token : Option (List ℕ)) (timeout : ℕ) → IsStart rows now account size description tags token timeout
      → AreInQuotas (Rattle.ebs_model.specs.Calls.Start.commit_start rows at (Some (next_key rows account)) size parent description tags token timeout) now
  started-quotas size parent description tags token timeout of other =
      let key : SnapKey = next_key rows account in
      let row : SnapRow = started_row at key size parent (line_of rows.snaps key parent) description tags timeout in
      let new : Rows = with_upload rows key row in
      let kept = kept-is new other in
      let uploads = open-is new other now in
      let was = open-is rows other now in
      let few = (quotas other).uploads in
      let more = more-kept row of.kept other in
      let opens : count_by (is_open other now) (entries new.snaps) ≤ most_open =
      with_room snaps_total exact_snaps (is_open other now) rows.snaps most_open key row (omega (arith, was, few))
      (λ t. let less : open_count rows other now < most_open = of_other (λ (a : ℕ). open_count rows a now < most_open) other of.uploads (both_of (owns other key) (is_pending (status_at row now)) t).0 in omega (arith, was, less)) in record {
        kept = omega (arith, kept, more);
        uploads = omega (arith, uploads, opens);
        tokens = more-tokens token (StartSnapshot size parent description tags token timeout) key.number of.tokens other;
        volumes = (quotas other).volumes;
        rules = (quotas other).rules;
        policies = (quotas other).policies;
      }

  snapped-quotas : (volume : VolKey) (row : VolRow) (description : Option (List ℕ)) (tags : List Tag) → kept_count rows account < most_kept
      → AreInQuotas (with_upload rows (next_key rows account) (snapped_row at (next_key rows account) volume row description tags)) now
  snapped-quotas volume row description tags room other =
      let key : SnapKey = next_key rows account in
      let made : SnapRow = snapped_row at key volume row description tags in
      let new : Rows = with_upload rows key made in
      let kept = kept-is new other in
      let uploads = open-is new other now in
      let was = open-is rows other now in
      let few = (quotas other).uploads in
      let more = more-kept made room other in
      let opens : count_by (is_open other now) (entries new.snaps) ≤ most_open =
      with_room snaps_total exact_snaps (is_open other now) rows.snaps most_open key made (omega (arith, was, few)) (λ t. absurd (never (both_of (owns other key) false t).1)) in record {
        kept = omega (arith, kept, more);
        uploads = omega (arith, uploads, opens);
        tokens = (quotas other).tokens;
        volumes = (quotas other).volumes;
        rules = (quotas other).rules;
        policies = (quotas other).policies;
      }
    where
      never : false ≡ true → ⊥
      never e = cc

  created-quotas : (origin : Option SnapKey) (size : ℕ) (tags : List Tag) (token : Option (List ℕ)) → IsCreation rows account origin size tags token
      → AreInQuotas (Rattle.ebs_model.specs.Calls.Volume.commit_create rows at (Some (next_volume rows account)) origin (Some size) tags token) now
  created-quotas origin size tags token of other =
      let key : VolKey = next_volume rows account in record {
        kept = (quotas other).kept;
        uploads = (quotas other).uploads;
        rules = (quotas other).rules;
        policies = (quotas other).policies;
        volumes = with_room vols_total exact_vols (λ (e : VolKey × VolRow). other == e.0.account) rows.vols most_volumes key (record { key = key; size = size; line = volume_line rows.snaps key origin; origin = origin; tags = tags }) (quotas other).volumes
            (λ t. of_other (λ (a : ℕ). volume_count rows a < most_volumes) other of.volumes t);
        tokens = more-tokens token (CreateVolume origin (Some size) tags token) key.number of.tokens other;
      }

  planned-quotas : (p : Policy) → policy_count rows account < most_policies → AreInQuotas (Rattle.ebs_model.specs.Calls.Policy.with_new_policy rows (next_policy rows account) p) now
  planned-quotas p room other = record {
    kept = (quotas other).kept;
    uploads = (quotas other).uploads;
    rules = (quotas other).rules;
    tokens = (quotas other).tokens;
    volumes = (quotas other).volumes;
    policies = with_room policies_total exact_policies (λ (e : PolicyKey × Policy). other == e.0.account) rows.policies most_policies (next_policy rows account) p (quotas other).policies (λ t. of_other (λ (a : ℕ). policy_count rows a < most_policies) other room t);
  }

  commanded-quotas : (book : Book) → len book.rules ≤ most_rules → AreInQuotas (record rows { books = insert rows.books account book }) now
  commanded-quotas book few other = record {
    kept = (quotas other).kept;
    uploads = (quotas other).uploads;
    policies = (quotas other).policies;
    tokens = (quotas other).tokens;
    volumes = (quotas other).volumes;
    rules = subst (λ (o : Option Book). len (unwrap_or o (no_rules 0)).rules ≤ most_rules) (sym (get-insert nat_cmp_total rows.books account book other)) (by (eq_by_cmp nat_cmp other account));
  }
    where
      by : (b : Bool) → len (unwrap_or (cond b (Some book) (get rows.books other)) (no_rules 0)).rules ≤ most_rules
      by true = few
      by false = (quotas other).rules

  pub quotas-kept : (new : Rows) → IsEffect rows at account new → AreInQuotas new now
  quotas-kept new (left_all is) = subst (λ (r : Rows). AreInQuotas r now) (sym is) quotas
  quotas-kept new (altered key row next there how is) = subst (λ (r : Rows). AreInQuotas r now) (sym is) (altered-quotas key row next there how)
  quotas-kept new (taken_out key is) = subst (λ (r : Rows). AreInQuotas r now) (sym is) (taken-quotas key)
  quotas-kept new (started size parent description tags token timeout of is) = subst (λ (r : Rows). AreInQuotas r now) (sym is) (started-quotas size parent description tags token timeout of)
  quotas-kept new (snapped volume row description tags of is) = subst (λ (r : Rows). AreInQuotas r now) (sym is) (snapped-quotas volume row description tags of.kept)
  quotas-kept new (created origin size tags token of is) = subst (λ (r : Rows). AreInQuotas r now) (sym is) (created-quotas origin size tags token of)
  quotas-kept new (dropped key is) = subst (λ (r : Rows). AreInQuotas r now) (sym is) (λ other. record {
    kept = (quotas other).kept;
    uploads = (quotas other).uploads;
    rules = (quotas other).rules;
    policies = (quotas other).policies;
    tokens = (quotas other).tokens;
    volumes = at_most _ _ _ (gone vols_total exact_vols (λ (e : VolKey × VolRow). other == e.0.account) rows.vols key) (quotas other).volumes;
  })
  quotas-kept new (commanded command change fits taken is) =
      let b : Book = book_of rows account in
      let has : HasRules account b = rules-of account (get rows.books account) (λ b. books account b) in
      subst (λ (r : Rows). AreInQuotas r now) (sym is) (commanded-quotas (committed b change) (few-rules account b change (puts-change account now early b has command change fits taken) (quotas account).rules))
  quotas-kept new (planned targets hours time retain add of is) = subst (λ (r : Rows). AreInQuotas r now) (sym is) (planned-quotas (new_policy at (next_policy rows account) targets hours time retain add) of.policies)
  quotas-kept new (unplanned key is) = subst (λ (r : Rows). AreInQuotas r now) (sym is) (λ other. record {
    kept = (quotas other).kept;
    uploads = (quotas other).uploads;
    rules = (quotas other).rules;
    volumes = (quotas other).volumes;
    tokens = (quotas other).tokens;
    policies = at_most _ _ _ (gone policies_total exact_policies (λ (e : PolicyKey × Policy). other == e.0.account) rows.policies key) (quotas other).policies;
  })
  quotas-kept new (ran key p of is) = subst (λ (r : Rows). AreInQuotas r now) (sym is) (λ other. ran-quotas rows at account key p of other (quotas other))

-- ---- where there are no rows

none-counted : {K X : Type 0} (R : K → K → Ordering) (test : K × X → Bool) (most : ℕ) → count_by test (entries (empty {X = X} {R = R})) ≤ most
none-counted {X = X} R test most =
    let few = count_by-le-length test (entries (empty {X = X} {R = R})) in
    let none : length (entries (empty {X = X} {R = R})) ≡ 0 = sym (len-entries (empty {X = X} {R = R})) ∙ len-empty R X in
    omega (arith, few, none)

pub no_quotas : (now : ℕ) → AreInQuotas no_rows now
no_quotas now account = record {
  kept = let is = kept-is no_rows account in let few = none-counted {X = SnapRow} snap_cmp (λ e. owns account e.0) most_kept in omega (arith, is, few);
  uploads = let is = open-is no_rows account now in let few = none-counted snap_cmp (is_open account now) most_open in omega (arith, is, few);
  volumes = none-counted vol_cmp _ most_volumes;
  rules = subst (λ (o : Option Book). len (unwrap_or o (no_rules 0)).rules ≤ most_rules) (sym (get-empty {X = Book} nat_cmp account)) (let none = len-empty nat_cmp Rule in omega (arith, none));
  policies = none-counted policy_cmp _ most_policies;
  tokens = none-counted token_cmp _ most_tokens;
}
