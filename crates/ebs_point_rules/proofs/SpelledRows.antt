-- Rows, nodes and slots that have the rules have a spelling.
use Rattle.std.proofs.Common.{◌≡◌, ℕ, ◌<◌, ◌≤◌, ◌^◌, arith, Bool, true, false, ◌&&◌, ◌||◌, ◌==◌, nat_le, List, [], ◌∷◌, length, Option, Some, None, refl}
use Rattle.std.specs.Prelude.{nat_lt}
use Rattle.std.proofs.lemmas.Bool.Decides.{nat_tests}
use Rattle.std.specs.List.{list_all, list_any, AllByRecursion}
use Rattle.std.specs.Ordering.{nat_cmp}
use Rattle.ebs_model.specs.declared.keys.Moment.{Moment}
use Rattle.ebs_model.specs.declared.keys.VolKey.{VolKey}
use Rattle.ebs_model.specs.declared.rows.LockState.{LockState}
use Rattle.ebs_model.specs.declared.rows.LockState.TheVariants as lock
use Rattle.ebs_model.specs.declared.rows.Tier.{Tier}
use Rattle.ebs_model.specs.declared.rows.Tier.TheVariants.{Standard, Archived, Temporary}
use Rattle.ebs_model.specs.declared.rules.Rule.{Rule}
use Rattle.ebs_model.specs.declared.rules.RuleLock.{RuleLock}
use Rattle.ebs_model.specs.declared.rules.RuleLock.TheVariants.{Unlocked, Locked, Pending}
use Rattle.ebs_model.specs.declared.policy.Policy.{Policy}
use Rattle.ebs_model.specs.declared.policy.Retain.{Retain}
use Rattle.ebs_model.specs.declared.policy.Retain.TheVariants as retain
use Rattle.ebs_model.specs.Limits.{is_size, is_description, are_tags, is_retention, are_rule_tags, are_targets, is_interval, is_time_of_day, is_retain}
use Rattle.ebs_model.specs.Quotas.{most_shared, most_tokens}
use Rattle.ebs_records.specs.Records.{is_moment, is_index}
use Rattle.ebs_records.specs.Fields.{IsWord, IsMoment, IsOptional, AreMembers}
use Rattle.ebs_records.specs.States.{IsRetain, IsLock, IsTier, IsRuleLock}
use Rattle.ebs_records.specs.Policies.{IsRuleRow, IsPolicy}
use Rattle.ebs_checkpoints.specs.declared.owned.AccountRow.{AccountRow}
use Rattle.ebs_checkpoints.specs.declared.owned.VolPoint.{VolPoint}
use Rattle.ebs_checkpoints.specs.declared.snapshots.SnapPoint.{SnapPoint}
use Rattle.ebs_checkpoints.specs.declared.nodes.CopyRow.{CopyRow}
use Rattle.ebs_checkpoints.specs.declared.nodes.EntryRow.{EntryRow}
use Rattle.ebs_checkpoints.specs.declared.nodes.NodeRow.{NodeRow}
use Rattle.ebs_checkpoints.specs.Nodes.{IsEntry, IsCopy, IsNode}
use Rattle.ebs_checkpoints.specs.Owned.{IsAccountRow, IsVolPoint}
use Rattle.ebs_checkpoints.specs.Snapshots.{IsSnapPoint}
use Rattle.ebs_row_rules.specs.Order.{ascends, has_ordered_parts, has_ordered_entries}
use Rattle.ebs_row_rules.specs.Limits.{is_end, is_end_given, has_lock_end, has_restore_end, is_rule_lock, is_token_within, is_account_within, is_timeout_of, has_moments, has_ends, is_told_within, has_copy_index, is_snapshot_within, is_volume_within, is_rule_within, is_policy_within, is_node_within}
use Rattle.ebs_row_rules.specs.Owners.{has_used_tokens}
use Rattle.ebs_lawful_points.proofs.Parts.{two, three, four, six, each-of, weaker, both}
use Rattle.ebs_lawful_points.proofs.SnapPoints.{same, less, no_more}
use Rattle.ebs_lawful_points.proofs.VolPoints.{counters-of}
use Rattle.ebs_point_rules.specs.Values.{HasAccountValues, HasCopyValues, HasSnapValues, HasVolValues, HasRuleValues, HasPolicyValues, HasEntryValues, HasNodeValues}
use Rattle.ebs_point_rules.proofs.Texts.{description-text, tags-texts, targets-texts, rule-tags-texts}
use Rattle.ebs_point_rules.proofs.Calls.{moment-long, size-small, timeout-small, tokens-spelled}
use Rattle.ebs_point_rules.proofs.Few.{few-rise}

-- ---- indexes

index-low : (index : ℕ) → is_index index ≡ true → index < 2 ^ 25
index-low index e = less index (2 ^ 25) e

word-of : (n : ℕ) → n < 2 ^ 25 → IsWord n
word-of n h = omega (arith, h)

module _ {X : Type 0} (key : X → ℕ) (xs : List X) (inside : list_all (λ x. is_index (key x)) xs ≡ true) (up : ascends nat_cmp key xs ≡ true) where
  pub indexes-low : AllByRecursion (λ x. key x < 2 ^ 25) xs
  indexes-low = weaker (λ (x : X). is_index (key x) ≡ true) (λ (x : X). key x < 2 ^ 25) (λ x e. index-low (key x) e) xs (each-of (λ x. is_index (key x)) xs inside)

  pub indexes-short : length xs < 2 ^ 32
  indexes-short = let few = few-rise key (2 ^ 25) xs indexes-low up in omega (arith, few)

-- ---- ends

end-long : (at : Moment) → is_end at ≡ true → IsMoment at
end-long at e = early at.second e
  where
    early : (n : ℕ) → nat_le n (2 ^ 37) ≡ true → n < 2 ^ 64
    early n e = grind (arith, nat_tests, e)

lock-spelled : (l : LockState) → has_lock_end l ≡ true → IsLock l
lock-spelled lock.None e = tt
lock-spelled (lock.Governance until) e = end-long until e
lock-spelled (lock.Compliance until cool_end) e = let both = two (is_end until) (is_end cool_end) e in (end-long until both.0, end-long cool_end both.1)

tier-spelled : (t : Tier) → has_restore_end t ≡ true → IsTier t
tier-spelled Standard e = tt
tier-spelled Archived e = tt
tier-spelled (Temporary until) e = end-long until e

stay-spelled : (o : Option Moment) → is_end_given o ≡ true → IsOptional IsMoment o
stay-spelled None e = tt
stay-spelled (Some at) e = end-long at e

timeout-spelled : (volume : Option VolKey) (minutes : ℕ) → is_timeout_of volume minutes ≡ true → IsWord minutes
timeout-spelled None minutes e = let few = timeout-small minutes e in omega (arith, few)
timeout-spelled (Some volume) minutes e = let none = same minutes 0 e in omega (arith, none)

-- ---- accounts, snapshots and volumes

pub account-spelled : (a : AccountRow) → is_account_within a ≡ true → has_used_tokens a ≡ true → HasAccountValues a → IsAccountRow a
account-spelled a inside used f =
    let c = counters-of a inside in
    let snaps = c.snaps in
    let vols = c.vols in
    let rules = c.rules in
    let policies = c.policies in
    let tokens = two (nat_le (length a.tokens) most_tokens) (list_all is_token_within a.tokens) c.tokens in
    let few = no_more (length a.tokens) most_tokens tokens.0 in
    (f.account, (omega (arith, snaps), (omega (arith, vols), (omega (arith, rules), (omega (arith, policies), (omega (arith, few), tokens-spelled a used tokens.1 f.tokens))))))

copies-spelled : (cs : List CopyRow) → list_all has_copy_index cs ≡ true → ascends nat_cmp (λ (c : CopyRow). c.index) cs ≡ true → AllByRecursion HasCopyValues cs → AreMembers IsCopy cs
copies-spelled cs inside up f = (
  indexes-short (λ (c : CopyRow). c.index) cs inside up,
  weaker (λ (c : CopyRow). (c.index < 2 ^ 25) × HasCopyValues c) IsCopy (λ c h. (word-of c.index h.0, h.1)) cs (both (λ (c : CopyRow). c.index < 2 ^ 25) HasCopyValues cs (indexes-low (λ (c : CopyRow). c.index) cs inside up) f),
)

pub snap-spelled : (p : SnapPoint) → is_snapshot_within p ≡ true → has_ordered_parts p ≡ true → HasSnapValues p → IsSnapPoint p
snap-spelled p inside up f =
    let limits = six (is_size p.size) (has_moments p) (has_ends p) (is_told_within p) (list_all is_index p.put) (list_all has_copy_index p.copies) inside in
    let moments = three (is_moment p.start) (is_moment p.last) (is_timeout_of p.volume p.timeout) limits.1 in
    let ends = three (has_lock_end p.lock) (has_restore_end p.tier) (is_end_given p.bin_end) limits.2 in
    let told = three (is_description p.description) (are_tags p.tags) (nat_le (length p.shared) most_shared) limits.3 in
    let lists = three (ascends nat_cmp (λ n. n) p.put) (ascends nat_cmp (λ n. n) p.shared) (ascends nat_cmp (λ (c : CopyRow). c.index) p.copies) up in
    let small = size-small p.size limits.0 in
    let few = no_more (length p.shared) most_shared told.2 in
    let puts : AreMembers IsWord p.put = (
      indexes-short (λ (n : ℕ). n) p.put limits.4 lists.0,
      weaker (λ (n : ℕ). n < 2 ^ 25) IsWord (λ n h. word-of n h) p.put (indexes-low (λ (n : ℕ). n) p.put limits.4 lists.0),
    ) in (
      (f.key, (omega (arith, small), f.line)),
      (
        (f.parent, (f.volume, f.policy)),
        (
          (moment-long p.start moments.0, (timeout-spelled p.volume p.timeout moments.2, moment-long p.last moments.1)),
          (
            (tt, puts),
            (
              (description-text p.description told.0 f.description, (tags-texts p.tags told.1 f.tags, ((omega (arith, few), f.shared), tt))),
              (
                (lock-spelled p.lock ends.0, (tier-spelled p.tier ends.1, stay-spelled p.bin_end ends.2)),
                (f.node, copies-spelled p.copies limits.5 lists.2 f.copies),
              ),
            ),
          ),
        ),
      ),
    )

pub vol-spelled : (v : VolPoint) → is_volume_within v ≡ true → HasVolValues v → IsVolPoint v
vol-spelled v inside f =
    let limits = two (is_size v.row.size) (are_tags v.row.tags) inside in
    let small = size-small v.row.size limits.0 in
    (f.key, (omega (arith, small), (f.line, (f.origin, (tags-texts v.row.tags limits.1 f.tags, f.node)))))

-- ---- rules and policies

few-days : (days most : ℕ) → most ≤ 365 → nat_le days most ≡ true → IsWord days
few-days days most small e = grind (arith, nat_tests, small, e)

rule-lock-spelled : (l : RuleLock) → is_rule_lock l ≡ true → IsRuleLock l
rule-lock-spelled Unlocked e = tt
rule-lock-spelled (Locked delay) e = few-days delay 30 (omega arith) (two (nat_le 7 delay) (nat_le delay 30) e).1
rule-lock-spelled (Pending end) e = end-long end e

pub rule-spelled : (r : Rule) → is_rule_within r ≡ true → HasRuleValues r → IsRuleRow r
rule-spelled r inside f =
    let limits = four (is_retention r.days) (are_rule_tags r.tags) (is_description r.description) (is_rule_lock r.lock) inside in
    let days = few-days r.days 365 (omega arith) (two (nat_le 1 r.days) (nat_le r.days 365) limits.0).1 in
    (f.key, (days, (rule-tags-texts r.tags limits.1 f.tags, (description-text r.description limits.2 f.description, rule-lock-spelled r.lock limits.3))))

any-below : (hours limit : ℕ) (ns : List ℕ) → list_all (λ n. nat_lt n limit) ns ≡ true → list_any (λ n. n == hours) ns ≡ true → hours < limit
any-below hours limit [] all there = absurd (cc)
any-below hours limit (n ∷ ns) all there = by (any-below hours limit ns both.1) (n == hours) refl there
  where
    both : (nat_lt n limit ≡ true) × (list_all (λ n. nat_lt n limit) ns ≡ true)
    both = two (nat_lt n limit) (list_all (λ n. nat_lt n limit) ns) all

    below : (a b c : ℕ) → (a == b) ≡ true → nat_lt a c ≡ true → b < c
    below a b c e l = grind (arith, nat_tests)

    by : (list_any (λ n. n == hours) ns ≡ true → hours < limit) → (b : Bool) → (n == hours) ≡ b → (b || list_any (λ n. n == hours) ns) ≡ true → hours < limit
    by again true is h = below n hours limit is both.0
    by again false is h = again h

interval-spelled : (hours : ℕ) → is_interval hours ≡ true → IsWord hours
interval-spelled hours e = let few = any-below hours 25 (1 ∷ 2 ∷ 3 ∷ 4 ∷ 6 ∷ 8 ∷ 12 ∷ 24 ∷ []) refl e in omega (arith, few)

kept-spelled : (n most : ℕ) → most ≤ 36500 → (nat_le 1 n && nat_le n most) ≡ true → IsWord n
kept-spelled n most small e = let few = no_more n most (two (nat_le 1 n) (nat_le n most) e).1 in omega (arith, few, small)

retain-spelled : (kept : Retain) → is_retain kept ≡ true → IsRetain kept
retain-spelled (retain.Count n) e = kept-spelled n 1000 (omega arith) e
retain-spelled (retain.Days n) e = kept-spelled n 36500 (omega arith) e
retain-spelled (retain.Weeks n) e = kept-spelled n 5200 (omega arith) e
retain-spelled (retain.Months n) e = kept-spelled n 1200 (omega arith) e
retain-spelled (retain.Years n) e = kept-spelled n 100 (omega arith) e

pub policy-spelled : (p : Policy) → is_policy_within p ≡ true → HasPolicyValues p → IsPolicy p
policy-spelled p inside f =
    let limits = six (are_targets p.targets) (is_interval p.hours) (is_time_of_day p.at) (is_retain p.retain) (are_tags p.add) (is_moment p.last) inside in
    let day = less p.at 86400 (two (nat_lt p.at 86400) _ limits.2).0 in
    (f.key, (targets-texts p.targets limits.0 f.targets, (interval-spelled p.hours limits.1, (omega (arith, day), (retain-spelled p.retain limits.3, (tags-texts p.add limits.4 f.add, moment-long p.last limits.5))))))

-- ---- nodes

pub node-spelled : (n : NodeRow) → is_node_within n ≡ true → has_ordered_entries n ≡ true → HasNodeValues n → IsNode n
node-spelled n inside up f = (
  f.number,
  (
    f.parent,
    (
      tt,
      (
        indexes-short (λ (e : EntryRow). e.index) n.entries inside up,
        weaker (λ (e : EntryRow). (e.index < 2 ^ 25) × HasEntryValues e) IsEntry (λ e h. (word-of e.index h.0, h.1)) n.entries
            (both (λ (e : EntryRow). e.index < 2 ^ 25) HasEntryValues n.entries (indexes-low (λ (e : EntryRow). e.index) n.entries inside up) f.entries),
      ),
    ),
  ),
)
