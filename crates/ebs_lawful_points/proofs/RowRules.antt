-- A row that is within its limits has a checkpoint's rules on it.
use Rattle.std.proofs.Common.{◌≡◌, ℕ, ◌^◌, ◌<◌, ◌≤◌, arith, Bool, true, false, cond, ◌&&◌, ◌||◌, not, ◌==◌, List, [], ◌∷◌, length, map, Option, Some, None, is_some, refl, sym, ap, ◌∙◌}
use Rattle.std.specs.Prelude.{nat_le, nat_lt, nat_eq}
use Rattle.std.proofs.lemmas.Bool.Decides.{nat_tests}
use Rattle.std.specs.Option.{is_none}
use Rattle.std.specs.List.{list_all, AllByRecursion}
use Rattle.std.specs.Cmp.Lexicographic.{pointwise}
use Rattle.std.specs.declared.cmp.Ordering.TheVariants.{Less}
use Rattle.std.specs.Ordering.{nat_cmp, eq_by_cmp, is_lt}
use Rattle.std.specs.Cmp.{nat_cmp_total, nat_cmp_is}
use Rattle.std.specs.FinMap.{get, find, from_entries, get-from_entries}
use Rattle.ebs_tables.proofs.MapEdits.{tied}
use Rattle.ebs_model.specs.declared.keys.Moment.{Moment}
use Rattle.ebs_model.specs.declared.keys.VolKey.{VolKey}
use Rattle.ebs_model.specs.declared.keys.PolicyKey.{PolicyKey}
use Rattle.ebs_model.specs.declared.policy.Policy.{Policy}
use Rattle.ebs_model.specs.declared.rules.Rule.{Rule}
use Rattle.ebs_model.specs.declared.rules.RuleLock.{RuleLock}
use Rattle.ebs_model.specs.declared.rules.RuleLock.TheVariants as rule
use Rattle.ebs_model.specs.declared.rows.LockState.{LockState}
use Rattle.ebs_model.specs.declared.rows.LockState.TheVariants as lock
use Rattle.ebs_model.specs.declared.rows.Tier.{Tier}
use Rattle.ebs_model.specs.declared.rows.Tier.TheVariants.{Standard, Archived, Temporary}
use Rattle.ebs_model.specs.declared.request.Request.{Request}
use Rattle.ebs_model.specs.declared.request.Request.TheVariants.{StartSnapshot, CreateVolume}
use Rattle.ebs_model.specs.Limits.{is_size, is_size_given, is_interval, is_time_of_day, most_gib, bad_member, rises}
use Rattle.ebs_model.specs.Quotas.{last_second, most_shared}
use Rattle.ebs_model.specs.Quotas as quotas
use Rattle.ebs_records.specs.Records.{is_moment, is_index}
use Rattle.ebs_records.specs.declared.record.Record.{Record}
use Rattle.ebs_records.specs.declared.record.Record.TheVariants.{Accepted, Advance, Moved}
use Rattle.ebs_checkpoints.specs.declared.owned.AccountRow.{AccountRow}
use Rattle.ebs_checkpoints.specs.declared.owned.TokenPoint.{TokenPoint}
use Rattle.ebs_checkpoints.specs.declared.owned.VolPoint.{VolPoint}
use Rattle.ebs_checkpoints.specs.declared.snapshots.SnapPoint.{SnapPoint}
use Rattle.ebs_row_rules.specs.Limits.{is_end, is_end_given, has_lock_end, has_restore_end, is_rule_lock, is_timeout_of, has_copy_index, is_snapshot_within, is_volume_within, is_rule_within, is_policy_within, is_call_within, is_record_within, is_token_within}
use Rattle.ebs_row_rules.specs.Owners.{is_volume_of, is_policy_of, has_text, is_use, is_first_use}
use Rattle.ebs_recovery.specs.Bases.{row_of, first_of, own_of}
use Rattle.ebs_lawful.specs.Ends.{IsMoment, IsEnd}
use Rattle.ebs_lawful.specs.Snapshots.{EndsLock, EndsRestore, EndsStay, IsTimeoutOf, IsSnapRow}
use Rattle.ebs_lawful.specs.Volumes.{IsVolRow}
use Rattle.ebs_lawful.specs.Rules.{IsRuleLock, IsRule}
use Rattle.ebs_lawful.specs.Policies.{IsPolicy}
use Rattle.ebs_lawful.specs.Tokens.{HasSize, Gives, IsToken}
use Rattle.ebs_lawful.specs.Owners.{IsVolumeOf, IsPolicyOf, next_by}
use Rattle.ebs_lawful_points.specs.PointLaws.{is_its_call, SharesAscend, UploadsAreDone}
use Rattle.ebs_lawful_points.proofs.Parts.{two}
use Rattle.ebs_lawful_points.proofs.SnapPoints.{no_more, less}

pub no_more-is : (a b : ℕ) → a ≤ b → nat_le a b ≡ true
no_more-is a b h = grind (arith, nat_tests)

pub less-is : (a b : ℕ) → a < b → nat_lt a b ≡ true
less-is a b h = grind (arith, nat_tests)

pub same-is : (a b : ℕ) → a ≡ b → (a == b) ≡ true
same-is a b h = grind (arith, nat_tests)

same_number : (a b : ℕ) → (a == b) ≡ true → a ≡ b
same_number a b h = grind (arith, nat_tests)

pub moment-is : (at : Moment) → IsMoment at → is_moment at ≡ true
moment-is at h = no_more-is at.second (2 ^ 36) h

end-is : (at : Moment) → IsEnd at → is_end at ≡ true
end-is at h = no_more-is at.second (2 ^ 37) h

stay-is : (o : Option Moment) → EndsStay o → is_end_given o ≡ true
stay-is None h = refl
stay-is (Some at) h = end-is at h

lock-is : (l : LockState) → EndsLock l → has_lock_end l ≡ true
lock-is lock.None h = refl
lock-is (lock.Governance until) h = end-is until h
lock-is (lock.Compliance until cool_end) h = λ i. end-is until h.0 i && end-is cool_end h.1 i

restore-is : (t : Tier) → EndsRestore t → has_restore_end t ≡ true
restore-is Standard h = refl
restore-is Archived h = refl
restore-is (Temporary until) h = end-is until h

rule_lock-is : (l : RuleLock) → IsRuleLock l → is_rule_lock l ≡ true
rule_lock-is rule.Unlocked h = refl
rule_lock-is (rule.Locked delay) h = h
rule_lock-is (rule.Pending end) h = end-is end h

timeout-is : (volume : Option VolKey) (minutes : ℕ) → IsTimeoutOf volume minutes → is_timeout_of volume minutes ≡ true
timeout-is None minutes h = h
timeout-is (Some volume) minutes h = same-is minutes 0 h

-- ---- indexes that were put

put-there : (puts : List ℕ) (index : ℕ) → AllByRecursion (λ (i : ℕ). find nat_cmp i (map {B = ℕ × Unit {0}} (λ i. (i, tt)) puts) ≡ Some tt) puts
put-there [] index = tt
put-there (x ∷ xs) index = (ap (λ (b : Bool). cond b (Some tt) (find nat_cmp x (map {B = ℕ × Unit {0}} (λ i. (i, tt)) xs))) (tied nat_cmp_total x), later xs (put-there xs index))
  where
    by : (i : ℕ) (b : Bool) → find nat_cmp i (map {B = ℕ × Unit {0}} (λ i. (i, tt)) xs) ≡ Some tt → cond b (Some tt) (find nat_cmp i (map {B = ℕ × Unit {0}} (λ i. (i, tt)) xs)) ≡ Some tt
    by i true h = refl
    by i false h = h

    later : (ys : List ℕ) → AllByRecursion (λ (i : ℕ). find nat_cmp i (map {B = ℕ × Unit {0}} (λ i. (i, tt)) xs) ≡ Some tt) ys → AllByRecursion (λ (i : ℕ). find nat_cmp i (map {B = ℕ × Unit {0}} (λ i. (i, tt)) (x ∷ xs)) ≡ Some tt) ys
    later [] h = tt
    later (y ∷ ys) h = (by y (eq_by_cmp nat_cmp y x) h.0, later ys h.1)

index-is : (size index : ℕ) → is_size size ≡ true → index < quotas.blocks_of size → is_index index ≡ true
index-is size index fits below = let most = no_more size most_gib (two (nat_le 1 size) (nat_le size most_gib) fits).1 in less-is index (quotas.blocks_of most_gib) (omega (arith, most, below))

puts-are : (size : ℕ) (puts : List ℕ) → is_size size ≡ true → ((index : ℕ) → get (from_entries {X = Unit {0}} {R = nat_cmp} (map (λ i. (i, tt)) puts)) index ≡ Some tt → index < quotas.blocks_of size) → list_all is_index puts ≡ true
puts-are size puts fits h = each puts (put-there puts 0)
  where
    each : (ys : List ℕ) → AllByRecursion (λ (i : ℕ). find nat_cmp i (map {B = ℕ × Unit {0}} (λ i. (i, tt)) puts) ≡ Some tt) ys → list_all is_index ys ≡ true
    each [] all = refl
    each (y ∷ ys) all = λ i. index-is size y fits (h y (get-from_entries nat_cmp_total (map {B = ℕ × Unit {0}} (λ i. (i, tt)) puts) y ∙ all.0)) i && each ys all.1 i

-- ---- rows

pub snapshot-within : (p : SnapPoint) → list_all has_copy_index p.copies ≡ true → IsSnapRow p.key (row_of p) → is_snapshot_within p ≡ true
snapshot-within p copies h =
    let shared = h.shared in
    let few = no_more-is (length p.shared) most_shared shared.few in
    let start = moment-is p.start h.start in
    let last = moment-is p.last h.last in
    let timeout = timeout-is p.volume p.timeout h.timeout in
    let locks = lock-is p.lock h.lock in
    let tiers = restore-is p.tier h.tier in
    let stays = stay-is p.bin_end h.bin_end in
    let puts = puts-are p.size p.put h.size h.put in
    λ i. h.size i && ((start i && (last i && timeout i)) && ((locks i && (tiers i && stays i)) && ((h.description i && (h.tags i && few i)) && (puts i && copies i))))

pub volume-within : (v : VolPoint) → IsVolRow v.row.key v.row → is_volume_within v ≡ true
volume-within v h = λ i. h.size i && h.tags i

pub rule-within : (account number : ℕ) (r : Rule) → IsRule account number r → is_rule_within r ≡ true
rule-within account number r h = let locks = rule_lock-is r.lock h.lock in λ i. h.days i && (h.tags i && (h.description i && locks i))

pub policy-within : (p : Policy) → IsPolicy p.key p → is_policy_within p ≡ true
policy-within p h =
    let last = moment-is p.last h.last in
    let schedule = two (is_interval p.hours) (is_time_of_day p.at) h.schedule in
    λ i. h.targets i && (schedule.0 i && (schedule.1 i && (h.retain i && (h.add i && last i))))

-- ---- tokens

text-itself : (text : List ℕ) → pointwise nat_eq text text ≡ true
text-itself [] = refl
text-itself (x ∷ xs) = λ i. same-is x x refl i && text-itself xs i

gave : (token : Option (List ℕ)) (text : List ℕ) → token ≡ Some text → has_text token text ≡ true
gave token text e = ap (λ (o : Option (List ℕ)). has_text o text) e ∙ text-itself text

size-given : (size : Option ℕ) → HasSize size → (is_some size ≡ true) × (is_size_given size ≡ true)
size-given None h = absurd h
size-given (Some size) h = (refl, h)

nothing-bad : (o : Option (List ℕ)) → o ≡ None → is_none o ≡ true
nothing-bad o e = ap is_none e

call-is : (a : AccountRow) (t : TokenPoint) (request : Request) → Gives t.text request → bad_member request ≡ None → t.number < next_by request (own_of a) → (is_use a t request ≡ true) × (is_call_within request ≡ true)
call-is a t (StartSnapshot size parent description tags token timeout) gives good low =
    let said = gave token t.text gives.0 in
    let below = less-is t.number a.next_snap low in
    let fine = nothing-bad (bad_member (StartSnapshot size parent description tags token timeout)) good in
    ((λ i. said i && below i), (λ i. gives.1 i && fine i))
call-is a t (CreateVolume origin size tags token) gives good low =
    let said = gave token t.text gives.0 in
    let below = less-is t.number a.next_vol low in
    let sized = size-given size gives.1 in
    let fine = nothing-bad (bad_member (CreateVolume origin size tags token)) good in
    ((λ i. sized.0 i && (said i && below i)), (λ i. sized.1 i && fine i))
call-is a t request gives good low = absurd gives

record-is : (a : AccountRow) (t : TokenPoint) (r : Record) → is_its_call a t r ≡ true → is_moment t.at ≡ true → Gives t.text (first_of r) → bad_member (first_of r) ≡ None → t.number < next_by (first_of r) (own_of a)
    → (is_record_within r ≡ true) × (is_first_use a t r ≡ true)
record-is a t (Accepted call) its at gives good low =
    let both = two (call.at.second == t.at.second) (call.account == a.account) its in
    let is = call-is a t call.request gives good low in
    let moment : is_moment call.at ≡ true = ap (λ (n : ℕ). nat_le n (2 ^ 36)) (same_number call.at.second t.at.second both.0) ∙ at in
    ((λ i. moment i && is.1 i), (λ i. both.0 i && (both.1 i && is.0 i)))
record-is a t (Advance at) its moment gives good low = absurd (cc)
record-is a t (Moved transfer) its moment gives good low = absurd (cc)

pub token-within : (a : AccountRow) (t : TokenPoint) → is_its_call a t t.first ≡ true → IsToken (record { account = a.account; text = t.text }) (record { at = t.at; first = first_of t.first; number = t.number })
    → t.number < next_by (first_of t.first) (own_of a) → (is_token_within t ≡ true) × (is_first_use a t t.first ≡ true)
token-within a t its h low =
    let at = moment-is t.at h.at in
    let is = record-is a t t.first its at h.gives h.within low in
    ((λ i. h.text i && (at i && is.0 i)), is.1)

-- ---- owners

pub volume_of-is : (account : ℕ) (volume : Option VolKey) → IsVolumeOf account volume → is_volume_of account volume ≡ true
volume_of-is account None h = refl
volume_of-is account (Some key) h = same-is key.account account h

pub policy_of-is : (account : ℕ) (policy : Option PolicyKey) → IsPolicyOf account policy → is_policy_of account policy ≡ true
policy_of-is account None h = refl
policy_of-is account (Some key) h = same-is key.account account h

-- ---- shares, and what is of a volume

lower : (a b : ℕ) → nat_lt a b ≡ true → is_lt (nat_cmp a b) ≡ true
lower a b e = ap is_lt (sym (nat_cmp_is a b Less (less a b e)))

pub shares-ascend : SharesAscend
shares-ascend [] e = refl
shares-ascend (a ∷ []) e = refl
shares-ascend (a ∷ b ∷ accounts) e =
    let both = two (nat_lt a b) (rises (b ∷ accounts)) e in
    λ i. lower a b both.0 i && shares-ascend (b ∷ accounts) both.1 i

pub uploads-done : UploadsAreDone
uploads-done p h = by p.completed refl
  where
    by : (b : Bool) → p.completed ≡ b → (b || not (is_some p.volume)) ≡ true
    by true e = refl
    by false e = let upload = h.upload e in ap (λ (o : Option VolKey). not (is_some o)) upload.volume
