-- Rows of which a checkpoint's rules hold can be put back.
use Rattle.std.proofs.Common.{◌≡◌, ℕ, ◌+◌, ◌<◌, ◌≤◌, ◌^◌, Bool, true, false, cond, not, ◌&&◌, ◌||◌, ◌==◌, List, [], All, Option, Some, None, is_some, refl, sym, ap, subst, ◌∙◌, arith}
use Rattle.std.specs.Prelude.{nat_le, nat_lt}
use Rattle.std.proofs.lemmas.Bool.Decides.{nat_tests}
use Rattle.std.proofs.lemmas.List.Elements.{All-from_recursion, All-weaker}
use Rattle.std.specs.List.{list_all}
use Rattle.std.specs.Cmp.{nat_cmp_total}
use Rattle.std.specs.FinMap.{contains_key, get, insert, get-insert}
use Rattle.ebs_tables.proofs.MapEdits.{tied}
use Rattle.ebs_model.specs.declared.keys.VolKey.{VolKey}
use Rattle.ebs_model.specs.declared.rules.Rule.{Rule}
use Rattle.ebs_model.specs.declared.policy.Policy.{Policy}
use Rattle.ebs_model.specs.declared.request.Request.{Request}
use Rattle.ebs_model.specs.declared.request.Request.TheVariants.{StartSnapshot, CreateVolume}
use Rattle.ebs_model.specs.Limits.{is_size, is_description, are_tags, are_rule_tags, are_targets, is_retention, is_interval, is_time_of_day, is_retain}
use Rattle.ebs_model.specs.Rows.{Rows}
use Rattle.ebs_records.specs.declared.record.Record.{Record}
use Rattle.ebs_records.specs.declared.record.Record.TheVariants.{Accepted, Advance, Moved}
use Rattle.ebs_records.specs.Records.{is_moment, is_index}
use Rattle.ebs_checkpoints.specs.declared.owned.AccountRow.{AccountRow}
use Rattle.ebs_checkpoints.specs.declared.owned.TokenPoint.{TokenPoint}
use Rattle.ebs_checkpoints.specs.declared.owned.VolPoint.{VolPoint}
use Rattle.ebs_checkpoints.specs.declared.snapshots.SnapPoint.{SnapPoint}
use Rattle.ebs_row_rules.specs.Limits.{is_rule_lock, is_timeout_of, has_moments, has_ends, is_told_within, has_copy_index, is_account_within, is_snapshot_within, is_volume_within, is_rule_within, is_policy_within}
use Rattle.ebs_row_rules.specs.Owners.{listed, is_made, is_volume_of, is_policy_of, is_owned_snapshot, is_owned_volume, is_owned_rule, has_text, is_use, is_first_use, has_used_tokens}
use Rattle.ebs_node_rules.specs.States.{is_none_of, is_standard, is_plain, is_upload_or_done}
use Rattle.ebs_recovery.specs.Bases.{row_of, has_own, own_of}
use Rattle.ebs_catalog.specs.Decided.{HasLimits}
use Rattle.ebs_lawful_points.proofs.Parts.{two, three, four, six, each-of, weaker, both}
use Rattle.ebs_lawful_points.proofs.Listed.{maker}
use Rattle.ebs_lawful_points.proofs.SnapPoints.{no_more, less}
use Rattle.ebs_lawful_points.proofs.VolPoints.{counters-of}
use Rattle.ebs_restored_rows.specs.Placed.{Books, with_own}
use Rattle.ebs_restored_rows.specs.Restores.{HasRuleNumbers, MayRestoreAccount, MayRestorePolicy, MayRestoreSnapshot, MayRestoreTokens, MayRestoreVolume}
use Rattle.ebs_restored_rows.specs.Said.{owns_said, books_said}
use Rattle.ebs_restored_rows.specs.Shelves.{MayShelve}
use Rattle.ebs_restored_rows.proofs.FoundRows.{owner-there}
use Rattle.ebs_restored_rows.proofs.Ruled.{shelf-there}

-- what follows of each row's own tests follows of the list's
each : {X : Type 0} (test : X → Bool) (P : X → Type 0) → ((x : X) → test x ≡ true → P x) → (xs : List X) → list_all test xs ≡ true → All P xs
each test P gives xs all = All-from_recursion P xs (weaker (λ x. test x ≡ true) P gives xs (each-of test xs all))

each-by : {X : Type 0} (first second : X → Bool) (P : X → Type 0) → ((x : X) → first x ≡ true → second x ≡ true → P x) → (xs : List X) → list_all first xs ≡ true → list_all second xs ≡ true → All P xs
each-by first second P gives xs all more =
    All-from_recursion P xs (weaker (λ x. (first x ≡ true) × (second x ≡ true)) P (λ x h. gives x h.0 h.1) xs
    (both (λ x. first x ≡ true) (λ x. second x ≡ true) xs (each-of first xs all) (each-of second xs more)))

-- ---- whose number was made, that account has begun

begun-snap : (a : AccountRow) (n : ℕ) → n < a.next_snap → has_own a ≡ true
begun-snap a n l = positive (a.next_snap + (a.next_vol + a.next_policy)) (omega (arith, l))
  where
    positive : (m : ℕ) → 1 ≤ m → nat_lt 0 m ≡ true
    positive m l = grind (arith, nat_tests)

begun-vol : (a : AccountRow) (n : ℕ) → n < a.next_vol → has_own a ≡ true
begun-vol a n l = positive (a.next_snap + (a.next_vol + a.next_policy)) (omega (arith, l))
  where
    positive : (m : ℕ) → 1 ≤ m → nat_lt 0 m ≡ true
    positive m l = grind (arith, nat_tests)

-- ---- volumes, policies and accounts

pub volumes-may : (accounts : List AccountRow) (vs : List VolPoint) → list_all is_volume_within vs ≡ true → list_all (is_owned_volume accounts) vs ≡ true → All (MayRestoreVolume (owns_said accounts)) vs
volumes-may accounts = each-by is_volume_within (is_owned_volume accounts) (MayRestoreVolume (owns_said accounts)) (λ v inside owned.
    let made = maker (λ (a : AccountRow). a.next_vol) v.row.key.number (listed accounts v.row.key.account) owned in
    record { owner = owner-there accounts v.row.key.account made.0 made.1 (begun-vol made.0 v.row.key.number made.2); size = (two (is_size v.row.size) (are_tags v.row.tags) inside).0 })

pub policies-may : (ps : List Policy) → list_all is_policy_within ps ≡ true → All MayRestorePolicy ps
policies-may = each is_policy_within MayRestorePolicy (λ p inside.
    let all = six (are_targets p.targets) (is_interval p.hours) (is_time_of_day p.at) (is_retain p.retain) (are_tags p.add) (is_moment p.last) inside in
    record { schedule = joined (is_interval p.hours) (is_time_of_day p.at) all.1 all.2; retain = all.3 })
  where
    joined : (a b : Bool) → a ≡ true → b ≡ true → (a && b) ≡ true
    joined a b e f = rw (e, f) refl

uses : (a : AccountRow) (t : TokenPoint) (request : Request) → is_use a t request ≡ true → has_own a ≡ true
uses a t (StartSnapshot size parent description tags token timeout) e = begun-snap a t.number (less t.number a.next_snap (two (has_text token t.text) (nat_lt t.number a.next_snap) e).1)
uses a t (CreateVolume origin size tags token) e = begun-vol a t.number (less t.number a.next_vol (three (is_some size) (has_text token t.text) (nat_lt t.number a.next_vol) e).2)
uses a t request e = absurd (cc)

first-uses : (a : AccountRow) (t : TokenPoint) (r : Record) → is_first_use a t r ≡ true → has_own a ≡ true
first-uses a t (Accepted call) e = uses a t call.request (three (call.at.second == t.at.second) (call.account == a.account) (is_use a t call.request) e).2
first-uses a t (Advance at) e = absurd (cc)
first-uses a t (Moved transfer) e = absurd (cc)

pub accounts-may : (accounts : List AccountRow) → list_all has_used_tokens accounts ≡ true → All MayRestoreAccount accounts
accounts-may = each has_used_tokens MayRestoreAccount (λ a used.
    each (λ (t : TokenPoint). is_first_use a t t.first) (λ (t : TokenPoint). has_own a ≡ true) (λ t e. first-uses a t t.first e) a.tokens used)

pub numbers-may : (accounts : List AccountRow) → list_all is_account_within accounts ≡ true → All HasRuleNumbers accounts
numbers-may = each is_account_within HasRuleNumbers (λ a inside. (counters-of a inside).rules)

-- an account that has begun is there, once its next numbers are
pub tokens-may : (rows new : Rows) (a : AccountRow) → new ≡ with_own rows a.account (own_of a) → MayRestoreAccount a → MayRestoreTokens new.own a.account a.tokens
tokens-may rows new a is may = subst (λ (r : Rows). MayRestoreTokens r.own a.account a.tokens) (sym is)
    (All-weaker (λ (t : TokenPoint). has_own a ≡ true) (λ (t : TokenPoint). contains_key (with_own rows a.account (own_of a)).own a.account ≡ true) (λ t begun. there begun) a.tokens may)
  where
    there : has_own a ≡ true → contains_key (with_own rows a.account (own_of a)).own a.account ≡ true
    there begun = ap (λ b. contains_key (cond b (record rows { own = insert rows.own a.account (own_of a) }) rows).own a.account) begun
        ∙ ap is_some (get-insert nat_cmp_total rows.own a.account (own_of a) a.account) ∙ ap (λ b. is_some (cond b (Some (own_of a)) (get rows.own a.account))) (tied nat_cmp_total a.account)

-- ---- snapshots

none-of : {X : Type 0} (o : Option X) → not (is_some o) ≡ true → is_some o ≡ true → ⊥
none-of None e f = absurd (cc)
none-of (Some x) e f = absurd (cc)

-- where the first doesn't hold
second : (a b : Bool) → a ≡ false → (a || b) ≡ true → b ≡ true
second true b is e = absurd (cc)
second false b is e = e

timed : (volume : Option VolKey) (minutes : ℕ) → not (is_some volume) ≡ true → is_timeout_of volume minutes ≡ true → 1 ≤ minutes
timed None minutes none e = let least : 10 ≤ minutes = no_more 10 minutes (two (nat_le 10 minutes) (nat_le minutes 4320) e).0 in omega (arith, least)
timed (Some volume) minutes none e = absurd (cc)

completed-in-bin : (p : SnapPoint) → is_plain p ≡ true → is_some p.bin_end ≡ true → p.completed ≡ true
completed-in-bin p plain binned = by p.completed refl
  where
    by : (b : Bool) → p.completed ≡ b → p.completed ≡ true
    by true is = is
    by false is = absurd (none-of p.bin_end (two (not (is_some p.bin_end)) (is_none_of p.copies && is_standard p.tier) (second p.completed _ is plain)).0 binned)

pub limits-of : (p : SnapPoint) → is_snapshot_within p ≡ true → is_plain p ≡ true → is_upload_or_done p ≡ true → HasLimits (row_of p)
limits-of p inside plain upload =
    let all = six (is_size p.size) (has_moments p) (has_ends p) (is_told_within p) (list_all is_index p.put) (list_all has_copy_index p.copies) inside in
    let moments = three (is_moment p.start) (is_moment p.last) (is_timeout_of p.volume p.timeout) all.1 in
    record {
      size = all.0;
      start = no_more p.start.second (2 ^ 36) moments.0;
      timeout = λ pending. timed p.volume p.timeout (second p.completed (not (is_some p.volume)) pending upload) moments.2;
      binned = completed-in-bin p plain;
    }

pub snapshots-may : (accounts : List AccountRow) (ps : List SnapPoint) → list_all is_snapshot_within ps ≡ true → list_all is_plain ps ≡ true → list_all is_upload_or_done ps ≡ true → list_all (is_owned_snapshot accounts) ps ≡ true
    → All (MayRestoreSnapshot (owns_said accounts)) ps
snapshots-may accounts ps inside plain uploads owned =
    All-from_recursion (MayRestoreSnapshot (owns_said accounts)) ps
    (weaker (λ (p : SnapPoint). ((is_snapshot_within p ≡ true) × (is_plain p ≡ true)) × ((is_upload_or_done p ≡ true) × (is_owned_snapshot accounts p ≡ true))) (MayRestoreSnapshot (owns_said accounts)) one ps
    (both (λ (p : SnapPoint). (is_snapshot_within p ≡ true) × (is_plain p ≡ true)) (λ (p : SnapPoint). (is_upload_or_done p ≡ true) × (is_owned_snapshot accounts p ≡ true)) ps
    (both (λ (p : SnapPoint). is_snapshot_within p ≡ true) (λ (p : SnapPoint). is_plain p ≡ true) ps (each-of is_snapshot_within ps inside) (each-of is_plain ps plain))
    (both (λ (p : SnapPoint). is_upload_or_done p ≡ true) (λ (p : SnapPoint). is_owned_snapshot accounts p ≡ true) ps (each-of is_upload_or_done ps uploads) (each-of (is_owned_snapshot accounts) ps owned))))
  where
    one : (p : SnapPoint) → ((is_snapshot_within p ≡ true) × (is_plain p ≡ true)) × ((is_upload_or_done p ≡ true) × (is_owned_snapshot accounts p ≡ true)) → MayRestoreSnapshot (owns_said accounts) p
    one p h =
        let mine = three (is_made (λ (a : AccountRow). a.next_snap) p.key.number (listed accounts p.key.account)) (is_volume_of p.key.account p.volume) (is_policy_of p.key.account p.policy) h.1.1 in
        let made = maker (λ (a : AccountRow). a.next_snap) p.key.number (listed accounts p.key.account) mine.0 in
        record { owner = owner-there accounts p.key.account made.0 made.1 (begun-snap made.0 p.key.number made.2); limits = limits-of p h.0.0 h.0.1 h.1.0 }

-- ---- rules

pub rules-may : (accounts : List AccountRow) (books : Books) (rs : List Rule) → books ≡ books_said accounts [] → list_all is_rule_within rs ≡ true → list_all (is_owned_rule accounts) rs ≡ true → All (MayShelve books) rs
rules-may accounts books rs is = each-by is_rule_within (is_owned_rule accounts) (MayShelve books) (λ r inside owned. record {
  shelf = subst (λ (b : Books). contains_key b r.key.account ≡ true) (sym is) (shelf-there accounts r owned []);
  days = no_more 1 r.days (two (nat_le 1 r.days) (nat_le r.days 365) (four (is_retention r.days) (are_rule_tags r.tags) (is_description r.description) (is_rule_lock r.lock) inside).0).0;
}) rs
