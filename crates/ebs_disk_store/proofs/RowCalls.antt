-- Changes that bring no block: nothing of one is in them, and their records are within all limits.
use Rattle.std.proofs.Common.{◌≡◌, ℕ, ◌^◌, ◌<◌, ◌≤◌, ◌*◌, nat_lt, Bool, true, false, not, List, [], ◌∷◌, length, Option, None, Some, Ok, Err, refl, ap, arith, nat_le, ◌&&◌}
use Rattle.std.specs.Option.{is_none}
use Rattle.std.specs.List.{AllByRecursion, list_all}
use Rattle.std.specs.Str.{IsUtf8}
use Rattle.std.proofs.lemmas.Bool.Decides.{nat_tests}
use Rattle.ebs_model.specs.declared.keys.Moment.{Moment}
use Rattle.ebs_model.specs.declared.tags.Tag.{Tag}
use Rattle.ebs_model.specs.declared.rules.RuleTag.{RuleTag}
use Rattle.ebs_model.specs.declared.lock.LockMode.{LockMode}
use Rattle.ebs_model.specs.declared.lock.LockMode.TheVariants.{Governance, Compliance}
use Rattle.ebs_model.specs.declared.request.Request.{Request}
use Rattle.ebs_model.specs.declared.request.Request.TheVariants.{StartSnapshot, PutSnapshotBlock, CompleteSnapshot, ListSnapshotBlocks, ListChangedBlocks, GetSnapshotBlock, DescribeSnapshot, DescribeSnapshots, DeleteSnapshot, ModifyPermission, LockSnapshot, UnlockSnapshot, ArchiveSnapshot, RestoreTier, CreateVolume, CreateSnapshot, WriteVolumeBlock, ReadVolumeBlock, DescribeVolume, DeleteVolume, CreateRule, GetRule, UpdateRule, DeleteRule, ListRules, LockRule, UnlockRule, ListBin, RestoreFromBin, CreatePolicy, GetPolicy, DeletePolicy, RunPolicy}
use Rattle.ebs_model.specs.Kept.{same, kept_request}
use Rattle.ebs_model.specs.Limits.{bad_member, has_ten_digits, is_size, is_size_given, is_sized, is_token_given, is_visible, is_term, is_cool_off, is_restore, is_description, is_tag, are_tags, has_distinct_keys, is_retention, is_retention_given, is_rule_value, is_rule_tag, has_distinct_rule_keys, are_rule_tags, are_rule_tags_given, are_accounts, are_apart, rises, is_delay, is_first_delay, are_targets, is_schedule, is_retain, unless}
use Rattle.ebs_model.specs.Machine.{Machine}
use Rattle.ebs_model.specs.declared.change.ReadRow.{ReadRow}
use Rattle.ebs_model.specs.declared.answer.Refusal.TheVariants.{BadIndex, BadSize}
use Rattle.ebs_model.specs.Refuse.{refuse_if}
use Rattle.ebs_model.specs.Step.{read, refuse_size, refuse_digest, bytes_of, writes_of}
use Rattle.ebs_kept.specs.inner.Requests.{HasNoBlock, with_digest}
use Rattle.ebs_records.specs.declared.record.Record.TheVariants.{Accepted}
use Rattle.ebs_records.specs.Fields.{IsOptional, IsWord, IsAccount, IsText, AreMembers, IsTag, IsRuleTag}
use Rattle.ebs_records.specs.Calls.{IsAsked}
use Rattle.ebs_records.specs.Records.{IsRecord, is_moment, is_within}
use Rattle.ebs_recovery.specs.Made.{bare, IsWhole}
use Rattle.ebs_recovery.specs.inner.Changes.{IsRowChange}
use Rattle.ebs_disk_store.specs.inner.Calls.{HasFields, HasTexts, HasRuleTexts}

-- nothing of a block is in it
pub record IsPlain (r : Request) : Type 0 where
  pub none : HasNoBlock r
  pub kept : kept_request r ≡ r
  pub bare : Rattle.ebs_recovery.specs.Made.bare r ≡ r
  pub whole : IsWhole r
  pub bytes : bytes_of r ≡ []
  pub writes : writes_of r ≡ 0
  pub digest : (d : List ℕ) → with_digest d r ≡ r
  pub unhashed : refuse_digest same r ≡ Ok tt

pub plain : (r : Request) → IsRowChange r → IsPlain r
plain (DeleteSnapshot key) h = record { none = tt; kept = refl; bare = refl; whole = tt; bytes = refl; writes = refl; digest = λ d. refl; unhashed = refl }
plain (LockSnapshot key mode term cool_hours) h = record { none = tt; kept = refl; bare = refl; whole = tt; bytes = refl; writes = refl; digest = λ d. refl; unhashed = refl }
plain (UnlockSnapshot key) h = record { none = tt; kept = refl; bare = refl; whole = tt; bytes = refl; writes = refl; digest = λ d. refl; unhashed = refl }
plain (ArchiveSnapshot key) h = record { none = tt; kept = refl; bare = refl; whole = tt; bytes = refl; writes = refl; digest = λ d. refl; unhashed = refl }
plain (RestoreTier key days) h = record { none = tt; kept = refl; bare = refl; whole = tt; bytes = refl; writes = refl; digest = λ d. refl; unhashed = refl }
plain (DeleteVolume key) h = record { none = tt; kept = refl; bare = refl; whole = tt; bytes = refl; writes = refl; digest = λ d. refl; unhashed = refl }
plain (CreateRule days tags description delay) h = record { none = tt; kept = refl; bare = refl; whole = tt; bytes = refl; writes = refl; digest = λ d. refl; unhashed = refl }
plain (UpdateRule key days tags description) h = record { none = tt; kept = refl; bare = refl; whole = tt; bytes = refl; writes = refl; digest = λ d. refl; unhashed = refl }
plain (DeleteRule key) h = record { none = tt; kept = refl; bare = refl; whole = tt; bytes = refl; writes = refl; digest = λ d. refl; unhashed = refl }
plain (LockRule key delay) h = record { none = tt; kept = refl; bare = refl; whole = tt; bytes = refl; writes = refl; digest = λ d. refl; unhashed = refl }
plain (UnlockRule key) h = record { none = tt; kept = refl; bare = refl; whole = tt; bytes = refl; writes = refl; digest = λ d. refl; unhashed = refl }
plain (RestoreFromBin key) h = record { none = tt; kept = refl; bare = refl; whole = tt; bytes = refl; writes = refl; digest = λ d. refl; unhashed = refl }
plain (CreatePolicy targets hours time retain add) h = record { none = tt; kept = refl; bare = refl; whole = tt; bytes = refl; writes = refl; digest = λ d. refl; unhashed = refl }
plain (GetPolicy key) h = absurd h
plain (DeletePolicy key) h = record { none = tt; kept = refl; bare = refl; whole = tt; bytes = refl; writes = refl; digest = λ d. refl; unhashed = refl }
plain (RunPolicy key) h = record { none = tt; kept = refl; bare = refl; whole = tt; bytes = refl; writes = refl; digest = λ d. refl; unhashed = refl }
plain (StartSnapshot size parent description tags token timeout) h = record { none = tt; kept = refl; bare = refl; whole = tt; bytes = refl; writes = refl; digest = λ d. refl; unhashed = refl }
plain (PutSnapshotBlock key index digest bytes) h = absurd h
plain (CompleteSnapshot key count checksum) h = record { none = tt; kept = refl; bare = refl; whole = tt; bytes = refl; writes = refl; digest = λ d. refl; unhashed = refl }
plain (ListSnapshotBlocks key page most start) h = absurd h
plain (ListChangedBlocks first second page most start) h = absurd h
plain (GetSnapshotBlock key index token) h = absurd h
plain (DescribeSnapshot key) h = absurd h
plain (DescribeSnapshots from most) h = absurd h
plain (ModifyPermission key add add_all remove remove_all) h = record { none = tt; kept = refl; bare = refl; whole = tt; bytes = refl; writes = refl; digest = λ d. refl; unhashed = refl }
plain (CreateVolume origin size tags token) h = record { none = tt; kept = refl; bare = refl; whole = tt; bytes = refl; writes = refl; digest = λ d. refl; unhashed = refl }
plain (CreateSnapshot key description tags) h = record { none = tt; kept = refl; bare = refl; whole = tt; bytes = refl; writes = refl; digest = λ d. refl; unhashed = refl }
plain (WriteVolumeBlock key index digest bytes) h = absurd h
plain (ReadVolumeBlock key index) h = absurd h
plain (DescribeVolume key) h = absurd h
plain (GetRule key) h = absurd h
plain ListRules h = absurd h
plain (ListBin from most) h = absurd h

-- ---- its record

pub unless_holds : (b : Bool) (name : List ℕ) (next : Option (List ℕ)) → unless b name next ≡ None → (b ≡ true) × (next ≡ None)
unless_holds true name next e = (refl, e)
unless_holds false name next e = absurd (cc)

few_days : (days : ℕ) → nat_le days 180 ≡ true → days < 2 ^ 32
few_days days e = grind (arith, nat_tests)

both_true : (a b : Bool) → (a && b) ≡ true → b ≡ true
both_true true b e = e
both_true false b e = absurd (cc)

days_fit : (days : Option ℕ) → is_restore days ≡ true → IsOptional IsWord days
days_fit None e = tt
days_fit (Some days) e = few_days days (both_true (nat_le 1 days) (nat_le days 180) e)

hours_few : (hours : ℕ) → nat_le hours 72 ≡ true → hours < 2 ^ 32
hours_few hours e = grind (arith, nat_tests)

hours_fit : (mode : LockMode) (hours : Option ℕ) → is_cool_off mode hours ≡ true → IsOptional IsWord hours
hours_fit mode None e = tt
hours_fit Governance (Some hours) e = absurd (cc)
hours_fit Compliance (Some hours) e = hours_few hours (both_true (nat_le 1 hours) (nat_le hours 72) e)

first_true : (a b : Bool) → (a && b) ≡ true → a ≡ true
first_true true b e = refl
first_true false b e = absurd (cc)

few_bytes : (n most : ℕ) → most ≤ 256 → nat_le n most ≡ true → n < 2 ^ 32
few_bytes n most small e = grind (arith, nat_tests, small, e)

description_fits : (o : Option (List ℕ)) → is_description o ≡ true → IsOptional IsUtf8 o → IsOptional IsText o
description_fits None e f = tt
description_fits (Some text) e f = (few_bytes (length text) 255 (omega arith) e, f)

tag_fits : (t : Tag) → is_tag t ≡ true → HasTexts t → IsTag t
tag_fits t e f =
    let rest = both_true (nat_le 1 (length t.key)) (nat_le (length t.key) 128 && nat_le (length t.value) 256) e in
    ((few_bytes (length t.key) 128 (omega arith) (first_true _ _ rest), f.0), (few_bytes (length t.value) 256 (omega arith) (both_true _ _ rest), f.1))

each_fits : (ts : List Tag) → list_all is_tag ts ≡ true → AllByRecursion HasTexts ts → AllByRecursion IsTag ts
each_fits [] e f = tt
each_fits (t ∷ ts) e f = (tag_fits t (first_true (is_tag t) (list_all is_tag ts) e) f.0, each_fits ts (both_true (is_tag t) (list_all is_tag ts) e) f.1)

token_fits : (o : Option (List ℕ)) → is_token_given o ≡ true → IsOptional IsUtf8 o → IsOptional IsText o
token_fits None e f = tt
token_fits (Some text) e f = (few_bytes (length text) 255 (omega arith) (first_true _ _ (both_true (nat_le 1 (length text)) (nat_le (length text) 255 && list_all is_visible text) e)), f)

tags_fit : (ts : List Tag) → are_tags ts ≡ true → AllByRecursion HasTexts ts → AreMembers IsTag ts
tags_fit ts e f =
    let each = first_true (list_all is_tag ts) (has_distinct_keys ts) (both_true (nat_le (length ts) 50) (list_all is_tag ts && has_distinct_keys ts) e) in
    (few_bytes (length ts) 50 (omega arith) (first_true (nat_le (length ts) 50) _ e), each_fits ts each f)

few_of : (n most : ℕ) → most ≤ 365 → nat_le n most ≡ true → n < 2 ^ 32
few_of n most small e = grind (arith, nat_tests, small, e)

retention_fits : (days : ℕ) → is_retention days ≡ true → IsWord days
retention_fits days e = few_of days 365 (omega arith) (both_true (nat_le 1 days) (nat_le days 365) e)

retention_given_fits : (days : Option ℕ) → is_retention_given days ≡ true → IsOptional IsWord days
retention_given_fits None e = tt
retention_given_fits (Some days) e = retention_fits days e

delay_fits : (delay : ℕ) → is_delay delay ≡ true → IsWord delay
delay_fits delay e = few_of delay 30 (omega arith) (both_true (nat_le 7 delay) (nat_le delay 30) e)

first_delay_fits : (tags : List RuleTag) (delay : Option ℕ) → is_first_delay tags delay ≡ true → IsOptional IsWord delay
first_delay_fits tags None e = tt
first_delay_fits [] (Some delay) e = delay_fits delay e
first_delay_fits (tag ∷ tags) (Some delay) e = absurd (cc)

value_fits : (o : Option (List ℕ)) → is_rule_value o ≡ true → IsOptional IsUtf8 o → IsOptional IsText o
value_fits None e f = tt
value_fits (Some value) e f = (few_bytes (length value) 256 (omega arith) e, f)

rule_tag_fits : (t : RuleTag) → is_rule_tag t ≡ true → HasRuleTexts t → IsRuleTag t
rule_tag_fits t e f =
    let rest = both_true (nat_le 1 (length t.key)) (nat_le (length t.key) 128 && is_rule_value t.value) e in
    ((few_bytes (length t.key) 128 (omega arith) (first_true _ _ rest), f.0), value_fits t.value (both_true _ _ rest) f.1)

each_rule_tag_fits : (ts : List RuleTag) → list_all is_rule_tag ts ≡ true → AllByRecursion HasRuleTexts ts → AllByRecursion IsRuleTag ts
each_rule_tag_fits [] e f = tt
each_rule_tag_fits (t ∷ ts) e f = (rule_tag_fits t (first_true (is_rule_tag t) (list_all is_rule_tag ts) e) f.0, each_rule_tag_fits ts (both_true (is_rule_tag t) (list_all is_rule_tag ts) e) f.1)

rule_tags_fit : (ts : List RuleTag) → are_rule_tags ts ≡ true → AllByRecursion HasRuleTexts ts → AreMembers IsRuleTag ts
rule_tags_fit ts e f =
    let each = first_true (list_all is_rule_tag ts) (has_distinct_rule_keys ts) (both_true (nat_le (length ts) 50) (list_all is_rule_tag ts && has_distinct_rule_keys ts) e) in
    (few_bytes (length ts) 50 (omega arith) (first_true (nat_le (length ts) 50) _ e), each_rule_tag_fits ts each f)

new_tags_fit : (o : Option (List RuleTag)) → are_rule_tags_given o ≡ true → IsOptional (AllByRecursion HasRuleTexts) o → IsOptional (AreMembers IsRuleTag) o
new_tags_fit None e f = tt
new_tags_fit (Some ts) e f = rule_tags_fit ts e f

few_accounts : (n : ℕ) → nat_le n 1000 ≡ true → n < 2 ^ 32
few_accounts n e = grind (arith, nat_tests)

accounts_fit : (accounts : List ℕ) → are_accounts accounts ≡ true → AllByRecursion IsAccount accounts → AreMembers IsAccount accounts
accounts_fit accounts e f = (few_accounts (length accounts) (first_true (nat_le (length accounts) 1000) (rises accounts) e), f)

long_count : (count : ℕ) → has_ten_digits count ≡ true → count < 2 ^ 64
long_count count e = below e
  where
    below : nat_lt count (10 ^ 10) ≡ true → count < 2 ^ 64
    below e = grind (arith, nat_tests, e)

asked : (r : Request) → IsRowChange r → HasFields r → bad_member r ≡ None → IsAsked (r, None)
asked (DeleteSnapshot key) h f e = record { given = _; is = refl; fit = f }
asked (LockSnapshot key mode term cool_hours) h f e =
    let limits = unless_holds (is_term term) _ _ e in
    record { given = _; is = refl; fit = (f.0, (tt, (f.1, hours_fit mode cool_hours (unless_holds (is_cool_off mode cool_hours) _ _ limits.1).0))) }
asked (UnlockSnapshot key) h f e = record { given = _; is = refl; fit = f }
asked (ArchiveSnapshot key) h f e = record { given = _; is = refl; fit = f }
asked (RestoreTier key days) h f e = record { given = _; is = refl; fit = (f, days_fit days (unless_holds (is_restore days) _ _ e).0) }
asked (DeleteVolume key) h f e = record { given = _; is = refl; fit = f }
asked (CreateRule days tags description delay) h f e =
    let kept = unless_holds (is_retention days) _ _ e in
    let tagged = unless_holds (are_rule_tags tags) _ _ kept.1 in
    let described = unless_holds (is_description description) _ _ tagged.1 in
    let locked = unless_holds (is_first_delay tags delay) _ _ described.1 in
    record { given = _; is = refl; fit = (retention_fits days kept.0, (rule_tags_fit tags tagged.0 f.0, (description_fits description described.0 f.1, first_delay_fits tags delay locked.0))) }
asked (UpdateRule key days tags description) h f e =
    let kept = unless_holds (is_retention_given days) _ _ e in
    let tagged = unless_holds (are_rule_tags_given tags) _ _ kept.1 in
    let described = unless_holds (is_description description) _ _ tagged.1 in
    record { given = _; is = refl; fit = (f.0, (retention_given_fits days kept.0, (new_tags_fit tags tagged.0 f.1.0, description_fits description described.0 f.1.1))) }
asked (DeleteRule key) h f e = record { given = _; is = refl; fit = f }
asked (LockRule key delay) h f e = record { given = _; is = refl; fit = (f, delay_fits delay (unless_holds (is_delay delay) _ _ e).0) }
asked (UnlockRule key) h f e = record { given = _; is = refl; fit = f }
asked (RestoreFromBin key) h f e = record { given = _; is = refl; fit = f }
asked (CreatePolicy targets hours time retain add) h f e =
    let aimed = unless_holds (are_targets targets) _ _ e in
    let timed = unless_holds (is_schedule hours time) _ _ aimed.1 in
    let kept = unless_holds (is_retain retain) _ _ timed.1 in
    let tagged = unless_holds (are_tags add) _ _ kept.1 in
    record { given = _; is = refl; fit = (tags_fit targets (both_true (nat_le 1 (length targets)) (are_tags targets) aimed.0) f.0, (f.1.0, (f.1.1.0, (f.1.1.1.0, tags_fit add tagged.0 f.1.1.1.1)))) }
asked (GetPolicy key) h f e = absurd h
asked (DeletePolicy key) h f e = record { given = _; is = refl; fit = f }
asked (RunPolicy key) h f e = record { given = _; is = refl; fit = f }
asked (StartSnapshot size parent description tags token timeout) h f e =
    let described = unless_holds (is_description description) _ _ e in
    let tagged = unless_holds (are_tags tags) _ _ described.1 in
    let named = unless_holds (is_token_given token) _ _ tagged.1 in
    record { given = _; is = refl; fit = (f.0, (f.1.0, (description_fits description described.0 f.1.1.0, (tags_fit tags tagged.0 f.1.1.1.0, (token_fits token named.0 f.1.1.1.1.0, f.1.1.1.1.1))))) }
asked (PutSnapshotBlock key index digest bytes) h f e = absurd h
asked (CompleteSnapshot key count checksum) h f e = record { given = _; is = refl; fit = (f.0, (long_count count (unless_holds (has_ten_digits count) _ _ e).0, f.1)) }
asked (ListSnapshotBlocks key page most start) h f e = absurd h
asked (ListChangedBlocks first second page most start) h f e = absurd h
asked (GetSnapshotBlock key index token) h f e = absurd h
asked (DescribeSnapshot key) h f e = absurd h
asked (DescribeSnapshots from most) h f e = absurd h
asked (ModifyPermission key add add_all remove remove_all) h f e =
    let added = unless_holds (are_accounts add) _ _ e in
    let removed = unless_holds (are_accounts remove && (are_apart add remove && not (add_all && remove_all))) _ _ added.1 in
    record { given = _; is = refl; fit = (f.0, (accounts_fit add added.0 f.1.0, (tt, (accounts_fit remove (first_true (are_accounts remove) _ removed.0) f.1.1, tt)))) }
asked (CreateVolume origin size tags token) h f e =
    let sized = unless_holds (is_sized origin size) _ _ e in
    let tagged = unless_holds (are_tags tags) _ _ sized.1 in
    let named = unless_holds (is_token_given token) _ _ tagged.1 in
    record { given = _; is = refl; fit = (f.0, (f.1.0, (tags_fit tags tagged.0 f.1.1.0, token_fits token named.0 f.1.1.1))) }
asked (CreateSnapshot key description tags) h f e =
    let described = unless_holds (is_description description) _ _ e in
    let tagged = unless_holds (are_tags tags) _ _ described.1 in
    record { given = _; is = refl; fit = (f.0, (description_fits description described.0 f.1.0, tags_fit tags tagged.0 f.1.1)) }
asked (WriteVolumeBlock key index digest bytes) h f e = absurd h
asked (ReadVolumeBlock key index) h f e = absurd h
asked (DescribeVolume key) h f e = absurd h
asked (GetRule key) h f e = absurd h
asked ListRules h f e = absurd h
asked (ListBin from most) h f e = absurd h

-- it reads no block
pub reads_none : (m : Machine) (r : Request) (row : ReadRow) → IsRowChange r → read same m r row ≡ Err BadIndex
reads_none m (DeleteSnapshot key) row h = refl
reads_none m (LockSnapshot key mode term cool_hours) row h = refl
reads_none m (UnlockSnapshot key) row h = refl
reads_none m (ArchiveSnapshot key) row h = refl
reads_none m (RestoreTier key days) row h = refl
reads_none m (DeleteVolume key) row h = refl
reads_none m (CreateRule days tags description delay) row h = refl
reads_none m (UpdateRule key days tags description) row h = refl
reads_none m (DeleteRule key) row h = refl
reads_none m (LockRule key delay) row h = refl
reads_none m (UnlockRule key) row h = refl
reads_none m (RestoreFromBin key) row h = refl
reads_none m (CreatePolicy targets hours time retain add) row h = refl
reads_none m (GetPolicy key) row h = absurd h
reads_none m (DeletePolicy key) row h = refl
reads_none m (RunPolicy key) row h = refl
reads_none m (StartSnapshot size parent description tags token timeout) row h = refl
reads_none m (PutSnapshotBlock key index digest bytes) row h = absurd h
reads_none m (CompleteSnapshot key count checksum) row h = refl
reads_none m (ListSnapshotBlocks key page most start) row h = absurd h
reads_none m (ListChangedBlocks first second page most start) row h = absurd h
reads_none m (GetSnapshotBlock key index token) row h = absurd h
reads_none m (DescribeSnapshot key) row h = absurd h
reads_none m (DescribeSnapshots from most) row h = absurd h
reads_none m (ModifyPermission key add add_all remove remove_all) row h = refl
reads_none m (CreateVolume origin size tags token) row h = refl
reads_none m (CreateSnapshot key description tags) row h = refl
reads_none m (WriteVolumeBlock key index digest bytes) row h = absurd h
reads_none m (ReadVolumeBlock key index) row h = absurd h
reads_none m (DescribeVolume key) row h = absurd h
reads_none m (GetRule key) row h = absurd h
reads_none m ListRules row h = absurd h
reads_none m (ListBin from most) row h = absurd h

none_true : {A : Type 0} (o : Option A) → o ≡ None → is_none o ≡ true
none_true o e = ap is_none e

-- an upload isn't said to have more blocks than an image can have
abbrev pub IsCounted : Request → Type 0
IsCounted (CompleteSnapshot key count checksum) = count ≤ 2 ^ 25
IsCounted request = Unit {0}

few_counted : (count : ℕ) → count ≤ 2 ^ 25 → nat_le count (2048 * 16384) ≡ true
few_counted count h = grind (arith, nat_tests, h)

and_true : (a b : Bool) → a ≡ true → b ≡ true → (a && b) ≡ true
and_true a b x y = (λ i. x i && y i)

passed_size : (b : Bool) → refuse_if (not b) BadSize ≡ Ok tt → b ≡ true
passed_size true e = refl
passed_size false e = absurd (cc)

within_limits : (r : Request) → IsRowChange r → bad_member r ≡ None → IsCounted r → refuse_size r ≡ Ok tt → is_within r None ≡ true
within_limits (DeleteSnapshot key) h e c s = none_true _ e
within_limits (LockSnapshot key mode term cool_hours) h e c s = none_true _ e
within_limits (UnlockSnapshot key) h e c s = none_true _ e
within_limits (ArchiveSnapshot key) h e c s = none_true _ e
within_limits (RestoreTier key days) h e c s = none_true _ e
within_limits (DeleteVolume key) h e c s = none_true _ e
within_limits (CreateRule days tags description delay) h e c s = none_true _ e
within_limits (UpdateRule key days tags description) h e c s = none_true _ e
within_limits (DeleteRule key) h e c s = none_true _ e
within_limits (LockRule key delay) h e c s = none_true _ e
within_limits (UnlockRule key) h e c s = none_true _ e
within_limits (RestoreFromBin key) h e c s = none_true _ e
within_limits (CreatePolicy targets hours time retain add) h e c s = none_true _ e
within_limits (GetPolicy key) h e c s = absurd h
within_limits (DeletePolicy key) h e c s = none_true _ e
within_limits (RunPolicy key) h e c s = none_true _ e
within_limits (StartSnapshot size parent description tags token timeout) h e c s = and_true (is_size size) _ (passed_size (is_size size) s) (none_true _ e)
within_limits (PutSnapshotBlock key index digest bytes) h e c s = absurd h
within_limits (CompleteSnapshot key count checksum) h e c s = few_counted count c
within_limits (ListSnapshotBlocks key page most start) h e c s = absurd h
within_limits (ListChangedBlocks first second page most start) h e c s = absurd h
within_limits (GetSnapshotBlock key index token) h e c s = absurd h
within_limits (DescribeSnapshot key) h e c s = absurd h
within_limits (DescribeSnapshots from most) h e c s = absurd h
within_limits (ModifyPermission key add add_all remove remove_all) h e c s = none_true _ e
within_limits (CreateVolume origin size tags token) h e c s = and_true (is_size_given size) _ (passed_size (is_size_given size) s) (none_true _ e)
within_limits (CreateSnapshot key description tags) h e c s = none_true _ e
within_limits (WriteVolumeBlock key index digest bytes) h e c s = absurd h
within_limits (ReadVolumeBlock key index) h e c s = absurd h
within_limits (DescribeVolume key) h e c s = absurd h
within_limits (GetRule key) h e c s = absurd h
within_limits ListRules h e c s = absurd h
within_limits (ListBin from most) h e c s = absurd h

le_true : (m n : ℕ) → m ≤ n → nat_le m n ≡ true
le_true m n h = grind (arith, nat_tests)

-- it is a record within all limits
pub is_record : (r : Request) → IsRowChange r → HasFields r → bad_member r ≡ None → IsCounted r → refuse_size r ≡ Ok tt → (at : Moment) (account : ℕ) → at.second ≤ 2 ^ 36 → account < 10 ^ 12
    → IsRecord (Accepted (record { at = at; account = account; request = r; slot = None }))
is_record r h f e c s at account early small = record {
  spelled = ((omega (arith, early), small), asked r h f e);
  limits = and_true (is_moment at) (is_within r None) (le_true at.second (2 ^ 36) early) (within_limits r h e c s);
}
