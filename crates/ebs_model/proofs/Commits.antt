-- What a change that rows decided leaves of rows and arrays that are kept.
use Rattle.std.proofs.Common.{◌≡◌, ℕ, ◌+◌, ◌≤◌, ◌<◌, arith, Bool, true, false, cond, not, ◌&&◌, ◌==◌, nat_le, nat_lt, List, [], ◌∷◌, length, Option, Some, None, Result, Ok, Err, unwrap_or, refl, sym, ap, subst, ◌∙◌}
use Rattle.std.proofs.lemmas.Bool.Decides.{nat_tests}
use Rattle.std.specs.Option.{option_map}
use Rattle.std.specs.FinMap.{FinMap, get, empty}
use Rattle.ebs_model.specs.declared.keys.SnapKey.{SnapKey}
use Rattle.ebs_model.specs.declared.keys.VolKey.{VolKey}
use Rattle.ebs_model.specs.declared.keys.RuleKey.{RuleKey}
use Rattle.ebs_model.specs.declared.keys.PolicyKey.{PolicyKey}
use Rattle.ebs_model.specs.declared.keys.Moment.{Moment}
use Rattle.ebs_model.specs.declared.keys.AnyKey.TheVariants.{Snap, Vol}
use Rattle.ebs_model.specs.declared.keys.AnyKey.TheVariants as any
use Rattle.ebs_model.specs.declared.policy.Policy.{Policy}
use Rattle.ebs_model.specs.declared.policy.Retain.{Retain}
use Rattle.ebs_model.specs.declared.tags.Tag.{Tag}
use Rattle.ebs_model.specs.declared.rules.Rule.{Rule}
use Rattle.ebs_model.specs.declared.rules.RuleCommand.{RuleCommand}
use Rattle.ebs_model.specs.declared.rules.RuleCommand.TheVariants as rule
use Rattle.ebs_model.specs.declared.rules.RuleChange.{RuleChange}
use Rattle.ebs_model.specs.declared.rows.SnapRow.{SnapRow}
use Rattle.ebs_model.specs.declared.rows.VolRow.{VolRow}
use Rattle.ebs_model.specs.declared.rows.TokenRow.{TokenRow}
use Rattle.ebs_model.specs.declared.request.Request.{Request}
use Rattle.ebs_model.specs.declared.request.Request.TheVariants.{StartSnapshot, PutSnapshotBlock, CompleteSnapshot, ListSnapshotBlocks, ListChangedBlocks, GetSnapshotBlock, DescribeSnapshot, DescribeSnapshots, DeleteSnapshot, ModifyPermission, LockSnapshot, UnlockSnapshot, ArchiveSnapshot, RestoreTier, CreateVolume, CreateSnapshot, WriteVolumeBlock, ReadVolumeBlock, DescribeVolume, DeleteVolume, CreateRule, GetRule, UpdateRule, DeleteRule, ListRules, LockRule, UnlockRule, ListBin, RestoreFromBin, CreatePolicy, GetPolicy, DeletePolicy, RunPolicy}
use Rattle.ebs_model.specs.declared.change.Change.{Change}
use Rattle.ebs_model.specs.declared.change.Decision.{Decision}
use Rattle.ebs_model.specs.declared.change.Decision.TheVariants as decision
use Rattle.ebs_model.specs.declared.answer.Answer.{Answer}
use Rattle.ebs_model.specs.declared.answer.Answer.TheVariants.{Started, BlockWritten, Completed, SnapshotShown, Done, TierShown, VolumeShown, RuleShown, PolicyShown}
use Rattle.ebs_model.specs.declared.answer.Kind.TheVariants as kind
use Rattle.ebs_model.specs.declared.answer.Refusal.{Refusal}
use Rattle.ebs_model.specs.declared.answer.Refusal.TheVariants.{NotFound, BadIndex, Quota}
use Rattle.ebs_model.specs.declared.answer.QuotaName.TheVariants.{SharedAccounts, Snapshots, Ids}
use Rattle.ebs_model.specs.Quotas.{most_shared, most_kept, most_ids, blocks_of}
use Rattle.ebs_model.specs.Keys.{snap_cmp}
use Rattle.ebs_model.specs.Limits.{most_gib}
use Rattle.ebs_model.specs.Refuse.{◌>>=◌, ◌>>◌, refuse_if, some_or}
use Rattle.ebs_model.specs.Arrays.{WholeArray}
use Rattle.ebs_model.specs.Time.{stays, rested, rested_row, status_at, is_failed, is_pending, is_completed}
use Rattle.ebs_model.specs.inner.Time.{has_blocks}
use Rattle.ebs_model.specs.Access.{open_upload, own, done}
use Rattle.ebs_model.specs.declared.rows.LockState.{LockState}
use Rattle.ebs_model.specs.declared.rows.Tier.{Tier}
use Rattle.ebs_model.specs.declared.lock.LockCommand.{LockCommand}
use Rattle.ebs_model.specs.declared.lock.LockCommand.TheVariants.{Lock, Unlock}
use Rattle.ebs_model.specs.Tiers.{archive, restore}
use Rattle.ebs_model.specs.Locks.{lock_change}
use Rattle.ebs_model.specs.Calls.Lock.{changed_lock, lock_answer, decide_lock}
use Rattle.ebs_model.specs.Calls.Archive.{changed_tier}
use Rattle.ebs_model.specs.Views.{lock_shown, lock_until, tier_shown, restore_until, view_of}
use Rattle.ebs_model.specs.Rows.{Rows, the_row, the_volume, the_policy, kept_count}
use Rattle.ebs_model.specs.inner.Rows.{aged_snaps}
use Rattle.ebs_model.specs.Decisions.{makes, alters, shares, ends, made_snap}
use Rattle.ebs_model.specs.Decide.{decide}
use Rattle.ebs_model.specs.Calls.Start.{next_key, by_token}
use Rattle.ebs_model.specs.Calls.Volume.{next_volume}
use Rattle.ebs_model.specs.Calls.Disk.{snapped_row}
use Rattle.ebs_model.specs.Calls.Permission.{permitted}
use Rattle.ebs_model.specs.Rules.{rule_view}
use Rattle.ebs_model.specs.Calls.Rule.{made_rules, is_creation, rule_answer, decide_rule}
use Rattle.ebs_model.specs.Calls.Bin.{binned, recovered}
use Rattle.ebs_model.specs.Calls.Policy.{next_policy}
use Rattle.ebs_model.specs.Calls.Run.{due_targets, run_decided}
use Rattle.ebs_model.specs.Machine.{array_at, aged_rows, with_arrays}
use Rattle.ebs_model.proofs.Aged.{get-aged, aged_row}
use Rattle.ebs_model.proofs.RowLaws.{get-with, with_array, same_snaps, get-aged_snaps, left_row}

-- what time leaves of the array of a row
abbrev pub left_array : ℕ → SnapRow → WholeArray → WholeArray
left_array now row array = cond (is_failed (status_at row now)) empty array

-- rows that are kept, and are the committed ones once time has passed, with arrays that are then the committed ones
module _ (now : ℕ) (f a : SnapKey → WholeArray) where
  shown-one : (q : SnapKey) (o : Option SnapRow) → ((row : SnapRow) → left_row now o ≡ Some row → left_array now row (f q) ≡ a q)
      → aged_row now (option_map (with_array (f q)) o) ≡ option_map (with_array (a q)) (left_row now o)
  shown-one q None h = refl
  shown-one q (Some row) h = by (stays now row) h
    where
      by : (b : Bool) → ((r : SnapRow) → option_map (rested_row now) (cond b (Some row) None) ≡ Some r → left_array now r (f q) ≡ a q)
          → option_map (rested now) (cond b (Some (with_array (f q) row)) None) ≡ option_map (with_array (a q)) (option_map (rested_row now) (cond b (Some row) None))
      by true h = λ i. Some (with_array (h (rested_row now row) refl i) (rested_row now row))
      by false h = refl

  pub shown-commit : (kept committed : FinMap snap_cmp SnapRow) → aged_snaps now kept ≡ committed → ((q : SnapKey) (row : SnapRow) → get committed q ≡ Some row → left_array now row (f q) ≡ a q)
      → aged_rows now (with_arrays kept f) ≡ with_arrays committed a
  shown-commit kept committed is h = same_snaps _ _ (λ q.
      let left = sym (get-aged_snaps now kept q) ∙ ap (λ m. get m q) is in
      get-aged now (with_arrays kept f) q ∙ ap (aged_row now) (get-with kept f q)
      ∙ shown-one q (get kept q) (λ row e. h q row (sym left ∙ e))
      ∙ ap (option_map (with_array (a q))) left
      ∙ sym (get-with committed a q))

-- the array of a kept row at the moment
module _ (now : ℕ) (array : WholeArray) where
  pub array-left : (o : Option SnapRow) → array_at (aged_row now (option_map (with_array array) o)) ≡ cond (has_blocks now o) array empty
  array-left None = refl
  array-left (Some row) = by (stays now row)
    where
      turned : (c : Bool) → cond c empty array ≡ cond (not c) array empty
      turned true = refl
      turned false = refl

      by : (b : Bool) → array_at (option_map (rested now) (cond b (Some (with_array array row)) None)) ≡ cond (b && not (is_failed (status_at row now))) array empty
      by true = turned (is_failed (status_at row now))
      by false = refl

  -- and of a row that time leaves
  pub array-stays : (o : Option SnapRow) (row : SnapRow) → left_row now o ≡ Some row → left_array now row array ≡ cond (has_blocks now o) array empty
  array-stays None row e = cc
  array-stays (Some r) row e = by (stays now r) e
    where
      by : (b : Bool) → option_map (rested_row now) (cond b (Some r) None) ≡ Some row → left_array now row array ≡ cond (b && not (is_failed (status_at r now))) array empty
      by true e = ap (λ (o : Option SnapRow). at o) (sym e) ∙ turned (is_failed (status_at r now))
        where
          at : Option SnapRow → WholeArray
          at None = empty
          at (Some row) = left_array now row array

          turned : (c : Bool) → cond c empty array ≡ cond (not c) array empty
          turned true = refl
          turned false = refl
      by false e = cc

-- what is known of the row of a change
pub record IsOpenRow (rows : Rows) (now : ℕ) (key : SnapKey) (row : SnapRow) : Type 0 where
  pub found : get rows.snaps key ≡ Some row
  pub is_open : is_pending (status_at row now) ≡ true

pub record IsDoneRow (rows : Rows) (now : ℕ) (key : SnapKey) (row : SnapRow) : Type 0 where
  pub found : get rows.snaps key ≡ Some row
  pub is_done : is_completed (status_at row now) ≡ true

-- and of a policy that is run: all that it makes is within the account's quotas
pub record IsRun (rows : Rows) (account : ℕ) (key : PolicyKey) (p : Policy) (now : ℕ) : Type 0 where
  pub found : get rows.policies key ≡ Some p
  pub owner : account ≡ key.account
  pub kept : kept_count rows account + length (due_targets rows key p now) ≤ most_kept
  pub ids : (next_key rows account).number + length (due_targets rows key p now) ≤ most_ids

-- an upload has at most 16384 GiB, and its timeout isn't nothing
abbrev pub IsTimely : Request → Type 0
IsTimely (StartSnapshot size parent description tags token timeout) = (size ≤ most_gib) × (1 ≤ timeout)
IsTimely request = Unit {0}

-- what is known of a change that was decided
abbrev pub Facts : Rows → ℕ → Option SnapKey → Request → ℕ → Type 0
Facts rows account made (StartSnapshot size parent description tags token timeout) now = (made ≡ Some (next_key rows account)) × (size ≤ most_gib) × (1 ≤ timeout)
Facts rows account made (PutSnapshotBlock key index digest bytes) now = (row : SnapRow) × IsOpenRow rows now key row × (index < blocks_of row.size)
Facts rows account made (CompleteSnapshot key count checksum) now = (row : SnapRow) × IsOpenRow rows now key row
Facts rows account made (DeleteSnapshot key) now = (row : SnapRow) × (get rows.snaps key ≡ Some row)
Facts rows account made (RestoreFromBin key) now = (row : SnapRow) × (get rows.snaps key ≡ Some row)
Facts rows account made (ModifyPermission key add add_all remove remove_all) now = (row : SnapRow) × IsDoneRow rows now key row
Facts rows account made (LockSnapshot key mode term cool_hours) now = (row : SnapRow) × IsDoneRow rows now key row
Facts rows account made (UnlockSnapshot key) now = (row : SnapRow) × IsDoneRow rows now key row
Facts rows account made (ArchiveSnapshot key) now = (row : SnapRow) × IsDoneRow rows now key row
Facts rows account made (RestoreTier key days) now = (row : SnapRow) × IsDoneRow rows now key row
Facts rows account made (CreateVolume origin size tags token) now = Unit {0}
Facts rows account made (CreateSnapshot volume description tags) now = (row : VolRow) × (get rows.vols volume ≡ Some row) × (made ≡ Some (next_key rows account))
Facts rows account made (WriteVolumeBlock key index digest bytes) now = (row : VolRow) × (get rows.vols key ≡ Some row) × (index < blocks_of row.size)
Facts rows account made (DeleteVolume key) now = Unit {0}
Facts rows account made (CreateRule days tags description delay) now = Unit {0}
Facts rows account made (UpdateRule key days tags description) now = Unit {0}
Facts rows account made (DeleteRule key) now = Unit {0}
Facts rows account made (LockRule key delay) now = Unit {0}
Facts rows account made (UnlockRule key) now = Unit {0}
Facts rows account made (CreatePolicy targets hours time retain add) now = Unit {0}
Facts rows account made (DeletePolicy key) now = Unit {0}
Facts rows account made (RunPolicy key) now = (p : Policy) × IsRun rows account key p now
Facts rows account made request now = ⊥

abbrev FactsOf : Rows → Decision → Type 0
FactsOf rows (decision.Change c answer) = Facts rows c.account (made_snap c.made) c.request c.at.second
FactsOf rows (decision.Kept answer) = Unit {0}
FactsOf rows (decision.View answer) = Unit {0}
FactsOf rows (decision.Read row) = Unit {0}

data IfDone {A : Type 0} (P : A → Type 0) : Result A Refusal → Type 0 where
  achieved : {x : A} → P x → IfDone P (Ok x)
  refused : {r : Refusal} → IfDone P (Err r)

after : {A B : Type 0} (P : B → Type 0) (x : Result A Refusal) (f : A → Result B Refusal) → ((v : A) → x ≡ Ok v → IfDone P (f v)) → IfDone P (x >>= f)
after P (Ok v) f h = h v refl
after P (Err r) f h = refused

passed : {B : Type 0} (P : B → Type 0) (x : Result (Unit {0}) Refusal) (y : Result B Refusal) → (x ≡ Ok tt → IfDone P y) → IfDone P (x >> y)
passed P (Ok u) y h = h refl
passed P (Err r) y h = refused

by_use : (P : Decision → Type 0) (o : Option TokenRow) (repeat : TokenRow → Result Decision Refusal) (fresh : Result Decision Refusal) → ((row : TokenRow) → IfDone P (repeat row)) → IfDone P fresh → IfDone P (by_token o repeat fresh)
by_use P None repeat fresh f g = g
by_use P (Some row) repeat fresh f g = f row

-- the row that was found, and the test that it passed
found : (rows : Rows) (key : SnapKey) (test : SnapRow → Result (Unit {0}) Refusal) (row : SnapRow) → the_row rows key test ≡ Ok row → (get rows.snaps key ≡ Some row) × (test row ≡ Ok tt)
found rows key test row e = at (get rows.snaps key) refl e
  where
    tested : (x : Result (Unit {0}) Refusal) (kept : SnapRow) → (x >> Ok kept) ≡ Ok row → (kept ≡ row) × (x ≡ Ok tt)
    tested (Ok u) kept e = (cc, refl)
    tested (Err r) kept e = cc

    at : (o : Option SnapRow) → get rows.snaps key ≡ o → (some_or o (NotFound kind.Snapshot) >>= λ kept. test kept >> Ok kept) ≡ Ok row → (get rows.snaps key ≡ Some row) × (test row ≡ Ok tt)
    at None is e = cc
    at (Some kept) is e =
        let (same, passes) = tested (test kept) kept e in
        (is ∙ ap Some same, ap test (sym same) ∙ passes)

-- the account's volume that was found
found_volume : (rows : Rows) (account : ℕ) (key : VolKey) (row : VolRow) → the_volume rows account key ≡ Ok row → get rows.vols key ≡ Some row
found_volume rows account key row e = by (not (account == key.account)) (get rows.vols key) refl e
  where
    by : (b : Bool) (o : Option VolRow) → get rows.vols key ≡ o → (refuse_if b (NotFound kind.Volume) >> some_or o (NotFound kind.Volume)) ≡ Ok row → get rows.vols key ≡ Some row
    by true o is e = cc
    by false None is e = cc
    by false (Some kept) is e = cc

-- the account's policy that was found
found_policy : (rows : Rows) (account : ℕ) (key : PolicyKey) (p : Policy) → the_policy rows account key ≡ Ok p → (get rows.policies key ≡ Some p) × (account ≡ key.account)
found_policy rows account key p e = by (account == key.account) (get rows.policies key) refl refl e
  where
    same : (a b : ℕ) → (a == b) ≡ true → a ≡ b
    same a b t = grind (arith, nat_tests)

    by : (b : Bool) (o : Option Policy) → (account == key.account) ≡ b → get rows.policies key ≡ o → (refuse_if (not b) (NotFound kind.Policy) >> some_or o (NotFound kind.Policy)) ≡ Ok p
        → (get rows.policies key ≡ Some p) × (account ≡ key.account)
    by false o t is e = cc
    by true None t is e = cc
    by true (Some kept) t is e = (cc, same account key.account t)

-- an open upload is pending
open-pending : (account : ℕ) (key : SnapKey) (now : ℕ) (row : SnapRow) → open_upload account key now row ≡ Ok tt → is_pending (status_at row now) ≡ true
open-pending account key now row e = last (own account key now row) (is_pending (status_at row now)) _ e
  where
    last : (x : Result (Unit {0}) Refusal) (b : Bool) (r : Refusal) → (x >> refuse_if (not b) r) ≡ Ok tt → b ≡ true
    last (Ok u) true r e = refl
    last (Ok u) false r e = cc
    last (Err q) b r e = cc

-- a snapshot that is done is completed
done-completed : (account : ℕ) (key : SnapKey) (now : ℕ) (row : SnapRow) → done account key now row ≡ Ok tt → is_completed (status_at row now) ≡ true
done-completed account key now row e = last (own account key now row) (is_completed (status_at row now)) _ e
  where
    last : (x : Result (Unit {0}) Refusal) (b : Bool) (r : Refusal) → (x >> refuse_if (not b) r) ≡ Ok tt → b ≡ true
    last (Ok u) true r e = refl
    last (Ok u) false r e = cc
    last (Err q) b r e = cc

below : (limit n : ℕ) (r : Refusal) → refuse_if (nat_le limit n) r ≡ Ok tt → n < limit
below limit n r e = by (nat_le limit n) refl e
  where
    by : (b : Bool) → nat_le limit n ≡ b → refuse_if b r ≡ Ok tt → n < limit
    by true t e = cc
    by false t e = grind (arith, nat_tests)

within : (limit n : ℕ) (r : Refusal) → refuse_if (nat_lt limit n) r ≡ Ok tt → n ≤ limit
within limit n r e = by (nat_lt limit n) refl e
  where
    by : (b : Bool) → nat_lt limit n ≡ b → refuse_if b r ≡ Ok tt → n ≤ limit
    by true t e = cc
    by false t e = grind (arith, nat_tests)

module _ (rows : Rows) (at : Moment) (account : ℕ) where
  put-facts : (key : SnapKey) (index : ℕ) (digest bytes : List ℕ) → IfDone (FactsOf rows) (decide rows at account (PutSnapshotBlock key index digest bytes))
  put-facts key index digest bytes =
      let ended : (row : SnapRow) → the_row rows key (open_upload account key at.second) ≡ Ok row → refuse_if (nat_le (blocks_of row.size) index) BadIndex ≡ Ok tt → IfDone (FactsOf rows) (Ok (decision.Change (alters account at (PutSnapshotBlock key index digest [])) (BlockWritten digest))) =
      λ row is within.
      let (there, passes) = found rows key (open_upload account key at.second) row is in
      achieved {x = decision.Change (alters account at (PutSnapshotBlock key index digest [])) (BlockWritten digest)} (row, record { found = there; is_open = open-pending account key at.second row passes }, below _ _ _ within) in
      search (passed, after, ended) depth 20

  complete-facts : (key : SnapKey) (count : ℕ) (checksum : Option (List ℕ)) → IfDone (FactsOf rows) (decide rows at account (CompleteSnapshot key count checksum))
  complete-facts key count checksum =
      let ended : (row : SnapRow) → the_row rows key (open_upload account key at.second) ≡ Ok row → IfDone (FactsOf rows) (Ok (decision.Change (alters account at (CompleteSnapshot key count checksum)) Completed)) =
      λ row is.
      let (there, passes) = found rows key (open_upload account key at.second) row is in
      achieved {x = decision.Change (alters account at (CompleteSnapshot key count checksum)) Completed} (row, record { found = there; is_open = open-pending account key at.second row passes }) in
      search (passed, after, ended) depth 20

  start-facts : (size : ℕ) (parent : Option SnapKey) (description : Option (List ℕ)) (tags : List Tag) (token : Option (List ℕ)) (timeout : ℕ) → (size ≤ most_gib) × (1 ≤ timeout) → IfDone (FactsOf rows) (decide rows at account (StartSnapshot size parent description tags token timeout))
  start-facts size parent description tags token timeout timely =
      let d : Decision = decision.Change (makes account at (StartSnapshot size parent description tags token timeout) (Snap (next_key rows account) ∷ [])) (Started description account parent (next_key rows account) at tags size) in
      let ended : IfDone (FactsOf rows) (Ok d) = achieved {x = d} (refl, timely.0, timely.1) in
      let again : (answer : Answer) → IfDone (FactsOf rows) (Ok (decision.Kept answer)) = λ answer. achieved {x = decision.Kept answer} tt in
      search (by_use, passed, after, ended, again) depth 20

  read-facts : (row : SnapRow) (related : Bool) → IfDone (FactsOf rows) (Ok (decision.Read (record { size = row.size; related = related })))
  read-facts row related = achieved {x = decision.Read (record { size = row.size; related = related })} tt

  permission-facts : (key : SnapKey) (add : List ℕ) (add_all : Bool) (remove : List ℕ) (remove_all : Bool) → IfDone (FactsOf rows) (decide rows at account (ModifyPermission key add add_all remove remove_all))
  permission-facts key add add_all remove remove_all =
      let ended : (row : SnapRow) → the_row rows key (done account key at.second) ≡ Ok row
      → refuse_if (nat_lt most_shared (length (permitted row.shared add remove))) (Quota SharedAccounts most_shared) ≡ Ok tt
      → IfDone (FactsOf rows) (Ok (decision.Change (shares account at (ModifyPermission key add add_all remove remove_all) (permitted row.shared add remove)) Done)) =
      λ row is room.
      let (there, passes) = found rows key (done account key at.second) row is in
      achieved {x = decision.Change (shares account at (ModifyPermission key add add_all remove remove_all) (permitted row.shared add remove)) Done}
      (row, record { found = there; is_done = done-completed account key at.second row passes }) in
      search (passed, after, ended) depth 20

  delete-facts : (key : SnapKey) → IfDone (FactsOf rows) (decide rows at account (DeleteSnapshot key))
  delete-facts key =
      let ended : (row : SnapRow) → the_row rows key (own account key at.second) ≡ Ok row → IfDone (FactsOf rows) (Ok (decision.Change (ends account at (DeleteSnapshot key) key) Done)) =
      λ row is.
      let (there, passes) = found rows key (own account key at.second) row is in
      achieved {x = decision.Change (ends account at (DeleteSnapshot key) key) Done} (row, there) in
      search (passed, after, ended) depth 20

  -- the row that was found is completed
  done-row : (key : SnapKey) (row : SnapRow) → the_row rows key (done account key at.second) ≡ Ok row → IsDoneRow rows at.second key row
  done-row key row is =
      let (there, passes) = found rows key (done account key at.second) row is in
      record { found = there; is_done = done-completed account key at.second row passes }

  -- a command on a lock
  module _ (request : Request) (key : SnapKey) (command : LockCommand) (of_key : (row : SnapRow) → IsDoneRow rows at.second key row → Facts rows account None request at.second) where
    lock-facts : IfDone (FactsOf rows) (decide_lock rows at account request key command)
    lock-facts =
        let ended : (row : SnapRow) → the_row rows key (done account key at.second) ≡ Ok row → (new : LockState) → changed_lock (lock_change row.lock command at.second) ≡ Ok new
        → IfDone (FactsOf rows) (Ok (decision.Change (alters account at request) (lock_answer (lock_shown new at.second) (lock_until new)))) =
        λ row is new changes. achieved {x = decision.Change (alters account at request) (lock_answer (lock_shown new at.second) (lock_until new))} (of_key row (done-row key row is)) in
        search (passed, after, ended) depth 20

  archive-facts : (key : SnapKey) → IfDone (FactsOf rows) (decide rows at account (ArchiveSnapshot key))
  archive-facts key =
      let ended : (row : SnapRow) → the_row rows key (done account key at.second) ≡ Ok row → (new : Tier) → changed_tier (archive row.tier at.second) ≡ Ok new
      → IfDone (FactsOf rows) (Ok (decision.Change (alters account at (ArchiveSnapshot key)) Done)) =
      λ row is new changes. achieved {x = decision.Change (alters account at (ArchiveSnapshot key)) Done} (row, done-row key row is) in
      search (passed, after, ended) depth 20

  restore-facts : (key : SnapKey) (days : Option ℕ) → IfDone (FactsOf rows) (decide rows at account (RestoreTier key days))
  restore-facts key days =
      let ended : (row : SnapRow) → the_row rows key (done account key at.second) ≡ Ok row → (new : Tier) → changed_tier (restore row.tier days at.second) ≡ Ok new
      → IfDone (FactsOf rows) (Ok (decision.Change (alters account at (RestoreTier key days)) (TierShown (restore_until new at.second) (tier_shown new at.second)))) =
      λ row is new changes. achieved {x = decision.Change (alters account at (RestoreTier key days)) (TierShown (restore_until new at.second) (tier_shown new at.second))} (row, done-row key row is) in
      search (passed, after, ended) depth 20

  view-facts : (answer : Answer) → IfDone (FactsOf rows) (Ok (decision.View answer))
  view-facts answer = achieved {x = decision.View answer} tt

  describe-facts : (key : SnapKey) → IfDone (FactsOf rows) (decide rows at account (DescribeSnapshot key))
  describe-facts key =
      let ended : (row : SnapRow) → IfDone (FactsOf rows) (Ok (decision.View (SnapshotShown false (view_of account at.second key row)))) = λ row. view-facts _ in
      search (passed, after, ended) depth 20

  create-facts : (origin : Option SnapKey) (size : Option ℕ) (tags : List Tag) (token : Option (List ℕ)) → IfDone (FactsOf rows) (decide rows at account (CreateVolume origin size tags token))
  create-facts origin size tags token =
      let key : VolKey = next_volume rows account in
      let d : ℕ → Decision = λ least. decision.Change (makes account at (CreateVolume origin (Some (unwrap_or size least)) tags token) (Vol key ∷ [])) (VolumeShown true (unwrap_or size least) origin tags key) in
      let ended : (least : ℕ) → IfDone (FactsOf rows) (Ok (d least)) = λ least. achieved {x = d least} tt in
      let again : (answer : Answer) → IfDone (FactsOf rows) (Ok (decision.Kept answer)) = λ answer. achieved {x = decision.Kept answer} tt in
      search (by_use, passed, after, ended, again) depth 20

  snap-facts : (volume : VolKey) (description : Option (List ℕ)) (tags : List Tag) → IfDone (FactsOf rows) (decide rows at account (CreateSnapshot volume description tags))
  snap-facts volume description tags =
      let key : SnapKey = next_key rows account in
      let d : VolRow → Decision = λ row. decision.Change (makes account at (CreateSnapshot volume description tags) (Snap key ∷ [])) (SnapshotShown true (view_of account at.second key (snapped_row at key volume row description tags))) in
      let ended : (row : VolRow) → the_volume rows account volume ≡ Ok row → IfDone (FactsOf rows) (Ok (d row)) = λ row is. achieved {x = d row} (row, found_volume rows account volume row is, refl) in
      search (passed, after, ended) depth 20

  write-facts : (key : VolKey) (index : ℕ) (digest bytes : List ℕ) → IfDone (FactsOf rows) (decide rows at account (WriteVolumeBlock key index digest bytes))
  write-facts key index digest bytes =
      let d : Decision = decision.Change (alters account at (WriteVolumeBlock key index digest [])) (BlockWritten digest) in
      let ended : (row : VolRow) → the_volume rows account key ≡ Ok row → refuse_if (nat_le (blocks_of row.size) index) BadIndex ≡ Ok tt → IfDone (FactsOf rows) (Ok d) =
      λ row is within. achieved {x = d} (row, found_volume rows account key row is, below _ _ _ within) in
      search (passed, after, ended) depth 20

  fetch-facts : (key : VolKey) (index : ℕ) → IfDone (FactsOf rows) (decide rows at account (ReadVolumeBlock key index))
  fetch-facts key index =
      let ended : (row : VolRow) → IfDone (FactsOf rows) (Ok (decision.Read (record { size = row.size; related = true }))) = λ row. achieved {x = decision.Read (record { size = row.size; related = true })} tt in
      search (passed, after, ended) depth 20

  volume-facts : (key : VolKey) → IfDone (FactsOf rows) (decide rows at account (DescribeVolume key))
  volume-facts key =
      let ended : (row : VolRow) → IfDone (FactsOf rows) (Ok (decision.View (VolumeShown false row.size row.origin row.tags key))) = λ row. view-facts _ in
      search (passed, after, ended) depth 20

  drop-facts : (key : VolKey) → IfDone (FactsOf rows) (decide rows at account (DeleteVolume key))
  drop-facts key =
      let d : Decision = decision.Change (alters account at (DeleteVolume key)) Done in
      let ended : IfDone (FactsOf rows) (Ok d) = achieved {x = d} tt in
      search (passed, after, ended) depth 20

  rule-facts : (request : Request) (command : RuleCommand) → ((change : RuleChange) → Facts rows account (made_snap (made_rules command change)) request at.second) → IfDone (FactsOf rows) (decide_rule rows at account request command)
  rule-facts request command h =
      let d : RuleChange → Decision = λ change. decision.Change (makes account at request (made_rules command change)) (rule_answer (is_creation command) at.second change) in
      let ended : (change : RuleChange) → IfDone (FactsOf rows) (Ok (d change)) = λ change. achieved {x = d change} (h change) in
      search (passed, after, ended) depth 20

  get_rule-facts : (key : RuleKey) → IfDone (FactsOf rows) (decide rows at account (GetRule key))
  get_rule-facts key =
      let ended : (rule : Rule) → IfDone (FactsOf rows) (Ok (decision.View (RuleShown false (rule_view at.second rule)))) = λ rule. view-facts _ in
      search (passed, after, ended) depth 20

  recover-facts : (key : SnapKey) → IfDone (FactsOf rows) (decide rows at account (RestoreFromBin key))
  recover-facts key =
      let d : SnapRow → Decision = λ row. decision.Change (alters account at (RestoreFromBin key)) (SnapshotShown false (view_of account at.second key (recovered row))) in
      let ended : (row : SnapRow) → the_row rows key (binned account key at.second) ≡ Ok row → IfDone (FactsOf rows) (Ok (d row)) =
      λ row is.
      let (there, passes) = found rows key (binned account key at.second) row is in
      achieved {x = d row} (row, there) in
      search (passed, after, ended) depth 20

  policy-facts : (targets : List Tag) (hours time : ℕ) (retain : Retain) (add : List Tag) → IfDone (FactsOf rows) (decide rows at account (CreatePolicy targets hours time retain add))
  policy-facts targets hours time retain add =
      let key : PolicyKey = next_policy rows account in
      let d : Decision = decision.Change (makes account at (CreatePolicy targets hours time retain add) (any.Policy key ∷ [])) (PolicyShown true key at) in
      let ended : IfDone (FactsOf rows) (Ok d) = achieved {x = d} tt in
      search (passed, after, ended) depth 20

  get_policy-facts : (key : PolicyKey) → IfDone (FactsOf rows) (decide rows at account (GetPolicy key))
  get_policy-facts key =
      let ended : (p : Policy) → IfDone (FactsOf rows) (Ok (decision.View (PolicyShown false key p.last))) = λ p. view-facts _ in
      search (passed, after, ended) depth 20

  drop_policy-facts : (key : PolicyKey) → IfDone (FactsOf rows) (decide rows at account (DeletePolicy key))
  drop_policy-facts key =
      let d : Decision = decision.Change (alters account at (DeletePolicy key)) Done in
      let ended : (p : Policy) → IfDone (FactsOf rows) (Ok d) = λ p. achieved {x = d} tt in
      search (passed, after, ended) depth 20

  run-facts : (key : PolicyKey) → IfDone (FactsOf rows) (decide rows at account (RunPolicy key))
  run-facts key =
      let more : Policy → ℕ = λ p. length (due_targets rows key p at.second) in
      let ended : (p : Policy) → the_policy rows account key ≡ Ok p
      → refuse_if (nat_lt most_kept (kept_count rows account + more p)) (Quota Snapshots most_kept) ≡ Ok tt
      → refuse_if (nat_lt most_ids ((next_key rows account).number + more p)) (Quota Ids most_ids) ≡ Ok tt
      → IfDone (FactsOf rows) (Ok (run_decided rows at account key p)) =
      λ p is few room.
      let (there, own) = found_policy rows account key p is in
      achieved {x = run_decided rows at account key p} (p, record { found = there; owner = own; kept = within _ _ _ few; ids = within _ _ _ room }) in
      search (passed, after, ended) depth 20

  decide-facts : (request : Request) → IsTimely request → IfDone (FactsOf rows) (decide rows at account request)
  decide-facts (StartSnapshot size parent description tags token timeout) timely = start-facts size parent description tags token timeout timely
  decide-facts (PutSnapshotBlock key index digest bytes) timely = put-facts key index digest bytes
  decide-facts (CompleteSnapshot key count checksum) timely = complete-facts key count checksum
  decide-facts (ListSnapshotBlocks key page most start) timely = search (passed, after, read-facts) depth 20
  decide-facts (ListChangedBlocks first second page most start) timely = search (passed, after, read-facts) depth 20
  decide-facts (GetSnapshotBlock key index token) timely = search (passed, after, read-facts) depth 20
  decide-facts (DescribeSnapshot key) timely = describe-facts key
  decide-facts (DescribeSnapshots from most) timely = view-facts _
  decide-facts (DeleteSnapshot key) timely = delete-facts key
  decide-facts (ModifyPermission key add add_all remove remove_all) timely = permission-facts key add add_all remove remove_all
  decide-facts (LockSnapshot key mode term cool_hours) timely = lock-facts (LockSnapshot key mode term cool_hours) key (Lock mode term cool_hours) (λ row is. (row, is))
  decide-facts (UnlockSnapshot key) timely = lock-facts (UnlockSnapshot key) key Unlock (λ row is. (row, is))
  decide-facts (ArchiveSnapshot key) timely = archive-facts key
  decide-facts (RestoreTier key days) timely = restore-facts key days
  decide-facts (CreateVolume origin size tags token) timely = create-facts origin size tags token
  decide-facts (CreateSnapshot volume description tags) timely = snap-facts volume description tags
  decide-facts (WriteVolumeBlock key index digest bytes) timely = write-facts key index digest bytes
  decide-facts (ReadVolumeBlock key index) timely = fetch-facts key index
  decide-facts (DescribeVolume key) timely = volume-facts key
  decide-facts (DeleteVolume key) timely = drop-facts key
  decide-facts (CreateRule days tags description delay) timely = rule-facts (CreateRule days tags description delay) (rule.Create days tags description delay) (λ change. tt)
  decide-facts (GetRule key) timely = get_rule-facts key
  decide-facts (UpdateRule key days tags description) timely = rule-facts (UpdateRule key days tags description) (rule.Update key days tags description) (λ change. tt)
  decide-facts (DeleteRule key) timely = rule-facts (DeleteRule key) (rule.Delete key) (λ change. tt)
  decide-facts ListRules timely = view-facts _
  decide-facts (LockRule key delay) timely = rule-facts (LockRule key delay) (rule.Lock key delay) (λ change. tt)
  decide-facts (UnlockRule key) timely = rule-facts (UnlockRule key) (rule.Unlock key) (λ change. tt)
  decide-facts (ListBin from most) timely = view-facts _
  decide-facts (RestoreFromBin key) timely = recover-facts key
  decide-facts (CreatePolicy targets hours time retain add) timely = policy-facts targets hours time retain add
  decide-facts (GetPolicy key) timely = get_policy-facts key
  decide-facts (DeletePolicy key) timely = drop_policy-facts key
  decide-facts (RunPolicy key) timely = run-facts key

ok_same : {A : Type 0} (y x : A) → ◌≡◌ {A = Result A Refusal} (Ok y) (Ok x) → y ≡ x
ok_same y x e = cc

of_done : {A : Type 0} (P : A → Type 0) (x : A) (r : Result A Refusal) → r ≡ Ok x → IfDone P r → P x
of_done P x (Ok y) e (achieved p) = subst P (ok_same y x e) p
of_done P x (Err r) e d = cc

pub facts : (rows : Rows) (c : Change) (request : Request) (answer : Answer) → decide rows c.at c.account request ≡ Ok (decision.Change c answer) → IsTimely request → Facts rows c.account (made_snap c.made) c.request c.at.second
facts rows c request answer gives timely = of_done (FactsOf rows) (decision.Change c answer) _ gives (decide-facts rows c.at c.account request timely)
