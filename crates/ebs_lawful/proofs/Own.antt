-- A machine's answers are its own.
use Rattle.std.proofs.Common.{ℕ, Bool, true, false, List, Option, None, Some, Result, Ok, Err}
use Rattle.sha2.specs.Sha256.{sha256}
use Rattle.ebs_model.specs.declared.keys.SnapKey.{SnapKey}
use Rattle.ebs_model.specs.declared.keys.VolKey.{VolKey}
use Rattle.ebs_model.specs.declared.keys.Moment.{Moment}
use Rattle.ebs_model.specs.declared.rows.TokenRow.{TokenRow}
use Rattle.ebs_model.specs.declared.rows.LockState.{LockState}
use Rattle.ebs_model.specs.declared.rows.Tier.{Tier}
use Rattle.ebs_model.specs.declared.phases.TierPhase.{TierPhase}
use Rattle.ebs_model.specs.declared.lock.LockRefusal.{LockRefusal}
use Rattle.ebs_model.specs.declared.lock.LockRefusal.TheVariants as of_lock
use Rattle.ebs_model.specs.declared.rules.RuleChange.{RuleChange}
use Rattle.ebs_model.specs.declared.rules.RuleChange.TheVariants as of_change
use Rattle.ebs_model.specs.declared.rules.RuleRefusal.{RuleRefusal}
use Rattle.ebs_model.specs.declared.rules.RuleRefusal.TheVariants as of_rule
use Rattle.ebs_model.specs.declared.tags.Tag.{Tag}
use Rattle.ebs_model.specs.declared.request.Request.{Request}
use Rattle.ebs_model.specs.declared.request.Request.TheVariants.{StartSnapshot, PutSnapshotBlock, CompleteSnapshot, ListSnapshotBlocks, ListChangedBlocks, GetSnapshotBlock, DescribeSnapshot, DescribeSnapshots, DeleteSnapshot, ModifyPermission, LockSnapshot, UnlockSnapshot, ArchiveSnapshot, RestoreTier, CreateVolume, CreateSnapshot, WriteVolumeBlock, ReadVolumeBlock, DescribeVolume, DeleteVolume, CreateRule, GetRule, UpdateRule, DeleteRule, ListRules, LockRule, UnlockRule, ListBin, RestoreFromBin, CreatePolicy, GetPolicy, DeletePolicy, RunPolicy}
use Rattle.ebs_model.specs.declared.change.Change.{Change}
use Rattle.ebs_model.specs.declared.change.ReadRow.{ReadRow}
use Rattle.ebs_model.specs.declared.change.Decision.{Decision}
use Rattle.ebs_model.specs.declared.change.Decision.TheVariants as decision
use Rattle.ebs_model.specs.declared.answer.Answer.{Answer}
use Rattle.ebs_model.specs.declared.answer.Refusal.{Refusal}
use Rattle.ebs_model.specs.Refuse.{◌>>=◌, ◌>>◌, refuse_if, refuse_bad, some_or}
use Rattle.ebs_model.specs.Rows.{Rows, first_use}
use Rattle.ebs_model.specs.Limits.{bad_member}
use Rattle.ebs_model.specs.Arrays.{Hash, WholeBlock}
use Rattle.ebs_model.specs.Calls.Complete.{refuse_checksum}
use Rattle.ebs_model.specs.Calls.Start.{by_token, repeat_start, fresh_start, least_size}
use Rattle.ebs_model.specs.Calls.Volume.{repeat_create, fresh_create}
use Rattle.ebs_model.specs.Calls.Lock.{changed_lock, lock_answer}
use Rattle.ebs_model.specs.Calls.Archive.{changed_tier}
use Rattle.ebs_model.specs.Calls.Rule.{changed_rule, rule_answer}
use Rattle.ebs_model.specs.Calls.Delete.{refuse_locked}
use Rattle.ebs_model.specs.Calls.List.{begins}
use Rattle.ebs_model.specs.Calls.Disk.{block_or_zeros}
use Rattle.ebs_model.specs.Machine.{Machine, rows_of, is_spent, advance, moment_of}
use Rattle.ebs_model.specs.Decide.{decide}
use Rattle.ebs_model.specs.Step.{act, finish, read, refuse_size, refuse_digest, refuse_linear, settled}
use Rattle.ebs_lawful.specs.OwnAnswers.{IsOwnRefusal, IsOwn, IsOwnOutcome, CallsAnswerOwn, StepsAnswerOwn}

data Ends {A : Type 0} (Q : A → Type 0) : Result A Refusal → Type 0 where
  fine : {x : A} → Q x → Ends Q (Ok x)
  refused : {r : Refusal} → IsOwnRefusal r → Ends Q (Err r)

abbrev Any : {A : Type 0} → A → Type 0
Any x = Unit {0}

after : {A B : Type 0} (Q : B → Type 0) (x : Result A Refusal) (f : A → Result B Refusal) → Ends Any x → ((v : A) → Ends Q (f v)) → Ends Q (x >>= f)
after Q (Ok v) f h g = g v
after Q (Err r) f (refused n) g = refused n

passed : {B : Type 0} (Q : B → Type 0) (x : Result (Unit {0}) Refusal) (y : Result B Refusal) → Ends Any x → Ends Q y → Ends Q (x >> y)
passed Q (Ok u) y h g = g
passed Q (Err r) y (refused n) g = refused n

if_so : (b : Bool) (r : Refusal) → IsOwnRefusal r → Ends Any (refuse_if b r)
if_so true r n = refused n
if_so false r n = fine tt

if_there : {A : Type 0} (o : Option A) (r : Refusal) → IsOwnRefusal r → Ends Any (some_or o r)
if_there None r n = refused n
if_there (Some x) r n = fine tt

any_ok : {A : Type 0} (x : A) → Ends {A = A} Any (Ok x)
any_ok x = fine tt

unit : Unit {0}
unit = tt

of_lock_refusal : (x : Result LockState LockRefusal) → Ends Any (changed_lock x)
of_lock_refusal (Ok new) = fine tt
of_lock_refusal (Err of_lock.Unlocked) = refused tt
of_lock_refusal (Err (of_lock.Locked until)) = refused tt
of_lock_refusal (Err of_lock.BadDate) = refused tt

of_tier : (x : Result Tier TierPhase) → Ends Any (changed_tier x)
of_tier (Ok new) = fine tt
of_tier (Err phase) = refused tt

of_rule_refusal : (x : Result RuleChange RuleRefusal) → Ends Any (changed_rule x)
of_rule_refusal (Ok change) = fine tt
of_rule_refusal (Err of_rule.NotFound) = refused tt
of_rule_refusal (Err of_rule.TagLevel) = refused tt
of_rule_refusal (Err of_rule.Unlocked) = refused tt
of_rule_refusal (Err of_rule.Locked) = refused tt
of_rule_refusal (Err of_rule.TooMany) = refused tt
of_rule_refusal (Err of_rule.NoNumber) = refused tt

lock_told : (name : _) (until : Option Moment) → IsOwn (lock_answer name until)
lock_told None until = tt
lock_told (Some name) until = tt

rule_told : (created : Bool) (now : ℕ) (change : RuleChange) → IsOwn (rule_answer created now change)
rule_told created now (of_change.Put rule) = tt
rule_told created now (of_change.Remove key) = tt

unlocked_then : (o : Option Moment) (now : ℕ) → Ends Any (refuse_locked o now)
unlocked_then None now = fine tt
unlocked_then (Some until) now = if_so _ _ tt

least : (rows : Rows) (account now : ℕ) (parent : Option SnapKey) → Ends Any (least_size rows account now parent)
least rows account now None = fine tt
least rows account now (Some parent) = search (after, passed, if_so, if_there, any_ok, unit) depth 20

checked : (o : Option (List ℕ)) (found : List ℕ) → Ends Any (refuse_checksum o found)
checked None found = fine tt
checked (Some stated) found = if_so _ _ tt

page_begins : (secret : List ℕ) (changed : Bool) (first second : SnapKey) (now : ℕ) (page : Option (List ℕ)) (start : ℕ) → Ends Any (begins secret changed first second now page start)
page_begins secret changed first second now None start = fine tt
page_begins secret changed first second now (Some token) start = if_there _ _ tt

block_told : (hash : Hash) (o : Option WholeBlock) → IsOwn (block_or_zeros hash o)
block_told hash None = tt
block_told hash (Some block) = tt

an_answer : (answer : Answer) → IsOwn answer → Ends IsOwn (Ok answer)
an_answer answer h = fine h

module _ (hash : Hash) (m : Machine) where
  -- what rows decide, with what blocks answer then
  abbrev IsTold : Request → Decision → Type 0
  IsTold request (decision.Change c answer) = IsOwn answer
  IsTold request (decision.Kept answer) = IsOwn answer
  IsTold request (decision.View answer) = IsOwn answer
  IsTold request (decision.Read row) = Ends IsOwn (read hash m request row)

  a_change : (request : Request) (c : Change) (answer : Answer) → IsOwn answer → Ends (IsTold request) (Ok (decision.Change c answer))
  a_change request c answer h = fine {x = decision.Change c answer} h

  a_repeat : (request : Request) (answer : Answer) → IsOwn answer → Ends (IsTold request) (Ok (decision.Kept answer))
  a_repeat request answer h = fine {x = decision.Kept answer} h

  a_view : (request : Request) (answer : Answer) → IsOwn answer → Ends (IsTold request) (Ok (decision.View answer))
  a_view request answer h = fine {x = decision.View answer} h

  a_read : (request : Request) (row : ReadRow) → Ends IsOwn (read hash m request row) → Ends (IsTold request) (Ok (decision.Read row))
  a_read request row h = fine {x = decision.Read row} h

  lists : (key : SnapKey) (page : Option (List ℕ)) (most : ℕ) (start : ℕ) (row : ReadRow) → Ends IsOwn (read hash m (ListSnapshotBlocks key page most start) row)
  lists key page most start row = search (after, page_begins, an_answer, unit) depth 20

  compares : (first : SnapKey) (second : SnapKey) (page : Option (List ℕ)) (most : ℕ) (start : ℕ) (row : ReadRow) → Ends IsOwn (read hash m (ListChangedBlocks first second page most start) row)
  compares first second page most start row = search (after, passed, page_begins, if_so, an_answer, unit) depth 20

  gets : (key : SnapKey) (index : ℕ) (token : List ℕ) (row : ReadRow) → Ends IsOwn (read hash m (GetSnapshotBlock key index token) row)
  gets key index token row = search (after, passed, if_so, if_there, an_answer, unit) depth 20

  fetches : (key : VolKey) (index : ℕ) (row : ReadRow) → Ends IsOwn (read hash m (ReadVolumeBlock key index) row)
  fetches key index row = search (passed, if_so, an_answer, block_told, unit) depth 20

  module _ (account : ℕ) where
    starts : (request : Request) (size : ℕ) (parent : Option SnapKey) (description : Option (List ℕ)) (tags : List Tag) (token : Option (List ℕ)) (timeout : ℕ) (o : Option TokenRow)
        → Ends (IsTold request) (by_token o (repeat_start account size parent description tags timeout) (fresh_start (rows_of m) m.clock account size parent description tags token timeout))
    starts request size parent description tags token timeout None = search (after, passed, if_so, least, a_change, unit) depth 20
    starts request size parent description tags token timeout (Some row) = search (passed, if_so, a_repeat, unit) depth 20

    creates : (request : Request) (origin : Option SnapKey) (size : Option ℕ) (tags : List Tag) (token : Option (List ℕ)) (o : Option TokenRow)
        → Ends (IsTold request) (by_token o (repeat_create account origin size tags) (fresh_create (rows_of m) m.clock account origin size tags token))
    creates request origin size tags token None = search (after, passed, if_so, least, a_change, unit) depth 20
    creates request origin size tags token (Some row) = search (passed, if_so, a_repeat, unit) depth 20

    decides : (request : Request) → Ends (IsTold request) (decide (rows_of m) m.clock account request)
    decides (StartSnapshot size parent description tags token timeout) = starts (StartSnapshot size parent description tags token timeout) size parent description tags token timeout (first_use (rows_of m) account token)
    decides (PutSnapshotBlock key index digest bytes) = search (after, passed, if_so, if_there, any_ok, a_change, unit) depth 20
    decides (CompleteSnapshot key count checksum) = search (after, passed, if_so, if_there, any_ok, a_change, unit) depth 20
    decides (ListSnapshotBlocks key page most start) = search (after, passed, if_so, if_there, any_ok, a_read, lists, unit) depth 20
    decides (ListChangedBlocks first second page most start) = search (after, passed, if_so, if_there, any_ok, a_read, compares, unit) depth 20
    decides (GetSnapshotBlock key index token) = search (after, passed, if_so, if_there, any_ok, a_read, gets, unit) depth 20
    decides (DescribeSnapshot key) = search (after, passed, if_so, if_there, any_ok, a_view, unit) depth 20
    decides (DescribeSnapshots from most) = a_view (DescribeSnapshots from most) _ tt
    decides (DeleteSnapshot key) = search (after, passed, if_so, if_there, any_ok, unlocked_then, a_change, unit) depth 20
    decides (ModifyPermission key add add_all remove remove_all) = search (after, passed, if_so, if_there, any_ok, a_change, unit) depth 20
    decides (LockSnapshot key mode term cool_hours) = search (after, passed, if_so, if_there, any_ok, of_lock_refusal, a_change, lock_told, unit) depth 20
    decides (UnlockSnapshot key) = search (after, passed, if_so, if_there, any_ok, of_lock_refusal, a_change, lock_told, unit) depth 20
    decides (ArchiveSnapshot key) = search (after, passed, if_so, if_there, any_ok, of_tier, a_change, unit) depth 20
    decides (RestoreTier key days) = search (after, passed, if_so, if_there, any_ok, of_tier, a_change, unit) depth 20
    decides (CreateVolume origin size tags token) = creates (CreateVolume origin size tags token) origin size tags token (first_use (rows_of m) account token)
    decides (CreateSnapshot volume description tags) = search (after, passed, if_so, if_there, a_change, unit) depth 20
    decides (WriteVolumeBlock key index digest bytes) = search (after, passed, if_so, if_there, a_change, unit) depth 20
    decides (ReadVolumeBlock key index) = search (after, passed, if_so, if_there, a_read, fetches, unit) depth 20
    decides (DescribeVolume key) = search (after, passed, if_so, if_there, a_view, unit) depth 20
    decides (DeleteVolume key) = search (after, passed, if_so, if_there, a_change, unit) depth 20
    decides (CreateRule days tags description delay) = search (after, of_rule_refusal, a_change, rule_told) depth 20
    decides (GetRule key) = search (after, if_there, a_view, unit) depth 20
    decides (UpdateRule key days tags description) = search (after, of_rule_refusal, a_change, rule_told) depth 20
    decides (DeleteRule key) = search (after, of_rule_refusal, a_change, rule_told) depth 20
    decides ListRules = a_view ListRules _ tt
    decides (LockRule key delay) = search (after, of_rule_refusal, a_change, rule_told) depth 20
    decides (UnlockRule key) = search (after, of_rule_refusal, a_change, rule_told) depth 20
    decides (ListBin from most) = a_view (ListBin from most) _ tt
    decides (RestoreFromBin key) = search (after, passed, if_so, if_there, any_ok, a_change, unit) depth 20
    decides (CreatePolicy targets hours time retain add) = search (passed, if_so, a_change, unit) depth 20
    decides (GetPolicy key) = search (after, passed, if_so, if_there, a_view, unit) depth 20
    decides (DeletePolicy key) = search (after, passed, if_so, if_there, a_change, unit) depth 20
    decides (RunPolicy key) = search (after, passed, if_so, if_there, a_change, unit) depth 20

  record Tested (request : Request) : Type 0 where
    pub sized : Ends Any (refuse_size request)
    pub hashed : Ends Any (refuse_digest hash request)
    pub summed : Ends Any (refuse_linear hash m request)

  tested : (request : Request) → Tested request
  tested (StartSnapshot size parent description tags token timeout) = record { sized = if_so _ _ tt; hashed = fine tt; summed = fine tt }
  tested (PutSnapshotBlock key index digest bytes) = record { sized = fine tt; hashed = if_so _ _ tt; summed = fine tt }
  tested (CompleteSnapshot key count checksum) = record { sized = fine tt; hashed = fine tt; summed = checked checksum _ }
  tested (ListSnapshotBlocks key page most start) = record { sized = fine tt; hashed = fine tt; summed = fine tt }
  tested (ListChangedBlocks first second page most start) = record { sized = fine tt; hashed = fine tt; summed = fine tt }
  tested (GetSnapshotBlock key index token) = record { sized = fine tt; hashed = fine tt; summed = fine tt }
  tested (DescribeSnapshot key) = record { sized = fine tt; hashed = fine tt; summed = fine tt }
  tested (DescribeSnapshots from most) = record { sized = fine tt; hashed = fine tt; summed = fine tt }
  tested (DeleteSnapshot key) = record { sized = fine tt; hashed = fine tt; summed = fine tt }
  tested (ModifyPermission key add add_all remove remove_all) = record { sized = fine tt; hashed = fine tt; summed = fine tt }
  tested (LockSnapshot key mode term cool_hours) = record { sized = fine tt; hashed = fine tt; summed = fine tt }
  tested (UnlockSnapshot key) = record { sized = fine tt; hashed = fine tt; summed = fine tt }
  tested (ArchiveSnapshot key) = record { sized = fine tt; hashed = fine tt; summed = fine tt }
  tested (RestoreTier key days) = record { sized = fine tt; hashed = fine tt; summed = fine tt }
  tested (CreateVolume origin size tags token) = record { sized = if_so _ _ tt; hashed = fine tt; summed = fine tt }
  tested (CreateSnapshot volume description tags) = record { sized = fine tt; hashed = fine tt; summed = fine tt }
  tested (WriteVolumeBlock key index digest bytes) = record { sized = fine tt; hashed = if_so _ _ tt; summed = fine tt }
  tested (ReadVolumeBlock key index) = record { sized = fine tt; hashed = fine tt; summed = fine tt }
  tested (DescribeVolume key) = record { sized = fine tt; hashed = fine tt; summed = fine tt }
  tested (DeleteVolume key) = record { sized = fine tt; hashed = fine tt; summed = fine tt }
  tested (CreateRule days tags description delay) = record { sized = fine tt; hashed = fine tt; summed = fine tt }
  tested (GetRule key) = record { sized = fine tt; hashed = fine tt; summed = fine tt }
  tested (UpdateRule key days tags description) = record { sized = fine tt; hashed = fine tt; summed = fine tt }
  tested (DeleteRule key) = record { sized = fine tt; hashed = fine tt; summed = fine tt }
  tested ListRules = record { sized = fine tt; hashed = fine tt; summed = fine tt }
  tested (LockRule key delay) = record { sized = fine tt; hashed = fine tt; summed = fine tt }
  tested (UnlockRule key) = record { sized = fine tt; hashed = fine tt; summed = fine tt }
  tested (ListBin from most) = record { sized = fine tt; hashed = fine tt; summed = fine tt }
  tested (RestoreFromBin key) = record { sized = fine tt; hashed = fine tt; summed = fine tt }
  tested (CreatePolicy targets hours time retain add) = record { sized = fine tt; hashed = fine tt; summed = fine tt }
  tested (GetPolicy key) = record { sized = fine tt; hashed = fine tt; summed = fine tt }
  tested (DeletePolicy key) = record { sized = fine tt; hashed = fine tt; summed = fine tt }
  tested (RunPolicy key) = record { sized = fine tt; hashed = fine tt; summed = fine tt }

  abbrev IsDone : Machine × Answer → Type 0
  IsDone done = IsOwn done.1

  finishes : (request : Request) (d : Decision) → IsTold request d → Ends IsDone (finish hash m request d)
  finishes request (decision.Kept answer) h = fine h
  finishes request (decision.View answer) h = fine h
  finishes request (decision.Read row) h = read_then (read hash m request row) h
    where
      read_then : (x : Result Answer Refusal) → Ends IsOwn x → Ends IsDone (x >>= λ answer. Ok (m, answer))
      read_then (Ok answer) (fine h) = fine h
      read_then (Err r) (refused n) = refused n
  finishes request (decision.Change change answer) h = passed IsDone _ _ (tested request).summed (passed IsDone _ _ (if_so (is_spent m) _ tt) (fine h))

  acts : (account : ℕ) (request : Request) → Ends IsDone (act hash m account request)
  acts account request = passed IsDone _ _ (tested request).sized (passed IsDone _ _ (tested request).hashed (decided (decide (rows_of m) m.clock account request) (decides account request)))
    where
      decided : (x : Result Decision Refusal) → Ends (IsTold request) x → Ends IsDone (x >>= finish hash m request)
      decided (Ok d) (fine h) = finishes request d h
      decided (Err r) (refused n) = refused n

  own_outcome : (x : Result (Machine × Answer) Refusal) → Ends IsDone x → IsOwnOutcome x
  own_outcome (Ok done) (fine h) = h
  own_outcome (Err r) (refused n) = n

  own_settled : (x : Result (Machine × Answer) Refusal) → Ends IsDone x → IsOwn (settled m x).1
  own_settled (Ok done) (fine h) = h
  own_settled (Err r) (refused n) = n

  bad_own : (o : Option (List ℕ)) → Ends Any (refuse_bad o)
  bad_own None = fine tt
  bad_own (Some name) = refused tt

pub calls_own : CallsAnswerOwn
calls_own hash m account request = own_outcome hash m (act hash m account request) (acts hash m account request)

pub steps_own : StepsAnswerOwn
steps_own m account reading request = let at = advance m (moment_of m reading) in
    own_settled sha256 at (refuse_bad (bad_member request) >> act sha256 at account request) (passed (IsDone sha256 at) _ _ (bad_own sha256 at (bad_member request)) (acts sha256 at account request))
