-- What the calls do that write no block of an upload, begin none and end none: they show what there is, rewrite one row of the caller's own or take one out, or act on a volume.
use Rattle.std.proofs.Common.{◌≡◌, ◌≢◌, ℕ, cond, true, false, is_some, unwrap_or, List, Option, Some, None, Result, Ok, nat_eq, nat_le, nat_lt, ◌*◌, ◌≤◌, arith, refl, length, ap, sym, subst, ◌∙◌, ◌+◌, ◌^◌}
use Rattle.std.proofs.lemmas.Bool.Decides.{nat_tests}
use Rattle.std.specs.FinMap as fin
use Rattle.std.specs.FinMap.{nat_cmp-IsAntisymmetric}
use Rattle.std.specs.Ordering.{nat_cmp}
use Rattle.std.specs.Cmp.{nat_cmp_total}
use Rattle.ebs_model.specs.declared.keys.SnapKey.{SnapKey}
use Rattle.ebs_model.specs.declared.keys.VolKey.{VolKey}
use Rattle.ebs_model.specs.declared.keys.PolicyKey.{PolicyKey}
use Rattle.ebs_model.specs.declared.policy.Policy.{Policy}
use Rattle.ebs_model.specs.declared.rows.Own.{Own}
use Rattle.ebs_model.specs.Keys.{snap_cmp, policy_cmp}
use Rattle.ebs_model.specs.inner.Orders.{policies_total, exact_policies}
use Rattle.ebs_model.specs.declared.tags.Tag.{Tag}
use Rattle.ebs_model.specs.declared.keys.Moment.{Moment}
use Rattle.ebs_model.specs.declared.rows.SnapRow.{SnapRow}
use Rattle.ebs_model.specs.declared.rows.VolRow.{VolRow}
use Rattle.ebs_model.specs.declared.rows.TokenRow.{TokenRow}
use Rattle.ebs_model.specs.declared.rows.LockState.{LockState}
use Rattle.ebs_model.specs.declared.rows.Tier.{Tier}
use Rattle.ebs_model.specs.declared.lock.LockCommand.{LockCommand}
use Rattle.ebs_model.specs.declared.lock.LockCommand.TheVariants.{Lock, Unlock}
use Rattle.ebs_model.specs.declared.phases.TierPhase.{TierPhase}
use Rattle.ebs_model.specs.declared.views.LockName.{LockName}
use Rattle.ebs_model.specs.declared.request.Request.{Request}
use Rattle.ebs_model.specs.declared.request.Request.TheVariants.{ListSnapshotBlocks, ListChangedBlocks, GetSnapshotBlock, DescribeSnapshot, DescribeSnapshots, DeleteSnapshot, ModifyPermission, LockSnapshot, UnlockSnapshot, ArchiveSnapshot, RestoreTier, CreateVolume, CreateSnapshot, WriteVolumeBlock, ReadVolumeBlock, DescribeVolume, DeleteVolume, CreateRule, GetRule, UpdateRule, DeleteRule, ListRules, LockRule, UnlockRule, ListBin, RestoreFromBin, CreatePolicy, GetPolicy, DeletePolicy, RunPolicy}
use Rattle.ebs_model.specs.declared.answer.Answer.{Answer}
use Rattle.ebs_model.specs.declared.answer.Answer.TheVariants.{BlockWritten, BlockRead, SnapshotShown, SnapshotList, Done, TierShown, VolumeShown, RuleShown, RuleList, PolicyShown, Refused}
use Rattle.ebs_model.specs.declared.answer.Refusal.{Refusal}
use Rattle.sha2.specs.Sha256.{sha256}
use Rattle.std.specs.Cmp.Lexicographic.{pointwise}
use Rattle.ebs_model.specs.Quotas.{most_shared, most_kept, most_volumes, most_ids}
use Rattle.ebs_model.specs.Limits.{bad_member, bad_create, is_size_given}
use Rattle.ebs_model.specs.Rows.{book_of, no_own, first_use, kept_count, volume_count}
use Rattle.ebs_model.specs.Tokens.{is_block_token}
use Rattle.ebs_model.specs.Arrays.{WholeBlock, WholeArray}
use Rattle.ebs_model.specs.Time.{Snapshot, status_at, is_pending, is_ahead}
use Rattle.ebs_model.specs.Access.{seen, own, done, ready}
use Rattle.ebs_model.specs.Machine.{Machine, rows_of, disk_of}
use Rattle.ebs_model.specs.Lists.{page_of, next_of}
use Rattle.ebs_model.specs.Calls.List.{begins, is_same_line}
use Rattle.ebs_model.specs.Calls.Describe.{listed as own_listed}
use Rattle.ebs_model.specs.Calls.Permission.{permitted, permitted_row}
use Rattle.ebs_model.specs.Calls.Delete.{refuse_locked, days_in_bin}
use Rattle.ebs_model.specs.Calls.Bin.{binned, recovered}
use Rattle.ebs_model.specs.Calls.Rule.{rule_answer, is_creation}
use Rattle.ebs_model.specs.Rules.{find, rules_in, rule_view, lock_at}
use Rattle.ebs_model.specs.RuleCommands as rules
use Rattle.ebs_model.specs.RuleCommands.{if_unlocked, delete_of}
use Rattle.ebs_model.specs.declared.rules.RuleLock.{RuleLock}
use Rattle.ebs_model.specs.declared.rules.RuleLock.TheVariants as lock
use Rattle.ebs_model.specs.declared.keys.RuleKey.{RuleKey}
use Rattle.ebs_model.specs.declared.rules.Rule.{Rule}
use Rattle.ebs_model.specs.declared.rules.RuleCommand.{RuleCommand}
use Rattle.ebs_model.specs.declared.rules.RuleCommand.TheVariants as command
use Rattle.ebs_model.specs.declared.rules.RuleChange.{RuleChange}
use Rattle.ebs_model.specs.declared.rules.RuleChange.TheVariants.{Put, Remove}
use Rattle.ebs_model.specs.Calls.Lock.{lock_answer}
use Rattle.ebs_model.specs.Calls.Volume.{is_same_create, made_size, first_volume}
use Rattle.ebs_model.specs.Calls.Disk.{block_or_zeros}
use Rattle.ebs_model.specs.Locks.{lock_change}
use Rattle.ebs_model.specs.Tiers.{archive, restore}
use Rattle.ebs_model.specs.Calls.Policy.{next_policy}
use Rattle.ebs_model.proofs.RunLaws.{new-next}
use Rattle.ebs_model.specs.Views.{view_of, lock_shown, lock_until, tier_shown, restore_until}
use Rattle.std.specs.Prelude.{map}
use Rattle.ebs_laws.specs.Words.{started_id, created_id, use_of, is_repeat}
use Rattle.ebs_laws.specs.RowLaws.{AsksChange}
use Rattle.ebs_laws.specs.RuleLaws.{created_rule}
use Rattle.ebs_laws.specs.Puts.{blocks_written, changes_by, changes_made}
use Rattle.ebs_laws.proofs.Whole.{own_of, with_snapshot, without_snapshot, rewritten, listed, compared, Origin, volume_origin, next_volume, volume_row, created, dropped, snapped, says_snapped, written, binned_row, ruled, managed, with_policy, without_policy, ran, says_ran}
use Rattle.ebs_laws.proofs.Maps.{by_key, get-itself, get-other, get-left}
use Rattle.ebs_laws.proofs.PolicyRuns.{own_in, Left, as_it_was, by_run, run-leaves, new-own-other, new-vol, due_volumes}
use Rattle.ebs_laws.proofs.Readers.{own-owned, done-owned, binned-owned, done-shown}

abbrev Outcome : Type 0
Outcome = Machine × Answer

-- a volume is asked for
abbrev pub AsksCreation : Request → Type 0
AsksCreation (CreateVolume from size tags token) = Unit {0}
AsksCreation request = ⊥

-- a rule is asked for
abbrev pub AsksRule : Request → Type 0
AsksRule (CreateRule days tags description delay) = Unit {0}
AsksRule request = ⊥

-- an answer to this call that says so many changes, and neither a block nor a new snapshot nor a refusal
pub record Says (m : Machine) (account : ℕ) (request : Request) (changes : ℕ) (answer : Answer) : Type 0 where
  pub written : blocks_written answer ≡ 0
  pub made : changes_by m account request answer ≡ changes
  pub gives : started_id answer ≡ None
  pub creates_none : (AsksCreation request → ⊥) → created_id answer ≡ None
  pub no_rule : (AsksRule request → ⊥) → created_rule answer ≡ None
  pub answers : (refusal : Refusal) → answer ≢ Refused refusal

-- with whom a snapshot is shared is asked to be changed
abbrev pub AsksSharing : Request → Type 0
AsksSharing (ModifyPermission key add add_all remove remove_all) = Unit {0}
AsksSharing request = ⊥

-- its lock is asked to be changed
abbrev pub AsksLock : Request → Type 0
AsksLock (LockSnapshot key mode term cool_hours) = Unit {0}
AsksLock (UnlockSnapshot key) = Unit {0}
AsksLock request = ⊥

-- a deletion puts a row in the bin: no open upload, without a lock that lasts, and for the days that its account's rules say
pub record IsBinned (m : Machine) (account : ℕ) (key : SnapKey) (request : Request) (old new : SnapRow) : Type 0 where
  pub request_is : request ≡ DeleteSnapshot key
  pub passes : own account key m.clock.second old ≡ Ok tt
  pub closed : is_pending (status_at old m.clock.second) ≡ false
  pub unlocked : refuse_locked (lock_until old.lock) m.clock.second ≡ Ok tt
  pub days : ℕ
  pub days_are : days_in_bin (rows_of m) key old ≡ Some days
  pub row_is : new ≡ binned_row m old days

-- and a restore takes it out of the bin
pub record IsRecovered (m : Machine) (account : ℕ) (key : SnapKey) (request : Request) (old new : SnapRow) : Type 0 where
  pub request_is : request ≡ RestoreFromBin key
  pub passes : binned account key m.clock.second old ≡ Ok tt
  pub row_is : new ≡ recovered old

-- the row's end in the bin stays, but for a deletion and a restore
pub data BinIs (m : Machine) (account : ℕ) (key : SnapKey) (request : Request) (old new : SnapRow) : Type 0 where
  stands : new.bin_end ≡ old.bin_end → is_ahead old.bin_end m.clock.second ≡ false → old.completed ≡ true → BinIs m account key request old new
  goes : IsBinned m account key request old new → BinIs m account key request old new
  comes : IsRecovered m account key request old new → BinIs m account key request old new

-- a row of the account's own, rewritten: it keeps what its blocks and its upload hang on
pub record IsRewritten (m : Machine) (account : ℕ) (key : SnapKey) (request : Request) (old new : SnapRow) : Type 0 where
  pub asked : AsksChange request
  pub owned : account ≡ key.account
  pub key_is : new.key ≡ old.key
  pub size_is : new.size ≡ old.size
  pub line_is : new.line ≡ old.line
  pub put_is : new.put ≡ old.put
  pub completed_is : new.completed ≡ old.completed
  pub last_is : new.last ≡ old.last
  pub timeout_is : new.timeout ≡ old.timeout
  pub start_is : new.start ≡ old.start
  pub volume_is : new.volume ≡ old.volume
  pub bin_is : BinIs m account key request old new
  pub lock_is : (AsksLock request → ⊥) → new.lock ≡ old.lock
  pub sharing_is : (AsksSharing request → ⊥) → (new.shared ≡ old.shared) × (new.public ≡ old.public)

-- a row of the account's own that is taken out: no open upload, and without a lock that lasts
pub record IsTakenOut (m : Machine) (account : ℕ) (key : SnapKey) (request : Request) (row : SnapRow) : Type 0 where
  pub asked : AsksChange request
  pub request_is : request ≡ DeleteSnapshot key
  pub owned : account ≡ key.account
  pub passes : own account key m.clock.second row ≡ Ok tt
  pub closed : is_pending (status_at row m.clock.second) ≡ false
  pub unlocked : refuse_locked (lock_until row.lock) m.clock.second ≡ Ok tt
  pub no_days : days_in_bin (rows_of m) key row ≡ None

-- a volume of the account's own, with its next number and the call's origin and tags, by a call that repeats no other
pub record IsCreated (m : Machine) (account : ℕ) (key : VolKey) (row : VolRow) (array : WholeArray) (token : Option (List ℕ)) (request : Request) (answer : Answer) : Type 0 where
  pub asked : AsksChange request
  pub size : Option ℕ
  pub request_is : request ≡ CreateVolume row.origin size row.tags token
  pub key_is : key ≡ next_volume m account
  pub begun : Origin
  pub begins : volume_origin m account key row.origin ≡ Ok begun
  pub array_is : array ≡ begun.array
  pub least : begun.size ≤ row.size
  pub fits : is_size_given size ≡ true
  pub size_is : row.size ≡ unwrap_or size begun.size
  pub unused : use_of m account token ≡ None
  pub answer_is : answer ≡ VolumeShown true row.size row.origin row.tags key

-- a volume of the account's own that is taken out
pub record IsDropped (account : ℕ) (key : VolKey) (request : Request) (answer : Answer) : Type 0 where
  pub asked : AsksChange request
  pub request_is : request ≡ DeleteVolume key
  pub owned : account ≡ key.account
  pub answer_is : answer ≡ Done

-- the call that a command on rules is of
abbrev pub rule_request : RuleCommand → Request
rule_request (command.Create days tags description delay) = CreateRule days tags description delay
rule_request (command.Update key days tags description) = UpdateRule key days tags description
rule_request (command.Delete key) = DeleteRule key
rule_request (command.Lock key delay) = LockRule key delay
rule_request (command.Unlock key) = UnlockRule key

-- the account's rules are changed
pub record IsRuled (m : Machine) (account : ℕ) (command : RuleCommand) (change : RuleChange) (request : Request) : Type 0 where
  pub asked : AsksChange request
  pub request_is : request ≡ rule_request command
  pub good : bad_member (rule_request command) ≡ None
  pub decides : rules.decide account (book_of (rows_of m) account) command m.clock.second ≡ Ok change

-- a call on policies that changes one
abbrev pub AsksPolicy : Request → Type 0
AsksPolicy (CreatePolicy targets hours at retain add) = Unit {0}
AsksPolicy (DeletePolicy key) = Unit {0}
AsksPolicy (RunPolicy key) = Unit {0}
AsksPolicy request = ⊥

-- snapshots, numbers and policies of the account's own are others
pub record IsManaged (m : Machine) (account : ℕ) (request : Request) (snaps : fin.FinMap snap_cmp Snapshot) (own : fin.FinMap nat_cmp Own) (policies : fin.FinMap policy_cmp Policy) : Type 0 where
  pub asked : AsksChange request
  pub on_policy : AsksPolicy request
  pub fresh : is_repeat m account request ≡ false
  pub leaves : (q : SnapKey) → Left m account own q (fin.get snaps q)
  pub other_own : (other : ℕ) → other ≢ account → fin.get own other ≡ fin.get m.own other
  pub next_snap : (own_of m account).next_snap ≤ (own_in own account).next_snap
  pub fits : (own_of m account).next_snap ≤ 2 ^ 28 → (own_in own account).next_snap ≤ 2 ^ 28
  pub next_vol : (own_in own account).next_vol ≡ (own_of m account).next_vol
  pub other_policies : (k : PolicyKey) → k.account ≢ account → fin.get policies k ≡ fin.get m.policies k

-- what was tested of a run
pub record RunTests (m : Machine) (account : ℕ) (key : PolicyKey) (p : Policy) : Type 0 where
  pub owned : account ≡ key.account
  pub found : fin.get m.policies key ≡ Some p
  pub few_kept : nat_lt most_kept (kept_count (rows_of m) account + length (due_volumes m key p)) ≡ false
  pub numbers : nat_lt most_ids ((own_of m account).next_snap + length (due_volumes m key p)) ≡ false

-- what was tested of a creation, and of one that repeats an earlier one
pub record CreateTests (m : Machine) (account : ℕ) (from : Option SnapKey) (size : Option ℕ) (tags : List Tag) (token : Option (List ℕ)) (begun : Origin) : Type 0 where
  pub good : bad_create from size tags token ≡ None
  pub unused : first_use (rows_of m) account token ≡ None
  pub fits : is_size_given size ≡ true
  pub begins_with : volume_origin m account (next_volume m account) from ≡ Ok begun
  pub reaches : nat_lt (unwrap_or size begun.size) begun.size ≡ false
  pub few : nat_le most_volumes (volume_count (rows_of m) account) ≡ false
  pub number : nat_le most_ids (next_volume m account).number ≡ false

pub record CreateAgainTests (m : Machine) (account : ℕ) (from : Option SnapKey) (size : Option ℕ) (tags : List Tag) (token : Option (List ℕ)) (row : TokenRow) : Type 0 where
  pub good : bad_create from size tags token ≡ None
  pub fits : is_size_given size ≡ true
  pub used : first_use (rows_of m) account token ≡ Some row
  pub same : is_same_create row.first from size tags ≡ true

-- what was tested of a snapshot of a volume, and of a block that is written
pub record SnapTests (m : Machine) (account : ℕ) : Type 0 where
  pub few_kept : nat_le most_kept (kept_count (rows_of m) account) ≡ false
  pub number : nat_le most_ids (own_of m account).next_snap ≡ false

pub record WriteTests (row : VolRow) (index : ℕ) (digest bytes : List ℕ) : Type 0 where
  pub digest_is : pointwise nat_eq digest (sha256 bytes) ≡ true
  pub within : nat_le (2048 * row.size) index ≡ false

-- a snapshot of the account's own volume
pub record IsSnapped (m : Machine) (account : ℕ) (volume : VolKey) (description : Option (List ℕ)) (tags : List Tag) (request : Request) : Type 0 where
  pub asked : AsksChange request
  pub request_is : request ≡ CreateSnapshot volume description tags
  pub owned : account ≡ volume.account
  pub tests : SnapTests m account

-- a block of the account's own volume that is written
pub record IsWritten (account : ℕ) (key : VolKey) (row : VolRow) (index : ℕ) (digest bytes : List ℕ) (request : Request) : Type 0 where
  pub asked : AsksChange request
  pub request_is : request ≡ WriteVolumeBlock key index digest bytes
  pub owned : account ≡ key.account
  pub tests : WriteTests row index digest bytes

-- what was tested of a list of changes
pub record ChangesTests (m : Machine) (account : ℕ) (first second : SnapKey) (page : Option (List ℕ)) (start : ℕ) (a b : Snapshot) (index : ℕ) : Type 0 where
  pub first_is : fin.get m.snaps first ≡ Some a
  pub second_is : fin.get m.snaps second ≡ Some b
  pub first_ready : ready account first m.clock.second a.row ≡ Ok tt
  pub second_ready : ready account second m.clock.second b.row ≡ Ok tt
  pub begins_at : begins m.secret true first second m.clock.second page start ≡ Ok index
  pub one_line : is_same_line a.row.line b.row.line ≡ true

-- what is left to show of a lock or a tier that was changed
abbrev pub Locks : (Outcome → Type 0) → Machine → ℕ → SnapKey → LockCommand → Type 0
Locks P m account key command =
    (s : Snapshot) (new : LockState) → fin.get m.snaps key ≡ Some s → done account key m.clock.second s.row ≡ Ok tt → lock_change s.row.lock command m.clock.second ≡ Ok new
    → P (with_snapshot m key (rewritten (record s.row { lock = new }) s), lock_answer (lock_shown new m.clock.second) (lock_until new))

abbrev pub Moves : (Outcome → Type 0) → Machine → ℕ → SnapKey → (Tier → Result Tier TierPhase) → (Tier → Answer) → Type 0
Moves P m account key move said =
    (s : Snapshot) (new : Tier) → fin.get m.snaps key ≡ Some s → done account key m.clock.second s.row ≡ Ok tt → move s.row.tier ≡ Ok new
    → P (with_snapshot m key (rewritten (record s.row { tier = new }) s), said new)

abbrev pub Commands : (Outcome → Type 0) → Machine → ℕ → RuleCommand → Type 0
Commands P m account command =
    (change : RuleChange) → bad_member (rule_request command) ≡ None → rules.decide account (book_of (rows_of m) account) command m.clock.second ≡ Ok change → P (ruled m account change, rule_answer (is_creation command) m.clock.second change)

-- what is left to show of such a call that was accepted
abbrev pub Others : (Outcome → Type 0) → Machine → ℕ → Request → Type 0
Others P m account (ListSnapshotBlocks key page most start) = (s : Snapshot) → fin.get m.snaps key ≡ Some s → ready account key m.clock.second s.row ≡ Ok tt → (index : ℕ) → begins m.secret false key key m.clock.second page start ≡ Ok index → P (m, listed m.secret key m.clock.second s most index)
Others P m account (ListChangedBlocks first second page most start) = (a b : Snapshot) (index : ℕ) → ChangesTests m account first second page start a b index → P (m, compared m.secret first second m.clock.second a b most index)
Others P m account (GetSnapshotBlock key index token) = (s : Snapshot) → fin.get m.snaps key ≡ Some s → ready account key m.clock.second s.row ≡ Ok tt → is_block_token m.secret key index m.clock.second token ≡ true → (block : WholeBlock) → fin.get s.array index ≡ Some block → P (m, BlockRead (sha256 block.bytes) block.bytes)
Others P m account (DescribeSnapshot key) = (s : Snapshot) → fin.get m.snaps key ≡ Some s → seen account key m.clock.second s.row ≡ Ok tt → P (m, SnapshotShown false (view_of account m.clock.second key s.row))
Others P m account (DescribeSnapshots from most) =
    let found = own_listed false (rows_of m) account m.clock.second from in
    P (m, SnapshotList (next_of (λ e. e.0.number) most found) (map (λ e. view_of account m.clock.second e.0 e.1) (page_of most found)))
Others P m account (ModifyPermission key add add_all remove remove_all) =
    (s : Snapshot) → fin.get m.snaps key ≡ Some s → done account key m.clock.second s.row ≡ Ok tt → nat_lt most_shared (length (permitted s.row.shared add remove)) ≡ false
    → P (with_snapshot m key (rewritten (permitted_row add add_all remove remove_all s.row) s), Done)
Others P m account (DeleteSnapshot key) =
    (s : Snapshot) → fin.get m.snaps key ≡ Some s → own account key m.clock.second s.row ≡ Ok tt → is_pending (status_at s.row m.clock.second) ≡ false → refuse_locked (lock_until s.row.lock) m.clock.second ≡ Ok tt
    → (days_in_bin (rows_of m) key s.row ≡ None → P (without_snapshot m key, Done)) × ((days : ℕ) → days_in_bin (rows_of m) key s.row ≡ Some days → P (with_snapshot m key (rewritten (binned_row m s.row days) s), Done))
Others P m account (LockSnapshot key mode term cool_hours) = Locks P m account key (Lock mode term cool_hours)
Others P m account (UnlockSnapshot key) = Locks P m account key Unlock
Others P m account (ArchiveSnapshot key) = Moves P m account key (λ tier. archive tier m.clock.second) (λ new. Done)
Others P m account (RestoreTier key days) = Moves P m account key (λ tier. restore tier days m.clock.second) (λ new. TierShown (restore_until new m.clock.second) (tier_shown new m.clock.second))
Others P m account (CreateVolume from size tags token) =
    let key : VolKey = next_volume m account in
    ((begun : Origin) → CreateTests m account from size tags token begun
    → P (created m key (volume_row key (unwrap_or size begun.size) begun.line from tags) begun.array token, VolumeShown true (unwrap_or size begun.size) from tags key))
    × ((row : TokenRow) → CreateAgainTests m account from size tags token row → P (m, VolumeShown true (made_size row.first) from tags (first_volume account row)))
Others P m account (CreateSnapshot volume description tags) = (row : VolRow) → account ≡ volume.account → fin.get m.vols volume ≡ Some row → SnapTests m account → P (snapped m account volume row description tags, says_snapped m account volume row description tags)
Others P m account (WriteVolumeBlock key index digest bytes) = (row : VolRow) → account ≡ key.account → fin.get m.vols key ≡ Some row → WriteTests row index digest bytes → P (written m key index bytes, BlockWritten digest)
Others P m account (ReadVolumeBlock key index) = (row : VolRow) → account ≡ key.account → fin.get m.vols key ≡ Some row → nat_le (2048 * row.size) index ≡ false → P (m, block_or_zeros sha256 (fin.get (disk_of m key) index))
Others P m account (DescribeVolume key) = (row : VolRow) → account ≡ key.account → fin.get m.vols key ≡ Some row → P (m, VolumeShown false row.size row.origin row.tags key)
Others P m account (DeleteVolume key) = (row : VolRow) → account ≡ key.account → fin.get m.vols key ≡ Some row → P (dropped m key, Done)
Others P m account (CreateRule days tags description delay) = Commands P m account (command.Create days tags description delay)
Others P m account (GetRule key) = (rule : Rule) → find account (book_of (rows_of m) account) key ≡ Some rule → P (m, RuleShown false (rule_view m.clock.second rule))
Others P m account (UpdateRule key days tags description) = Commands P m account (command.Update key days tags description)
Others P m account (DeleteRule key) = Commands P m account (command.Delete key)
Others P m account ListRules = P (m, RuleList (map (rule_view m.clock.second) (rules_in (book_of (rows_of m) account))))
Others P m account (LockRule key delay) = Commands P m account (command.Lock key delay)
Others P m account (UnlockRule key) = Commands P m account (command.Unlock key)
Others P m account (ListBin from most) =
    let found = own_listed true (rows_of m) account m.clock.second from in
    P (m, SnapshotList (next_of (λ e. e.0.number) most found) (map (λ e. view_of account m.clock.second e.0 e.1) (page_of most found)))
Others P m account (RestoreFromBin key) =
    (s : Snapshot) → fin.get m.snaps key ≡ Some s → binned account key m.clock.second s.row ≡ Ok tt → P (with_snapshot m key (rewritten (recovered s.row) s), SnapshotShown false (view_of account m.clock.second key (recovered s.row)))
Others P m account (CreatePolicy targets hours at retain add) =
    bad_member (CreatePolicy targets hours at retain add) ≡ None → P (with_policy m account targets hours at retain add, PolicyShown true (next_policy (rows_of m) account) m.clock)
Others P m account (GetPolicy key) = (p : Policy) → account ≡ key.account → fin.get m.policies key ≡ Some p → P (m, PolicyShown false key p.last)
Others P m account (DeletePolicy key) = (p : Policy) → account ≡ key.account → fin.get m.policies key ≡ Some p → P (without_policy m key, Done)
Others P m account (RunPolicy key) = (p : Policy) → RunTests m account key p → P (ran m key p, says_ran m account key p)
Others P m account request = Unit {0}

lock-says : (m : Machine) (account : ℕ) (request : Request) (name : Option LockName) (until : Option Moment) → ((answer : Answer) → changes_by m account request answer ≡ changes_made answer) → Says m account request 1 (lock_answer name until)
lock-says m account request None until once = record { written = refl; made = once _; gives = refl; creates_none = λ no. refl; no_rule = λ no. refl; answers = λ r e. cc }
lock-says m account request (Some name) until once = record { written = refl; made = once _; gives = refl; creates_none = λ no. refl; no_rule = λ no. refl; answers = λ r e. cc }

block-says : (m : Machine) (account : ℕ) (key : VolKey) (index : ℕ) (o : Option WholeBlock) → Says m account (ReadVolumeBlock key index) 0 (block_or_zeros sha256 o)
block-says m account key index None = record { written = refl; made = refl; gives = refl; creates_none = λ no. refl; no_rule = λ no. refl; answers = λ r e. cc }
block-says m account key index (Some block) = record { written = refl; made = refl; gives = refl; creates_none = λ no. refl; no_rule = λ no. refl; answers = λ r e. cc }

-- a command on rules repeats no other call
pub rule-once : (m : Machine) (account : ℕ) (command : RuleCommand) → is_repeat m account (rule_request command) ≡ false
rule-once m account (command.Create days tags description delay) = refl
rule-once m account (command.Update key days tags description) = refl
rule-once m account (command.Delete key) = refl
rule-once m account (command.Lock key delay) = refl
rule-once m account (command.Unlock key) = refl

-- a deletion puts no rule
removes : (o : Option Rule) (key : RuleKey) (now : ℕ) (rule : Rule) → delete_of o key now ≡ Ok (Put rule) → ⊥
removes None key now rule e = cc
removes (Some old) key now rule e = by (lock_at old.lock now) e
  where
    by : (own : RuleLock) → if_unlocked own (Remove key) ≡ Ok (Put rule) → ⊥
    by lock.Unlocked e = cc
    by (lock.Locked delay) e = cc
    by (lock.Pending end) e = cc

-- a command's answer; what it decided is told by the command
rule-says : (m : Machine) (account : ℕ) (command : RuleCommand) (change : RuleChange) → rules.decide account (book_of (rows_of m) account) command m.clock.second ≡ Ok change → Says m account (rule_request command) 1 (rule_answer (is_creation command) m.clock.second change)
rule-says m account (command.Create days tags description delay) (Put rule) e = record { written = refl; made = refl; gives = refl; creates_none = λ no. refl; no_rule = λ no. absurd (no tt); answers = λ r e. cc }
rule-says m account (command.Create days tags description delay) (Remove key) e = record { written = refl; made = refl; gives = refl; creates_none = λ no. refl; no_rule = λ no. refl; answers = λ r e. cc }
rule-says m account (command.Update key days tags description) (Put rule) e = record { written = refl; made = refl; gives = refl; creates_none = λ no. refl; no_rule = λ no. refl; answers = λ r e. cc }
rule-says m account (command.Update key days tags description) (Remove k) e = record { written = refl; made = refl; gives = refl; creates_none = λ no. refl; no_rule = λ no. refl; answers = λ r e. cc }
rule-says m account (command.Delete key) (Put rule) e = absurd (removes _ key m.clock.second rule e)
rule-says m account (command.Delete key) (Remove k) e = record { written = refl; made = refl; gives = refl; creates_none = λ no. refl; no_rule = λ no. refl; answers = λ r e. cc }
rule-says m account (command.Lock key delay) (Put rule) e = record { written = refl; made = refl; gives = refl; creates_none = λ no. refl; no_rule = λ no. refl; answers = λ r e. cc }
rule-says m account (command.Lock key delay) (Remove k) e = record { written = refl; made = refl; gives = refl; creates_none = λ no. refl; no_rule = λ no. refl; answers = λ r e. cc }
rule-says m account (command.Unlock key) (Put rule) e = record { written = refl; made = refl; gives = refl; creates_none = λ no. refl; no_rule = λ no. refl; answers = λ r e. cc }
rule-says m account (command.Unlock key) (Remove k) e = record { written = refl; made = refl; gives = refl; creates_none = λ no. refl; no_rule = λ no. refl; answers = λ r e. cc }

within : (n : ℕ) → nat_lt (2 ^ 28) n ≡ false → n ≤ 2 ^ 28
within n e = grind (arith, nat_tests)

-- a run is of the account's own
run-managed : (m : Machine) (account : ℕ) (key : PolicyKey) (p : Policy) → RunTests m account key p → IsManaged m account (RunPolicy key) (ran m key p).snaps (ran m key p).own (ran m key p).policies
run-managed m account key p tests =
    let mine : account ≡ key.account = tests.owned in
    let own : fin.FinMap nat_cmp Own = (ran m key p).own in
    let count : (own_in own key.account).next_snap ≡ (own_of m key.account).next_snap + length (due_volumes m key p) = new-next (rows_of m) m.clock key p (due_volumes m key p) in
    let counted : (own_in own account).next_snap ≡ (own_of m account).next_snap + length (due_volumes m key p) = subst (λ a. (own_in own a).next_snap ≡ (own_of m a).next_snap + length (due_volumes m key p)) (sym mine) count in
    record {
      asked = tt;
      on_policy = tt;
      fresh = refl;
      leaves = λ q. by_run key p mine counted (run-leaves m key p q);
      other_own = λ other apart. new-own-other (rows_of m) m.clock key p other (λ same. apart (same ∙ sym mine)) (due_volumes m key p);
      next_snap = omega (arith, counted);
      fits = λ fit. let few = within _ tests.numbers in omega (arith, counted, few);
      next_vol = subst (λ a. (own_in own a).next_vol ≡ (own_of m a).next_vol) (sym mine) (new-vol (rows_of m) m.clock key p (due_volumes m key p));
      other_policies = λ k apart. get-other policies_total exact_policies m.policies key _ k (λ same. apart (ap (λ (k : PolicyKey). k.account) same ∙ sym mine));
    }

at-most : (size least : ℕ) → nat_lt size least ≡ false → least ≤ size
at-most size least e = grind (arith, nat_tests)

module _ (P : Outcome → Type 0) (m : Machine) (account : ℕ) (request : Request) where
  -- what holds of a rewritten row, and where a row is taken out
  abbrev pub Rewrites : Type 0
  Rewrites = (key : SnapKey) (s : Snapshot) (row : SnapRow) (answer : Answer) → fin.get m.snaps key ≡ Some s → IsRewritten m account key request s.row row → Says m account request 1 answer → P (with_snapshot m key (rewritten row s), answer)

  abbrev pub TakesOut : Type 0
  TakesOut = (key : SnapKey) (s : Snapshot) (answer : Answer) → fin.get m.snaps key ≡ Some s → IsTakenOut m account key request s.row → Says m account request 1 answer → P (without_snapshot m key, answer)

  -- and where a volume is created or taken out
  abbrev pub Creates : Type 0
  Creates = (key : VolKey) (row : VolRow) (array : WholeArray) (token : Option (List ℕ)) (answer : Answer) → IsCreated m account key row array token request answer → Says m account request 1 answer → P (created m key row array token, answer)

  abbrev pub Drops : Type 0
  Drops = (key : VolKey) (row : VolRow) (answer : Answer) → fin.get m.vols key ≡ Some row → IsDropped account key request answer → Says m account request 1 answer → P (dropped m key, answer)

  -- and where a snapshot of a volume is made, or a block of one is written
  abbrev pub Snaps : Type 0
  Snaps = (volume : VolKey) (row : VolRow) (description : Option (List ℕ)) (tags : List Tag) → fin.get m.vols volume ≡ Some row → IsSnapped m account volume description tags request
      → P (snapped m account volume row description tags, says_snapped m account volume row description tags)

  abbrev pub Puts : Type 0
  Puts = (key : VolKey) (row : VolRow) (index : ℕ) (digest bytes : List ℕ) → fin.get m.vols key ≡ Some row → IsWritten account key row index digest bytes request → P (written m key index bytes, BlockWritten digest)

  -- and where the account's rules are changed
  abbrev pub Rules : Type 0
  Rules = (command : RuleCommand) (change : RuleChange) (answer : Answer) → IsRuled m account command change request → Says m account request 1 answer → P (ruled m account change, answer)

  -- and where snapshots, numbers and policies are
  abbrev pub Manages : Type 0
  Manages = (snaps : fin.FinMap snap_cmp Snapshot) (own : fin.FinMap nat_cmp Own) (policies : fin.FinMap policy_cmp Policy) (answer : Answer) → IsManaged m account request snaps own policies → Says m account request 1 answer
      → P (managed m snaps own policies, answer)

  commands : AsksChange request → Rules → (command : RuleCommand) → request ≡ rule_request command → ((change : RuleChange) → rules.decide account (book_of (rows_of m) account) command m.clock.second ≡ Ok change → Says m account request 1 (rule_answer (is_creation command) m.clock.second change)) → Commands P m account command
  commands asked ruled command is says = λ change good decides. ruled command change _ (record { asked = asked; request_is = is; good = good; decides = decides }) (says change decides)

  locks : AsksChange request → AsksLock request → ((answer : Answer) → changes_by m account request answer ≡ changes_made answer) → Rewrites → (key : SnapKey) (command : LockCommand) → Locks P m account key command
  locks asked locking once rewrites key command = λ s new is passes changed.
      rewrites key s _ _ is
      (record { asked = asked; owned = done-owned account key m.clock.second s.row passes; key_is = refl; size_is = refl; line_is = refl; put_is = refl; completed_is = refl; last_is = refl; timeout_is = refl; start_is = refl; volume_is = refl; bin_is = stands refl (done-shown account key m.clock.second s.row passes).0 (done-shown account key m.clock.second s.row passes).1; lock_is = λ other. absurd (other locking); sharing_is = λ other. (refl, refl) })
      (lock-says m account request (lock_shown new m.clock.second) (lock_until new) once)

  moves : AsksChange request → Rewrites → (key : SnapKey) (move : Tier → Result Tier TierPhase) (said : Tier → Answer) → ((new : Tier) → Says m account request 1 (said new)) → Moves P m account key move said
  moves asked rewrites key move said says = λ s new is passes changed.
      rewrites key s _ _ is
      (record { asked = asked; owned = done-owned account key m.clock.second s.row passes; key_is = refl; size_is = refl; line_is = refl; put_is = refl; completed_is = refl; last_is = refl; timeout_is = refl; start_is = refl; volume_is = refl; bin_is = stands refl (done-shown account key m.clock.second s.row passes).0 (done-shown account key m.clock.second s.row passes).1; lock_is = λ other. refl; sharing_is = λ other. (refl, refl) })
      (says new)

-- what holds of what shows something, of a rewritten row, where a row is taken out, where a volume is created or taken out, and where a snapshot of one is made
-- or a block of one is written
pub others : (P : Outcome → Type 0) (m : Machine) (account : ℕ) (request : Request) → ((answer : Answer) → Says m account request 0 answer → P (m, answer)) → Rewrites P m account request → TakesOut P m account request → Creates P m account request → Drops P m account request → Snaps P m account request → Puts P m account request → Rules P m account request → Manages P m account request → Others P m account request
others P m account (ListSnapshotBlocks key page most start) shows rewrites takes creates drops snaps puts ruled manages = λ s is passes index at. shows _ (record { written = refl; made = refl; gives = refl; creates_none = λ no. refl; no_rule = λ no. refl; answers = λ r e. cc })
others P m account (ListChangedBlocks first second page most start) shows rewrites takes creates drops snaps puts ruled manages = λ a b index tests. shows _ (record { written = refl; made = refl; gives = refl; creates_none = λ no. refl; no_rule = λ no. refl; answers = λ r e. cc })
others P m account (GetSnapshotBlock key index token) shows rewrites takes creates drops snaps puts ruled manages = λ s is passes good block at. shows _ (record { written = refl; made = refl; gives = refl; creates_none = λ no. refl; no_rule = λ no. refl; answers = λ r e. cc })
others P m account (DescribeSnapshot key) shows rewrites takes creates drops snaps puts ruled manages = λ s is passes. shows _ (record { written = refl; made = refl; gives = refl; creates_none = λ no. refl; no_rule = λ no. refl; answers = λ r e. cc })
others P m account (DescribeSnapshots from most) shows rewrites takes creates drops snaps puts ruled manages = shows _ (record { written = refl; made = refl; gives = refl; creates_none = λ no. refl; no_rule = λ no. refl; answers = λ r e. cc })
others P m account (ModifyPermission key add add_all remove remove_all) shows rewrites takes creates drops snaps puts ruled manages = λ s is passes few.
    rewrites key s _ Done is
    (record { asked = tt; owned = done-owned account key m.clock.second s.row passes; key_is = refl; size_is = refl; line_is = refl; put_is = refl; completed_is = refl; last_is = refl; timeout_is = refl; start_is = refl; volume_is = refl; bin_is = stands refl (done-shown account key m.clock.second s.row passes).0 (done-shown account key m.clock.second s.row passes).1; lock_is = λ other. refl; sharing_is = λ none. absurd (none tt) })
    (record { written = refl; made = refl; gives = refl; creates_none = λ no. refl; no_rule = λ no. refl; answers = λ r e. cc })
others P m account (DeleteSnapshot key) shows rewrites takes creates drops snaps puts ruled manages = λ s is passes closed unlocked. (
  λ none.
      takes key s Done is
      (record { asked = tt; request_is = refl; owned = own-owned account key m.clock.second s.row passes; passes = passes; closed = closed; unlocked = unlocked; no_days = none })
      (record { written = refl; made = refl; gives = refl; creates_none = λ no. refl; no_rule = λ no. refl; answers = λ r e. cc }),
  λ days some.
      rewrites key s _ Done is
      (record {
        asked = tt;
        owned = own-owned account key m.clock.second s.row passes;
        key_is = refl;
        size_is = refl;
        line_is = refl;
        put_is = refl;
        completed_is = refl;
        last_is = refl;
        timeout_is = refl;
        start_is = refl;
        volume_is = refl;
        bin_is = goes (record { request_is = refl; passes = passes; closed = closed; unlocked = unlocked; days = days; days_are = some; row_is = refl });
        lock_is = λ other. refl;
        sharing_is = λ other. (refl, refl);
      })
      (record { written = refl; made = refl; gives = refl; creates_none = λ no. refl; no_rule = λ no. refl; answers = λ r e. cc }),
)
others P m account (LockSnapshot key mode term cool_hours) shows rewrites takes creates drops snaps puts ruled manages = locks P m account (LockSnapshot key mode term cool_hours) tt tt (λ answer. refl) rewrites key (Lock mode term cool_hours)
others P m account (UnlockSnapshot key) shows rewrites takes creates drops snaps puts ruled manages = locks P m account (UnlockSnapshot key) tt tt (λ answer. refl) rewrites key Unlock
others P m account (ArchiveSnapshot key) shows rewrites takes creates drops snaps puts ruled manages = moves P m account (ArchiveSnapshot key) tt rewrites key _ _ (λ new. record { written = refl; made = refl; gives = refl; creates_none = λ no. refl; no_rule = λ no. refl; answers = λ r e. cc })
others P m account (RestoreTier key days) shows rewrites takes creates drops snaps puts ruled manages = moves P m account (RestoreTier key days) tt rewrites key _ _ (λ new. record { written = refl; made = refl; gives = refl; creates_none = λ no. refl; no_rule = λ no. refl; answers = λ r e. cc })
others P m account (CreateVolume from size tags token) shows rewrites takes creates drops snaps puts ruled manages = (
  λ begun tests.
      creates _ _ _ token _ (record { asked = tt; size = size; request_is = refl; key_is = refl; begun = begun; begins = tests.begins_with; array_is = refl; least = at-most _ _ tests.reaches; fits = tests.fits; size_is = refl; unused = tests.unused; answer_is = refl })
      (record { written = refl; made = ap (λ o. cond (is_some o) 0 1) tests.unused; gives = refl; creates_none = λ no. absurd (no tt); no_rule = λ no. refl; answers = λ r e. cc }),
  λ row tests. shows _ (record { written = refl; made = ap (λ o. cond (is_some o) 0 1) tests.used; gives = refl; creates_none = λ no. absurd (no tt); no_rule = λ no. refl; answers = λ r e. cc }),
)
others P m account (CreateSnapshot volume description tags) shows rewrites takes creates drops snaps puts ruled manages = λ row owned is tests. snaps volume row description tags is (record { asked = tt; request_is = refl; owned = owned; tests = tests })
others P m account (WriteVolumeBlock key index digest bytes) shows rewrites takes creates drops snaps puts ruled manages = λ row owned is tests. puts key row index digest bytes is (record { asked = tt; request_is = refl; owned = owned; tests = tests })
others P m account (ReadVolumeBlock key index) shows rewrites takes creates drops snaps puts ruled manages = λ row owned is within. shows _ (block-says m account key index (fin.get (disk_of m key) index))
others P m account (DescribeVolume key) shows rewrites takes creates drops snaps puts ruled manages = λ row owned is. shows _ (record { written = refl; made = refl; gives = refl; creates_none = λ no. refl; no_rule = λ no. refl; answers = λ r e. cc })
others P m account (DeleteVolume key) shows rewrites takes creates drops snaps puts ruled manages = λ row owned is.
    drops key row Done is (record { asked = tt; request_is = refl; owned = owned; answer_is = refl }) (record { written = refl; made = refl; gives = refl; creates_none = λ no. refl; no_rule = λ no. refl; answers = λ r e. cc })
others P m account (CreateRule days tags description delay) shows rewrites takes creates drops snaps puts ruled manages = commands P m account (CreateRule days tags description delay) tt ruled (command.Create days tags description delay) refl (rule-says m account (command.Create days tags description delay))
others P m account (UpdateRule key days tags description) shows rewrites takes creates drops snaps puts ruled manages = commands P m account (UpdateRule key days tags description) tt ruled (command.Update key days tags description) refl (rule-says m account (command.Update key days tags description))
others P m account (DeleteRule key) shows rewrites takes creates drops snaps puts ruled manages = commands P m account (DeleteRule key) tt ruled (command.Delete key) refl (rule-says m account (command.Delete key))
others P m account (LockRule key delay) shows rewrites takes creates drops snaps puts ruled manages = commands P m account (LockRule key delay) tt ruled (command.Lock key delay) refl (rule-says m account (command.Lock key delay))
others P m account (UnlockRule key) shows rewrites takes creates drops snaps puts ruled manages = commands P m account (UnlockRule key) tt ruled (command.Unlock key) refl (rule-says m account (command.Unlock key))
others P m account (GetRule key) shows rewrites takes creates drops snaps puts ruled manages = λ rule is. shows _ (record { written = refl; made = refl; gives = refl; creates_none = λ no. refl; no_rule = λ no. refl; answers = λ r e. cc })
others P m account ListRules shows rewrites takes creates drops snaps puts ruled manages = shows _ (record { written = refl; made = refl; gives = refl; creates_none = λ no. refl; no_rule = λ no. refl; answers = λ r e. cc })
others P m account (ListBin from most) shows rewrites takes creates drops snaps puts ruled manages = shows _ (record { written = refl; made = refl; gives = refl; creates_none = λ no. refl; no_rule = λ no. refl; answers = λ r e. cc })
others P m account (RestoreFromBin key) shows rewrites takes creates drops snaps puts ruled manages = λ s is passes.
    rewrites key s _ _ is
    (record {
      asked = tt;
      owned = binned-owned account key m.clock.second s.row passes;
      key_is = refl;
      size_is = refl;
      line_is = refl;
      put_is = refl;
      completed_is = refl;
      last_is = refl;
      timeout_is = refl;
      start_is = refl;
      volume_is = refl;
      bin_is = comes (record { request_is = refl; passes = passes; row_is = refl });
      lock_is = λ other. refl;
      sharing_is = λ other. (refl, refl);
    })
    (record { written = refl; made = refl; gives = refl; creates_none = λ no. refl; no_rule = λ no. refl; answers = λ r e. cc })
others P m account (CreatePolicy targets hours at retain add) shows rewrites takes creates drops snaps puts ruled manages = λ good.
    let key : PolicyKey = next_policy (rows_of m) account in
    let own : Own = record (own_of m account) { next_policy = key.number + 1 } in
    let numbers : fin.get (fin.insert m.own account own) account ≡ Some own = get-itself nat_cmp_total nat_cmp-IsAntisymmetric m.own account own in
    let next : (own_in (fin.insert m.own account own) account).next_snap ≡ (own_of m account).next_snap = ap (λ (o : Option Own). (unwrap_or o no_own).next_snap) numbers in
    manages _ _ _ _
    (record {
      asked = tt;
      on_policy = tt;
      fresh = refl;
      leaves = λ q. as_it_was refl;
      other_own = λ other apart. get-other nat_cmp_total nat_cmp-IsAntisymmetric m.own account own other apart;
      next_snap = omega (arith, next);
      fits = λ fit. omega (arith, next, fit);
      next_vol = ap (λ (o : Option Own). (unwrap_or o no_own).next_vol) numbers;
      other_policies = λ k apart. get-other policies_total exact_policies m.policies key _ k (λ same. apart (ap (λ (k : PolicyKey). k.account) same));
    })
    (record { written = refl; made = refl; gives = refl; creates_none = λ no. refl; no_rule = λ no. refl; answers = λ r e. cc })
others P m account (GetPolicy key) shows rewrites takes creates drops snaps puts ruled manages = λ p owned is. shows _ (record { written = refl; made = refl; gives = refl; creates_none = λ no. refl; no_rule = λ no. refl; answers = λ r e. cc })
others P m account (DeletePolicy key) shows rewrites takes creates drops snaps puts ruled manages = λ p owned is.
    manages m.snaps m.own (fin.remove m.policies key) Done
    (record {
      asked = tt;
      on_policy = tt;
      fresh = refl;
      leaves = λ q. as_it_was refl;
      other_own = λ other apart. refl;
      next_snap = omega arith;
      fits = λ fit. fit;
      next_vol = refl;
      other_policies = λ k apart. get-left policies_total exact_policies m.policies key k (λ same. apart (ap (λ (k : PolicyKey). k.account) same ∙ sym owned));
    })
    (record { written = refl; made = refl; gives = refl; creates_none = λ no. refl; no_rule = λ no. refl; answers = λ r e. cc })
others P m account (RunPolicy key) shows rewrites takes creates drops snaps puts ruled manages = λ p tests.
    manages _ _ _ _ (run-managed m account key p tests) (record { written = refl; made = refl; gives = refl; creates_none = λ no. refl; no_rule = λ no. refl; answers = λ r e. cc })
others P m account request shows rewrites takes creates drops snaps puts ruled manages = tt

-- what follows of the numbers of each account
module _ (m : Machine) (account : ℕ) (request : Request) (snaps : fin.FinMap snap_cmp Snapshot) (own : fin.FinMap nat_cmp Own) (policies : fin.FinMap policy_cmp Policy) (is : IsManaged m account request snaps own policies) (a : ℕ) where
  pub managed-grows : (own_of m a).next_snap ≤ (own_in own a).next_snap
  managed-grows = by_key nat_cmp_total nat_cmp-IsAntisymmetric ((own_of m a).next_snap ≤ (own_in own a).next_snap) a account
      (λ same. let more = is.next_snap in let old = ap (λ a. (own_of m a).next_snap) same in let new = ap (λ a. (own_in own a).next_snap) same in omega (arith, more, old, new))
      (λ other. let new = ap (λ (o : Option Own). (unwrap_or o no_own).next_snap) (is.other_own a other) in omega (arith, new))

  pub managed-vols : (own_in own a).next_vol ≡ (own_of m a).next_vol
  managed-vols = by_key nat_cmp_total nat_cmp-IsAntisymmetric ((own_in own a).next_vol ≡ (own_of m a).next_vol) a account
      (λ same. subst (λ a. (own_in own a).next_vol ≡ (own_of m a).next_vol) (sym same) is.next_vol)
      (λ other. ap (λ (o : Option Own). (unwrap_or o no_own).next_vol) (is.other_own a other))

  pub managed-fits : ((b : ℕ) → (own_of m b).next_snap ≤ 2 ^ 28) → (own_in own a).next_snap ≤ 2 ^ 28
  managed-fits h = by_key nat_cmp_total nat_cmp-IsAntisymmetric ((own_in own a).next_snap ≤ 2 ^ 28) a account
      (λ same. let fit = is.fits (h account) in let new = ap (λ a. (own_in own a).next_snap) same in omega (arith, fit, new))
      (λ other. let was = h a in let new = ap (λ (o : Option Own). (unwrap_or o no_own).next_snap) (is.other_own a other) in omega (arith, was, new))
