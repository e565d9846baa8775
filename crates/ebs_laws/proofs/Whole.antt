-- What each call does to whole snapshots, a row and its array together.
use Rattle.std.proofs.Common.{ℕ, ◌+◌, unwrap_or, true, false, not, ◌==◌, nat_eq, nat_le, nat_lt, ◌&&◌, Bool, List, map, length, codes, Option, None, Some, Result, Ok}
use Rattle.std.specs.Cmp.Lexicographic.{pointwise}
use Rattle.std.specs.FinMap as fin
use Rattle.sha2.specs.Sha256.{sha256}
use Rattle.ebs_model.specs.declared.keys.SnapKey.{SnapKey}
use Rattle.ebs_model.specs.declared.keys.VolKey.{VolKey}
use Rattle.ebs_model.specs.declared.keys.PolicyKey.{PolicyKey}
use Rattle.ebs_model.specs.declared.keys.AnyKey.TheVariants.{Snap}
use Rattle.ebs_model.specs.declared.policy.Policy.{Policy}
use Rattle.ebs_model.specs.declared.policy.Retain.{Retain}
use Rattle.ebs_model.specs.declared.tags.Tag.{Tag}
use Rattle.ebs_model.specs.declared.rows.SnapRow.{SnapRow}
use Rattle.ebs_model.specs.declared.rows.Line.{Line}
use Rattle.ebs_model.specs.declared.rows.Own.{Own}
use Rattle.ebs_model.specs.declared.rows.TokenRow.{TokenRow}
use Rattle.ebs_model.specs.declared.rows.VolRow.{VolRow}
use Rattle.ebs_model.specs.declared.request.Request.{Request}
use Rattle.ebs_model.specs.declared.request.Request.TheVariants.{StartSnapshot, PutSnapshotBlock, CompleteSnapshot, ListSnapshotBlocks, ListChangedBlocks, GetSnapshotBlock, DescribeSnapshot, DeleteSnapshot, ModifyPermission, LockSnapshot, UnlockSnapshot, ArchiveSnapshot, RestoreTier, CreateVolume, CreateSnapshot, WriteVolumeBlock, ReadVolumeBlock, DescribeVolume, DeleteVolume, CreateRule, GetRule, UpdateRule, DeleteRule, LockRule, UnlockRule, RestoreFromBin, CreatePolicy, GetPolicy, DeletePolicy, RunPolicy}
use Rattle.ebs_model.specs.declared.answer.Answer.{Answer}
use Rattle.ebs_model.specs.declared.answer.Answer.TheVariants as answer
use Rattle.ebs_model.specs.declared.answer.Kind.TheVariants as kind
use Rattle.ebs_model.specs.declared.answer.StateName.TheVariants.{Pending}
use Rattle.ebs_model.specs.declared.lock.LockCommand.{LockCommand}
use Rattle.ebs_model.specs.declared.lock.LockCommand.TheVariants.{Lock, Unlock}
use Rattle.ebs_model.specs.declared.answer.QuotaName.TheVariants.{Snapshots, Volumes, Policies, ClientTokens, SharedAccounts, Ids}
use Rattle.ebs_model.specs.declared.answer.Spent.TheVariants.{Changes}
use Rattle.ebs_model.specs.declared.answer.Refusal.{Refusal}
use Rattle.ebs_model.specs.declared.answer.Refusal.TheVariants.{BadParameter, BadSize, TokenConflict, BadIndex, BadBlockToken, Unrelated, Checksum, NotFound, WrongState, OpenUploads, Quota, Exhausted}
use Rattle.std.specs.Ordering.{nat_cmp}
use Rattle.ebs_model.specs.Keys.{snap_cmp, policy_cmp}
use Rattle.ebs_model.specs.Quotas.{blocks_of, most_open, most_kept, most_volumes, most_policies, most_tokens, most_ids, most_shared}
use Rattle.ebs_model.specs.Refuse.{◌>>=◌, ◌>>◌, refuse_if, refuse_bad, some_or}
use Rattle.ebs_model.specs.Limits.{bad_member, is_size, is_size_given}
use Rattle.ebs_model.specs.Tokens.{is_block_token}
use Rattle.ebs_model.specs.Arrays.{Hash, WholeBlock, WholeArray, linear}
use Rattle.ebs_model.specs.Time.{Snapshot, status_at, is_pending}
use Rattle.ebs_model.specs.Access.{seen, own, done, open_upload, ready, base}
use Rattle.ebs_model.specs.Rows as rows
use Rattle.ebs_model.specs.Rows.{book_of, the_volume, the_policy, open_count, kept_count, volume_count, policy_count, first_use, token_count}
use Rattle.ebs_model.specs.Machine.{Machine, is_spent, rows_of, disk_of, with_arrays}
use Rattle.ebs_model.specs.Calls.Start.{next_key, new_line, started_row, is_same_start, first_made, first_key, has_token, with_token}
use Rattle.ebs_model.specs.Calls.Volume.{new_volume_line, is_same_create, made_size, first_volume}
use Rattle.ebs_model.specs.Calls.Disk.{snapped_row, block_or_zeros}
use Rattle.ebs_model.specs.Calls.Complete.{completed_row, refuse_checksum}
use Rattle.ebs_model.specs.Calls.Permission.{permitted, permitted_row}
use Rattle.ebs_model.specs.Calls.Delete.{refuse_locked, days_in_bin}
use Rattle.ebs_model.specs.Calls.Bin as bin
use Rattle.ebs_model.specs.Calls.Bin.{recovered}
use Rattle.ebs_model.specs.Calls.Rule.{changed_rule, rule_answer, is_creation}
use Rattle.ebs_model.specs.Rules.{bin_end, find, rule_view}
use Rattle.ebs_model.specs.RuleCommands as rules
use Rattle.ebs_model.specs.RuleCommands.{committed}
use Rattle.ebs_model.specs.declared.keys.RuleKey.{RuleKey}
use Rattle.ebs_model.specs.declared.rules.RuleCommand.{RuleCommand}
use Rattle.ebs_model.specs.declared.rules.RuleCommand.TheVariants as command
use Rattle.ebs_model.specs.declared.rules.RuleChange.{RuleChange}
use Rattle.ebs_model.specs.Calls.Lock.{changed_lock, lock_answer}
use Rattle.ebs_model.specs.Calls.Archive.{changed_tier}
use Rattle.ebs_model.specs.Locks.{lock_change}
use Rattle.ebs_model.specs.Tiers as tiers
use Rattle.ebs_model.specs.Views.{view_of, lock_shown, lock_until, tier_shown, restore_until}
use Rattle.ebs_model.specs.Decide.{decide}
use Rattle.ebs_model.specs.Step.{finish, source_array}
use Rattle.ebs_model.specs.Calls.Policy.{next_policy, new_policy}
use Rattle.ebs_model.specs.Calls.Run.{due_targets, new_keys, source_of, made_rows, run_ended, run_rows}
use Rattle.ebs_model.specs.Lists.{Pair}
use Rattle.ebs_model.specs.Calls.List.{begins, is_same_line, block_list, change_list, differences}
use Rattle.ebs_laws.specs.Uploads.{put}

abbrev pub own_of : Machine → ℕ → Own
own_of m account = rows.own_of (rows_of m) account

abbrev pub the_snapshot : Machine → SnapKey → (SnapRow → Result (Unit {0}) Refusal) → Result Snapshot Refusal
the_snapshot m key test = do
  found ← some_or (fin.get m.snaps key) (NotFound kind.Snapshot)
  test found.row
  Ok found

abbrev pub with_snapshot : Machine → SnapKey → Snapshot → Machine
with_snapshot m key s = record m { changes = m.changes + 1; snaps = fin.insert m.snaps key s }

-- what an upload begins with: its line, the least size in GiB that it may have, and its array
pub record Origin : Type 0 where
  pub line : Line
  pub size : ℕ
  pub array : WholeArray

abbrev pub of_snapshot : Snapshot → Origin
of_snapshot s = record { line = s.row.line; size = s.row.size; array = s.array }

abbrev pub of_nothing : SnapKey → Origin
of_nothing key = record { line = new_line key; size = 0; array = fin.empty }

abbrev pub origin : Machine → ℕ → SnapKey → Option SnapKey → Result Origin Refusal
origin m account key None = Ok (of_nothing key)
origin m account key (Some parent) = do
  found ← the_snapshot m parent (base account parent m.clock.second)
  Ok (of_snapshot found)

abbrev pub with_started : Machine → SnapKey → SnapRow → WholeArray → Machine
with_started m key row array = record m {
  changes = m.changes + 1;
  snaps = fin.insert m.snaps key (record { row = row; array = array });
  own = fin.insert m.own key.account (record (own_of m key.account) { next_snap = key.number + 1 });
}

-- and the client token is kept with the call
abbrev pub with_use : Machine → Machine → SnapKey → Request → Option (List ℕ) → Machine
with_use m new key request token = record new { tokens = with_token m.tokens m.clock key.account key.number request token }

-- what an earlier call with the same client token decides, where there was one
abbrev pub by_use : {B : Type 0} → Option TokenRow → (TokenRow → Result B Refusal) → Result B Refusal → Result B Refusal
by_use None repeat fresh = fresh
by_use (Some row) repeat fresh = repeat row

abbrev pub repeat : Machine → ℕ → ℕ → Option SnapKey → Option (List ℕ) → List Tag → ℕ → TokenRow → Result (Machine × Answer) Refusal
repeat m account size parent description tags timeout row = do
  refuse_if (not (is_same_start row.first size parent description tags timeout)) (TokenConflict (first_key account row))
  Ok (m, answer.Started description account parent (first_made account row) row.at tags size)

abbrev pub fresh : Machine → ℕ → ℕ → Option SnapKey → Option (List ℕ) → List Tag → Option (List ℕ) → ℕ → Result (Machine × Answer) Refusal
fresh m account size parent description tags token timeout = do
  let key : SnapKey = record { account = account; number = (own_of m account).next_snap }
  from ← origin m account key parent
  refuse_if (nat_lt size from.size) BadSize
  refuse_if (nat_le most_open (open_count (rows_of m) account m.clock.second)) OpenUploads
  refuse_if (nat_le most_kept (kept_count (rows_of m) account)) (Quota Snapshots most_kept)
  refuse_if (has_token token && nat_le most_tokens (token_count (rows_of m) account)) (Quota ClientTokens most_tokens)
  refuse_if (nat_le most_ids key.number) (Quota Ids most_ids)
  refuse_if (is_spent m) (Exhausted Changes)
  Ok (
    with_use m (with_started m key (started_row m.clock key size parent from.line description tags timeout) from.array) key (StartSnapshot size parent description tags token timeout) token,
    answer.Started description account parent key m.clock tags size,
  )

abbrev pub start : Machine → ℕ → ℕ → Option SnapKey → Option (List ℕ) → List Tag → Option (List ℕ) → ℕ → Result (Machine × Answer) Refusal
start m account size parent description tags token timeout = do
  refuse_if (not (is_size size)) BadSize
  by_use (first_use (rows_of m) account token) (repeat m account size parent description tags timeout) (fresh m account size parent description tags token timeout)

abbrev pub with_put : Machine → SnapKey → Snapshot → ℕ → List ℕ → Machine
with_put m key s index bytes = record (with_snapshot m key (put s m.clock m.stamps index bytes)) { stamps = m.stamps + 1 }

abbrev pub put_block : Hash → Machine → ℕ → SnapKey → ℕ → List ℕ → List ℕ → Result (Machine × Answer) Refusal
put_block hash m account key index digest bytes = do
  refuse_if (not (pointwise nat_eq digest (hash bytes))) (Checksum digest (hash bytes))
  found ← the_snapshot m key (open_upload account key m.clock.second)
  refuse_if (nat_le (blocks_of found.row.size) index) BadIndex
  refuse_if (is_spent m) (Exhausted Changes)
  Ok (with_put m key found index bytes, answer.BlockWritten digest)

abbrev pub completed : Snapshot → Snapshot
completed s = record { row = completed_row s.row; array = s.array }

abbrev pub complete : Hash → Machine → ℕ → SnapKey → ℕ → Option (List ℕ) → Result (Machine × Answer) Refusal
complete hash m account key count checksum = do
  found ← the_snapshot m key (open_upload account key m.clock.second)
  refuse_if (not (fin.len found.row.put == count)) (BadParameter (codes "x-amz-ChangedBlocksCount"))
  refuse_checksum checksum (linear hash found.array (fin.keys found.row.put))
  refuse_if (is_spent m) (Exhausted Changes)
  Ok (with_snapshot m key (completed found), answer.Completed)

abbrev pub listed : List ℕ → SnapKey → ℕ → Snapshot → ℕ → ℕ → Answer
listed secret key now s most index = block_list secret key now s.row.size s.array most index

abbrev pub list_blocks : Machine → ℕ → SnapKey → Option (List ℕ) → ℕ → ℕ → Result (Machine × Answer) Refusal
list_blocks m account key page most start = do
  found ← the_snapshot m key (ready account key m.clock.second)
  index ← begins m.secret false key key m.clock.second page start
  Ok (m, listed m.secret key m.clock.second found most index)

abbrev pub changes_of : Snapshot → Snapshot → ℕ → List (Pair WholeBlock)
changes_of first second index = differences first.array second.array index

abbrev pub compared : List ℕ → SnapKey → SnapKey → ℕ → Snapshot → Snapshot → ℕ → ℕ → Answer
compared secret first second now a b most index = change_list secret first second now b.row.size a.array b.array most index

abbrev pub list_changed : Machine → ℕ → SnapKey → SnapKey → Option (List ℕ) → ℕ → ℕ → Result (Machine × Answer) Refusal
list_changed m account first second page most start = do
  a ← the_snapshot m first (ready account first m.clock.second)
  b ← the_snapshot m second (ready account second m.clock.second)
  index ← begins m.secret true first second m.clock.second page start
  refuse_if (not (is_same_line a.row.line b.row.line)) Unrelated
  Ok (m, compared m.secret first second m.clock.second a b most index)

abbrev pub read_of : Hash → Snapshot → ℕ → Result Answer Refusal
read_of hash s index = do
  block ← some_or (fin.get s.array index) BadIndex
  Ok (answer.BlockRead (hash block.bytes) block.bytes)

abbrev pub get_block : Hash → Machine → ℕ → SnapKey → ℕ → List ℕ → Result (Machine × Answer) Refusal
get_block hash m account key index token = do
  found ← the_snapshot m key (ready account key m.clock.second)
  refuse_if (not (is_block_token m.secret key index m.clock.second token)) BadBlockToken
  answer ← read_of hash found index
  Ok (m, answer)

-- one row is rewritten, and its array stays
abbrev pub rewritten : SnapRow → Snapshot → Snapshot
rewritten row s = record { row = row; array = s.array }

abbrev pub describe : Machine → ℕ → SnapKey → Result (Machine × Answer) Refusal
describe m account key = do
  found ← the_snapshot m key (seen account key m.clock.second)
  Ok (m, answer.SnapshotShown false (view_of account m.clock.second key found.row))

abbrev pub permit : Machine → ℕ → SnapKey → List ℕ → Bool → List ℕ → Bool → Result (Machine × Answer) Refusal
permit m account key add add_all remove remove_all = do
  found ← the_snapshot m key (done account key m.clock.second)
  refuse_if (nat_lt most_shared (length (permitted found.row.shared add remove))) (Quota SharedAccounts most_shared)
  refuse_if (is_spent m) (Exhausted Changes)
  Ok (with_snapshot m key (rewritten (permitted_row add add_all remove remove_all found.row) found), answer.Done)

-- a snapshot is taken out, its row and its array
abbrev pub without_snapshot : Machine → SnapKey → Machine
without_snapshot m key = record m { changes = m.changes + 1; snaps = fin.remove m.snaps key }

-- or it stays for so many days, with all else as it was
abbrev pub binned_row : Machine → SnapRow → ℕ → SnapRow
binned_row m row days = record row { bin_end = Some (bin_end m.clock.second days) }

abbrev pub deleted : Machine → SnapKey → Snapshot → Option ℕ → Machine
deleted m key s None = without_snapshot m key
deleted m key s (Some days) = with_snapshot m key (rewritten (binned_row m s.row days) s)

abbrev pub delete : Machine → ℕ → SnapKey → Result (Machine × Answer) Refusal
delete m account key = do
  found ← the_snapshot m key (own account key m.clock.second)
  refuse_if (is_pending (status_at found.row m.clock.second)) (WrongState Pending)
  refuse_locked (lock_until found.row.lock) m.clock.second
  refuse_if (is_spent m) (Exhausted Changes)
  Ok (deleted m key found (days_in_bin (rows_of m) key found.row), answer.Done)

abbrev pub recover : Machine → ℕ → SnapKey → Result (Machine × Answer) Refusal
recover m account key = do
  found ← the_snapshot m key (bin.binned account key m.clock.second)
  refuse_if (is_spent m) (Exhausted Changes)
  Ok (with_snapshot m key (rewritten (recovered found.row) found), answer.SnapshotShown false (view_of account m.clock.second key (recovered found.row)))

-- the rules of an account are others
abbrev pub ruled : Machine → ℕ → RuleChange → Machine
ruled m account change = record m { changes = m.changes + 1; books = fin.insert m.books account (committed (book_of (rows_of m) account) change) }

abbrev pub change_rules : Machine → ℕ → RuleCommand → Result (Machine × Answer) Refusal
change_rules m account command = do
  change ← changed_rule (rules.decide account (book_of (rows_of m) account) command m.clock.second)
  refuse_if (is_spent m) (Exhausted Changes)
  Ok (ruled m account change, rule_answer (is_creation command) m.clock.second change)

abbrev pub get_rule : Machine → ℕ → RuleKey → Result (Machine × Answer) Refusal
get_rule m account key = do
  rule ← some_or (find account (book_of (rows_of m) account) key) (NotFound kind.Rule)
  Ok (m, answer.RuleShown false (rule_view m.clock.second rule))

abbrev pub lock : Machine → ℕ → SnapKey → LockCommand → Result (Machine × Answer) Refusal
lock m account key command = do
  found ← the_snapshot m key (done account key m.clock.second)
  new ← changed_lock (lock_change found.row.lock command m.clock.second)
  refuse_if (is_spent m) (Exhausted Changes)
  Ok (with_snapshot m key (rewritten (record found.row { lock = new }) found), lock_answer (lock_shown new m.clock.second) (lock_until new))

abbrev pub archive : Machine → ℕ → SnapKey → Result (Machine × Answer) Refusal
archive m account key = do
  found ← the_snapshot m key (done account key m.clock.second)
  new ← changed_tier (tiers.archive found.row.tier m.clock.second)
  refuse_if (is_spent m) (Exhausted Changes)
  Ok (with_snapshot m key (rewritten (record found.row { tier = new }) found), answer.Done)

abbrev pub restore : Machine → ℕ → SnapKey → Option ℕ → Result (Machine × Answer) Refusal
restore m account key days = do
  found ← the_snapshot m key (done account key m.clock.second)
  new ← changed_tier (tiers.restore found.row.tier days m.clock.second)
  refuse_if (is_spent m) (Exhausted Changes)
  Ok (with_snapshot m key (rewritten (record found.row { tier = new }) found), answer.TierShown (restore_until new m.clock.second) (tier_shown new m.clock.second))

-- the account's next volume
abbrev pub next_volume : Machine → ℕ → VolKey
next_volume m account = record { account = account; number = (own_of m account).next_vol }

-- what a volume begins with
abbrev pub of_no_origin : VolKey → Origin
of_no_origin key = record { line = new_volume_line key; size = 0; array = fin.empty }

abbrev pub volume_origin : Machine → ℕ → VolKey → Option SnapKey → Result Origin Refusal
volume_origin m account key None = Ok (of_no_origin key)
volume_origin m account key (Some from) = do
  found ← the_snapshot m from (base account from m.clock.second)
  Ok (of_snapshot found)

-- the call that a volume's row tells
abbrev pub creation : VolRow → Option (List ℕ) → Request
creation row token = CreateVolume row.origin (Some row.size) row.tags token

abbrev pub created : Machine → VolKey → VolRow → WholeArray → Option (List ℕ) → Machine
created m key row array token = record m {
  changes = m.changes + 1;
  own = fin.insert m.own key.account (record (own_of m key.account) { next_vol = key.number + 1 });
  tokens = with_token m.tokens m.clock key.account key.number (creation row token) token;
  vols = fin.insert m.vols key row;
  disks = fin.insert m.disks key array;
}

abbrev pub dropped : Machine → VolKey → Machine
dropped m key = record m { changes = m.changes + 1; vols = fin.remove m.vols key; disks = fin.remove m.disks key }

abbrev pub create_again : Machine → ℕ → Option SnapKey → Option ℕ → List Tag → TokenRow → Result (Machine × Answer) Refusal
create_again m account from size tags row = do
  refuse_if (not (is_same_create row.first from size tags)) (TokenConflict (first_key account row))
  Ok (m, answer.VolumeShown true (made_size row.first) from tags (first_volume account row))

abbrev pub volume_row : VolKey → ℕ → Line → Option SnapKey → List Tag → VolRow
volume_row key size line from tags = record { key = key; size = size; line = line; origin = from; tags = tags }

abbrev pub create_fresh : Machine → ℕ → Option SnapKey → Option ℕ → List Tag → Option (List ℕ) → Result (Machine × Answer) Refusal
create_fresh m account from size tags token = do
  let key : VolKey = next_volume m account
  begun ← volume_origin m account key from
  refuse_if (nat_lt (unwrap_or size begun.size) begun.size) BadSize
  refuse_if (nat_le most_volumes (volume_count (rows_of m) account)) (Quota Volumes most_volumes)
  refuse_if (has_token token && nat_le most_tokens (token_count (rows_of m) account)) (Quota ClientTokens most_tokens)
  refuse_if (nat_le most_ids key.number) (Quota Ids most_ids)
  refuse_if (is_spent m) (Exhausted Changes)
  Ok (created m key (volume_row key (unwrap_or size begun.size) begun.line from tags) begun.array token, answer.VolumeShown true (unwrap_or size begun.size) from tags key)

abbrev pub create : Machine → ℕ → Option SnapKey → Option ℕ → List Tag → Option (List ℕ) → Result (Machine × Answer) Refusal
create m account from size tags token = do
  refuse_if (not (is_size_given size)) BadSize
  by_use (first_use (rows_of m) account token) (create_again m account from size tags) (create_fresh m account from size tags token)

abbrev pub describe_volume : Machine → ℕ → VolKey → Result (Machine × Answer) Refusal
describe_volume m account key = do
  row ← the_volume (rows_of m) account key
  Ok (m, answer.VolumeShown false row.size row.origin row.tags key)

abbrev pub drop : Machine → ℕ → VolKey → Result (Machine × Answer) Refusal
drop m account key = do
  row ← the_volume (rows_of m) account key
  refuse_if (is_spent m) (Exhausted Changes)
  Ok (dropped m key, answer.Done)

-- the account's next snapshot
abbrev pub next_snapshot : Machine → ℕ → SnapKey
next_snapshot m account = record { account = account; number = (own_of m account).next_snap }

abbrev pub new_row : Machine → ℕ → VolKey → VolRow → Option (List ℕ) → List Tag → SnapRow
new_row m account volume row description tags = snapped_row m.clock (next_snapshot m account) volume row description tags

-- one snapshot more, with a volume's blocks
abbrev pub snapped : Machine → ℕ → VolKey → VolRow → Option (List ℕ) → List Tag → Machine
snapped m account volume row description tags = with_started m (next_snapshot m account) (new_row m account volume row description tags) (disk_of m volume)

abbrev pub says_snapped : Machine → ℕ → VolKey → VolRow → Option (List ℕ) → List Tag → Answer
says_snapped m account volume row description tags = answer.SnapshotShown true (view_of account m.clock.second (next_snapshot m account) (new_row m account volume row description tags))

abbrev pub snap : Machine → ℕ → VolKey → Option (List ℕ) → List Tag → Result (Machine × Answer) Refusal
snap m account volume description tags = do
  row ← the_volume (rows_of m) account volume
  refuse_if (nat_le most_kept (kept_count (rows_of m) account)) (Quota Snapshots most_kept)
  refuse_if (nat_le most_ids (own_of m account).next_snap) (Quota Ids most_ids)
  refuse_if (is_spent m) (Exhausted Changes)
  Ok (snapped m account volume row description tags, says_snapped m account volume row description tags)

-- one block of a volume is written
abbrev pub block_now : Machine → List ℕ → WholeBlock
block_now m bytes = record { stamp = m.stamps; bytes = bytes }

abbrev pub written : Machine → VolKey → ℕ → List ℕ → Machine
written m key index bytes = record m { changes = m.changes + 1; stamps = m.stamps + 1; disks = fin.insert m.disks key (fin.insert (disk_of m key) index (block_now m bytes)) }

abbrev pub write : Hash → Machine → ℕ → VolKey → ℕ → List ℕ → List ℕ → Result (Machine × Answer) Refusal
write hash m account key index digest bytes = do
  refuse_if (not (pointwise nat_eq digest (hash bytes))) (Checksum digest (hash bytes))
  row ← the_volume (rows_of m) account key
  refuse_if (nat_le (blocks_of row.size) index) BadIndex
  refuse_if (is_spent m) (Exhausted Changes)
  Ok (written m key index bytes, answer.BlockWritten digest)

abbrev pub fetch : Hash → Machine → ℕ → VolKey → ℕ → Result (Machine × Answer) Refusal
fetch hash m account key index = do
  row ← the_volume (rows_of m) account key
  refuse_if (nat_le (blocks_of row.size) index) BadIndex
  Ok (m, block_or_zeros hash (fin.get (disk_of m key) index))

-- snapshots, counters and policies are others
abbrev pub managed : Machine → fin.FinMap snap_cmp Snapshot → fin.FinMap nat_cmp Own → fin.FinMap policy_cmp Policy → Machine
managed m snaps own policies = record m { changes = m.changes + 1; snaps = snaps; own = own; policies = policies }

-- a policy gets the account's next number
abbrev pub with_policy : Machine → ℕ → List Tag → ℕ → ℕ → Retain → List Tag → Machine
with_policy m account targets hours at retain add =
    let key : PolicyKey = next_policy (rows_of m) account in
    managed m m.snaps (fin.insert m.own account (record (own_of m account) { next_policy = key.number + 1 })) (fin.insert m.policies key (new_policy m.clock key targets hours at retain add))

-- its snapshots stay
abbrev pub without_policy : Machine → PolicyKey → Machine
without_policy m key = managed m m.snaps m.own (fin.remove m.policies key)

-- the volume whose blocks a snapshot of a run has
abbrev pub ran_source : Machine → PolicyKey → Policy → SnapKey → Option VolKey
ran_source m key p q = source_of (next_key (rows_of m) key.account) (due_targets (rows_of m) key p m.clock.second) q

-- a policy has run
abbrev pub ran : Machine → PolicyKey → Policy → Machine
ran m key p = managed m (with_arrays (run_rows (rows_of m) m.clock key p).snaps (λ q. source_array m (ran_source m key p q) q)) (made_rows (rows_of m) m.clock key p).own (fin.insert m.policies key (record p { last = m.clock }))

-- the snapshots that a run ends, and those that it makes
abbrev pub says_ran : Machine → ℕ → PolicyKey → Policy → Answer
says_ran m account key p = answer.PolicyRan (map Snap (run_ended (rows_of m) m.clock key p)) (map Snap (new_keys (next_key (rows_of m) account) (due_targets (rows_of m) key p m.clock.second)))

abbrev pub create_policy : Machine → ℕ → List Tag → ℕ → ℕ → Retain → List Tag → Result (Machine × Answer) Refusal
create_policy m account targets hours at retain add = do
  let key : PolicyKey = next_policy (rows_of m) account
  refuse_if (nat_le most_policies (policy_count (rows_of m) account)) (Quota Policies most_policies)
  refuse_if (nat_le most_ids key.number) (Quota Ids most_ids)
  refuse_if (is_spent m) (Exhausted Changes)
  Ok (with_policy m account targets hours at retain add, answer.PolicyShown true key m.clock)

abbrev pub get_policy : Machine → ℕ → PolicyKey → Result (Machine × Answer) Refusal
get_policy m account key = do
  p ← the_policy (rows_of m) account key
  Ok (m, answer.PolicyShown false key p.last)

abbrev pub drop_policy : Machine → ℕ → PolicyKey → Result (Machine × Answer) Refusal
drop_policy m account key = do
  p ← the_policy (rows_of m) account key
  refuse_if (is_spent m) (Exhausted Changes)
  Ok (without_policy m key, answer.Done)

abbrev pub run : Machine → ℕ → PolicyKey → Result (Machine × Answer) Refusal
run m account key = do
  p ← the_policy (rows_of m) account key
  refuse_if (nat_lt most_kept (kept_count (rows_of m) account + length (due_targets (rows_of m) key p m.clock.second))) (Quota Snapshots most_kept)
  refuse_if (nat_lt most_ids ((own_of m account).next_snap + length (due_targets (rows_of m) key p m.clock.second))) (Quota Ids most_ids)
  refuse_if (is_spent m) (Exhausted Changes)
  Ok (ran m key p, says_ran m account key p)

abbrev pub act : Hash → Machine → ℕ → Request → Result (Machine × Answer) Refusal
act hash m account (StartSnapshot size parent description tags token timeout) = start m account size parent description tags token timeout
act hash m account (PutSnapshotBlock key index digest bytes) = put_block hash m account key index digest bytes
act hash m account (CompleteSnapshot key count checksum) = complete hash m account key count checksum
act hash m account (ListSnapshotBlocks key page most start) = list_blocks m account key page most start
act hash m account (ListChangedBlocks first second page most start) = list_changed m account first second page most start
act hash m account (GetSnapshotBlock key index token) = get_block hash m account key index token
act hash m account (DescribeSnapshot key) = describe m account key
act hash m account (ModifyPermission key add add_all remove remove_all) = permit m account key add add_all remove remove_all
act hash m account (DeleteSnapshot key) = delete m account key
act hash m account (LockSnapshot key mode term cool_hours) = lock m account key (Lock mode term cool_hours)
act hash m account (UnlockSnapshot key) = lock m account key Unlock
act hash m account (ArchiveSnapshot key) = archive m account key
act hash m account (RestoreTier key days) = restore m account key days
act hash m account (CreateVolume from size tags token) = create m account from size tags token
act hash m account (CreateSnapshot key description tags) = snap m account key description tags
act hash m account (WriteVolumeBlock key index digest bytes) = write hash m account key index digest bytes
act hash m account (ReadVolumeBlock key index) = fetch hash m account key index
act hash m account (DescribeVolume key) = describe_volume m account key
act hash m account (DeleteVolume key) = drop m account key
act hash m account (CreateRule days tags description delay) = change_rules m account (command.Create days tags description delay)
act hash m account (GetRule key) = get_rule m account key
act hash m account (UpdateRule key days tags description) = change_rules m account (command.Update key days tags description)
act hash m account (DeleteRule key) = change_rules m account (command.Delete key)
act hash m account (LockRule key delay) = change_rules m account (command.Lock key delay)
act hash m account (UnlockRule key) = change_rules m account (command.Unlock key)
act hash m account (RestoreFromBin key) = recover m account key
act hash m account (CreatePolicy targets hours at retain add) = create_policy m account targets hours at retain add
act hash m account (GetPolicy key) = get_policy m account key
act hash m account (DeletePolicy key) = drop_policy m account key
act hash m account (RunPolicy key) = run m account key
act hash m account request = decide (rows_of m) m.clock account request >>= finish hash m request

abbrev pub call : Machine → ℕ → Request → Result (Machine × Answer) Refusal
call m account request = do
  refuse_bad (bad_member request)
  act sha256 m account request
