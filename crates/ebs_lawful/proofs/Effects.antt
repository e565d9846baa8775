-- What an accepted change does to rows.
use Rattle.std.proofs.Common.{◌≡◌, ◌⊎◌, ℕ, ◌+◌, ◌<◌, ◌≤◌, Bool, true, List, length, Option, Some, None, Ok}
use Rattle.std.specs.FinMap.{get, insert, remove}
use Rattle.ebs_model.specs.declared.keys.SnapKey.{SnapKey}
use Rattle.ebs_model.specs.declared.keys.VolKey.{VolKey}
use Rattle.ebs_model.specs.declared.keys.PolicyKey.{PolicyKey}
use Rattle.ebs_model.specs.declared.keys.Moment.{Moment}
use Rattle.ebs_model.specs.declared.policy.Policy.{Policy}
use Rattle.ebs_model.specs.declared.policy.Retain.{Retain}
use Rattle.ebs_model.specs.declared.tags.Tag.{Tag}
use Rattle.ebs_model.specs.declared.rules.RuleCommand.{RuleCommand}
use Rattle.ebs_model.specs.declared.rules.RuleChange.{RuleChange}
use Rattle.ebs_model.specs.declared.rows.SnapRow.{SnapRow}
use Rattle.ebs_model.specs.declared.rows.VolRow.{VolRow}
use Rattle.ebs_model.specs.declared.rows.LockState.{LockState}
use Rattle.ebs_model.specs.declared.rows.Tier.{Tier}
use Rattle.ebs_model.specs.Quotas.{most_open, most_kept, most_tokens, most_volumes, most_policies, most_ids, blocks_of}
use Rattle.ebs_model.specs.Limits.{is_size, bad_start, bad_create, bad_snapshot, bad_policy}
use Rattle.ebs_model.specs.Time.{status_at, is_pending}
use Rattle.ebs_model.specs.Rules.{bin_end}
use Rattle.ebs_model.specs.RuleCommands.{decide, committed}
use Rattle.ebs_model.specs.Rows.{Rows, book_of, open_count, kept_count, token_count, volume_count, policy_count, first_use}
use Rattle.ebs_model.specs.Calls.Start.{next_key, commit_start, has_token, with_upload}
use Rattle.ebs_model.specs.Calls.Put.{put_row}
use Rattle.ebs_model.specs.Calls.Complete.{completed_row}
use Rattle.ebs_model.specs.Calls.Delete.{days_in_bin}
use Rattle.ebs_model.specs.Calls.Disk.{snapped_row}
use Rattle.ebs_model.specs.Calls.Bin.{recovered}
use Rattle.ebs_model.specs.Calls.Volume.{next_volume, commit_create}
use Rattle.ebs_model.specs.Calls.Policy.{next_policy, new_policy, with_new_policy}
use Rattle.ebs_model.specs.Calls.Run.{due_targets, freed, run_rows}
use Rattle.ebs_lawful.specs.Snapshots.{EndsLock, EndsRestore, IsSharing}
use Rattle.ebs_lawful.proofs.Commands.{IsRuleCommand}

-- ---- a row that is altered

pub data IsAltered (rows : Rows) (at : Moment) (key : SnapKey) (row new : SnapRow) : Type 0 where
  got_block : (index : ℕ) → is_pending (status_at row at.second) ≡ true → index < blocks_of row.size → new ≡ put_row at index row → IsAltered rows at key row new
  was_completed : new ≡ completed_row row → IsAltered rows at key row new
  was_binned : (days : ℕ) → days_in_bin rows key row ≡ Some days → new ≡ record row { bin_end = Some (bin_end at.second days) } → IsAltered rows at key row new
  was_shared : (shared : List ℕ) (public : Bool) → IsSharing shared → new ≡ record row { shared = shared; public = public } → IsAltered rows at key row new
  was_locked : (lock : LockState) → (EndsLock row.lock → EndsLock lock) → new ≡ record row { lock = lock } → IsAltered rows at key row new
  was_moved : (tier : Tier) → row.completed ≡ true → EndsRestore tier → new ≡ record row { tier = tier } → IsAltered rows at key row new
  was_recovered : new ≡ recovered row → IsAltered rows at key row new
  was_freed : new ≡ freed row → IsAltered rows at key row new

-- ---- what is made, and what was tested before

pub record IsStart (rows : Rows) (now account size : ℕ) (description : Option (List ℕ)) (tags : List Tag) (token : Option (List ℕ)) (timeout : ℕ) : Type 0 where
  pub sized : is_size size ≡ true
  pub members : bad_start description tags token timeout ≡ None
  pub uploads : open_count rows account now < most_open
  pub kept : kept_count rows account < most_kept
  pub tokens : has_token token ≡ true → token_count rows account < most_tokens
  pub ids : (next_key rows account).number < most_ids
  pub unused : first_use rows account token ≡ None

-- a size that is stated, or that of a snapshot
abbrev pub IsMadeSize : Rows → ℕ → Type 0
IsMadeSize rows size = (is_size size ≡ true) ⊎ ((key : SnapKey) × (row : SnapRow) × (get rows.snaps key ≡ Some row) × (size ≡ row.size))

pub record IsCreation (rows : Rows) (account : ℕ) (origin : Option SnapKey) (size : ℕ) (tags : List Tag) (token : Option (List ℕ)) : Type 0 where
  pub sized : IsMadeSize rows size
  pub members : bad_create origin (Some size) tags token ≡ None
  pub volumes : volume_count rows account < most_volumes
  pub tokens : has_token token ≡ true → token_count rows account < most_tokens
  pub ids : (next_volume rows account).number < most_ids
  pub unused : first_use rows account token ≡ None

pub record IsSnapping (rows : Rows) (account : ℕ) (volume : VolKey) (row : VolRow) (description : Option (List ℕ)) (tags : List Tag) : Type 0 where
  pub found : get rows.vols volume ≡ Some row
  pub owner : account ≡ volume.account
  pub members : bad_snapshot description tags ≡ None
  pub kept : kept_count rows account < most_kept
  pub ids : (next_key rows account).number < most_ids

pub record IsPlan (rows : Rows) (account : ℕ) (targets : List Tag) (hours time : ℕ) (retain : Retain) (add : List Tag) : Type 0 where
  pub members : bad_policy targets hours time retain add ≡ None
  pub policies : policy_count rows account < most_policies
  pub ids : (next_policy rows account).number < most_ids

pub record IsRun (rows : Rows) (account : ℕ) (key : PolicyKey) (p : Policy) (now : ℕ) : Type 0 where
  pub found : get rows.policies key ≡ Some p
  pub owner : account ≡ key.account
  pub kept : kept_count rows account + length (due_targets rows key p now) ≤ most_kept
  pub ids : (next_key rows account).number + length (due_targets rows key p now) ≤ most_ids

-- ---- rows after a change

pub data IsEffect (rows : Rows) (at : Moment) (account : ℕ) (new : Rows) : Type 0 where
  left_all : new ≡ rows → IsEffect rows at account new
  altered : (key : SnapKey) (row next : SnapRow) → get rows.snaps key ≡ Some row → IsAltered rows at key row next → new ≡ record rows { snaps = insert rows.snaps key next } → IsEffect rows at account new
  taken_out : (key : SnapKey) → new ≡ record rows { snaps = remove rows.snaps key } → IsEffect rows at account new
  started : (size : ℕ) (parent : Option SnapKey) (description : Option (List ℕ)) (tags : List Tag) (token : Option (List ℕ)) (timeout : ℕ) → IsStart rows at.second account size description tags token timeout
      → new ≡ commit_start rows at (Some (next_key rows account)) size parent description tags token timeout → IsEffect rows at account new
  snapped : (volume : VolKey) (row : VolRow) (description : Option (List ℕ)) (tags : List Tag) → IsSnapping rows account volume row description tags
      → new ≡ with_upload rows (next_key rows account) (snapped_row at (next_key rows account) volume row description tags) → IsEffect rows at account new
  created : (origin : Option SnapKey) (size : ℕ) (tags : List Tag) (token : Option (List ℕ)) → IsCreation rows account origin size tags token
      → new ≡ commit_create rows at (Some (next_volume rows account)) origin (Some size) tags token → IsEffect rows at account new
  dropped : (key : VolKey) → new ≡ record rows { vols = remove rows.vols key } → IsEffect rows at account new
  commanded : (command : RuleCommand) (change : RuleChange) → IsRuleCommand command → decide account (book_of rows account) command at.second ≡ Ok change
      → new ≡ record rows { books = insert rows.books account (committed (book_of rows account) change) } → IsEffect rows at account new
  planned : (targets : List Tag) (hours time : ℕ) (retain : Retain) (add : List Tag) → IsPlan rows account targets hours time retain add
      → new ≡ with_new_policy rows (next_policy rows account) (new_policy at (next_policy rows account) targets hours time retain add) → IsEffect rows at account new
  unplanned : (key : PolicyKey) → new ≡ record rows { policies = remove rows.policies key } → IsEffect rows at account new
  ran : (key : PolicyKey) (p : Policy) → IsRun rows account key p at.second → new ≡ run_rows rows at key p → IsEffect rows at account new
