-- A call is refused, or it begins an upload, writes a block, ends an upload, or is one of the others.
use Rattle.std.proofs.Common.{◌≡◌, ℕ, ◌+◌, ◌*◌, unwrap_or, Bool, true, false, not, ◌==◌, nat_eq, nat_le, nat_lt, List, length, Option, Some, None, Result, Ok, Err, sym, ap, subst, ◌∙◌, refl, codes}
use Rattle.std.specs.Cmp.Lexicographic.{pointwise}
use Rattle.std.specs.FinMap as fin
use Rattle.sha2.specs.Sha256.{sha256}
use Rattle.ebs_model.specs.declared.keys.SnapKey.{SnapKey}
use Rattle.ebs_model.specs.declared.keys.VolKey.{VolKey}
use Rattle.ebs_model.specs.declared.keys.Moment.{Moment}
use Rattle.ebs_model.specs.declared.rows.SnapRow.{SnapRow}
use Rattle.ebs_model.specs.declared.rows.TokenRow.{TokenRow}
use Rattle.ebs_model.specs.declared.rows.VolRow.{VolRow}
use Rattle.ebs_model.specs.declared.rows.LockState.{LockState}
use Rattle.ebs_model.specs.declared.rows.Tier.{Tier}
use Rattle.ebs_model.specs.declared.lock.LockCommand.{LockCommand}
use Rattle.ebs_model.specs.declared.lock.LockCommand.TheVariants.{Lock, Unlock}
use Rattle.ebs_model.specs.declared.lock.LockRefusal.{LockRefusal}
use Rattle.ebs_model.specs.declared.phases.TierPhase.{TierPhase}
use Rattle.ebs_model.specs.declared.answer.StateName.TheVariants.{Pending}
use Rattle.ebs_model.specs.declared.keys.PolicyKey.{PolicyKey}
use Rattle.ebs_model.specs.declared.policy.Policy.{Policy}
use Rattle.ebs_model.specs.declared.policy.Retain.{Retain}
use Rattle.ebs_model.specs.declared.tags.Tag.{Tag}
use Rattle.ebs_model.specs.declared.request.Request.{Request}
use Rattle.ebs_model.specs.declared.request.Request.TheVariants.{StartSnapshot, PutSnapshotBlock, CompleteSnapshot, ListSnapshotBlocks, ListChangedBlocks, GetSnapshotBlock, DescribeSnapshot, DescribeSnapshots, DeleteSnapshot, ModifyPermission, LockSnapshot, UnlockSnapshot, ArchiveSnapshot, RestoreTier, CreateVolume, CreateSnapshot, WriteVolumeBlock, ReadVolumeBlock, DescribeVolume, DeleteVolume, CreateRule, GetRule, UpdateRule, DeleteRule, ListRules, LockRule, UnlockRule, ListBin, RestoreFromBin, CreatePolicy, GetPolicy, DeletePolicy, RunPolicy}
use Rattle.ebs_model.specs.declared.answer.Answer.{Answer}
use Rattle.ebs_model.specs.declared.answer.Answer.TheVariants.{Started, BlockWritten, Completed, BlockRead, SnapshotShown, Done, TierShown, VolumeShown, PolicyShown, Refused}
use Rattle.ebs_model.specs.declared.answer.Kind.TheVariants as kind
use Rattle.ebs_model.specs.declared.answer.Refusal.{Refusal}
use Rattle.ebs_model.specs.declared.answer.Refusal.TheVariants.{OpenUploads, Quota, TokenConflict, BadParameter, BadSize, BadIndex, BadBlockToken, Unrelated, Checksum, NotFound, WrongState}
use Rattle.ebs_model.specs.declared.answer.QuotaName.TheVariants.{Snapshots, Volumes, SharedAccounts, Ids}
use Rattle.ebs_model.specs.Quotas.{most_open, most_kept, most_volumes, most_ids, most_shared}
use Rattle.ebs_model.specs.Refuse.{◌>>=◌, ◌>>◌, refuse_if, refuse_bad, some_or}
use Rattle.ebs_model.specs.Limits.{bad_member, bad_start, is_size, is_size_given}
use Rattle.ebs_model.specs.Tokens.{is_block_token}
use Rattle.ebs_model.specs.Arrays.{WholeBlock}
use Rattle.ebs_model.specs.Time.{Snapshot, status_at, is_pending}
use Rattle.ebs_model.specs.Access.{seen, own, done, open_upload, ready}
use Rattle.ebs_model.specs.Rows.{book_of, the_volume, the_policy, open_count, kept_count, volume_count, first_use}
use Rattle.ebs_model.specs.Machine.{Machine, advance, moment_of, rows_of}
use Rattle.ebs_model.specs.Calls.Start.{started_row, is_same_start, first_made, first_key}
use Rattle.ebs_model.specs.Calls.Volume.{is_same_create}
use Rattle.ebs_model.specs.Calls.Complete.{refuse_checksum}
use Rattle.ebs_model.specs.Calls.List.{begins, is_same_line}
use Rattle.ebs_model.specs.Calls.Policy.{next_policy}
use Rattle.ebs_model.specs.Calls.Run.{due_targets}
use Rattle.ebs_model.specs.Step.{call, settled, step}
use Rattle.ebs_laws.proofs.Whole.{own_of, the_snapshot, with_snapshot, without_snapshot, Origin, origin, start, with_started, put_block, with_put, complete, completed, listed, compared, list_blocks, list_changed, get_block, read_of, describe, delete, permit, lock, archive, restore, rewritten, with_use, by_use, repeat, fresh, volume_origin, next_volume, volume_row, created, dropped, create, create_again, create_fresh, describe_volume, drop, snap, write, fetch, snapped, says_snapped, written, deleted, binned_row, recover, ruled, change_rules, get_rule, with_policy, ran, says_ran, create_policy, get_policy, drop_policy, run}
use Rattle.ebs_laws.specs.Uploads.{checksum_of}
use Rattle.ebs_laws.proofs.Whole as whole
use Rattle.ebs_laws.proofs.Others.{Others, Locks, Commands, rule_request}
use Rattle.ebs_laws.proofs.Readers.{same_number}
use Rattle.ebs_model.specs.Calls.Permission.{permitted, permitted_row}
use Rattle.ebs_model.specs.Calls.Delete.{refuse_locked, days_in_bin}
use Rattle.ebs_model.specs.Calls.Bin.{binned, recovered}
use Rattle.ebs_model.specs.Calls.Rule.{changed_rule}
use Rattle.ebs_model.specs.Rules.{find}
use Rattle.ebs_model.specs.RuleCommands as rules
use Rattle.ebs_model.specs.declared.keys.RuleKey.{RuleKey}
use Rattle.ebs_model.specs.declared.rules.RuleCommand.{RuleCommand}
use Rattle.ebs_model.specs.declared.rules.RuleCommand.TheVariants as command
use Rattle.ebs_model.specs.declared.rules.RuleChange.{RuleChange}
use Rattle.ebs_model.specs.declared.rules.RuleRefusal.{RuleRefusal}
use Rattle.ebs_model.specs.Calls.Lock.{changed_lock, lock_answer}
use Rattle.ebs_model.specs.Calls.Archive.{changed_tier}
use Rattle.ebs_model.specs.Locks.{lock_change}
use Rattle.ebs_model.specs.Tiers as tiers
use Rattle.ebs_model.specs.Views.{view_of, lock_shown, lock_until, tier_shown, restore_until}
use Rattle.ebs_laws.proofs.Acts.{call-whole}

abbrev pub Outcome : Type 0
Outcome = Machine × Answer

-- what holds of the outcome where there is one
pub data IfDone {A : Type 0} (P : A → Type 0) : Result A Refusal → Type 0 where
  achieved : {x : A} → P x → IfDone P (Ok x)
  refused : {r : Refusal} → IfDone P (Err r)

pub after : {A B : Type 0} (P : B → Type 0) (x : Result A Refusal) (f : A → Result B Refusal) → ((v : A) → x ≡ Ok v → IfDone P (f v)) → IfDone P (x >>= f)
after P (Ok v) f h = h v refl
after P (Err r) f h = refused

pub passed : {B : Type 0} (P : B → Type 0) (x : Result (Unit {0}) Refusal) (y : Result B Refusal) → (x ≡ Ok tt → IfDone P y) → IfDone P (x >> y)
passed P (Ok u) y h = h refl
passed P (Err r) y h = refused

pub some_found : {A : Type 0} (o : Option A) (r : Refusal) (x : A) → some_or o r ≡ Ok x → o ≡ Some x
some_found None r x e = cc
some_found (Some y) r x e = cc

-- the snapshot that was found, and the test that it passed
pub found : (m : Machine) (key : SnapKey) (test : SnapRow → Result (Unit {0}) Refusal) (s : Snapshot) → the_snapshot m key test ≡ Ok s → (fin.get m.snaps key ≡ Some s) × (test s.row ≡ Ok tt)
found m key test s e = at (fin.get m.snaps key) refl e
  where
    tested : (x : Result (Unit {0}) Refusal) (kept : Snapshot) → (x >> Ok kept) ≡ Ok s → (kept ≡ s) × (x ≡ Ok tt)
    tested (Ok u) kept e = (cc, refl)
    tested (Err r) kept e = cc

    at : (o : Option Snapshot) → fin.get m.snaps key ≡ o → (some_or o (NotFound kind.Snapshot) >>= λ kept. test kept.row >> Ok kept) ≡ Ok s → (fin.get m.snaps key ≡ Some s) × (test s.row ≡ Ok tt)
    at None is e = cc
    at (Some kept) is e =
        let (same, passes) = tested (test kept.row) kept e in
        (is ∙ ap Some same, ap (λ (s : Snapshot). test s.row) (sym same) ∙ passes)

-- what was tested of an accepted start, and what else of an accepted put and end of an upload
pub record StartTests (m : Machine) (account size : ℕ) (parent : Option SnapKey) (description : Option (List ℕ)) (tags : List Tag) (token : Option (List ℕ)) (timeout : ℕ) (from : Origin) : Type 0 where
  pub good : bad_start description tags token timeout ≡ None
  pub unused : first_use (rows_of m) account token ≡ None
  pub fits : is_size size ≡ true
  pub begins_with : origin m account (record { account = account; number = (own_of m account).next_snap }) parent ≡ Ok from
  pub reaches : nat_lt size from.size ≡ false
  pub few_open : nat_le most_open (open_count (rows_of m) account m.clock.second) ≡ false
  pub few_kept : nat_le most_kept (kept_count (rows_of m) account) ≡ false
  pub number : nat_le most_ids (own_of m account).next_snap ≡ false

-- what was tested of a start that repeats an earlier one
pub record RepeatTests (m : Machine) (account size : ℕ) (parent : Option SnapKey) (description : Option (List ℕ)) (tags : List Tag) (token : Option (List ℕ)) (timeout : ℕ) (row : TokenRow) : Type 0 where
  pub good : bad_start description tags token timeout ≡ None
  pub fits : is_size size ≡ true
  pub used : first_use (rows_of m) account token ≡ Some row
  pub same : is_same_start row.first size parent description tags timeout ≡ true

pub record PutTests (digest bytes : List ℕ) (index : ℕ) (s : Snapshot) : Type 0 where
  pub digest_is : pointwise nat_eq digest (sha256 bytes) ≡ true
  pub within : nat_le (2048 * s.row.size) index ≡ false

pub record CompleteTests (count : ℕ) (checksum : Option (List ℕ)) (s : Snapshot) : Type 0 where
  pub count_is : (fin.len s.row.put == count) ≡ true
  pub checksum_is : refuse_checksum checksum (checksum_of s) ≡ Ok tt

not_refused : (b : Bool) (r : Refusal) → refuse_if b r ≡ Ok tt → b ≡ false
not_refused true r e = cc
not_refused false r e = refl

turned : (b : Bool) → not b ≡ false → b ≡ true
turned true e = refl
turned false e = cc

lock_passed : (x : Result LockState LockRefusal) (new : LockState) → changed_lock x ≡ Ok new → x ≡ Ok new
lock_passed (Ok y) new e = let same : y ≡ new = cc in ap Ok same
lock_passed (Err r) new e = cc

rule_passed : (x : Result RuleChange RuleRefusal) (change : RuleChange) → changed_rule x ≡ Ok change → x ≡ Ok change
rule_passed (Ok y) change e = let same : y ≡ change = cc in ap Ok same
rule_passed (Err r) change e = cc

tier_passed : (x : Result Tier TierPhase) (new : Tier) → changed_tier x ≡ Ok new → x ≡ Ok new
tier_passed (Ok y) new e = let same : y ≡ new = cc in ap Ok same
tier_passed (Err phase) new e = cc

-- what is left to show of an accepted call
abbrev pub Accepted : (Outcome → Type 0) → Machine → ℕ → Request → Type 0
Accepted P m account (StartSnapshot size parent description tags token timeout) =
    let key : SnapKey = record { account = account; number = (own_of m account).next_snap } in
    ((from : Origin) → StartTests m account size parent description tags token timeout from
    → P (with_use m (with_started m key (started_row m.clock key size parent from.line description tags timeout) from.array) key (StartSnapshot size parent description tags token timeout) token, Started description account parent key m.clock tags size))
    × ((row : TokenRow) → RepeatTests m account size parent description tags token timeout row → P (m, Started description account parent (first_made account row) row.at tags size))
Accepted P m account (PutSnapshotBlock key index digest bytes) = (s : Snapshot) → fin.get m.snaps key ≡ Some s → open_upload account key m.clock.second s.row ≡ Ok tt → PutTests digest bytes index s → P (with_put m key s index bytes, BlockWritten digest)
Accepted P m account (CompleteSnapshot key count checksum) = (s : Snapshot) → fin.get m.snaps key ≡ Some s → open_upload account key m.clock.second s.row ≡ Ok tt → CompleteTests count checksum s → P (with_snapshot m key (completed s), Completed)
Accepted P m account request = Others P m account request

module _ (P : Outcome → Type 0) (m : Machine) (account : ℕ) where
  read-done : (s : Snapshot) (index : ℕ) → ((block : WholeBlock) → fin.get s.array index ≡ Some block → P (m, BlockRead (sha256 block.bytes) block.bytes)) → IfDone P (read_of sha256 s index >>= λ answer. Ok (m, answer))
  read-done s index h = at (fin.get s.array index) refl
    where
      at : (o : Option WholeBlock) → fin.get s.array index ≡ o → IfDone P ((some_or o BadIndex >>= λ block. Ok (BlockRead (sha256 block.bytes) block.bytes)) >>= λ answer. Ok (m, answer))
      at None is = refused
      at (Some block) is = achieved (h block is)

  fresh-done : (size : ℕ) (parent : Option SnapKey) (description : Option (List ℕ)) (tags : List Tag) (token : Option (List ℕ)) (timeout : ℕ) → bad_member (StartSnapshot size parent description tags token timeout) ≡ None → is_size size ≡ true
      → first_use (rows_of m) account token ≡ None → Accepted P m account (StartSnapshot size parent description tags token timeout) → IfDone P (fresh m account size parent description tags token timeout)
  fresh-done size parent description tags token timeout good fits unused h =
      let key : SnapKey = record { account = account; number = (own_of m account).next_snap } in
      let ended : (from : Origin) → origin m account key parent ≡ Ok from → refuse_if (nat_lt size from.size) BadSize ≡ Ok tt → refuse_if (nat_le most_open (open_count (rows_of m) account m.clock.second)) OpenUploads ≡ Ok tt → refuse_if (nat_le most_kept (kept_count (rows_of m) account)) (Quota Snapshots most_kept) ≡ Ok tt
      → refuse_if (nat_le most_ids key.number) (Quota Ids most_ids) ≡ Ok tt
      → IfDone P (Ok (with_use m (with_started m key (started_row m.clock key size parent from.line description tags timeout) from.array) key (StartSnapshot size parent description tags token timeout) token, Started description account parent key m.clock tags size)) =
      λ from begins reaches few few_kept number.
      achieved (h.0 from (record { good = good; unused = unused; fits = fits; begins_with = begins; reaches = not_refused _ _ reaches; few_open = not_refused _ _ few; few_kept = not_refused _ _ few_kept; number = not_refused _ _ number })) in
      search (passed, after, ended) depth 20

  start-done : (size : ℕ) (parent : Option SnapKey) (description : Option (List ℕ)) (tags : List Tag) (token : Option (List ℕ)) (timeout : ℕ) → bad_member (StartSnapshot size parent description tags token timeout) ≡ None → Accepted P m account (StartSnapshot size parent description tags token timeout) → IfDone P (start m account size parent description tags token timeout)
  start-done size parent description tags token timeout good h =
      passed P (refuse_if (not (is_size size)) BadSize) _ (λ fits. by (turned _ (not_refused _ _ fits)) (first_use (rows_of m) account token) refl)
    where
      by : is_size size ≡ true → (o : Option TokenRow) → first_use (rows_of m) account token ≡ o → IfDone P (by_use o (repeat m account size parent description tags timeout) (fresh m account size parent description tags token timeout))
      by fits None unused = fresh-done size parent description tags token timeout good fits unused h
      by fits (Some row) used = passed P (refuse_if (not (is_same_start row.first size parent description tags timeout)) (TokenConflict (first_key account row))) _
          (λ same. achieved (h.1 row (record { good = good; fits = fits; used = used; same = turned _ (not_refused _ _ same) })))

  put-done : (key : SnapKey) (index : ℕ) (digest bytes : List ℕ) → Accepted P m account (PutSnapshotBlock key index digest bytes) → IfDone P (put_block sha256 m account key index digest bytes)
  put-done key index digest bytes h =
      let ended : (s : Snapshot) → refuse_if (not (pointwise nat_eq digest (sha256 bytes))) (Checksum digest (sha256 bytes)) ≡ Ok tt → the_snapshot m key (open_upload account key m.clock.second) ≡ Ok s → refuse_if (nat_le (2048 * s.row.size) index) BadIndex ≡ Ok tt → IfDone P (Ok (with_put m key s index bytes, BlockWritten digest)) =
      λ s same is within.
      let at = found m key (open_upload account key m.clock.second) s is in
      achieved (h s at.0 at.1 (record { digest_is = turned _ (not_refused _ _ same); within = not_refused _ _ within })) in
      search (passed, after, ended) depth 20

  complete-done : (key : SnapKey) (count : ℕ) (checksum : Option (List ℕ)) → Accepted P m account (CompleteSnapshot key count checksum) → IfDone P (complete sha256 m account key count checksum)
  complete-done key count checksum h =
      let ended : (s : Snapshot) → the_snapshot m key (open_upload account key m.clock.second) ≡ Ok s → refuse_if (not (fin.len s.row.put == count)) (BadParameter (codes "x-amz-ChangedBlocksCount")) ≡ Ok tt → refuse_checksum checksum (checksum_of s) ≡ Ok tt → IfDone P (Ok (with_snapshot m key (completed s), Completed)) =
      λ s is counted summed.
      let at = found m key (open_upload account key m.clock.second) s is in
      achieved (h s at.0 at.1 (record { count_is = turned _ (not_refused _ _ counted); checksum_is = summed })) in
      search (passed, after, ended) depth 20

  list-done : (key : SnapKey) (page : Option (List ℕ)) (most start : ℕ) → Accepted P m account (ListSnapshotBlocks key page most start) → IfDone P (list_blocks m account key page most start)
  list-done key page most start h =
      let ended : (s : Snapshot) (index : ℕ) → the_snapshot m key (ready account key m.clock.second) ≡ Ok s → begins m.secret false key key m.clock.second page start ≡ Ok index → IfDone P (Ok (m, listed m.secret key m.clock.second s most index)) =
      λ s index is begun.
      let at = found m key (ready account key m.clock.second) s is in
      achieved (h s at.0 at.1 index begun) in
      search (after, ended) depth 20

  changed-done : (first second : SnapKey) (page : Option (List ℕ)) (most start : ℕ) → Accepted P m account (ListChangedBlocks first second page most start) → IfDone P (list_changed m account first second page most start)
  changed-done first second page most start h =
      let ended : (a b : Snapshot) (index : ℕ) → the_snapshot m first (ready account first m.clock.second) ≡ Ok a → the_snapshot m second (ready account second m.clock.second) ≡ Ok b → begins m.secret true first second m.clock.second page start ≡ Ok index → refuse_if (not (is_same_line a.row.line b.row.line)) Unrelated ≡ Ok tt → IfDone P (Ok (m, compared m.secret first second m.clock.second a b most index)) =
      λ a b index is too begun related.
      let one = found m first (ready account first m.clock.second) a is in
      let two = found m second (ready account second m.clock.second) b too in
      achieved (h a b index (record { first_is = one.0; second_is = two.0; first_ready = one.1; second_ready = two.1; begins_at = begun; one_line = turned _ (not_refused _ _ related) })) in
      search (passed, after, ended) depth 20

  get-done : (key : SnapKey) (index : ℕ) (token : List ℕ) → Accepted P m account (GetSnapshotBlock key index token) → IfDone P (get_block sha256 m account key index token)
  get-done key index token h =
      let ended : (s : Snapshot) → the_snapshot m key (ready account key m.clock.second) ≡ Ok s → refuse_if (not (is_block_token m.secret key index m.clock.second token)) BadBlockToken ≡ Ok tt → IfDone P (read_of sha256 s index >>= λ answer. Ok (m, answer)) =
      λ s is good.
      let at = found m key (ready account key m.clock.second) s is in
      read-done s index (h s at.0 at.1 (turned _ (not_refused _ _ good))) in
      search (passed, after, ended) depth 20

  describe-done : (key : SnapKey) → Accepted P m account (DescribeSnapshot key) → IfDone P (describe m account key)
  describe-done key h =
      let ended : (s : Snapshot) → the_snapshot m key (seen account key m.clock.second) ≡ Ok s → IfDone P (Ok (m, SnapshotShown false (view_of account m.clock.second key s.row))) =
      λ s is.
      let at = found m key (seen account key m.clock.second) s is in
      achieved (h s at.0 at.1) in
      search (after, ended) depth 20

  permit-done : (key : SnapKey) (add : List ℕ) (add_all : Bool) (remove : List ℕ) (remove_all : Bool) → Accepted P m account (ModifyPermission key add add_all remove remove_all) → IfDone P (permit m account key add add_all remove remove_all)
  permit-done key add add_all remove remove_all h =
      let ended : (s : Snapshot) → the_snapshot m key (done account key m.clock.second) ≡ Ok s → refuse_if (nat_lt most_shared (length (permitted s.row.shared add remove))) (Quota SharedAccounts most_shared) ≡ Ok tt → IfDone P (Ok (with_snapshot m key (rewritten (permitted_row add add_all remove remove_all s.row) s), Done)) =
      λ s is few.
      let at = found m key (done account key m.clock.second) s is in
      achieved (h s at.0 at.1 (not_refused _ _ few)) in
      search (passed, after, ended) depth 20

  delete-done : (key : SnapKey) → Accepted P m account (DeleteSnapshot key) → IfDone P (delete m account key)
  delete-done key h =
      let ended : (s : Snapshot) → the_snapshot m key (own account key m.clock.second) ≡ Ok s → refuse_if (is_pending (status_at s.row m.clock.second)) (WrongState Pending) ≡ Ok tt → refuse_locked (lock_until s.row.lock) m.clock.second ≡ Ok tt → IfDone P (Ok (deleted m key s (days_in_bin (rows_of m) key s.row), Done)) =
      λ s is closed unlocked.
      let at = found m key (own account key m.clock.second) s is in
      achieved (by s (h s at.0 at.1 (not_refused _ _ closed) unlocked) (days_in_bin (rows_of m) key s.row) refl) in
      search (passed, after, ended) depth 20
    where
      by : (s : Snapshot) → (days_in_bin (rows_of m) key s.row ≡ None → P (without_snapshot m key, Done)) × ((days : ℕ) → days_in_bin (rows_of m) key s.row ≡ Some days → P (with_snapshot m key (rewritten (binned_row m s.row days) s), Done))
          → (o : Option ℕ) → days_in_bin (rows_of m) key s.row ≡ o → P (deleted m key s o, Done)
      by s h None e = h.0 e
      by s h (Some days) e = h.1 days e

  recover-done : (key : SnapKey) → Accepted P m account (RestoreFromBin key) → IfDone P (recover m account key)
  recover-done key h =
      let ended : (s : Snapshot) → the_snapshot m key (binned account key m.clock.second) ≡ Ok s → IfDone P (Ok (with_snapshot m key (rewritten (recovered s.row) s), SnapshotShown false (view_of account m.clock.second key (recovered s.row)))) =
      λ s is.
      let at = found m key (binned account key m.clock.second) s is in
      achieved (h s at.0 at.1) in
      search (passed, after, ended) depth 20

  rules-done : (command : RuleCommand) → bad_member (rule_request command) ≡ None → Commands P m account command → IfDone P (change_rules m account command)
  rules-done command good h = after P (changed_rule (rules.decide account (book_of (rows_of m) account) command m.clock.second)) _ (λ change is. passed P _ _ (λ few. achieved (h change good (rule_passed _ change is))))

  get_rule-done : (key : RuleKey) → Accepted P m account (GetRule key) → IfDone P (get_rule m account key)
  get_rule-done key h = after P (some_or (find account (book_of (rows_of m) account) key) (NotFound kind.Rule)) _ (λ rule is. achieved (h rule (some_found _ (NotFound kind.Rule) rule is)))

  lock-done : (key : SnapKey) (command : LockCommand) → Locks P m account key command → IfDone P (lock m account key command)
  lock-done key command h =
      let ended : (s : Snapshot) (new : LockState) → the_snapshot m key (done account key m.clock.second) ≡ Ok s → changed_lock (lock_change s.row.lock command m.clock.second) ≡ Ok new → IfDone P (Ok (with_snapshot m key (rewritten (record s.row { lock = new }) s), lock_answer (lock_shown new m.clock.second) (lock_until new))) =
      λ s new is changed.
      let at = found m key (done account key m.clock.second) s is in
      achieved (h s new at.0 at.1 (lock_passed _ new changed)) in
      search (passed, after, ended) depth 20

  archive-done : (key : SnapKey) → Accepted P m account (ArchiveSnapshot key) → IfDone P (archive m account key)
  archive-done key h =
      let ended : (s : Snapshot) (new : Tier) → the_snapshot m key (done account key m.clock.second) ≡ Ok s → changed_tier (tiers.archive s.row.tier m.clock.second) ≡ Ok new → IfDone P (Ok (with_snapshot m key (rewritten (record s.row { tier = new }) s), Done)) =
      λ s new is changed.
      let at = found m key (done account key m.clock.second) s is in
      achieved (h s new at.0 at.1 (tier_passed _ new changed)) in
      search (passed, after, ended) depth 20

  restore-done : (key : SnapKey) (days : Option ℕ) → Accepted P m account (RestoreTier key days) → IfDone P (restore m account key days)
  restore-done key days h =
      let ended : (s : Snapshot) (new : Tier) → the_snapshot m key (done account key m.clock.second) ≡ Ok s → changed_tier (tiers.restore s.row.tier days m.clock.second) ≡ Ok new → IfDone P (Ok (with_snapshot m key (rewritten (record s.row { tier = new }) s), TierShown (restore_until new m.clock.second) (tier_shown new m.clock.second))) =
      λ s new is changed.
      let at = found m key (done account key m.clock.second) s is in
      achieved (h s new at.0 at.1 (tier_passed _ new changed)) in
      search (passed, after, ended) depth 20

  create-fresh-done : (from : Option SnapKey) (size : Option ℕ) (tags : List Tag) (token : Option (List ℕ)) → bad_member (CreateVolume from size tags token) ≡ None → is_size_given size ≡ true
      → first_use (rows_of m) account token ≡ None → Accepted P m account (CreateVolume from size tags token) → IfDone P (create_fresh m account from size tags token)
  create-fresh-done from size tags token good fits unused h =
      let key : VolKey = next_volume m account in
      let ended : (begun : Origin) → volume_origin m account key from ≡ Ok begun → refuse_if (nat_lt (unwrap_or size begun.size) begun.size) BadSize ≡ Ok tt → refuse_if (nat_le most_volumes (volume_count (rows_of m) account)) (Quota Volumes most_volumes) ≡ Ok tt
      → refuse_if (nat_le most_ids key.number) (Quota Ids most_ids) ≡ Ok tt
      → IfDone P (Ok (created m key (volume_row key (unwrap_or size begun.size) begun.line from tags) begun.array token, VolumeShown true (unwrap_or size begun.size) from tags key)) =
      λ begun begins reaches few number.
      achieved (h.0 begun (record { good = good; unused = unused; fits = fits; begins_with = begins; reaches = not_refused _ _ reaches; few = not_refused _ _ few; number = not_refused _ _ number })) in
      search (passed, after, ended) depth 20

  create-done : (from : Option SnapKey) (size : Option ℕ) (tags : List Tag) (token : Option (List ℕ)) → bad_member (CreateVolume from size tags token) ≡ None → Accepted P m account (CreateVolume from size tags token) → IfDone P (create m account from size tags token)
  create-done from size tags token good h =
      passed P (refuse_if (not (is_size_given size)) BadSize) _ (λ fits. by (turned _ (not_refused _ _ fits)) (first_use (rows_of m) account token) refl)
    where
      by : is_size_given size ≡ true → (o : Option TokenRow) → first_use (rows_of m) account token ≡ o → IfDone P (by_use o (create_again m account from size tags) (create_fresh m account from size tags token))
      by fits None unused = create-fresh-done from size tags token good fits unused h
      by fits (Some row) used = passed P (refuse_if (not (is_same_create row.first from size tags)) (TokenConflict (first_key account row))) _
          (λ same. achieved (h.1 row (record { good = good; fits = fits; used = used; same = turned _ (not_refused _ _ same) })))

  -- the volume that was found is the caller's own
  volume-found : (key : VolKey) (row : VolRow) → the_volume (rows_of m) account key ≡ Ok row → (account ≡ key.account) × (fin.get m.vols key ≡ Some row)
  volume-found key row e = by (account == key.account) refl e
    where
      by : (b : Bool) → (account == key.account) ≡ b → (refuse_if (not b) (NotFound kind.Volume) >> some_or (fin.get m.vols key) (NotFound kind.Volume)) ≡ Ok row → (account ≡ key.account) × (fin.get m.vols key ≡ Some row)
      by true mine e = (same_number account key.account mine, some_found (fin.get m.vols key) (NotFound kind.Volume) row e)
      by false other e = cc

  describe-volume-done : (key : VolKey) → Accepted P m account (DescribeVolume key) → IfDone P (describe_volume m account key)
  describe-volume-done key h = after P (the_volume (rows_of m) account key) _ (λ row is. let at = volume-found key row is in achieved (h row at.0 at.1))

  drop-done : (key : VolKey) → Accepted P m account (DeleteVolume key) → IfDone P (drop m account key)
  drop-done key h = after P (the_volume (rows_of m) account key) _ (λ row is. let at = volume-found key row is in passed P _ _ (λ few. achieved (h row at.0 at.1)))

  snap-done : (volume : VolKey) (description : Option (List ℕ)) (tags : List Tag) → Accepted P m account (CreateSnapshot volume description tags) → IfDone P (snap m account volume description tags)
  snap-done volume description tags h =
      let ended : (row : VolRow) → the_volume (rows_of m) account volume ≡ Ok row → refuse_if (nat_le most_kept (kept_count (rows_of m) account)) (Quota Snapshots most_kept) ≡ Ok tt → refuse_if (nat_le most_ids (own_of m account).next_snap) (Quota Ids most_ids) ≡ Ok tt
      → IfDone P (Ok (snapped m account volume row description tags, says_snapped m account volume row description tags)) =
      λ row is few number.
      let at = volume-found volume row is in
      achieved (h row at.0 at.1 (record { few_kept = not_refused _ _ few; number = not_refused _ _ number })) in
      search (passed, after, ended) depth 20

  write-done : (key : VolKey) (index : ℕ) (digest bytes : List ℕ) → Accepted P m account (WriteVolumeBlock key index digest bytes) → IfDone P (write sha256 m account key index digest bytes)
  write-done key index digest bytes h =
      let ended : (row : VolRow) → refuse_if (not (pointwise nat_eq digest (sha256 bytes))) (Checksum digest (sha256 bytes)) ≡ Ok tt → the_volume (rows_of m) account key ≡ Ok row → refuse_if (nat_le (2048 * row.size) index) BadIndex ≡ Ok tt
      → IfDone P (Ok (written m key index bytes, BlockWritten digest)) =
      λ row same is within.
      let at = volume-found key row is in
      achieved (h row at.0 at.1 (record { digest_is = turned _ (not_refused _ _ same); within = not_refused _ _ within })) in
      search (passed, after, ended) depth 20

  fetch-done : (key : VolKey) (index : ℕ) → Accepted P m account (ReadVolumeBlock key index) → IfDone P (fetch sha256 m account key index)
  fetch-done key index h = after P (the_volume (rows_of m) account key) _ (λ row is. let at = volume-found key row is in passed P _ _ (λ within. achieved (h row at.0 at.1 (not_refused _ _ within))))

  -- the policy that was found is the caller's own
  policy-found : (key : PolicyKey) (p : Policy) → the_policy (rows_of m) account key ≡ Ok p → (account ≡ key.account) × (fin.get m.policies key ≡ Some p)
  policy-found key p e = by (account == key.account) refl e
    where
      by : (b : Bool) → (account == key.account) ≡ b → (refuse_if (not b) (NotFound kind.Policy) >> some_or (fin.get m.policies key) (NotFound kind.Policy)) ≡ Ok p → (account ≡ key.account) × (fin.get m.policies key ≡ Some p)
      by true mine e = (same_number account key.account mine, some_found (fin.get m.policies key) (NotFound kind.Policy) p e)
      by false other e = cc

  create_policy-done : (targets : List Tag) (hours at : ℕ) (retain : Retain) (add : List Tag) → bad_member (CreatePolicy targets hours at retain add) ≡ None → Accepted P m account (CreatePolicy targets hours at retain add) → IfDone P (create_policy m account targets hours at retain add)
  create_policy-done targets hours at retain add good h =
      let ended : IfDone P (Ok (with_policy m account targets hours at retain add, PolicyShown true (next_policy (rows_of m) account) m.clock)) = achieved (h good) in
      search (passed, ended) depth 20

  get_policy-done : (key : PolicyKey) → Accepted P m account (GetPolicy key) → IfDone P (get_policy m account key)
  get_policy-done key h = after P (the_policy (rows_of m) account key) _ (λ p is. let at = policy-found key p is in achieved (h p at.0 at.1))

  drop_policy-done : (key : PolicyKey) → Accepted P m account (DeletePolicy key) → IfDone P (drop_policy m account key)
  drop_policy-done key h = after P (the_policy (rows_of m) account key) _ (λ p is. let at = policy-found key p is in passed P _ _ (λ few. achieved (h p at.0 at.1)))

  run-done : (key : PolicyKey) → Accepted P m account (RunPolicy key) → IfDone P (run m account key)
  run-done key h =
      let more : Policy → ℕ = λ p. length (due_targets (rows_of m) key p m.clock.second) in
      let ended : (p : Policy) → the_policy (rows_of m) account key ≡ Ok p → refuse_if (nat_lt most_kept (kept_count (rows_of m) account + more p)) (Quota Snapshots most_kept) ≡ Ok tt → refuse_if (nat_lt most_ids ((own_of m account).next_snap + more p)) (Quota Ids most_ids) ≡ Ok tt
      → IfDone P (Ok (ran m key p, says_ran m account key p)) =
      λ p is few room.
      let at = policy-found key p is in
      achieved (h p (record { owned = at.0; found = at.1; few_kept = not_refused _ _ few; numbers = not_refused _ _ room })) in
      search (passed, after, ended) depth 20

  act-done : (request : Request) → bad_member request ≡ None → Accepted P m account request → IfDone P (whole.act sha256 m account request)
  act-done (StartSnapshot size parent description tags token timeout) good h = start-done size parent description tags token timeout good h
  act-done (PutSnapshotBlock key index digest bytes) good h = put-done key index digest bytes h
  act-done (CompleteSnapshot key count checksum) good h = complete-done key count checksum h
  act-done (ListSnapshotBlocks key page most start) good h = list-done key page most start h
  act-done (ListChangedBlocks first second page most start) good h = changed-done first second page most start h
  act-done (GetSnapshotBlock key index token) good h = get-done key index token h
  act-done (DescribeSnapshot key) good h = describe-done key h
  act-done (DescribeSnapshots from most) good h = achieved h
  act-done (ModifyPermission key add add_all remove remove_all) good h = permit-done key add add_all remove remove_all h
  act-done (DeleteSnapshot key) good h = delete-done key h
  act-done (LockSnapshot key mode term cool_hours) good h = lock-done key (Lock mode term cool_hours) h
  act-done (UnlockSnapshot key) good h = lock-done key Unlock h
  act-done (ArchiveSnapshot key) good h = archive-done key h
  act-done (RestoreTier key days) good h = restore-done key days h
  act-done (CreateVolume from size tags token) good h = create-done from size tags token good h
  act-done (CreateSnapshot key description tags) good h = snap-done key description tags h
  act-done (WriteVolumeBlock key index digest bytes) good h = write-done key index digest bytes h
  act-done (ReadVolumeBlock key index) good h = fetch-done key index h
  act-done (DescribeVolume key) good h = describe-volume-done key h
  act-done (DeleteVolume key) good h = drop-done key h
  act-done (CreateRule days tags description delay) good h = rules-done (command.Create days tags description delay) good h
  act-done (GetRule key) good h = get_rule-done key h
  act-done (UpdateRule key days tags description) good h = rules-done (command.Update key days tags description) good h
  act-done (DeleteRule key) good h = rules-done (command.Delete key) good h
  act-done ListRules good h = achieved h
  act-done (LockRule key delay) good h = rules-done (command.Lock key delay) good h
  act-done (UnlockRule key) good h = rules-done (command.Unlock key) good h
  act-done (ListBin from most) good h = achieved h
  act-done (RestoreFromBin key) good h = recover-done key h
  act-done (CreatePolicy targets hours at retain add) good h = create_policy-done targets hours at retain add good h
  act-done (GetPolicy key) good h = get_policy-done key h
  act-done (DeletePolicy key) good h = drop_policy-done key h
  act-done (RunPolicy key) good h = run-done key h

  no_bad : (o : Option (List ℕ)) → refuse_bad o ≡ Ok tt → o ≡ None
  no_bad None e = refl
  no_bad (Some name) e = cc

  settled-done : (r : Result Outcome Refusal) → IfDone P r → ((refusal : Refusal) → P (m, Refused refusal)) → P (settled m r)
  settled-done (Ok d) (achieved h) k = h
  settled-done (Err r) refused k = k r

  pub call-done : (request : Request) → Accepted P m account request → IfDone P (call m account request)
  call-done request h = subst (IfDone P) (sym (call-whole m account request)) (passed P (refuse_bad (bad_member request)) (whole.act sha256 m account request) (λ good. act-done request (no_bad (bad_member request) good) h))

-- what holds of a step, where it holds of a refusal and of an accepted call
pub step-cases : (P : Outcome → Type 0) (m : Machine) (account : ℕ) (reading : Moment) (request : Request) → let at = advance m (moment_of m reading) in Accepted P at account request → ((refusal : Refusal) → P (at, Refused refusal)) → P (step m account reading request)
step-cases P m account reading request h k =
    let at = advance m (moment_of m reading) in
    settled-done P at account (call at account request) (call-done P at account request h) k

-- what holds of what was accepted
pub accepted-is : {A : Type 0} (P : A → Type 0) (r : Result A Refusal) → IfDone P r → (d : A) → r ≡ Ok d → P d
accepted-is P (Ok x) (achieved h) d e = let same : x ≡ d = cc in subst P same h
accepted-is P (Err r) refused d e = cc
