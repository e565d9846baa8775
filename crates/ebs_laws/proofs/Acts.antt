-- What rows decide and arrays answer is what whole snapshots say.
use Rattle.std.proofs.Common.{◌≡◌, ℕ, ◌+◌, unwrap_or, Bool, true, false, cond, not, ◌&&◌, ◌==◌, nat_eq, nat_le, nat_lt, List, [], ◌∷◌, codes, length, option_map, Option, None, Some, Result, Ok, Err, refl, sym, ap, ◌∙◌, arith}
use Rattle.std.specs.Cmp.Lexicographic.{pointwise}
use Rattle.std.specs.FinMap as fin
use Rattle.std.specs.Ordering.{eq_by_cmp}
use Rattle.sha2.specs.Sha256.{sha256}
use Rattle.ebs_model.specs.declared.keys.SnapKey.{SnapKey}
use Rattle.ebs_model.specs.declared.keys.VolKey.{VolKey}
use Rattle.ebs_model.specs.declared.keys.AnyKey.TheVariants.{Snap, Vol}
use Rattle.ebs_model.specs.declared.keys.AnyKey.TheVariants as any
use Rattle.ebs_model.specs.declared.keys.PolicyKey.{PolicyKey}
use Rattle.ebs_model.specs.declared.policy.Policy.{Policy}
use Rattle.ebs_model.specs.declared.policy.Retain.{Retain}
use Rattle.ebs_model.specs.declared.change.Change.{Change}
use Rattle.ebs_model.specs.declared.change.Decision.{Decision}
use Rattle.ebs_model.specs.declared.change.Decision.TheVariants as decision
use Rattle.ebs_model.specs.declared.tags.Tag.{Tag}
use Rattle.ebs_model.specs.declared.rows.SnapRow.{SnapRow}
use Rattle.ebs_model.specs.declared.rows.TokenRow.{TokenRow}
use Rattle.ebs_model.specs.declared.rows.VolRow.{VolRow}
use Rattle.ebs_model.specs.declared.rows.Line.{Line}
use Rattle.ebs_model.specs.declared.request.Request.{Request}
use Rattle.ebs_model.specs.declared.request.Request.TheVariants.{StartSnapshot, PutSnapshotBlock, CompleteSnapshot, ListSnapshotBlocks, ListChangedBlocks, GetSnapshotBlock, DescribeSnapshot, DeleteSnapshot, ModifyPermission, LockSnapshot, UnlockSnapshot, ArchiveSnapshot, RestoreTier, CreateVolume, CreateSnapshot, WriteVolumeBlock, ReadVolumeBlock, DescribeVolume, DeleteVolume, CreateRule, GetRule, UpdateRule, DeleteRule, LockRule, UnlockRule, RestoreFromBin, CreatePolicy, GetPolicy, DeletePolicy, RunPolicy}
use Rattle.ebs_model.specs.declared.answer.Answer.{Answer}
use Rattle.ebs_model.specs.declared.answer.Answer.TheVariants as answer
use Rattle.ebs_model.specs.declared.answer.Kind.TheVariants as kind
use Rattle.ebs_model.specs.declared.answer.StateName.TheVariants.{Pending}
use Rattle.ebs_model.specs.declared.lock.LockMode.{LockMode}
use Rattle.ebs_model.specs.declared.lock.Term.{Term}
use Rattle.ebs_model.specs.declared.lock.LockCommand.{LockCommand}
use Rattle.ebs_model.specs.declared.lock.LockCommand.TheVariants.{Lock, Unlock}
use Rattle.ebs_model.specs.declared.lock.LockRefusal.{LockRefusal}
use Rattle.ebs_model.specs.declared.phases.TierPhase.{TierPhase}
use Rattle.ebs_model.specs.declared.rows.LockState.{LockState}
use Rattle.ebs_model.specs.declared.rows.Tier.{Tier}
use Rattle.ebs_model.specs.declared.answer.Spent.TheVariants.{Changes}
use Rattle.ebs_model.specs.declared.answer.QuotaName.TheVariants.{Snapshots, Volumes, Policies, ClientTokens, SharedAccounts, Ids}
use Rattle.ebs_model.specs.declared.answer.Refusal.{Refusal}
use Rattle.ebs_model.specs.declared.answer.Refusal.TheVariants.{BadParameter, BadSize, TokenConflict, BadIndex, BadBlockToken, Unrelated, Checksum, NotFound, WrongState, OpenUploads, Quota, Exhausted}
use Rattle.ebs_model.specs.Keys.{snap_cmp}
use Rattle.ebs_model.specs.Quotas.{blocks_of, most_open, most_kept, most_volumes, most_policies, most_tokens, most_ids, most_shared}
use Rattle.ebs_model.specs.Refuse.{◌>>=◌, ◌>>◌, refuse_if, refuse_bad, some_or, or_left}
use Rattle.ebs_model.specs.Limits.{bad_member, is_size, is_size_given}
use Rattle.ebs_model.specs.Tokens.{is_block_token}
use Rattle.ebs_model.specs.Arrays.{Hash, WholeArray, WholeBlock, linear}
use Rattle.ebs_model.specs.Time.{Snapshot, status_at, is_pending}
use Rattle.ebs_model.specs.Access.{seen, own, done, open_upload, ready, base}
use Rattle.ebs_model.specs.Rows.{book_of, is_key, the_row, the_volume, the_policy, changed_row, open_count, kept_count, volume_count, policy_count, first_use, token_count}
use Rattle.ebs_model.specs.Machine.{Machine, is_spent, rows_of, snap_rows, array_of, array_at, disk_of, put_at, with_arrays}
use Rattle.ebs_model.specs.Calls.Start.{next_key, started_row, new_line, line_by, line_of, is_same_start, first_key, has_token, with_token, by_token, repeat_start, fresh_start}
use Rattle.ebs_model.specs.Calls.Volume.{new_volume_line, volume_line, is_same_create, repeat_create, fresh_create}
use Rattle.ebs_model.specs.Calls.Disk.{with_snapped, block_or_zeros}
use Rattle.ebs_model.specs.Calls.Put.{put_row}
use Rattle.ebs_model.specs.Calls.Complete.{completed_row, refuse_checksum}
use Rattle.ebs_model.specs.Calls.List.{begins, is_same_line, block_list, change_list, read_list, read_changes}
use Rattle.ebs_model.specs.Calls.Get.{read_block}
use Rattle.ebs_model.specs.Calls.Permission.{permitted, permitted_row}
use Rattle.ebs_model.specs.Calls.Delete as deletion
use Rattle.ebs_model.specs.Calls.Delete.{refuse_locked, days_in_bin}
use Rattle.ebs_model.specs.Calls.Bin.{binned, recovered}
use Rattle.ebs_model.specs.Calls.Rule.{changed_rule, rule_answer, is_creation, made_rules, decide_rule}
use Rattle.ebs_model.specs.Rules.{find}
use Rattle.ebs_model.specs.RuleCommands as rules
use Rattle.ebs_model.specs.RuleCommands.{committed_by}
use Rattle.ebs_model.specs.declared.keys.RuleKey.{RuleKey}
use Rattle.ebs_model.specs.declared.rules.RuleCommand.{RuleCommand}
use Rattle.ebs_model.specs.declared.rules.RuleCommand.TheVariants as command
use Rattle.ebs_model.specs.declared.rules.RuleChange.{RuleChange}
use Rattle.ebs_model.specs.declared.rules.RuleRefusal.{RuleRefusal}
use Rattle.ebs_model.specs.Calls.Lock.{changed_lock, lock_answer, locked_row}
use Rattle.ebs_model.specs.Calls.Archive.{changed_tier, archived_row, restored_row}
use Rattle.ebs_model.specs.Calls.Policy.{next_policy, new_policy}
use Rattle.ebs_model.specs.Calls.Run.{due_targets, new_keys, run_released, run_ended, run_change, run_rows, run_by, run_source}
use Rattle.ebs_model.proofs.RunLaws.{run-beside}
use Rattle.ebs_model.specs.Locks.{lock_change}
use Rattle.ebs_model.specs.Tiers as tiers
use Rattle.ebs_model.specs.Views.{view_of, lock_shown, lock_until, tier_shown, restore_until}
use Rattle.ebs_model.specs.Decisions.{alters, makes, ends}
use Rattle.ebs_model.specs.inner.Orders.{snaps_total}
use Rattle.ebs_model.specs.Step as model
use Rattle.ebs_model.proofs.RowLaws.{row_in, with_array, get-row, get-with, same_snaps, with-itself, with-replaced, with-row}
use Rattle.ebs_laws.proofs.Whole as whole
use Rattle.ebs_laws.specs.Uploads.{put}
use Rattle.ebs_laws.proofs.Whole.{the_snapshot, own_of, with_started, with_use, by_use, created, dropped, volume_row, snapped, says_snapped, written, block_now, with_put, with_snapshot, without_snapshot, completed, rewritten, deleted, binned_row, ruled, with_policy, without_policy, ran_source, ran, says_ran}

-- tests that follow one another
pub after-after : {A B C : Type 0} (x : Result A Refusal) (f : A → Result B Refusal) (g : B → Result C Refusal) → ((x >>= f) >>= g) ≡ (x >>= λ v. f v >>= g)
after-after (Ok v) f g = refl
after-after (Err r) f g = refl

pub test-after : {B C : Type 0} (x : Result (Unit {0}) Refusal) (y : Result B Refusal) (g : B → Result C Refusal) → ((x >> y) >>= g) ≡ (x >> (y >>= g))
test-after (Ok u) y g = refl
test-after (Err r) y g = refl

abbrev of_row : {B : Type 0} → (SnapRow → Result (Unit {0}) Refusal) → (SnapRow → Result B Refusal) → Option SnapRow → Result B Refusal
of_row test f o = (some_or o (NotFound kind.Snapshot) >>= λ row. test row >> Ok row) >>= f

abbrev of_whole : {B : Type 0} → (SnapRow → Result (Unit {0}) Refusal) → (Snapshot → Result B Refusal) → Option Snapshot → Result B Refusal
of_whole test g o = (some_or o (NotFound kind.Snapshot) >>= λ s. test s.row >> Ok s) >>= g

-- a row that is found comes with its snapshot
module _ (m : Machine) (key : SnapKey) where
  pub row-there : (s : Snapshot) → fin.get m.snaps key ≡ Some s → fin.get (snap_rows m.snaps) key ≡ Some s.row
  row-there s e = get-row m.snaps key ∙ ap row_in e

  pub find-both : {B : Type 0} (test : SnapRow → Result (Unit {0}) Refusal) (f : SnapRow → Result B Refusal) (g : Snapshot → Result B Refusal) → ((s : Snapshot) → fin.get m.snaps key ≡ Some s → f s.row ≡ g s)
      → (the_row (rows_of m) key test >>= f) ≡ (the_snapshot m key test >>= g)
  find-both {B = B} test f g h = by (fin.get m.snaps key) refl
    where
      tested : (x : Result (Unit {0}) Refusal) (s : Snapshot) → f s.row ≡ g s → ((x >> Ok s.row) >>= f) ≡ ((x >> Ok s) >>= g)
      tested (Ok u) s same = same
      tested (Err r) s same = refl

      at : (o : Option Snapshot) → fin.get m.snaps key ≡ o → of_row test f (row_in o) ≡ of_whole test g o
      at None e = refl
      at (Some s) e = tested (test s.row) s (h s e)

      by : (o : Option Snapshot) → fin.get m.snaps key ≡ o → of_row test f (fin.get (snap_rows m.snaps) key) ≡ of_whole test g (fin.get m.snaps key)
      by o e = ap (of_row test f) (get-row m.snaps key ∙ ap row_in e) ∙ at o e ∙ sym (ap (of_whole test g) e)

-- what calls on policies leave
module _ (m : Machine) (account : ℕ) where
  same_stamps : m.stamps + 0 ≡ m.stamps
  same_stamps = omega arith

  same_snaps-itself : with_arrays (snap_rows m.snaps) (array_of m) ≡ m.snaps
  same_snaps-itself = with-itself m.snaps (array_of m) (λ q. refl)

  pub policy-made : (targets : List Tag) (hours at : ℕ) (retain : Retain) (add : List Tag)
      → model.changed m [] (makes account m.clock (CreatePolicy targets hours at retain add) (any.Policy (next_policy (rows_of m) account) ∷ [])) ≡ with_policy m account targets hours at retain add
  policy-made targets hours at retain add =
      let key : PolicyKey = next_policy (rows_of m) account in
      λ i. record m {
        changes = m.changes + 1;
        stamps = same_stamps i;
        snaps = same_snaps-itself i;
        own = fin.insert m.own account (record (own_of m account) { next_policy = key.number + 1 });
        policies = fin.insert m.policies key (new_policy m.clock key targets hours at retain add);
      }

  pub policy-dropped : (key : PolicyKey) → model.changed m [] (alters account m.clock (DeletePolicy key)) ≡ without_policy m key
  policy-dropped key = λ i. record m { changes = m.changes + 1; stamps = same_stamps i; snaps = same_snaps-itself i; policies = fin.remove m.policies key }

  -- what a run decides
  abbrev pub change_of_run : PolicyKey → Policy → Change
  change_of_run key p =
      let volumes = due_targets (rows_of m) key p m.clock.second in
      run_change account m.clock key (new_keys (next_key (rows_of m) account) volumes) volumes (run_ended (rows_of m) m.clock key p) (run_released (rows_of m) m.clock key p)

  abbrev run_over : PolicyKey → Option Policy → Machine
  run_over key o = record (model.with_rows m (run_by (rows_of m) m.clock key o) (λ q. model.source_array m (run_source (rows_of m) m.clock.second key o q) q)) { changes = m.changes + 1; stamps = m.stamps + 0 }

  pub run-made : (key : PolicyKey) (p : Policy) → fin.get m.policies key ≡ Some p → model.changed m [] (change_of_run key p) ≡ ran m key p
  run-made key p is =
      let beside = run-beside (rows_of m) m.clock key p in
      ap (run_over key) is
      ∙ (λ i. record m {
        changes = m.changes + 1;
        stamps = same_stamps i;
        snaps = with_arrays (run_rows (rows_of m) m.clock key p).snaps (λ q. model.source_array m (ran_source m key p q) q);
        own = beside.1.1.1.1 i;
        tokens = beside.1.0 i;
        vols = beside.0 i;
        books = beside.1.1.0 i;
        policies = beside.1.1.1.0 i;
      })

module _ (hash : Hash) (m : Machine) (account : ℕ) where
  abbrev Outcome : Type 0
  Outcome = Result (Machine × Answer) Refusal

  list-whole : (key : SnapKey) (page : Option (List ℕ)) (most start : ℕ) → model.act hash m account (ListSnapshotBlocks key page most start) ≡ whole.list_blocks m account key page most start
  list-whole key page most start =
      after-after (the_row (rows_of m) key (ready account key m.clock.second)) _ _
      ∙ find-both m key (ready account key m.clock.second)
      (λ row. read_list m.secret key m.clock.second row.size (array_of m key) page most start >>= λ answer. Ok (m, answer))
      (λ s. begins m.secret false key key m.clock.second page start >>= λ index. Ok (m, block_list m.secret key m.clock.second s.row.size s.array most index))
      (λ s e.
      ap (λ o. read_list m.secret key m.clock.second s.row.size (array_at o) page most start >>= λ answer. Ok (m, answer)) e
      ∙ after-after (begins m.secret false key key m.clock.second page start) _ _)

  changed-whole : (first second : SnapKey) (page : Option (List ℕ)) (most start : ℕ) → model.act hash m account (ListChangedBlocks first second page most start) ≡ whole.list_changed m account first second page most start
  changed-whole first second page most start =
      let now = m.clock.second in
      let answered : SnapRow → SnapRow → Outcome = λ a b. read_changes m.secret first second now b.size (is_same_line a.line b.line) (array_of m first) (array_of m second) page most start >>= λ answer. Ok (m, answer) in
      after-after (the_row (rows_of m) first (ready account first now)) _ _
      ∙ find-both m first (ready account first now) _
      (λ a. the_snapshot m second (ready account second now) >>= λ b. begins m.secret true first second now page start >>= λ index. refuse_if (not (is_same_line a.row.line b.row.line)) Unrelated >> Ok (m, change_list m.secret first second now b.row.size a.array b.array most index))
      (λ a is.
      after-after (the_row (rows_of m) second (ready account second now)) _ _
      ∙ find-both m second (ready account second now) (answered a.row)
      (λ b. begins m.secret true first second now page start >>= λ index. refuse_if (not (is_same_line a.row.line b.row.line)) Unrelated >> Ok (m, change_list m.secret first second now b.row.size a.array b.array most index))
      (λ b too.
      (λ i. read_changes m.secret first second now b.row.size (is_same_line a.row.line b.row.line) (array_at (is i)) (array_at (too i)) page most start >>= λ answer. Ok (m, answer))
      ∙ after-after (begins m.secret true first second now page start) _ _
      ∙ (λ i. begins m.secret true first second now page start >>= λ index. test-after (refuse_if (not (is_same_line a.row.line b.row.line)) Unrelated) (Ok (change_list m.secret first second now b.row.size a.array b.array most index)) (λ answer. Ok (m, answer)) i)))

  get-whole : (key : SnapKey) (index : ℕ) (token : List ℕ) → model.act hash m account (GetSnapshotBlock key index token) ≡ whole.get_block hash m account key index token
  get-whole key index token =
      let now = m.clock.second in
      after-after (the_row (rows_of m) key (ready account key now)) _ _
      ∙ find-both m key (ready account key now)
      (λ row. read_block hash m.secret key now (array_of m key) index token >>= λ answer. Ok (m, answer))
      (λ s. refuse_if (not (is_block_token m.secret key index now token)) BadBlockToken >> (whole.read_of hash s index >>= λ answer. Ok (m, answer)))
      (λ s e.
      ap (λ o. read_block hash m.secret key now (array_at o) index token >>= λ answer. Ok (m, answer)) e
      ∙ test-after (refuse_if (not (is_block_token m.secret key index now token)) BadBlockToken) _ _)

  abbrev array_put : SnapKey → ℕ → List ℕ → SnapKey → WholeArray
  array_put key index bytes q = cond (is_key q key) (fin.insert (array_of m q) index (record { stamp = m.stamps; bytes = bytes })) (array_of m q)

  -- the machine after a put
  put-made : (key : SnapKey) (index : ℕ) (digest bytes : List ℕ) (s : Snapshot) → fin.get m.snaps key ≡ Some s → model.changed m bytes (alters account m.clock (PutSnapshotBlock key index digest [])) ≡ with_put m key s index bytes
  put-made key index digest bytes s e = λ i. record m { changes = m.changes + 1; stamps = m.stamps + 1; snaps = snaps i }
    where
      snaps : with_arrays (changed_row (snap_rows m.snaps) key (put_row m.clock index) (fin.get (snap_rows m.snaps) key)) (array_put key index bytes) ≡ fin.insert m.snaps key (put s m.clock m.stamps index bytes)
      snaps =
          let block : WholeBlock = record { stamp = m.stamps; bytes = bytes } in
          ap (λ r. with_arrays (changed_row (snap_rows m.snaps) key (put_row m.clock index) r) (array_put key index bytes)) (row-there m key s e)
          ∙ with-replaced m.snaps key (put_row m.clock index s.row) (λ q. fin.insert (array_of m q) index block)
          ∙ ap (λ o. fin.insert m.snaps key (with_array (fin.insert (array_at o) index block) (put_row m.clock index s.row))) e

  put-whole : (key : SnapKey) (index : ℕ) (digest bytes : List ℕ) → model.act hash m account (PutSnapshotBlock key index digest bytes) ≡ whole.put_block hash m account key index digest bytes
  put-whole key index digest bytes =
      let change = alters account m.clock (PutSnapshotBlock key index digest []) in
      let rest : Machine → Outcome = λ new. refuse_if (is_spent m) (Exhausted Changes) >> Ok (new, answer.BlockWritten digest) in
      ap (λ x. refuse_if (not (pointwise nat_eq digest (hash bytes))) (Checksum digest (hash bytes)) >> x) (
      after-after (the_row (rows_of m) key (open_upload account key m.clock.second)) _ _
      ∙ find-both m key (open_upload account key m.clock.second) _
      (λ s. refuse_if (nat_le (blocks_of s.row.size) index) BadIndex >> rest (with_put m key s index bytes))
      (λ s e.
      test-after (refuse_if (nat_le (blocks_of s.row.size) index) BadIndex) _ _
      ∙ ap (λ new. refuse_if (nat_le (blocks_of s.row.size) index) BadIndex >> rest new) (put-made key index digest bytes s e))
      )

  -- the snapshots after a change of one row
  row-made : (key : SnapKey) (change : SnapRow → SnapRow) (s : Snapshot) → fin.get m.snaps key ≡ Some s
      → with_arrays (changed_row (snap_rows m.snaps) key change (fin.get (snap_rows m.snaps) key)) (array_of m) ≡ fin.insert m.snaps key (rewritten (change s.row) s)
  row-made key change s e =
      ap (λ r. with_arrays (changed_row (snap_rows m.snaps) key change r) (array_of m)) (row-there m key s e)
      ∙ with-row m.snaps key (change s.row)
      ∙ ap (λ o. fin.insert m.snaps key (with_array (array_at o) (change s.row))) e

  complete-made : (key : SnapKey) (count : ℕ) (checksum : Option (List ℕ)) (s : Snapshot) → fin.get m.snaps key ≡ Some s → model.changed m [] (alters account m.clock (CompleteSnapshot key count checksum)) ≡ with_snapshot m key (completed s)
  complete-made key count checksum s e = let same : m.stamps + 0 ≡ m.stamps = omega arith in λ i. record m { changes = m.changes + 1; stamps = same i; snaps = row-made key completed_row s e i }

  complete-whole : (key : SnapKey) (count : ℕ) (checksum : Option (List ℕ)) → model.act hash m account (CompleteSnapshot key count checksum) ≡ whole.complete hash m account key count checksum
  complete-whole key count checksum =
      let counted : Snapshot → Result (Unit {0}) Refusal = λ s. refuse_if (not (fin.len s.row.put == count)) (BadParameter (codes "x-amz-ChangedBlocksCount")) in
      let rest : Option Snapshot → Machine → Outcome = λ o new. refuse_checksum checksum (linear hash (array_at o) (put_at o)) >> (refuse_if (is_spent m) (Exhausted Changes) >> Ok (new, answer.Completed)) in
      after-after (the_row (rows_of m) key (open_upload account key m.clock.second)) _ _
      ∙ find-both m key (open_upload account key m.clock.second) _
      (λ s. counted s >> rest (Some s) (with_snapshot m key (completed s)))
      (λ s e.
      test-after (counted s) _ _
      ∙ (λ i. counted s >> rest (e i) (complete-made key count checksum s e i)))

  describe-whole : (key : SnapKey) → model.act hash m account (DescribeSnapshot key) ≡ whole.describe m account key
  describe-whole key =
      after-after (the_row (rows_of m) key (seen account key m.clock.second)) _ _
      ∙ find-both m key (seen account key m.clock.second) _ (λ s. Ok (m, answer.SnapshotShown false (view_of account m.clock.second key s.row))) (λ s e. refl)

  permit-whole : (key : SnapKey) (add : List ℕ) (add_all : Bool) (remove : List ℕ) (remove_all : Bool) → model.act hash m account (ModifyPermission key add add_all remove remove_all) ≡ whole.permit m account key add add_all remove remove_all
  permit-whole key add add_all remove remove_all =
      let change = permitted_row add add_all remove remove_all in
      let few : Snapshot → Result (Unit {0}) Refusal = λ s. refuse_if (nat_lt most_shared (length (permitted s.row.shared add remove))) (Quota SharedAccounts most_shared) in
      let rest : Machine → Outcome = λ new. refuse_if (is_spent m) (Exhausted Changes) >> Ok (new, answer.Done) in
      let same : m.stamps + 0 ≡ m.stamps = omega arith in
      after-after (the_row (rows_of m) key (done account key m.clock.second)) _ _
      ∙ find-both m key (done account key m.clock.second) _
      (λ s. few s >> rest (with_snapshot m key (rewritten (change s.row) s)))
      (λ s e.
      test-after (few s) _ _
      ∙ (λ i. few s >> rest (record m { changes = m.changes + 1; stamps = same i; snaps = row-made key change s e i })))

  -- the snapshots after one is taken out
  row-out : (key : SnapKey) → with_arrays (fin.remove (snap_rows m.snaps) key) (array_of m) ≡ fin.remove m.snaps key
  row-out key = same_snaps _ _ (λ q.
      get-with (fin.remove (snap_rows m.snaps) key) (array_of m) q ∙ ap (option_map (with_array (array_of m q))) (fin.get-remove snaps_total (snap_rows m.snaps) key q)
      ∙ by q (eq_by_cmp snap_cmp q key) ∙ sym (fin.get-remove snaps_total m.snaps key q))
    where
      by : (q : SnapKey) (b : Bool) → option_map (with_array (array_of m q)) (cond b None (fin.get (snap_rows m.snaps) q)) ≡ cond b None (fin.get m.snaps q)
      by q true = refl
      by q false = sym (get-with (snap_rows m.snaps) (array_of m) q) ∙ ap (λ snaps. fin.get snaps q) (with-itself m.snaps (array_of m) (λ q. refl))

  -- the machine after a deletion
  abbrev deleted_over : SnapKey → Option SnapRow → Machine
  deleted_over key o = record (model.with_rows m (deletion.deleted (rows_of m) m.clock key o) (array_of m)) { changes = m.changes + 1; stamps = m.stamps + 0 }

  delete-made : (key : SnapKey) (s : Snapshot) → fin.get m.snaps key ≡ Some s → model.changed m [] (ends account m.clock (DeleteSnapshot key) key) ≡ deleted m key s (days_in_bin (rows_of m) key s.row)
  delete-made key s e = ap (deleted_over key) (row-there m key s e) ∙ by (days_in_bin (rows_of m) key s.row)
    where
      same : m.stamps + 0 ≡ m.stamps
      same = omega arith

      by : (o : Option ℕ) → record (model.with_rows m (deletion.deleted_by (rows_of m) m.clock key s.row o) (array_of m)) { changes = m.changes + 1; stamps = m.stamps + 0 } ≡ deleted m key s o
      by None = λ i. record m { changes = m.changes + 1; stamps = same i; snaps = row-out key i }
      by (Some days) = λ i. record m { changes = m.changes + 1; stamps = same i; snaps = (with-row m.snaps key (binned_row m s.row days) ∙ ap (λ o. fin.insert m.snaps key (with_array (array_at o) (binned_row m s.row days))) e) i }

  delete-whole : (key : SnapKey) → model.act hash m account (DeleteSnapshot key) ≡ whole.delete m account key
  delete-whole key =
      let closed : SnapRow → Result (Unit {0}) Refusal = λ row. refuse_if (is_pending (status_at row m.clock.second)) (WrongState Pending) in
      let unlocked : SnapRow → Result (Unit {0}) Refusal = λ row. refuse_locked (lock_until row.lock) m.clock.second in
      let rest : Machine → Outcome = λ new. refuse_if (is_spent m) (Exhausted Changes) >> Ok (new, answer.Done) in
      after-after (the_row (rows_of m) key (own account key m.clock.second)) _ _
      ∙ find-both m key (own account key m.clock.second) _
      (λ s. closed s.row >> (unlocked s.row >> rest (deleted m key s (days_in_bin (rows_of m) key s.row))))
      (λ s e.
      test-after (closed s.row) _ _
      ∙ ap (λ x. closed s.row >> x) (test-after (unlocked s.row) _ _ ∙ (λ i. unlocked s.row >> rest (delete-made key s e i))))

  recover-whole : (key : SnapKey) → model.act hash m account (RestoreFromBin key) ≡ whole.recover m account key
  recover-whole key =
      let said : Snapshot → Answer = λ s. answer.SnapshotShown false (view_of account m.clock.second key (recovered s.row)) in
      let rest : Snapshot → Machine → Outcome = λ s new. refuse_if (is_spent m) (Exhausted Changes) >> Ok (new, said s) in
      let same : m.stamps + 0 ≡ m.stamps = omega arith in
      after-after (the_row (rows_of m) key (binned account key m.clock.second)) _ _
      ∙ find-both m key (binned account key m.clock.second) _
      (λ s. rest s (with_snapshot m key (rewritten (recovered s.row) s)))
      (λ s e. λ i. rest s (record m { changes = m.changes + 1; stamps = same i; snaps = row-made key recovered s e i }))

  -- a row of the caller's own that is completed, tested and rewritten
  module _ {T : Type 0} (request : Request) (key : SnapKey) (test : SnapRow → Result T Refusal) (change : SnapRow → SnapRow) (said : T → Answer) where
    abbrev altered : Machine
    altered = record m { changes = m.changes + 1; stamps = m.stamps + 0; snaps = with_arrays (changed_row (snap_rows m.snaps) key change (fin.get (snap_rows m.snaps) key)) (array_of m) }

    abbrev finished : Machine → Answer → Outcome
    finished new answer = refuse_if (is_spent m) (Exhausted Changes) >> Ok (new, answer)

    rewrites-whole : ((answer : Answer) → model.finish hash m request (decision.Change (alters account m.clock request) answer) ≡ finished altered answer)
        → ((the_row (rows_of m) key (done account key m.clock.second) >>= λ row. test row >>= λ v. Ok (decision.Change (alters account m.clock request) (said v))) >>= model.finish hash m request)
        ≡ (the_snapshot m key (done account key m.clock.second) >>= λ s. test s.row >>= λ v. finished (with_snapshot m key (rewritten (change s.row) s)) (said v))
    rewrites-whole finishes =
        let same : m.stamps + 0 ≡ m.stamps = omega arith in
        after-after (the_row (rows_of m) key (done account key m.clock.second)) _ _
        ∙ find-both m key (done account key m.clock.second) _ (λ s. test s.row >>= λ v. finished (with_snapshot m key (rewritten (change s.row) s)) (said v))
        (λ s e.
        after-after (test s.row) _ _
        ∙ (λ i. test s.row >>= λ v. finishes (said v) i)
        ∙ (λ i. test s.row >>= λ v. finished (record m { changes = m.changes + 1; stamps = same i; snaps = row-made key change s e i }) (said v)))

  -- a lock is put in, and this one is answered
  abbrev locks : SnapKey → Snapshot → LockState → LockState → Outcome
  locks key s lock new = refuse_if (is_spent m) (Exhausted Changes) >> Ok (with_snapshot m key (rewritten (record s.row { lock = lock }) s), lock_answer (lock_shown new m.clock.second) (lock_until new))

  -- the new lock, where there is one
  lock-new : (key : SnapKey) (command : LockCommand) → let now = m.clock.second in let found = the_snapshot m key (done account key now) in
      (found >>= λ s. changed_lock (lock_change s.row.lock command now) >>= locks key s (or_left s.row.lock (lock_change s.row.lock command now)))
      ≡ whole.lock m account key command
  lock-new key command = λ i. the_snapshot m key (done account key m.clock.second) >>= λ s. by s (lock_change s.row.lock command m.clock.second) i
    where
      by : (s : Snapshot) (x : Result LockState LockRefusal) → (changed_lock x >>= locks key s (or_left s.row.lock x)) ≡ (changed_lock x >>= λ new. locks key s new new)
      by s (Ok new) = refl
      by s (Err r) = refl

  lock-whole : (key : SnapKey) (mode : LockMode) (term : Term) (cool_hours : Option ℕ) → model.act hash m account (LockSnapshot key mode term cool_hours) ≡ whole.lock m account key (Lock mode term cool_hours)
  lock-whole key mode term cool_hours =
      let command = Lock mode term cool_hours in
      rewrites-whole (LockSnapshot key mode term cool_hours) key (λ row. changed_lock (lock_change row.lock command m.clock.second)) (locked_row m.clock command) (λ new. lock_answer (lock_shown new m.clock.second) (lock_until new)) (λ answer. refl)
      ∙ lock-new key command

  unlock-whole : (key : SnapKey) → model.act hash m account (UnlockSnapshot key) ≡ whole.lock m account key Unlock
  unlock-whole key =
      rewrites-whole (UnlockSnapshot key) key (λ row. changed_lock (lock_change row.lock Unlock m.clock.second)) (locked_row m.clock Unlock) (λ new. lock_answer (lock_shown new m.clock.second) (lock_until new)) (λ answer. refl)
      ∙ lock-new key Unlock

  abbrev moves : SnapKey → Snapshot → Tier → Answer → Outcome
  moves key s tier answer = refuse_if (is_spent m) (Exhausted Changes) >> Ok (with_snapshot m key (rewritten (record s.row { tier = tier }) s), answer)

  -- the new tier, where there is one
  tier-new : (key : SnapKey) (move : Tier → Result Tier TierPhase) (said : Tier → Answer) → let found = the_snapshot m key (done account key m.clock.second) in
      (found >>= λ s. changed_tier (move s.row.tier) >>= λ new. moves key s (or_left s.row.tier (move s.row.tier)) (said new))
      ≡ (found >>= λ s. changed_tier (move s.row.tier) >>= λ new. moves key s new (said new))
  tier-new key move said = λ i. the_snapshot m key (done account key m.clock.second) >>= λ s. by s (move s.row.tier) i
    where
      by : (s : Snapshot) (x : Result Tier TierPhase) → (changed_tier x >>= λ new. moves key s (or_left s.row.tier x) (said new)) ≡ (changed_tier x >>= λ new. moves key s new (said new))
      by s (Ok new) = refl
      by s (Err phase) = refl

  archive-whole : (key : SnapKey) → model.act hash m account (ArchiveSnapshot key) ≡ whole.archive m account key
  archive-whole key =
      let move : Tier → Result Tier TierPhase = λ tier. tiers.archive tier m.clock.second in
      rewrites-whole (ArchiveSnapshot key) key (λ row. changed_tier (move row.tier)) (archived_row m.clock) (λ new. answer.Done) (λ answer. refl)
      ∙ tier-new key move (λ new. answer.Done)

  restore-whole : (key : SnapKey) (days : Option ℕ) → model.act hash m account (RestoreTier key days) ≡ whole.restore m account key days
  restore-whole key days =
      let move : Tier → Result Tier TierPhase = λ tier. tiers.restore tier days m.clock.second in
      let said : Tier → Answer = λ new. answer.TierShown (restore_until new m.clock.second) (tier_shown new m.clock.second) in
      rewrites-whole (RestoreTier key days) key (λ row. changed_tier (move row.tier)) (restored_row m.clock days) said (λ answer. refl)
      ∙ tier-new key move said

  abbrev given : SnapKey
  given = record { account = account; number = (own_of m account).next_snap }

  -- what is tested of an upload's size and of its account's room, and what follows
  abbrev room : Option (List ℕ) → ℕ → ℕ → Outcome → Outcome
  room token size least next =
      refuse_if (nat_lt size least) BadSize
      >> (refuse_if (nat_le most_open (open_count (rows_of m) account m.clock.second)) OpenUploads
      >> (refuse_if (nat_le most_kept (kept_count (rows_of m) account)) (Quota Snapshots most_kept)
      >> (refuse_if (has_token token && nat_le most_tokens (token_count (rows_of m) account)) (Quota ClientTokens most_tokens)
      >> (refuse_if (nat_le most_ids given.number) (Quota Ids most_ids) >> next))))

  start-made : (size : ℕ) (parent : Option SnapKey) (description : Option (List ℕ)) (tags : List Tag) (token : Option (List ℕ)) (timeout : ℕ) (line : Line) (array : WholeArray)
      → line_of (snap_rows m.snaps) given parent ≡ line → model.begun_array m parent ≡ array
      → model.changed m [] (makes account m.clock (StartSnapshot size parent description tags token timeout) (Snap given ∷ []))
      ≡ with_use m (with_started m given (started_row m.clock given size parent line description tags timeout) array) given (StartSnapshot size parent description tags token timeout) token
  start-made size parent description tags token timeout line array of_line of_array =
      let same : m.stamps + 0 ≡ m.stamps = omega arith in
      λ i. record m { changes = m.changes + 1; stamps = same i; snaps = snaps i; own = fin.insert m.own account (record (own_of m account) { next_snap = given.number + 1 }); tokens = with_token m.tokens m.clock given.account given.number (StartSnapshot size parent description tags token timeout) token }
    where
      snaps : with_arrays (fin.insert (snap_rows m.snaps) given (started_row m.clock given size parent (line_of (snap_rows m.snaps) given parent) description tags timeout)) (λ q. cond (is_key q given) (model.begun_array m parent) (array_of m q)) ≡ fin.insert m.snaps given (record { row = started_row m.clock given size parent line description tags timeout; array = array })
      snaps =
          let row : Line → SnapRow = λ l. started_row m.clock given size parent l description tags timeout in
          with-replaced m.snaps given (row (line_of (snap_rows m.snaps) given parent)) (λ q. model.begun_array m parent) ∙ (λ i. fin.insert m.snaps given (with_array (of_array i) (row (of_line i))))

  -- one test after the other, and what follows them
  room-after : (token : Option (List ℕ)) (size least : ℕ) (v : Decision) (g : Decision → Outcome)
      → ((refuse_if (nat_lt size least) BadSize
      >> (refuse_if (nat_le most_open (open_count (rows_of m) account m.clock.second)) OpenUploads
      >> (refuse_if (nat_le most_kept (kept_count (rows_of m) account)) (Quota Snapshots most_kept)
      >> (refuse_if (has_token token && nat_le most_tokens (token_count (rows_of m) account)) (Quota ClientTokens most_tokens)
      >> (refuse_if (nat_le most_ids given.number) (Quota Ids most_ids) >> Ok v))))) >>= g) ≡ room token size least (g v)
  room-after token size least v g =
      let one = refuse_if (nat_lt size least) BadSize in
      let two = refuse_if (nat_le most_open (open_count (rows_of m) account m.clock.second)) OpenUploads in
      let three = refuse_if (nat_le most_kept (kept_count (rows_of m) account)) (Quota Snapshots most_kept) in
      let four = refuse_if (has_token token && nat_le most_tokens (token_count (rows_of m) account)) (Quota ClientTokens most_tokens) in
      let five = refuse_if (nat_le most_ids given.number) (Quota Ids most_ids) in
      test-after one _ g
      ∙ ap (λ x. one >> x) (test-after two _ g ∙ ap (λ x. two >> x) (test-after three _ g ∙ ap (λ x. three >> x) (test-after four _ g ∙ ap (λ x. four >> x) (test-after five (Ok v) g))))

  fresh-whole : (size : ℕ) (parent : Option SnapKey) (description : Option (List ℕ)) (tags : List Tag) (token : Option (List ℕ)) (timeout : ℕ)
      → (fresh_start (rows_of m) m.clock account size parent description tags token timeout >>= model.finish hash m (StartSnapshot size parent description tags token timeout)) ≡ whole.fresh m account size parent description tags token timeout
  fresh-whole size None description tags token timeout =
      let request = StartSnapshot size None description tags token timeout in
      let change = makes account m.clock request (Snap given ∷ []) in
      let said = answer.Started description account None given m.clock tags size in
      room-after token size 0 (decision.Change change said) (model.finish hash m request)
      ∙ ap (λ new. room token size 0 (refuse_if (is_spent m) (Exhausted Changes) >> Ok (new, said))) (start-made size None description tags token timeout _ _ refl refl)
  fresh-whole size (Some parent) description tags token timeout =
      let request = StartSnapshot size (Some parent) description tags token timeout in
      let change = makes account m.clock request (Snap given ∷ []) in
      let said = answer.Started description account (Some parent) given m.clock tags size in
      let rest : ℕ → Machine → Outcome = λ least new. room token size least (refuse_if (is_spent m) (Exhausted Changes) >> Ok (new, said)) in
      let made : Snapshot → Machine = λ s. with_use m (with_started m given (started_row m.clock given size (Some parent) s.row.line description tags timeout) s.array) given request token in
      after-after (the_row (rows_of m) parent (base account parent m.clock.second) >>= λ row. Ok row.size) _ _
      ∙ after-after (the_row (rows_of m) parent (base account parent m.clock.second)) _ _
      ∙ find-both m parent (base account parent m.clock.second) _ (λ s. rest s.row.size (made s))
      (λ s e.
      room-after token size s.row.size (decision.Change change said) (model.finish hash m request)
      ∙ ap (rest s.row.size) (start-made size (Some parent) description tags token timeout s.row.line s.array (ap (line_by (new_line given)) (row-there m parent s e)) (ap array_at e)))
      ∙ sym (after-after (the_snapshot m parent (base account parent m.clock.second)) _ _)

  -- what an earlier call with the client token decides, and what follows
  use-after : (o : Option TokenRow) (repeat : TokenRow → Result Decision Refusal) (fresh : Result Decision Refusal) (again : TokenRow → Outcome) (new : Outcome) (g : Decision → Outcome)
      → ((row : TokenRow) → (repeat row >>= g) ≡ again row) → (fresh >>= g) ≡ new → (by_token o repeat fresh >>= g) ≡ by_use o again new
  use-after None repeat fresh again new g h k = k
  use-after (Some row) repeat fresh again new g h k = h row

  start-whole : (size : ℕ) (parent : Option SnapKey) (description : Option (List ℕ)) (tags : List Tag) (token : Option (List ℕ)) (timeout : ℕ) → model.act hash m account (StartSnapshot size parent description tags token timeout) ≡ whole.start m account size parent description tags token timeout
  start-whole size parent description tags token timeout =
      ap (λ x. refuse_if (not (is_size size)) BadSize >> x)
      (use-after (first_use (rows_of m) account token) (repeat_start account size parent description tags timeout) (fresh_start (rows_of m) m.clock account size parent description tags token timeout)
      (whole.repeat m account size parent description tags timeout) (whole.fresh m account size parent description tags token timeout) (model.finish hash m (StartSnapshot size parent description tags token timeout))
      (λ row. test-after (refuse_if (not (is_same_start row.first size parent description tags timeout)) (TokenConflict (first_key account row))) _ _)
      (fresh-whole size parent description tags token timeout))

  -- a volume gets the account's next number
  abbrev given_volume : VolKey
  given_volume = whole.next_volume m account

  -- the snapshots stay
  snaps-stay : with_arrays (snap_rows m.snaps) (array_of m) ≡ m.snaps
  snaps-stay = with-itself m.snaps (array_of m) (λ q. refl)

  create-made : (from : Option SnapKey) (wanted : ℕ) (tags : List Tag) (token : Option (List ℕ)) (line : Line) (array : WholeArray) → volume_line (snap_rows m.snaps) given_volume from ≡ line → model.begun_array m from ≡ array
      → model.changed m [] (makes account m.clock (CreateVolume from (Some wanted) tags token) (Vol given_volume ∷ [])) ≡ created m given_volume (volume_row given_volume wanted line from tags) array token
  create-made from wanted tags token line array of_line of_array =
      let same : m.stamps + 0 ≡ m.stamps = omega arith in
      λ i. record m {
        changes = m.changes + 1;
        stamps = same i;
        snaps = snaps-stay i;
        own = fin.insert m.own account (record (own_of m account) { next_vol = given_volume.number + 1 });
        tokens = with_token m.tokens m.clock account given_volume.number (CreateVolume from (Some wanted) tags token) token;
        vols = fin.insert m.vols given_volume (volume_row given_volume wanted (of_line i) from tags);
        disks = fin.insert m.disks given_volume (of_array i);
      }

  -- what is tested of a volume's size and of its account's room, and what follows
  abbrev volume_room : Option (List ℕ) → ℕ → ℕ → Outcome → Outcome
  volume_room token size least next =
      refuse_if (nat_lt size least) BadSize
      >> (refuse_if (nat_le most_volumes (volume_count (rows_of m) account)) (Quota Volumes most_volumes)
      >> (refuse_if (has_token token && nat_le most_tokens (token_count (rows_of m) account)) (Quota ClientTokens most_tokens)
      >> (refuse_if (nat_le most_ids given_volume.number) (Quota Ids most_ids) >> next)))

  volume-room-after : (token : Option (List ℕ)) (size least : ℕ) (v : Decision) (g : Decision → Outcome)
      → ((refuse_if (nat_lt size least) BadSize
      >> (refuse_if (nat_le most_volumes (volume_count (rows_of m) account)) (Quota Volumes most_volumes)
      >> (refuse_if (has_token token && nat_le most_tokens (token_count (rows_of m) account)) (Quota ClientTokens most_tokens)
      >> (refuse_if (nat_le most_ids given_volume.number) (Quota Ids most_ids) >> Ok v)))) >>= g) ≡ volume_room token size least (g v)
  volume-room-after token size least v g =
      let one = refuse_if (nat_lt size least) BadSize in
      let two = refuse_if (nat_le most_volumes (volume_count (rows_of m) account)) (Quota Volumes most_volumes) in
      let three = refuse_if (has_token token && nat_le most_tokens (token_count (rows_of m) account)) (Quota ClientTokens most_tokens) in
      let four = refuse_if (nat_le most_ids given_volume.number) (Quota Ids most_ids) in
      test-after one _ g ∙ ap (λ x. one >> x) (test-after two _ g ∙ ap (λ x. two >> x) (test-after three _ g ∙ ap (λ x. three >> x) (test-after four (Ok v) g)))

  create-fresh-whole : (from : Option SnapKey) (size : Option ℕ) (tags : List Tag) (token : Option (List ℕ))
      → (fresh_create (rows_of m) m.clock account from size tags token >>= model.finish hash m (CreateVolume from size tags token)) ≡ whole.create_fresh m account from size tags token
  create-fresh-whole None size tags token =
      let wanted = unwrap_or size 0 in
      let change = makes account m.clock (CreateVolume None (Some wanted) tags token) (Vol given_volume ∷ []) in
      let said = answer.VolumeShown true wanted None tags given_volume in
      volume-room-after token wanted 0 (decision.Change change said) (model.finish hash m (CreateVolume None size tags token))
      ∙ ap (λ new. volume_room token wanted 0 (refuse_if (is_spent m) (Exhausted Changes) >> Ok (new, said))) (create-made None wanted tags token (new_volume_line given_volume) fin.empty refl refl)
  create-fresh-whole (Some from) size tags token =
      let wanted : ℕ → ℕ = λ least. unwrap_or size least in
      let change : ℕ → Change = λ least. makes account m.clock (CreateVolume (Some from) (Some (wanted least)) tags token) (Vol given_volume ∷ []) in
      let said : ℕ → Answer = λ least. answer.VolumeShown true (wanted least) (Some from) tags given_volume in
      let rest : ℕ → Machine → Outcome = λ least new. volume_room token (wanted least) least (refuse_if (is_spent m) (Exhausted Changes) >> Ok (new, said least)) in
      let made : Snapshot → Machine = λ s. created m given_volume (volume_row given_volume (wanted s.row.size) s.row.line (Some from) tags) s.array token in
      after-after (the_row (rows_of m) from (base account from m.clock.second) >>= λ row. Ok row.size) _ _
      ∙ after-after (the_row (rows_of m) from (base account from m.clock.second)) _ _
      ∙ find-both m from (base account from m.clock.second) _ (λ s. rest s.row.size (made s))
      (λ s e.
      volume-room-after token (wanted s.row.size) s.row.size (decision.Change (change s.row.size) (said s.row.size)) (model.finish hash m (CreateVolume (Some from) size tags token))
      ∙ ap (rest s.row.size) (create-made (Some from) (wanted s.row.size) tags token s.row.line s.array (ap (line_by (new_volume_line given_volume)) (row-there m from s e)) (ap array_at e)))
      ∙ sym (after-after (the_snapshot m from (base account from m.clock.second)) _ _)

  create-whole : (from : Option SnapKey) (size : Option ℕ) (tags : List Tag) (token : Option (List ℕ)) → model.act hash m account (CreateVolume from size tags token) ≡ whole.create m account from size tags token
  create-whole from size tags token =
      ap (λ x. refuse_if (not (is_size_given size)) BadSize >> x)
      (use-after (first_use (rows_of m) account token) (repeat_create account from size tags) (fresh_create (rows_of m) m.clock account from size tags token)
      (whole.create_again m account from size tags) (whole.create_fresh m account from size tags token) (model.finish hash m (CreateVolume from size tags token))
      (λ row. test-after (refuse_if (not (is_same_create row.first from size tags)) (TokenConflict (first_key account row))) _ _)
      (create-fresh-whole from size tags token))

  describe-volume-whole : (key : VolKey) → model.act hash m account (DescribeVolume key) ≡ whole.describe_volume m account key
  describe-volume-whole key = after-after (the_volume (rows_of m) account key) _ _

  drop-whole : (key : VolKey) → model.act hash m account (DeleteVolume key) ≡ whole.drop m account key
  drop-whole key =
      let same : m.stamps + 0 ≡ m.stamps = omega arith in
      let rest : Machine → Outcome = λ new. refuse_if (is_spent m) (Exhausted Changes) >> Ok (new, answer.Done) in
      after-after (the_volume (rows_of m) account key) _ _
      ∙ (λ i. the_volume (rows_of m) account key >>= λ row. rest (record m { changes = m.changes + 1; stamps = same i; snaps = snaps-stay i; vols = fin.remove m.vols key; disks = fin.remove m.disks key }))

  -- the account's volume, which is there
  volume-both : {B : Type 0} (key : VolKey) (f g : VolRow → Result B Refusal) → ((row : VolRow) → fin.get m.vols key ≡ Some row → f row ≡ g row) → (the_volume (rows_of m) account key >>= f) ≡ (the_volume (rows_of m) account key >>= g)
  volume-both {B = B} key f g h = by (account == key.account) (fin.get m.vols key) h
    where
      by : (b : Bool) (o : Option VolRow) → ((row : VolRow) → o ≡ Some row → f row ≡ g row) → ((refuse_if (not b) (NotFound kind.Volume) >> some_or o (NotFound kind.Volume)) >>= f) ≡ ((refuse_if (not b) (NotFound kind.Volume) >> some_or o (NotFound kind.Volume)) >>= g)
      by false o h = refl
      by true None h = refl
      by true (Some row) h = h row refl

  -- the machine after a snapshot of a volume
  module _ (volume : VolKey) (description : Option (List ℕ)) (tags : List Tag) where
    abbrev array_snapped : SnapKey → WholeArray
    array_snapped q = cond (is_key q given) (disk_of m volume) (array_of m q)

    abbrev snapped_over : Option VolRow → Machine
    snapped_over o = record (model.with_rows m (with_snapped (rows_of m) m.clock given volume description tags o) array_snapped) { changes = m.changes + 1; stamps = m.stamps + 0 }

    snap-made : (row : VolRow) → fin.get m.vols volume ≡ Some row → model.changed m [] (makes account m.clock (CreateSnapshot volume description tags) (Snap given ∷ [])) ≡ snapped m account volume row description tags
    snap-made row is =
        let same : m.stamps + 0 ≡ m.stamps = omega arith in
        let new : SnapRow = whole.new_row m account volume row description tags in
        ap snapped_over is
        ∙ (λ i. record m { changes = m.changes + 1; stamps = same i; snaps = with-replaced m.snaps given new (λ q. disk_of m volume) i; own = fin.insert m.own account (record (own_of m account) { next_snap = given.number + 1 }) })

    snap-whole : model.act hash m account (CreateSnapshot volume description tags) ≡ whole.snap m account volume description tags
    snap-whole =
        let few = refuse_if (nat_le most_kept (kept_count (rows_of m) account)) (Quota Snapshots most_kept) in
        let number = refuse_if (nat_le most_ids given.number) (Quota Ids most_ids) in
        let rest : VolRow → Machine → Outcome = λ row new. refuse_if (is_spent m) (Exhausted Changes) >> Ok (new, says_snapped m account volume row description tags) in
        after-after (the_volume (rows_of m) account volume) _ _
        ∙ volume-both volume _ (λ row. few >> (number >> rest row (snapped m account volume row description tags)))
        (λ row is. test-after few _ _ ∙ ap (λ x. few >> x) (test-after number _ _ ∙ ap (λ new. number >> rest row new) (snap-made row is)))

  write-whole : (key : VolKey) (index : ℕ) (digest bytes : List ℕ) → model.act hash m account (WriteVolumeBlock key index digest bytes) ≡ whole.write hash m account key index digest bytes
  write-whole key index digest bytes =
      let rest : Machine → Outcome = λ new. refuse_if (is_spent m) (Exhausted Changes) >> Ok (new, answer.BlockWritten digest) in
      let within : VolRow → Result (Unit {0}) Refusal = λ row. refuse_if (nat_le (blocks_of row.size) index) BadIndex in
      ap (λ x. refuse_if (not (pointwise nat_eq digest (hash bytes))) (Checksum digest (hash bytes)) >> x) (
      after-after (the_volume (rows_of m) account key) _ _
      ∙ volume-both key _ (λ row. within row >> rest (written m key index bytes))
      (λ row is. test-after (within row) _ _
      ∙ (λ i. within row >> rest (record m { changes = m.changes + 1; stamps = m.stamps + 1; snaps = snaps-stay i; disks = fin.insert m.disks key (fin.insert (disk_of m key) index (block_now m bytes)) })))
      )

  fetch-whole : (key : VolKey) (index : ℕ) → model.act hash m account (ReadVolumeBlock key index) ≡ whole.fetch hash m account key index
  fetch-whole key index =
      after-after (the_volume (rows_of m) account key) _ _
      ∙ volume-both key _ (λ row. refuse_if (nat_le (blocks_of row.size) index) BadIndex >> Ok (m, block_or_zeros hash (fin.get (disk_of m key) index)))
      (λ row is. test-after (refuse_if (nat_le (blocks_of row.size) index) BadIndex) (Ok (block_or_zeros hash (fin.get (disk_of m key) index))) _)

  -- a command on the account's rules
  module _ (request : Request) (command : RuleCommand) where
    abbrev decided_rule : Result RuleChange RuleRefusal
    decided_rule = rules.decide account (book_of (rows_of m) account) command m.clock.second

    abbrev ruled_by : Result RuleChange RuleRefusal → Machine
    ruled_by x = record m { changes = m.changes + 1; stamps = m.stamps + 0; snaps = with_arrays (snap_rows m.snaps) (array_of m); books = fin.insert m.books account (committed_by (book_of (rows_of m) account) x) }

    abbrev ruled_outcome : Machine → RuleChange → Outcome
    ruled_outcome new change = refuse_if (is_spent m) (Exhausted Changes) >> Ok (new, rule_answer (is_creation command) m.clock.second change)

    rules-whole : ((change : RuleChange) → model.finish hash m request (decision.Change (makes account m.clock request (made_rules command change)) (rule_answer (is_creation command) m.clock.second change)) ≡ ruled_outcome (ruled_by decided_rule) change)
        → (decide_rule (rows_of m) m.clock account request command >>= model.finish hash m request) ≡ whole.change_rules m account command
    rules-whole finishes =
        let same : m.stamps + 0 ≡ m.stamps = omega arith in
        after-after (changed_rule decided_rule) _ _
        ∙ (λ i. changed_rule decided_rule >>= λ change. finishes change i)
        ∙ (λ i. changed_rule decided_rule >>= λ change. ruled_outcome (record m { changes = m.changes + 1; stamps = same i; snaps = snaps-stay i; books = fin.insert m.books account (committed_by (book_of (rows_of m) account) decided_rule) }) change)
        ∙ by decided_rule
      where
        by : (x : Result RuleChange RuleRefusal)
            → (changed_rule x >>= λ change. ruled_outcome (record m { changes = m.changes + 1; books = fin.insert m.books account (committed_by (book_of (rows_of m) account) x) }) change)
            ≡ (changed_rule x >>= λ change. ruled_outcome (ruled m account change) change)
        by (Ok change) = refl
        by (Err r) = refl

  get_rule-whole : (key : RuleKey) → model.act hash m account (GetRule key) ≡ whole.get_rule m account key
  get_rule-whole key = after-after (some_or (find account (book_of (rows_of m) account) key) (NotFound kind.Rule)) _ _

  -- the account's policy, which is there
  policy-both : {B : Type 0} (key : PolicyKey) (f g : Policy → Result B Refusal) → ((p : Policy) → fin.get m.policies key ≡ Some p → f p ≡ g p) → (the_policy (rows_of m) account key >>= f) ≡ (the_policy (rows_of m) account key >>= g)
  policy-both {B = B} key f g h = by (account == key.account) (fin.get m.policies key) h
    where
      by : (b : Bool) (o : Option Policy) → ((p : Policy) → o ≡ Some p → f p ≡ g p) → ((refuse_if (not b) (NotFound kind.Policy) >> some_or o (NotFound kind.Policy)) >>= f) ≡ ((refuse_if (not b) (NotFound kind.Policy) >> some_or o (NotFound kind.Policy)) >>= g)
      by false o h = refl
      by true None h = refl
      by true (Some p) h = h p refl

  create_policy-whole : (targets : List Tag) (hours at : ℕ) (retain : Retain) (add : List Tag) → model.act hash m account (CreatePolicy targets hours at retain add) ≡ whole.create_policy m account targets hours at retain add
  create_policy-whole targets hours at retain add =
      let key : PolicyKey = next_policy (rows_of m) account in
      let few = refuse_if (nat_le most_policies (policy_count (rows_of m) account)) (Quota Policies most_policies) in
      let number = refuse_if (nat_le most_ids key.number) (Quota Ids most_ids) in
      let rest : Machine → Outcome = λ new. refuse_if (is_spent m) (Exhausted Changes) >> Ok (new, answer.PolicyShown true key m.clock) in
      test-after few _ _ ∙ ap (λ x. few >> x) (test-after number _ _ ∙ ap (λ new. number >> rest new) (policy-made m account targets hours at retain add))

  get_policy-whole : (key : PolicyKey) → model.act hash m account (GetPolicy key) ≡ whole.get_policy m account key
  get_policy-whole key = after-after (the_policy (rows_of m) account key) _ _

  drop_policy-whole : (key : PolicyKey) → model.act hash m account (DeletePolicy key) ≡ whole.drop_policy m account key
  drop_policy-whole key =
      let rest : Machine → Outcome = λ new. refuse_if (is_spent m) (Exhausted Changes) >> Ok (new, answer.Done) in
      after-after (the_policy (rows_of m) account key) _ _
      ∙ (λ i. the_policy (rows_of m) account key >>= λ p. rest (policy-dropped m account key i))

  run-whole : (key : PolicyKey) → model.act hash m account (RunPolicy key) ≡ whole.run m account key
  run-whole key =
      let more : Policy → ℕ = λ p. length (due_targets (rows_of m) key p m.clock.second) in
      let kept : Policy → Result (Unit {0}) Refusal = λ p. refuse_if (nat_lt most_kept (kept_count (rows_of m) account + more p)) (Quota Snapshots most_kept) in
      let ids : Policy → Result (Unit {0}) Refusal = λ p. refuse_if (nat_lt most_ids ((own_of m account).next_snap + more p)) (Quota Ids most_ids) in
      let rest : Policy → Machine → Outcome = λ p new. refuse_if (is_spent m) (Exhausted Changes) >> Ok (new, says_ran m account key p) in
      after-after (the_policy (rows_of m) account key) _ _
      ∙ policy-both key _ (λ p. kept p >> (ids p >> rest p (ran m key p)))
      (λ p is. test-after (kept p) _ _ ∙ ap (λ x. kept p >> x) (test-after (ids p) _ _ ∙ ap (λ new. ids p >> rest p new) (run-made m account key p is)))

  pub act-whole : (request : Request) → model.act hash m account request ≡ whole.act hash m account request
  act-whole (StartSnapshot size parent description tags token timeout) = start-whole size parent description tags token timeout
  act-whole (PutSnapshotBlock key index digest bytes) = put-whole key index digest bytes
  act-whole (CompleteSnapshot key count checksum) = complete-whole key count checksum
  act-whole (ListSnapshotBlocks key page most start) = list-whole key page most start
  act-whole (ListChangedBlocks first second page most start) = changed-whole first second page most start
  act-whole (GetSnapshotBlock key index token) = get-whole key index token
  act-whole (DescribeSnapshot key) = describe-whole key
  act-whole (ModifyPermission key add add_all remove remove_all) = permit-whole key add add_all remove remove_all
  act-whole (DeleteSnapshot key) = delete-whole key
  act-whole (LockSnapshot key mode term cool_hours) = lock-whole key mode term cool_hours
  act-whole (UnlockSnapshot key) = unlock-whole key
  act-whole (ArchiveSnapshot key) = archive-whole key
  act-whole (RestoreTier key days) = restore-whole key days
  act-whole (CreateVolume from size tags token) = create-whole from size tags token
  act-whole (CreateSnapshot key description tags) = snap-whole key description tags
  act-whole (WriteVolumeBlock key index digest bytes) = write-whole key index digest bytes
  act-whole (ReadVolumeBlock key index) = fetch-whole key index
  act-whole (DescribeVolume key) = describe-volume-whole key
  act-whole (DeleteVolume key) = drop-whole key
  act-whole (CreateRule days tags description delay) = rules-whole (CreateRule days tags description delay) (command.Create days tags description delay) (λ change. refl)
  act-whole (GetRule key) = get_rule-whole key
  act-whole (UpdateRule key days tags description) = rules-whole (UpdateRule key days tags description) (command.Update key days tags description) (λ change. refl)
  act-whole (DeleteRule key) = rules-whole (DeleteRule key) (command.Delete key) (λ change. refl)
  act-whole (LockRule key delay) = rules-whole (LockRule key delay) (command.Lock key delay) (λ change. refl)
  act-whole (UnlockRule key) = rules-whole (UnlockRule key) (command.Unlock key) (λ change. refl)
  act-whole (RestoreFromBin key) = recover-whole key
  act-whole (CreatePolicy targets hours at retain add) = create_policy-whole targets hours at retain add
  act-whole (GetPolicy key) = get_policy-whole key
  act-whole (DeletePolicy key) = drop_policy-whole key
  act-whole (RunPolicy key) = run-whole key
  act-whole request = refl

pub call-whole : (m : Machine) (account : ℕ) (request : Request) → model.call m account request ≡ whole.call m account request
call-whole m account request = ap (λ r. refuse_bad (bad_member request) >> r) (act-whole sha256 m account request)
