-- A call on two machines that its caller sees alike.
use Rattle.std.proofs.Common.{◌≡◌, ◌==◌, ℕ, ◌+◌, ◌^◌, ◌<◌, ◌≤◌, nat_le, nat_lt, max, Bool, true, false, cond, not, ◌&&◌, List, map, length, Option, Some, None, Result, Ok, Err, unwrap_or, sym, ap, subst, ◌∙◌, refl, arith}
use Rattle.std.proofs.lemmas.Bool.Decides.{nat_tests}
use Rattle.std.specs.List.{count_by}
use Rattle.std.specs.FinMap as fin
use Rattle.std.specs.FinMap.{nat_cmp-IsAntisymmetric}
use Rattle.std.specs.Ordering.{nat_cmp, eq_by_cmp}
use Rattle.std.specs.Cmp.{nat_cmp_total}
use Rattle.sha2.specs.Sha256.{sha256}
use Rattle.ebs_model.specs.declared.keys.SnapKey.{SnapKey}
use Rattle.ebs_model.specs.declared.keys.VolKey.{VolKey}
use Rattle.ebs_model.specs.declared.keys.TokenKey.{TokenKey}
use Rattle.ebs_model.specs.declared.keys.PolicyKey.{PolicyKey}
use Rattle.ebs_model.specs.declared.keys.AnyKey.TheVariants.{Snap}
use Rattle.ebs_model.specs.declared.policy.Policy.{Policy}
use Rattle.ebs_model.specs.declared.policy.Retain.{Retain}
use Rattle.ebs_model.specs.declared.tags.Tag.{Tag}
use Rattle.ebs_model.specs.declared.rows.SnapRow.{SnapRow}
use Rattle.ebs_model.specs.declared.rows.Own.{Own}
use Rattle.ebs_model.specs.declared.rows.Line.{Line}
use Rattle.ebs_model.specs.declared.rows.LockState.{LockState}
use Rattle.ebs_model.specs.declared.rows.TokenRow.{TokenRow}
use Rattle.ebs_model.specs.declared.rows.VolRow.{VolRow}
use Rattle.ebs_model.specs.declared.lock.LockCommand.{LockCommand}
use Rattle.ebs_model.specs.declared.lock.LockCommand.TheVariants.{Lock, Unlock}
use Rattle.ebs_model.specs.declared.request.Request.{Request}
use Rattle.ebs_model.specs.declared.request.Request.TheVariants.{StartSnapshot, PutSnapshotBlock, CompleteSnapshot, ListSnapshotBlocks, ListChangedBlocks, GetSnapshotBlock, DescribeSnapshot, DescribeSnapshots, DeleteSnapshot, ModifyPermission, LockSnapshot, UnlockSnapshot, ArchiveSnapshot, RestoreTier, CreateVolume, CreateSnapshot, WriteVolumeBlock, ReadVolumeBlock, DescribeVolume, DeleteVolume, CreateRule, GetRule, UpdateRule, DeleteRule, ListRules, LockRule, UnlockRule, ListBin, RestoreFromBin, CreatePolicy, GetPolicy, DeletePolicy, RunPolicy}
use Rattle.ebs_model.specs.declared.answer.Answer.{Answer}
use Rattle.ebs_model.specs.declared.answer.Answer.TheVariants.{Started, BlockRead, SnapshotShown, SnapshotList, VolumeShown, RuleShown, RuleList, PolicyShown, PolicyRan, Done as done_so}
use Rattle.ebs_model.specs.declared.answer.Kind.TheVariants.{Volume as volume, Rule as rule_kind, Policy as policy_kind}
use Rattle.ebs_model.specs.declared.answer.QuotaName.TheVariants.{Snapshots, Volumes, Policies, ClientTokens, Ids}
use Rattle.ebs_model.specs.declared.answer.Spent.TheVariants.{Changes}
use Rattle.ebs_model.specs.declared.answer.Refusal.{Refusal}
use Rattle.ebs_model.specs.declared.answer.Refusal.TheVariants.{BadSize, BadIndex, NotFound, OpenUploads, Quota, Exhausted}
use Rattle.ebs_model.specs.Keys.{vol_cmp, policy_cmp, token_cmp}
use Rattle.ebs_model.specs.inner.Orders.{snaps_total, vols_total, policies_total, tokens_total}
use Rattle.ebs_model.specs.Quotas.{most_open, most_kept, most_volumes, most_policies, most_tokens, most_ids, most_changes}
use Rattle.ebs_model.specs.Refuse.{◌>>=◌, ◌>>◌, refuse_if, refuse_bad, some_or}
use Rattle.ebs_model.specs.Limits.{bad_member, is_size, is_size_given}
use Rattle.ebs_model.specs.Arrays.{WholeBlock, WholeArray, linear}
use Rattle.ebs_model.specs.Time.{Snapshot, status_at, is_pending}
use Rattle.ebs_model.specs.Access.{owns, seen, own, done, open_upload, ready}
use Rattle.ebs_model.specs.Rows.{the_volume, the_policy, first_use, own_rows, volume_count, policy_count, token_count, no_own, book_of}
use Rattle.ebs_model.specs.Calls.Start.{next_key, started_row, has_token, with_token}
use Rattle.ebs_model.specs.Calls.Policy.{new_policy}
use Rattle.ebs_model.specs.Calls.Run.{new_keys}
use Rattle.ebs_model.specs.Calls.Complete.{refuse_checksum}
use Rattle.ebs_model.specs.Calls.Delete.{days_in_bin}
use Rattle.ebs_model.specs.Calls.Bin.{binned}
use Rattle.ebs_model.specs.Calls.Rule.{changed_rule, rule_answer, is_creation}
use Rattle.ebs_model.specs.Rules.{Book, no_rules, retention, find, rules_in, rule_view}
use Rattle.ebs_model.specs.RuleCommands as rules
use Rattle.ebs_model.specs.RuleCommands.{committed}
use Rattle.ebs_model.specs.declared.keys.RuleKey.{RuleKey}
use Rattle.ebs_model.specs.declared.rules.Rule.{Rule}
use Rattle.ebs_model.specs.declared.rules.RuleCommand.{RuleCommand}
use Rattle.ebs_model.specs.declared.rules.RuleCommand.TheVariants as command
use Rattle.ebs_model.specs.declared.rules.RuleChange.{RuleChange}
use Rattle.ebs_model.specs.declared.rules.RuleRefusal.{RuleRefusal}
use Rattle.ebs_model.specs.Calls.List.{block_list, change_list}
use Rattle.ebs_model.specs.Lists.{page_of, next_of}
use Rattle.ebs_model.specs.Views.{view_of, for_owner, lock_shown, lock_until, permission}
use Rattle.ebs_model.specs.Machine.{Machine, advance, moment_of, is_spent, rows_of, disk_of}
use Rattle.ebs_model.specs.Step.{call, settled, step}
use Rattle.ebs_laws.specs.IsolationLaws.{own_volume, own_policy, Both, Renaming, SameBlock, SameArray, SameView, OwnRowsAlone}
use Rattle.ebs_laws.proofs.Acts.{call-whole}
use Rattle.ebs_laws.proofs.Maps.{get-itself}
use Rattle.ebs_laws.proofs.Readers.{number_is, same_number}
use Rattle.ebs_laws.proofs.Whole as whole
use Rattle.ebs_laws.proofs.Whole.{own_of, the_snapshot, with_snapshot, without_snapshot, with_put, with_use, by_use, Origin, origin, of_snapshot, volume_origin, volume_row, creation, dropped, written, block_now, managed, without_policy, ran, says_ran}
use Rattle.ebs_laws.proofs.Matches.{Matched, matched, refused, both-after, both-same, both-passed}
use Rattle.ebs_laws.proofs.SameViews.{twin, Indexes, masked, Known, both-owned, both-read, both-binned, own-IsOwners, open-IsOwners, done-IsOwners, seen-IsReaders, ready-IsReaders, base-IsReaders}
use Rattle.ebs_laws.proofs.SameMoves.{edited, edited_disk, wider_disk, wider_snapshot, disk-alike, empty-SameArray, extended, extended-wider, extended-IsRenaming, put-SameArray}
use Rattle.ebs_laws.proofs.SameRuns.{due-same, ended-same, run-same-snaps, run-same-own}
use Rattle.ebs_laws.proofs.SameLater.{later-same}
use Rattle.ebs_laws.proofs.SameLists.{own_rows-same, listed-same, volume_count-same, policy_count-same, token_count-same, linear-same, page-same, changes-same}
use Rattle.ebs_model.specs.Calls.Disk.{block_or_zeros, snapped_row}

abbrev pub Done : Type 0
Done = Machine × Answer

-- equal answers, and machines that the account sees alike
pub record SameEnd (account : ℕ) (one two : Done) : Type 0 where
  pub answer : two.1 ≡ one.1
  pub clock : two.0.clock ≡ one.0.clock
  pub secret : two.0.secret ≡ one.0.secret
  pub stamps : Renaming
  pub same : SameView account stamps one.0 two.0

record SameOrigin (r : Renaming) (a b : Origin) : Type 0 where
  fields : b ≡ record a { array = b.array }
  array : SameArray r a.array b.array

owns_itself : (account number : ℕ) → owns account (record { account = account; number = number }) ≡ true
owns_itself account number = number_is account account refl

-- what an account has after it is written
now_has : (f : fin.FinMap nat_cmp Own) (account : ℕ) (own : Own) → unwrap_or (fin.get (fin.insert f account own) account) no_own ≡ own
now_has f account own = ap (λ o. unwrap_or o no_own) (get-itself nat_cmp_total nat_cmp-IsAntisymmetric f account own)

book_now : (f : fin.FinMap nat_cmp Book) (account : ℕ) (b : Book) → unwrap_or (fin.get (fin.insert f account b) account) (no_rules 0) ≡ b
book_now f account b = ap (λ o. unwrap_or o (no_rules 0)) (get-itself nat_cmp_total nat_cmp-IsAntisymmetric f account b)

found_same : (r : Renaming) (o p : Option WholeBlock) (refusal : Refusal) → Both (SameBlock r) o p → Matched (SameBlock r) (some_or o refusal) (some_or p refusal)
found_same r None None refusal b = refused
found_same r None (Some y) refusal b = absurd b
found_same r (Some x) None refusal b = absurd b
found_same r (Some x) (Some y) refusal b = matched b

-- a row as it is shown to the account
module _ (account now : ℕ) (key : SnapKey) (row : SnapRow) (lock : LockState) (shared : List ℕ) (public : Bool) (put : Indexes) (mine : owns account key ≡ true → (lock ≡ row.lock) × (shared ≡ row.shared) × (public ≡ row.public) × (put ≡ row.put)) where
  hide : {A : Type 0} → owns account key ≡ false → (u v : Option A) → for_owner account key u ≡ for_owner account key v
  hide e u v = ap (λ b. cond b u None) e ∙ sym (ap (λ b. cond b v None) e)

  shown-same : view_of account now key (masked row lock shared public put) ≡ view_of account now key row
  shown-same = by (owns account key) refl
    where
      by : (b : Bool) → owns account key ≡ b → view_of account now key (masked row lock shared public put) ≡ view_of account now key row
      by true e = let known = mine e in λ i. view_of account now key (masked row (known.0 i) (known.1 i) (known.2 i) (known.3 i))
      by false e = λ i. record (view_of account now key row) {
        lock = hide e (lock_shown lock now) (lock_shown row.lock now) i;
        lock_until = hide e (lock_until lock) (lock_until row.lock) i;
        permission = hide e (Some (permission (masked row lock shared public put))) (Some (permission row)) i;
      }

-- a start over what the account has: its counters, its rows and how many client tokens it has used
abbrev started_by : Machine → Own → SnapKey → SnapRow → WholeArray → Machine
started_by m own key row array = record m {
  changes = m.changes + 1;
  snaps = fin.insert m.snaps key (record { row = row; array = array });
  own = fin.insert m.own key.account (record own { next_snap = key.number + 1 });
}

abbrev fresh_by : Machine → ℕ → Own → List SnapRow → ℕ → ℕ → Option SnapKey → Option (List ℕ) → List Tag → Option (List ℕ) → ℕ → Result Done Refusal
fresh_by m account own rows tokens size parent description tags token timeout = do
  let key : SnapKey = record { account = account; number = own.next_snap }
  from ← origin m account key parent
  refuse_if (nat_lt size from.size) BadSize
  refuse_if (nat_le most_open (count_by (λ (row : SnapRow). is_pending (status_at row m.clock.second)) rows)) OpenUploads
  refuse_if (nat_le most_kept (length rows)) (Quota Snapshots most_kept)
  refuse_if (has_token token && nat_le most_tokens tokens) (Quota ClientTokens most_tokens)
  refuse_if (nat_le most_ids key.number) (Quota Ids most_ids)
  refuse_if (is_spent m) (Exhausted Changes)
  Ok (
    with_use m (started_by m own key (started_row m.clock key size parent from.line description tags timeout) from.array) key (StartSnapshot size parent description tags token timeout) token,
    Started description account parent key m.clock tags size,
  )

-- a creation over what the account has: its counters, and how many volumes and client tokens
abbrev created_by : Machine → Own → VolKey → VolRow → WholeArray → Option (List ℕ) → Machine
created_by m own key row array token = record m {
  changes = m.changes + 1;
  own = fin.insert m.own key.account (record own { next_vol = key.number + 1 });
  tokens = with_token m.tokens m.clock key.account key.number (creation row token) token;
  vols = fin.insert m.vols key row;
  disks = fin.insert m.disks key array;
}

abbrev create_by : Machine → ℕ → Own → ℕ → ℕ → Option SnapKey → Option ℕ → List Tag → Option (List ℕ) → Result Done Refusal
create_by m account own volumes tokens from size tags token = do
  let key : VolKey = record { account = account; number = own.next_vol }
  begun ← volume_origin m account key from
  refuse_if (nat_lt (unwrap_or size begun.size) begun.size) BadSize
  refuse_if (nat_le most_volumes volumes) (Quota Volumes most_volumes)
  refuse_if (has_token token && nat_le most_tokens tokens) (Quota ClientTokens most_tokens)
  refuse_if (nat_le most_ids key.number) (Quota Ids most_ids)
  refuse_if (is_spent m) (Exhausted Changes)
  Ok (created_by m own key (volume_row key (unwrap_or size begun.size) begun.line from tags) begun.array token, VolumeShown true (unwrap_or size begun.size) from tags key)

-- a policy more, over the account's counters
abbrev policy_by : Machine → ℕ → Own → List Tag → ℕ → ℕ → Retain → List Tag → Machine
policy_by m account own targets hours at retain add =
    let key : PolicyKey = own_policy account own.next_policy in
    managed m m.snaps (fin.insert m.own account (record own { next_policy = own.next_policy + 1 })) (fin.insert m.policies key (new_policy m.clock key targets hours at retain add))

module _ (account : ℕ) (r : Renaming) (m : Machine) (n0 : Machine) (h : SameView account r m (twin m n0)) where
  abbrev n : Machine
  n = twin m n0

  abbrev O : Done → Done → Type 0
  O = SameEnd account

  abbrev now : ℕ
  now = m.clock.second

  -- moves
  unchanged : (answer : Answer) → Matched O (Ok (m, answer)) (Ok (n, answer))
  unchanged answer = matched (record { answer = refl; clock = refl; secret = refl; stamps = r; same = h })

  answered : (one two : Answer) → two ≡ one → Matched O (Ok (m, one)) (Ok (n, two))
  answered one two e = matched (record { answer = e; clock = refl; secret = refl; stamps = r; same = h })

  wrote : (key : SnapKey) (row : SnapRow) (a b : WholeArray) (answer : Answer) → owns account key ≡ true → SameArray r a b → Matched O (Ok (with_snapshot m key (record { row = row; array = a }), answer)) (Ok (with_snapshot n key (record { row = row; array = b }), answer))
  wrote key row a b answer own same = matched (record {
    answer = refl;
    clock = refl;
    secret = refl;
    stamps = r;
    same = record {
      renaming = h.renaming;
      snaps = edited account now r r (λ s t e. e) m.snaps n0.snaps (with_snapshot m key (record { row = row; array = a })).snaps (with_snapshot n key (record { row = row; array = b })).snaps key own (Some (record { row = row; array = a })) (Some (record { row = row; array = b }))
          (record { row = refl; array = same }) (fin.get-insert snaps_total m.snaps key _) (fin.get-insert snaps_total n0.snaps key _) h.snaps;
      own = h.own;
      tokens = h.tokens;
      vols = h.vols;
      disks = h.disks;
      book = h.book;
      policies = h.policies;
    };
  })

  took : (key : SnapKey) (answer : Answer) → owns account key ≡ true → Matched O (Ok (without_snapshot m key, answer)) (Ok (without_snapshot n key, answer))
  took key answer own = matched (record {
    answer = refl;
    clock = refl;
    secret = refl;
    stamps = r;
    same = record {
      renaming = h.renaming;
      snaps = edited account now r r (λ s t e. e) m.snaps n0.snaps (fin.remove m.snaps key) (fin.remove n0.snaps key) key own None None tt (fin.get-remove snaps_total m.snaps key) (fin.get-remove snaps_total n0.snaps key) h.snaps;
      own = h.own;
      tokens = h.tokens;
      vols = h.vols;
      disks = h.disks;
      book = h.book;
      policies = h.policies;
    };
  })

  -- a row of the account's own stays for the same days
  days-same : (key : SnapKey) (row : SnapRow) → owns account key ≡ true → days_in_bin (rows_of n) key row ≡ days_in_bin (rows_of m) key row
  days-same key row own =
      ap (λ (b : Book). cond row.completed (retention b row.tags) None)
      (ap (book_of (rows_of n)) (sym (same_number account key.account own)) ∙ h.book ∙ ap (book_of (rows_of m)) (same_number account key.account own))

  deleted_so : (key : SnapKey) (x : Snapshot) (b : WholeArray) (answer : Answer) → owns account key ≡ true → SameArray r x.array b
      → Matched O (Ok (whole.deleted m key x (days_in_bin (rows_of m) key x.row), answer)) (Ok (whole.deleted n key (record { row = x.row; array = b }) (days_in_bin (rows_of n) key x.row), answer))
  deleted_so key x b answer own same =
      subst (λ o. Matched O (Ok (whole.deleted m key x (days_in_bin (rows_of m) key x.row), answer)) (Ok (whole.deleted n key (record { row = x.row; array = b }) o, answer))) (sym (days-same key x.row own))
      (by (days_in_bin (rows_of m) key x.row))
    where
      by : (o : Option ℕ) → Matched O (Ok (whole.deleted m key x o, answer)) (Ok (whole.deleted n key (record { row = x.row; array = b }) o, answer))
      by None = took key answer own
      by (Some days) = wrote key (whole.binned_row m x.row days) x.array b answer own same

  -- the account's rules are changed alike
  ruled_so : (change : RuleChange) (answer : Answer) → Matched O (Ok (whole.ruled m account change, answer)) (Ok (whole.ruled n account change, answer))
  ruled_so change answer = matched (record {
    answer = refl;
    clock = refl;
    secret = refl;
    stamps = r;
    same = record {
      renaming = h.renaming;
      snaps = h.snaps;
      own = h.own;
      tokens = h.tokens;
      vols = h.vols;
      disks = h.disks;
      book = book_now n0.books account _ ∙ ap (λ b. committed b change) h.book ∙ sym (book_now m.books account _);
      policies = h.policies;
    };
  })

  put : (key : SnapKey) (x : Snapshot) (b : WholeArray) (index : ℕ) (bytes : List ℕ) (answer : Answer) → owns account key ≡ true → SameArray r x.array b → Matched O (Ok (with_put m key x index bytes, answer)) (Ok (with_put n key (record { row = x.row; array = b }) index bytes, answer))
  put key x b index bytes answer own same =
      let wide = extended r m.stamps n0.stamps in
      matched (record {
        answer = refl;
        clock = refl;
        secret = refl;
        stamps = wide;
        same = record {
          renaming = extended-IsRenaming r m.stamps n0.stamps h.renaming;
          snaps = edited account now r wide (extended-wider r m.stamps n0.stamps) m.snaps n0.snaps (with_put m key x index bytes).snaps (with_put n key (record { row = x.row; array = b }) index bytes).snaps key own _ _
              (record { row = refl; array = put-SameArray r x.array b index m.stamps n0.stamps bytes same }) (fin.get-insert snaps_total m.snaps key _) (fin.get-insert snaps_total n0.snaps key _) h.snaps;
          own = h.own;
          tokens = h.tokens;
          vols = h.vols;
          disks = λ q. wider_disk r wide (extended-wider r m.stamps n0.stamps) _ _ (h.disks q);
          book = h.book;
          policies = h.policies;
        };
      })

  -- the same token is kept on both sides
  tokens_kept : (token : Option (List ℕ)) (owner number : ℕ) (request : Request) (q : List ℕ)
      → fin.get (with_token n0.tokens m.clock owner number request token) (record { account = account; text = q }) ≡ fin.get (with_token m.tokens m.clock owner number request token) (record { account = account; text = q })
  tokens_kept None owner number request q = h.tokens q
  tokens_kept (Some text) owner number request q =
      let at : TokenKey = record { account = owner; text = text } in
      let new : TokenRow = record { at = m.clock; first = request; number = number } in
      let asked : TokenKey = record { account = account; text = q } in
      fin.get-insert tokens_total n0.tokens at new asked ∙ ap (cond (eq_by_cmp token_cmp asked at) (Some new)) (h.tokens q) ∙ sym (fin.get-insert tokens_total m.tokens at new asked)

  began : (own : Own) (number : ℕ) (row : SnapRow) (a b : WholeArray) (request : Request) (token : Option (List ℕ)) (answer : Answer) → SameArray r a b
      → let key : SnapKey = record { account = account; number = number } in
      Matched O (Ok (with_use m (started_by m own key row a) key request token, answer)) (Ok (with_use n (started_by n own key row b) key request token, answer))
  began own number row a b request token answer same =
      let key : SnapKey = record { account = account; number = number } in
      let given : Own = record own { next_snap = number + 1 } in
      matched (record {
        answer = refl;
        clock = refl;
        secret = refl;
        stamps = r;
        same = record {
          renaming = h.renaming;
          snaps = edited account now r r (λ s t e. e) m.snaps n0.snaps (started_by m own key row a).snaps (started_by n own key row b).snaps key (owns_itself account number) (Some (record { row = row; array = a })) (Some (record { row = row; array = b }))
              (record { row = refl; array = same }) (fin.get-insert snaps_total m.snaps key _) (fin.get-insert snaps_total n0.snaps key _) h.snaps;
          own = now_has n0.own account given ∙ sym (now_has m.own account given);
          tokens = tokens_kept token key.account key.number request;
          vols = h.vols;
          disks = h.disks;
          book = h.book;
          policies = h.policies;
        };
      })

  created_so : (own : Own) (number : ℕ) (row : VolRow) (a b : WholeArray) (token : Option (List ℕ)) (answer : Answer) → SameArray r a b
      → let key : VolKey = record { account = account; number = number } in Matched O (Ok (created_by m own key row a token, answer)) (Ok (created_by n own key row b token, answer))
  created_so own number row a b token answer same =
      let key : VolKey = record { account = account; number = number } in
      let given : Own = record own { next_vol = number + 1 } in
      matched (record {
        answer = refl;
        clock = refl;
        secret = refl;
        stamps = r;
        same = record {
          renaming = h.renaming;
          snaps = h.snaps;
          own = now_has n0.own account given ∙ sym (now_has m.own account given);
          tokens = tokens_kept token account number (creation row token);
          vols = λ q. fin.get-insert vols_total n0.vols key row (own_volume account q) ∙ ap (cond (eq_by_cmp vol_cmp (own_volume account q) key) (Some row)) (h.vols q) ∙ sym (fin.get-insert vols_total m.vols key row (own_volume account q));
          disks = λ q. edited_disk r r (λ s t e. e) m.disks n0.disks (fin.insert m.disks key a) (fin.insert n0.disks key b) key (own_volume account q) (Some a) (Some b) same (fin.get-insert vols_total m.disks key a (own_volume account q)) (fin.get-insert vols_total n0.disks key b (own_volume account q)) (h.disks q);
          book = h.book;
          policies = h.policies;
        };
      })

  dropped_so : (key : VolKey) (answer : Answer) → Matched O (Ok (dropped m key, answer)) (Ok (dropped n key, answer))
  dropped_so key answer = matched (record {
    answer = refl;
    clock = refl;
    secret = refl;
    stamps = r;
    same = record {
      renaming = h.renaming;
      snaps = h.snaps;
      own = h.own;
      tokens = h.tokens;
      vols = λ q. fin.get-remove vols_total n0.vols key (own_volume account q) ∙ ap (cond (eq_by_cmp vol_cmp (own_volume account q) key) None) (h.vols q) ∙ sym (fin.get-remove vols_total m.vols key (own_volume account q));
      disks = λ q. edited_disk r r (λ s t e. e) m.disks n0.disks (fin.remove m.disks key) (fin.remove n0.disks key) key (own_volume account q) None None tt (fin.get-remove vols_total m.disks key (own_volume account q)) (fin.get-remove vols_total n0.disks key (own_volume account q)) (h.disks q);
      book = h.book;
      policies = h.policies;
    };
  })

  -- a policy of the account's own is put or taken out alike
  policies_put : (number : ℕ) (new : Policy) (q : ℕ)
      → let key : PolicyKey = own_policy account number in fin.get (fin.insert n0.policies key new) (own_policy account q) ≡ fin.get (fin.insert m.policies key new) (own_policy account q)
  policies_put number new q =
      let key : PolicyKey = own_policy account number in
      fin.get-insert policies_total n0.policies key new (own_policy account q) ∙ ap (cond (eq_by_cmp policy_cmp (own_policy account q) key) (Some new)) (h.policies q) ∙ sym (fin.get-insert policies_total m.policies key new (own_policy account q))

  policy_made : (own : Own) (targets : List Tag) (hours at : ℕ) (retain : Retain) (add : List Tag) (answer : Answer) → Matched O (Ok (policy_by m account own targets hours at retain add, answer)) (Ok (policy_by n account own targets hours at retain add, answer))
  policy_made own targets hours at retain add answer =
      let given : Own = record own { next_policy = own.next_policy + 1 } in
      matched (record {
        answer = refl;
        clock = refl;
        secret = refl;
        stamps = r;
        same = record {
          renaming = h.renaming;
          snaps = h.snaps;
          own = now_has n0.own account given ∙ sym (now_has m.own account given);
          tokens = h.tokens;
          vols = h.vols;
          disks = h.disks;
          book = h.book;
          policies = policies_put own.next_policy (new_policy m.clock (own_policy account own.next_policy) targets hours at retain add);
        };
      })

  policy_dropped : (key : PolicyKey) (answer : Answer) → Matched O (Ok (without_policy m key, answer)) (Ok (without_policy n key, answer))
  policy_dropped key answer = matched (record {
    answer = refl;
    clock = refl;
    secret = refl;
    stamps = r;
    same = record {
      renaming = h.renaming;
      snaps = h.snaps;
      own = h.own;
      tokens = h.tokens;
      vols = h.vols;
      disks = h.disks;
      book = h.book;
      policies = λ q. fin.get-remove policies_total n0.policies key (own_policy account q) ∙ ap (cond (eq_by_cmp policy_cmp (own_policy account q) key) None) (h.policies q) ∙ sym (fin.get-remove policies_total m.policies key (own_policy account q));
    };
  })

  -- and it runs alike
  ran_so : (key : PolicyKey) (p : Policy) → account ≡ key.account → Matched O (Ok (ran m key p, says_ran m account key p)) (Ok (ran n key p, says_ran n account key p))
  ran_so key p mine =
      let first : next_key (rows_of n0) account ≡ next_key (rows_of m) account = λ i. record { account = account; number = (h.own i).next_snap } in
      let one : own_policy account key.number ≡ key = λ i. record { account = mine i; number = key.number } in
      matched (record {
        answer = λ i. PolicyRan (map Snap (ended-same account r m n0 h key p mine i)) (map Snap (new_keys (first i) (due-same account r m n0 h key p mine i)));
        clock = refl;
        secret = refl;
        stamps = r;
        same = record {
          renaming = h.renaming;
          snaps = run-same-snaps account r m n0 h key p mine;
          own = run-same-own account r m n0 h key p mine;
          tokens = h.tokens;
          vols = h.vols;
          disks = h.disks;
          book = h.book;
          policies = λ q. subst (λ (k : PolicyKey). fin.get (fin.insert n0.policies k (record p { last = m.clock })) (own_policy account q) ≡ fin.get (fin.insert m.policies k (record p { last = m.clock })) (own_policy account q)) one (policies_put key.number (record p { last = m.clock }) q);
        };
      })

  -- the blocks of the account's volume
  disk-same : (key : VolKey) → (account == key.account) ≡ true → SameArray r (disk_of m key) (disk_of n0 key)
  disk-same key e =
      let mine : own_volume account key.number ≡ key = λ i. record { account = same_number account key.account e i; number = key.number } in
      subst (λ k. SameArray r (disk_of m k) (disk_of n0 k)) mine (disk-alike r _ _ (h.disks key.number))

  put_disk : (key : VolKey) (index : ℕ) (bytes : List ℕ) (answer : Answer) → (account == key.account) ≡ true → Matched O (Ok (written m key index bytes, answer)) (Ok (written n key index bytes, answer))
  put_disk key index bytes answer mine =
      let wide = extended r m.stamps n0.stamps in
      let wider = extended-wider r m.stamps n0.stamps in
      let a = fin.insert (disk_of m key) index (block_now m bytes) in
      let b = fin.insert (disk_of n0 key) index (block_now n0 bytes) in
      matched (record {
        answer = refl;
        clock = refl;
        secret = refl;
        stamps = wide;
        same = record {
          renaming = extended-IsRenaming r m.stamps n0.stamps h.renaming;
          snaps = λ q. wider_snapshot r wide wider _ _ (h.snaps q);
          own = h.own;
          tokens = h.tokens;
          vols = h.vols;
          disks = λ q. edited_disk r wide wider m.disks n0.disks (fin.insert m.disks key a) (fin.insert n0.disks key b) key (own_volume account q) (Some a) (Some b) (put-SameArray r (disk_of m key) (disk_of n0 key) index m.stamps n0.stamps bytes (disk-same key mine)) (fin.get-insert vols_total m.disks key a (own_volume account q)) (fin.get-insert vols_total n0.disks key b (own_volume account q)) (h.disks q);
          book = h.book;
          policies = h.policies;
        };
      })

  fetched : (o p : Option WholeBlock) → Both (SameBlock r) o p → block_or_zeros sha256 p ≡ block_or_zeros sha256 o
  fetched None None b = refl
  fetched None (Some y) b = absurd b
  fetched (Some x) None b = absurd b
  fetched (Some x) (Some y) b = ap (λ bytes. BlockRead (sha256 bytes) bytes) b.bytes

  read : (v w : WholeBlock) → SameBlock r v w → Matched O (Ok (m, BlockRead (sha256 v.bytes) v.bytes)) (Ok (n, BlockRead (sha256 w.bytes) w.bytes))
  read v w e = answered _ _ (ap (λ bytes. BlockRead (sha256 bytes) bytes) e.bytes)

  paged : (key : SnapKey) (size most index : ℕ) (a b : WholeArray) → SameArray r a b → Matched O (Ok (m, block_list m.secret key now size a most index)) (Ok (n, block_list m.secret key now size b most index))
  paged key size most index a b same = answered _ _ (page-same r m.secret key now size most index a b same)

  compared : (first second : SnapKey) (size most index : ℕ) (a b c d : WholeArray) → SameArray r a b → SameArray r c d → Matched O (Ok (m, change_list m.secret first second now size a c most index)) (Ok (n, change_list m.secret first second now size b d most index))
  compared first second size most index a b c d one two = answered _ _ (changes-same r m.stamps n0.stamps h.renaming m.secret first second now size most index a b c d one two)

  described : (key : SnapKey) (x : Snapshot) (b : WholeArray) (lock : LockState) (shared : List ℕ) (public : Bool) (put : Indexes) → Known account r m n0 h key x.row lock shared public put
      → Matched O (Ok (m, SnapshotShown false (view_of account now key x.row))) (Ok (n, SnapshotShown false (view_of account now key (masked x.row lock shared public put))))
  described key x b lock shared public put known = answered _ _ (ap (SnapshotShown false) (shown-same account now key x.row lock shared public put known))

  -- look-ups
  abbrev OwnNext : SnapKey → (Snapshot → Result Done Refusal) → (Snapshot → Result Done Refusal) → Type 0
  OwnNext key f g = (x : Snapshot) (b : WholeArray) → owns account key ≡ true → SameArray r x.array b → Matched O (f x) (g (record { row = x.row; array = b }))

  abbrev ReadNext : SnapKey → (Snapshot → Result Done Refusal) → (Snapshot → Result Done Refusal) → Type 0
  ReadNext key f g = (x : Snapshot) (b : WholeArray) (lock : LockState) (shared : List ℕ) (public : Bool) (put : Indexes) → Known account r m n0 h key x.row lock shared public put → SameArray r x.array b → Matched O (f x) (g (record { row = masked x.row lock shared public put; array = b }))

  both_open : (key : SnapKey) (f g : Snapshot → Result Done Refusal) → OwnNext key f g → Matched O (the_snapshot m key (open_upload account key now) >>= f) (the_snapshot n key (open_upload account key now) >>= g)
  both_open key f g next = both-owned account r m n0 h O key _ (open-IsOwners account key now) f g next

  both_own : (key : SnapKey) (f g : Snapshot → Result Done Refusal) → OwnNext key f g → Matched O (the_snapshot m key (own account key now) >>= f) (the_snapshot n key (own account key now) >>= g)
  both_own key f g next = both-owned account r m n0 h O key _ (own-IsOwners account key now) f g next

  both_done : (key : SnapKey) (f g : Snapshot → Result Done Refusal) → OwnNext key f g → Matched O (the_snapshot m key (done account key now) >>= f) (the_snapshot n key (done account key now) >>= g)
  both_done key f g next = both-owned account r m n0 h O key _ (done-IsOwners account key now) f g next

  both_binned : (key : SnapKey) (f g : Snapshot → Result Done Refusal) → OwnNext key f g → Matched O (the_snapshot m key (binned account key now) >>= f) (the_snapshot n key (binned account key now) >>= g)
  both_binned key f g next = both-binned account r m n0 h O key f g next

  both_seen : (key : SnapKey) (f g : Snapshot → Result Done Refusal) → ReadNext key f g → Matched O (the_snapshot m key (seen account key now) >>= f) (the_snapshot n key (seen account key now) >>= g)
  both_seen key f g next = both-read account r m n0 h O key _ (seen-IsReaders account key now) f g next

  both_ready : (key : SnapKey) (f g : Snapshot → Result Done Refusal) → ReadNext key f g → Matched O (the_snapshot m key (ready account key now) >>= f) (the_snapshot n key (ready account key now) >>= g)
  both_ready key f g next = both-read account r m n0 h O key _ (ready-IsReaders account key now) f g next

  -- the block at an index
  both_found : (f g : WholeArray) (index : ℕ) (k l : WholeBlock → Result Answer Refusal) (u v : Answer → Result Done Refusal) → SameArray r f g → ((x y : WholeBlock) → SameBlock r x y → Matched O (k x >>= u) (l y >>= v))
      → Matched O ((some_or (fin.get f index) BadIndex >>= k) >>= u) ((some_or (fin.get g index) BadIndex >>= l) >>= v)
  both_found f g index k l u v same next = at (fin.get f index) (fin.get g index) (same.at index)
    where
      at : (o p : Option WholeBlock) → Both (SameBlock r) o p → Matched O ((some_or o BadIndex >>= k) >>= u) ((some_or p BadIndex >>= l) >>= v)
      at None None b = refused
      at None (Some y) b = absurd b
      at (Some x) None b = absurd b
      at (Some x) (Some y) b = next x y b

  both_linear : (a b : WholeArray) (indexes : List ℕ) (checksum : Option (List ℕ)) → SameArray r a b → refuse_checksum checksum (linear sha256 b indexes) ≡ refuse_checksum checksum (linear sha256 a indexes)
  both_linear a b indexes checksum same = ap (refuse_checksum checksum) (linear-same r a b indexes same)

  -- what a new upload begins with
  both_origin : (key : SnapKey) (parent : Option SnapKey) (f g : Origin → Result Done Refusal) → ((line : Line) (size : ℕ) (a b : WholeArray) → SameArray r a b → Matched O (f (record { line = line; size = size; array = a })) (g (record { line = line; size = size; array = b })))
      → Matched O (origin m account key parent >>= f) (origin n account key parent >>= g)
  both_origin key None f g next = next _ 0 fin.empty fin.empty (empty-SameArray r)
  both_origin key (Some parent) f g next = both-after (SameOrigin r) O _ _ f g parents (λ a b same. subst (λ o. Matched O (f a) (g o)) (sym same.fields) (next a.line a.size a.array b.array same.array))
    where
      parents : Matched (SameOrigin r) (origin m account key (Some parent)) (origin n account key (Some parent))
      parents = both-read account r m n0 h (SameOrigin r) parent _ (base-IsReaders account parent now) (λ s. Ok (of_snapshot s)) (λ s. Ok (of_snapshot s)) (λ x b l a p s known same. matched (record { fields = refl; array = same }))

  both_volume_origin : (key : VolKey) (from : Option SnapKey) (f g : Origin → Result Done Refusal) → ((line : Line) (size : ℕ) (a b : WholeArray) → SameArray r a b → Matched O (f (record { line = line; size = size; array = a })) (g (record { line = line; size = size; array = b })))
      → Matched O (volume_origin m account key from >>= f) (volume_origin n account key from >>= g)
  both_volume_origin key None f g next = next _ 0 fin.empty fin.empty (empty-SameArray r)
  both_volume_origin key (Some from) f g next = both_origin (record { account = account; number = 0 }) (Some from) f g next

  -- the account's volume, or none
  both_volume : (key : VolKey) (f g : VolRow → Result Done Refusal) → ((row : VolRow) → (account == key.account) ≡ true → Matched O (f row) (g row)) → Matched O (the_volume (rows_of m) account key >>= f) (the_volume (rows_of n) account key >>= g)
  both_volume key f g next = by (account == key.account) refl
    where
      at : (account == key.account) ≡ true → (o p : Option VolRow) → p ≡ o → Matched O (some_or o (NotFound volume) >>= f) (some_or p (NotFound volume) >>= g)
      at mine None p e = subst (λ p. Matched O (some_or None (NotFound volume) >>= f) (some_or p (NotFound volume) >>= g)) (sym e) refused
      at mine (Some row) p e = subst (λ p. Matched O (some_or (Some row) (NotFound volume) >>= f) (some_or p (NotFound volume) >>= g)) (sym e) (next row mine)

      by : (b : Bool) → (account == key.account) ≡ b → Matched O ((refuse_if (not b) (NotFound volume) >> some_or (fin.get m.vols key) (NotFound volume)) >>= f) ((refuse_if (not b) (NotFound volume) >> some_or (fin.get n0.vols key) (NotFound volume)) >>= g)
      by true e =
          let mine : own_volume account key.number ≡ key = λ i. record { account = same_number account key.account e i; number = key.number } in
          at e (fin.get m.vols key) (fin.get n0.vols key) (ap (fin.get n0.vols) (sym mine) ∙ h.vols key.number ∙ ap (fin.get m.vols) mine)
      by false e = refused

  -- the account's policy, or none
  both_policy : (key : PolicyKey) (f g : Policy → Result Done Refusal) → ((p : Policy) → account ≡ key.account → Matched O (f p) (g p)) → Matched O (the_policy (rows_of m) account key >>= f) (the_policy (rows_of n) account key >>= g)
  both_policy key f g next = by (account == key.account) refl
    where
      at : (account == key.account) ≡ true → (o p : Option Policy) → p ≡ o → Matched O (some_or o (NotFound policy_kind) >>= f) (some_or p (NotFound policy_kind) >>= g)
      at mine None p e = subst (λ p. Matched O (some_or None (NotFound policy_kind) >>= f) (some_or p (NotFound policy_kind) >>= g)) (sym e) refused
      at mine (Some row) p e = subst (λ p. Matched O (some_or (Some row) (NotFound policy_kind) >>= f) (some_or p (NotFound policy_kind) >>= g)) (sym e) (next row (same_number account key.account mine))

      by : (b : Bool) → (account == key.account) ≡ b → Matched O ((refuse_if (not b) (NotFound policy_kind) >> some_or (fin.get m.policies key) (NotFound policy_kind)) >>= f) ((refuse_if (not b) (NotFound policy_kind) >> some_or (fin.get n0.policies key) (NotFound policy_kind)) >>= g)
      by true e =
          let mine : own_policy account key.number ≡ key = λ i. record { account = same_number account key.account e i; number = key.number } in
          at e (fin.get m.policies key) (fin.get n0.policies key) (ap (fin.get n0.policies) (sym mine) ∙ h.policies key.number ∙ ap (fin.get m.policies) mine)
      by false e = refused

  uses-same : (token : Option (List ℕ)) → first_use (rows_of n) account token ≡ first_use (rows_of m) account token
  uses-same None = refl
  uses-same (Some text) = h.tokens text

  both_use : (o : Option TokenRow) (again again_too : TokenRow → Result Done Refusal) (fresh fresh_too : Result Done Refusal) → ((row : TokenRow) → Matched O (again row) (again_too row)) → Matched O fresh fresh_too → Matched O (by_use o again fresh) (by_use o again_too fresh_too)
  both_use None again again_too fresh fresh_too f g = g
  both_use (Some row) again again_too fresh fresh_too f g = f row

  module _ (few : is_spent m ≡ false) (other_few : is_spent n ≡ false) where
    both_few : refuse_if (is_spent n) (Exhausted Changes) ≡ refuse_if (is_spent m) (Exhausted Changes)
    both_few = ap (λ b. refuse_if b (Exhausted Changes)) (other_few ∙ sym few)

    put-same : (key : SnapKey) (index : ℕ) (digest bytes : List ℕ) → Matched O (whole.put_block sha256 m account key index digest bytes) (whole.put_block sha256 n account key index digest bytes)
    put-same key index digest bytes = search (both_open, both-passed, both_few, put) depth 20

    complete-same : (key : SnapKey) (count : ℕ) (checksum : Option (List ℕ)) → Matched O (whole.complete sha256 m account key count checksum) (whole.complete sha256 n account key count checksum)
    complete-same key count checksum = search (both_open, both-passed, both_few, both_linear, wrote) depth 20

    list-same : (key : SnapKey) (page : Option (List ℕ)) (most start : ℕ) → Matched O (whole.list_blocks m account key page most start) (whole.list_blocks n account key page most start)
    list-same key page most start = search (both_ready, both-same, paged) depth 20

    changed-same : (first second : SnapKey) (page : Option (List ℕ)) (most start : ℕ) → Matched O (whole.list_changed m account first second page most start) (whole.list_changed n account first second page most start)
    changed-same first second page most start = search (both_ready, both-same, both-passed, compared) depth 20

    get-same : (key : SnapKey) (index : ℕ) (token : List ℕ) → Matched O (whole.get_block sha256 m account key index token) (whole.get_block sha256 n account key index token)
    get-same key index token = search (both_ready, both-passed, both_found, read) depth 20

    describe-same : (key : SnapKey) → Matched O (whole.describe m account key) (whole.describe n account key)
    describe-same key = search (both_seen, described) depth 20

    permit-same : (key : SnapKey) (add : List ℕ) (add_all : Bool) (remove : List ℕ) (remove_all : Bool) → Matched O (whole.permit m account key add add_all remove remove_all) (whole.permit n account key add add_all remove remove_all)
    permit-same key add add_all remove remove_all = search (both_done, both-passed, both_few, wrote) depth 20

    delete-same : (key : SnapKey) → Matched O (whole.delete m account key) (whole.delete n account key)
    delete-same key = search (both_own, both-passed, both_few, deleted_so) depth 20

    recover-same : (key : SnapKey) → Matched O (whole.recover m account key) (whole.recover n account key)
    recover-same key = search (both_binned, both-passed, both_few, wrote) depth 20

    -- what was decided on the account's rules, and a rule that was found
    rules_by-same : (command : RuleCommand) (x : Result RuleChange RuleRefusal) → Matched O
        (changed_rule x >>= λ change. refuse_if (is_spent m) (Exhausted Changes) >> Ok (whole.ruled m account change, rule_answer (is_creation command) now change))
        (changed_rule x >>= λ change. refuse_if (is_spent n) (Exhausted Changes) >> Ok (whole.ruled n account change, rule_answer (is_creation command) now change))
    rules_by-same command (Ok change) = both-passed O _ _ _ _ both_few (ruled_so change _)
    rules_by-same command (Err s) = refused

    rules-same : (command : RuleCommand) → Matched O (whole.change_rules m account command) (whole.change_rules n account command)
    rules-same command =
        let decided : Book → Result RuleChange RuleRefusal = λ b. rules.decide account b command now in
        subst (λ b. Matched O (whole.change_rules m account command) (changed_rule (decided b) >>= λ change. refuse_if (is_spent n) (Exhausted Changes) >> Ok (whole.ruled n account change, rule_answer (is_creation command) now change)))
        (sym h.book) (rules_by-same command (decided (book_of (rows_of m) account)))

    rule-same : (key : RuleKey) → Matched O (whole.get_rule m account key) (whole.get_rule n account key)
    rule-same key =
        subst (λ b. Matched O (whole.get_rule m account key) (some_or (find account b key) (NotFound rule_kind) >>= λ rule. Ok (n, RuleShown false (rule_view now rule)))) (sym h.book)
        (by (find account (book_of (rows_of m) account) key))
      where
        by : (o : Option Rule) → Matched O (some_or o (NotFound rule_kind) >>= λ rule. Ok (m, RuleShown false (rule_view now rule))) (some_or o (NotFound rule_kind) >>= λ rule. Ok (n, RuleShown false (rule_view now rule)))
        by None = refused
        by (Some rule) = unchanged _

    lock-same : (key : SnapKey) (command : LockCommand) → Matched O (whole.lock m account key command) (whole.lock n account key command)
    lock-same key command = search (both_done, both-same, both-passed, both_few, wrote) depth 20

    archive-same : (key : SnapKey) → Matched O (whole.archive m account key) (whole.archive n account key)
    archive-same key = search (both_done, both-same, both-passed, both_few, wrote) depth 20

    restore-same : (key : SnapKey) (days : Option ℕ) → Matched O (whole.restore m account key days) (whole.restore n account key days)
    restore-same key days = search (both_done, both-same, both-passed, both_few, wrote) depth 20

    repeat-same : (size : ℕ) (parent : Option SnapKey) (description : Option (List ℕ)) (tags : List Tag) (timeout : ℕ) (row : TokenRow) → Matched O (whole.repeat m account size parent description tags timeout row) (whole.repeat n account size parent description tags timeout row)
    repeat-same size parent description tags timeout row = search (both-passed, unchanged) depth 20

    module _ (size : ℕ) (parent : Option SnapKey) (description : Option (List ℕ)) (tags : List Tag) (token : Option (List ℕ)) (timeout : ℕ) where
      fresh_by-same : (own : Own) (rows : List SnapRow) (tokens : ℕ) → Matched O (fresh_by m account own rows tokens size parent description tags token timeout) (fresh_by n account own rows tokens size parent description tags token timeout)
      fresh_by-same own rows tokens = search (both-passed, both_origin, both_few, began) depth 20

      abbrev fresh : Result Done Refusal
      fresh = whole.fresh m account size parent description tags token timeout

      fresh-same : Matched O fresh (whole.fresh n account size parent description tags token timeout)
      fresh-same =
          subst (λ (own : Own). Matched O fresh (fresh_by n account own (own_rows (rows_of n) account) (token_count (rows_of n) account) size parent description tags token timeout)) (sym h.own)
          (subst (λ (rows : List SnapRow). Matched O fresh (fresh_by n account (own_of m account) rows (token_count (rows_of n) account) size parent description tags token timeout)) (sym (own_rows-same account r m n0 h))
          (subst (λ (tokens : ℕ). Matched O fresh (fresh_by n account (own_of m account) (own_rows (rows_of m) account) tokens size parent description tags token timeout)) (sym (token_count-same account r m n0 h))
          (fresh_by-same (own_of m account) (own_rows (rows_of m) account) (token_count (rows_of m) account))))

      start-same : Matched O (whole.start m account size parent description tags token timeout) (whole.start n account size parent description tags token timeout)
      start-same = both-passed O (refuse_if (not (is_size size)) BadSize) (refuse_if (not (is_size size)) BadSize) _ _ refl
          (subst (λ o. Matched O (by_use (first_use (rows_of m) account token) (whole.repeat m account size parent description tags timeout) fresh) (by_use o (whole.repeat n account size parent description tags timeout) (whole.fresh n account size parent description tags token timeout))) (sym (uses-same token))
          (both_use (first_use (rows_of m) account token) _ _ _ _ (repeat-same size parent description tags timeout) fresh-same))

    create-again-same : (from : Option SnapKey) (size : Option ℕ) (tags : List Tag) (row : TokenRow) → Matched O (whole.create_again m account from size tags row) (whole.create_again n account from size tags row)
    create-again-same from size tags row = search (both-passed, unchanged) depth 20

    module _ (from : Option SnapKey) (size : Option ℕ) (tags : List Tag) (token : Option (List ℕ)) where
      create_by-same : (own : Own) (volumes tokens : ℕ) → Matched O (create_by m account own volumes tokens from size tags token) (create_by n account own volumes tokens from size tags token)
      create_by-same own volumes tokens = search (both-passed, both_volume_origin, both_few, created_so) depth 20

      abbrev new : Result Done Refusal
      new = whole.create_fresh m account from size tags token

      new-same : Matched O new (whole.create_fresh n account from size tags token)
      new-same =
          subst (λ (own : Own). Matched O new (create_by n account own (volume_count (rows_of n) account) (token_count (rows_of n) account) from size tags token)) (sym h.own)
          (subst (λ (volumes : ℕ). Matched O new (create_by n account (own_of m account) volumes (token_count (rows_of n) account) from size tags token)) (sym (volume_count-same account r m n0 h))
          (subst (λ (tokens : ℕ). Matched O new (create_by n account (own_of m account) (volume_count (rows_of m) account) tokens from size tags token)) (sym (token_count-same account r m n0 h))
          (create_by-same (own_of m account) (volume_count (rows_of m) account) (token_count (rows_of m) account))))

      create-same : Matched O (whole.create m account from size tags token) (whole.create n account from size tags token)
      create-same = both-passed O (refuse_if (not (is_size_given size)) BadSize) (refuse_if (not (is_size_given size)) BadSize) _ _ refl
          (subst (λ o. Matched O (by_use (first_use (rows_of m) account token) (whole.create_again m account from size tags) new) (by_use o (whole.create_again n account from size tags) (whole.create_fresh n account from size tags token))) (sym (uses-same token))
          (both_use (first_use (rows_of m) account token) _ _ _ _ (create-again-same from size tags) new-same))

    volume-same : (key : VolKey) → Matched O (whole.describe_volume m account key) (whole.describe_volume n account key)
    volume-same key = both_volume key _ _ (λ row mine. unchanged _)

    drop-same : (key : VolKey) → Matched O (whole.drop m account key) (whole.drop n account key)
    drop-same key = both_volume key _ _ (λ row mine. both-passed O _ _ _ _ both_few (dropped_so key done_so))

    -- a snapshot of a volume, over what the account has: its counters and its rows
    module _ (v : VolKey) (text : Option (List ℕ)) (tags : List Tag) where
      abbrev snap_by : Machine → Own → List SnapRow → VolRow → Result Done Refusal
      snap_by m own rows row = do
        let key : SnapKey = record { account = account; number = own.next_snap }
        refuse_if (nat_le most_kept (length rows)) (Quota Snapshots most_kept)
        refuse_if (nat_le most_ids own.next_snap) (Quota Ids most_ids)
        refuse_if (is_spent m) (Exhausted Changes)
        Ok (started_by m own key (snapped_row m.clock key v row text tags) (disk_of m v), SnapshotShown true (view_of account m.clock.second key (snapped_row m.clock key v row text tags)))

      snap_by-same : (own : Own) (rows : List SnapRow) (row : VolRow) → (account == v.account) ≡ true → Matched O (snap_by m own rows row) (snap_by n own rows row)
      snap_by-same own rows row mine = both-passed O _ _ _ _ refl (both-passed O _ _ _ _ refl (both-passed O _ _ _ _ both_few (began own own.next_snap _ _ _ (CreateSnapshot v text tags) None _ (disk-same v mine))))

      snap-same : Matched O (whole.snap m account v text tags) (whole.snap n account v text tags)
      snap-same = both_volume v _ _ (λ row mine.
          subst (λ (own : Own). Matched O (snap_by m (own_of m account) (own_rows (rows_of m) account) row) (snap_by n own (own_rows (rows_of n) account) row)) (sym h.own)
          (subst (λ (rows : List SnapRow). Matched O (snap_by m (own_of m account) (own_rows (rows_of m) account) row) (snap_by n (own_of m account) rows row)) (sym (own_rows-same account r m n0 h))
          (snap_by-same (own_of m account) (own_rows (rows_of m) account) row mine)))

    -- a policy over what the account has: its counters, and how many policies
    module _ (targets : List Tag) (hours at : ℕ) (retain : Retain) (add : List Tag) where
      abbrev create_policy_by : Machine → Own → ℕ → Result Done Refusal
      create_policy_by m own policies = do
        refuse_if (nat_le most_policies policies) (Quota Policies most_policies)
        refuse_if (nat_le most_ids own.next_policy) (Quota Ids most_ids)
        refuse_if (is_spent m) (Exhausted Changes)
        Ok (policy_by m account own targets hours at retain add, PolicyShown true (own_policy account own.next_policy) m.clock)

      create_policy_by-same : (own : Own) (policies : ℕ) → Matched O (create_policy_by m own policies) (create_policy_by n own policies)
      create_policy_by-same own policies = both-passed O _ _ _ _ refl (both-passed O _ _ _ _ refl (both-passed O _ _ _ _ both_few (policy_made own targets hours at retain add _)))

      create_policy-same : Matched O (whole.create_policy m account targets hours at retain add) (whole.create_policy n account targets hours at retain add)
      create_policy-same =
          subst (λ (own : Own). Matched O (create_policy_by m (own_of m account) (policy_count (rows_of m) account)) (create_policy_by n own (policy_count (rows_of n) account))) (sym h.own)
          (subst (λ (policies : ℕ). Matched O (create_policy_by m (own_of m account) (policy_count (rows_of m) account)) (create_policy_by n (own_of m account) policies)) (sym (policy_count-same account r m n0 h))
          (create_policy_by-same (own_of m account) (policy_count (rows_of m) account)))

    get_policy-same : (key : PolicyKey) → Matched O (whole.get_policy m account key) (whole.get_policy n account key)
    get_policy-same key = both_policy key _ _ (λ p mine. unchanged _)

    drop_policy-same : (key : PolicyKey) → Matched O (whole.drop_policy m account key) (whole.drop_policy n account key)
    drop_policy-same key = both_policy key _ _ (λ p mine. both-passed O _ _ _ _ both_few (policy_dropped key done_so))

    run-same : (key : PolicyKey) → Matched O (whole.run m account key) (whole.run n account key)
    run-same key = both_policy key _ _ (λ p mine.
        let due = due-same account r m n0 h key p mine in
        both-passed O _ _ _ _ (λ i. refuse_if (nat_lt most_kept (length (own_rows-same account r m n0 h i) + length (due i))) (Quota Snapshots most_kept))
        (both-passed O _ _ _ _ (λ i. refuse_if (nat_lt most_ids ((h.own i).next_snap + length (due i))) (Quota Ids most_ids))
        (both-passed O _ _ _ _ both_few (ran_so key p mine))))

    write-same : (key : VolKey) (index : ℕ) (digest bytes : List ℕ) → Matched O (whole.write sha256 m account key index digest bytes) (whole.write sha256 n account key index digest bytes)
    write-same key index digest bytes = both-passed O _ _ _ _ refl (both_volume key _ _ (λ row mine. both-passed O _ _ _ _ refl (both-passed O _ _ _ _ both_few (put_disk key index bytes _ mine))))

    fetch-same : (key : VolKey) (index : ℕ) → Matched O (whole.fetch sha256 m account key index) (whole.fetch sha256 n account key index)
    fetch-same key index = both_volume key _ _ (λ row mine. both-passed O _ _ _ _ refl (answered _ _ (fetched _ _ ((disk-same key mine).at index))))

    bin-same : (from most : ℕ) → Matched O (whole.act sha256 m account (ListBin from most)) (whole.act sha256 n account (ListBin from most))
    bin-same from most = answered _ _ (ap (λ found. SnapshotList (next_of (λ e. e.0.number) most found) (map (λ e. view_of account now e.0 e.1) (page_of most found))) (listed-same account r m n0 h true now from))

    list_rules-same : Matched O (whole.act sha256 m account ListRules) (whole.act sha256 n account ListRules)
    list_rules-same = answered _ _ (ap (λ b. RuleList (map (rule_view now) (rules_in b))) h.book)

    listed-all-same : (from most : ℕ) → Matched O (whole.act sha256 m account (DescribeSnapshots from most)) (whole.act sha256 n account (DescribeSnapshots from most))
    listed-all-same from most = answered _ _ (ap (λ found. SnapshotList (next_of (λ e. e.0.number) most found) (map (λ e. view_of account now e.0 e.1) (page_of most found))) (listed-same account r m n0 h false now from))

    act-same : (request : Request) → Matched O (whole.act sha256 m account request) (whole.act sha256 n account request)
    act-same (StartSnapshot size parent description tags token timeout) = start-same size parent description tags token timeout
    act-same (PutSnapshotBlock key index digest bytes) = put-same key index digest bytes
    act-same (CompleteSnapshot key count checksum) = complete-same key count checksum
    act-same (ListSnapshotBlocks key page most start) = list-same key page most start
    act-same (ListChangedBlocks first second page most start) = changed-same first second page most start
    act-same (GetSnapshotBlock key index token) = get-same key index token
    act-same (DescribeSnapshot key) = describe-same key
    act-same (DescribeSnapshots from most) = listed-all-same from most
    act-same (DeleteSnapshot key) = delete-same key
    act-same (ModifyPermission key add add_all remove remove_all) = permit-same key add add_all remove remove_all
    act-same (LockSnapshot key mode term cool_hours) = lock-same key (Lock mode term cool_hours)
    act-same (UnlockSnapshot key) = lock-same key Unlock
    act-same (ArchiveSnapshot key) = archive-same key
    act-same (RestoreTier key days) = restore-same key days
    act-same (CreateVolume from size tags token) = create-same from size tags token
    act-same (CreateSnapshot key description tags) = snap-same key description tags
    act-same (WriteVolumeBlock key index digest bytes) = write-same key index digest bytes
    act-same (ReadVolumeBlock key index) = fetch-same key index
    act-same (DescribeVolume key) = volume-same key
    act-same (DeleteVolume key) = drop-same key
    act-same (CreateRule days tags description delay) = rules-same (command.Create days tags description delay)
    act-same (GetRule key) = rule-same key
    act-same (UpdateRule key days tags description) = rules-same (command.Update key days tags description)
    act-same (DeleteRule key) = rules-same (command.Delete key)
    act-same ListRules = list_rules-same
    act-same (LockRule key delay) = rules-same (command.Lock key delay)
    act-same (UnlockRule key) = rules-same (command.Unlock key)
    act-same (ListBin from most) = bin-same from most
    act-same (RestoreFromBin key) = recover-same key
    act-same (CreatePolicy targets hours at retain add) = create_policy-same targets hours at retain add
    act-same (GetPolicy key) = get_policy-same key
    act-same (DeletePolicy key) = drop_policy-same key
    act-same (RunPolicy key) = run-same key

    call-same : (request : Request) → Matched O (whole.call m account request) (whole.call n account request)
    call-same request = both-passed O (refuse_bad (bad_member request)) (refuse_bad (bad_member request)) _ _ refl (act-same request)

    settled-same : (x y : Result Done Refusal) → Matched O x y → SameEnd account (settled m x) (settled n y)
    settled-same (Ok d) (Ok e) (matched o) = o
    settled-same (Ok d) (Err s) x = elim x [ ]
    settled-same (Err s) (Ok e) x = elim x [ ]
    settled-same (Err s) (Err t) refused = record { answer = refl; clock = refl; secret = refl; stamps = r; same = h }

not_spent : (changes : ℕ) → changes < 2 ^ 40 → nat_le most_changes changes ≡ false
not_spent changes h = grind (arith, nat_tests)

later : (a b : ℕ) → a ≤ max a b
later a b = omega arith

pub own-alone : OwnRowsAlone
own-alone account m n reading request h =
    let now = moment_of m reading in
    let is : n ≡ twin m n = λ i. record n { clock = h.clock i; secret = h.secret i } in
    let at = advance m now in
    let there = advance (twin m n) now in
    let seen_now = subst (λ k. SameView account h.stamps m k) is h.same in
    let agree : SameView account h.stamps at there = later-same account h.stamps m n seen_now now (later m.clock.second _) in
    let few = not_spent m.changes h.few in
    let other_few = not_spent n.changes h.other_few in
    let whole_end = settled-same account h.stamps at there agree few other_few (whole.call at account request) (whole.call there account request) (call-same account h.stamps at there agree few other_few request) in
    let o : SameEnd account (step m account reading request) (step (twin m n) account reading request) =
    subst (λ x. SameEnd account x (settled there (call there account request))) (sym (ap (settled at) (call-whole at account request)))
    (subst (λ y. SameEnd account (settled at (whole.call at account request)) y) (sym (ap (settled there) (call-whole there account request))) whole_end) in
    let p : SameEnd account (step m account reading request) (step n account reading request) = subst (λ k. SameEnd account (step m account reading request) (step k account reading request)) (sym is) o in
    record { answer = p.answer; after = λ f g. record { clock = p.clock; secret = p.secret; few = f; other_few = g; stamps = p.stamps; same = p.same } }
