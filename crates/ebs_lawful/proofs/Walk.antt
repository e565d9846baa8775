-- What each call does to rows, where it is accepted as a change.
use Rattle.std.proofs.Common.{◌≡◌, inl, inr, ℕ, ◌+◌, ◌<◌, ◌≤◌, arith, Bool, true, false, ◌&&◌, nat_le, nat_lt, List, [], ◌∷◌, length, Option, Some, None, Result, Ok, Err, unwrap_or, refl, sym, ap, subst, ◌∙◌}
use Rattle.std.specs.List.{AllByRecursion}
use Rattle.std.specs.List.Sorted.{IsStrictlySortedBy}
use Rattle.std.specs.declared.cmp.Ordering.TheVariants.{Less}
use Rattle.std.specs.declared.cmp.Ordering.{Ordering}
use Rattle.std.specs.Ordering.{nat_cmp, MatchOrdering}
use Rattle.std.specs.Cmp.{ranks}
use Rattle.std.proofs.lemmas.Bool.Decides.{nat_tests}
use Rattle.std.specs.FinMap.{get, insert, remove}
use Rattle.ebs_tables.proofs.TreeMaps.{entries-sorted}
use Rattle.ebs_model.specs.declared.keys.SnapKey.{SnapKey}
use Rattle.ebs_model.specs.declared.keys.VolKey.{VolKey}
use Rattle.ebs_model.specs.declared.keys.PolicyKey.{PolicyKey}
use Rattle.ebs_model.specs.declared.keys.Moment.{Moment}
use Rattle.ebs_model.specs.declared.keys.AnyKey.TheVariants.{Snap, Vol}
use Rattle.ebs_model.specs.declared.keys.AnyKey.TheVariants as any
use Rattle.ebs_model.specs.declared.policy.Policy.{Policy}
use Rattle.ebs_model.specs.declared.policy.Retain.{Retain}
use Rattle.ebs_model.specs.declared.tags.Tag.{Tag}
use Rattle.ebs_model.specs.declared.rules.RuleCommand.{RuleCommand}
use Rattle.ebs_model.specs.declared.rules.RuleCommand.TheVariants as rule
use Rattle.ebs_model.specs.declared.rules.RuleChange.{RuleChange}
use Rattle.ebs_model.specs.declared.rules.RuleRefusal.{RuleRefusal}
use Rattle.ebs_model.specs.declared.rows.SnapRow.{SnapRow}
use Rattle.ebs_model.specs.declared.rows.VolRow.{VolRow}
use Rattle.ebs_model.specs.declared.rows.LockState.{LockState}
use Rattle.ebs_model.specs.declared.rows.Tier.{Tier}
use Rattle.ebs_model.specs.declared.phases.TierPhase.{TierPhase}
use Rattle.ebs_model.specs.declared.lock.LockMode.{LockMode}
use Rattle.ebs_model.specs.declared.lock.Term.{Term}
use Rattle.ebs_model.specs.declared.lock.LockRefusal.{LockRefusal}
use Rattle.ebs_model.specs.declared.lock.LockCommand.{LockCommand}
use Rattle.ebs_model.specs.declared.lock.LockCommand.TheVariants.{Lock, Unlock}
use Rattle.ebs_model.specs.declared.request.Request.{Request}
use Rattle.ebs_model.specs.declared.request.Request.TheVariants.{StartSnapshot, PutSnapshotBlock, CompleteSnapshot, ListSnapshotBlocks, ListChangedBlocks, GetSnapshotBlock, DescribeSnapshot, DescribeSnapshots, DeleteSnapshot, ModifyPermission, LockSnapshot, UnlockSnapshot, ArchiveSnapshot, RestoreTier, CreateVolume, CreateSnapshot, WriteVolumeBlock, ReadVolumeBlock, DescribeVolume, DeleteVolume, CreateRule, GetRule, UpdateRule, DeleteRule, ListRules, LockRule, UnlockRule, ListBin, RestoreFromBin, CreatePolicy, GetPolicy, DeletePolicy, RunPolicy}
use Rattle.ebs_model.specs.declared.change.ReadRow.{ReadRow}
use Rattle.ebs_model.specs.declared.change.Decision.{Decision}
use Rattle.ebs_model.specs.declared.change.Decision.TheVariants as decision
use Rattle.ebs_model.specs.declared.answer.Answer.{Answer}
use Rattle.ebs_model.specs.declared.answer.Answer.TheVariants.{Started, BlockWritten, Completed, SnapshotShown, Done, TierShown, VolumeShown, PolicyShown}
use Rattle.ebs_model.specs.declared.answer.Refusal.{Refusal}
use Rattle.ebs_model.specs.declared.answer.Refusal.TheVariants.{BadIndex, OpenUploads, Quota}
use Rattle.ebs_model.specs.declared.answer.QuotaName.TheVariants.{SharedAccounts, Snapshots, ClientTokens, Ids, Volumes, Policies}
use Rattle.ebs_model.specs.Quotas.{last_second, most_open, most_shared, most_kept, most_tokens, most_volumes, most_policies, most_ids, blocks_of}
use Rattle.ebs_model.specs.Limits.{unless, is_size, is_size_given, is_sized, is_term, is_cool_off, is_restore, bad_member, bad_start, bad_create, bad_lock, rises, is_below}
use Rattle.ebs_model.specs.Refuse.{◌>>=◌, refuse_if, or_left}
use Rattle.ebs_model.specs.Access.{open_upload, own, done, base}
use Rattle.ebs_model.specs.Views.{lock_shown, lock_until, tier_shown, restore_until, view_of}
use Rattle.ebs_model.specs.Tiers.{archive, restore}
use Rattle.ebs_model.specs.Locks.{lock_change}
use Rattle.ebs_model.specs.RuleCommands as commands
use Rattle.ebs_model.specs.Decisions.{makes, alters, shares, ends}
use Rattle.ebs_model.specs.Decide.{decide, commit}
use Rattle.ebs_model.specs.Rows.{Rows, the_row, the_volume, the_policy, with_row, changed_row, book_of, open_count, kept_count, token_count, volume_count, policy_count, first_use}
use Rattle.ebs_model.specs.Calls.Start.{next_key, has_token, least_size}
use Rattle.ebs_model.specs.Calls.Put.{put_row}
use Rattle.ebs_model.specs.Calls.Complete.{completed_row}
use Rattle.ebs_model.specs.Calls.Delete.{days_in_bin, deleted, deleted_by, commit_delete}
use Rattle.ebs_model.specs.Calls.Disk.{snapped_row, with_snapped}
use Rattle.ebs_model.specs.Calls.Bin.{binned, recovered}
use Rattle.ebs_model.specs.Calls.Lock.{changed_lock, lock_answer, decide_lock, locked_row}
use Rattle.ebs_model.specs.Calls.Archive.{changed_tier, archived_row, restored_row}
use Rattle.ebs_model.specs.Calls.Permission.{permitted, permitted_row, is_public}
use Rattle.ebs_model.specs.Calls.Rule.{changed_rule, made_rules, rule_answer, is_creation, decide_rule}
use Rattle.ebs_model.specs.Calls.Volume.{next_volume}
use Rattle.ebs_model.specs.Calls.Policy.{next_policy}
use Rattle.ebs_model.specs.Calls.Run.{due_targets, run_decided, run_by}
use Rattle.ebs_model.specs.Step.{refuse_size}
use Rattle.ebs_lawful.specs.Calls.{is_within}
use Rattle.ebs_lawful.proofs.Ends.{IsCommand, change-ends, restore-ends, archive-ends}
use Rattle.ebs_lawful.proofs.Commands.{IsRuleCommand}
use Rattle.ebs_lawful.proofs.Members.{none_is, both, three, four}
use Rattle.ebs_lawful.proofs.Done.{IfDone, achieved, after, passed, by_use, found, found_volume, found_policy, open-pending, done-completed, below, within, below_if, passes}
use Rattle.ebs_lawful.proofs.Effects.{IsAltered, got_block, was_completed, was_binned, was_shared, was_locked, was_moved, was_recovered, IsMadeSize, IsEffect, left_all, altered, taken_out, started, snapped, created, dropped, commanded, planned, unplanned, ran}

-- ---- members within their limits

lock-members : (mode : LockMode) (term : Term) (cool_hours : Option ℕ) → bad_lock mode term cool_hours ≡ None → IsCommand (Lock mode term cool_hours)
lock-members mode term cool_hours e = let one = both (is_term term) _ _ e in (one.0, (both (is_cool_off mode cool_hours) _ _ one.1).0)

-- a creation with the size that is made
sized-members : (origin : Option SnapKey) (size : Option ℕ) (wanted : ℕ) (tags : List Tag) (token : Option (List ℕ)) → bad_create origin size tags token ≡ None → bad_create origin (Some wanted) tags token ≡ None
sized-members None size wanted tags token e = (both (is_sized None size) _ _ e).1
sized-members (Some origin) size wanted tags token e = e

-- ---- accounts that ascend

all-below : (account : ℕ) (accounts : List ℕ) → AllByRecursion (λ y. nat_cmp account y ≡ Less) accounts → is_below account accounts ≡ true
all-below account [] h = refl
all-below account (next ∷ accounts) h = less account next (subst (λ (o : Ordering). MatchOrdering o (account < next) (account ≡ next) (next < account)) h.0 (ranks account next))
  where
    less : (a b : ℕ) → a < b → nat_lt a b ≡ true
    less a b h = grind (arith, nat_tests)

ascending : (accounts : List ℕ) → IsStrictlySortedBy nat_cmp accounts → rises accounts ≡ true
unfolding IsStrictlySortedBy
ascending [] h = refl
ascending (account ∷ accounts) h = rw (all-below account accounts h.0, ascending accounts h.1) refl

-- ---- walks

abbrev pub EffectOf : Rows → Moment → ℕ → Decision → Type 0
EffectOf rows at account (decision.Change c answer) = IsEffect rows at account (commit rows c)
EffectOf rows at account (decision.Kept answer) = Unit {0}
EffectOf rows at account (decision.View answer) = Unit {0}
EffectOf rows at account (decision.Read row) = Unit {0}

module _ (rows : Rows) (at : Moment) (account : ℕ) (early : at.second ≤ last_second) where
  -- the row with this key is altered
  by_row : (key : SnapKey) (row : SnapRow) (f : SnapRow → SnapRow) → get rows.snaps key ≡ Some row → IsAltered rows at key row (f row) → IsEffect rows at account (with_row rows key f)
  by_row key row f there how = altered key row (f row) there how (ap (λ (o : Option SnapRow). record rows { snaps = changed_row rows.snaps key f o }) there)

  abbrev Ends : Request → Type 0
  Ends request = IfDone (EffectOf rows at account) (decide rows at account request)

  shown : (answer : Answer) → IfDone (EffectOf rows at account) (Ok (decision.View answer))
  shown answer = achieved {x = decision.View answer} tt

  again : (answer : Answer) → IfDone (EffectOf rows at account) (Ok (decision.Kept answer))
  again answer = achieved {x = decision.Kept answer} tt

  reads : (row : ReadRow) → IfDone (EffectOf rows at account) (Ok (decision.Read row))
  reads row = achieved {x = decision.Read row} tt

  starts : (size : ℕ) (parent : Option SnapKey) (description : Option (List ℕ)) (tags : List Tag) (token : Option (List ℕ)) (timeout : ℕ)
      → is_size size ≡ true → bad_start description tags token timeout ≡ None → Ends (StartSnapshot size parent description tags token timeout)
  starts size parent description tags token timeout fits members =
      let key : SnapKey = next_key rows account in
      let d : Decision = decision.Change (makes account at (StartSnapshot size parent description tags token timeout) (Snap key ∷ [])) (Started description account parent key at tags size) in
      let ended : first_use rows account token ≡ None → refuse_if (nat_le most_open (open_count rows account at.second)) OpenUploads ≡ Ok tt
      → refuse_if (nat_le most_kept (kept_count rows account)) (Quota Snapshots most_kept) ≡ Ok tt
      → refuse_if (has_token token && nat_le most_tokens (token_count rows account)) (Quota ClientTokens most_tokens) ≡ Ok tt
      → refuse_if (nat_le most_ids key.number) (Quota Ids most_ids) ≡ Ok tt → IfDone (EffectOf rows at account) (Ok d) =
      λ unused a b c e. achieved {x = d} (started size parent description tags token timeout (record {
        sized = fits;
        members = members;
        uploads = below _ _ _ a;
        kept = below _ _ _ b;
        tokens = below_if _ _ _ _ c;
        ids = below _ _ _ e;
        unused = unused;
      }) refl) in
      search (by_use, passed, after, ended, again) depth 20

  made-size : (origin : Option SnapKey) (size : Option ℕ) (least : ℕ) → is_size_given size ≡ true → is_sized origin size ≡ true → least_size rows account at.second origin ≡ Ok least → IsMadeSize rows (unwrap_or size least)
  made-size origin (Some size) least fits sized e = inl fits
  made-size None None least fits sized e = absurd (cc)
  made-size (Some parent) None least fits sized e = of (the_row rows parent (base account parent at.second)) refl e
    where
      size_is : (row : SnapRow) → ◌≡◌ {A = Result ℕ Refusal} (Ok row.size) (Ok least) → least ≡ row.size
      size_is row e = cc

      of : (r : Result SnapRow Refusal) → the_row rows parent (base account parent at.second) ≡ r → (r >>= λ row. Ok row.size) ≡ Ok least → IsMadeSize rows least
      of (Ok row) is e = inr (parent, row, (found rows parent (base account parent at.second) row is).0, size_is row e)
      of (Err r) is e = absurd (cc)

  creates : (origin : Option SnapKey) (size : Option ℕ) (tags : List Tag) (token : Option (List ℕ))
      → is_size_given size ≡ true → bad_create origin size tags token ≡ None → Ends (CreateVolume origin size tags token)
  creates origin size tags token fits members =
      let key : VolKey = next_volume rows account in
      let d : ℕ → Decision = λ wanted. decision.Change (makes account at (CreateVolume origin (Some wanted) tags token) (Vol key ∷ [])) (VolumeShown true wanted origin tags key) in
      let ended : first_use rows account token ≡ None → (least : ℕ) → least_size rows account at.second origin ≡ Ok least
      → refuse_if (nat_le most_volumes (volume_count rows account)) (Quota Volumes most_volumes) ≡ Ok tt
      → refuse_if (has_token token && nat_le most_tokens (token_count rows account)) (Quota ClientTokens most_tokens) ≡ Ok tt
      → refuse_if (nat_le most_ids key.number) (Quota Ids most_ids) ≡ Ok tt → IfDone (EffectOf rows at account) (Ok (d (unwrap_or size least))) =
      λ unused least is b c e. achieved {x = d (unwrap_or size least)} (created origin (unwrap_or size least) tags token (record {
        sized = made-size origin size least fits (both (is_sized origin size) _ _ members).0 is;
        members = sized-members origin size (unwrap_or size least) tags token members;
        volumes = below _ _ _ b;
        tokens = below_if _ _ _ _ c;
        ids = below _ _ _ e;
        unused = unused;
      }) refl) in
      search (by_use, passed, after, ended, again) depth 20

  puts : (key : SnapKey) (index : ℕ) (digest bytes : List ℕ) → Ends (PutSnapshotBlock key index digest bytes)
  puts key index digest bytes =
      let d : Decision = decision.Change (alters account at (PutSnapshotBlock key index digest [])) (BlockWritten digest) in
      let ended : (row : SnapRow) → the_row rows key (open_upload account key at.second) ≡ Ok row → refuse_if (nat_le (blocks_of row.size) index) BadIndex ≡ Ok tt → IfDone (EffectOf rows at account) (Ok d) =
      λ row is room.
      let (there, passed) = found rows key (open_upload account key at.second) row is in
      achieved {x = d} (by_row key row (put_row at index) there (got_block index (open-pending account key at.second row passed) (below _ _ _ room) refl)) in
      search (passed, after, ended) depth 20

  completes : (key : SnapKey) (count : ℕ) (checksum : Option (List ℕ)) → Ends (CompleteSnapshot key count checksum)
  completes key count checksum =
      let d : Decision = decision.Change (alters account at (CompleteSnapshot key count checksum)) Completed in
      let ended : (row : SnapRow) → the_row rows key (open_upload account key at.second) ≡ Ok row → IfDone (EffectOf rows at account) (Ok d) =
      λ row is. achieved {x = d} (by_row key row completed_row (found rows key (open_upload account key at.second) row is).0 (was_completed refl)) in
      search (passed, after, ended) depth 20

  deletes : (key : SnapKey) → Ends (DeleteSnapshot key)
  deletes key =
      let d : Decision = decision.Change (ends account at (DeleteSnapshot key) key) Done in
      let ended : (row : SnapRow) → the_row rows key (own account key at.second) ≡ Ok row → IfDone (EffectOf rows at account) (Ok d) =
      λ row is. achieved {x = d} (of row (found rows key (own account key at.second) row is).0) in
      search (passed, after, ended) depth 20
    where
      by : (row : SnapRow) → get rows.snaps key ≡ Some row → (o : Option ℕ) → days_in_bin rows key row ≡ o → commit_delete rows at key ≡ deleted_by rows at key row o → IsEffect rows at account (commit_delete rows at key)
      by row there None e is = taken_out key is
      by row there (Some days) e is = altered key row _ there (was_binned days e refl) is

      of : (row : SnapRow) → get rows.snaps key ≡ Some row → IsEffect rows at account (commit_delete rows at key)
      of row there = by row there (days_in_bin rows key row) refl (ap (deleted rows at key) there)

  shares-row : (key : SnapKey) (add : List ℕ) (add_all : Bool) (remove : List ℕ) (remove_all : Bool) → Ends (ModifyPermission key add add_all remove remove_all)
  shares-row key add add_all remove remove_all =
      let d : SnapRow → Decision = λ row. decision.Change (shares account at (ModifyPermission key add add_all remove remove_all) (permitted row.shared add remove)) Done in
      let ended : (row : SnapRow) → the_row rows key (done account key at.second) ≡ Ok row
      → refuse_if (nat_lt most_shared (length (permitted row.shared add remove))) (Quota SharedAccounts most_shared) ≡ Ok tt → IfDone (EffectOf rows at account) (Ok (d row)) =
      λ row is room. achieved {x = d row} (by_row key row (permitted_row add add_all remove remove_all) (found rows key (done account key at.second) row is).0
      (was_shared (permitted row.shared add remove) (is_public row.public add_all remove_all) (record { few = within _ _ _ room; ascend = ascending _ (entries-sorted nat_cmp _) }) refl)) in
      search (passed, after, ended) depth 20

  new_lock : (r : Result LockState LockRefusal) (new : LockState) → changed_lock r ≡ Ok new → r ≡ Ok new
  new_lock (Ok x) new e = let is : x ≡ new = cc in ap Ok is
  new_lock (Err r) new e = absurd (cc)

  locks : (request : Request) (key : SnapKey) (command : LockCommand) → IsCommand command → commit rows (alters account at request) ≡ with_row rows key (locked_row at command) → IfDone (EffectOf rows at account) (decide_lock rows at account request key command)
  locks request key command fits commits =
      let d : LockState → Decision = λ new. decision.Change (alters account at request) (lock_answer (lock_shown new at.second) (lock_until new)) in
      let ended : (row : SnapRow) → the_row rows key (done account key at.second) ≡ Ok row → (new : LockState) → changed_lock (lock_change row.lock command at.second) ≡ Ok new → IfDone (EffectOf rows at account) (Ok (d new)) =
      λ row is new changes.
      let taken : lock_change row.lock command at.second ≡ Ok new = new_lock _ new changes in
      achieved {x = d new} (subst (IsEffect rows at account) (sym commits) (by_row key row (locked_row at command) (found rows key (done account key at.second) row is).0
      (was_locked new (change-ends at.second early row.lock command new fits taken) (ap (λ (r : Result LockState LockRefusal). record row { lock = or_left row.lock r }) taken)))) in
      search (passed, after, ended) depth 20

  new_tier : (r : Result Tier TierPhase) (new : Tier) → changed_tier r ≡ Ok new → r ≡ Ok new
  new_tier (Ok x) new e = let is : x ≡ new = cc in ap Ok is
  new_tier (Err r) new e = absurd (cc)

  archives : (key : SnapKey) → Ends (ArchiveSnapshot key)
  archives key =
      let d : Decision = decision.Change (alters account at (ArchiveSnapshot key)) Done in
      let ended : (row : SnapRow) → the_row rows key (done account key at.second) ≡ Ok row → (new : Tier) → changed_tier (archive row.tier at.second) ≡ Ok new → IfDone (EffectOf rows at account) (Ok d) =
      λ row is new changes.
      let taken : archive row.tier at.second ≡ Ok new = new_tier _ new changes in
      let (there, passed) = found rows key (done account key at.second) row is in
      achieved {x = d} (by_row key row (archived_row at) there
      (was_moved new (done-completed account key at.second row passed) (archive-ends at.second early row.tier new taken) (ap (λ (r : Result Tier TierPhase). record row { tier = or_left row.tier r }) taken))) in
      search (passed, after, ended) depth 20

  restores : (key : SnapKey) (days : Option ℕ) → is_restore days ≡ true → Ends (RestoreTier key days)
  restores key days fits =
      let d : Tier → Decision = λ new. decision.Change (alters account at (RestoreTier key days)) (TierShown (restore_until new at.second) (tier_shown new at.second)) in
      let ended : (row : SnapRow) → the_row rows key (done account key at.second) ≡ Ok row → (new : Tier) → changed_tier (restore row.tier days at.second) ≡ Ok new → IfDone (EffectOf rows at account) (Ok (d new)) =
      λ row is new changes.
      let taken : restore row.tier days at.second ≡ Ok new = new_tier _ new changes in
      let (there, passed) = found rows key (done account key at.second) row is in
      achieved {x = d new} (by_row key row (restored_row at days) there
      (was_moved new (done-completed account key at.second row passed) (restore-ends at.second early row.tier days new fits taken) (ap (λ (r : Result Tier TierPhase). record row { tier = or_left row.tier r }) taken))) in
      search (passed, after, ended) depth 20

  recovers : (key : SnapKey) → Ends (RestoreFromBin key)
  recovers key =
      let d : SnapRow → Decision = λ row. decision.Change (alters account at (RestoreFromBin key)) (SnapshotShown false (view_of account at.second key (recovered row))) in
      let ended : (row : SnapRow) → the_row rows key (binned account key at.second) ≡ Ok row → IfDone (EffectOf rows at account) (Ok (d row)) =
      λ row is. achieved {x = d row} (by_row key row recovered (found rows key (binned account key at.second) row is).0 (was_recovered refl)) in
      search (passed, after, ended) depth 20

  snaps-volume : (volume : VolKey) (description : Option (List ℕ)) (tags : List Tag) → Rattle.ebs_model.specs.Limits.bad_snapshot description tags ≡ None → Ends (CreateSnapshot volume description tags)
  snaps-volume volume description tags members =
      let key : SnapKey = next_key rows account in
      let d : VolRow → Decision = λ row. decision.Change (makes account at (CreateSnapshot volume description tags) (Snap key ∷ [])) (SnapshotShown true (view_of account at.second key (snapped_row at key volume row description tags))) in
      let ended : (row : VolRow) → the_volume rows account volume ≡ Ok row → refuse_if (nat_le most_kept (kept_count rows account)) (Quota Snapshots most_kept) ≡ Ok tt
      → refuse_if (nat_le most_ids key.number) (Quota Ids most_ids) ≡ Ok tt → IfDone (EffectOf rows at account) (Ok (d row)) =
      λ row is a b.
      let (there, owner) = found_volume rows account volume row is in
      achieved {x = d row} (snapped volume row description tags (record { found = there; owner = owner; members = members; kept = below _ _ _ a; ids = below _ _ _ b }) (ap (with_snapped rows at key volume description tags) there)) in
      search (passed, after, ended) depth 20

  writes : (key : VolKey) (index : ℕ) (digest bytes : List ℕ) → Ends (WriteVolumeBlock key index digest bytes)
  writes key index digest bytes =
      let d : Decision = decision.Change (alters account at (WriteVolumeBlock key index digest [])) (BlockWritten digest) in
      let ended : IfDone (EffectOf rows at account) (Ok d) = achieved {x = d} (left_all refl) in
      search (passed, after, ended) depth 20

  drops : (key : VolKey) → Ends (DeleteVolume key)
  drops key =
      let d : Decision = decision.Change (alters account at (DeleteVolume key)) Done in
      let ended : IfDone (EffectOf rows at account) (Ok d) = achieved {x = d} (dropped key refl) in
      search (passed, after, ended) depth 20

  new_rules : (r : Result RuleChange RuleRefusal) (change : RuleChange) → changed_rule r ≡ Ok change → r ≡ Ok change
  new_rules (Ok x) change e = let is : x ≡ change = cc in ap Ok is
  new_rules (Err r) change e = absurd (cc)

  rules : (request : Request) (command : RuleCommand) → IsRuleCommand command
      → ((change : RuleChange) → commit rows (makes account at request (made_rules command change)) ≡ record rows { books = insert rows.books account (commands.committed_by (book_of rows account) (commands.decide account (book_of rows account) command at.second)) })
      → IfDone (EffectOf rows at account) (decide_rule rows at account request command)
  rules request command fits commits =
      let d : RuleChange → Decision = λ change. decision.Change (makes account at request (made_rules command change)) (rule_answer (is_creation command) at.second change) in
      let ended : (change : RuleChange) → changed_rule (commands.decide account (book_of rows account) command at.second) ≡ Ok change → IfDone (EffectOf rows at account) (Ok (d change)) =
      λ change changes.
      let taken : commands.decide account (book_of rows account) command at.second ≡ Ok change = new_rules _ change changes in
      achieved {x = d change} (commanded command change fits taken
      (commits change ∙ ap (λ (r : Result RuleChange RuleRefusal). record rows { books = insert rows.books account (commands.committed_by (book_of rows account) r) }) taken)) in
      search (after, ended) depth 20

  plans : (targets : List Tag) (hours time : ℕ) (retain : Retain) (add : List Tag) → Rattle.ebs_model.specs.Limits.bad_policy targets hours time retain add ≡ None → Ends (CreatePolicy targets hours time retain add)
  plans targets hours time retain add members =
      let key : PolicyKey = next_policy rows account in
      let d : Decision = decision.Change (makes account at (CreatePolicy targets hours time retain add) (any.Policy key ∷ [])) (PolicyShown true key at) in
      let ended : refuse_if (nat_le most_policies (policy_count rows account)) (Quota Policies most_policies) ≡ Ok tt → refuse_if (nat_le most_ids key.number) (Quota Ids most_ids) ≡ Ok tt → IfDone (EffectOf rows at account) (Ok d) =
      λ a b. achieved {x = d} (planned targets hours time retain add (record { members = members; policies = below _ _ _ a; ids = below _ _ _ b }) refl) in
      search (passed, after, ended) depth 20

  unplans : (key : PolicyKey) → Ends (DeletePolicy key)
  unplans key =
      let d : Decision = decision.Change (alters account at (DeletePolicy key)) Done in
      let ended : IfDone (EffectOf rows at account) (Ok d) = achieved {x = d} (unplanned key refl) in
      search (passed, after, ended) depth 20

  runs : (key : PolicyKey) → Ends (RunPolicy key)
  runs key =
      let more : Policy → ℕ = λ p. length (due_targets rows key p at.second) in
      let ended : (p : Policy) → the_policy rows account key ≡ Ok p
      → refuse_if (nat_lt most_kept (kept_count rows account + more p)) (Quota Snapshots most_kept) ≡ Ok tt
      → refuse_if (nat_lt most_ids ((next_key rows account).number + more p)) (Quota Ids most_ids) ≡ Ok tt
      → IfDone (EffectOf rows at account) (Ok (run_decided rows at account key p)) =
      λ p is a b.
      let (there, owner) = found_policy rows account key p is in
      achieved {x = run_decided rows at account key p} (ran key p (record { found = there; owner = owner; kept = within _ _ _ a; ids = within _ _ _ b }) (ap (run_by rows at key) there)) in
      search (passed, after, ended) depth 20

  -- each call, of which the members are within their limits and the size is one
  pub walked : (request : Request) → is_within request ≡ true → refuse_size request ≡ Ok tt → Ends request
  walked (StartSnapshot size parent description tags token timeout) good fits = starts size parent description tags token timeout (passes (is_size size) _ fits) (none_is _ good)
  walked (PutSnapshotBlock key index digest bytes) good fits = puts key index digest bytes
  walked (CompleteSnapshot key count checksum) good fits = completes key count checksum
  walked (ListSnapshotBlocks key page most start) good fits = search (after, reads) depth 20
  walked (ListChangedBlocks first second page most start) good fits = search (after, reads) depth 20
  walked (GetSnapshotBlock key index token) good fits = search (after, reads) depth 20
  walked (DescribeSnapshot key) good fits = search (after, shown) depth 20
  walked (DescribeSnapshots from most) good fits = shown _
  walked (DeleteSnapshot key) good fits = deletes key
  walked (ModifyPermission key add add_all remove remove_all) good fits = shares-row key add add_all remove remove_all
  walked (LockSnapshot key mode term cool_hours) good fits = locks (LockSnapshot key mode term cool_hours) key (Lock mode term cool_hours) (lock-members mode term cool_hours (none_is _ good)) refl
  walked (UnlockSnapshot key) good fits = locks (UnlockSnapshot key) key Unlock tt refl
  walked (ArchiveSnapshot key) good fits = archives key
  walked (RestoreTier key days) good fits = restores key days (both (is_restore days) _ _ (none_is _ good)).0
  walked (CreateVolume origin size tags token) good fits = creates origin size tags token (passes (is_size_given size) _ fits) (none_is _ good)
  walked (CreateSnapshot volume description tags) good fits = snaps-volume volume description tags (none_is _ good)
  walked (WriteVolumeBlock key index digest bytes) good fits = writes key index digest bytes
  walked (ReadVolumeBlock key index) good fits = search (passed, after, reads) depth 20
  walked (DescribeVolume key) good fits = search (passed, after, shown) depth 20
  walked (DeleteVolume key) good fits = drops key
  walked (CreateRule days tags description delay) good fits = rules (CreateRule days tags description delay) (rule.Create days tags description delay) (four _ _ _ _ _ _ _ _ (none_is _ good)) (λ change. refl)
  walked (GetRule key) good fits = search (after, shown) depth 20
  walked (UpdateRule key days tags description) good fits = rules (UpdateRule key days tags description) (rule.Update key days tags description) (three _ _ _ _ _ _ (none_is _ good)) (λ change. refl)
  walked (DeleteRule key) good fits = rules (DeleteRule key) (rule.Delete key) tt (λ change. refl)
  walked ListRules good fits = shown _
  walked (LockRule key delay) good fits = rules (LockRule key delay) (rule.Lock key delay) (both _ _ _ (none_is _ good)).0 (λ change. refl)
  walked (UnlockRule key) good fits = rules (UnlockRule key) (rule.Unlock key) tt (λ change. refl)
  walked (ListBin from most) good fits = shown _
  walked (RestoreFromBin key) good fits = recovers key
  walked (CreatePolicy targets hours time retain add) good fits = plans targets hours time retain add (none_is _ good)
  walked (GetPolicy key) good fits = search (passed, after, shown) depth 20
  walked (DeletePolicy key) good fits = unplans key
  walked (RunPolicy key) good fits = runs key
