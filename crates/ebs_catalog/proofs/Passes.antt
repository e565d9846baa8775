-- What rows tested of an accepted change.
use Rattle.std.proofs.Common.{◌≡◌, ℕ, ◌<◌, Bool, true, false, not, ◌==◌, List, [], ◌∷◌, map as list_map, Option, Some, None, Result, Ok, Err, unwrap_or, refl, sym, ap, subst, ◌∙◌, arith}
use Rattle.std.proofs.lemmas.Bool.{false≢true}
use Rattle.std.proofs.lemmas.Bool.Decides.{nat_tests}
use Rattle.std.specs.Prelude.{nat_le}
use Rattle.std.specs.FinMap as fin
use Rattle.ebs_model.specs.declared.keys.SnapKey.{SnapKey}
use Rattle.ebs_model.specs.declared.keys.VolKey.{VolKey}
use Rattle.ebs_model.specs.declared.keys.Moment.{Moment}
use Rattle.ebs_model.specs.declared.rows.SnapRow.{SnapRow}
use Rattle.ebs_model.specs.declared.rows.VolRow.{VolRow}
use Rattle.ebs_model.specs.declared.tags.Tag.{Tag}
use Rattle.ebs_model.specs.declared.request.Request.{Request}
use Rattle.ebs_model.specs.declared.request.Request.TheVariants.{StartSnapshot, PutSnapshotBlock, CompleteSnapshot, ListSnapshotBlocks, ListChangedBlocks, GetSnapshotBlock, DescribeSnapshot, DescribeSnapshots, DeleteSnapshot, ModifyPermission, LockSnapshot, UnlockSnapshot, ArchiveSnapshot, RestoreTier, CreateVolume, CreateSnapshot, WriteVolumeBlock, ReadVolumeBlock, DescribeVolume, DeleteVolume, CreateRule, GetRule, UpdateRule, DeleteRule, ListRules, LockRule, UnlockRule, ListBin, RestoreFromBin, CreatePolicy, GetPolicy, DeletePolicy, RunPolicy}
use Rattle.ebs_model.specs.declared.answer.Answer.TheVariants as answer
use Rattle.ebs_model.specs.declared.answer.Kind.TheVariants as kind
use Rattle.ebs_model.specs.declared.answer.Refusal.{Refusal}
use Rattle.ebs_model.specs.declared.answer.Refusal.TheVariants.{NotFound, BadIndex, TokenConflict}
use Rattle.ebs_model.specs.declared.rows.TokenRow.{TokenRow}
use Rattle.ebs_model.specs.declared.keys.AnyKey.TheVariants.{Snap, Vol, Policy as policy_id}
use Rattle.ebs_model.specs.declared.change.Change.{Change}
use Rattle.ebs_model.specs.declared.change.Decision.{Decision}
use Rattle.ebs_model.specs.declared.change.Decision.TheVariants as decision
use Rattle.ebs_model.specs.Refuse.{◌>>=◌, ◌>>◌, refuse_if, some_or}
use Rattle.ebs_model.specs.Quotas.{blocks_of}
use Rattle.ebs_model.specs.Limits.{is_size, is_size_given, is_sized}
use Rattle.ebs_model.specs.Access.{owns, own, open_upload, done, base}
use Rattle.ebs_model.specs.Rows.{Rows, the_row, the_volume, the_policy, first_use, book_of}
use Rattle.ebs_model.specs.declared.keys.PolicyKey.{PolicyKey}
use Rattle.ebs_model.specs.declared.policy.Policy.{Policy}
use Rattle.ebs_model.specs.declared.policy.Retain.{Retain}
use Rattle.ebs_model.specs.Calls.Policy.{next_policy, decide_policy, decide_get_policy, decide_drop_policy}
use Rattle.ebs_model.specs.Calls.Run.{due_targets, new_keys, run_decided, decide_run}
use Rattle.ebs_model.specs.declared.rows.LockState.{LockState}
use Rattle.ebs_model.specs.declared.rows.Tier.{Tier}
use Rattle.ebs_model.specs.declared.lock.LockCommand.{LockCommand}
use Rattle.ebs_model.specs.declared.lock.LockCommand.TheVariants.{Lock, Unlock}
use Rattle.ebs_model.specs.Locks.{lock_change}
use Rattle.ebs_model.specs.Tiers.{archive, restore}
use Rattle.ebs_model.specs.Decisions.{alters, makes, shares, ends}
use Rattle.ebs_model.specs.Decide.{decide}
use Rattle.ebs_model.specs.Calls.Start.{decide_start, fresh_start, repeat_start, by_token, is_same_start, first_made, first_key, next_key, least_size}
use Rattle.ebs_model.specs.Calls.Put.{decide_put}
use Rattle.ebs_model.specs.Calls.Complete.{decide_complete}
use Rattle.ebs_model.specs.Calls.List.{decide_compare}
use Rattle.ebs_model.specs.Calls.Get.{decide_get}
use Rattle.ebs_model.specs.Calls.Describe.{decide_describe}
use Rattle.ebs_model.specs.Calls.Permission.{decide_permission, permitted}
use Rattle.ebs_model.specs.Calls.Delete.{decide_delete}
use Rattle.ebs_model.specs.Calls.Lock.{decide_lock, changed_lock, lock_answer}
use Rattle.ebs_model.specs.Calls.Archive.{decide_archive, decide_restore, changed_tier}
use Rattle.ebs_model.specs.Calls.Volume.{decide_create, fresh_create, repeat_create, is_same_create, made_size, first_volume, next_volume, decide_volume, decide_drop}
use Rattle.ebs_model.specs.Calls.Disk.{decide_snap, decide_write, decide_fetch, snapped_row}
use Rattle.ebs_model.specs.Views.{view_of, lock_shown, lock_until, tier_shown, restore_until}
use Rattle.ebs_model.specs.declared.keys.RuleKey.{RuleKey}
use Rattle.ebs_model.specs.declared.rules.Rule.{Rule}
use Rattle.ebs_model.specs.declared.rules.RuleCommand.{RuleCommand}
use Rattle.ebs_model.specs.declared.rules.RuleCommand.TheVariants as rule
use Rattle.ebs_model.specs.Rules.{rule_view}
use Rattle.ebs_model.specs.RuleCommands.{Decided, decide as decide_by}
use Rattle.ebs_model.specs.Calls.Rule.{decide_rule, decide_get_rule, changed_rule, made_rules, is_creation, rule_answer}
use Rattle.ebs_model.specs.Calls.Bin.{decide_recover, binned, recovered}
use Rattle.ebs_bin.specs.Agrees.{IsTaken}
use Rattle.ebs_catalog.specs.Held.{IsFit, IsDecided}
use Rattle.ebs_catalog.specs.Decided.{Passed, PassedPolicies, IsDone, IsVolumeSize}

data IfDone {A : Type 0} (P : A → Type 0) : Result A Refusal → Type 0 where
  achieved : {x : A} → P x → IfDone P (Ok x)
  refused : {r : Refusal} → IfDone P (Err r)

after : {A B : Type 0} (P : B → Type 0) (x : Result A Refusal) (f : A → Result B Refusal) → ((v : A) → x ≡ Ok v → IfDone P (f v)) → IfDone P (x >>= f)
after P (Ok v) f h = h v refl
after P (Err r) f h = refused

passed : {B : Type 0} (P : B → Type 0) (x : Result (Unit {0}) Refusal) (y : Result B Refusal) → (x ≡ Ok tt → IfDone P y) → IfDone P (x >> y)
passed P (Ok u) y h = h refl
passed P (Err r) y h = refused

not_ok : {A : Type 0} (r : Refusal) (x : A) → ◌≡◌ {A = Result A Refusal} (Err r) (Ok x) → ⊥
not_ok r x e = cc

ok_same : {A : Type 0} (y x : A) → ◌≡◌ {A = Result A Refusal} (Ok y) (Ok x) → y ≡ x
ok_same y x e = cc

of_done : {A : Type 0} (P : A → Type 0) (x : A) (r : Result A Refusal) → r ≡ Ok x → IfDone P r → P x
of_done P x (Ok y) e (achieved p) = subst P (ok_same y x e) p
of_done P x (Err r) e d = absurd (not_ok r x e)

not_refused : (b : Bool) (r : Refusal) → refuse_if b r ≡ Ok tt → b ≡ false
not_refused true r e = cc
not_refused false r e = refl

turned : (b : Bool) → not b ≡ false → b ≡ true
turned true e = refl
turned false e = cc

below : (limit n : ℕ) → nat_le limit n ≡ false → n < limit
below limit n h = grind (arith, nat_tests)

-- the row that was found, and the test that it passed
found : (rows : Rows) (key : SnapKey) (test : SnapRow → Result (Unit {0}) Refusal) (row : SnapRow) → the_row rows key test ≡ Ok row → (fin.get rows.snaps key ≡ Some row) × (test row ≡ Ok tt)
found rows key test row e = at (fin.get rows.snaps key) refl e
  where
    tested : (x : Result (Unit {0}) Refusal) (kept : SnapRow) → (x >> Ok kept) ≡ Ok row → (kept ≡ row) × (x ≡ Ok tt)
    tested (Ok u) kept e = (cc, refl)
    tested (Err r) kept e = cc

    at : (o : Option SnapRow) → fin.get rows.snaps key ≡ o → (some_or o (NotFound kind.Snapshot) >>= λ kept. test kept >> Ok kept) ≡ Ok row → (fin.get rows.snaps key ≡ Some row) × (test row ≡ Ok tt)
    at None is e = cc
    at (Some kept) is e =
        let (same, passes) = tested (test kept) kept e in
        (is ∙ ap Some same, ap test (sym same) ∙ passes)

last-test : (x : Result (Unit {0}) Refusal) (b : Bool) (r : Refusal) → (x >> refuse_if (not b) r) ≡ Ok tt → b ≡ true
last-test (Ok u) b r e = turned b (not_refused (not b) r e)
last-test (Err q) b r e = cc

-- the account's volume that was found
found-volume : (rows : Rows) (account : ℕ) (key : VolKey) (row : VolRow) → the_volume rows account key ≡ Ok row → fin.get rows.vols key ≡ Some row
found-volume rows account key row e = by (not (account == key.account)) (fin.get rows.vols key) refl e
  where
    by : (b : Bool) (o : Option VolRow) → fin.get rows.vols key ≡ o → (refuse_if b (NotFound kind.Volume) >> some_or o (NotFound kind.Volume)) ≡ Ok row → fin.get rows.vols key ≡ Some row
    by true o is e = cc
    by false None is e = cc
    by false (Some kept) is e = cc

-- the account's policy that was found
found-policy : (rows : Rows) (account : ℕ) (key : PolicyKey) (p : Policy) → the_policy rows account key ≡ Ok p → (fin.get rows.policies key ≡ Some p) × (account ≡ key.account)
found-policy rows account key p e = by (account == key.account) refl (fin.get rows.policies key) refl e
  where
    same_number : (a b : ℕ) → (a == b) ≡ true → a ≡ b
    same_number a b e = grind (arith, nat_tests)

    by : (b : Bool) → (account == key.account) ≡ b → (o : Option Policy) → fin.get rows.policies key ≡ o → (refuse_if (not b) (NotFound kind.Policy) >> some_or o (NotFound kind.Policy)) ≡ Ok p → (fin.get rows.policies key ≡ Some p) × (account ≡ key.account)
    by false t o is e = cc
    by true t None is e = cc
    by true t (Some kept) is e = (cc, same_number account key.account t)

-- the size of a new volume is one that was given, or the source's
volume-size : (rows : Rows) (at : Moment) (account : ℕ) (origin : Option SnapKey) (size : Option ℕ) → is_size_given size ≡ true → is_sized origin size ≡ true → (least : ℕ) → least_size rows account at.second origin ≡ Ok least → IsVolumeSize rows origin (unwrap_or size least)
volume-size rows at account origin size fits sized least e = of origin sized e
  where
    number_same : (a b : ℕ) → ◌≡◌ {A = Result ℕ Refusal} (Ok a) (Ok b) → a ≡ b
    number_same a b e = cc

    given : (o : Option ℕ) → is_size_given o ≡ true → is_size least ≡ true → is_size (unwrap_or o least) ≡ true
    given None f h = h
    given (Some n) f h = f

    stated : (o : Option ℕ) → is_size_given o ≡ true → is_sized None o ≡ true → is_size (unwrap_or o least) ≡ true
    stated None f h = absurd (false≢true h)
    stated (Some n) f h = f

    source : (key : SnapKey) (x : Result SnapRow Refusal) → the_row rows key (base account key at.second) ≡ x → (x >>= λ row. Ok row.size) ≡ Ok least → IsVolumeSize rows (Some key) (unwrap_or size least)
    source key (Ok row) is e =
        let (there, test) = found rows key (base account key at.second) row is in
        record { row = row; found = there; within = λ h. given size fits (subst (λ n. is_size n ≡ true) (number_same row.size least e) h) }
    source key (Err r) is e = absurd (refused_not r least e)
      where
        refused_not : (r : Refusal) (n : ℕ) → ◌≡◌ {A = Result ℕ Refusal} (Err r) (Ok n) → ⊥
        refused_not r n e = cc

    of : (o : Option SnapKey) → is_sized o size ≡ true → least_size rows account at.second o ≡ Ok least → IsVolumeSize rows o (unwrap_or size least)
    of None t e = stated size fits t
    of (Some key) t e = source key (the_row rows key (base account key at.second)) refl e

-- what an accepted change tells
abbrev Tells : Rows → Moment → ℕ → Decision → Type 0
Tells rows at account (decision.Change change given) = (change.at ≡ at) × (Passed rows at account change.shared change.request × PassedPolicies rows change change.request)
Tells rows at account (decision.Kept given) = Unit {0}
Tells rows at account (decision.View given) = Unit {0}
Tells rows at account (decision.Read row) = Unit {0}

module _ (rows : Rows) (at : Moment) (account : ℕ) where
  fresh-tells : (size : ℕ) (parent : Option SnapKey) (description : Option (List ℕ)) (tags : List Tag) (token : Option (List ℕ)) (timeout : ℕ) → IsFit (StartSnapshot size parent description tags token timeout) → IfDone (Tells rows at account) (fresh_start rows at account size parent description tags token timeout)
  fresh-tells size parent description tags token timeout fits =
      let key : SnapKey = next_key rows account in
      let ended : IfDone (Tells rows at account) (Ok (decision.Change (makes account at (StartSnapshot size parent description tags token timeout) (Snap key ∷ [])) (answer.Started description account parent key at tags size))) = achieved (refl, (fits, tt)) in
      search (passed, after, ended) depth 20

  repeat-tells : (size : ℕ) (parent : Option SnapKey) (description : Option (List ℕ)) (tags : List Tag) (timeout : ℕ) (row : TokenRow) → IfDone (Tells rows at account) (repeat_start account size parent description tags timeout row)
  repeat-tells size parent description tags timeout row =
      passed (Tells rows at account) (refuse_if (not (is_same_start row.first size parent description tags timeout)) (TokenConflict (first_key account row)))
      (Ok (decision.Kept (answer.Started description account parent (first_made account row) row.at tags size))) (λ e. achieved tt)

  start-tells : (size : ℕ) (parent : Option SnapKey) (description : Option (List ℕ)) (tags : List Tag) (token : Option (List ℕ)) (timeout : ℕ) → IsFit (StartSnapshot size parent description tags token timeout) → IfDone (Tells rows at account) (decide_start rows at account size parent description tags token timeout)
  start-tells size parent description tags token timeout fits = by (first_use rows account token)
    where
      by : (o : Option TokenRow) → IfDone (Tells rows at account) (by_token o (repeat_start account size parent description tags timeout) (fresh_start rows at account size parent description tags token timeout))
      by None = fresh-tells size parent description tags token timeout fits
      by (Some row) = repeat-tells size parent description tags timeout row

  fresh-create-tells : (origin : Option SnapKey) (size : Option ℕ) (tags : List Tag) (token : Option (List ℕ)) → IsFit (CreateVolume origin size tags token) → IfDone (Tells rows at account) (fresh_create rows at account origin size tags token)
  fresh-create-tells origin size tags token fits =
      let key : VolKey = next_volume rows account in
      let ended : (least : ℕ) → least_size rows account at.second origin ≡ Ok least
      → IfDone (Tells rows at account) (Ok (decision.Change (makes account at (CreateVolume origin (Some (unwrap_or size least)) tags token) (Vol key ∷ [])) (answer.VolumeShown true (unwrap_or size least) origin tags key))) =
      λ least is. achieved (refl, (volume-size rows at account origin size fits.0 fits.1 least is, tt)) in
      search (passed, after, ended) depth 20

  repeat-create-tells : (origin : Option SnapKey) (size : Option ℕ) (tags : List Tag) (row : TokenRow) → IfDone (Tells rows at account) (repeat_create account origin size tags row)
  repeat-create-tells origin size tags row =
      passed (Tells rows at account) (refuse_if (not (is_same_create row.first origin size tags)) (TokenConflict (first_key account row)))
      (Ok (decision.Kept (answer.VolumeShown true (made_size row.first) origin tags (first_volume account row)))) (λ e. achieved tt)

  create-tells : (origin : Option SnapKey) (size : Option ℕ) (tags : List Tag) (token : Option (List ℕ)) → IsFit (CreateVolume origin size tags token) → IfDone (Tells rows at account) (decide_create rows at account origin size tags token)
  create-tells origin size tags token fits = by (first_use rows account token)
    where
      by : (o : Option TokenRow) → IfDone (Tells rows at account) (by_token o (repeat_create account origin size tags) (fresh_create rows at account origin size tags token))
      by None = fresh-create-tells origin size tags token fits
      by (Some row) = repeat-create-tells origin size tags row

  snap-tells : (volume : VolKey) (description : Option (List ℕ)) (tags : List Tag) → IfDone (Tells rows at account) (decide_snap rows at account volume description tags)
  snap-tells volume description tags =
      let key : SnapKey = next_key rows account in
      let ended : (row : VolRow) → the_volume rows account volume ≡ Ok row
      → IfDone (Tells rows at account) (Ok (decision.Change (makes account at (CreateSnapshot volume description tags) (Snap key ∷ [])) (answer.SnapshotShown true (view_of account at.second key (snapped_row at key volume row description tags))))) =
      λ row is. achieved (refl, (record { row = row; found = found-volume rows account volume row is }, tt)) in
      search (passed, after, ended) depth 20

  write-tells : (key : VolKey) (index : ℕ) (digest : List ℕ) → IfDone (Tells rows at account) (decide_write rows at account key index digest)
  write-tells key index digest =
      let ended : (row : VolRow) → the_volume rows account key ≡ Ok row → refuse_if (nat_le (blocks_of row.size) index) BadIndex ≡ Ok tt → IfDone (Tells rows at account) (Ok (decision.Change (alters account at (WriteVolumeBlock key index digest [])) (answer.BlockWritten digest))) =
      λ row is within. achieved (refl, (record { row = row; found = found-volume rows account key row is; within = below _ _ (not_refused _ _ within) }, tt)) in
      search (passed, after, ended) depth 20

  fetch-tells : (key : VolKey) → IfDone (Tells rows at account) (decide_fetch rows account key)
  fetch-tells key =
      let ended : (row : VolRow) → IfDone (Tells rows at account) (Ok (decision.Read (record { size = row.size; related = true }))) = λ row. achieved tt in
      search (passed, after, ended) depth 20

  volume-tells : (key : VolKey) → IfDone (Tells rows at account) (decide_volume rows account key)
  volume-tells key =
      let ended : (row : VolRow) → IfDone (Tells rows at account) (Ok (decision.View (answer.VolumeShown false row.size row.origin row.tags key))) = λ row. achieved tt in
      search (passed, after, ended) depth 20

  drop-tells : (key : VolKey) → IfDone (Tells rows at account) (decide_drop rows at account key)
  drop-tells key =
      let ended : IfDone (Tells rows at account) (Ok (decision.Change (alters account at (DeleteVolume key)) answer.Done)) = achieved (refl, (tt, tt)) in
      search (passed, after, ended) depth 20

  put-tells : (key : SnapKey) (index : ℕ) (digest : List ℕ) → IfDone (Tells rows at account) (decide_put rows at account key index digest)
  put-tells key index digest =
      let ended : (row : SnapRow) → the_row rows key (open_upload account key at.second) ≡ Ok row → refuse_if (nat_le (blocks_of row.size) index) BadIndex ≡ Ok tt → IfDone (Tells rows at account) (Ok (decision.Change (alters account at (PutSnapshotBlock key index digest [])) (answer.BlockWritten digest))) =
      λ row is within.
      let (there, test) = found rows key (open_upload account key at.second) row is in
      achieved (refl, (record { row = row; found = there; pending = last-test (own account key at.second row) _ _ test; within = below _ _ (not_refused _ _ within) }, tt)) in
      search (passed, after, ended) depth 20

  complete-tells : (key : SnapKey) (count : ℕ) (checksum : Option (List ℕ)) → IfDone (Tells rows at account) (decide_complete rows at account key count checksum)
  complete-tells key count checksum =
      let ended : (row : SnapRow) → the_row rows key (open_upload account key at.second) ≡ Ok row → IfDone (Tells rows at account) (Ok (decision.Change (alters account at (CompleteSnapshot key count checksum)) answer.Completed)) =
      λ row is.
      let (there, test) = found rows key (open_upload account key at.second) row is in
      achieved (refl, (record { row = row; found = there; pending = last-test (own account key at.second row) _ _ test }, tt)) in
      search (passed, after, ended) depth 20

  read-tells : (key : SnapKey) → IfDone (Tells rows at account) (decide_get rows at account key)
  read-tells key =
      let ended : (row : SnapRow) → IfDone (Tells rows at account) (Ok (decision.Read (record { size = row.size; related = true }))) = λ row. achieved tt in
      search (passed, after, ended) depth 20

  compare-tells : (first second : SnapKey) → IfDone (Tells rows at account) (decide_compare rows at account first second)
  compare-tells first second =
      let ended : (size : ℕ) (related : Bool) → IfDone (Tells rows at account) (Ok (decision.Read (record { size = size; related = related }))) = λ size related. achieved tt in
      search (passed, after, ended) depth 20

  describe-tells : (key : SnapKey) → IfDone (Tells rows at account) (decide_describe rows at account key)
  describe-tells key =
      let ended : (row : SnapRow) → IfDone (Tells rows at account) (Ok (decision.View (answer.SnapshotShown false (view_of account at.second key row)))) = λ row. achieved tt in
      search (passed, after, ended) depth 20

  permission-tells : (key : SnapKey) (add : List ℕ) (add_all : Bool) (remove : List ℕ) (remove_all : Bool) → IfDone (Tells rows at account) (decide_permission rows at account key add add_all remove remove_all)
  permission-tells key add add_all remove remove_all =
      let ended : (row : SnapRow) → the_row rows key (done account key at.second) ≡ Ok row
      → IfDone (Tells rows at account) (Ok (decision.Change (shares account at (ModifyPermission key add add_all remove remove_all) (permitted row.shared add remove)) answer.Done)) =
      λ row is.
      let (there, test) = found rows key (done account key at.second) row is in
      achieved (refl, (record { done = record { row = row; found = there; completed = last-test (own account key at.second row) _ _ test }; accounts = refl }, tt)) in
      search (passed, after, ended) depth 20

  -- the row that was found is completed
  is-done : (key : SnapKey) (row : SnapRow) → the_row rows key (done account key at.second) ≡ Ok row → IsDone rows at key
  is-done key row is =
      let (there, test) = found rows key (done account key at.second) row is in
      record { row = row; found = there; completed = last-test (own account key at.second row) _ _ test }

  delete-tells : (key : SnapKey) → IfDone (Tells rows at account) (decide_delete rows at account key)
  delete-tells key =
      let ended : (row : SnapRow) → the_row rows key (own account key at.second) ≡ Ok row → IfDone (Tells rows at account) (Ok (decision.Change (ends account at (DeleteSnapshot key) key) answer.Done)) =
      λ row is. achieved (refl, (record { row = row; found = (found rows key (own account key at.second) row is).0 }, tt)) in
      search (passed, after, ended) depth 20

  recover-tells : (key : SnapKey) → IfDone (Tells rows at account) (decide_recover rows at account key)
  recover-tells key =
      let ended : (row : SnapRow) → the_row rows key (binned account key at.second) ≡ Ok row
      → IfDone (Tells rows at account) (Ok (decision.Change (alters account at (RestoreFromBin key)) (answer.SnapshotShown false (view_of account at.second key (recovered row))))) =
      λ row is.
      let (there, test) = found rows key (binned account key at.second) row is in
      achieved (refl, (record { row = row; found = there; ahead = last-test (refuse_if (not (owns account key)) (NotFound kind.Snapshot)) _ _ test }, tt)) in
      search (passed, after, ended) depth 20

  -- what rules decided of a command
  rule-tells : (request : Request) (command : RuleCommand) → (IsTaken (decide_by account (book_of rows account) command at.second) → Passed rows at account [] request) → ((change : Change) → PassedPolicies rows change request) → IfDone (Tells rows at account) (decide_rule rows at account request command)
  rule-tells request command passes none = by (decide_by account (book_of rows account) command at.second) passes
    where
      by : (d : Decided) → (IsTaken d → Passed rows at account [] request)
          → IfDone (Tells rows at account) (changed_rule d >>= λ change. Ok (decision.Change (makes account at request (made_rules command change)) (rule_answer (is_creation command) at.second change)))
      by (Ok change) passes = achieved (refl, (passes tt, none _))
      by (Err r) passes = refused

  get_rule-tells : (key : RuleKey) → IfDone (Tells rows at account) (decide_get_rule rows at account key)
  get_rule-tells key =
      let ended : (rule : Rule) → IfDone (Tells rows at account) (Ok (decision.View (answer.RuleShown false (rule_view at.second rule)))) = λ rule. achieved tt in
      search (passed, after, ended) depth 20

  lock-tells : (request : Request) (key : SnapKey) (command : LockCommand) → (IsDone rows at key → Passed rows at account [] request) → ((change : Change) → PassedPolicies rows change request) → IfDone (Tells rows at account) (decide_lock rows at account request key command)
  lock-tells request key command passes none =
      let ended : (row : SnapRow) → the_row rows key (done account key at.second) ≡ Ok row → (new : LockState) → changed_lock (lock_change row.lock command at.second) ≡ Ok new
      → IfDone (Tells rows at account) (Ok (decision.Change (alters account at request) (lock_answer (lock_shown new at.second) (lock_until new)))) =
      λ row is new changes. achieved (refl, (passes (is-done key row is), none (alters account at request))) in
      search (after, ended) depth 20

  archive-tells : (key : SnapKey) → IfDone (Tells rows at account) (decide_archive rows at account key)
  archive-tells key =
      let ended : (row : SnapRow) → the_row rows key (done account key at.second) ≡ Ok row → (new : Tier) → changed_tier (archive row.tier at.second) ≡ Ok new
      → IfDone (Tells rows at account) (Ok (decision.Change (alters account at (ArchiveSnapshot key)) answer.Done)) =
      λ row is new changes. achieved (refl, (is-done key row is, tt)) in
      search (after, ended) depth 20

  restore-tells : (key : SnapKey) (days : Option ℕ) → IfDone (Tells rows at account) (decide_restore rows at account key days)
  restore-tells key days =
      let ended : (row : SnapRow) → the_row rows key (done account key at.second) ≡ Ok row → (new : Tier) → changed_tier (restore row.tier days at.second) ≡ Ok new
      → IfDone (Tells rows at account) (Ok (decision.Change (alters account at (RestoreTier key days)) (answer.TierShown (restore_until new at.second) (tier_shown new at.second)))) =
      λ row is new changes. achieved (refl, (is-done key row is, tt)) in
      search (after, ended) depth 20

  policy-tells : (targets : List Tag) (hours time : ℕ) (retain : Retain) (add : List Tag) → IsFit (CreatePolicy targets hours time retain add) → IfDone (Tells rows at account) (decide_policy rows at account targets hours time retain add)
  policy-tells targets hours time retain add fits =
      let key : PolicyKey = next_policy rows account in
      let ended : IfDone (Tells rows at account) (Ok (decision.Change (makes account at (CreatePolicy targets hours time retain add) (policy_id key ∷ [])) (answer.PolicyShown true key at))) =
      achieved (refl, (tt, record { next = refl; schedule = fits.0; retain = fits.1 })) in
      search (passed, after, ended) depth 20

  get_policy-tells : (key : PolicyKey) → IfDone (Tells rows at account) (decide_get_policy rows account key)
  get_policy-tells key =
      let ended : (p : Policy) → IfDone (Tells rows at account) (Ok (decision.View (answer.PolicyShown false key p.last))) = λ p. achieved tt in
      search (passed, after, ended) depth 20

  drop_policy-tells : (key : PolicyKey) → IfDone (Tells rows at account) (decide_drop_policy rows at account key)
  drop_policy-tells key =
      let ended : IfDone (Tells rows at account) (Ok (decision.Change (alters account at (DeletePolicy key)) answer.Done)) = achieved (refl, (tt, tt)) in
      search (passed, after, ended) depth 20

  run-tells : (key : PolicyKey) → IfDone (Tells rows at account) (decide_run rows at account key)
  run-tells key = after (Tells rows at account) (the_policy rows account key) _ (λ p is.
      let (there, own) = found-policy rows account key p is in
      let ended : IfDone (Tells rows at account) (Ok (run_decided rows at account key p)) =
      achieved (
        refl,
        (
          tt,
          record {
            policy = p;
            found = there;
            owner = own;
            made = ap (λ n. list_map Snap (new_keys (next_key rows n) (due_targets rows key p at.second))) own;
            sources = refl;
            ended = refl;
            released = refl;
          },
        ),
      ) in
      search (passed, ended) depth 20)

  tells : (request : Request) → IsFit request → IfDone (Tells rows at account) (decide rows at account request)
  tells (StartSnapshot size parent description tags token timeout) fits = start-tells size parent description tags token timeout fits
  tells (PutSnapshotBlock key index digest bytes) fits = put-tells key index digest
  tells (CompleteSnapshot key count checksum) fits = complete-tells key count checksum
  tells (ListSnapshotBlocks key page most start) fits = read-tells key
  tells (ListChangedBlocks first second page most start) fits = compare-tells first second
  tells (GetSnapshotBlock key index token) fits = read-tells key
  tells (DescribeSnapshot key) fits = describe-tells key
  tells (DescribeSnapshots from most) fits = achieved tt
  tells (DeleteSnapshot key) fits = delete-tells key
  tells (LockSnapshot key mode term cool_hours) fits = lock-tells (LockSnapshot key mode term cool_hours) key (Lock mode term cool_hours) (λ d. d) (λ change. tt)
  tells (UnlockSnapshot key) fits = lock-tells (UnlockSnapshot key) key Unlock (λ d. d) (λ change. tt)
  tells (ArchiveSnapshot key) fits = archive-tells key
  tells (RestoreTier key days) fits = restore-tells key days
  tells (CreateVolume origin size tags token) fits = create-tells origin size tags token fits
  tells (CreateSnapshot volume description tags) fits = snap-tells volume description tags
  tells (WriteVolumeBlock key index digest bytes) fits = write-tells key index digest
  tells (ReadVolumeBlock key index) fits = fetch-tells key
  tells (DescribeVolume key) fits = volume-tells key
  tells (DeleteVolume key) fits = drop-tells key
  tells (CreateRule days tags description delay) fits = rule-tells (CreateRule days tags description delay) (rule.Create days tags description delay) (λ t. record { fits = fits; taken = t }) (λ change. tt)
  tells (GetRule key) fits = get_rule-tells key
  tells (UpdateRule key days tags description) fits = rule-tells (UpdateRule key days tags description) (rule.Update key days tags description) (λ t. record { fits = fits; taken = t }) (λ change. tt)
  tells (DeleteRule key) fits = rule-tells (DeleteRule key) (rule.Delete key) (λ t. record { fits = fits; taken = t }) (λ change. tt)
  tells ListRules fits = achieved tt
  tells (LockRule key delay) fits = rule-tells (LockRule key delay) (rule.Lock key delay) (λ t. record { fits = fits; taken = t }) (λ change. tt)
  tells (UnlockRule key) fits = rule-tells (UnlockRule key) (rule.Unlock key) (λ t. record { fits = fits; taken = t }) (λ change. tt)
  tells (ListBin from most) fits = achieved tt
  tells (RestoreFromBin key) fits = recover-tells key
  tells (CreatePolicy targets hours time retain add) fits = policy-tells targets hours time retain add fits
  tells (GetPolicy key) fits = get_policy-tells key
  tells (DeletePolicy key) fits = drop_policy-tells key
  tells (RunPolicy key) fits = run-tells key
  tells (ModifyPermission key add add_all remove remove_all) fits = permission-tells key add add_all remove remove_all

decided-tells : (rows : Rows) (change : Change) (d : IsDecided rows change) → Tells rows change.at change.account (decision.Change change d.answer)
decided-tells rows change d = of_done (Tells rows change.at change.account) (decision.Change change d.answer) (decide rows change.at change.account d.request) d.gives (tells rows change.at change.account d.request d.fits)

pub decided-passed : (rows : Rows) (change : Change) → IsDecided rows change → Passed rows change.at change.account change.shared change.request
decided-passed rows change d = (decided-tells rows change d).1.0

pub decided-policies : (rows : Rows) (change : Change) → IsDecided rows change → PassedPolicies rows change change.request
decided-policies rows change d = (decided-tells rows change d).1.1
