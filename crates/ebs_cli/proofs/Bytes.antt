-- No call but a read of a block is answered by bytes.
use Rattle.std.proofs.Common.{◌≡◌, ◌⊎◌, inl, inr, ℕ, Bool, List, Option, Some, None, Result, Ok, Err, refl, subst}
use Rattle.ebs_model.specs.declared.keys.Moment.{Moment}
use Rattle.ebs_model.specs.declared.keys.SnapKey.{SnapKey}
use Rattle.ebs_model.specs.declared.keys.VolKey.{VolKey}
use Rattle.ebs_model.specs.declared.request.Request.{Request}
use Rattle.ebs_model.specs.declared.request.Request.TheVariants.{StartSnapshot, PutSnapshotBlock, CompleteSnapshot, ListSnapshotBlocks, ListChangedBlocks, GetSnapshotBlock, DescribeSnapshot, DescribeSnapshots, DeleteSnapshot, ModifyPermission, LockSnapshot, UnlockSnapshot, ArchiveSnapshot, RestoreTier, CreateVolume, CreateSnapshot, WriteVolumeBlock, ReadVolumeBlock, DescribeVolume, DeleteVolume, CreateRule, GetRule, UpdateRule, DeleteRule, ListRules, LockRule, UnlockRule, ListBin, RestoreFromBin, CreatePolicy, GetPolicy, DeletePolicy, RunPolicy}
use Rattle.ebs_model.specs.declared.change.Change.{Change}
use Rattle.ebs_model.specs.declared.change.ReadRow.{ReadRow}
use Rattle.ebs_model.specs.declared.change.Decision.{Decision}
use Rattle.ebs_model.specs.declared.change.Decision.TheVariants as decision
use Rattle.ebs_model.specs.declared.answer.Answer.{Answer}
use Rattle.ebs_model.specs.declared.answer.Refusal.{Refusal}
use Rattle.ebs_model.specs.declared.rows.TokenRow.{TokenRow}
use Rattle.ebs_model.specs.declared.rules.RuleChange.{RuleChange}
use Rattle.ebs_model.specs.declared.rules.RuleChange.TheVariants.{Put, Remove}
use Rattle.ebs_model.specs.declared.tags.Tag.{Tag}
use Rattle.ebs_model.specs.declared.views.LockName.{LockName}
use Rattle.ebs_model.specs.Refuse.{◌>>=◌, ◌>>◌}
use Rattle.ebs_model.specs.Arrays.{Hash}
use Rattle.ebs_model.specs.Rows.{Rows, first_use}
use Rattle.ebs_model.specs.Decide.{decide}
use Rattle.ebs_model.specs.Calls.Lock.{lock_answer}
use Rattle.ebs_model.specs.Calls.Rule.{rule_answer}
use Rattle.ebs_model.specs.Calls.Start.{by_token, repeat_start, fresh_start}
use Rattle.ebs_model.specs.Calls.Volume.{repeat_create, fresh_create}
use Rattle.ebs_model.specs.Machine.{Machine, rows_of}
use Rattle.ebs_model.specs.Step.{act, finish, read}
use Rattle.ebs_disk_store.specs.inner.Fetched.{IsFetch}
use Rattle.ebs_cli.specs.Told.{HasNoBytes}

-- a request that was accepted is answered by what has P
pub data IfDone {A : Type 0} (P : A → Type 0) : Result A Refusal → Type 0 where
  achieved : {x : A} → P x → IfDone P (Ok x)
  refused : {r : Refusal} → IfDone P (Err r)

after : {A B : Type 0} (P : B → Type 0) (x : Result A Refusal) (f : A → Result B Refusal) → ((v : A) → IfDone P (f v)) → IfDone P (x >>= f)
after P (Ok v) f h = h v
after P (Err r) f h = refused

pub passed : {B : Type 0} (P : B → Type 0) (x : Result (Unit {0}) Refusal) (y : Result B Refusal) → IfDone P y → IfDone P (x >> y)
passed P (Ok u) y h = h
passed P (Err r) y h = refused

ok_same : {A : Type 0} (y x : A) → ◌≡◌ {A = Result A Refusal} (Ok y) (Ok x) → y ≡ x
ok_same y x e = cc

pub of_done : {A : Type 0} (P : A → Type 0) (x : A) (r : Result A Refusal) → r ≡ Ok x → IfDone P r → P x
of_done P x (Ok y) e (achieved p) = subst P (ok_same y x e) p
of_done P x (Err r) e d = cc

-- ---- what rows decide

abbrev AnswersNone : Decision → Type 0
AnswersNone (decision.Change change said) = HasNoBytes said
AnswersNone (decision.Kept said) = HasNoBytes said
AnswersNone (decision.View said) = HasNoBytes said
AnswersNone (decision.Read row) = Unit {0}

by_change : (change : Change) (said : Answer) → HasNoBytes said → IfDone AnswersNone (Ok (decision.Change change said))
by_change change said none = achieved {x = decision.Change change said} none

by_kept : (said : Answer) → HasNoBytes said → IfDone AnswersNone (Ok (decision.Kept said))
by_kept said none = achieved {x = decision.Kept said} none

by_view : (said : Answer) → HasNoBytes said → IfDone AnswersNone (Ok (decision.View said))
by_view said none = achieved {x = decision.View said} none

by_read : (row : ReadRow) → IfDone AnswersNone (Ok (decision.Read row))
by_read row = achieved {x = decision.Read row} tt

lock_none : (o : Option LockName) (until : Option Moment) → HasNoBytes (lock_answer o until)
lock_none None until = tt
lock_none (Some name) until = tt

rule_none : (created : Bool) (now : ℕ) (change : RuleChange) → HasNoBytes (rule_answer created now change)
rule_none created now (Put row) = tt
rule_none created now (Remove key) = tt

module _ (rows : Rows) (at : Moment) (account : ℕ) where
  started : (size : ℕ) (parent : Option SnapKey) (description : Option (List ℕ)) (tags : List Tag) (token : Option (List ℕ)) (timeout : ℕ) (o : Option TokenRow)
      → IfDone AnswersNone (by_token o (repeat_start account size parent description tags timeout) (fresh_start rows at account size parent description tags token timeout))
  started size parent description tags token timeout None = search (passed, after, by_change) depth 20
  started size parent description tags token timeout (Some row) = search (passed, by_kept) depth 20

  created : (origin : Option SnapKey) (size : Option ℕ) (tags : List Tag) (token : Option (List ℕ)) (o : Option TokenRow)
      → IfDone AnswersNone (by_token o (repeat_create account origin size tags) (fresh_create rows at account origin size tags token))
  created origin size tags token None = search (passed, after, by_change) depth 20
  created origin size tags token (Some row) = search (passed, by_kept) depth 20

  decided : (request : Request) → IfDone AnswersNone (decide rows at account request)
  decided (StartSnapshot size parent description tags token timeout) = started size parent description tags token timeout (first_use rows account token)
  decided (PutSnapshotBlock key index digest bytes) = search (passed, after, by_change) depth 20
  decided (CompleteSnapshot key count checksum) = search (passed, after, by_change) depth 20
  decided (ListSnapshotBlocks key page most start) = search (after, by_read) depth 20
  decided (ListChangedBlocks first second page most start) = search (after, by_read) depth 20
  decided (GetSnapshotBlock key index token) = search (after, by_read) depth 20
  decided (DescribeSnapshot key) = search (after, by_view) depth 20
  decided (DescribeSnapshots from most) = by_view _ tt
  decided (DeleteSnapshot key) = search (passed, after, by_change) depth 20
  decided (ModifyPermission key add add_all remove remove_all) = search (passed, after, by_change) depth 20
  decided (LockSnapshot key mode term cool_hours) = search (after, by_change, lock_none) depth 20
  decided (UnlockSnapshot key) = search (after, by_change, lock_none) depth 20
  decided (ArchiveSnapshot key) = search (after, by_change) depth 20
  decided (RestoreTier key days) = search (after, by_change) depth 20
  decided (CreateVolume origin size tags token) = created origin size tags token (first_use rows account token)
  decided (CreateSnapshot source description tags) = search (passed, after, by_change) depth 20
  decided (WriteVolumeBlock key index digest bytes) = search (passed, after, by_change) depth 20
  decided (ReadVolumeBlock key index) = search (after, by_read) depth 20
  decided (DescribeVolume key) = search (after, by_view) depth 20
  decided (DeleteVolume key) = search (after, by_change) depth 20
  decided (CreateRule days tags description delay) = search (after, by_change, rule_none) depth 20
  decided (GetRule key) = search (after, by_view) depth 20
  decided (UpdateRule key days tags description) = search (after, by_change, rule_none) depth 20
  decided (DeleteRule key) = search (after, by_change, rule_none) depth 20
  decided ListRules = by_view _ tt
  decided (LockRule key delay) = search (after, by_change, rule_none) depth 20
  decided (UnlockRule key) = search (after, by_change, rule_none) depth 20
  decided (ListBin from most) = by_view _ tt
  decided (RestoreFromBin key) = search (after, by_change) depth 20
  decided (CreatePolicy targets hours time retain add) = search (passed, by_change) depth 20
  decided (GetPolicy key) = search (after, by_view) depth 20
  decided (DeletePolicy key) = search (after, by_change) depth 20
  decided (RunPolicy key) = search (passed, after, by_change) depth 20

-- ---- what blocks answer

pub fetch_is : (request : Request) → IsFetch request → ((key : SnapKey) × (index : ℕ) × (token : List ℕ) × (request ≡ GetSnapshotBlock key index token)) ⊎ ((key : VolKey) × (index : ℕ) × (request ≡ ReadVolumeBlock key index))
fetch_is (StartSnapshot size parent description tags token timeout) fetch = absurd fetch
fetch_is (PutSnapshotBlock key index digest bytes) fetch = absurd fetch
fetch_is (CompleteSnapshot key count checksum) fetch = absurd fetch
fetch_is (ListSnapshotBlocks key page most start) fetch = absurd fetch
fetch_is (ListChangedBlocks first second page most start) fetch = absurd fetch
fetch_is (GetSnapshotBlock key index token) fetch = inl (key, index, token, refl)
fetch_is (DescribeSnapshot key) fetch = absurd fetch
fetch_is (DescribeSnapshots from most) fetch = absurd fetch
fetch_is (DeleteSnapshot key) fetch = absurd fetch
fetch_is (ModifyPermission key add add_all remove remove_all) fetch = absurd fetch
fetch_is (LockSnapshot key mode term cool_hours) fetch = absurd fetch
fetch_is (UnlockSnapshot key) fetch = absurd fetch
fetch_is (ArchiveSnapshot key) fetch = absurd fetch
fetch_is (RestoreTier key days) fetch = absurd fetch
fetch_is (CreateVolume origin size tags token) fetch = absurd fetch
fetch_is (CreateSnapshot source description tags) fetch = absurd fetch
fetch_is (WriteVolumeBlock key index digest bytes) fetch = absurd fetch
fetch_is (ReadVolumeBlock key index) fetch = inr (key, index, refl)
fetch_is (DescribeVolume key) fetch = absurd fetch
fetch_is (DeleteVolume key) fetch = absurd fetch
fetch_is (CreateRule days tags description delay) fetch = absurd fetch
fetch_is (GetRule key) fetch = absurd fetch
fetch_is (UpdateRule key days tags description) fetch = absurd fetch
fetch_is (DeleteRule key) fetch = absurd fetch
fetch_is ListRules fetch = absurd fetch
fetch_is (LockRule key delay) fetch = absurd fetch
fetch_is (UnlockRule key) fetch = absurd fetch
fetch_is (ListBin from most) fetch = absurd fetch
fetch_is (RestoreFromBin key) fetch = absurd fetch
fetch_is (CreatePolicy targets hours time retain add) fetch = absurd fetch
fetch_is (GetPolicy key) fetch = absurd fetch
fetch_is (DeletePolicy key) fetch = absurd fetch
fetch_is (RunPolicy key) fetch = absurd fetch

unread : (hash : Hash) (m : Machine) (request : Request) (row : ReadRow) → (IsFetch request → ⊥) → IfDone HasNoBytes (read hash m request row)
unread hash m (StartSnapshot size parent description tags token timeout) row other = refused
unread hash m (PutSnapshotBlock key index digest bytes) row other = refused
unread hash m (CompleteSnapshot key count checksum) row other = refused
unread hash m (ListSnapshotBlocks key page most start) row other = after HasNoBytes _ _ (λ first. achieved tt)
unread hash m (ListChangedBlocks first second page most start) row other = search (passed, after, achieved) depth 12
unread hash m (GetSnapshotBlock key index token) row other = absurd (other tt)
unread hash m (DescribeSnapshot key) row other = refused
unread hash m (DescribeSnapshots from most) row other = refused
unread hash m (DeleteSnapshot key) row other = refused
unread hash m (ModifyPermission key add add_all remove remove_all) row other = refused
unread hash m (LockSnapshot key mode term cool_hours) row other = refused
unread hash m (UnlockSnapshot key) row other = refused
unread hash m (ArchiveSnapshot key) row other = refused
unread hash m (RestoreTier key days) row other = refused
unread hash m (CreateVolume origin size tags token) row other = refused
unread hash m (CreateSnapshot source description tags) row other = refused
unread hash m (WriteVolumeBlock key index digest bytes) row other = refused
unread hash m (ReadVolumeBlock key index) row other = absurd (other tt)
unread hash m (DescribeVolume key) row other = refused
unread hash m (DeleteVolume key) row other = refused
unread hash m (CreateRule days tags description delay) row other = refused
unread hash m (GetRule key) row other = refused
unread hash m (UpdateRule key days tags description) row other = refused
unread hash m (DeleteRule key) row other = refused
unread hash m ListRules row other = refused
unread hash m (LockRule key delay) row other = refused
unread hash m (UnlockRule key) row other = refused
unread hash m (ListBin from most) row other = refused
unread hash m (RestoreFromBin key) row other = refused
unread hash m (CreatePolicy targets hours time retain add) row other = refused
unread hash m (GetPolicy key) row other = refused
unread hash m (DeletePolicy key) row other = refused
unread hash m (RunPolicy key) row other = refused

-- ---- the machine

module _ (hash : Hash) (m : Machine) (account : ℕ) (request : Request) (other : IsFetch request → ⊥) where
  abbrev Bare : Machine × Answer → Type 0
  Bare d = HasNoBytes d.1

  finished : (d : Decision) → AnswersNone d → IfDone Bare (finish hash m request d)
  finished (decision.Change change said) none = passed _ _ _ (passed _ _ _ (achieved none))
  finished (decision.Kept said) none = achieved none
  finished (decision.View said) none = achieved none
  finished (decision.Read row) none = at (read hash m request row) (unread hash m request row other)
    where
      at : (x : Result Answer Refusal) → IfDone HasNoBytes x → IfDone Bare (x >>= λ said. Ok (m, said))
      at (Ok said) (achieved none) = achieved none
      at (Err refusal) none = refused

  joined : (x : Result Decision Refusal) → IfDone AnswersNone x → IfDone Bare (x >>= finish hash m request)
  joined (Ok d) (achieved none) = finished d none
  joined (Err refusal) none = refused

  pub acted : IfDone (λ (d : Machine × Answer). HasNoBytes d.1) (act hash m account request)
  acted = passed _ _ _ (passed _ _ _ (joined (decide (rows_of m) m.clock account request) (decided (rows_of m) m.clock account request)))
