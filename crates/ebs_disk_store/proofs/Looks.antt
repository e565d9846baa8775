-- What a call that changes nothing shows.
use Rattle.std.proofs.Common.{◌≡◌, inl, inr, ℕ, List, Option, Some, None, Result, Ok, Err, refl, sym, ap, subst, ◌∙◌}
use Rattle.sha2.specs.Sha256.{sha256}
use Rattle.ebs_world.specs.View.{View, IsTrueToItself}
use Rattle.ebs_model.specs.declared.keys.Moment.{Moment}
use Rattle.ebs_model.specs.declared.request.Request.{Request}
use Rattle.ebs_model.specs.declared.request.Request.TheVariants.{StartSnapshot, PutSnapshotBlock, CompleteSnapshot, ListSnapshotBlocks, ListChangedBlocks, GetSnapshotBlock, DescribeSnapshot, DescribeSnapshots, DeleteSnapshot, ModifyPermission, LockSnapshot, UnlockSnapshot, ArchiveSnapshot, RestoreTier, CreateVolume, CreateSnapshot, WriteVolumeBlock, ReadVolumeBlock, DescribeVolume, DeleteVolume, CreateRule, GetRule, UpdateRule, DeleteRule, ListRules, LockRule, UnlockRule, ListBin, RestoreFromBin, CreatePolicy, GetPolicy, DeletePolicy, RunPolicy}
use Rattle.ebs_model.specs.declared.change.ReadRow.{ReadRow}
use Rattle.ebs_model.specs.declared.change.Decision.{Decision}
use Rattle.ebs_model.specs.declared.change.Decision.TheVariants as decision
use Rattle.ebs_model.specs.declared.answer.Answer.{Answer}
use Rattle.ebs_model.specs.declared.answer.Answer.TheVariants as answers
use Rattle.ebs_model.specs.declared.answer.Refusal.{Refusal}
use Rattle.ebs_model.specs.declared.answer.Failure.{Failure}
use Rattle.ebs_model.specs.declared.answer.Failure.TheVariants.{Refused, Memory}
use Rattle.ebs_model.specs.Refuse.{◌>>=◌, ◌>>◌, refuse_bad}
use Rattle.ebs_model.specs.Limits.{bad_member}
use Rattle.ebs_model.specs.Arrays.{Hash}
use Rattle.ebs_model.specs.Kept.{same, kept_request}
use Rattle.ebs_model.specs.inner.Kept.{digested, kept_outcome, kept_answer, ActsAlike, AgesAlike}
use Rattle.ebs_model.specs.Machine.{Machine, advance, rows_of}
use Rattle.ebs_model.specs.Rows.{Rows}
use Rattle.ebs_model.specs.Decide.{decide}
use Rattle.ebs_model.specs.Step.{act, finish, read, refuse_size, refuse_digest, settled}
use Rattle.ebs_model.specs.inner.Follows.{Agrees}
use Rattle.ebs_catalog.specs.Wants.{OnMemory, IsAccepted, NamesMember}
use Rattle.ebs_kept.specs.inner.Requests.{ReadsNoBlock, HasNoBlock}
use Rattle.ebs_kept.specs.inner.Wants.{MayRunOut, Tells}
use Rattle.ebs_kept.proofs.Decided.{IfDone, achieved, refused, after, passed, of_done}
use Rattle.ebs_recovery.specs.inner.Fits.{Seen, Fit, recorded, running}
use Rattle.ebs_disk_store.specs.inner.Told.{at_clock}
use Rattle.ebs_disk_store.specs.inner.Turned.{kept_call, Fails, TurnAt}
use Rattle.ebs_disk_store.specs.inner.Viewed.{IsView, Shows, Viewed, shown, memory}
use Rattle.ebs_disk_store.specs.inner.Viewed as viewed
use Rattle.ebs_recovery.proofs.Replies.{HasNoBytes, same_answer}
use Rattle.ebs_disk_store.proofs.Steps.{outcome_is, outcome_err, second_is}
use Rattle.ebs_disk_store.proofs.Wants.{named_wants, within_wants}

-- it brings no block, and reads none
pub record IsLook (r : Request) : Type 0 where
  pub bare : kept_request r ≡ r
  pub reads : ReadsNoBlock r
  pub none : HasNoBlock r
  pub sized : refuse_size r ≡ Ok tt
  pub unhashed : (hash : Hash) → refuse_digest hash r ≡ Ok tt

pub look : (r : Request) → IsView r → IsLook r
look (ListSnapshotBlocks key page most start) h = record { bare = refl; reads = tt; none = tt; sized = refl; unhashed = λ hash. refl }
look (ListChangedBlocks first second page most start) h = record { bare = refl; reads = tt; none = tt; sized = refl; unhashed = λ hash. refl }
look (DescribeSnapshot key) h = record { bare = refl; reads = tt; none = tt; sized = refl; unhashed = λ hash. refl }
look (DescribeSnapshots from most) h = record { bare = refl; reads = tt; none = tt; sized = refl; unhashed = λ hash. refl }
look (DescribeVolume key) h = record { bare = refl; reads = tt; none = tt; sized = refl; unhashed = λ hash. refl }
look (GetRule key) h = record { bare = refl; reads = tt; none = tt; sized = refl; unhashed = λ hash. refl }
look ListRules h = record { bare = refl; reads = tt; none = tt; sized = refl; unhashed = λ hash. refl }
look (ListBin from most) h = record { bare = refl; reads = tt; none = tt; sized = refl; unhashed = λ hash. refl }
look (StartSnapshot size parent description tags token timeout) h = absurd h
look (PutSnapshotBlock key index digest bytes) h = absurd h
look (CompleteSnapshot key count checksum) h = absurd h
look (GetSnapshotBlock key index token) h = absurd h
look (DeleteSnapshot key) h = absurd h
look (ModifyPermission key add add_all remove remove_all) h = absurd h
look (LockSnapshot key mode term cool_hours) h = absurd h
look (UnlockSnapshot key) h = absurd h
look (ArchiveSnapshot key) h = absurd h
look (RestoreTier key days) h = absurd h
look (CreateVolume origin size tags token) h = absurd h
look (CreateSnapshot key description tags) h = absurd h
look (WriteVolumeBlock key index digest bytes) h = absurd h
look (ReadVolumeBlock key index) h = absurd h
look (DeleteVolume key) h = absurd h
look (CreateRule days tags description delay) h = absurd h
look (UpdateRule key days tags description) h = absurd h
look (DeleteRule key) h = absurd h
look (LockRule key delay) h = absurd h
look (UnlockRule key) h = absurd h
look (RestoreFromBin key) h = absurd h
look (CreatePolicy targets hours time retain add) h = absurd h
look (GetPolicy key) h = record { bare = refl; reads = tt; none = tt; sized = refl; unhashed = λ hash. refl }
look (DeletePolicy key) h = absurd h
look (RunPolicy key) h = absurd h

-- rows show, or leave it to blocks
abbrev IsShown : Decision → Type 0
IsShown (decision.Change change answer) = ⊥
IsShown (decision.Kept answer) = ⊥
IsShown (decision.View answer) = HasNoBytes answer
IsShown (decision.Read row) = Unit {0}

decided : (rows : Rows) (at : Moment) (account : ℕ) (r : Request) → IsView r → IfDone IsShown (decide rows at account r)
decided rows at account (ListSnapshotBlocks key page most start) h = after IsShown _ _ (λ row. achieved tt)
decided rows at account (ListChangedBlocks first second page most start) h = search (passed, after, achieved) depth 12
decided rows at account (DescribeSnapshot key) h = after IsShown _ _ (λ row. achieved tt)
decided rows at account (DescribeSnapshots from most) h = achieved tt
decided rows at account (DescribeVolume key) h = after IsShown _ _ (λ row. achieved tt)
decided rows at account (GetRule key) h = after IsShown _ _ (λ row. achieved tt)
decided rows at account ListRules h = achieved tt
decided rows at account (ListBin from most) h = achieved tt
decided rows at account (StartSnapshot size parent description tags token timeout) h = absurd h
decided rows at account (PutSnapshotBlock key index digest bytes) h = absurd h
decided rows at account (CompleteSnapshot key count checksum) h = absurd h
decided rows at account (GetSnapshotBlock key index token) h = absurd h
decided rows at account (DeleteSnapshot key) h = absurd h
decided rows at account (ModifyPermission key add add_all remove remove_all) h = absurd h
decided rows at account (LockSnapshot key mode term cool_hours) h = absurd h
decided rows at account (UnlockSnapshot key) h = absurd h
decided rows at account (ArchiveSnapshot key) h = absurd h
decided rows at account (RestoreTier key days) h = absurd h
decided rows at account (CreateVolume origin size tags token) h = absurd h
decided rows at account (CreateSnapshot key description tags) h = absurd h
decided rows at account (WriteVolumeBlock key index digest bytes) h = absurd h
decided rows at account (ReadVolumeBlock key index) h = absurd h
decided rows at account (DeleteVolume key) h = absurd h
decided rows at account (CreateRule days tags description delay) h = absurd h
decided rows at account (UpdateRule key days tags description) h = absurd h
decided rows at account (DeleteRule key) h = absurd h
decided rows at account (LockRule key delay) h = absurd h
decided rows at account (UnlockRule key) h = absurd h
decided rows at account (RestoreFromBin key) h = absurd h
decided rows at account (CreatePolicy targets hours time retain add) h = absurd h
decided rows at account (GetPolicy key) h = after IsShown _ _ (λ row. achieved tt)
decided rows at account (DeletePolicy key) h = absurd h
decided rows at account (RunPolicy key) h = absurd h

pub is_shown : (rows : Rows) (at : Moment) (account : ℕ) (r : Request) (d : Decision) → IsView r → Ok d ≡ decide rows at account r → IsShown d
is_shown rows at account r d h e = of_done IsShown d _ (sym e) (decided rows at account r h)

pub unshown : (d : Decision) → IsShown d → ((answer : Answer) → d ≡ decision.View answer → ⊥) → ((row : ReadRow) → d ≡ decision.Read row → ⊥) → ⊥
unshown (decision.Change change answer) h view read = h
unshown (decision.Kept answer) h view read = h
unshown (decision.View answer) h view read = view answer refl
unshown (decision.Read row) h view read = read row refl

-- what blocks answer has no bytes of theirs
listed : (hash : Hash) (m : Machine) (r : Request) (row : ReadRow) → IsView r → IfDone HasNoBytes (read hash m r row)
listed hash m (ListSnapshotBlocks key page most start) row h = after HasNoBytes _ _ (λ index. achieved tt)
listed hash m (ListChangedBlocks first second page most start) row h = search (passed, after, achieved) depth 12
listed hash m (DescribeSnapshot key) row h = refused
listed hash m (DescribeSnapshots from most) row h = refused
listed hash m (DescribeVolume key) row h = refused
listed hash m (GetRule key) row h = refused
listed hash m ListRules row h = refused
listed hash m (ListBin from most) row h = refused
listed hash m (StartSnapshot size parent description tags token timeout) row h = absurd h
listed hash m (PutSnapshotBlock key index digest bytes) row h = absurd h
listed hash m (CompleteSnapshot key count checksum) row h = absurd h
listed hash m (GetSnapshotBlock key index token) row h = absurd h
listed hash m (DeleteSnapshot key) row h = absurd h
listed hash m (ModifyPermission key add add_all remove remove_all) row h = absurd h
listed hash m (LockSnapshot key mode term cool_hours) row h = absurd h
listed hash m (UnlockSnapshot key) row h = absurd h
listed hash m (ArchiveSnapshot key) row h = absurd h
listed hash m (RestoreTier key days) row h = absurd h
listed hash m (CreateVolume origin size tags token) row h = absurd h
listed hash m (CreateSnapshot key description tags) row h = absurd h
listed hash m (WriteVolumeBlock key index digest bytes) row h = absurd h
listed hash m (ReadVolumeBlock key index) row h = absurd h
listed hash m (DeleteVolume key) row h = absurd h
listed hash m (CreateRule days tags description delay) row h = absurd h
listed hash m (UpdateRule key days tags description) row h = absurd h
listed hash m (DeleteRule key) row h = absurd h
listed hash m (LockRule key delay) row h = absurd h
listed hash m (UnlockRule key) row h = absurd h
listed hash m (RestoreFromBin key) row h = absurd h
listed hash m (CreatePolicy targets hours time retain add) row h = absurd h
listed hash m (GetPolicy key) row h = refused
listed hash m (DeletePolicy key) row h = absurd h
listed hash m (RunPolicy key) row h = absurd h

-- the machine is left, and no bytes are answered
record IsLeft (m : Machine) (d : Machine × Answer) : Type 0 where
  stays : d.0 ≡ m
  bytes : HasNoBytes d.1

module _ (hash : Hash) (m : Machine) (account : ℕ) (r : Request) (view : IsView r) where
  acts_so : act hash m account r ≡ (decide (rows_of m) m.clock account r >>= finish hash m r)
  acts_so = let l = look r view in λ i. l.sized i >> (l.unhashed hash i >> (decide (rows_of m) m.clock account r >>= finish hash m r))

  finished : (d : Decision) → IsShown d → IfDone (IsLeft m) (finish hash m r d)
  finished (decision.Change change answer) h = absurd h
  finished (decision.Kept answer) h = absurd h
  finished (decision.View answer) h = achieved (record { stays = refl; bytes = h })
  finished (decision.Read row) h = at (read hash m r row) (listed hash m r row view)
    where
      at : (x : Result Answer Refusal) → IfDone HasNoBytes x → IfDone (IsLeft m) (x >>= λ answer. Ok (m, answer))
      at (Ok answer) (achieved h) = achieved (record { stays = refl; bytes = h })
      at (Err refusal) h = refused

  looked : (x : Result Decision Refusal) → IfDone IsShown x → IfDone (IsLeft m) (x >>= finish hash m r)
  looked (Ok d) (achieved h) = finished d h
  looked (Err refusal) h = refused

  left : (n : Machine) (a : Answer) → act hash m account r ≡ Ok (n, a) → IsLeft m (n, a)
  left n a e = of_done (IsLeft m) (n, a) _ e (subst (IfDone (IsLeft m)) (sym acts_so) (looked (decide (rows_of m) m.clock account r) (decided (rows_of m) m.clock account r view)))

module _ (at : Machine) (account : ℕ) (r : Request) where
  -- a member out of its limits
  pub show_bad : (f : Failure) → Agrees (Err f) (refuse_bad (bad_member r)) → OnMemory {A = Unit {0}} (Err f) (NamesMember (refuse_bad (bad_member r))) → Shows at account r (Err f)
  show_bad (Refused refusal) e h = ap (λ (x : Result (Unit {0}) Refusal). x >> act same at account r) (sym e)
  show_bad Memory e h = named_wants at account r h

  module _ (view : IsView r) (passed : Ok tt ≡ refuse_bad (bad_member r)) where
    kept_is : kept_call at account r ≡ (decide (rows_of at) at.clock account r >>= finish same at r)
    kept_is = ap (λ (x : Result (Unit {0}) Refusal). x >> act same at account r) (sym passed) ∙ acts_so same at account r view

    decision_is : (d : Result Decision Refusal) → d ≡ decide (rows_of at) at.clock account r → kept_call at account r ≡ (d >>= finish same at r)
    decision_is d e = kept_is ∙ ap (λ (x : Result Decision Refusal). x >>= finish same at r) (sym e)

    pub show_refused : (refusal : Refusal) → Err refusal ≡ decide (rows_of at) at.clock account r → Shows at account r (Err (Refused refusal))
    show_refused refusal e = decision_is (Err refusal) e

    act_is : kept_call at account r ≡ act same at account r
    act_is = ap (λ (x : Result (Unit {0}) Refusal). x >> act same at account r) (sym passed)

    pub show_told : (f : Failure) → Tells f (act same at account r) → Shows at account r (Err f)
    show_told (Refused refusal) h = act_is ∙ sym h
    show_told Memory h = within_wants at account r passed h

    pub show_view : (answer : Answer) → Ok (decision.View answer) ≡ decide (rows_of at) at.clock account r → Shows at account r (Ok answer)
    show_view answer e = decision_is (Ok (decision.View answer)) e

    pub show_read : (row : ReadRow) (result : Result Answer Failure) → Ok (decision.Read row) ≡ decide (rows_of at) at.clock account r → Agrees result (read same at r row) → OnMemory result (IsAccepted (read same at r row)) → Shows at account r result
    show_read row (Ok answer) e h k = decision_is (Ok (decision.Read row)) e ∙ ap (λ (x : Result Answer Refusal). x >>= λ a. Ok (at, a)) (sym h)
    show_read row (Err (Refused refusal)) e h k = decision_is (Ok (decision.Read row)) e ∙ ap (λ (x : Result Answer Refusal). x >>= λ a. Ok (at, a)) (sym h)
    show_read row (Err Memory) e h k = subst (λ (x : Result (Machine × Answer) Refusal). MayRunOut x) (sym (decision_is (Ok (decision.Read row)) e)) (of (read same at r row) k)
      where
        of : (x : Result Answer Refusal) → IsAccepted x → MayRunOut {A = Machine × Answer} (x >>= λ a. Ok (at, a))
        of (Ok a) k = tt
        of (Err refusal) k = absurd k

-- ---- the store

pub told_shown : (s t : Seen) (account : ℕ) (now : Moment) (r : Request) (answer : Answer) → Shows (advance s.recorded now) account r (Ok answer) → t ≡ at_clock s now → Viewed s t account now r answer
told_shown s t account now r answer e is = shown answer e is

pub told_unshown : (s t : Seen) (account : ℕ) (now : Moment) (r : Request) (f : Failure) (answer : Answer) → Shows (advance s.recorded now) account r (Err f) → Fails s t now f answer → Viewed s t account now r answer
told_unshown s t account now r (Refused refusal) answer e how = subst (Viewed s t account now r) (sym how.1) (viewed.refused refusal e how.0)
told_unshown s t account now r Memory answer e how = subst (Viewed s t account now r) (sym how.1) (memory how.0)

module _ (v : View) (law : IsTrueToItself v) (acts : ActsAlike) (ages : AgesAlike) (s : Seen) (fit : Fit v s) (now : Moment) (account : ℕ) (r : Request) (view : IsView r) where
  abbrev M : Machine
  M = advance (recorded v s) now

  abbrev kept : Machine
  kept = advance s.recorded now

  abbrev Outcome : Type 0
  Outcome = Result (Machine × Answer) Refusal

  same_is : act same kept account r ≡ kept_outcome (act sha256 M account r)
  same_is = outcome_is v law acts ages s fit now account r r (look r view).bare

  whole : (answer : Answer) → act same kept account r ≡ Ok (kept, answer) → act sha256 M account r ≡ Ok (M, answer)
  whole answer e = at (act sha256 M account r) refl (sym same_is ∙ e)
    where
      at : (x : Outcome) → act sha256 M account r ≡ x → kept_outcome x ≡ Ok (kept, answer) → act sha256 M account r ≡ Ok (M, answer)
      at (Ok d) is f =
          let stays = (left sha256 M account r view d.0 d.1 is).stays in
          let answers = same_answer d.1 answer (second_is (digested d.0) kept (kept_answer d.1) answer f) (left same kept account r view kept answer e).bytes in
          is ∙ (λ i. Ok (stays i, answers i))
      at (Err refusal) is f = absurd (cc)

  call_shown : (o : Option (List ℕ)) (answer : Answer) → (refuse_bad o >> act same kept account r) ≡ Ok (kept, answer) → (refuse_bad o >> act sha256 M account r) ≡ Ok (M, answer)
  call_shown None answer e = whole answer e
  call_shown (Some name) answer e = absurd (cc)

  call_refused : (o : Option (List ℕ)) (refusal : Refusal) → (refuse_bad o >> act same kept account r) ≡ Err refusal → (refuse_bad o >> act sha256 M account r) ≡ Err refusal
  call_refused None refusal e = outcome_err (act sha256 M account r) refusal (sym same_is ∙ e)
  call_refused (Some name) refusal e = e

  -- the machine's own step
  pub turn_viewed : (t : Seen) (answer : Answer) → Viewed s t account now r answer → TurnAt v v s t account now r answer
  turn_viewed t answer (shown a e is) = inl (ap (settled M) (call_shown (bad_member r) answer e) ∙ (λ i. (running v (sym is i), answer)))
  turn_viewed t answer (viewed.refused refusal e is) = inl (ap (settled M) (call_refused (bad_member r) refusal e) ∙ (λ i. (running v (sym is i), answers.Refused refusal)))
  turn_viewed t answer (memory is) = inr (inr refl, ap (running v) is, ap (recorded v) is)
