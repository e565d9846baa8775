-- What want of memory in a part says of the whole call.
use Rattle.std.proofs.Common.{◌≡◌, ℕ, Bool, true, false, ◌&&◌, is_none, List, Option, None, Some, Result, Ok, Err, refl, sym, subst, ◌∙◌}
use Rattle.ebs_model.specs.declared.request.Request.{Request}
use Rattle.ebs_model.specs.declared.request.Request.TheVariants.{StartSnapshot, PutSnapshotBlock, CompleteSnapshot, ListSnapshotBlocks, ListChangedBlocks, GetSnapshotBlock, DescribeSnapshot, DescribeSnapshots, DeleteSnapshot, ModifyPermission, LockSnapshot, UnlockSnapshot, ArchiveSnapshot, RestoreTier, CreateVolume, CreateSnapshot, WriteVolumeBlock, ReadVolumeBlock, DescribeVolume, DeleteVolume, CreateRule, GetRule, UpdateRule, DeleteRule, ListRules, LockRule, UnlockRule, ListBin, RestoreFromBin, CreatePolicy, GetPolicy, DeletePolicy, RunPolicy}
use Rattle.ebs_model.specs.declared.change.Change.{Change}
use Rattle.ebs_model.specs.declared.change.ReadRow.{ReadRow}
use Rattle.ebs_model.specs.declared.change.Decision.{Decision}
use Rattle.ebs_model.specs.declared.change.Decision.TheVariants as decision
use Rattle.ebs_model.specs.declared.answer.Answer.{Answer}
use Rattle.ebs_model.specs.declared.answer.Refusal.{Refusal}
use Rattle.ebs_model.specs.declared.answer.Refusal.TheVariants.{Exhausted}
use Rattle.ebs_model.specs.declared.answer.Spent.TheVariants.{Changes}
use Rattle.ebs_model.specs.declared.answer.Failure.{Failure}
use Rattle.ebs_model.specs.declared.answer.Failure.TheVariants.{Refused, Memory}
use Rattle.ebs_model.specs.Refuse.{◌>>=◌, ◌>>◌, refuse_if}
use Rattle.ebs_model.specs.Kept.{same}
use Rattle.ebs_model.specs.Machine.{Machine, is_spent, rows_of}
use Rattle.ebs_model.specs.Decide.{decide}
use Rattle.ebs_model.specs.inner.Follows.{Follows}
use Rattle.ebs_model.specs.Rows.{Rows, first_use}
use Rattle.ebs_model.specs.inner.Rows.{aged}
use Rattle.ebs_model.specs.Calls.Start.{by_token, repeat_start, fresh_start}
use Rattle.ebs_model.specs.Calls.Volume.{repeat_create, fresh_create, decide_volume}
use Rattle.ebs_model.specs.Calls.Describe.{decide_describe}
use Rattle.ebs_model.specs.Calls.Delete.{decide_delete}
use Rattle.ebs_model.specs.Calls.Rule.{decide_rule, decide_get_rule}
use Rattle.ebs_model.specs.Calls.Policy.{decide_policy}
use Rattle.ebs_model.specs.Calls.Run.{decide_run}
use Rattle.ebs_model.specs.Calls.Bin.{decide_recover}
use Rattle.ebs_model.specs.declared.rules.RuleCommand.{RuleCommand}
use Rattle.ebs_model.specs.declared.rules.RuleCommand.TheVariants as rule
use Rattle.ebs_model.specs.Calls.Permission.{decide_permission}
use Rattle.ebs_model.specs.Calls.Disk.{decide_snap}
use Rattle.ebs_model.specs.declared.rows.TokenRow.{TokenRow}
use Rattle.ebs_model.specs.declared.tags.Tag.{Tag}
use Rattle.ebs_model.specs.declared.keys.SnapKey.{SnapKey}
use Rattle.ebs_model.specs.declared.keys.Moment.{Moment}
use Rattle.ebs_model.specs.Step.{refuse_size, refuse_digest, refuse_linear, finish, read, changed, bytes_of, act}
use Rattle.ebs_catalog.specs.Wants.{OnMemory, IsAccepted, IsSettled, NamesMember, HasName, MayWant}
use Rattle.ebs_kept.specs.declared.place.Place.{Place}
use Rattle.ebs_kept.specs.declared.place.Place.TheVariants.{Upload, Volume}
use Rattle.ebs_kept.specs.inner.Requests.{with_digest, write_at, HasNoBlock}
use Rattle.ebs_kept.specs.inner.Wants.{MayRunOut, is_copied_change, Tells}
use Rattle.ebs_kept.proofs.Settled.{linear-same}
use Rattle.ebs_kept.proofs.Decided.{IfDone, achieved, after, passed, of_done}

-- a failure that is handed on
pub weaker : {A : Type 0} (B P Q : Type 0) (result : Result A Failure) (f : Failure) → result ≡ Err f → (P → Q) → OnMemory result P → OnMemory {A = B} (Err f) Q
weaker {A} B P Q result f is k h = of f (subst (λ (r : Result A Failure). OnMemory r P) is h)
  where
    of : (f : Failure) → OnMemory {A = A} (Err f) P → OnMemory {A = B} (Err f) Q
    of (Refused r) h = tt
    of Memory h = k h

-- a failure that isn't want of memory
pub unwanted : (A B P : Type 0) (f : Failure) → OnMemory {A = A} (Err f) ⊥ → OnMemory {A = B} (Err f) P
unwanted A B P (Refused r) h = tt
unwanted A B P Memory h = absurd h

-- a result that is handed on
pub handed : {A : Type 0} (P Q : Type 0) (result : Result A Failure) → (P → Q) → OnMemory result P → OnMemory result Q
handed P Q (Ok value) k h = tt
handed P Q (Err (Refused r)) k h = tt
handed P Q (Err Memory) k h = k h

pub accepted : {A : Type 0} (x y : Result A Refusal) → x ≡ y → IsAccepted x → MayRunOut y
accepted {A} x y is h = of y (subst (λ (z : Result A Refusal). IsAccepted z) is h)
  where
    of : (y : Result A Refusal) → IsAccepted y → MayRunOut y
    of (Ok value) h = tt
    of (Err r) h = absurd h

left-by : {B : Type 0} (x : Result (Unit {0}) Refusal) (b : Bool) (r : Refusal) (z : B) → x ≡ Ok tt → b ≡ false → IsAccepted (x >> (refuse_if b r >> Ok z))
left-by x b r z p q = subst (λ (y : Result (Unit {0}) Refusal). IsAccepted (y >> (refuse_if b r >> Ok z))) (sym p) (subst (λ (c : Bool). IsAccepted (refuse_if c r >> Ok z)) (sym q) tt)

-- a change that was decided
pub wants-settled : (at : Machine) (digest : List ℕ) (request : Request) (change : Change) (answer : Answer)
    → (refuse_linear same at request ≡ Ok tt) × (is_spent at ≡ false) → IsAccepted (finish same at (with_digest digest request) (decision.Change change answer))
wants-settled at digest request change answer h =
    left-by (refuse_linear same at (with_digest digest request)) (is_spent at) (Exhausted Changes) (changed at (bytes_of (with_digest digest request)) change, answer) (linear-same at digest request ∙ h.0) h.1

read-same : (m : Machine) (digest : List ℕ) (request : Request) (row : ReadRow) → read same m (with_digest digest request) row ≡ read same m request row
read-same m digest (StartSnapshot size parent description tags token timeout) row = refl
read-same m digest (PutSnapshotBlock key index stated bytes) row = refl
read-same m digest (CompleteSnapshot key count checksum) row = refl
read-same m digest (ListSnapshotBlocks key page most start) row = refl
read-same m digest (ListChangedBlocks first second page most start) row = refl
read-same m digest (GetSnapshotBlock key index token) row = refl
read-same m digest (DescribeSnapshot key) row = refl
read-same m digest (DescribeSnapshots from most) row = refl
read-same m digest (DeleteSnapshot key) row = refl
read-same m digest (ModifyPermission key add add_all remove remove_all) row = refl
read-same m digest (LockSnapshot key mode term cool_hours) row = refl
read-same m digest (UnlockSnapshot key) row = refl
read-same m digest (ArchiveSnapshot key) row = refl
read-same m digest (RestoreTier key days) row = refl
read-same m digest (CreateVolume origin size tags token) row = refl
read-same m digest (CreateSnapshot source description tags) row = refl
read-same m digest (WriteVolumeBlock key index stated bytes) row = refl
read-same m digest (ReadVolumeBlock key index) row = refl
read-same m digest (DescribeVolume key) row = refl
read-same m digest (DeleteVolume key) row = refl
read-same m digest (CreateRule days tags description delay) row = refl
read-same m digest (GetRule key) row = refl
read-same m digest (UpdateRule key days tags description) row = refl
read-same m digest (DeleteRule key) row = refl
read-same m digest ListRules row = refl
read-same m digest (LockRule key delay) row = refl
read-same m digest (UnlockRule key) row = refl
read-same m digest (ListBin from most) row = refl
read-same m digest (RestoreFromBin key) row = refl
read-same m digest (CreatePolicy targets hours time retain add) row = refl
read-same m digest (GetPolicy key) row = refl
read-same m digest (DeletePolicy key) row = refl
read-same m digest (RunPolicy key) row = refl

answered : (m : Machine) (x : Result Answer Refusal) → IsAccepted x → IsAccepted {A = Machine × Answer} (x >>= λ answer. Ok (m, answer))
answered m (Ok answer) h = tt
answered m (Err r) h = absurd h

-- a page that was read
pub wants-read : (m : Machine) (digest : List ℕ) (request : Request) (row : ReadRow) → IsAccepted (read same m request row) → IsAccepted (finish same m (with_digest digest request) (decision.Read row))
wants-read m digest request row h =
    answered m (read same m (with_digest digest request) row) (subst (λ (x : Result Answer Refusal). IsAccepted x) (sym (read-same m digest request row)) h)

-- a call with a bad name is told by it
named : (m : Machine) (request : Request) (x : Result Decision Refusal) → NamesMember x → MayRunOut (x >>= finish same m request)
named m request (Ok d) h = absurd h
named m request (Err r) h = h

abbrev IsChange : Decision → Type 0
IsChange (decision.Change change answer) = Unit {0}
IsChange (decision.Kept answer) = ⊥
IsChange (decision.View answer) = ⊥
IsChange (decision.Read row) = ⊥

abbrev IsShown : Decision → Type 0
IsShown (decision.Change change answer) = ⊥
IsShown (decision.Kept answer) = Unit {0}
IsShown (decision.View answer) = Unit {0}
IsShown (decision.Read row) = ⊥

-- a decision that takes copies is a change or shows something, by the request
abbrev Wanted : Bool → Result Decision Refusal → Type 0
Wanted true (Ok d) = IsChange d
Wanted true (Err r) = ⊥
Wanted false (Ok d) = IsShown d
Wanted false (Err r) = HasName r

a-change : (change : Change) (answer : Answer) → IfDone IsChange (Ok (decision.Change change answer))
a-change change answer = achieved {x = decision.Change change answer} tt

a-view : (answer : Answer) → IfDone IsShown (Ok (decision.View answer))
a-view answer = achieved {x = decision.View answer} tt

a-kept : (answer : Answer) → IfDone IsShown (Ok (decision.Kept answer))
a-kept answer = achieved {x = decision.Kept answer} tt

of-change : (x : Result Decision Refusal) → IfDone IsChange x → IsSettled x → Wanted true x
of-change (Ok d) done h = of_done IsChange d (Ok d) refl done
of-change (Err r) done h = absurd h

of-shown : (x : Result Decision Refusal) → IfDone IsShown x → IsSettled x → Wanted false x
of-shown (Ok d) done h = of_done IsShown d (Ok d) refl done
of-shown (Err r) done h = absurd h

-- a start and a creation are a change where their client token is new, and else tell an earlier call's answer
module _ (rows : Rows) (at : Moment) (account : ℕ) (tags : List Tag) (token : Option (List ℕ)) where
  start-by : (size : ℕ) (parent : Option SnapKey) (description : Option (List ℕ)) (timeout : ℕ) (used : Option TokenRow)
      → IsSettled (by_token used (repeat_start account size parent description tags timeout) (fresh_start rows at account size parent description tags token timeout))
      → Wanted (is_none used) (by_token used (repeat_start account size parent description tags timeout) (fresh_start rows at account size parent description tags token timeout))
  start-by size parent description timeout None h = of-change (fresh_start rows at account size parent description tags token timeout) (search (passed, after, a-change) depth 20) h
  start-by size parent description timeout (Some row) h = of-shown (repeat_start account size parent description tags timeout row) (search (passed, a-kept) depth 20) h

  create-by : (origin : Option SnapKey) (size : Option ℕ) (used : Option TokenRow)
      → IsSettled (by_token used (repeat_create account origin size tags) (fresh_create rows at account origin size tags token))
      → Wanted (is_none used) (by_token used (repeat_create account origin size tags) (fresh_create rows at account origin size tags token))
  create-by origin size None h = of-change (fresh_create rows at account origin size tags token) (search (passed, after, a-change) depth 20) h
  create-by origin size (Some row) h = of-shown (repeat_create account origin size tags row) (search (passed, a-kept) depth 20) h

-- what is told where a decision is in want of memory
abbrev pub told : Bool → Failure
told true = Refused (Exhausted Changes)
told false = Memory

spent : {B : Type 0} (b : Bool) (z : B) → Tells (told (b && true)) (refuse_if b (Exhausted Changes) >> Ok z)
spent true z = refl
spent false z = tt

unspent : {B : Type 0} (b : Bool) (x : Result B Refusal) → MayRunOut x → Tells (told (b && false)) x
unspent true x h = h
unspent false x h = h

tells : (m : Machine) (request : Request) (copied : Bool) (x : Result Decision Refusal) → refuse_linear same m request ≡ Ok tt → Wanted copied x → Tells (told (is_spent m && copied)) (x >>= finish same m request)
tells m request true (Ok (decision.Change change answer)) linear w =
    subst (λ (y : Result (Unit {0}) Refusal). Tells {A = Machine × Answer} (told (is_spent m && true)) (y >> (refuse_if (is_spent m) (Exhausted Changes) >> Ok (changed m (bytes_of request) change, answer)))) (sym linear) (spent (is_spent m) (changed m (bytes_of request) change, answer))
tells m request true (Ok (decision.Kept answer)) linear w = absurd w
tells m request true (Ok (decision.View answer)) linear w = absurd w
tells m request true (Ok (decision.Read row)) linear w = absurd w
tells m request true (Err r) linear w = absurd w
tells m request false (Ok (decision.Change change answer)) linear w = absurd w
tells m request false (Ok (decision.Kept answer)) linear w = unspent {B = Machine × Answer} (is_spent m) (Ok (m, answer)) tt
tells m request false (Ok (decision.View answer)) linear w = unspent {B = Machine × Answer} (is_spent m) (Ok (m, answer)) tt
tells m request false (Ok (decision.Read row)) linear w = absurd w
tells m request false (Err r) linear w = unspent {B = Machine × Answer} (is_spent m) (Err r) w

-- where rows were in want of memory for their decision, spent changes are the call's refusal, and else it is none but by a member's name
wants-act : (m : Machine) (account : ℕ) (request : Request) → HasNoBlock request → refuse_size request ≡ Ok tt → MayWant request (decide (rows_of m) m.clock account request)
    → Tells (told (is_spent m && is_copied_change (rows_of m) account request)) (act same m account request)
wants-act m account request none sized h =
    subst (λ (x : Result (Unit {0}) Refusal). Tells (told (is_spent m && is_copied_change (rows_of m) account request)) (x >> (refuse_digest same request >> (decide (rows_of m) m.clock account request >>= finish same m request)))) (sym sized) (of request none h)
  where
    rows : Rows
    rows = rows_of m

    tells-of : (request : Request) (copied : Bool) → refuse_linear same m request ≡ Ok tt → Wanted copied (decide rows m.clock account request) → Tells (told (is_spent m && copied)) (decide rows m.clock account request >>= finish same m request)
    tells-of request copied linear w = tells m request copied (decide rows m.clock account request) linear w

    named-of : (request : Request) → NamesMember (decide rows m.clock account request) → Tells (told (is_spent m && false)) (decide rows m.clock account request >>= finish same m request)
    named-of request h = unspent (is_spent m) (decide rows m.clock account request >>= finish same m request) (named m request (decide rows m.clock account request) h)

    commanded : (request : Request) (command : RuleCommand) → IfDone IsChange (decide_rule rows m.clock account request command)
    commanded request command = search (after, a-change) depth 20

    of : (request : Request) → HasNoBlock request → MayWant request (decide rows m.clock account request)
        → Tells (told (is_spent m && is_copied_change rows account request)) (refuse_digest same request >> (decide rows m.clock account request >>= finish same m request))
    of (StartSnapshot size parent description tags token timeout) none h =
        tells-of (StartSnapshot size parent description tags token timeout) (is_none (first_use rows account token)) refl (start-by rows m.clock account tags token size parent description timeout (first_use rows account token) h)
    of (PutSnapshotBlock key index stated bytes) none h = absurd h
    of (CompleteSnapshot key count checksum) none h = named-of (CompleteSnapshot key count checksum) h
    of (ListSnapshotBlocks key page most start) none h = absurd h
    of (ListChangedBlocks first second page most start) none h = absurd h
    of (GetSnapshotBlock key index token) none h = absurd h
    of (DescribeSnapshot key) none h = tells-of (DescribeSnapshot key) false refl (of-shown (decide_describe rows m.clock account key) (search (after, a-view) depth 20) h)
    of (DescribeSnapshots from most) none h = tells-of (DescribeSnapshots from most) false refl tt
    of (DeleteSnapshot key) none h = tells-of (DeleteSnapshot key) true refl (of-change (decide_delete rows m.clock account key) (search (passed, after, a-change) depth 20) h)
    of (ModifyPermission key add add_all remove remove_all) none h =
        tells-of (ModifyPermission key add add_all remove remove_all) true refl (of-change (decide_permission rows m.clock account key add add_all remove remove_all) (search (passed, after, a-change) depth 20) h)
    of (LockSnapshot key mode term cool_hours) none h = named-of (LockSnapshot key mode term cool_hours) h
    of (UnlockSnapshot key) none h = named-of (UnlockSnapshot key) h
    of (ArchiveSnapshot key) none h = absurd h
    of (RestoreTier key days) none h = absurd h
    of (CreateVolume origin size tags token) none h =
        tells-of (CreateVolume origin size tags token) (is_none (first_use rows account token)) refl (create-by rows m.clock account tags token origin size (first_use rows account token) h)
    of (CreateSnapshot source description tags) none h = tells-of (CreateSnapshot source description tags) true refl (of-change (decide_snap rows m.clock account source description tags) (search (passed, after, a-change) depth 20) h)
    of (WriteVolumeBlock key index stated bytes) none h = absurd h
    of (ReadVolumeBlock key index) none h = absurd h
    of (DescribeVolume key) none h = tells-of (DescribeVolume key) false refl (of-shown (decide_volume rows account key) (search (after, a-view) depth 20) h)
    of (DeleteVolume key) none h = absurd h
    of (CreateRule days tags description delay) none h = tells-of (CreateRule days tags description delay) true refl (of-change (decide_rule rows m.clock account (CreateRule days tags description delay) (rule.Create days tags description delay)) (commanded (CreateRule days tags description delay) (rule.Create days tags description delay)) h)
    of (GetRule key) none h = tells-of (GetRule key) false refl (of-shown (decide_get_rule rows m.clock account key) (search (after, a-view) depth 20) h)
    of (UpdateRule key days tags description) none h = tells-of (UpdateRule key days tags description) true refl (of-change (decide_rule rows m.clock account (UpdateRule key days tags description) (rule.Update key days tags description)) (commanded (UpdateRule key days tags description) (rule.Update key days tags description)) h)
    of (DeleteRule key) none h = tells-of (DeleteRule key) true refl (of-change (decide_rule rows m.clock account (DeleteRule key) (rule.Delete key)) (commanded (DeleteRule key) (rule.Delete key)) h)
    of ListRules none h = tells-of ListRules false refl tt
    of (LockRule key delay) none h = tells-of (LockRule key delay) true refl (of-change (decide_rule rows m.clock account (LockRule key delay) (rule.Lock key delay)) (commanded (LockRule key delay) (rule.Lock key delay)) h)
    of (UnlockRule key) none h = tells-of (UnlockRule key) true refl (of-change (decide_rule rows m.clock account (UnlockRule key) (rule.Unlock key)) (commanded (UnlockRule key) (rule.Unlock key)) h)
    of (ListBin from most) none h = tells-of (ListBin from most) false refl tt
    of (RestoreFromBin key) none h = tells-of (RestoreFromBin key) true refl (of-change (decide_recover rows m.clock account key) (search (passed, after, a-change) depth 20) h)
    of (CreatePolicy targets hours time retain add) none h =
        tells-of (CreatePolicy targets hours time retain add) true refl (of-change (decide_policy rows m.clock account targets hours time retain add) (search (passed, after, a-change) depth 20) h)
    of (GetPolicy key) none h = absurd h
    of (DeletePolicy key) none h = absurd h
    of (RunPolicy key) none h = tells-of (RunPolicy key) true refl (of-change (decide_run rows m.clock account key) (search (passed, after, a-change) depth 20) h)

pub wants-by : (m : Machine) (account : ℕ) (request : Request) → HasNoBlock request → refuse_size request ≡ Ok tt → MayWant request (decide (rows_of m) m.clock account request)
    → (spent copied : Bool) → is_spent m ≡ spent → is_copied_change (rows_of m) account request ≡ copied → Tells (told (spent && copied)) (act same m account request)
wants-by m account request none sized h spent copied p q =
    subst (λ (b : Bool). Tells (told (b && copied)) (act same m account request)) p
    (subst (λ (b : Bool). Tells (told (is_spent m && b)) (act same m account request)) q (wants-act m account request none sized h))

-- what is told changes nothing
pub follows-told : (m : Machine) (f : Failure) (x : Result (Machine × Answer) Refusal) → Tells f x → Follows m m (Err f) x
follows-told m (Refused r) x h = (h, refl)
follows-told m Memory x h = refl

pub memory-told : (f : Failure) (x : Result (Machine × Answer) Refusal) → Tells f x → OnMemory {A = Answer} (Err f) (MayRunOut x)
memory-told (Refused r) x h = tt
memory-told Memory x h = h

-- a client token was used before or not, whatever time leaves of snapshots
pub first-aged : (now : ℕ) (rows : Rows) (account : ℕ) (token : Option (List ℕ)) → first_use (aged now rows) account token ≡ first_use rows account token
first-aged now rows account None = refl
first-aged now rows account (Some token) = refl

-- a block is written without any memory for what rows decide
pub write-wants : (place : Place) (index : ℕ) (digest bytes : List ℕ) (x : Result Decision Refusal) → MayWant (write_at place index digest bytes) x → ⊥
write-wants (Upload key) index digest bytes x h = h
write-wants (Volume key) index digest bytes x h = h
