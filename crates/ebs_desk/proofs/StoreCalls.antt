-- What a call of the store leaves of its leases and of its machine, and which answers it never gives.
use Rattle.std.proofs.Common.{◌≡◌, ◌≢◌, ℕ, Bool, true, false, if◌then◌else◌, List, Option, None, Some, Result, Ok, Err, ⊎_elim, inl, inr, refl, ap, sym, ◌∙◌, subst, is_some, ◌-◌}
use Rattle.std.specs.FinMap as fin
use Rattle.std.specs.FinMap.{nat_cmp-IsAntisymmetric}
use Rattle.std.specs.Cmp.{nat_cmp_total}
use Rattle.std.specs.Prelude.{nat_le}
use Rattle.sha2.specs.Sha256.{sha256}
use Rattle.ebs_tables.proofs.MapEdits.{remove-insert}
use Rattle.ebs_world.specs.View.{View}
use Rattle.ebs_model.specs.declared.keys.Moment.{Moment}
use Rattle.ebs_model.specs.declared.request.Request.{Request}
use Rattle.ebs_model.specs.declared.request.Request.TheVariants.{StartSnapshot, PutSnapshotBlock, CompleteSnapshot, ListSnapshotBlocks, ListChangedBlocks, GetSnapshotBlock, DescribeSnapshot, DescribeSnapshots, DeleteSnapshot, ModifyPermission, LockSnapshot, UnlockSnapshot, ArchiveSnapshot, RestoreTier, CreateVolume, CreateSnapshot, WriteVolumeBlock, ReadVolumeBlock, DescribeVolume, DeleteVolume, CreateRule, GetRule, UpdateRule, DeleteRule, ListRules, LockRule, UnlockRule, ListBin, RestoreFromBin, CreatePolicy, GetPolicy, DeletePolicy, RunPolicy}
use Rattle.ebs_model.specs.declared.answer.Answer.{Answer}
use Rattle.ebs_model.specs.declared.answer.Answer.TheVariants.{Refused, Memory}
use Rattle.ebs_model.specs.declared.answer.Refusal.{Refusal}
use Rattle.ebs_model.specs.declared.answer.Refusal.TheVariants.{BadParameter, Exhausted, Unavailable}
use Rattle.ebs_model.specs.declared.answer.Spent.TheVariants as spent
use Rattle.ebs_model.specs.Refuse.{◌>>◌, refuse_bad}
use Rattle.ebs_model.specs.Limits.{bad_member}
use Rattle.ebs_model.specs.Kept.{same}
use Rattle.ebs_model.specs.Machine.{Machine, advance}
use Rattle.ebs_model.specs.Step.{act}
use Rattle.ebs_lawful.specs.OwnAnswers.{IsOwn, IsOwnRefusal, IsOwnOutcome, CallsAnswerOwn, StepsAnswerOwn}
use Rattle.ebs_slots.specs.inner.Slots.{SlotTable, IsNext, forgotten, released, count_of, adopted, staged}
use Rattle.ebs_holds.specs.Counted.{without_stamp}
use Rattle.ebs_recovery.specs.inner.Fits.{Seen, running}
use Rattle.ebs_recovery.specs.inner.Changes.{IsRowChange}
use Rattle.ebs_disk_store.specs.declared.heads.PutHead.{PutHead}
use Rattle.ebs_disk_store.specs.declared.heads.PutHead.TheVariants as head
use Rattle.ebs_disk_store.specs.inner.Turned as turned
use Rattle.ebs_disk_store.specs.inner.Turned.{Told, IsSpared, IsLeft, IsStop, Turn}
use Rattle.ebs_disk_store.specs.inner.Viewed as viewed
use Rattle.ebs_disk_store.specs.inner.Viewed.{IsView, Viewed}
use Rattle.ebs_disk_store.specs.inner.Fetched as fetch
use Rattle.ebs_disk_store.specs.inner.Fetched.{IsFetch, Fetched}
use Rattle.ebs_disk_store.specs.inner.Puts as puts
use Rattle.ebs_disk_store.specs.inner.Puts.{WholePutTold, PutTold, IsPutLeft, IsWholeSpared, staged_in, with_bytes, bad_index, index_of}
use Rattle.ebs_collect.specs.declared.backlog.Progress.{Progress}
use Rattle.ebs_disk_store.specs.declared.collecting.Unavailable.{Unavailable as StoreUnavailable}
use Rattle.ebs_disk_store.specs.inner.Collected.{Sliced}
use Rattle.ebs_disk_store.specs.inner.Told.{without_lease}
use Rattle.ebs_desk.specs.Turns.{Tells}
use Rattle.ebs_desk.specs.Turns as tells
use Rattle.ebs_disk_store.specs.inner.Applied.{Applied, IsPut, shown, fetched, changed, put, bad, starved}

-- ---- the leases stay

abbrev AreLeft : Seen → Seen → Type 0
AreLeft s t = t.slots.leases ≡ s.slots.leases

leases_of : {s t : Seen} → t ≡ s → t.slots.leases ≡ s.slots.leases
leases_of is = ap (λ (z : Seen). z.slots.leases) is

-- a slot that nothing has is staged, and given up
given_up : (s : SlotTable) (slot : ℕ) (digest : List ℕ) → IsNext s slot → fin.remove (fin.insert s.leases slot digest) slot ≡ s.leases
given_up s slot digest next = remove-insert nat_cmp_total nat_cmp-IsAntisymmetric s.leases slot digest (ap is_some next.free.no_lease)

released_leases : (s : SlotTable) (stamp : ℕ) → (released s stamp).leases ≡ s.leases
released_leases s stamp = by_test (nat_le (count_of s stamp) 1)
  where
    by_test : (b : Bool) → (if b then forgotten s stamp else record s { counts = fin.insert s.counts stamp (count_of s stamp - 1) }).leases ≡ s.leases
    by_test true = refl
    by_test false = refl

stamp_leases : (s : SlotTable) (gone : Option ℕ) → (without_stamp s gone).leases ≡ s.leases
stamp_leases s None = refl
stamp_leases s (Some stamp) = released_leases s stamp

spared_leases : (s t : Seen) → IsSpared s t → AreLeft s t
spared_leases s t left = ⊎_elim (λ is. leases_of is) (λ is. leases_of is) left

left_leases : (s t : Seen) (account : ℕ) (now : Moment) (request : Request) → IsLeft s t account now request → AreLeft s t
left_leases s t account now request left = ⊎_elim (λ is. leases_of is) (λ more. ⊎_elim (λ is. leases_of is) (λ is. leases_of is) more) left

viewed_leases : (s t : Seen) (account : ℕ) (now : Moment) (request : Request) (answer : Answer) → Viewed s t account now request answer → AreLeft s t
viewed_leases s t account now request answer (viewed.shown a e is) = leases_of is
viewed_leases s t account now request answer (viewed.refused r e is) = leases_of is
viewed_leases s t account now request answer (viewed.memory is) = leases_of is

fetched_leases : (Still Rose : Type 0) (v : View) (s t : Seen) (account : ℕ) (now : Moment) (request : Request) (answer : Answer) → Fetched Still Rose v s t account now request answer → AreLeft s t
fetched_leases Still Rose v s t account now request answer (fetch.fetched digest bytes e hash is) = leases_of is
fetched_leases Still Rose v s t account now request answer (fetch.zeros e is still) = leases_of is
fetched_leases Still Rose v s t account now request answer (fetch.damaged stored found e differ there is) = leases_of is
fetched_leases Still Rose v s t account now request answer (fetch.refused r e is still) = leases_of is
fetched_leases Still Rose v s t account now request answer (fetch.unavailable digest rose e is) = leases_of is
fetched_leases Still Rose v s t account now request answer (fetch.memory still is) = leases_of is

told_leases : (Still Rose : Type 0) (s t : Seen) (account : ℕ) (now : Moment) (request : Request) (answer : Answer) → Told Still Rose s t account now request answer → AreLeft s t
told_leases Still Rose s t account now request answer (turned.made_change a e more clock at slots pending) = ap (λ (z : SlotTable). z.leases) slots
told_leases Still Rose s t account now request answer (turned.answered a e is still) = leases_of is
told_leases Still Rose s t account now request answer (turned.refused r e is still) = leases_of is
told_leases Still Rose s t account now request answer (turned.unavailable rose would left) = left_leases s t account now request left
told_leases Still Rose s t account now request answer (turned.memory left) = spared_leases s t left

put_leases : (Still Rose : Type 0) (s t : Seen) (account : ℕ) (now : Moment) (head : PutHead) (digest : List ℕ) (answer : Answer) → WholePutTold Still Rose s t account now head digest answer → AreLeft s t
put_leases Still Rose s t account now head digest answer (puts.put_made a e more clock at slot next gives pending) =
    ap (λ (z : SlotTable). z.leases) gives.is ∙ (stamp_leases (adopted (staged s.slots slot digest) slot s.recorded.stamps) gives.gone ∙ given_up s.slots slot digest next)
put_leases Still Rose s t account now head digest answer (puts.put_refused r e how) = ⊎_elim (λ h. leases_of h.0) (λ h. leases_of h.1.2 ∙ given_up s.slots h.1.0 digest h.1.1) how
put_leases Still Rose s t account now head digest answer (puts.put_unstaged rose tested left) = spared_leases s t left
put_leases Still Rose s t account now head digest answer (puts.put_unavailable rose would slot next left) =
    ⊎_elim (λ is. leases_of is) (λ more. ⊎_elim (λ is. leases_of is) (λ is. leases_of is) more) left ∙ given_up s.slots slot digest next
put_leases Still Rose s t account now head digest answer (puts.put_memory left) = ⊎_elim (λ is. leases_of is) (λ more. ⊎_elim (λ is. leases_of is) (λ h. leases_of h.2 ∙ given_up s.slots h.0 digest h.1) more) left

-- the lease of a put is spent
pub commit_leases : (Still Rose : Type 0) (s t : Seen) (account : ℕ) (now : Moment) (head : PutHead) (slot : ℕ) (digest : List ℕ) (answer : Answer) → PutTold Still Rose s t account now head slot digest answer → t.slots.leases ≡ fin.remove s.slots.leases slot
commit_leases Still Rose s t account now head slot digest answer (puts.made_change a e more clock at gives pending) =
    ap (λ (z : SlotTable). z.leases) gives.is ∙ stamp_leases (adopted s.slots slot s.recorded.stamps) gives.gone
commit_leases Still Rose s t account now head slot digest answer (puts.refused r e is still) = leases_of is
commit_leases Still Rose s t account now head slot digest answer (puts.unavailable rose would left) = ⊎_elim (λ is. leases_of is) (λ more. ⊎_elim (λ is. leases_of is) (λ is. leases_of is) more) left
commit_leases Still Rose s t account now head slot digest answer (puts.memory left) = spared_leases (without_lease s slot) t left

pub applied_leases : (Still Rose : Type 0) (v : View) (s t : Seen) (account : ℕ) (now : Moment) (request : Request) (answer : Answer) → Applied Still Rose v s t account now request answer → t.slots.leases ≡ s.slots.leases
applied_leases Still Rose v s t account now request answer (shown kind still told) = viewed_leases s t account now request answer told
applied_leases Still Rose v s t account now request answer (fetched kind told) = fetched_leases Still Rose v s t account now request answer told
applied_leases Still Rose v s t account now request answer (changed kind told) = told_leases Still Rose s t account now request answer told
applied_leases Still Rose v s t account now request answer (put head bytes is within told) = put_leases Still Rose s t account now head (sha256 bytes) answer told
applied_leases Still Rose v s t account now request answer (bad r e is still a) = leases_of is
applied_leases Still Rose v s t account now request answer (starved is still a) = leases_of is

pub slice_leases : (s t : Seen) (now : Moment) (work : ℕ) (done : Result Progress StoreUnavailable) → Sliced s t now work done → t.slots.leases ≡ s.slots.leases
slice_leases s t now work (Ok progress) told = told.0.slots.leases
slice_leases s t now work (Err unavailable) told = ⊎_elim (λ is. leases_of is) (λ more. ⊎_elim (λ is. leases_of is) (λ is. leases_of is) more) told

-- ---- a stop leaves the machine

not_stopped : (answer : Answer) → IsOwn answer → IsStop answer → ⊥
not_stopped answer own stop = ⊎_elim (λ e. subst IsOwn e own) (λ e. subst IsOwn e own) stop

pub stays : StepsAnswerOwn → (old new : View) (s t : Seen) (account : ℕ) (reading : Moment) (request : Request) (answer : Answer) → Turn old new s t account reading request answer → IsStop answer → running new t ≡ running old s
stays own old new s t account reading request answer (inl e) stop = absurd (not_stopped answer (subst IsOwn (ap (λ z. z.1) e) (own (running old s) account reading request)) stop)
stays own old new s t account reading request answer (inr h) stop = h.1

-- a put is no view
pub put_alone : (head : PutHead) (block : List ℕ) → IsView (with_bytes head block) → ⊥
put_alone (head.Snapshot key index digest) block view = view
put_alone (head.Volume key index digest) block view = view

-- ---- no answer is that turns are spent

abbrev AreLeftOut : Answer → Type 0
AreLeftOut answer = answer ≢ Refused (Exhausted spent.Turns)

abbrev IsOther : Answer → Type 0
IsOther (Refused (Exhausted spent.Turns)) = ⊥
IsOther answer = Unit {0}

other : (answer : Answer) → IsOther answer → AreLeftOut answer
other answer h e = subst IsOther e h

own_left : (answer : Answer) → IsOwn answer → AreLeftOut answer
own_left answer own e = subst IsOwn e own

module _ (own : CallsAnswerOwn) where
  -- of the kept form
  kept_own : (o : Option (List ℕ)) (m : Machine) (account : ℕ) (request : Request) → IsOwnOutcome (refuse_bad o >> act same m account request)
  kept_own None m account request = own same m account request
  kept_own (Some name) m account request = tt

  ok_own : (o : Option (List ℕ)) (m n : Machine) (account : ℕ) (request : Request) (answer : Answer) → (refuse_bad o >> act same m account request) ≡ Ok (n, answer) → IsOwn answer
  ok_own o m n account request answer e = subst IsOwnOutcome e (kept_own o m account request)

  err_own : (o : Option (List ℕ)) (m : Machine) (account : ℕ) (request : Request) (r : Refusal) → (refuse_bad o >> act same m account request) ≡ Err r → IsOwn (Refused r)
  err_own o m account request r e = subst IsOwnOutcome e (kept_own o m account request)

  viewed_own : (s t : Seen) (account : ℕ) (now : Moment) (request : Request) (answer : Answer) → Viewed s t account now request answer → (answer ≢ Memory) → IsOwn answer
  viewed_own s t account now request answer (viewed.shown a e is) fed = ok_own (bad_member request) (advance s.recorded now) _ account request a e
  viewed_own s t account now request answer (viewed.refused r e is) fed = err_own (bad_member request) (advance s.recorded now) account request r e
  viewed_own s t account now request answer (viewed.memory is) fed = absurd (fed refl)

  viewed_left : (s t : Seen) (account : ℕ) (now : Moment) (request : Request) (answer : Answer) → Viewed s t account now request answer → AreLeftOut answer
  viewed_left s t account now request answer (viewed.shown a e is) = own_left a (ok_own (bad_member request) (advance s.recorded now) _ account request a e)
  viewed_left s t account now request answer (viewed.refused r e is) = own_left (Refused r) (err_own (bad_member request) (advance s.recorded now) account request r e)
  viewed_left s t account now request answer (viewed.memory is) = other _ tt

  fetched_left : (Still Rose : Type 0) (v : View) (s t : Seen) (account : ℕ) (now : Moment) (request : Request) (answer : Answer) → Fetched Still Rose v s t account now request answer → AreLeftOut answer
  fetched_left Still Rose v s t account now request answer (fetch.fetched digest bytes e hash is) = other _ tt
  fetched_left Still Rose v s t account now request answer (fetch.zeros e is still) = other _ tt
  fetched_left Still Rose v s t account now request answer (fetch.damaged stored found e differ there is) = other _ tt
  fetched_left Still Rose v s t account now request answer (fetch.refused r e is still) = own_left (Refused r) (err_own (bad_member request) (advance s.recorded now) account request r e)
  fetched_left Still Rose v s t account now request answer (fetch.unavailable digest rose e is) = other _ tt
  fetched_left Still Rose v s t account now request answer (fetch.memory still is) = other _ tt

  told_left : (Still Rose : Type 0) (s t : Seen) (account : ℕ) (now : Moment) (request : Request) (answer : Answer) → Told Still Rose s t account now request answer → AreLeftOut answer
  told_left Still Rose s t account now request answer (turned.made_change a e more clock at slots pending) = own_left a (ok_own (bad_member request) (advance s.recorded now) _ account request a e)
  told_left Still Rose s t account now request answer (turned.answered a e is still) = own_left a (ok_own (bad_member request) (advance s.recorded now) _ account request a e)
  told_left Still Rose s t account now request answer (turned.refused r e is still) = own_left (Refused r) (err_own (bad_member request) (advance s.recorded now) account request r e)
  told_left Still Rose s t account now request answer (turned.unavailable rose would left) = other _ tt
  told_left Still Rose s t account now request answer (turned.memory left) = other _ tt

  put_left : (Still Rose : Type 0) (s t : Seen) (account : ℕ) (now : Moment) (head : PutHead) (digest : List ℕ) (answer : Answer) → WholePutTold Still Rose s t account now head digest answer → AreLeftOut answer
  put_left Still Rose s t account now head digest answer (puts.put_made a e more clock at slot next gives pending) = own_left a (ok_own (bad_index (index_of head)) (advance s.recorded now) _ account (with_bytes head digest) a e)
  put_left Still Rose s t account now head digest answer (puts.put_refused r e how) = own_left (Refused r) (err_own (bad_index (index_of head)) (advance s.recorded now) account (with_bytes head digest) r e)
  put_left Still Rose s t account now head digest answer (puts.put_unstaged rose tested left) = other _ tt
  put_left Still Rose s t account now head digest answer (puts.put_unavailable rose would slot next left) = other _ tt
  put_left Still Rose s t account now head digest answer (puts.put_memory left) = other _ tt

  commit_left : (Still Rose : Type 0) (s t : Seen) (account : ℕ) (now : Moment) (head : PutHead) (slot : ℕ) (digest : List ℕ) (answer : Answer) → PutTold Still Rose s t account now head slot digest answer → AreLeftOut answer
  commit_left Still Rose s t account now head slot digest answer (puts.made_change a e more clock at gives pending) = own_left a (ok_own (bad_index (index_of head)) (advance s.recorded now) _ account (with_bytes head digest) a e)
  commit_left Still Rose s t account now head slot digest answer (puts.refused r e is still) = own_left (Refused r) (err_own (bad_index (index_of head)) (advance s.recorded now) account (with_bytes head digest) r e)
  commit_left Still Rose s t account now head slot digest answer (puts.unavailable rose would left) = other _ tt
  commit_left Still Rose s t account now head slot digest answer (puts.memory left) = other _ tt

  bad_own : (o : Option (List ℕ)) (r : Refusal) → refuse_bad o ≡ Err r → IsOwn (Refused r)
  bad_own None r e = absurd (cc)
  bad_own (Some name) r e = subst IsOwnRefusal (same_err (BadParameter name) r e) tt
    where
      same_err : (q r : Refusal) → ◌≡◌ {A = Result (Unit {0}) Refusal} (Err q) (Err r) → q ≡ r
      same_err q r e = cc

  pub applied_left : (Still Rose : Type 0) (v : View) (s t : Seen) (account : ℕ) (now : Moment) (request : Request) (answer : Answer) → Applied Still Rose v s t account now request answer → AreLeftOut answer
  applied_left Still Rose v s t account now request answer (shown kind still told) = viewed_left s t account now request answer told
  applied_left Still Rose v s t account now request answer (fetched kind told) = fetched_left Still Rose v s t account now request answer told
  applied_left Still Rose v s t account now request answer (changed kind told) = told_left Still Rose s t account now request answer told
  applied_left Still Rose v s t account now request answer (put head bytes is within told) = put_left Still Rose s t account now head (sha256 bytes) answer told
  applied_left Still Rose v s t account now request answer (bad r e is still a) = own_left answer (subst IsOwn (sym a) (bad_own (bad_member request) r e))
  applied_left Still Rose v s t account now request answer (starved is still a) = λ e. absurd (starved_is (sym a ∙ e))
    where
      starved_is : Memory ≡ Refused (Exhausted spent.Turns) → ⊥
      starved_is e = cc

  -- ---- a call that reads no block and changes nothing isn't answered by E17

  record IsAlone (request : Request) : Type 0 where
    pub fetch : IsFetch request → ⊥
    pub change : IsRowChange request → ⊥
    pub put : IsPut request → ⊥

  view_alone : (request : Request) → IsView request → IsAlone request
  view_alone (StartSnapshot size parent description tags token timeout) h = absurd h
  view_alone (PutSnapshotBlock key index digest bytes) h = absurd h
  view_alone (CompleteSnapshot key count checksum) h = absurd h
  view_alone (ListSnapshotBlocks key page most start) h = record { fetch = λ x. x; change = λ x. x; put = λ x. x }
  view_alone (ListChangedBlocks first second page most start) h = record { fetch = λ x. x; change = λ x. x; put = λ x. x }
  view_alone (GetSnapshotBlock key index token) h = absurd h
  view_alone (DescribeSnapshot key) h = record { fetch = λ x. x; change = λ x. x; put = λ x. x }
  view_alone (DescribeSnapshots from most) h = record { fetch = λ x. x; change = λ x. x; put = λ x. x }
  view_alone (DeleteSnapshot key) h = absurd h
  view_alone (ModifyPermission key add add_all remove remove_all) h = absurd h
  view_alone (LockSnapshot key mode term cool_hours) h = absurd h
  view_alone (UnlockSnapshot key) h = absurd h
  view_alone (ArchiveSnapshot key) h = absurd h
  view_alone (RestoreTier key days) h = absurd h
  view_alone (CreateVolume origin size tags token) h = absurd h
  view_alone (CreateSnapshot volume description tags) h = absurd h
  view_alone (WriteVolumeBlock key index digest bytes) h = absurd h
  view_alone (ReadVolumeBlock key index) h = absurd h
  view_alone (DescribeVolume key) h = record { fetch = λ x. x; change = λ x. x; put = λ x. x }
  view_alone (DeleteVolume key) h = absurd h
  view_alone (CreateRule days tags description delay) h = absurd h
  view_alone (GetRule key) h = record { fetch = λ x. x; change = λ x. x; put = λ x. x }
  view_alone (UpdateRule key days tags description) h = absurd h
  view_alone (DeleteRule key) h = absurd h
  view_alone ListRules h = record { fetch = λ x. x; change = λ x. x; put = λ x. x }
  view_alone (LockRule key delay) h = absurd h
  view_alone (UnlockRule key) h = absurd h
  view_alone (ListBin from most) h = record { fetch = λ x. x; change = λ x. x; put = λ x. x }
  view_alone (RestoreFromBin key) h = absurd h
  view_alone (CreatePolicy targets hours time retain add) h = absurd h
  view_alone (GetPolicy key) h = record { fetch = λ x. x; change = λ x. x; put = λ x. x }
  view_alone (DeletePolicy key) h = absurd h
  view_alone (RunPolicy key) h = absurd h

  is_put : (head : PutHead) (bytes : List ℕ) → IsPut (with_bytes head bytes)
  is_put (head.Snapshot key index digest) bytes = tt
  is_put (head.Volume key index digest) bytes = tt

  own_up : (answer : Answer) → IsOwn answer → answer ≢ Refused Unavailable
  own_up answer own e = subst IsOwn e own

  pub view_up : (Still Rose : Type 0) (v : View) (s t : Seen) (account : ℕ) (now : Moment) (request : Request) (answer : Answer) → Applied Still Rose v s t account now request answer → answer ≡ Refused Unavailable → IsView request → ⊥
  view_up Still Rose v s t account now request answer (shown kind still told) fails view = own_up answer (viewed_own s t account now request answer told (λ e. fails_is (sym e ∙ fails))) fails
    where
      fails_is : Memory ≡ Refused Unavailable → ⊥
      fails_is e = cc
  view_up Still Rose v s t account now request answer (fetched kind told) fails view = (view_alone request view).fetch kind
  view_up Still Rose v s t account now request answer (changed kind told) fails view = (view_alone request view).change kind
  view_up Still Rose v s t account now request answer (put head bytes is within told) fails view = (view_alone request view).put (subst IsPut (sym is) (is_put head bytes))
  view_up Still Rose v s t account now request answer (bad r e is still a) fails view = own_up answer (subst IsOwn (sym a) (bad_own (bad_member request) r e)) fails
  view_up Still Rose v s t account now request answer (starved is still a) fails view = fails_is (sym a ∙ fails)
    where
      fails_is : Memory ≡ Refused Unavailable → ⊥
      fails_is e = cc

  -- E17 comes of a put only where the disk's count of faults rose
  pub commit_cause : (Still Rose : Type 0) (s t : Seen) (account : ℕ) (now : Moment) (head : PutHead) (slot : ℕ) (digest : List ℕ) (answer : Answer) → PutTold Still Rose s t account now head slot digest answer → answer ≡ Refused Unavailable → Rose
  commit_cause Still Rose s t account now head slot digest answer (puts.made_change a e more clock at gives pending) fails = absurd (own_up a (ok_own (bad_index (index_of head)) (advance s.recorded now) _ account (with_bytes head digest) a e) fails)
  commit_cause Still Rose s t account now head slot digest answer (puts.refused r e is still) fails = absurd (own_up (Refused r) (err_own (bad_index (index_of head)) (advance s.recorded now) account (with_bytes head digest) r e) fails)
  commit_cause Still Rose s t account now head slot digest answer (puts.unavailable rose would left) fails = rose
  commit_cause Still Rose s t account now head slot digest answer (puts.memory left) fails = absurd (fails_is fails)
    where
      fails_is : Memory ≡ Refused Unavailable → ⊥
      fails_is e = cc

  -- ---- of either kind

  pub tells_left : (Still Rose : Type 0) (v : View) (s t : Seen) (account : ℕ) (now : Moment) (request : Request) (answer : Answer) → Tells Still Rose v s t account now request answer → AreLeftOut answer
  tells_left Still Rose v s t account now request answer (tells.whole told) = applied_left Still Rose v s t account now request answer told
  tells_left Still Rose v s t account now request answer (tells.put head slot block is told) = commit_left Still Rose s t account now head slot (sha256 block) answer told

  pub tells_up : (Still Rose : Type 0) (v : View) (s t : Seen) (account : ℕ) (now : Moment) (request : Request) (answer : Answer) → Tells Still Rose v s t account now request answer → answer ≡ Refused Unavailable → IsView request → ⊥
  tells_up Still Rose v s t account now request answer (tells.whole told) fails view = view_up Still Rose v s t account now request answer told fails view
  tells_up Still Rose v s t account now request answer (tells.put head slot block is told) fails view = put_alone head block (subst IsView is view)
