-- What rows can decide of each request.
use Rattle.std.proofs.Common.{◌≡◌, ℕ, ◌+◌, arith, Bool, true, false, not, nat_lt, unwrap_or, List, [], ◌∷◌, length, map, Option, None, Some, Result, Ok, Err, refl, sym, ap, subst, ◌∙◌}
use Rattle.ebs_model.specs.declared.keys.SnapKey.{SnapKey}
use Rattle.ebs_model.specs.declared.keys.VolKey.{VolKey}
use Rattle.ebs_model.specs.declared.keys.AnyKey.TheVariants.{Snap, Vol}
use Rattle.ebs_model.specs.declared.keys.PolicyKey.{PolicyKey}
use Rattle.ebs_model.specs.declared.policy.Policy.{Policy}
use Rattle.ebs_model.specs.declared.answer.QuotaName.TheVariants.{Snapshots, Ids}
use Rattle.ebs_model.specs.Quotas.{most_kept, most_ids}
use Rattle.ebs_model.specs.Calls.Run.{due_targets, new_keys, run_decided, decide_run}
use Rattle.ebs_kept.proofs.Runs.{AreMade}
use Rattle.std.proofs.lemmas.Bool.Decides.{nat_tests}
use Rattle.ebs_model.specs.declared.keys.Moment.{Moment}
use Rattle.ebs_model.specs.declared.request.Request.{Request}
use Rattle.ebs_model.specs.declared.request.Request.TheVariants.{StartSnapshot, PutSnapshotBlock, CompleteSnapshot, ListSnapshotBlocks, ListChangedBlocks, GetSnapshotBlock, DescribeSnapshot, DescribeSnapshots, DeleteSnapshot, ModifyPermission, LockSnapshot, UnlockSnapshot, ArchiveSnapshot, RestoreTier, CreateVolume, CreateSnapshot, WriteVolumeBlock, ReadVolumeBlock, DescribeVolume, DeleteVolume, CreateRule, GetRule, UpdateRule, DeleteRule, ListRules, LockRule, UnlockRule, ListBin, RestoreFromBin, CreatePolicy, GetPolicy, DeletePolicy, RunPolicy}
use Rattle.ebs_model.specs.declared.change.Change.{Change}
use Rattle.ebs_model.specs.declared.change.ReadRow.{ReadRow}
use Rattle.ebs_model.specs.declared.change.Decision.{Decision}
use Rattle.ebs_model.specs.declared.change.Decision.TheVariants as decision
use Rattle.ebs_model.specs.declared.answer.Answer.{Answer}
use Rattle.ebs_model.specs.declared.answer.Answer.TheVariants.{VolumeShown}
use Rattle.ebs_model.specs.declared.answer.Refusal.{Refusal}
use Rattle.ebs_model.specs.Limits.{bad_member, unless, is_description, are_tags, is_token_given, is_timeout, is_size, is_size_given, is_sized, is_retention, is_retention_given, are_targets, is_schedule, is_retain}
use Rattle.ebs_model.specs.Refuse.{◌>>=◌, ◌>>◌, refuse_if, some_or}
use Rattle.ebs_model.specs.Rows.{Rows, the_policy, kept_count, first_use}
use Rattle.ebs_model.specs.Calls.Start.{next_key, by_token, repeat_start, fresh_start}
use Rattle.ebs_model.specs.Calls.Volume.{next_volume, repeat_create, fresh_create}
use Rattle.ebs_model.specs.Decisions.{makes}
use Rattle.ebs_model.specs.declared.rows.TokenRow.{TokenRow}
use Rattle.ebs_model.specs.declared.tags.Tag.{Tag}
use Rattle.ebs_model.specs.Decide.{decide}
use Rattle.ebs_model.specs.Step.{refuse_size, refuse_digest, bytes_of, finish, act}
use Rattle.ebs_model.specs.Machine.{Machine, rows_of}
use Rattle.ebs_model.specs.Kept.{same}
use Rattle.ebs_model.specs.inner.Follows.{Follows, Agrees}
use Rattle.ebs_model.specs.declared.answer.Failure.{Failure}
use Rattle.ebs_model.specs.declared.answer.Failure.TheVariants.{Refused, Memory}
use Rattle.ebs_catalog.specs.Held.{IsFit, IsDecided}
use Rattle.std.proofs.Common.{◌==◌}
use Rattle.std.specs.FinMap.{get}
use Rattle.std.specs.Cmp.Lexicographic.{nat_list_eq_equiv}
use Rattle.ebs_model.specs.declared.rows.VolRow.{VolRow}
use Rattle.ebs_model.specs.declared.answer.Kind.TheVariants as kind
use Rattle.ebs_model.specs.declared.answer.Refusal.TheVariants.{NotFound, Checksum, Quota}
use Rattle.ebs_kept.specs.declared.place.Place.{Place}
use Rattle.ebs_kept.specs.declared.place.Place.TheVariants.{Upload, Volume}
use Rattle.ebs_holds.specs.Counted.{put_place}
use Rattle.ebs_kept.specs.inner.Requests.{with_digest, write_at, ReadsNoBlock, HasNoBlock, Brings, Decides}
use Rattle.ebs_kept.specs.inner.Counted.{PutsAsAsked}

pub data IfDone {A : Type 0} (P : A → Type 0) : Result A Refusal → Type 0 where
  achieved : {x : A} → P x → IfDone P (Ok x)
  refused : {r : Refusal} → IfDone P (Err r)

pub after : {A B : Type 0} (P : B → Type 0) (x : Result A Refusal) (f : A → Result B Refusal) → ((v : A) → IfDone P (f v)) → IfDone P (x >>= f)
after P (Ok v) f h = h v
after P (Err r) f h = refused

pub passed : {B : Type 0} (P : B → Type 0) (x : Result (Unit {0}) Refusal) (y : Result B Refusal) → IfDone P y → IfDone P (x >> y)
passed P (Ok u) y h = h
passed P (Err r) y h = refused

ok_same : {A : Type 0} (y x : A) → ◌≡◌ {A = Result A Refusal} (Ok y) (Ok x) → y ≡ x
ok_same y x e = cc

pub of_done : {A : Type 0} (P : A → Type 0) (x : A) (r : Result A Refusal) → r ≡ Ok x → IfDone P r → P x
of_done P x (Ok y) e (achieved p) = subst P (ok_same y x e) p
of_done P x (Err r) e d = cc

-- a change is made of its own request, at its moment
-- the quotas of a run, and what it does within them
abbrev within_quotas : Rows → Moment → ℕ → PolicyKey → Policy → Result Decision Refusal
within_quotas rows at account key p = do
  let more : ℕ = length (due_targets rows key p at.second)
  refuse_if (nat_lt most_kept (kept_count rows account + more)) (Quota Snapshots most_kept)
  refuse_if (nat_lt most_ids ((next_key rows account).number + more)) (Quota Ids most_ids)
  Ok (run_decided rows at account key p)

-- the account's policy that was found
found_policy : (rows : Rows) (account : ℕ) (key : PolicyKey) (p : Policy) → the_policy rows account key ≡ Ok p → (get rows.policies key ≡ Some p) × (account ≡ key.account)
found_policy rows account key p e = by (account == key.account) (get rows.policies key) refl refl e
  where
    same_number : (a b : ℕ) → (a == b) ≡ true → a ≡ b
    same_number a b t = grind (arith, nat_tests)

    by : (b : Bool) (o : Option Policy) → (account == key.account) ≡ b → get rows.policies key ≡ o → (refuse_if (not b) (NotFound kind.Policy) >> some_or o (NotFound kind.Policy)) ≡ Ok p
        → (get rows.policies key ≡ Some p) × (account ≡ key.account)
    by false o t is e = cc
    by true None t is e = cc
    by true (Some kept) t is e = (cc, same_number account key.account t)

abbrev IsOf : Rows → Moment → ℕ → Request → Decision → Type 0
IsOf rows at account request (decision.Change c answer) = (c.at ≡ at) × (c.account ≡ account) × ((digest : List ℕ) → Brings c.request digest (bytes_of (with_digest digest request))) × AreMade rows c.at.second c.made c.sources c.request × (put_place c.request ≡ put_place request)
IsOf rows at account request (decision.Kept answer) = Unit {0}
IsOf rows at account request (decision.View answer) = Unit {0}
IsOf rows at account request (decision.Read row) = Unit {0}

-- bytes are left out
abbrev bare : Request → Request
bare (PutSnapshotBlock key index digest bytes) = PutSnapshotBlock key index digest []
bare (WriteVolumeBlock key index digest bytes) = WriteVolumeBlock key index digest []
bare request = request

brings : (request : Request) (digest : List ℕ) → Brings (bare request) digest (bytes_of (with_digest digest request))
brings (StartSnapshot size parent description tags token timeout) digest = tt
brings (PutSnapshotBlock key index stated bytes) digest = refl
brings (CompleteSnapshot key count checksum) digest = tt
brings (ListSnapshotBlocks key page most start) digest = tt
brings (ListChangedBlocks first second page most start) digest = tt
brings (GetSnapshotBlock key index token) digest = tt
brings (DescribeSnapshot key) digest = tt
brings (DescribeSnapshots from most) digest = tt
brings (DeleteSnapshot key) digest = tt
brings (ModifyPermission key add add_all remove remove_all) digest = tt
brings (LockSnapshot key mode term cool_hours) digest = tt
brings (UnlockSnapshot key) digest = tt
brings (ArchiveSnapshot key) digest = tt
brings (RestoreTier key days) digest = tt
brings (CreateVolume origin size tags token) digest = tt
brings (CreateSnapshot source description tags) digest = tt
brings (WriteVolumeBlock key index stated bytes) digest = refl
brings (ReadVolumeBlock key index) digest = tt
brings (DescribeVolume key) digest = tt
brings (DeleteVolume key) digest = tt
brings (CreateRule days tags description delay) digest = tt
brings (GetRule key) digest = tt
brings (UpdateRule key days tags description) digest = tt
brings (DeleteRule key) digest = tt
brings ListRules digest = tt
brings (LockRule key delay) digest = tt
brings (UnlockRule key) digest = tt
brings (ListBin from most) digest = tt
brings (RestoreFromBin key) digest = tt
brings (CreatePolicy targets hours time retain add) digest = tt
brings (GetPolicy key) digest = tt
brings (DeletePolicy key) digest = tt
brings (RunPolicy key) digest = tt

-- and so is where it puts a block
bare-place : (request : Request) → put_place (bare request) ≡ put_place request
bare-place (StartSnapshot size parent description tags token timeout) = refl
bare-place (PutSnapshotBlock key index stated bytes) = refl
bare-place (CompleteSnapshot key count checksum) = refl
bare-place (ListSnapshotBlocks key page most start) = refl
bare-place (ListChangedBlocks first second page most start) = refl
bare-place (GetSnapshotBlock key index token) = refl
bare-place (DescribeSnapshot key) = refl
bare-place (DescribeSnapshots from most) = refl
bare-place (DeleteSnapshot key) = refl
bare-place (ModifyPermission key add add_all remove remove_all) = refl
bare-place (LockSnapshot key mode term cool_hours) = refl
bare-place (UnlockSnapshot key) = refl
bare-place (ArchiveSnapshot key) = refl
bare-place (RestoreTier key days) = refl
bare-place (CreateVolume origin size tags token) = refl
bare-place (CreateSnapshot source description tags) = refl
bare-place (WriteVolumeBlock key index stated bytes) = refl
bare-place (ReadVolumeBlock key index) = refl
bare-place (DescribeVolume key) = refl
bare-place (DeleteVolume key) = refl
bare-place (CreateRule days tags description delay) = refl
bare-place (GetRule key) = refl
bare-place (UpdateRule key days tags description) = refl
bare-place (DeleteRule key) = refl
bare-place ListRules = refl
bare-place (LockRule key delay) = refl
bare-place (UnlockRule key) = refl
bare-place (ListBin from most) = refl
bare-place (RestoreFromBin key) = refl
bare-place (CreatePolicy targets hours time retain add) = refl
bare-place (GetPolicy key) = refl
bare-place (DeletePolicy key) = refl
bare-place (RunPolicy key) = refl

module _ (rows : Rows) (at : Moment) (account : ℕ) where
  made-of : (request : Request) (c : Change) (answer : Answer) → c.at ≡ at → c.account ≡ account → c.request ≡ bare request → AreMade rows c.at.second c.made c.sources c.request → IfDone (IsOf rows at account request) (Ok (decision.Change c answer))
  made-of request c answer at_is account_is same made =
      achieved {x = decision.Change c answer} (at_is, account_is, (λ digest. subst (λ r. Brings r digest (bytes_of (with_digest digest request))) (sym same) (brings request digest)), made, ap put_place same ∙ bare-place request)

  read-of : (request : Request) (row : ReadRow) → IfDone (IsOf rows at account request) (Ok (decision.Read row))
  read-of request row = achieved {x = decision.Read row} tt

  view-of : (request : Request) (answer : Answer) → IfDone (IsOf rows at account request) (Ok (decision.View answer))
  view-of request answer = achieved {x = decision.View answer} tt

  kept-of : (request : Request) (answer : Answer) → IfDone (IsOf rows at account request) (Ok (decision.Kept answer))
  kept-of request answer = achieved {x = decision.Kept answer} tt

  start-of : (size : ℕ) (parent : Option SnapKey) (description : Option (List ℕ)) (tags : List Tag) (token : Option (List ℕ)) (timeout : ℕ) (o : Option TokenRow)
      → IfDone (IsOf rows at account (StartSnapshot size parent description tags token timeout)) (by_token o (repeat_start account size parent description tags timeout) (fresh_start rows at account size parent description tags token timeout))
  start-of size parent description tags token timeout None = search (passed, after, made-of) depth 20
  start-of size parent description tags token timeout (Some row) = search (passed, kept-of) depth 20

  create-of : (origin : Option SnapKey) (size : Option ℕ) (tags : List Tag) (token : Option (List ℕ)) (o : Option TokenRow)
      → IfDone (IsOf rows at account (CreateVolume origin size tags token)) (by_token o (repeat_create account origin size tags) (fresh_create rows at account origin size tags token))
  create-of origin size tags token None =
      let key : VolKey = next_volume rows account in
      let d : ℕ → Decision = λ wanted. decision.Change (makes account at (CreateVolume origin (Some wanted) tags token) (Vol key ∷ [])) (VolumeShown true wanted origin tags key) in
      let made : (least : ℕ) → IfDone (IsOf rows at account (CreateVolume origin size tags token)) (Ok (d (unwrap_or size least))) = λ least. achieved {x = d (unwrap_or size least)} (refl, refl, (λ digest. tt), tt, refl) in
      search (passed, after, made) depth 20
  create-of origin size tags token (Some row) = search (passed, kept-of) depth 20

  run-of : (key : PolicyKey) → IfDone (IsOf rows at account (RunPolicy key)) (decide_run rows at account key)
  run-of key = by (the_policy rows account key) refl
    where
      by : (x : Result Policy Refusal) → the_policy rows account key ≡ x → IfDone (IsOf rows at account (RunPolicy key)) (x >>= within_quotas rows at account key)
      by (Err r) is = refused
      by (Ok p) is =
          let (there, own) = found_policy rows account key p is in
          let done : IfDone (IsOf rows at account (RunPolicy key)) (Ok (run_decided rows at account key p)) =
          achieved {x = run_decided rows at account key p} (refl, refl, (λ digest. tt), (p, there, ap (λ n. map Snap (new_keys (next_key rows n) (due_targets rows key p at.second))) own, refl), refl) in
          search (passed, done) depth 20

  of-request : (request : Request) → IfDone (IsOf rows at account request) (decide rows at account request)
  of-request (StartSnapshot size parent description tags token timeout) = start-of size parent description tags token timeout (first_use rows account token)
  of-request (PutSnapshotBlock key index digest bytes) = search (passed, after, made-of) depth 20
  of-request (CompleteSnapshot key count checksum) = search (passed, after, made-of) depth 20
  of-request (ListSnapshotBlocks key page most start) = search (after, read-of) depth 20
  of-request (ListChangedBlocks first second page most start) = search (after, read-of) depth 20
  of-request (GetSnapshotBlock key index token) = search (after, read-of) depth 20
  of-request (DescribeSnapshot key) = search (passed, after, view-of) depth 20
  of-request (DescribeSnapshots from most) = view-of (DescribeSnapshots from most) _
  of-request (DeleteSnapshot key) = search (passed, after, made-of) depth 20
  of-request (ModifyPermission key add add_all remove remove_all) = search (passed, after, made-of) depth 20
  of-request (LockSnapshot key mode term cool_hours) = search (passed, after, made-of) depth 20
  of-request (UnlockSnapshot key) = search (passed, after, made-of) depth 20
  of-request (ArchiveSnapshot key) = search (passed, after, made-of) depth 20
  of-request (RestoreTier key days) = search (passed, after, made-of) depth 20
  of-request (CreateVolume origin size tags token) = create-of origin size tags token (first_use rows account token)
  of-request (CreateSnapshot source description tags) = search (passed, after, made-of) depth 20
  of-request (WriteVolumeBlock key index digest bytes) = search (passed, after, made-of) depth 20
  of-request (ReadVolumeBlock key index) = search (passed, after, read-of) depth 20
  of-request (DescribeVolume key) = search (passed, after, view-of) depth 20
  of-request (DeleteVolume key) = search (passed, after, made-of) depth 20
  of-request (CreateRule days tags description delay) = search (passed, after, made-of) depth 20
  of-request (GetRule key) = search (passed, after, view-of) depth 20
  of-request (UpdateRule key days tags description) = search (passed, after, made-of) depth 20
  of-request (DeleteRule key) = search (passed, after, made-of) depth 20
  of-request ListRules = view-of ListRules _
  of-request (LockRule key delay) = search (passed, after, made-of) depth 20
  of-request (UnlockRule key) = search (passed, after, made-of) depth 20
  of-request (ListBin from most) = view-of (ListBin from most) _
  of-request (RestoreFromBin key) = search (passed, after, made-of) depth 20
  of-request (CreatePolicy targets hours time retain add) = search (passed, after, made-of) depth 20
  of-request (GetPolicy key) = search (passed, after, view-of) depth 20
  of-request (DeletePolicy key) = search (passed, after, made-of) depth 20
  of-request (RunPolicy key) = run-of key

-- what a run makes
pub decided-made : (rows : Rows) (c : Change) → IsDecided rows c → AreMade rows c.at.second c.made c.sources c.request
decided-made rows c d =
    let (at_is, account_is, brings, made, placed) = of_done (IsOf rows c.at c.account d.request) (decision.Change c d.answer) _ d.gives (of-request rows c.at c.account d.request) in
    made

pub decides : (rows : Rows) (at : Moment) (account : ℕ) (request : Request) (digest : List ℕ) (d : Decision) → IsFit request → decide rows at account request ≡ Ok d → Decides rows at digest (bytes_of (with_digest digest request)) d
decides rows at account request digest (decision.Change c answer) fits e =
    let (at_is, account_is, brings, made, placed) = of_done (IsOf rows at account request) (decision.Change c answer) _ e (of-request rows at account request) in
    (at_is, record { request = request; answer = answer; fits = fits; gives = (λ i. decide rows (at_is i) (account_is i) request) ∙ e }, brings digest)
decides rows at account request digest (decision.Kept answer) fits e = tt
decides rows at account request digest (decision.View answer) fits e = tt
decides rows at account request digest (decision.Read row) fits e = tt

-- and puts a block where the request does
pub decides-asked : (rows : Rows) (at : Moment) (account : ℕ) (request : Request) (d : Decision) → decide rows at account request ≡ Ok d → PutsAsAsked request d
decides-asked rows at account request (decision.Change c answer) e =
    let (at_is, account_is, brings, made, placed) = of_done (IsOf rows at account request) (decision.Change c answer) _ e (of-request rows at account request) in
    placed
decides-asked rows at account request (decision.Kept answer) e = tt
decides-asked rows at account request (decision.View answer) e = tt
decides-asked rows at account request (decision.Read row) e = tt

-- the rows decide only whether a block is read
abbrev IsRead : Decision → Type 0
IsRead (decision.Change c answer) = ⊥
IsRead (decision.Kept answer) = ⊥
IsRead (decision.View answer) = ⊥
IsRead (decision.Read row) = Unit {0}

a-read : (row : ReadRow) → IfDone IsRead (Ok (decision.Read row))
a-read row = achieved {x = decision.Read row} tt

reads : (rows : Rows) (at : Moment) (account : ℕ) (key : SnapKey) (index : ℕ) (token : List ℕ) → IfDone IsRead (decide rows at account (GetSnapshotBlock key index token))
reads rows at account key index token = search (after, a-read) depth 20

pub only-read : (rows : Rows) (at : Moment) (account : ℕ) (key : SnapKey) (index : ℕ) (token : List ℕ) (d : Decision) → decide rows at account (GetSnapshotBlock key index token) ≡ Ok d → ((row : ReadRow) → d ≡ decision.Read row → ⊥) → ⊥
only-read rows at account key index token d e other = by d refl (of_done IsRead d _ e (reads rows at account key index token))
  where
    by : (x : Decision) → d ≡ x → IsRead x → ⊥
    by (decision.Change c answer) is t = t
    by (decision.Kept answer) is t = t
    by (decision.View answer) is t = t
    by (decision.Read row) is t = other row is

-- a read of a volume is of one that is there, and has its size
abbrev IsVolumeRead : Rows → VolKey → Decision → Type 0
IsVolumeRead rows key (decision.Change c answer) = ⊥
IsVolumeRead rows key (decision.Kept answer) = ⊥
IsVolumeRead rows key (decision.View answer) = ⊥
IsVolumeRead rows key (decision.Read row) = (volume : VolRow) × (get rows.vols key ≡ Some volume) × (row.size ≡ volume.size)

fetches : (rows : Rows) (at : Moment) (account : ℕ) (key : VolKey) (index : ℕ) → IfDone (IsVolumeRead rows key) (decide rows at account (ReadVolumeBlock key index))
fetches rows at account key index = by (not (account == key.account)) (get rows.vols key) refl
  where
    by : (b : Bool) (o : Option VolRow) → get rows.vols key ≡ o
        → IfDone (IsVolumeRead rows key) ((refuse_if b (NotFound kind.Volume) >> some_or o (NotFound kind.Volume)) >>= λ row. Ok (decision.Read (record { size = row.size; related = true })))
    by true o is = refused
    by false None is = refused
    by false (Some volume) is = achieved {x = decision.Read (record { size = volume.size; related = true })} (volume, is, refl)

pub volume-read : (rows : Rows) (at : Moment) (account : ℕ) (key : VolKey) (index : ℕ) (d : Decision) → decide rows at account (ReadVolumeBlock key index) ≡ Ok d → IsVolumeRead rows key d
volume-read rows at account key index d e = of_done (IsVolumeRead rows key) d _ e (fetches rows at account key index)

pub only-fetched : (rows : Rows) (at : Moment) (account : ℕ) (key : VolKey) (index : ℕ) (d : Decision) → decide rows at account (ReadVolumeBlock key index) ≡ Ok d → ((row : ReadRow) → d ≡ decision.Read row → ⊥) → ⊥
only-fetched rows at account key index d e other = by d refl (volume-read rows at account key index d e)
  where
    by : (x : Decision) → d ≡ x → IsVolumeRead rows key x → ⊥
    by (decision.Change c answer) is t = t
    by (decision.Kept answer) is t = t
    by (decision.View answer) is t = t
    by (decision.Read row) is t = other row is

-- a block that is written, with its bytes left out
pub write-fits : (place : Place) (index : ℕ) (digest bytes : List ℕ) → IsFit (write_at place index digest bytes)
write-fits (Upload key) index digest bytes = tt
write-fits (Volume key) index digest bytes = tt

pub write-reads : (place : Place) (index : ℕ) (digest bytes : List ℕ) → ReadsNoBlock (write_at place index digest bytes)
write-reads (Upload key) index digest bytes = tt
write-reads (Volume key) index digest bytes = tt

-- a write of a digest does what rows decide of it without bytes
puts : (m : Machine) (account : ℕ) (place : Place) (index : ℕ) (digest : List ℕ)
    → (decide (rows_of m) m.clock account (write_at place index digest []) >>= finish same m (with_digest digest (write_at place index digest []))) ≡ act same m account (write_at place index digest digest)
puts m account (Upload key) index digest =
    λ i. refuse_if (not (sym (nat_list_eq_equiv.refl digest) i)) (Checksum digest digest) >> (decide (rows_of m) m.clock account (PutSnapshotBlock key index digest []) >>= finish same m (PutSnapshotBlock key index digest digest))
puts m account (Volume key) index digest =
    λ i. refuse_if (not (sym (nat_list_eq_equiv.refl digest) i)) (Checksum digest digest) >> (decide (rows_of m) m.clock account (WriteVolumeBlock key index digest []) >>= finish same m (WriteVolumeBlock key index digest digest))

pub put-done : (m : Machine) (account : ℕ) (place : Place) (index : ℕ) (digest : List ℕ) (request : Request) (d : Decision) → request ≡ write_at place index digest [] → decide (rows_of m) m.clock account request ≡ Ok d
    → finish same m (with_digest digest request) d ≡ act same m account (write_at place index digest digest)
put-done m account place index digest request d is e =
    (λ i. sym e i >>= finish same m (with_digest digest request)) ∙ ap (λ r. decide (rows_of m) m.clock account r >>= finish same m (with_digest digest r)) is ∙ puts m account place index digest

pub put-failed : (m : Machine) (account : ℕ) (place : Place) (index : ℕ) (digest : List ℕ) (request : Request) (f : Failure) → request ≡ write_at place index digest [] → Agrees {A = Decision} (Err f) (decide (rows_of m) m.clock account request)
    → (k : Machine) → Follows k k (Err f) (act same m account (write_at place index digest digest))
put-failed m account place index digest request (Refused r) is h k = (
  ap (λ x. x >>= finish same m (with_digest digest request)) h ∙ ap (λ r. decide (rows_of m) m.clock account r >>= finish same m (with_digest digest r)) is ∙ puts m account place index digest,
  refl,
)
put-failed m account place index digest request Memory is h k = refl

-- what the tests on a request by itself leave
within : (a b c d : Bool) (x y z w : List ℕ) → unless a x (unless b y (unless c z (unless d w None))) ≡ None → d ≡ true
within true true true true x y z w e = refl
within true true true false x y z w e = cc
within true true false d x y z w e = cc
within true false c d x y z w e = cc
within false b c d x y z w e = cc

schedules : (a b c : Bool) (x y z : List ℕ) (rest : Option (List ℕ)) → unless a x (unless b y (unless c z rest)) ≡ None → (b ≡ true) × (c ≡ true)
schedules true true true x y z rest e = (refl, refl)
schedules true true false x y z rest e = cc
schedules true false c x y z rest e = cc
schedules false b c x y z rest e = cc

sized : (b : Bool) (r : Refusal) → refuse_if (not b) r ≡ Ok tt → b ≡ true
sized true r e = refl
sized false r e = cc

first : (a : Bool) (x : List ℕ) (rest : Option (List ℕ)) → unless a x rest ≡ None → a ≡ true
first true x rest e = refl
first false x rest e = cc

pub fits : (request : Request) → bad_member request ≡ None → refuse_size request ≡ Ok tt → IsFit request
fits (StartSnapshot size parent description tags token timeout) e s = (sized (is_size size) _ s, within (is_description description) (are_tags tags) (is_token_given token) (is_timeout timeout) _ _ _ _ e)
fits (PutSnapshotBlock key index digest bytes) e s = tt
fits (CompleteSnapshot key count checksum) e s = tt
fits (ListSnapshotBlocks key page most start) e s = tt
fits (ListChangedBlocks first second page most start) e s = tt
fits (GetSnapshotBlock key index token) e s = tt
fits (DescribeSnapshot key) e s = tt
fits (DescribeSnapshots from most) e s = tt
fits (DeleteSnapshot key) e s = tt
fits (ModifyPermission key add add_all remove remove_all) e s = tt
fits (LockSnapshot key mode term cool_hours) e s = tt
fits (UnlockSnapshot key) e s = tt
fits (ArchiveSnapshot key) e s = tt
fits (RestoreTier key days) e s = tt
fits (CreateVolume origin size tags token) e s = (sized (is_size_given size) _ s, first (is_sized origin size) _ _ e)
fits (CreateSnapshot source description tags) e s = tt
fits (WriteVolumeBlock key index digest bytes) e s = tt
fits (ReadVolumeBlock key index) e s = tt
fits (DescribeVolume key) e s = tt
fits (DeleteVolume key) e s = tt
fits (CreateRule days tags description delay) e s = first (is_retention days) _ _ e
fits (GetRule key) e s = tt
fits (UpdateRule key days tags description) e s = first (is_retention_given days) _ _ e
fits (DeleteRule key) e s = tt
fits ListRules e s = tt
fits (LockRule key delay) e s = tt
fits (UnlockRule key) e s = tt
fits (ListBin from most) e s = tt
fits (RestoreFromBin key) e s = tt
fits (CreatePolicy targets hours time retain add) e s = schedules (are_targets targets) (is_schedule hours time) (is_retain retain) _ _ _ _ e
fits (GetPolicy key) e s = tt
fits (DeletePolicy key) e s = tt
fits (RunPolicy key) e s = tt

-- a request that brings and reads no block is its own kept form
bare-itself : (digest : List ℕ) (request : Request) → HasNoBlock request → (with_digest digest request ≡ request) × (refuse_digest same request ≡ Ok tt)
bare-itself digest (StartSnapshot size parent description tags token timeout) none = (refl, refl)
bare-itself digest (PutSnapshotBlock key index stated bytes) none = absurd none
bare-itself digest (CompleteSnapshot key count checksum) none = (refl, refl)
bare-itself digest (ListSnapshotBlocks key page most start) none = (refl, refl)
bare-itself digest (ListChangedBlocks first second page most start) none = (refl, refl)
bare-itself digest (GetSnapshotBlock key index token) none = absurd none
bare-itself digest (DescribeSnapshot key) none = (refl, refl)
bare-itself digest (DescribeSnapshots from most) none = (refl, refl)
bare-itself digest (DeleteSnapshot key) none = (refl, refl)
bare-itself digest (ModifyPermission key add add_all remove remove_all) none = (refl, refl)
bare-itself digest (LockSnapshot key mode term cool_hours) none = (refl, refl)
bare-itself digest (UnlockSnapshot key) none = (refl, refl)
bare-itself digest (ArchiveSnapshot key) none = (refl, refl)
bare-itself digest (RestoreTier key days) none = (refl, refl)
bare-itself digest (CreateVolume origin size tags token) none = (refl, refl)
bare-itself digest (CreateSnapshot source description tags) none = (refl, refl)
bare-itself digest (WriteVolumeBlock key index stated bytes) none = absurd none
bare-itself digest (ReadVolumeBlock key index) none = absurd none
bare-itself digest (DescribeVolume key) none = (refl, refl)
bare-itself digest (DeleteVolume key) none = (refl, refl)
bare-itself digest (CreateRule days tags description delay) none = (refl, refl)
bare-itself digest (GetRule key) none = (refl, refl)
bare-itself digest (UpdateRule key days tags description) none = (refl, refl)
bare-itself digest (DeleteRule key) none = (refl, refl)
bare-itself digest ListRules none = (refl, refl)
bare-itself digest (LockRule key delay) none = (refl, refl)
bare-itself digest (UnlockRule key) none = (refl, refl)
bare-itself digest (ListBin from most) none = (refl, refl)
bare-itself digest (RestoreFromBin key) none = (refl, refl)
bare-itself digest (CreatePolicy targets hours time retain add) none = (refl, refl)
bare-itself digest (GetPolicy key) none = (refl, refl)
bare-itself digest (DeletePolicy key) none = (refl, refl)
bare-itself digest (RunPolicy key) none = (refl, refl)

pub acts : (m : Machine) (account : ℕ) (request : Request) (digest : List ℕ) (d : Decision) → HasNoBlock request → refuse_size request ≡ Ok tt → decide (rows_of m) m.clock account request ≡ Ok d
    → finish same m (with_digest digest request) d ≡ act same m account request
acts m account request digest d none sized decides =
    let (itself, unhashed) = bare-itself digest request none in
    ap (λ r. finish same m r d) itself ∙ (λ i. sym sized i >> (sym unhashed i >> (sym decides i >>= finish same m request)))
