-- The request that a change is recorded by.
use Rattle.std.proofs.Common.{◌≡◌, ◌⊎◌, inl, inr, ⊎_elim, ℕ, Bool, true, false, unwrap_or, List, [], ◌∷◌, Option, Some, None, Result, Ok, Err, refl, sym, ap, subst, ◌∙◌}
use Rattle.std.specs.Prelude.{codes}
use Rattle.std.specs.FinMap as fin
use Rattle.sha2.specs.Sha256.{sha256}
use Rattle.ebs_world.specs.Image.{Image}
use Rattle.ebs_world.specs.View.{View, Leaves, IsTrueToItself}
use Rattle.ebs_world.specs.inner.Runs.{leaves_weaker}
use Rattle.ebs_model.specs.declared.keys.SnapKey.{SnapKey}
use Rattle.ebs_model.specs.declared.keys.VolKey.{VolKey}
use Rattle.ebs_model.specs.declared.keys.Moment.{Moment}
use Rattle.ebs_model.specs.declared.keys.AnyKey.TheVariants.{Vol}
use Rattle.ebs_model.specs.declared.rows.SnapRow.{SnapRow}
use Rattle.ebs_model.specs.declared.rows.TokenRow.{TokenRow}
use Rattle.ebs_model.specs.declared.tags.Tag.{Tag}
use Rattle.ebs_model.specs.declared.request.Request.{Request}
use Rattle.ebs_model.specs.declared.request.Request.TheVariants.{StartSnapshot, PutSnapshotBlock, CompleteSnapshot, ListSnapshotBlocks, ListChangedBlocks, GetSnapshotBlock, DescribeSnapshot, DescribeSnapshots, DeleteSnapshot, ModifyPermission, LockSnapshot, UnlockSnapshot, ArchiveSnapshot, RestoreTier, CreateVolume, CreateSnapshot, WriteVolumeBlock, ReadVolumeBlock, DescribeVolume, DeleteVolume, CreateRule, GetRule, UpdateRule, DeleteRule, ListRules, LockRule, UnlockRule, ListBin, RestoreFromBin, CreatePolicy, GetPolicy, DeletePolicy, RunPolicy}
use Rattle.ebs_model.specs.declared.change.Change.{Change}
use Rattle.ebs_model.specs.declared.change.Decision.{Decision}
use Rattle.ebs_model.specs.declared.change.Decision.TheVariants as decision
use Rattle.ebs_model.specs.declared.answer.Answer.{Answer}
use Rattle.ebs_model.specs.declared.answer.Answer.TheVariants.{VolumeShown}
use Rattle.ebs_model.specs.declared.answer.Refusal.{Refusal}
use Rattle.ebs_model.specs.Refuse.{◌>>=◌}
use Rattle.ebs_model.specs.Limits.{bad_member, bad_create, are_tags, is_token_given, is_sized, is_size, unless}
use Rattle.ebs_model.specs.Arrays.{Hash}
use Rattle.ebs_model.specs.Rows.{first_use}
use Rattle.ebs_model.specs.Decisions.{makes}
use Rattle.ebs_model.specs.Decide.{decide}
use Rattle.ebs_model.specs.Calls.Start.{by_token, least_size}
use Rattle.ebs_model.specs.Calls.Volume.{next_volume, repeat_create, fresh_create, made_size, first_volume}
use Rattle.ebs_model.specs.Machine.{Machine, advance, rows_of}
use Rattle.ebs_model.specs.Kept.{same}
use Rattle.ebs_model.specs.inner.Kept.{ActsAlike, AgesAlike}
use Rattle.ebs_model.specs.Step.{act}
use Rattle.ebs_model.proofs.KeptLaw.{rows_of-digested}
use Rattle.ebs_catalog.proofs.Passes.{decided-passed}
use Rattle.ebs_kept.specs.inner.Shown.{AreGoodRows}
use Rattle.ebs_kept.proofs.Committed.{IsMadeGood}
use Rattle.ebs_kept.proofs.Volumes.{made-good}
use Rattle.ebs_kept.proofs.Decided.{IfDone, achieved, refused, passed, of_done}
use Rattle.ebs_recovery.specs.inner.Made.{Leads}
use Rattle.ebs_recovery.specs.Made.{called}
use Rattle.ebs_recovery.specs.inner.Fits.{Seen, Fit, recorded}
use Rattle.ebs_recovery.proofs.Created.{created_alike}
use Rattle.ebs_recovery.specs.inner.Changes.{IsRowChange}
use Rattle.ebs_disk_store.specs.inner.Calls.{IsRuled, size_of, size_or, with_size, recorded_request}
use Rattle.ebs_records.specs.declared.record.Record.TheVariants.{Accepted}
use Rattle.ebs_disk_store.specs.inner.Told.{called_at, mended, unsure}
use Rattle.ebs_disk_store.specs.inner.Turned.{IsLeft, MayLeave}
use Rattle.ebs_disk_store.proofs.PutRuled.{good_row}
use Rattle.ebs_disk_store.proofs.Steps as steps

-- it makes a volume
record IsCreation (r : Request) : Type 0 where
  pub origin : Option SnapKey
  pub size : Option ℕ
  pub tags : List Tag
  pub token : Option (List ℕ)
  pub is : r ≡ CreateVolume origin size tags token

-- it is recorded as it is asked
record IsItself (r : Request) : Type 0 where
  pub own : (made : Option ℕ) → with_size made r ≡ r
  pub recorded : (m : Machine) (account : ℕ) → recorded_request m account r ≡ r

creation_or : (r : Request) → IsRowChange r → IsCreation r ⊎ IsItself r
creation_or (CreateVolume origin size tags token) h = inl (record { origin = origin; size = size; tags = tags; token = token; is = refl })
creation_or (StartSnapshot size parent description tags token timeout) h = inr (record { own = λ made. refl; recorded = λ m account. refl })
creation_or (DeleteSnapshot key) h = inr (record { own = λ made. refl; recorded = λ m account. refl })
creation_or (ModifyPermission key add add_all remove remove_all) h = inr (record { own = λ made. refl; recorded = λ m account. refl })
creation_or (LockSnapshot key mode term cool_hours) h = inr (record { own = λ made. refl; recorded = λ m account. refl })
creation_or (UnlockSnapshot key) h = inr (record { own = λ made. refl; recorded = λ m account. refl })
creation_or (ArchiveSnapshot key) h = inr (record { own = λ made. refl; recorded = λ m account. refl })
creation_or (RestoreTier key days) h = inr (record { own = λ made. refl; recorded = λ m account. refl })
creation_or (CreateSnapshot key description tags) h = inr (record { own = λ made. refl; recorded = λ m account. refl })
creation_or (DeleteVolume key) h = inr (record { own = λ made. refl; recorded = λ m account. refl })
creation_or (CreateRule days tags description delay) h = inr (record { own = λ made. refl; recorded = λ m account. refl })
creation_or (UpdateRule key days tags description) h = inr (record { own = λ made. refl; recorded = λ m account. refl })
creation_or (DeleteRule key) h = inr (record { own = λ made. refl; recorded = λ m account. refl })
creation_or (LockRule key delay) h = inr (record { own = λ made. refl; recorded = λ m account. refl })
creation_or (UnlockRule key) h = inr (record { own = λ made. refl; recorded = λ m account. refl })
creation_or (RestoreFromBin key) h = inr (record { own = λ made. refl; recorded = λ m account. refl })
creation_or (CreatePolicy targets hours time retain add) h = inr (record { own = λ made. refl; recorded = λ m account. refl })
creation_or (GetPolicy key) h = absurd h
creation_or (DeletePolicy key) h = inr (record { own = λ made. refl; recorded = λ m account. refl })
creation_or (RunPolicy key) h = inr (record { own = λ made. refl; recorded = λ m account. refl })
creation_or (PutSnapshotBlock key index digest bytes) h = absurd h
creation_or (CompleteSnapshot key count checksum) h = inr (record { own = λ made. refl; recorded = λ m account. refl })
creation_or (ListSnapshotBlocks key page most start) h = absurd h
creation_or (ListChangedBlocks first second page most start) h = absurd h
creation_or (GetSnapshotBlock key index token) h = absurd h
creation_or (DescribeSnapshot key) h = absurd h
creation_or (DescribeSnapshots from most) h = absurd h
creation_or (WriteVolumeBlock key index digest bytes) h = absurd h
creation_or (ReadVolumeBlock key index) h = absurd h
creation_or (DescribeVolume key) h = absurd h
creation_or (GetRule key) h = absurd h
creation_or ListRules h = absurd h
creation_or (ListBin from most) h = absurd h

-- ---- the size that a creation makes

after_found : {A B : Type 0} (P : B → Type 0) (x : Result A Refusal) (f : A → Result B Refusal) → ((v : A) → x ≡ Ok v → IfDone P (f v)) → IfDone P (x >>= f)
after_found P (Ok v) f h = h v refl
after_found P (Err r) f h = refused

made_or : (size : Option ℕ) (least : ℕ) → size_or size (Ok least) ≡ Some (unwrap_or size least)
made_or None least = refl
made_or (Some size) least = refl

-- a change is made of the request that is recorded
abbrev IsOf : Request → Decision → Type 0
IsOf r (decision.Change c answer) = c.request ≡ r
IsOf r d = Unit {0}

module _ (m : Machine) (account : ℕ) (origin : Option SnapKey) (size : Option ℕ) (tags : List Tag) (token : Option (List ℕ)) where
  abbrev own : Request
  own = recorded_request m account (CreateVolume origin size tags token)

  creates : (o : Option TokenRow) → IfDone (IsOf own) (by_token o (repeat_create account origin size tags) (fresh_create (rows_of m) m.clock account origin size tags token))
  creates None =
      let key : VolKey = next_volume (rows_of m) account in
      let d : ℕ → Decision = λ wanted. decision.Change (makes account m.clock (CreateVolume origin (Some wanted) tags token) (Vol key ∷ [])) (VolumeShown true wanted origin tags key) in
      let made : (least : ℕ) → least_size (rows_of m) account m.clock.second origin ≡ Ok least → IfDone (IsOf own) (Ok (d (unwrap_or size least))) =
      λ least is. achieved {x = d (unwrap_or size least)} (ap (λ (made : Option ℕ). CreateVolume origin made tags token) (sym (ap (size_or size) is ∙ made_or size least))) in
      search (passed, after_found, made) depth 20
  creates (Some row) =
      let kept : Decision = decision.Kept (VolumeShown true (made_size row.first) origin tags (first_volume account row)) in
      let ended : IfDone (IsOf own) (Ok kept) = achieved {x = kept} tt in
      search (passed, ended) depth 20

  made_is : (c : Change) (answer : Answer) → decide (rows_of m) m.clock account (CreateVolume origin size tags token) ≡ Ok (decision.Change c answer) → c.request ≡ own
  made_is c answer e = of_done (IsOf own) (decision.Change c answer) _ e (creates (first_use (rows_of m) account token))

-- sizes are, through time
pub good_sizes : (m : Machine) (now : Moment) → AreGoodRows m.snaps → (key : SnapKey) (row : SnapRow) → fin.get (rows_of (advance m now)).snaps key ≡ Some row → is_size row.size ≡ true
good_sizes m now good key row e = (good_row m now row key good e).size

-- ---- what is recorded does the same

rest_holds : (b : Bool) (tags : List Tag) (token : Option (List ℕ)) → let rest = unless (are_tags tags) (codes "Tags") (unless (is_token_given token) (codes "ClientToken") None) in unless b (codes "Size") rest ≡ None → rest ≡ None
rest_holds true tags token e = e
rest_holds false tags token e = absurd (cc)

within_made : (origin : Option SnapKey) (size : Option ℕ) (tags : List Tag) (token : Option (List ℕ)) (made : ℕ) → bad_create origin size tags token ≡ None → bad_create origin (Some made) tags token ≡ None
within_made None size tags token made e = rest_holds (is_sized None size) tags token e
within_made (Some origin) size tags token made e = rest_holds (is_sized (Some origin) size) tags token e

pub record IsOwned (m : Machine) (account : ℕ) (request : Request) (change : Change) (answer : Answer) (own : Request) : Type 0 where
  pub is : own ≡ recorded_request m account request
  pub row : IsRowChange own
  pub within : bad_member own ≡ None
  pub ruled : IsRuled m account own change answer
  pub alike : (hash : Hash) (n : Machine) → rows_of n ≡ rows_of m → n.clock ≡ m.clock → act hash n account own ≡ act hash n account request

module _ (m : Machine) (account : ℕ) (change : Change) (answer : Answer) (good : (key : SnapKey) (row : SnapRow) → fin.get (rows_of m).snaps key ≡ Some row → is_size row.size ≡ true) where
  owned_created : (origin : Option SnapKey) (size : Option ℕ) (tags : List Tag) (token : Option (List ℕ)) → let request = CreateVolume origin size tags token in bad_member request ≡ None → IsRuled m account request change answer
      → decide (rows_of m) m.clock account request ≡ Ok (decision.Change change answer) → IsOwned m account request change answer (with_size (size_of change.request) request)
  owned_created origin size tags token within ruled decides =
      let request : Request = CreateVolume origin size tags token in
      let found = created_alike same m account origin size tags token change answer decides in
      let made : ℕ = found.0 in
      let own : Request = CreateVolume origin (Some made) tags token in
      let sized : is_size made ≡ true = subst IsMadeGood found.1 (made-good (rows_of m) change.at change.account change.shared good change.request (decided-passed (rows_of m) change ruled.decided)) in
      let is : own ≡ with_size (size_of change.request) request = ap (λ (r : Request). with_size (size_of r) request) (sym found.1) in
      subst (IsOwned m account request change answer) is (record {
        is = sym found.1 ∙ made_is m account origin size tags token change answer decides;
        row = tt;
        within = within_made origin size tags token made within;
        ruled = record {
          at = ruled.at;
          decided = ruled.decided;
          brings = ruled.brings;
          unspent = ruled.unspent;
          acts = ap (act same m account) (sym found.1) ∙ found.2 sized ∙ ruled.acts;
        };
        alike = λ hash n rows clock.
            let again = created_alike hash n account origin size tags token change answer ((λ i. decide (rows i) (clock i) account request) ∙ decides) in
            let same_made : again.0 ≡ made = made_same (sym again.1 ∙ found.1) in
            ap (λ (k : ℕ). act hash n account (CreateVolume origin (Some k) tags token)) (sym same_made) ∙ ap (act hash n account) (sym again.1) ∙ again.2 (subst (λ (k : ℕ). is_size k ≡ true) (sym same_made) sized);
      })
    where
      size_in : Request → ℕ
      size_in r = unwrap_or (size_of r) 0

      made_same : {a b : ℕ} → CreateVolume origin (Some a) tags token ≡ CreateVolume origin (Some b) tags token → a ≡ b
      made_same e = ap size_in e

  pub owned : (request : Request) → IsRowChange request → bad_member request ≡ None → IsRuled m account request change answer
      → decide (rows_of m) m.clock account request ≡ Ok (decision.Change change answer) → IsOwned m account request change answer (with_size (size_of change.request) request)
  owned request row within ruled decides = ⊎_elim
      (λ (c : IsCreation request). subst (λ (r : Request). bad_member r ≡ None → IsRuled m account r change answer → decide (rows_of m) m.clock account r ≡ Ok (decision.Change change answer) → IsOwned m account r change answer (with_size (size_of change.request) r))
      (sym c.is) (owned_created c.origin c.size c.tags c.token) within ruled decides)
      (λ (i : IsItself request). subst (IsOwned m account request change answer) (sym (i.own (size_of change.request)))
      (record { is = sym (i.recorded m account); row = row; within = within; ruled = ruled; alike = λ hash n rows clock. refl }))
      (creation_or request row)

-- ---- of the machine with bytes

module _ (v : View) (law : IsTrueToItself v) (acts : ActsAlike) (ages : AgesAlike) (s : Seen) (fit : Fit v s) (now : Moment) (account : ℕ) (request own : Request) (change : Change) (answer : Answer)
    (owns : IsOwned (advance s.recorded now) account request change answer own) where
  abbrev M : Machine
  M = advance (recorded v s) now

  alike_is : act sha256 M account own ≡ act sha256 M account request
  alike_is = owns.alike sha256 M (sym (ap rows_of (steps.kept_is v law acts ages s fit now account request (Rattle.ebs_model.specs.Kept.kept_request request) refl) ∙ rows_of-digested M)) refl

  pub leads_asked : (n : Machine) → Leads (recorded v s) (called (called_at account now own)) n → Leads (recorded v s) (called (called_at account now request)) n
  leads_asked n leads = (leads.0, sym alike_is ∙ leads.1)

  pub moments_asked : (Failed Told : Type 0) → (Failed → Told) → (new : View) (t : Seen) → Leaves v new (MayLeave Failed v new s t (called (called_at account now own))) → Leaves v new (MayLeave Told v new s t (called (called_at account now request)))
  moments_asked Failed Told told new t leaves = leaves_weaker v new (MayLeave Failed v new s t (called (called_at account now own))) (MayLeave Told v new s t (called (called_at account now request))) each leaves
    where
      each : (image : Image) → MayLeave Failed v new s t (called (called_at account now own)) image → MayLeave Told v new s t (called (called_at account now request)) image
      each image (inl one) = inl one
      each image (inr (inl stands)) = inr (inl stands)
      each image (inr (inr (failed, next))) = inr (inr (told failed, record { next = next.next; leads = leads_asked next.next next.leads; more = next.more; stands = next.stands }))

-- what isn't acknowledged is pending as it is recorded
pub left_asked : (s t : Seen) (account : ℕ) (now : Moment) (request own : Request) (change : Change) (answer : Answer) → IsOwned (advance s.recorded now) account request change answer own
    → (t ≡ s) ⊎ ((t ≡ mended s) ⊎ (t ≡ unsure (mended s) (Accepted (called_at account now own)))) → IsLeft s t account now request
left_asked s t account now request own change answer owns h = subst (λ (r : Request). (t ≡ s) ⊎ ((t ≡ mended s) ⊎ (t ≡ unsure (mended s) (Accepted (called_at account now r))))) owns.is h
