-- A step of the machine is the step of its kept form.
use Rattle.std.proofs.Common.{◌≡◌, ℕ, Bool, true, false, not, cond, nat_le, unwrap_or, List, [], ◌∷◌, map, flat_map, Option, Some, None, Result, Ok, Err, refl, sym, ap, ◌∙◌}
use Rattle.std.specs.Option.{option_map}
use Rattle.std.specs.Cmp.{nat_cmp_total}
use Rattle.std.specs.FinMap as fin
use Rattle.std.specs.FinMap.{nat_cmp-IsAntisymmetric}
use Rattle.sha2.specs.Sha256.{sha256}
use Rattle.ebs_model.specs.declared.keys.SnapKey.{SnapKey}
use Rattle.ebs_model.specs.declared.keys.VolKey.{VolKey}
use Rattle.ebs_model.specs.declared.keys.Moment.{Moment}
use Rattle.ebs_model.specs.declared.views.LockName.{LockName}
use Rattle.ebs_model.specs.declared.rows.SnapRow.{SnapRow}
use Rattle.ebs_model.specs.declared.rows.VolRow.{VolRow}
use Rattle.ebs_model.specs.declared.rows.TokenRow.{TokenRow}
use Rattle.ebs_model.specs.declared.tags.Tag.{Tag}
use Rattle.ebs_model.specs.declared.request.Request.{Request}
use Rattle.ebs_model.specs.declared.request.Request.TheVariants.{StartSnapshot, PutSnapshotBlock, CompleteSnapshot, ListSnapshotBlocks, ListChangedBlocks, GetSnapshotBlock, DescribeSnapshot, DescribeSnapshots, DeleteSnapshot, ModifyPermission, LockSnapshot, UnlockSnapshot, ArchiveSnapshot, RestoreTier, CreateVolume, CreateSnapshot, WriteVolumeBlock, ReadVolumeBlock, DescribeVolume, DeleteVolume, CreateRule, GetRule, UpdateRule, DeleteRule, ListRules, LockRule, UnlockRule, ListBin, RestoreFromBin, CreatePolicy, GetPolicy, DeletePolicy, RunPolicy}
use Rattle.ebs_model.specs.declared.keys.RuleKey.{RuleKey}
use Rattle.ebs_model.specs.declared.keys.PolicyKey.{PolicyKey}
use Rattle.ebs_model.specs.declared.policy.Policy.{Policy}
use Rattle.ebs_model.specs.declared.policy.Retain.{Retain}
use Rattle.ebs_model.specs.declared.rules.Rule.{Rule}
use Rattle.ebs_model.specs.declared.rules.RuleTag.{RuleTag}
use Rattle.ebs_model.specs.declared.rules.RuleCommand.{RuleCommand}
use Rattle.ebs_model.specs.declared.rules.RuleCommand.TheVariants as rule
use Rattle.ebs_model.specs.declared.rules.RuleChange.{RuleChange}
use Rattle.ebs_model.specs.declared.rules.RuleChange.TheVariants.{Put, Remove}
use Rattle.ebs_model.specs.declared.change.Change.{Change}
use Rattle.ebs_model.specs.declared.change.Decision.{Decision}
use Rattle.ebs_model.specs.declared.change.Decision.TheVariants as decision
use Rattle.ebs_model.specs.declared.keys.AnyKey.TheVariants.{Snap, Vol}
use Rattle.ebs_model.specs.declared.keys.AnyKey.TheVariants as any
use Rattle.ebs_model.specs.declared.answer.Spent.TheVariants.{Changes}
use Rattle.ebs_model.specs.declared.answer.Answer.{Answer}
use Rattle.ebs_model.specs.declared.answer.Answer.TheVariants as answer
use Rattle.ebs_model.specs.declared.answer.Refusal.{Refusal}
use Rattle.ebs_model.specs.declared.answer.Refusal.TheVariants.{BadIndex, BadBlockToken, Unrelated, Exhausted}
use Rattle.ebs_model.specs.Keys.{snap_cmp, vol_cmp}
use Rattle.ebs_model.specs.Refuse.{◌>>=◌, ◌>>◌, refuse_if, some_or}
use Rattle.ebs_model.specs.Arrays.{WholeBlock, WholeArray, digest_of, linear}
use Rattle.ebs_model.specs.Lists.{Pair, from_index, page_of, next_of}
use Rattle.ebs_model.specs.inner.MapValues.{map_values}
use Rattle.ebs_model.specs.Time.{Snapshot}
use Rattle.ebs_model.specs.Rows.{Rows, is_key}
use Rattle.ebs_model.specs.declared.rows.LockState.{LockState}
use Rattle.ebs_model.specs.declared.rows.Tier.{Tier}
use Rattle.ebs_model.specs.declared.lock.LockMode.{LockMode}
use Rattle.ebs_model.specs.declared.lock.Term.{Term}
use Rattle.ebs_model.specs.Calls.Lock.{lock_answer}
use Rattle.ebs_model.specs.Views.{lock_shown, lock_until, tier_shown, restore_until, view_of}
use Rattle.ebs_model.specs.Decisions.{makes, alters, shares, ends}
use Rattle.ebs_model.specs.Decide.{decide, commit}
use Rattle.ebs_model.specs.Machine.{Machine, snap_rows, rows_of, array_at, array_of, disk_of, put_at, put_of, with_arrays, is_spent}
use Rattle.ebs_model.specs.Calls.Complete.{refuse_checksum}
use Rattle.ebs_model.specs.Calls.List.{entry, block_list, token_of, changed_entry, differences, change_list, begins, next_page, after, block_life, is_same_line, read_list, read_changes}
use Rattle.ebs_model.specs.Calls.Start.{next_key, by_token, first_made}
use Rattle.ebs_model.specs.Calls.Volume.{next_volume, made_size, first_volume}
use Rattle.ebs_model.specs.Calls.Get.{read_block}
use Rattle.ebs_model.specs.Calls.Disk.{snapped_row, block_or_zeros, read_volume}
use Rattle.ebs_model.specs.Quotas.{blocks_of}
use Rattle.ebs_model.specs.Calls.Permission.{permitted}
use Rattle.ebs_model.specs.Rules.{rule_view}
use Rattle.ebs_model.specs.Calls.Rule.{made_rules, is_creation, rule_answer, decide_rule}
use Rattle.ebs_model.specs.Calls.Bin.{recovered}
use Rattle.ebs_model.specs.Calls.Policy.{next_policy}
use Rattle.ebs_model.specs.Calls.Run.{due_targets, new_keys, run_released, run_ended, run_change, run_source, run_decided}
use Rattle.ebs_model.specs.Tokens.{is_block_token}
use Rattle.ebs_model.specs.Step.{act, finish, changed, array_after, disks_after, begun_array, is_made, source_array}
use Rattle.ebs_model.specs.Kept.{same, kept_request}
use Rattle.ebs_model.specs.inner.Kept.{digested, digested_block, digested_array, digested_snapshot, kept_outcome}
use Rattle.ebs_model.specs.inner.Orders.{snaps_total, vols_total, exact_vols}
use Rattle.ebs_model.proofs.RowLaws.{get-row, get-with, row_in, with_array, same_rows, same_snaps}
use Rattle.ebs_model.proofs.Values.{get-map_values, map_values-insert, map_values-remove, map_values-empty}
use Rattle.ebs_model.proofs.ListValues.{from-values, changed-values, shown_pair, page-mapped, next-mapped, same-maps}

abbrev Outcome : Type 0
Outcome = Result (Machine × Answer) Refusal

-- one line of a `do`
passed : (x : Result (Unit {0}) Refusal) (a b : Outcome) → b ≡ kept_outcome a → (x >> b) ≡ kept_outcome (x >> a)
passed (Ok u) a b e = e
passed (Err r) a b e = refl

-- what holds of what is decided, where something is
data IfDone {A : Type 0} (P : A → Type 0) : Result A Refusal → Type 0 where
  achieved : {x : A} → P x → IfDone P (Ok x)
  refused : {r : Refusal} → IfDone P (Err r)

after_it : {A B : Type 0} (P : B → Type 0) (x : Result A Refusal) (f : A → Result B Refusal) → ((v : A) → IfDone P (f v)) → IfDone P (x >>= f)
after_it P (Ok v) f h = h v
after_it P (Err r) f h = refused

tested : {B : Type 0} (P : B → Type 0) (x : Result (Unit {0}) Refusal) (y : Result B Refusal) → IfDone P y → IfDone P (x >> y)
tested P (Ok u) y h = h
tested P (Err r) y h = refused

by_use : (P : Decision → Type 0) (o : Option TokenRow) (repeat : TokenRow → Result Decision Refusal) (fresh : Result Decision Refusal) → ((row : TokenRow) → IfDone P (repeat row)) → IfDone P fresh → IfDone P (by_token o repeat fresh)
by_use P None repeat fresh f g = g
by_use P (Some row) repeat fresh f g = f row

-- the rows of the kept form are the machine's
row-digested : (o : Option Snapshot) → row_in (option_map digested_snapshot o) ≡ row_in o
row-digested None = refl
row-digested (Some s) = refl

pub rows-digested : (m : fin.FinMap snap_cmp Snapshot) → snap_rows (map_values digested_snapshot m) ≡ snap_rows m
rows-digested m = same_rows _ _ (λ q. get-row (map_values digested_snapshot m) q ∙ ap row_in (get-map_values snaps_total digested_snapshot m q) ∙ row-digested (fin.get m q) ∙ sym (get-row m q))

pub rows_of-digested : (m : Machine) → rows_of (digested m) ≡ rows_of m
rows_of-digested m = λ i. record { snaps = rows-digested m.snaps i; own = m.own; tokens = m.tokens; vols = m.vols; books = m.books; policies = m.policies }

-- its arrays are the digested ones, and its put sets the machine's
array-digested : (o : Option Snapshot) → array_at (option_map digested_snapshot o) ≡ digested_array (array_at o)
array-digested None = sym (map_values-empty nat_cmp_total digested_block nat_cmp-IsAntisymmetric)
array-digested (Some s) = refl

disk_in-digested : (o : Option WholeArray) → unwrap_or (option_map digested_array o) fin.empty ≡ digested_array (unwrap_or o fin.empty)
disk_in-digested None = sym (map_values-empty nat_cmp_total digested_block nat_cmp-IsAntisymmetric)
disk_in-digested (Some a) = refl

pub disk_of-digested : (m : Machine) (key : VolKey) → disk_of (digested m) key ≡ digested_array (disk_of m key)
disk_of-digested m key = ap (λ (o : Option WholeArray). unwrap_or o fin.empty) (get-map_values vols_total digested_array m.disks key) ∙ disk_in-digested (fin.get m.disks key)

pub array_of-digested : (m : Machine) (key : SnapKey) → array_of (digested m) key ≡ digested_array (array_of m key)
array_of-digested m key = ap array_at (get-map_values snaps_total digested_snapshot m.snaps key) ∙ array-digested (fin.get m.snaps key)

put-digested : (o : Option Snapshot) → put_at (option_map digested_snapshot o) ≡ put_at o
put-digested None = refl
put-digested (Some s) = refl

put_of-digested : (m : Machine) (key : SnapKey) → put_of (digested m) key ≡ put_of m key
put_of-digested m key = ap put_at (get-map_values snaps_total digested_snapshot m.snaps key) ∙ put-digested (fin.get m.snaps key)

-- snapshots of rows and digested arrays
pub with-digested : (r : fin.FinMap snap_cmp SnapRow) (array : SnapKey → WholeArray) → with_arrays r (λ q. digested_array (array q)) ≡ map_values digested_snapshot (with_arrays r array)
with-digested r array = same_snaps _ _ (λ q.
    get-with r (λ q. digested_array (array q)) q ∙ at q (fin.get r q) ∙ ap (option_map digested_snapshot) (sym (get-with r array q)) ∙ sym (get-map_values snaps_total digested_snapshot (with_arrays r array) q))
  where
    at : (q : SnapKey) (o : Option SnapRow) → option_map (with_array (digested_array (array q))) o ≡ option_map digested_snapshot (option_map (with_array (array q)) o)
    at q None = refl
    at q (Some row) = refl

-- a change whose arrays are the digested ones
module _ (m : Machine) (bytes digest : List ℕ) (c : Change) where
  built : fin.FinMap snap_cmp Snapshot → fin.FinMap vol_cmp WholeArray → Rows → Machine
  built snaps disks r = record (changed m bytes c) { snaps = snaps; own = r.own; tokens = r.tokens; vols = r.vols; disks = disks; books = r.books; policies = r.policies }

  changed-disks : ((q : SnapKey) → array_after (digested m) digest c q ≡ digested_array (array_after m bytes c q)) → disks_after (digested m) digest c ≡ map_values digested_array (disks_after m bytes c)
      → changed (digested m) digest c ≡ digested (changed m bytes c)
  unfolding built
  changed-disks h d = λ i. built (snaps i) (d i) (commit (rows_of-digested m i) c)
    where
      snaps : with_arrays (commit (rows_of (digested m)) c).snaps (array_after (digested m) digest c) ≡ map_values digested_snapshot (with_arrays (commit (rows_of m) c).snaps (array_after m bytes c))
      snaps = (λ i. with_arrays (commit (rows_of-digested m i) c).snaps (λ q. h q i)) ∙ with-digested (commit (rows_of m) c).snaps (array_after m bytes c)

done : (n m : Machine) (a : Answer) → n ≡ m → ◌≡◌ {A = Outcome} (Ok (n, a)) (Ok (m, a))
done n m a e = ap (λ (x : Machine). Ok (x, a)) e

-- a lock that is shown, or that isn't there, carries no bytes
shown : (n m : Machine) (o : Option LockName) (until : Option Moment) → n ≡ digested m → ◌≡◌ {A = Outcome} (Ok (n, lock_answer o until)) (kept_outcome (Ok (m, lock_answer o until)))
shown n m None until e = ap (λ (x : Machine). Ok (x, answer.Done)) e
shown n m (Some name) until e = ap (λ (x : Machine). Ok (x, answer.LockShown name until)) e

chosen : (b : Bool) (x y u v : WholeArray) → x ≡ digested_array u → y ≡ digested_array v → cond b x y ≡ digested_array (cond b u v)
chosen true x y u v e f = e
chosen false x y u v e f = f

begun-digested : (m : Machine) (parent : Option SnapKey) → begun_array (digested m) parent ≡ digested_array (begun_array m parent)
begun-digested m None = sym (map_values-empty nat_cmp_total digested_block nat_cmp-IsAntisymmetric)
begun-digested m (Some parent) = array_of-digested m parent

-- the rows are the same, so the same is decided
module _ (m : Machine) (account : ℕ) (request : Request) where
  abbrev finish_kept : Decision → Outcome
  finish_kept d = finish same (digested m) (kept_request request) d

  abbrev finish_whole : Decision → Outcome
  finish_whole d = finish sha256 m request d

  abbrev IsKept : Decision → Type 0
  IsKept d = finish_kept d ≡ kept_outcome (finish_whole d)

  ended : (x : Result Decision Refusal) → IfDone IsKept x → (x >>= finish_kept) ≡ kept_outcome (x >>= finish_whole)
  ended (Ok d) (achieved e) = e
  ended (Err r) refused = refl

  decided : (x : Rows → Result Decision Refusal) → IfDone IsKept (x (rows_of m)) → (x (rows_of (digested m)) >>= finish_kept) ≡ kept_outcome (x (rows_of m) >>= finish_whole)
  decided x e = ap (λ (r : Rows). x r >>= finish_kept) (rows_of-digested m) ∙ ended (x (rows_of m)) e

start-kept : (m : Machine) (account size : ℕ) (parent : Option SnapKey) (description : Option (List ℕ)) (tags : List Tag) (token : Option (List ℕ)) (timeout : ℕ)
    → let r : Request = StartSnapshot size parent description tags token timeout in act same (digested m) account r ≡ kept_outcome (act sha256 m account r)
start-kept m account size parent description tags token timeout =
    let r : Request = StartSnapshot size parent description tags token timeout in
    let key : SnapKey = next_key (rows_of m) account in
    let c : Change = makes account m.clock r (Snap key ∷ []) in
    let kept : IfDone (IsKept m account r) (Ok (decision.Change c (answer.Started description account parent key m.clock tags size))) = achieved (passed _ _ _ (done _ _ _
    (changed-disks m [] [] c (λ q. chosen (is_made q (Some key)) _ _ _ _ (begun-digested m parent) (array_of-digested m q)) refl))) in
    let again : (row : TokenRow) → IfDone (IsKept m account r) (Ok (decision.Kept (answer.Started description account parent (first_made account row) row.at tags size))) = λ row. achieved refl in
    passed _ _ _ (decided m account r (λ rows. decide rows m.clock account r) (search (by_use, tested, after_it, kept, again) depth 20))

put-kept : (m : Machine) (account : ℕ) (key : SnapKey) (index : ℕ) (digest bytes : List ℕ)
    → act same (digested m) account (PutSnapshotBlock key index digest (sha256 bytes)) ≡ kept_outcome (act sha256 m account (PutSnapshotBlock key index digest bytes))
put-kept m account key index digest bytes =
    let r : Request = PutSnapshotBlock key index digest bytes in
    let c : Change = alters account m.clock (PutSnapshotBlock key index digest []) in
    let kept : IfDone (IsKept m account r) (Ok (decision.Change c (answer.BlockWritten digest))) = achieved (passed _ _ _ (done _ _ _
    (changed-disks m bytes (sha256 bytes) c (λ q. chosen (is_key q key) _ _ _ _ (inserted q) (array_of-digested m q)) refl))) in
    passed _ _ _ (decided m account r (λ rows. decide rows m.clock account r) (search (tested, after_it, kept) depth 20))
  where
    inserted : (q : SnapKey) → fin.insert (array_of (digested m) q) index (record { stamp = m.stamps; bytes = sha256 bytes }) ≡ digested_array (fin.insert (array_of m q) index (record { stamp = m.stamps; bytes = bytes }))
    inserted q = ap (λ (a : WholeArray). fin.insert a index (record { stamp = m.stamps; bytes = sha256 bytes })) (array_of-digested m q)
        ∙ sym (map_values-insert nat_cmp_total digested_block nat_cmp-IsAntisymmetric (array_of m q) index (record { stamp = m.stamps; bytes = bytes }))

digest-kept : (o : Option WholeBlock) → digest_of same (option_map digested_block o) ≡ digest_of sha256 o
digest-kept None = refl
digest-kept (Some b) = refl

joined : (f g : ℕ → List ℕ) → ((i : ℕ) → f i ≡ g i) → (is : List ℕ) → flat_map f is ≡ flat_map g is
joined f g e is = ap (λ (h : ℕ → List ℕ). flat_map h is) (λ j i. e i j)

linear-kept : (m : Machine) (key : SnapKey) → linear same (array_of (digested m) key) (put_of (digested m) key) ≡ linear sha256 (array_of m key) (put_of m key)
linear-kept m key = (λ i. linear same (array_of-digested m key i) (put_of-digested m key i))
    ∙ ap sha256 (joined _ _ (λ index. ap (digest_of same) (get-map_values nat_cmp_total digested_block (array_of m key) index) ∙ digest-kept (fin.get (array_of m key) index)) (put_of m key))

complete-kept : (m : Machine) (account : ℕ) (key : SnapKey) (count : ℕ) (checksum : Option (List ℕ))
    → let r : Request = CompleteSnapshot key count checksum in act same (digested m) account r ≡ kept_outcome (act sha256 m account r)
complete-kept m account key count checksum =
    let r : Request = CompleteSnapshot key count checksum in
    let c : Change = alters account m.clock r in
    let kept : IfDone (IsKept m account r) (Ok (decision.Change c answer.Completed)) = achieved (
    ap (λ (x : Result (Unit {0}) Refusal). x >> (refuse_if (is_spent m) (Exhausted Changes) >> Ok (changed (digested m) [] c, answer.Completed))) (ap (refuse_checksum checksum) (linear-kept m key))
    ∙ passed _ _ _ (passed _ _ _ (done _ _ _ (changed-disks m [] [] c (array_of-digested m) refl)))) in
    decided m account r (λ rows. decide rows m.clock account r) (search (tested, after_it, kept) depth 20)

-- what is read of digested arrays
entries-kept : (secret : List ℕ) (key : SnapKey) (now : ℕ) (array : WholeArray) (most index : ℕ) → map (entry secret key now) (page_of most (from_index (digested_array array) index)) ≡ map (entry secret key now) (page_of most (from_index array index))
entries-kept secret key now array most index =
    ap (λ (es : List (ℕ × WholeBlock)). map (entry secret key now) (page_of most es)) (from-values digested_block array index)
    ∙ page-mapped (λ (e : ℕ × WholeBlock). (e.0, digested_block e.1)) (entry secret key now) most (from_index array index)

next-kept : (array : WholeArray) (most index : ℕ) → next_of (λ (e : ℕ × WholeBlock). e.0) most (from_index (digested_array array) index) ≡ next_of (λ e. e.0) most (from_index array index)
next-kept array most index =
    ap (λ (es : List (ℕ × WholeBlock)). next_of (λ e. e.0) most es) (from-values digested_block array index)
    ∙ next-mapped (λ (e : ℕ × WholeBlock). (e.0, digested_block e.1)) (λ (e : ℕ × WholeBlock). e.0) (λ e. e.0) most (from_index array index)

list-shown : (secret : List ℕ) (key : SnapKey) (now size : ℕ) (array : WholeArray) (most index : ℕ) → block_list secret key now size (digested_array array) most index ≡ block_list secret key now size array most index
list-shown secret key now size array most index =
    λ i. answer.BlockList (entries-kept secret key now array most index i) (after now block_life) (next_page secret false key key now (next-kept array most index i)) size

mapped_token : (secret : List ℕ) (key : SnapKey) (now index : ℕ) (o : Option WholeBlock) → token_of secret key now index (option_map digested_block o) ≡ token_of secret key now index o
mapped_token secret key now index None = refl
mapped_token secret key now index (Some b) = refl

changes-shown : (secret : List ℕ) (first second : SnapKey) (now size : ℕ) (a b : WholeArray) (most index : ℕ) → change_list secret first second now size (digested_array a) (digested_array b) most index ≡ change_list secret first second now size a b most index
changes-shown secret first second now size a b most index = λ i. answer.ChangedList
    ((ap (λ (es : List (Pair WholeBlock)). map (changed_entry secret first second now) (page_of most es)) all
    ∙ page-mapped (shown_pair digested_block digested_block) (changed_entry secret first second now) most (differences a b index)
    ∙ same-maps _ (changed_entry secret first second now) (λ p. λ j. record { index = p.index; first = mapped_token secret first now p.index p.first j; second = mapped_token secret second now p.index p.second j }) (page_of most (differences a b index))) i)
    (after now block_life)
    (next_page secret true first second now ((ap (λ (es : List (Pair WholeBlock)). next_of (λ p. p.index) most es) all ∙ next-mapped (shown_pair digested_block digested_block) (λ (p : Pair WholeBlock). p.index) (λ p. p.index) most (differences a b index)) i))
    size
  where
    all : differences (digested_array a) (digested_array b) index ≡ map (shown_pair digested_block digested_block) (differences a b index)
    all = changed-values digested_block digested_block (λ b. b.stamp) (λ b. b.stamp) (λ x. refl) (λ x. refl) a b index

-- an answer that shows no bytes
abbrev answered : Machine → Result Answer Refusal → Outcome
answered m x = x >>= λ a. Ok (m, a)

list-kept : (m : Machine) (account : ℕ) (key : SnapKey) (page : Option (List ℕ)) (most start : ℕ)
    → let r : Request = ListSnapshotBlocks key page most start in act same (digested m) account r ≡ kept_outcome (act sha256 m account r)
list-kept m account key page most start =
    let r : Request = ListSnapshotBlocks key page most start in
    let kept : (row : SnapRow) → IfDone (IsKept m account r) (Ok (decision.Read (record { size = row.size; related = true }))) = λ row. achieved (
    ap (λ (a : WholeArray). answered (digested m) (read_list m.secret key m.clock.second row.size a page most start)) (array_of-digested m key)
    ∙ listed row.size (begins m.secret false key key m.clock.second page start)) in
    decided m account r (λ rows. decide rows m.clock account r) (search (tested, after_it, kept) depth 20)
  where
    listed : (size : ℕ) (x : Result ℕ Refusal)
        → answered (digested m) (x >>= λ index. Ok (block_list m.secret key m.clock.second size (digested_array (array_of m key)) most index)) ≡ kept_outcome (answered m (x >>= λ index. Ok (block_list m.secret key m.clock.second size (array_of m key) most index)))
    listed size (Ok index) = ap (λ (a : Answer). Ok (digested m, a)) (list-shown m.secret key m.clock.second size (array_of m key) most index)
    listed size (Err r) = refl

changes-kept : (m : Machine) (account : ℕ) (first second : SnapKey) (page : Option (List ℕ)) (most start : ℕ)
    → let r : Request = ListChangedBlocks first second page most start in act same (digested m) account r ≡ kept_outcome (act sha256 m account r)
changes-kept m account first second page most start =
    let r : Request = ListChangedBlocks first second page most start in
    let kept : (a b : SnapRow) → IfDone (IsKept m account r) (Ok (decision.Read (record { size = b.size; related = is_same_line a.line b.line }))) = λ a b. achieved (
    (λ i. answered (digested m) (read_changes m.secret first second m.clock.second b.size (is_same_line a.line b.line) (array_of-digested m first i) (array_of-digested m second i) page most start))
    ∙ compared b.size (begins m.secret true first second m.clock.second page start) (refuse_if (not (is_same_line a.line b.line)) Unrelated)) in
    decided m account r (λ rows. decide rows m.clock account r) (search (tested, after_it, kept) depth 20)
  where
    compared : (size : ℕ) (x : Result ℕ Refusal) (y : Result (Unit {0}) Refusal)
        → answered (digested m) (x >>= λ index. y >> Ok (change_list m.secret first second m.clock.second size (digested_array (array_of m first)) (digested_array (array_of m second)) most index))
        ≡ kept_outcome (answered m (x >>= λ index. y >> Ok (change_list m.secret first second m.clock.second size (array_of m first) (array_of m second) most index)))
    compared size (Ok index) (Ok u) = ap (λ (a : Answer). Ok (digested m, a)) (changes-shown m.secret first second m.clock.second size (array_of m first) (array_of m second) most index)
    compared size (Ok index) (Err r) = refl
    compared size (Err r) y = refl

get-kept : (m : Machine) (account : ℕ) (key : SnapKey) (index : ℕ) (token : List ℕ)
    → let r : Request = GetSnapshotBlock key index token in act same (digested m) account r ≡ kept_outcome (act sha256 m account r)
get-kept m account key index token =
    let r : Request = GetSnapshotBlock key index token in
    let kept : (row : SnapRow) → IfDone (IsKept m account r) (Ok (decision.Read (record { size = row.size; related = true }))) = λ row. achieved (
    ap (λ (a : WholeArray). answered (digested m) (read_block same m.secret key m.clock.second a index token)) (array_of-digested m key)
    ∙ tried (refuse_if (not (is_block_token m.secret key index m.clock.second token)) BadBlockToken)) in
    decided m account r (λ rows. decide rows m.clock account r) (search (tested, after_it, kept) depth 20)
  where
    at : (o : Option WholeBlock) → answered (digested m) (some_or (option_map digested_block o) BadIndex >>= λ b. Ok (answer.BlockRead (same b.bytes) b.bytes)) ≡ kept_outcome (answered m (some_or o BadIndex >>= λ b. Ok (answer.BlockRead (sha256 b.bytes) b.bytes)))
    at None = refl
    at (Some b) = refl

    tried : (x : Result (Unit {0}) Refusal)
        → answered (digested m) (x >> (some_or (fin.get (digested_array (array_of m key)) index) BadIndex >>= λ b. Ok (answer.BlockRead (same b.bytes) b.bytes)))
        ≡ kept_outcome (answered m (x >> (some_or (fin.get (array_of m key) index) BadIndex >>= λ b. Ok (answer.BlockRead (sha256 b.bytes) b.bytes))))
    tried (Ok u) = ap (λ (o : Option WholeBlock). answered (digested m) (some_or o BadIndex >>= λ b. Ok (answer.BlockRead (same b.bytes) b.bytes))) (get-map_values nat_cmp_total digested_block (array_of m key) index) ∙ at (fin.get (array_of m key) index)
    tried (Err r) = refl

describe-kept : (m : Machine) (account : ℕ) (key : SnapKey) → let r : Request = DescribeSnapshot key in act same (digested m) account r ≡ kept_outcome (act sha256 m account r)
describe-kept m account key =
    let r : Request = DescribeSnapshot key in
    let kept : (row : SnapRow) → IfDone (IsKept m account r) (Ok (decision.View (answer.SnapshotShown false (view_of account m.clock.second key row)))) = λ row. achieved refl in
    decided m account r (λ rows. decide rows m.clock account r) (search (tested, after_it, kept) depth 20)

describe_all-kept : (m : Machine) (account from most : ℕ) → let r : Request = DescribeSnapshots from most in act same (digested m) account r ≡ kept_outcome (act sha256 m account r)
describe_all-kept m account from most =
    let r : Request = DescribeSnapshots from most in
    decided m account r (λ rows. decide rows m.clock account r) (achieved refl)

permission-kept : (m : Machine) (account : ℕ) (key : SnapKey) (add : List ℕ) (add_all : Bool) (remove : List ℕ) (remove_all : Bool)
    → let r : Request = ModifyPermission key add add_all remove remove_all in act same (digested m) account r ≡ kept_outcome (act sha256 m account r)
permission-kept m account key add add_all remove remove_all =
    let r : Request = ModifyPermission key add add_all remove remove_all in
    let kept : (row : SnapRow) → IfDone (IsKept m account r) (Ok (decision.Change (shares account m.clock r (permitted row.shared add remove)) answer.Done)) = λ row. achieved (
    passed _ _ _ (done _ _ _ (changed-disks m [] [] (shares account m.clock r (permitted row.shared add remove)) (array_of-digested m) refl))) in
    decided m account r (λ rows. decide rows m.clock account r) (search (tested, after_it, kept) depth 20)

delete-kept : (m : Machine) (account : ℕ) (key : SnapKey) → let r : Request = DeleteSnapshot key in act same (digested m) account r ≡ kept_outcome (act sha256 m account r)
delete-kept m account key =
    let r : Request = DeleteSnapshot key in
    let c : Change = ends account m.clock r key in
    let kept : IfDone (IsKept m account r) (Ok (decision.Change c answer.Done)) = achieved (passed _ _ _ (done _ _ _ (changed-disks m [] [] c (array_of-digested m) refl))) in
    decided m account r (λ rows. decide rows m.clock account r) (search (tested, after_it, kept) depth 20)

lock-kept : (m : Machine) (account : ℕ) (key : SnapKey) (mode : LockMode) (term : Term) (cool_hours : Option ℕ)
    → let r : Request = LockSnapshot key mode term cool_hours in act same (digested m) account r ≡ kept_outcome (act sha256 m account r)
lock-kept m account key mode term cool_hours =
    let r : Request = LockSnapshot key mode term cool_hours in
    let c : Change = alters account m.clock r in
    let kept : (new : LockState) → IfDone (IsKept m account r) (Ok (decision.Change c (lock_answer (lock_shown new m.clock.second) (lock_until new)))) = λ new. achieved (
    passed _ _ _ (shown _ _ (lock_shown new m.clock.second) (lock_until new) (changed-disks m [] [] c (array_of-digested m) refl))) in
    decided m account r (λ rows. decide rows m.clock account r) (search (tested, after_it, kept) depth 20)

unlock-kept : (m : Machine) (account : ℕ) (key : SnapKey) → let r : Request = UnlockSnapshot key in act same (digested m) account r ≡ kept_outcome (act sha256 m account r)
unlock-kept m account key =
    let r : Request = UnlockSnapshot key in
    let c : Change = alters account m.clock r in
    let kept : (new : LockState) → IfDone (IsKept m account r) (Ok (decision.Change c (lock_answer (lock_shown new m.clock.second) (lock_until new)))) = λ new. achieved (
    passed _ _ _ (shown _ _ (lock_shown new m.clock.second) (lock_until new) (changed-disks m [] [] c (array_of-digested m) refl))) in
    decided m account r (λ rows. decide rows m.clock account r) (search (tested, after_it, kept) depth 20)

archive-kept : (m : Machine) (account : ℕ) (key : SnapKey) → let r : Request = ArchiveSnapshot key in act same (digested m) account r ≡ kept_outcome (act sha256 m account r)
archive-kept m account key =
    let r : Request = ArchiveSnapshot key in
    let c : Change = alters account m.clock r in
    let kept : (new : Tier) → IfDone (IsKept m account r) (Ok (decision.Change c answer.Done)) = λ new. achieved (passed _ _ _ (done _ _ _ (changed-disks m [] [] c (array_of-digested m) refl))) in
    decided m account r (λ rows. decide rows m.clock account r) (search (tested, after_it, kept) depth 20)

restore-kept : (m : Machine) (account : ℕ) (key : SnapKey) (days : Option ℕ) → let r : Request = RestoreTier key days in act same (digested m) account r ≡ kept_outcome (act sha256 m account r)
restore-kept m account key days =
    let r : Request = RestoreTier key days in
    let c : Change = alters account m.clock r in
    let kept : (new : Tier) → IfDone (IsKept m account r) (Ok (decision.Change c (answer.TierShown (restore_until new m.clock.second) (tier_shown new m.clock.second)))) = λ new. achieved (
    passed _ _ _ (done _ _ _ (changed-disks m [] [] c (array_of-digested m) refl))) in
    decided m account r (λ rows. decide rows m.clock account r) (search (tested, after_it, kept) depth 20)

create-kept : (m : Machine) (account : ℕ) (origin : Option SnapKey) (size : Option ℕ) (tags : List Tag) (token : Option (List ℕ))
    → let r : Request = CreateVolume origin size tags token in act same (digested m) account r ≡ kept_outcome (act sha256 m account r)
create-kept m account origin size tags token =
    let r : Request = CreateVolume origin size tags token in
    let key : VolKey = next_volume (rows_of m) account in
    let c : ℕ → Change = λ least. makes account m.clock (CreateVolume origin (Some (unwrap_or size least)) tags token) (Vol key ∷ []) in
    let kept : (least : ℕ) → IfDone (IsKept m account r) (Ok (decision.Change (c least) (answer.VolumeShown true (unwrap_or size least) origin tags key))) = λ least. achieved (
    passed _ _ _ (done _ _ _ (changed-disks m [] [] (c least) (array_of-digested m) (new key)))) in
    let again : (row : TokenRow) → IfDone (IsKept m account r) (Ok (decision.Kept (answer.VolumeShown true (made_size row.first) origin tags (first_volume account row)))) = λ row. achieved refl in
    passed _ _ _ (decided m account r (λ rows. decide rows m.clock account r) (search (by_use, tested, after_it, kept, again) depth 20))
  where
    new : (key : VolKey) → fin.insert (map_values digested_array m.disks) key (begun_array (digested m) origin) ≡ map_values digested_array (fin.insert m.disks key (begun_array m origin))
    new key = ap (λ (a : WholeArray). fin.insert (map_values digested_array m.disks) key a) (begun-digested m origin) ∙ sym (map_values-insert vols_total digested_array exact_vols m.disks key (begun_array m origin))

snap-kept : (m : Machine) (account : ℕ) (volume : VolKey) (description : Option (List ℕ)) (tags : List Tag)
    → let r : Request = CreateSnapshot volume description tags in act same (digested m) account r ≡ kept_outcome (act sha256 m account r)
snap-kept m account volume description tags =
    let r : Request = CreateSnapshot volume description tags in
    let key : SnapKey = next_key (rows_of m) account in
    let c : Change = makes account m.clock r (Snap key ∷ []) in
    let kept : (row : VolRow) → IfDone (IsKept m account r) (Ok (decision.Change c (answer.SnapshotShown true (view_of account m.clock.second key (snapped_row m.clock key volume row description tags))))) = λ row. achieved (passed _ _ _ (done _ _ _
    (changed-disks m [] [] c (λ q. chosen (is_made q (Some key)) _ _ _ _ (disk_of-digested m volume) (array_of-digested m q)) refl))) in
    decided m account r (λ rows. decide rows m.clock account r) (search (tested, after_it, kept) depth 20)

write-kept : (m : Machine) (account : ℕ) (key : VolKey) (index : ℕ) (digest bytes : List ℕ)
    → act same (digested m) account (WriteVolumeBlock key index digest (sha256 bytes)) ≡ kept_outcome (act sha256 m account (WriteVolumeBlock key index digest bytes))
write-kept m account key index digest bytes =
    let r : Request = WriteVolumeBlock key index digest bytes in
    let c : Change = alters account m.clock (WriteVolumeBlock key index digest []) in
    let kept : IfDone (IsKept m account r) (Ok (decision.Change c (answer.BlockWritten digest))) = achieved (passed _ _ _ (done _ _ _
    (changed-disks m bytes (sha256 bytes) c (array_of-digested m) written))) in
    passed _ _ _ (decided m account r (λ rows. decide rows m.clock account r) (search (tested, after_it, kept) depth 20))
  where
    inserted : fin.insert (disk_of (digested m) key) index (record { stamp = m.stamps; bytes = sha256 bytes }) ≡ digested_array (fin.insert (disk_of m key) index (record { stamp = m.stamps; bytes = bytes }))
    inserted = ap (λ (a : WholeArray). fin.insert a index (record { stamp = m.stamps; bytes = sha256 bytes })) (disk_of-digested m key)
        ∙ sym (map_values-insert nat_cmp_total digested_block nat_cmp-IsAntisymmetric (disk_of m key) index (record { stamp = m.stamps; bytes = bytes }))

    written : fin.insert (map_values digested_array m.disks) key (fin.insert (disk_of (digested m) key) index (record { stamp = m.stamps; bytes = sha256 bytes }))
        ≡ map_values digested_array (fin.insert m.disks key (fin.insert (disk_of m key) index (record { stamp = m.stamps; bytes = bytes })))
    written = ap (λ (a : WholeArray). fin.insert (map_values digested_array m.disks) key a) inserted
        ∙ sym (map_values-insert vols_total digested_array exact_vols m.disks key (fin.insert (disk_of m key) index (record { stamp = m.stamps; bytes = bytes })))

fetch-kept : (m : Machine) (account : ℕ) (key : VolKey) (index : ℕ)
    → let r : Request = ReadVolumeBlock key index in act same (digested m) account r ≡ kept_outcome (act sha256 m account r)
fetch-kept m account key index =
    let r : Request = ReadVolumeBlock key index in
    let kept : (row : VolRow) → IfDone (IsKept m account r) (Ok (decision.Read (record { size = row.size; related = true }))) = λ row. achieved (
    ap (λ (a : WholeArray). answered (digested m) (read_volume same a index row.size)) (disk_of-digested m key)
    ∙ tried (refuse_if (nat_le (blocks_of row.size) index) BadIndex)) in
    decided m account r (λ rows. decide rows m.clock account r) (search (tested, after_it, kept) depth 20)
  where
    at : (o : Option WholeBlock) → answered (digested m) (Ok (block_or_zeros same (option_map digested_block o))) ≡ kept_outcome (answered m (Ok (block_or_zeros sha256 o)))
    at None = refl
    at (Some b) = refl

    tried : (x : Result (Unit {0}) Refusal)
        → answered (digested m) (x >> Ok (block_or_zeros same (fin.get (digested_array (disk_of m key)) index)))
        ≡ kept_outcome (answered m (x >> Ok (block_or_zeros sha256 (fin.get (disk_of m key) index))))
    tried (Ok u) = ap (λ (o : Option WholeBlock). answered (digested m) (Ok (block_or_zeros same o))) (get-map_values nat_cmp_total digested_block (disk_of m key) index) ∙ at (fin.get (disk_of m key) index)
    tried (Err r) = refl

volume-kept : (m : Machine) (account : ℕ) (key : VolKey) → let r : Request = DescribeVolume key in act same (digested m) account r ≡ kept_outcome (act sha256 m account r)
volume-kept m account key =
    let r : Request = DescribeVolume key in
    let kept : (row : VolRow) → IfDone (IsKept m account r) (Ok (decision.View (answer.VolumeShown false row.size row.origin row.tags key))) = λ row. achieved refl in
    decided m account r (λ rows. decide rows m.clock account r) (search (tested, after_it, kept) depth 20)

drop-kept : (m : Machine) (account : ℕ) (key : VolKey) → let r : Request = DeleteVolume key in act same (digested m) account r ≡ kept_outcome (act sha256 m account r)
drop-kept m account key =
    let r : Request = DeleteVolume key in
    let c : Change = alters account m.clock r in
    let kept : IfDone (IsKept m account r) (Ok (decision.Change c answer.Done)) = achieved (passed _ _ _ (done _ _ _ (changed-disks m [] [] c (array_of-digested m) (sym (map_values-remove vols_total digested_array exact_vols m.disks key))))) in
    decided m account r (λ rows. decide rows m.clock account r) (search (tested, after_it, kept) depth 20)

-- a rule that is shown carries no bytes
told : (n m : Machine) (created : Bool) (now : ℕ) (change : RuleChange) → n ≡ digested m → ◌≡◌ {A = Outcome} (Ok (n, rule_answer created now change)) (kept_outcome (Ok (m, rule_answer created now change)))
told n m created now (Put row) e = ap (λ (x : Machine). Ok (x, answer.RuleShown created (rule_view now row))) e
told n m created now (Remove key) e = ap (λ (x : Machine). Ok (x, answer.Done)) e

-- a command on rules
module _ (m : Machine) (account : ℕ) (r : Request) (command : RuleCommand) where
  abbrev change_of : RuleChange → Change
  change_of change = makes account m.clock r (made_rules command change)

  ruled : ((change : RuleChange) → IsKept m account r (decision.Change (change_of change) (rule_answer (is_creation command) m.clock.second change)))
      → (decide_rule (rows_of (digested m)) m.clock account r command >>= finish_kept m account r) ≡ kept_outcome (decide_rule (rows_of m) m.clock account r command >>= finish_whole m account r)
  ruled h =
      let kept : (change : RuleChange) → IfDone (IsKept m account r) (Ok (decision.Change (change_of change) (rule_answer (is_creation command) m.clock.second change))) = λ change. achieved (h change) in
      decided m account r (λ rows. decide_rule rows m.clock account r command) (search (tested, after_it, kept) depth 20)

create_rule-kept : (m : Machine) (account days : ℕ) (tags : List RuleTag) (description : Option (List ℕ)) (delay : Option ℕ)
    → let r : Request = CreateRule days tags description delay in act same (digested m) account r ≡ kept_outcome (act sha256 m account r)
create_rule-kept m account days tags description delay =
    let r : Request = CreateRule days tags description delay in
    let c : RuleCommand = rule.Create days tags description delay in
    ruled m account r c (λ change. passed _ _ _ (told _ _ true m.clock.second change (changed-disks m [] [] (change_of m account r c change) (array_of-digested m) refl)))

update_rule-kept : (m : Machine) (account : ℕ) (key : RuleKey) (days : Option ℕ) (tags : Option (List RuleTag)) (description : Option (List ℕ))
    → let r : Request = UpdateRule key days tags description in act same (digested m) account r ≡ kept_outcome (act sha256 m account r)
update_rule-kept m account key days tags description =
    let r : Request = UpdateRule key days tags description in
    let c : RuleCommand = rule.Update key days tags description in
    ruled m account r c (λ change. passed _ _ _ (told _ _ false m.clock.second change (changed-disks m [] [] (change_of m account r c change) (array_of-digested m) refl)))

delete_rule-kept : (m : Machine) (account : ℕ) (key : RuleKey) → let r : Request = DeleteRule key in act same (digested m) account r ≡ kept_outcome (act sha256 m account r)
delete_rule-kept m account key =
    let r : Request = DeleteRule key in
    ruled m account r (rule.Delete key) (λ change. passed _ _ _ (told _ _ false m.clock.second change (changed-disks m [] [] (change_of m account r (rule.Delete key) change) (array_of-digested m) refl)))

lock_rule-kept : (m : Machine) (account : ℕ) (key : RuleKey) (delay : ℕ) → let r : Request = LockRule key delay in act same (digested m) account r ≡ kept_outcome (act sha256 m account r)
lock_rule-kept m account key delay =
    let r : Request = LockRule key delay in
    ruled m account r (rule.Lock key delay) (λ change. passed _ _ _ (told _ _ false m.clock.second change (changed-disks m [] [] (change_of m account r (rule.Lock key delay) change) (array_of-digested m) refl)))

unlock_rule-kept : (m : Machine) (account : ℕ) (key : RuleKey) → let r : Request = UnlockRule key in act same (digested m) account r ≡ kept_outcome (act sha256 m account r)
unlock_rule-kept m account key =
    let r : Request = UnlockRule key in
    ruled m account r (rule.Unlock key) (λ change. passed _ _ _ (told _ _ false m.clock.second change (changed-disks m [] [] (change_of m account r (rule.Unlock key) change) (array_of-digested m) refl)))

get_rule-kept : (m : Machine) (account : ℕ) (key : RuleKey) → let r : Request = GetRule key in act same (digested m) account r ≡ kept_outcome (act sha256 m account r)
get_rule-kept m account key =
    let r : Request = GetRule key in
    let kept : (row : Rule) → IfDone (IsKept m account r) (Ok (decision.View (answer.RuleShown false (rule_view m.clock.second row)))) = λ row. achieved refl in
    decided m account r (λ rows. decide rows m.clock account r) (search (tested, after_it, kept) depth 20)

list_rules-kept : (m : Machine) (account : ℕ) → act same (digested m) account ListRules ≡ kept_outcome (act sha256 m account ListRules)
list_rules-kept m account = decided m account ListRules (λ rows. decide rows m.clock account ListRules) (achieved refl)

list_bin-kept : (m : Machine) (account from most : ℕ) → let r : Request = ListBin from most in act same (digested m) account r ≡ kept_outcome (act sha256 m account r)
list_bin-kept m account from most =
    let r : Request = ListBin from most in
    decided m account r (λ rows. decide rows m.clock account r) (achieved refl)

recover-kept : (m : Machine) (account : ℕ) (key : SnapKey) → let r : Request = RestoreFromBin key in act same (digested m) account r ≡ kept_outcome (act sha256 m account r)
recover-kept m account key =
    let r : Request = RestoreFromBin key in
    let c : Change = alters account m.clock r in
    let kept : (row : SnapRow) → IfDone (IsKept m account r) (Ok (decision.Change c (answer.SnapshotShown false (view_of account m.clock.second key (recovered row))))) = λ row. achieved (
    passed _ _ _ (done _ _ _ (changed-disks m [] [] c (array_of-digested m) refl))) in
    decided m account r (λ rows. decide rows m.clock account r) (search (tested, after_it, kept) depth 20)

create_policy-kept : (m : Machine) (account : ℕ) (targets : List Tag) (hours time : ℕ) (retain : Retain) (add : List Tag)
    → let r : Request = CreatePolicy targets hours time retain add in act same (digested m) account r ≡ kept_outcome (act sha256 m account r)
create_policy-kept m account targets hours time retain add =
    let r : Request = CreatePolicy targets hours time retain add in
    let key : PolicyKey = next_policy (rows_of m) account in
    let c : Change = makes account m.clock r (any.Policy key ∷ []) in
    let kept : IfDone (IsKept m account r) (Ok (decision.Change c (answer.PolicyShown true key m.clock))) = achieved (passed _ _ _ (done _ _ _ (changed-disks m [] [] c (array_of-digested m) refl))) in
    decided m account r (λ rows. decide rows m.clock account r) (search (tested, after_it, kept) depth 20)

get_policy-kept : (m : Machine) (account : ℕ) (key : PolicyKey) → let r : Request = GetPolicy key in act same (digested m) account r ≡ kept_outcome (act sha256 m account r)
get_policy-kept m account key =
    let r : Request = GetPolicy key in
    let kept : (p : Policy) → IfDone (IsKept m account r) (Ok (decision.View (answer.PolicyShown false key p.last))) = λ p. achieved refl in
    decided m account r (λ rows. decide rows m.clock account r) (search (tested, after_it, kept) depth 20)

drop_policy-kept : (m : Machine) (account : ℕ) (key : PolicyKey) → let r : Request = DeletePolicy key in act same (digested m) account r ≡ kept_outcome (act sha256 m account r)
drop_policy-kept m account key =
    let r : Request = DeletePolicy key in
    let c : Change = alters account m.clock r in
    let kept : (p : Policy) → IfDone (IsKept m account r) (Ok (decision.Change c answer.Done)) = λ p. achieved (passed _ _ _ (done _ _ _ (changed-disks m [] [] c (array_of-digested m) refl))) in
    decided m account r (λ rows. decide rows m.clock account r) (search (tested, after_it, kept) depth 20)

run-kept : (m : Machine) (account : ℕ) (key : PolicyKey) → let r : Request = RunPolicy key in act same (digested m) account r ≡ kept_outcome (act sha256 m account r)
run-kept m account key =
    let r : Request = RunPolicy key in
    let c : Policy → Change = λ p.
    run_change account m.clock key (new_keys (next_key (rows_of m) account) (due_targets (rows_of m) key p m.clock.second)) (due_targets (rows_of m) key p m.clock.second) (run_ended (rows_of m) m.clock key p) (run_released (rows_of m) m.clock key p) in
    let kept : (p : Policy) → IfDone (IsKept m account r) (Ok (run_decided (rows_of m) m.clock account key p)) = λ p. achieved (passed _ _ _ (done _ _ _ (changed-disks m [] [] (c p) sourced refl))) in
    decided m account r (λ rows. decide rows m.clock account r) (search (tested, after_it, kept) depth 20)
  where
    from : (o : Option VolKey) (q : SnapKey) → source_array (digested m) o q ≡ digested_array (source_array m o q)
    from None q = array_of-digested m q
    from (Some volume) q = disk_of-digested m volume

    sourced : (q : SnapKey)
        → source_array (digested m) (run_source (rows_of (digested m)) m.clock.second key (fin.get m.policies key) q) q
        ≡ digested_array (source_array m (run_source (rows_of m) m.clock.second key (fin.get m.policies key) q) q)
    sourced q =
        ap (λ (rows : Rows). source_array (digested m) (run_source rows m.clock.second key (fin.get m.policies key) q) q) (rows_of-digested m)
        ∙ from (run_source (rows_of m) m.clock.second key (fin.get m.policies key) q) q

pub act-kept : (m : Machine) (account : ℕ) (request : Request) → act same (digested m) account (kept_request request) ≡ kept_outcome (act sha256 m account request)
act-kept m account (StartSnapshot size parent description tags token timeout) = start-kept m account size parent description tags token timeout
act-kept m account (PutSnapshotBlock key index digest bytes) = put-kept m account key index digest bytes
act-kept m account (CompleteSnapshot key count checksum) = complete-kept m account key count checksum
act-kept m account (ListSnapshotBlocks key page most start) = list-kept m account key page most start
act-kept m account (ListChangedBlocks first second page most start) = changes-kept m account first second page most start
act-kept m account (GetSnapshotBlock key index token) = get-kept m account key index token
act-kept m account (DescribeSnapshot key) = describe-kept m account key
act-kept m account (DescribeSnapshots from most) = describe_all-kept m account from most
act-kept m account (DeleteSnapshot key) = delete-kept m account key
act-kept m account (ModifyPermission key add add_all remove remove_all) = permission-kept m account key add add_all remove remove_all
act-kept m account (LockSnapshot key mode term cool_hours) = lock-kept m account key mode term cool_hours
act-kept m account (UnlockSnapshot key) = unlock-kept m account key
act-kept m account (ArchiveSnapshot key) = archive-kept m account key
act-kept m account (RestoreTier key days) = restore-kept m account key days
act-kept m account (CreateVolume origin size tags token) = create-kept m account origin size tags token
act-kept m account (CreateSnapshot volume description tags) = snap-kept m account volume description tags
act-kept m account (WriteVolumeBlock key index digest bytes) = write-kept m account key index digest bytes
act-kept m account (ReadVolumeBlock key index) = fetch-kept m account key index
act-kept m account (DescribeVolume key) = volume-kept m account key
act-kept m account (DeleteVolume key) = drop-kept m account key
act-kept m account (CreateRule days tags description delay) = create_rule-kept m account days tags description delay
act-kept m account (GetRule key) = get_rule-kept m account key
act-kept m account (UpdateRule key days tags description) = update_rule-kept m account key days tags description
act-kept m account (DeleteRule key) = delete_rule-kept m account key
act-kept m account ListRules = list_rules-kept m account
act-kept m account (LockRule key delay) = lock_rule-kept m account key delay
act-kept m account (UnlockRule key) = unlock_rule-kept m account key
act-kept m account (ListBin from most) = list_bin-kept m account from most
act-kept m account (RestoreFromBin key) = recover-kept m account key
act-kept m account (CreatePolicy targets hours time retain add) = create_policy-kept m account targets hours time retain add
act-kept m account (GetPolicy key) = get_policy-kept m account key
act-kept m account (DeletePolicy key) = drop_policy-kept m account key
act-kept m account (RunPolicy key) = run-kept m account key
