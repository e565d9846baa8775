-- Changes of rows as they are kept, and of rows at the moment.
use Rattle.std.proofs.Common.{◌≡◌, ℕ, ◌+◌, ◌*◌, ◌<◌, ◌≤◌, ◌^◌, arith, Bool, true, false, cond, not, ◌&&◌, ◌||◌, List, [], ◌∷◌, Option, Some, None, refl, sym, ap, subst, ◌∙◌}
use Rattle.std.proofs.lemmas.Bool.{false≢true}
use Rattle.std.proofs.lemmas.Bool.Decides.{nat_tests}
use Rattle.std.specs.Prelude.{nat_le}
use Rattle.std.specs.Option.{option_map}
use Rattle.std.specs.List.{filter}
use Rattle.std.specs.Ordering.{eq_by_cmp}
use Rattle.std.specs.FinMap.{FinMap, get, insert, remove, empty, entries, get-insert, get-remove, entries-insert}
use Rattle.ebs_tables.proofs.MapEdits.{is_same}
use Rattle.ebs_model.specs.declared.keys.SnapKey.{SnapKey}
use Rattle.ebs_model.specs.declared.keys.VolKey.{VolKey}
use Rattle.ebs_model.specs.declared.keys.Moment.{Moment}
use Rattle.ebs_model.specs.declared.tags.Tag.{Tag}
use Rattle.ebs_model.specs.declared.rows.VolRow.{VolRow}
use Rattle.ebs_model.specs.declared.rows.SnapRow.{SnapRow}
use Rattle.ebs_model.specs.declared.rows.RowStatus.{RowStatus}
use Rattle.ebs_model.specs.declared.rows.RowStatus.TheVariants.{Pending, Completed, Failed}
use Rattle.ebs_model.specs.Keys.{snap_cmp}
use Rattle.ebs_model.specs.inner.Orders.{snaps_total, exact_snaps}
use Rattle.ebs_model.specs.Time.{stays, status_at, status_by, is_failed, is_pending, is_completed, rested_row}
use Rattle.ebs_model.specs.Quotas.{blocks_of}
use Rattle.ebs_model.specs.Limits.{is_size}
use Rattle.ebs_model.specs.Rows.{Rows, is_key, changed_row, with_row}
use Rattle.ebs_model.specs.inner.Rows.{aged, aged_snaps}
use Rattle.ebs_model.specs.Calls.Start.{with_upload}
use Rattle.ebs_model.specs.Calls.Disk.{snapped_row, with_snapped}
use Rattle.ebs_model.proofs.RowLaws.{same_rows, left_row, get-aged_snaps, is_key-same}
use Rattle.ebs_catalog.specs.Held.{is_ended, is_about_by}
use Rattle.ebs_catalog.specs.Decided.{IsOwned}
use Rattle.ebs_model.specs.declared.request.Request.{Request}
use Rattle.ebs_model.specs.declared.request.Request.TheVariants.{StartSnapshot, PutSnapshotBlock, CompleteSnapshot, ListSnapshotBlocks, ListChangedBlocks, GetSnapshotBlock, DescribeSnapshot, DescribeSnapshots, DeleteSnapshot, ModifyPermission, LockSnapshot, UnlockSnapshot, ArchiveSnapshot, RestoreTier, CreateVolume, CreateSnapshot, WriteVolumeBlock, ReadVolumeBlock, DescribeVolume, DeleteVolume, CreateRule, GetRule, UpdateRule, DeleteRule, ListRules, LockRule, UnlockRule, ListBin, RestoreFromBin, CreatePolicy, GetPolicy, DeletePolicy, RunPolicy}
use Rattle.ebs_catalog.proofs.Stale.{Waits, Pairs, keys_at, firsts, stale_in, filter-put, filter-firsts, other}

abbrev Snaps : Type 0
Snaps = FinMap snap_cmp SnapRow

-- a row that time leaves as it is
pub aged-insert : (now : ℕ) (s : Snaps) (k : SnapKey) (row : SnapRow) → left_row now (Some row) ≡ Some row → aged_snaps now (insert s k row) ≡ insert (aged_snaps now s) k row
aged-insert now s k row h = same_rows _ _ (λ q.
    get-aged_snaps now (insert s k row) q ∙ ap (left_row now) (get-insert snaps_total s k row q) ∙ by (eq_by_cmp snap_cmp q k) (get s q)
    ∙ ap (cond (eq_by_cmp snap_cmp q k) (Some row)) (sym (get-aged_snaps now s q)) ∙ sym (get-insert snaps_total (aged_snaps now s) k row q))
  where
    by : (b : Bool) (o : Option SnapRow) → left_row now (cond b (Some row) o) ≡ cond b (Some row) (left_row now o)
    by true o = h
    by false o = refl

-- a row that is taken out
pub aged-remove : (now : ℕ) (s : Snaps) (k : SnapKey) → aged_snaps now (remove s k) ≡ remove (aged_snaps now s) k
aged-remove now s k = same_rows _ _ (λ q.
    get-aged_snaps now (remove s k) q ∙ ap (left_row now) (get-remove snaps_total s k q) ∙ by (eq_by_cmp snap_cmp q k) (get s q)
    ∙ ap (cond (eq_by_cmp snap_cmp q k) None) (sym (get-aged_snaps now s q)) ∙ sym (get-remove snaps_total (aged_snaps now s) k q))
  where
    by : (b : Bool) (o : Option SnapRow) → left_row now (cond b None o) ≡ cond b None (left_row now o)
    by true o = refl
    by false o = refl

pub upload-aged : (now : ℕ) (rows : Rows) (key : SnapKey) (row : SnapRow) → left_row now (Some row) ≡ Some row → aged now (with_upload rows key row) ≡ with_upload (aged now rows) key row
upload-aged now rows key row h = λ i. record { snaps = aged-insert now rows.snaps key row h i; own = (with_upload (aged now rows) key row).own; tokens = rows.tokens; vols = rows.vols; books = rows.books; policies = rows.policies }

some_same : (a b : SnapRow) → Some a ≡ Some b → a ≡ b
some_same a b e = cc

none_some : (a : SnapRow) → ◌≡◌ {A = Option SnapRow} None (Some a) → ⊥
none_some a e = cc

not_failed : (s : RowStatus) → is_pending s ≡ true → is_failed s ≡ false
not_failed Pending e = refl
not_failed Completed e = absurd (false≢true e)
not_failed Failed e = absurd (false≢true e)

pub done-sound : (s : RowStatus) → is_completed s ≡ true → is_failed s ≡ false
done-sound Pending e = refl
done-sound Completed e = refl
done-sound Failed e = absurd (false≢true e)

-- a row at the moment that hasn't failed is kept as it is found
pub raw-sound : (now : ℕ) (s : Snaps) (key : SnapKey) (row : SnapRow) → get (aged_snaps now s) key ≡ Some row → is_failed (status_at row now) ≡ false → (get s key ≡ Some row) × (stays now row ≡ true)
raw-sound now s key row e p = at (get s key) refl (sym (get-aged_snaps now s key) ∙ e)
  where
    left : (r : SnapRow) (b : Bool) → stays now r ≡ b → option_map (rested_row now) (cond b (Some r) None) ≡ Some row → (Some r ≡ Some row) × (stays now row ≡ true)
    left r false t h = absurd (none_some row h)
    left r true t h =
        let is = some_same (rested_row now r) row h in
        let sound : is_failed (status_at r now) ≡ false = subst (λ (x : SnapRow). is_failed (status_at x now) ≡ false) (sym is) p in
        let same : r ≡ row = sym (λ i. record r { put = cond (sound i) empty r.put }) ∙ is in
        (ap Some same, subst (λ x. stays now x ≡ true) same t)

    at : (o : Option SnapRow) → get s key ≡ o → left_row now o ≡ Some row → (get s key ≡ Some row) × (stays now row ≡ true)
    at None t h = absurd (none_some row h)
    at (Some r) t h = let (same, stay) = left r (stays now r) refl h in (t ∙ same, stay)

-- and so is an open upload
pub raw-found : (now : ℕ) (s : Snaps) (key : SnapKey) (row : SnapRow) → get (aged_snaps now s) key ≡ Some row → is_pending (status_at row now) ≡ true → (get s key ≡ Some row) × (stays now row ≡ true)
raw-found now s key row e p = raw-sound now s key row e (not_failed (status_at row now) p)

-- a row that is changed, where what it becomes is left by time as it is
pub row-aged : (now : ℕ) (rows : Rows) (key : SnapKey) (row : SnapRow) (f : SnapRow → SnapRow) → get rows.snaps key ≡ Some row → get (aged_snaps now rows.snaps) key ≡ Some row → left_row now (Some (f row)) ≡ Some (f row) → aged now (with_row rows key f) ≡ with_row (aged now rows) key f
row-aged now rows key row f raw at h = λ i. record {
  snaps = (ap (λ o. aged_snaps now (changed_row rows.snaps key f o)) raw ∙ aged-insert now rows.snaps key (f row) h ∙ ap (changed_row (aged_snaps now rows.snaps) key f) (sym at)) i;
  own = rows.own;
  tokens = rows.tokens;
  vols = rows.vols;
  books = rows.books;
  policies = rows.policies;
}

-- an upload doesn't fail at the moment of its start or of a put
ahead : (now minutes : ℕ) → 1 ≤ minutes → nat_le (now + 60 * minutes) now ≡ false
ahead now minutes h = grind (arith, nat_tests)

open_by : (c : Bool) → is_failed (status_by c false) ≡ false
open_by true = refl
open_by false = refl

pub fresh : (at : Moment) (row : SnapRow) → row.last ≡ at → 1 ≤ row.timeout → is_failed (status_at row at.second) ≡ false
fresh at row last timed = ap (λ (m : Moment). is_failed (status_by row.completed (nat_le (m.second + 60 * row.timeout) at.second))) last ∙ ap (λ b. is_failed (status_by row.completed b)) (ahead at.second row.timeout timed) ∙ open_by row.completed

-- an upload that is open isn't completed
pub still-open : (now : ℕ) (row : SnapRow) → is_pending (status_at row now) ≡ true → row.completed ≡ false
still-open now row p = by row.completed p
  where
    by : (c : Bool) → is_pending (status_by c (nat_le (row.last.second + 60 * row.timeout) now)) ≡ true → c ≡ false
    by true e = absurd (false≢true e)
    by false e = refl

-- a row that stays and isn't failed is left as it is
pub left-open : (now : ℕ) (row : SnapRow) → stays now row ≡ true → is_failed (status_at row now) ≡ false → left_row now (Some row) ≡ Some row
left-open now row s f = ap (λ b. option_map (rested_row now) (cond b (Some row) None)) s ∙ (λ i. Some (record row { put = cond (f i) empty row.put }))

-- and so is one without a put set
either : {A : Type 0} (x : A) (b : Bool) → cond b x x ≡ x
either x true = refl
either x false = refl

pub left-empty : (now : ℕ) (row : SnapRow) → stays now row ≡ true → row.put ≡ empty → left_row now (Some row) ≡ Some row
left-empty now row s p = ap (λ b. option_map (rested_row now) (cond b (Some row) None)) s
    ∙ (λ i. Some (record row { put = cond (is_failed (status_at row now)) empty (p i) }))
    ∙ (λ i. Some (record row { put = (either empty (is_failed (status_at row now)) ∙ sym p) i }))

-- a new snapshot of a volume
pub snapped-aged : (now : ℕ) (rows : Rows) (at : Moment) (key : SnapKey) (volume : VolKey) (description : Option (List ℕ)) (tags : List Tag) (o : Option VolRow)
    → aged now (with_snapped rows at key volume description tags o) ≡ with_snapped (aged now rows) at key volume description tags o
snapped-aged now rows at key volume description tags None = refl
snapped-aged now rows at key volume description tags (Some row) = upload-aged now rows key (snapped_row at key volume row description tags) (left-empty now (snapped_row at key volume row description tags) refl refl)

pub open-ended : (now : ℕ) (row : SnapRow) → stays now row ≡ true → is_failed (status_at row now) ≡ false → is_ended now (Some row) ≡ false
open-ended now row s f = λ i. not (s i) || f i

pub pending-ended : (now : ℕ) (row : SnapRow) → stays now row ≡ true → is_pending (status_at row now) ≡ true → is_ended now (Some row) ≡ false
pending-ended now row s p = open-ended now row s (not_failed (status_at row now) p)

-- tests that agree at each key
filter-same : (P Q : SnapKey → Bool) → ((q : SnapKey) → P q ≡ Q q) → (es : Pairs) → keys_at P es ≡ keys_at Q es
filter-same P Q h [] = refl
filter-same P Q h (e ∷ es) = λ i. cond (h e.0 i) (e ∷ filter-same P Q h es i) (filter-same P Q h es i)

pub filter-all : (xs : List SnapKey) → filter (λ q. true) xs ≡ xs
filter-all [] = refl
filter-all (x ∷ xs) = ap (λ t. x ∷ t) (filter-all xs)

-- what time has ended, where a key isn't ended after a change and the others are as before
module _ (s s' : Snaps) (k : SnapKey) (t : ℕ) (same : (q : SnapKey) → is_key q k ≡ false → get s' q ≡ get s q) (fresh : is_ended t (get s' k) ≡ false) where
  abbrev after : SnapKey → Bool
  after q = is_ended t (get s' q)

  abbrev before : SnapKey → Bool
  before q = not (is_key q k) && is_ended t (get s q)

  alike : (q : SnapKey) → after q ≡ before q
  alike q = by (is_key q k) refl
    where
      by : (b : Bool) → is_key q k ≡ b → is_ended t (get s' q) ≡ (not b && is_ended t (get s q))
      by true h = ap (λ p. is_ended t (get s' p)) (is_key-same q k h) ∙ fresh
      by false h = ap (is_ended t) (same q h)

  exactly : (w : Waits) → keys_at after (entries w) ≡ keys_at before (entries w)
  exactly w = filter-same after (λ q. not (is_key q k) && is_ended t (get s q)) (λ q. alike q) (entries w)

  pub stale-kept : (w : Waits) → stale_in s' w t ≡ filter (λ q. not (is_key q k)) (stale_in s w t)
  stale-kept w = ap firsts (exactly w) ∙ sym (filter-firsts (λ q. not (is_key q k)) (λ q. is_ended t (get s q)) (entries w))

  pub stale-inserted : (w : Waits) → stale_in s' (insert w k tt) t ≡ filter (λ q. not (is_key q k)) (stale_in s w t)
  stale-inserted w = ap firsts (ap (keys_at after) (entries-insert snaps_total w k tt) ∙ filter-put after k fresh (entries w)) ∙ stale-kept w

-- what time has ended, where it has ended the same of all keys
pub stale-same : (s s' : Snaps) (t : ℕ) (w : Waits) → ((q : SnapKey) → is_ended t (get s' q) ≡ is_ended t (get s q)) → stale_in s' w t ≡ stale_in s w t
stale-same s s' t w h = ap firsts (filter-same (λ q. is_ended t (get s' q)) (λ q. is_ended t (get s q)) h (entries w))

-- a row that is written again with the same status and the same end
pub stale-again : (s : Snaps) (k : SnapKey) (row new : SnapRow) (t : ℕ) (w : Waits) → get s k ≡ Some row → is_ended t (Some new) ≡ is_ended t (Some row) → stale_in (insert s k new) w t ≡ stale_in s w t
stale-again s k row new t w at same = stale-same s (insert s k new) t w (λ q. ap (is_ended t) (get-insert snaps_total s k new q) ∙ by q (eq_by_cmp snap_cmp q k) refl)
  where
    by : (q : SnapKey) (b : Bool) → eq_by_cmp snap_cmp q k ≡ b → is_ended t (cond b (Some new) (get s q)) ≡ is_ended t (get s q)
    by q true e = same ∙ sym (ap (is_ended t) (ap (get s) (is_same exact_snaps q k e) ∙ at))
    by q false e = refl

-- an edit of one key leaves the others
pub others : (s : Snaps) (k : SnapKey) (row : SnapRow) (q : SnapKey) → is_key q k ≡ false → get (insert s k row) q ≡ get s q
others s k row q h = get-insert snaps_total s k row q ∙ ap (λ b. cond b (Some row) (get s q)) (other q k h)

pub left-others : (s : Snaps) (k : SnapKey) (q : SnapKey) → is_key q k ≡ false → get (remove s k) q ≡ get s q
left-others s k q h = get-remove snaps_total s k q ∙ ap (λ b. cond b None (get s q)) (other q k h)

-- a change of an owned row is about no other
pub about-none : (made : Option SnapKey) (request : Request) → IsOwned request → (xs : List SnapKey) → filter (λ q. not (is_about_by made request q)) xs ≡ xs
about-none made (StartSnapshot size parent description tags token timeout) h xs = absurd h
about-none made (PutSnapshotBlock key index digest bytes) h xs = absurd h
about-none made (CompleteSnapshot key count checksum) h xs = absurd h
about-none made (DeleteSnapshot key) h xs = absurd h
about-none made (ListSnapshotBlocks key page most start) h xs = filter-all xs
about-none made (ListChangedBlocks first second page most start) h xs = filter-all xs
about-none made (GetSnapshotBlock key index token) h xs = filter-all xs
about-none made (DescribeSnapshot key) h xs = filter-all xs
about-none made (DescribeSnapshots from most) h xs = filter-all xs
about-none made (ModifyPermission key add add_all remove remove_all) h xs = filter-all xs
about-none made (LockSnapshot key mode term cool_hours) h xs = filter-all xs
about-none made (UnlockSnapshot key) h xs = filter-all xs
about-none made (ArchiveSnapshot key) h xs = filter-all xs
about-none made (RestoreTier key days) h xs = filter-all xs
about-none made (CreateVolume origin size tags token) h xs = absurd h
about-none made (CreateSnapshot volume description tags) h xs = absurd h
about-none made (WriteVolumeBlock key index digest bytes) h xs = filter-all xs
about-none made (ReadVolumeBlock key index) h xs = filter-all xs
about-none made (DescribeVolume key) h xs = filter-all xs
about-none made (DeleteVolume key) h xs = filter-all xs
about-none made (CreateRule days tags description delay) h xs = absurd h
about-none made (GetRule key) h xs = filter-all xs
about-none made (UpdateRule key days tags description) h xs = absurd h
about-none made (DeleteRule key) h xs = absurd h
about-none made ListRules h xs = filter-all xs
about-none made (LockRule key delay) h xs = absurd h
about-none made (UnlockRule key) h xs = absurd h
about-none made (ListBin from most) h xs = filter-all xs
about-none made (RestoreFromBin key) h xs = absurd h
about-none made (CreatePolicy targets hours time retain add) h xs = absurd h
about-none made (GetPolicy key) h xs = filter-all xs
about-none made (DeletePolicy key) h xs = absurd h
about-none made (RunPolicy key) h xs = absurd h

-- an index within a row fits 32 bits
pub index-fits : (index size : ℕ) → is_size size ≡ true → index < blocks_of size → index < 2 ^ 32
index-fits index size h w = by (nat_le 1 size) (nat_le size 16384) refl h
  where
    most : (c : Bool) → nat_le size 16384 ≡ c → c ≡ true → size ≤ 16384
    most c t e = grind (arith, nat_tests)

    by : (b c : Bool) → nat_le size 16384 ≡ c → (b && c) ≡ true → index < 2 ^ 32
    by true c t e = let m = most c t e in omega (arith, m, w)
    by false c t e = absurd (false≢true e)

pub size-fits : (size : ℕ) → is_size size ≡ true → size < 2 ^ 32
size-fits size h = by (nat_le 1 size) (nat_le size 16384) refl h
  where
    most : (c : Bool) → nat_le size 16384 ≡ c → c ≡ true → size ≤ 16384
    most c t e = grind (arith, nat_tests)

    by : (b c : Bool) → nat_le size 16384 ≡ c → (b && c) ≡ true → size < 2 ^ 32
    by true c t e = let m = most c t e in omega (arith, m)
    by false c t e = absurd (false≢true e)
