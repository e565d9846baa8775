-- What a run does to rows as they are kept, and to rows at the moment.
use Rattle.std.proofs.Common.{◌≡◌, ℕ, Bool, true, false, cond, not, ◌&&◌, ◌||◌, List, [], ◌∷◌, ◌++◌, Option, Some, None, Result, Ok, Err, OnOk, refl, sym, ap, subst, ◌∙◌}
use Rattle.std.proofs.lemmas.Bool.{false≢true}
use Rattle.std.specs.Option.{option_map}
use Rattle.std.specs.List.{filter}
use Rattle.std.specs.Ordering.{eq_by_cmp}
use Rattle.std.specs.FinMap.{FinMap, get, empty}
use Rattle.ebs_model.specs.declared.keys.SnapKey.{SnapKey}
use Rattle.ebs_model.specs.declared.keys.Moment.{Moment}
use Rattle.ebs_model.specs.declared.keys.AnyKey.{AnyKey}
use Rattle.ebs_model.specs.declared.keys.AnyKey.TheVariants.{Snap, Vol, Rule, Policy as policy_id}
use Rattle.ebs_model.specs.declared.rows.SnapRow.{SnapRow}
use Rattle.ebs_model.specs.Keys.{snap_cmp}
use Rattle.ebs_model.specs.Time.{stays, is_reached, rested_row, status_at, is_failed}
use Rattle.ebs_model.specs.Rows.{Rows, with_row}
use Rattle.ebs_model.specs.inner.Rows.{aged, aged_snaps}
use Rattle.ebs_model.specs.Calls.Start.{with_upload}
use Rattle.ebs_model.specs.Calls.Run.{freed, with_freed, with_deleted}
use Rattle.ebs_model.proofs.RowLaws.{same_rows, left_row, get-aged_snaps}
use Rattle.ebs_model.proofs.RunLaws.{get-changed}
use Rattle.ebs_catalog.specs.Held.{Held, CoversSnap, FreeSnap}
use Rattle.ebs_catalog.specs.Rooms.{CoversOne, CoversMade, CoversWait, CoversEnded, FreeOne, FreeMade, FreeWait, FreeEnded}
use Rattle.ebs_catalog.specs.Runs.{IsNew, AreNew, CoversRows, with_rows}
use Rattle.ebs_catalog.proofs.Commits.{upload-aged, left-empty}

-- ---- a policy that is taken away

-- time leaves the same of a row without its policy
freed-left : (now : ℕ) (o : Option SnapRow) → left_row now (option_map freed o) ≡ option_map freed (left_row now o)
freed-left now None = refl
freed-left now (Some row) = by (stays now row)
  where
    by : (b : Bool) → option_map (rested_row now) (cond b (Some (freed row)) None) ≡ option_map freed (option_map (rested_row now) (cond b (Some row) None))
    by true = refl
    by false = refl

pub freed-aged : (now : ℕ) (rows : Rows) (key : SnapKey) → aged now (with_row rows key freed) ≡ with_row (aged now rows) key freed
freed-aged now rows key = λ i. record { snaps = snaps i; own = rows.own; tokens = rows.tokens; vols = rows.vols; books = rows.books; policies = rows.policies }
  where
    at : (q : SnapKey) (b : Bool) → left_row now (cond b (option_map freed (get rows.snaps q)) (get rows.snaps q)) ≡ cond b (option_map freed (left_row now (get rows.snaps q))) (left_row now (get rows.snaps q))
    at q true = freed-left now (get rows.snaps q)
    at q false = refl

    snaps : aged_snaps now (with_row rows key freed).snaps ≡ (with_row (aged now rows) key freed).snaps
    snaps = same_rows _ _ (λ q.
        get-aged_snaps now (with_row rows key freed).snaps q
        ∙ ap (left_row now) (get-changed rows key freed q)
        ∙ at q (eq_by_cmp snap_cmp q key)
        ∙ (λ i. cond (eq_by_cmp snap_cmp q key) (option_map freed (sym (get-aged_snaps now rows.snaps q) i)) (sym (get-aged_snaps now rows.snaps q) i))
        ∙ sym (get-changed (aged now rows) key freed q))

pub all-freed-aged : (now : ℕ) (rows : Rows) (keys : List SnapKey) → aged now (with_freed rows keys) ≡ with_freed (aged now rows) keys
all-freed-aged now rows [] = refl
all-freed-aged now rows (key ∷ keys) = all-freed-aged now (with_row rows key freed) keys ∙ ap (λ r. with_freed r keys) (freed-aged now rows key)

pub freed-append : (rows : Rows) (xs ys : List SnapKey) → with_freed (with_freed rows xs) ys ≡ with_freed rows (xs ++ ys)
freed-append rows [] ys = refl
freed-append rows (x ∷ xs) ys = freed-append (with_row rows x freed) xs ys

pub deleted-append : (rows : Rows) (at : Moment) (xs ys : List SnapKey) → with_deleted (with_deleted rows at xs) at ys ≡ with_deleted rows at (xs ++ ys)
deleted-append rows at [] ys = refl
deleted-append rows at (x ∷ xs) ys = deleted-append (with_deleted rows at (x ∷ [])) at xs ys

-- ---- rows that are added

new-left : (now : ℕ) (row : SnapRow) → IsNew row → left_row now (Some row) ≡ Some row
new-left now row new = left-empty now row (ap (λ o. not (is_reached o now)) new.out) new.put

pub rows-aged : (now : ℕ) (rows : Rows) (new : List SnapRow) → AreNew new → aged now (with_rows rows new) ≡ with_rows (aged now rows) new
rows-aged now rows [] h = refl
rows-aged now rows (row ∷ new) h =
    rows-aged now (with_upload rows row.key row) new h.1
    ∙ ap (λ r. with_rows r new) (upload-aged now rows row.key row (new-left now row h.0))

-- ---- room

pub one-covers : (old new : Held) → ((key : SnapKey) → CoversSnap old (Some key) → CoversSnap new (Some key)) → (other : AnyKey) → CoversOne old other → CoversOne new other
one-covers old new h (Snap key) c = h key c
one-covers old new h (Vol key) c = tt
one-covers old new h (Rule key) c = tt
one-covers old new h (policy_id key) c = tt

pub made-covers : (old new : Held) → ((other : AnyKey) → CoversOne old other → CoversOne new other) → (made : List AnyKey) → CoversMade old made → CoversMade new made
made-covers old new h [] c = tt
made-covers old new h (id ∷ made) c = (h id c.0, made-covers old new h made c.1)

pub one-free : (old new : Held) → ((key : SnapKey) → FreeSnap old (Some key) → FreeSnap new (Some key)) → (other : AnyKey) → FreeOne old other → FreeOne new other
one-free old new h (Snap key) c = h key c
one-free old new h (Vol key) c = tt
one-free old new h (Rule key) c = tt
one-free old new h (policy_id key) c = tt

-- room that is given back stays so where only what waits changes
one-beside : (h : Held) (w : FinMap snap_cmp (Option (Unit {0}))) (id : AnyKey) → FreeOne h id → FreeOne (record h { waits = w }) id
one-beside h w (Snap key) c = c
one-beside h w (Vol key) c = tt
one-beside h w (Rule key) c = tt
one-beside h w (policy_id key) c = tt

pub made-beside : (h : Held) (w : FinMap snap_cmp (Option (Unit {0}))) (made : List AnyKey) → FreeMade h made → FreeMade (record h { waits = w }) made
made-beside h w [] c = tt
made-beside h w (id ∷ made) c = (one-beside h w id c.0, made-beside h w made c.1)

one-room : (h : Held) (w : FinMap snap_cmp (Option (Unit {0}))) (id : AnyKey) → CoversOne h id → CoversOne (record h { waits = w }) id
one-room h w (Snap key) c = c
one-room h w (Vol key) c = tt
one-room h w (Rule key) c = tt
one-room h w (policy_id key) c = tt

pub made-room : (h : Held) (w : FinMap snap_cmp (Option (Unit {0}))) (made : List AnyKey) → CoversMade h made → CoversMade (record h { waits = w }) made
made-room h w [] c = tt
made-room h w (id ∷ made) c = (one-room h w id c.0, made-room h w made c.1)

pub always_ok : {A F : Type 0} (r : Result A F) (P : Type 0) → P → OnOk r P
always_ok (Ok a) P p = p
always_ok (Err e) P p = tt

pub rows-room : (old new : Held) → ((key : SnapKey) → CoversSnap old (Some key) → CoversSnap new (Some key)) → (rows : List SnapRow) → CoversRows old rows → CoversRows new rows
rows-room old new h [] c = tt
rows-room old new h (row ∷ rows) c = (h row.key c.0, rows-room old new h rows c.1)
