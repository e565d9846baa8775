-- What time has ended is shown neither before it is given up nor behind it.
use Rattle.std.proofs.Common.{arith, ◌≡◌, ℕ, zero, suc, ◌-◌, ◌≤◌, ◌<◌, ◌⊎◌, inl, inr, Bool, true, false, cond, not, ◌&&◌, List, [], ◌∷◌, length, Option, Some, None, IsSome, is_some, refl, sym, ap, subst, ◌∙◌}
use Rattle.std.proofs.lemmas.Bool.{false≢true}
use Rattle.std.specs.Prelude.{slice_get}
use Rattle.std.specs.List.{filter}
use Rattle.std.specs.Option.{option_map}
use Rattle.std.specs.FinMap.{get, empty, remove, len, len-remove, empty_of_len, get-empty}
use Rattle.ebs_model.specs.declared.keys.SnapKey.{SnapKey}
use Rattle.ebs_model.specs.declared.keys.VolKey.{VolKey}
use Rattle.ebs_model.specs.declared.rows.SnapRow.{SnapRow}
use Rattle.ebs_model.specs.declared.rows.VolRow.{VolRow}
use Rattle.ebs_model.specs.Arrays.{WholeArray}
use Rattle.ebs_model.specs.Time.{Snapshot, stays, rested, rested_row, status_at, is_failed}
use Rattle.ebs_model.specs.inner.Time.{has_blocks}
use Rattle.ebs_model.specs.Rows.{Rows, is_key}
use Rattle.ebs_model.specs.inner.Rows.{aged}
use Rattle.ebs_model.specs.Machine.{aged_rows, with_arrays}
use Rattle.ebs_model.proofs.Aged.{get-aged, aged_row}
use Rattle.ebs_model.proofs.Commits.{left_array}
use Rattle.ebs_model.proofs.RowLaws.{get-with, with_array, same_snaps, get-aged_snaps, left_row, key_itself}
use Rattle.ebs_holds.specs.declared.holder.Holder.{Holder}
use Rattle.ebs_holds.specs.Holders.{holder_cmp, is_holder, of_snap, of_vol}
use Rattle.ebs_holds.specs.Orders.{exact_holders, holders_total}
use Rattle.ebs_holds.specs.Holds.{HeldBy, Holding, blocks_at, held_in, nodes_in, array_of_node}
use Rattle.ebs_holds.specs.Counted.{KeepsBlocks}
use Rattle.ebs_holds.proofs.Keyed.{cases}
use Rattle.ebs_catalog.specs.Held.{rows_in}
use Rattle.ebs_kept.specs.declared.kept.Kept.TheInside.{Inside}
use Rattle.ebs_kept.specs.inner.Shown.{kept_array, snap_array, disk_array, with_disks, shown}
use Rattle.ebs_kept.specs.inner.Stamps.{is_shown}
use Rattle.ebs_kept.specs.inner.Counted.{KeepsShown}
use Rattle.ebs_kept.proofs.Disks.{get-disk, same_disks}
use Rattle.ebs_kept.proofs.Unseen.{same-shown}

-- ---- rows that are the same at a moment

-- a row's array as it is shown
abbrev shown_row : ℕ → WholeArray → SnapRow → Snapshot
shown_row now array row = record { row = row; array = left_array now row array }

-- by what time leaves of the row
abbrev pub is_left : ℕ → Option SnapRow → Bool
is_left now None = false
is_left now (Some row) = not (is_failed (status_at row now))

pub has-left : (now : ℕ) (o : Option SnapRow) → has_blocks now o ≡ is_left now (left_row now o)
has-left now None = refl
has-left now (Some row) = by (stays now row)
  where
    by : (b : Bool) → b && not (is_failed (status_at row now)) ≡ is_left now (option_map (rested_row now) (cond b (Some row) None))
    by true = refl
    by false = refl

row-left : (now : ℕ) (array : WholeArray) (o : Option SnapRow) → aged_row now (option_map (with_array array) o) ≡ option_map (shown_row now array) (left_row now o)
row-left now array None = refl
row-left now array (Some row) = by (stays now row)
  where
    by : (b : Bool) → option_map (rested now) (cond b (Some (with_array array row)) None) ≡ option_map (shown_row now array) (option_map (rested_row now) (cond b (Some row) None))
    by true = refl
    by false = refl

module _ (now : ℕ) (a b : Rows) (same : aged now a ≡ aged now b) where
  left-alike : (key : SnapKey) → left_row now (get a.snaps key) ≡ left_row now (get b.snaps key)
  left-alike key = sym (get-aged_snaps now a.snaps key) ∙ ap (λ (r : Rows). get r.snaps key) same ∙ get-aged_snaps now b.snaps key

  blocks-alike : (key : SnapKey) → has_blocks now (get a.snaps key) ≡ has_blocks now (get b.snaps key)
  blocks-alike key = has-left now (get a.snaps key) ∙ ap (is_left now) (left-alike key) ∙ sym (has-left now (get b.snaps key))

  pub shown-alike : (q : Holder) → is_shown now a q ≡ is_shown now b q
  shown-alike q =
      let snap : SnapKey = record { account = q.account; number = q.number } in
      let vol : VolKey = record { account = q.account; number = q.number } in
      λ i. cond q.is_volume (is_some (get (same i).vols vol)) (blocks-alike snap i)

  pub arrays-alike : (f : SnapKey → WholeArray) → aged_rows now (with_arrays a.snaps f) ≡ aged_rows now (with_arrays b.snaps f)
  arrays-alike f = same_snaps _ _ (λ q.
      get-aged now (with_arrays a.snaps f) q ∙ ap (aged_row now) (get-with a.snaps f q) ∙ row-left now (f q) (get a.snaps q)
      ∙ ap (option_map (shown_row now (f q))) (left-alike q)
      ∙ sym (get-aged now (with_arrays b.snaps f) q ∙ ap (aged_row now) (get-with b.snaps f q) ∙ row-left now (f q) (get b.snaps q)))

-- ---- arrays that aren't shown are dropped

module _ (now : ℕ) (rows : Rows) where
  pub keeps-same : (h : Holding) → KeepsShown now rows h h
  keeps-same h = record { arrays = λ q t. refl; blocks = λ n. refl; grows = omega arith }

  pub keeps-both : (g h k : Holding) → KeepsShown now rows g h → KeepsShown now rows h k → KeepsShown now rows g k
  keeps-both g h k first second = record {
    arrays = λ q t. second.arrays q t ∙ first.arrays q t;
    blocks = λ n. second.blocks n ∙ first.blocks n;
    grows = omega (arith, first.grows, second.grows);
  }

  pub keeps-dropped : (g h : Holding) (key : Holder) → is_shown now rows key ≡ false → ((q : Holder) → blocks_at h q ≡ cond (is_holder q key) empty (blocks_at g q)) → KeepsBlocks (nodes_in g) (nodes_in h) → g.queue.waiting ≤ h.queue.waiting → KeepsShown now rows g h
  keeps-dropped g h key hidden dropped blocks grows = record { arrays = λ q t. dropped q ∙ by q t (cases holders_total exact_holders q key); blocks = blocks; grows = grows }
    where
      by : (q : Holder) → is_shown now rows q ≡ true → ((is_holder q key ≡ true) × (q ≡ key)) ⊎ ((is_holder q key ≡ false) × (q ≡ key → ⊥)) → cond (is_holder q key) empty (blocks_at g q) ≡ blocks_at g q
      by q t (inl s) = absurd (false≢true (sym hidden ∙ ap (is_shown now rows) (sym s.1) ∙ t))
      by q t (inr s) = ap (λ b. cond b empty (blocks_at g q)) s.0

pub keeps-alike : (now : ℕ) (a b : Rows) → aged now a ≡ aged now b → (g h : Holding) → KeepsShown now a g h → KeepsShown now b g h
keeps-alike now a b same g h keeps = record { arrays = λ q t. keeps.arrays q (shown-alike now a b same q ∙ t); blocks = keeps.blocks; grows = keeps.grows }

-- a holder without a node has no blocks
pub none-blocks : (h : Holding) (q : Holder) → get (held_in h) q ≡ None → blocks_at h q ≡ empty
none-blocks h q none = ap (array_of_node (nodes_in h)) none

-- ---- what is shown stays

module _ (now : ℕ) (rows : Rows) (g h : Holding) (keeps : KeepsShown now rows g h) where
  snap-seen : (q : SnapKey) (b : Bool) → has_blocks now (get rows.snaps q) ≡ b → cond b (snap_array h q) empty ≡ cond b (snap_array g q) empty
  snap-seen q true t = ap kept_array (keeps.arrays (of_snap q) t)
  snap-seen q false t = refl

  pub snaps-stay : aged_rows now (with_arrays rows.snaps (snap_array h)) ≡ aged_rows now (with_arrays rows.snaps (snap_array g))
  snaps-stay = same-shown now rows.snaps (snap_array h) (snap_array g) (λ q. snap-seen q (has_blocks now (get rows.snaps q)) refl)

  disk-seen : (q : VolKey) (o : Option VolRow) → get rows.vols q ≡ o → option_map (λ (row : VolRow). disk_array h q) o ≡ option_map (λ (row : VolRow). disk_array g q) o
  disk-seen q None e = refl
  disk-seen q (Some row) e = ap (λ a. Some (kept_array a)) (keeps.arrays (of_vol q) (ap is_some e))

  pub disks-stay : with_disks rows.vols (disk_array h) ≡ with_disks rows.vols (disk_array g)
  disks-stay = same_disks _ _ (λ q. get-disk rows.vols (disk_array h) q ∙ disk-seen q (get rows.vols q) refl ∙ sym (get-disk rows.vols (disk_array g) q))

-- rows are given up, and then arrays
pub ended-shown : (k new : Inside) → record (shown new) { snaps = (shown k).snaps; own = (shown k).own; tokens = (shown k).tokens; vols = (shown k).vols; disks = (shown k).disks; books = (shown k).books; policies = (shown k).policies } ≡ shown k
    → new.clock ≡ k.clock → aged k.clock.second (rows_in new.catalog) ≡ aged k.clock.second (rows_in k.catalog) → KeepsShown k.clock.second (rows_in k.catalog) k.holdings new.holdings → shown new ≡ shown k
ended-shown k new others clock rows keeps =
    let now = k.clock.second in
    let snaps =
    ap (λ (m : ℕ). aged_rows m (with_arrays (rows_in new.catalog).snaps (snap_array new.holdings))) (λ i. (clock i).second)
    ∙ arrays-alike now (rows_in new.catalog) (rows_in k.catalog) rows (snap_array new.holdings) ∙ snaps-stay now (rows_in k.catalog) k.holdings new.holdings keeps in
    let disks = ap (λ (r : Rows). with_disks r.vols (disk_array new.holdings)) rows ∙ disks-stay now (rows_in k.catalog) k.holdings new.holdings keeps in
    λ i. record (others i) {
      snaps = snaps i;
      own = (rows i).own;
      tokens = (rows i).tokens;
      vols = (rows i).vols;
      disks = disks i;
      books = (rows i).books;
      policies = (rows i).policies;
    }

-- ---- each step leaves less

shorter : {A : Type 0} (p : A → Bool) (xs : List A) → length (filter p xs) ≤ length xs
shorter p [] = omega arith
shorter p (x ∷ xs) = by (p x) (shorter p xs)
  where
    by : (b : Bool) → length (filter p xs) ≤ length xs → length (cond b (x ∷ filter p xs) (filter p xs)) ≤ length (x ∷ xs)
    by true h = omega (arith, h)
    by false h = omega (arith, h)

some_is : {A : Type 0} (x y : A) → Some x ≡ Some y → x ≡ y
some_is x y e = cc

none_is : {A B : Type 0} (x : A) → None ≡ Some x → B
none_is x e = absurd (cc)

-- the first one is left out
pub fewer-ended : (keys : List SnapKey) (key : SnapKey) → slice_get keys 0 ≡ Some key → length (filter (λ other. not (is_key other key)) keys) < length keys
fewer-ended [] key e = none_is key e
fewer-ended (k ∷ keys) key e =
    let out : not (is_key k key) ≡ false = ap (λ q. not (is_key q key)) (some_is k key e) ∙ ap not (key_itself key) in
    let rest : length (filter (λ other. not (is_key other key)) keys) ≤ length keys = shorter (λ other. not (is_key other key)) keys in
    subst (λ b. length (cond b (k ∷ filter (λ other. not (is_key other key)) keys) (filter (λ other. not (is_key other key)) keys)) < length (k ∷ keys)) (sym out) (omega (arith, rest))

some-held : (g : HeldBy) (q : Holder) → IsSome (get g q) → 1 ≤ len g
some-held g q there = by (len g) refl
  where
    by : (n : ℕ) → len g ≡ n → 1 ≤ n
    by zero e = absurd (false≢true (sym (ap (λ (m : HeldBy). is_some (get m q)) (empty_of_len g e) ∙ ap is_some (get-empty holder_cmp q)) ∙ there))
    by (suc n) e = omega arith

-- a holder is taken out
pub fewer-held : (g h : HeldBy) (q : Holder) → IsSome (get g q) → h ≡ remove g q → len h < len g
fewer-held g h q there is =
    let less : len (remove g q) ≡ len g - 1 = len-remove holders_total g q ∙ ap (λ b. cond b (len g - 1) (len g)) there in
    subst (λ (m : HeldBy). len m < len g) (sym is) (below (len g) (len (remove g q)) less (some-held g q there))
  where
    below : (n m : ℕ) → m ≡ n - 1 → 1 ≤ n → m < n
    below n m e h = omega (arith, e, h)
