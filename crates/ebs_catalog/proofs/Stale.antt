-- What time has ended.
use Rattle.std.proofs.Common.{◌≡◌, ℕ, Bool, true, false, cond, not, ◌&&◌, ◌||◌, List, [], ◌∷◌, map, length, arith, Option, Some, None, Ordering, Less, Equal, Greater, refl, sym, ap, subst, ◌∙◌}
use Rattle.std.proofs.lemmas.Bool.{false≢true}
use Rattle.std.specs.Prelude.{slice_get}
use Rattle.std.specs.List.{filter}
use Rattle.std.specs.Map.{lookup}
use Rattle.std.specs.BTreeMap.{is_at}
use Rattle.std.specs.Ordering.{eq_by_cmp}
use Rattle.std.specs.FinMap.Entries.{put, by_order}
use Rattle.std.specs.FinMap.{FinMap, get, remove, empty, entries, len-entries, len-empty, entries-insert}
use Rattle.ebs_tables.proofs.MapEdits.{is_same, tied, put_back}
use Rattle.ebs_tables.proofs.TreeMaps.{get-lookup}
use Rattle.ebs_tables.proofs.FullLaws.{remove-none}
use Rattle.ebs_model.specs.declared.keys.SnapKey.{SnapKey}
use Rattle.ebs_model.specs.declared.rows.SnapRow.{SnapRow}
use Rattle.ebs_model.specs.Keys.{snap_cmp}
use Rattle.ebs_model.specs.inner.Orders.{snaps_total, exact_snaps}
use Rattle.ebs_model.specs.Rows.{is_key}
use Rattle.ebs_model.proofs.RowLaws.{is_key-other, key_itself}
use Rattle.ebs_catalog.specs.Held.{is_ended}
use Rattle.ebs_catalog.proofs.RowsKept.{gone}

abbrev pub Waits : Type 0
Waits = FinMap snap_cmp (Unit {0})

abbrev pub Pairs : Type 0
Pairs = List (SnapKey × Unit {0})

abbrev pub keys_at : (SnapKey → Bool) → Pairs → Pairs
keys_at P es = filter (λ e. P e.0) es

abbrev pub firsts : Pairs → List SnapKey
firsts es = map (λ e. e.0) es

abbrev pub stale_in : FinMap snap_cmp SnapRow → Waits → ℕ → List SnapKey
stale_in s w now = map (λ e. e.0) (filter (λ e. is_ended now (get s e.0)) (entries w))

pub stale-empty : (s : FinMap snap_cmp SnapRow) (now : ℕ) → stale_in s empty now ≡ []
stale-empty s now = ap (λ (es : List (SnapKey × Unit {0})). map (λ e. e.0) (filter (λ e. is_ended now (get s e.0)) es)) (none (entries empty) (sym (len-entries empty) ∙ len-empty snap_cmp (Unit {0})))
  where
    none : (es : List (SnapKey × Unit {0})) → length es ≡ 0 → es ≡ []
    none [] h = refl
    none (e ∷ es) h = absurd (omega (arith, h))

-- a key that fails the test may be added
pub filter-put : (P : SnapKey → Bool) (k : SnapKey) → P k ≡ false → (es : Pairs) → keys_at P (put snap_cmp k tt es) ≡ keys_at P es
filter-put P k h [] = ap (λ b. cond b ((k, tt) ∷ []) []) h
filter-put P k h (e ∷ es) = by (snap_cmp k e.0) refl (filter-put P k h es)
  where
    by : (r : Ordering) → snap_cmp k e.0 ≡ r → keys_at P (put snap_cmp k tt es) ≡ keys_at P es → keys_at P (by_order r ((k, tt) ∷ e ∷ es) ((e.0, tt) ∷ es) (e ∷ put snap_cmp k tt es)) ≡ keys_at P (e ∷ es)
    by Less t rest = ap (λ b. cond b ((k, tt) ∷ keys_at P (e ∷ es)) (keys_at P (e ∷ es))) h
    by Equal t rest =
        let fails : P e.0 ≡ false = ap P (sym (exact_snaps k e.0 t)) ∙ h in
        ap (λ b. cond b ((e.0, tt) ∷ keys_at P es) (keys_at P es)) fails ∙ sym (ap (λ b. cond b (e ∷ keys_at P es) (keys_at P es)) fails)
    by Greater t rest = ap (λ x. cond (P e.0) (e ∷ x) x) rest

-- tests that differ only at a key that isn't there
pub filter-absent : (P Q : SnapKey → Bool) (k : SnapKey) → ((q : SnapKey) → eq_by_cmp snap_cmp k q ≡ false → P q ≡ Q q) → (es : Pairs) → lookup (is_at (snap_cmp k)) es ≡ None → keys_at P es ≡ keys_at Q es
filter-absent P Q k same [] h = refl
filter-absent P Q k same (e ∷ es) h = by (eq_by_cmp snap_cmp k e.0) refl h (filter-absent P Q k same es)
  where
    some_none : (u : Unit {0}) → Some u ≡ None → ⊥
    some_none u e = cc

    by : (b : Bool) → eq_by_cmp snap_cmp k e.0 ≡ b → cond b (Some e.1) (lookup (is_at (snap_cmp k)) es) ≡ None → (lookup (is_at (snap_cmp k)) es ≡ None → keys_at P es ≡ keys_at Q es) → keys_at P (e ∷ es) ≡ keys_at Q (e ∷ es)
    by true t h rest = absurd (some_none e.1 h)
    by false t h rest = λ i. cond (same e.0 t i) (e ∷ rest h i) (rest h i)

-- a test of the keys
pub filter-firsts : (p P : SnapKey → Bool) (es : Pairs) → filter p (firsts (keys_at P es)) ≡ firsts (keys_at (λ q. p q && P q) es)
filter-firsts p P [] = refl
filter-firsts p P (e ∷ es) = by (P e.0) (p e.0) refl (filter-firsts p P es)
  where
    by : (b c : Bool) → p e.0 ≡ c → filter p (firsts (keys_at P es)) ≡ firsts (keys_at (λ q. p q && P q) es) → filter p (firsts (cond b (e ∷ keys_at P es) (keys_at P es))) ≡ firsts (cond (p e.0 && b) (e ∷ keys_at (λ q. p q && P q) es) (keys_at (λ q. p q && P q) es))
    by true c t rest = ap (λ x. cond (p e.0) (e.0 ∷ x) x) rest ∙ at (p e.0)
      where
        at : (x : Bool) → cond x (e.0 ∷ firsts (keys_at (λ q. p q && P q) es)) (firsts (keys_at (λ q. p q && P q) es)) ≡ firsts (cond (x && true) (e ∷ keys_at (λ q. p q && P q) es) (keys_at (λ q. p q && P q) es))
        at true = refl
        at false = refl
    by false c t rest = rest ∙ at (p e.0)
      where
        at : (x : Bool) → firsts (keys_at (λ q. p q && P q) es) ≡ firsts (cond (x && false) (e ∷ keys_at (λ q. p q && P q) es) (keys_at (λ q. p q && P q) es))
        at true = refl
        at false = refl

-- keys that aren't the same
pub other : (q k : SnapKey) → is_key q k ≡ false → eq_by_cmp snap_cmp q k ≡ false
other q k h = by (eq_by_cmp snap_cmp q k) refl
  where
    by : (b : Bool) → eq_by_cmp snap_cmp q k ≡ b → eq_by_cmp snap_cmp q k ≡ false
    by true t = absurd (false≢true (sym h ∙ ap (λ p. is_key p k) (is_same exact_snaps q k t) ∙ key_itself k))
    by false t = t

pub other-key : (q k : SnapKey) → eq_by_cmp snap_cmp k q ≡ false → is_key q k ≡ false
other-key q k h = is_key-other q k (λ e. false≢true (sym h ∙ ap (eq_by_cmp snap_cmp k) e ∙ tied snaps_total k))

-- the first of what time has ended passes the test
pub first-ended : (P : SnapKey → Bool) (k : SnapKey) (es : Pairs) → slice_get (firsts (keys_at P es)) 0 ≡ Some k → P k ≡ true
first-ended P k [] h = absurd (none_is h)
  where
    none_is : ◌≡◌ {A = Option SnapKey} None (Some k) → ⊥
    none_is e = cc
first-ended P k (e ∷ es) h = by (P e.0) refl h (first-ended P k es)
  where
    some_same : Some e.0 ≡ Some k → e.0 ≡ k
    some_same e = cc

    by : (b : Bool) → P e.0 ≡ b → slice_get (firsts (cond b (e ∷ keys_at P es) (keys_at P es))) 0 ≡ Some k → (slice_get (firsts (keys_at P es)) 0 ≡ Some k → P k ≡ true) → P k ≡ true
    by true t h rest = subst (λ q. P q ≡ true) (some_same h) t
    by false t h rest = rest h

-- what time has ended, without a key that is given up
module _ (s s' : FinMap snap_cmp SnapRow) (w : Waits) (k : SnapKey) (t : ℕ) (same : (q : SnapKey) → is_key q k ≡ false → get s' q ≡ get s q) where
  abbrev after : SnapKey → Bool
  after q = is_ended t (get s' q)

  abbrev before : SnapKey → Bool
  before q = not (is_key q k) && is_ended t (get s q)

  alike : (q : SnapKey) → eq_by_cmp snap_cmp k q ≡ false → after q ≡ before q
  alike q h = let apart = other-key q k h in ap (is_ended t) (same q apart) ∙ sym (ap (λ b. not b && is_ended t (get s q)) apart)

  left-out : keys_at after (entries (remove w k)) ≡ keys_at before (entries (remove w k))
  left-out = filter-absent after before k alike (entries (remove w k)) (sym (get-lookup snap_cmp (remove w k) k) ∙ gone snaps_total exact_snaps w k)

  there : (o : Option (Unit {0})) → get w k ≡ o → keys_at before (entries (remove w k)) ≡ keys_at before (entries w)
  there None h = ap (λ x. keys_at before (entries x)) (remove-none snaps_total exact_snaps w k h)
  there (Some u) h =
      sym (filter-put before k (ap (λ b. not b && is_ended t (get s k)) (key_itself k)) (entries (remove w k)))
      ∙ ap (keys_at before) (sym (entries-insert snaps_total (remove w k) k tt) ∙ ap entries (put_back snaps_total exact_snaps w k tt h))

  pub stale-removed : stale_in s' (remove w k) t ≡ filter (λ q. not (is_key q k)) (stale_in s w t)
  stale-removed = ap firsts (left-out ∙ there (get w k) refl) ∙ sym (filter-firsts (λ q. not (is_key q k)) (λ q. is_ended t (get s q)) (entries w))

pub not_left : (s f : Bool) → (not s || f) ≡ true → s ≡ true → f ≡ true
not_left true f h e = h
not_left false f h e = absurd (false≢true e)
