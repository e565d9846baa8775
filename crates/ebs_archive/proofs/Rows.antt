-- The keys of a snapshot, and what is left without them.
use Rattle.std.proofs.Common.{◌≡◌, ℕ, ◌≤◌, ◌<◌, arith, Bool, true, false, not, cond, List, [], ◌∷◌, Some, None, refl, sym, ap, ◌∙◌}
use Rattle.std.specs.declared.cmp.Ordering.{Ordering}
use Rattle.std.specs.declared.cmp.Ordering.TheVariants.{Less, Equal, Greater}
use Rattle.std.specs.Ordering.{nat_cmp, eq_by_cmp, is_le, ordering_then}
use Rattle.std.specs.Cmp.{nat_cmp_is}
use Rattle.std.specs.FinMap.{FinMap, get, remove, entries, len, same_map, get-remove, get-retain_keys}
use Rattle.std.proofs.lemmas.Bool.{false≢true}
use Rattle.std.proofs.lemmas.Bool.Decides.{nat_tests}
use Rattle.std.proofs.lemmas.Cmp.{tied_itself}
use Rattle.ebs_tables.proofs.MapEdits.{is_same}
use Rattle.ebs_tables.proofs.Counted.{len-left}
use Rattle.ebs_model.specs.declared.keys.SnapKey.{SnapKey}
use Rattle.ebs_model.specs.Keys.{snap_cmp}
use Rattle.ebs_model.specs.Rows.{is_key}
use Rattle.ebs_model.specs.inner.Orders.{exact_snaps, snaps_total}
use Rattle.ebs_model.proofs.RowLaws.{is_key-same, key_itself}
use Rattle.ebs_archive.specs.declared.copy_key.CopyKey.{CopyKey}
use Rattle.ebs_archive.specs.Keys.{copy_key_cmp, copy_key, in_row, row, without_row, IsLeastFrom}
use Rattle.ebs_archive.specs.inner.Orders.{exact_copy_keys, copy_keys_total}
use Rattle.ebs_archive.proofs.Heads.{onward, none-onward, first-there, first-reached, first-least}

index_test : (a b : ℕ) → is_le (nat_cmp a b) ≡ true → a ≤ b
index_test a b h = grind (arith, nat_tests)

index_le : (a b : ℕ) → a ≤ b → is_le (nat_cmp a b) ≡ true
index_le a b h = grind (arith, nat_tests)

pub zero_least : (i : ℕ) → 0 ≤ i
zero_least i = omega arith

index_less : (a b : ℕ) → a < b → nat_cmp a b ≡ Less
index_less a b h = sym (nat_cmp_is a b Less h)

-- what a test of the snapshot tells
pub other-row : (key : SnapKey) (p : CopyKey) → not (in_row key p) ≡ true → p.key ≡ key → ⊥
other-row key p t e = false≢true (ap not (sym (ap (λ k. is_key k key) e ∙ key_itself key)) ∙ t)

pub own-row : (key : SnapKey) (i : ℕ) → in_row key (copy_key key i) ≡ true
own-row key i = key_itself key

pub same-row : (key : SnapKey) (p : CopyKey) → not (in_row key p) ≡ false → p.key ≡ key
same-row key p t = by (in_row key p) refl t
  where
    by : (b : Bool) → in_row key p ≡ b → not b ≡ false → p.key ≡ key
    by true e t = is_key-same p.key key e
    by false e t = absurd (false≢true (sym t))

-- of keys of one snapshot the indexes tell
own : (key : SnapKey) (i : ℕ) (p : CopyKey) → p.key ≡ key → copy_key_cmp (copy_key key i) p ≡ nat_cmp i p.index
own key i p e = ap (λ r. ordering_then r (nat_cmp i p.index)) (ap (snap_cmp key) e ∙ tied_itself snaps_total key)

pub later : (key : SnapKey) (i j : ℕ) → i ≤ j → is_le (copy_key_cmp (copy_key key i) (copy_key key j)) ≡ true
later key i j h = ap is_le (own key i (copy_key key j) refl) ∙ index_le i j h

pub starts : (key : SnapKey) (p : CopyKey) → in_row key p ≡ true → is_le (copy_key_cmp (copy_key key 0) p) ≡ true
starts key p h = ap is_le (own key 0 p (is_key-same p.key key h)) ∙ index_le 0 p.index (zero_least p.index)

-- a key of another snapshot that isn't below one of this stands behind all of it
pub behind : (key : SnapKey) (i j : ℕ) (p : CopyKey) → is_le (copy_key_cmp (copy_key key i) p) ≡ true → (p.key ≡ key → ⊥) → copy_key_cmp (copy_key key j) p ≡ Less
behind key i j p h other = by (snap_cmp key p.key) refl h
  where
    by : (r : Ordering) → snap_cmp key p.key ≡ r → is_le (ordering_then r (nat_cmp i p.index)) ≡ true → ordering_then (snap_cmp key p.key) (nat_cmp j p.index) ≡ Less
    by Less e h = ap (λ r. ordering_then r (nat_cmp j p.index)) e
    by Equal e h = absurd (other (sym (exact_snaps key p.key e)))
    by Greater e h = absurd (false≢true h)

module _ {X : Type 0} (m : FinMap copy_key_cmp X) (key : SnapKey) (from : ℕ) where
  abbrev pub found : List (CopyKey × X)
  found = onward copy_keys_total exact_copy_keys (copy_key key from) (entries m)

  pub least-none : found ≡ [] → IsLeastFrom (row m key) from None
  least-none h = λ q p. none-onward copy_keys_total exact_copy_keys (copy_key key from) m h (copy_key key q) (later key from q p)

  module _ (e : CopyKey × X) (rest : List (CopyKey × X)) (h : found ≡ e ∷ rest) where
    reached-first : is_le (copy_key_cmp (copy_key key from) e.0) ≡ true
    reached-first = first-reached copy_keys_total exact_copy_keys (copy_key key from) m e rest h

    below-first : (q : ℕ) → from ≤ q → copy_key_cmp (copy_key key q) e.0 ≡ Less → row m key q ≡ None
    below-first q p l = first-least copy_keys_total exact_copy_keys (copy_key key from) m e rest h (copy_key key q) (later key from q p) l

    pub least-other : (e.0.key ≡ key → ⊥) → IsLeastFrom (row m key) from None
    least-other other = λ q p. below-first q p (behind key from q e.0 reached-first other)

    pub least-own : e.0.key ≡ key → IsLeastFrom (row m key) from (Some (e.0.index, e.1))
    least-own is = (
      index_test from e.0.index (ap is_le (sym (own key from e.0 is)) ∙ reached-first),
      ap (λ k. get m (copy_key k e.0.index)) (sym is) ∙ first-there copy_keys_total exact_copy_keys (copy_key key from) m e rest h,
      λ q p l. below-first q p (own key q e.0 is ∙ index_less q e.0.index l),
    )

-- one key less
pub fewer : {X : Type 0} (m : FinMap copy_key_cmp X) (p : CopyKey) (v : X) → get m p ≡ Some v → len (remove m p) < len m
fewer m p v h = let left = len-left copy_keys_total exact_copy_keys m p (Some v) (sym h) in omega (arith, left)

-- what is at each key without a snapshot's
module _ {X : Type 0} (m : FinMap copy_key_cmp X) (key : SnapKey) where
  pub get-without : (q : CopyKey) → get (without_row m key) q ≡ cond (not (in_row key q)) (get m q) None
  get-without q = get-retain_keys m (λ p. not (in_row key p)) q (λ x t. ap (λ p. not (in_row key p)) (sym (exact_copy_keys q x t)))

  -- one key of it less
  pub without-remove : (p : CopyKey) → in_row key p ≡ true → without_row (remove m p) key ≡ without_row m key
  without-remove p own = same_map copy_keys_total exact_copy_keys _ _ (λ q.
      get-retain_keys (remove m p) (λ p. not (in_row key p)) q (λ x t. ap (λ p. not (in_row key p)) (sym (exact_copy_keys q x t)))
      ∙ ap (λ x. cond (not (in_row key q)) x None) (get-remove copy_keys_total m p q) ∙ by q (in_row key q) refl (eq_by_cmp copy_key_cmp q p) refl ∙ sym (get-without q))
    where
      by : (q : CopyKey) (b : Bool) → in_row key q ≡ b → (t : Bool) → eq_by_cmp copy_key_cmp q p ≡ t → cond (not b) (cond t None (get m q)) None ≡ cond (not b) (get m q) None
      by q true e t u = refl
      by q false e true u = absurd (false≢true (sym e ∙ ap (in_row key) (is_same exact_copy_keys q p u) ∙ own))
      by q false e false u = refl

  -- none of it is there
  pub without-none : ((i : ℕ) → row m key i ≡ None) → without_row m key ≡ m
  without-none none = same_map copy_keys_total exact_copy_keys _ _ (λ q. get-without q ∙ by q (in_row key q) refl)
    where
      by : (q : CopyKey) (b : Bool) → in_row key q ≡ b → cond (not b) (get m q) None ≡ get m q
      by q true e = sym (none q.index) ∙ ap (λ k. get m (copy_key k q.index)) (sym (is_key-same q.key key e))
      by q false e = refl

  -- what is at the keys of others
  pub get-others : (i : ℕ) (q : CopyKey) → in_row key q ≡ false → get (remove m (copy_key key i)) q ≡ get m q
  get-others i q other = get-remove copy_keys_total m (copy_key key i) q ∙ by (eq_by_cmp copy_key_cmp q (copy_key key i)) refl
    where
      by : (b : Bool) → eq_by_cmp copy_key_cmp q (copy_key key i) ≡ b → cond b None (get m q) ≡ get m q
      by true t = absurd (false≢true (sym other ∙ ap (in_row key) (is_same exact_copy_keys q (copy_key key i) t) ∙ own-row key i))
      by false t = refl
