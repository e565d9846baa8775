-- Counts over a snapshot's copies.
use Rattle.std.proofs.Common.{◌≡◌, ◌≤◌, ◌<◌, ◌+◌, ◌^◌, suc, ℕ, arith, Bool, true, false, cond, T, List, [], ◌∷◌, length, refl, sym, ap, subst, ◌∙◌, zero-add}
use Rattle.std.specs.declared.cmp.Ordering.TheVariants.{Less}
use Rattle.std.specs.List.{AllByRecursion, filter, count_by}
use Rattle.std.specs.Ordering.{is_le, ordering_reverse}
use Rattle.std.specs.Map.{keys_of}
use Rattle.std.specs.FinMap.Entries.{below_all, is_sorted-where_key}
use Rattle.std.specs.FinMap.{FinMap, entries, entries_sorted}
use Rattle.std.proofs.lemmas.List.Sums.{sum_by-cons}
use Rattle.std.proofs.lemmas.Bool.{false≢true}
use Rattle.ebs_model.specs.declared.keys.SnapKey.{SnapKey}
use Rattle.ebs_model.proofs.RowLaws.{is_key-same}
use Rattle.ebs_archive.specs.declared.copy_key.CopyKey.{CopyKey}
use Rattle.ebs_archive.specs.declared.copies.ArchiveCopy.{ArchiveCopy}
use Rattle.ebs_archive.specs.Keys.{copy_key_cmp, copy_key, in_row, IsFrom}
use Rattle.ebs_archive.specs.inner.Orders.{copy_keys_total}
use Rattle.ebs_archive.proofs.Heads.{both_of, is_less}
use Rattle.ebs_archive.proofs.Rows.{behind, starts, found}

abbrev pub Entry : Type 0
Entry = CopyKey × ArchiveCopy

abbrev pub of : SnapKey → Entry → Bool
of key e = in_row key e.0

abbrev pub count : SnapKey → List Entry → ℕ
count key es = count_by (of key) es

cons : (key : SnapKey) (e : Entry) (es : List Entry) → count key (e ∷ es) ≡ cond (of key e) 1 0 + count key es
cons key e es = sum_by-cons (λ x. cond (of key x) 1 0) e es

by_two : (b : Bool) (n m : ℕ) → n ≤ m → cond b 1 0 + n ≤ suc m
by_two true n m h = omega arith
by_two false n m h = omega arith

count_le : (key : SnapKey) (es : List Entry) → count key es ≤ length es
count_le key [] = omega arith
count_le key (e ∷ es) = subst (λ n. n ≤ length (e ∷ es)) (sym (cons key e es)) (by_two (of key e) _ _ (count_le key es))

pub few : (key : SnapKey) (es : List Entry) → length es < 2 ^ 63 → count key es < 2 ^ 63
few key es h = let le = count_le key es in omega (arith, le, h)

pub one_more : (key : SnapKey) (e : Entry) (es : List Entry) → of key e ≡ true → count key (e ∷ es) ≡ 1 + count key es
one_more key e es h = cons key e es ∙ ap (λ b. cond b 1 0 + count key es) h

-- behind one of another snapshot there is none
module _ (key : SnapKey) (p : CopyKey) (reached : is_le (copy_key_cmp (copy_key key 0) p) ≡ true) (other : p.key ≡ key → ⊥) where
  none-behind : (q : CopyKey) → copy_key_cmp p q ≡ Less → in_row key q ≡ false
  none-behind q l = by (in_row key q) refl
    where
      turned : Less ≡ ordering_reverse Less → ⊥
      turned e = cc

      by : (b : Bool) → in_row key q ≡ b → b ≡ false
      by true e = absurd (turned (sym l ∙ copy_keys_total.antisymm p q ∙ ap ordering_reverse (ap (λ k. copy_key_cmp (copy_key k q.index) p) (is_key-same q.key key e) ∙ behind key 0 q.index p reached other)))
      by false e = refl

  none-all : (es : List Entry) → T (below_all copy_key_cmp p es) → count key es ≡ 0
  none-all [] h = refl
  none-all (e ∷ es) h =
      cons key e es ∙ ap (λ b. cond b 1 0 + count key es) (none-behind e.0 (is_less _ (both_of _ _ h).0)) ∙ zero-add _ ∙ none-all es (both_of _ _ h).1

not_own : (key : SnapKey) (p : CopyKey) → (p.key ≡ key → ⊥) → in_row key p ≡ false
not_own key p other = by (in_row key p) refl
  where
    by : (b : Bool) → in_row key p ≡ b → b ≡ false
    by true e = absurd (other (is_key-same p.key key e))
    by false e = refl

pub none-left : (key : SnapKey) (e : Entry) (es : List Entry) → IsFrom key (e ∷ es) → (e.0.key ≡ key → ⊥) → count key (e ∷ es) ≡ 0
none-left key e es from other =
    cons key e es ∙ ap (λ b. cond b 1 0 + count key es) (not_own key e.0 other) ∙ zero-add _ ∙ none-all key e.0 from.1.0 other es (both_of _ _ from.0).0

pub from-on : (key : SnapKey) (e : Entry) (es : List Entry) → IsFrom key (e ∷ es) → IsFrom key es
from-on key e es from = ((both_of _ _ from.0).1, from.1.1)

-- the entries from the first key of a snapshot on
module _ (key : SnapKey) where
  abbrev test : CopyKey → Bool
  test p = is_le (copy_key_cmp (copy_key key 0) p)

  all-reached : (es : List Entry) → AllByRecursion (λ p. test p ≡ true) (keys_of (filter (λ e. test e.0) es))
  all-reached [] = tt
  all-reached (e ∷ es) = by (test e.0) refl (all-reached es)
    where
      by : (b : Bool) → test e.0 ≡ b → AllByRecursion (λ p. test p ≡ true) (keys_of (filter (λ x. test x.0) es)) → AllByRecursion (λ p. test p ≡ true) (keys_of (cond b (e ∷ filter (λ x. test x.0) es) (filter (λ x. test x.0) es)))
      by true t rest = (t, rest)
      by false t rest = rest

  pub from-found : (m : FinMap copy_key_cmp ArchiveCopy) → IsFrom key (found m key 0)
  from-found m = (is_sorted-where_key copy_key_cmp test (entries m) (entries_sorted m), all-reached (entries m))

  -- all of the snapshot's are among them
  within_by : (b c : Bool) (e : Entry) (es : List Entry) → of key e ≡ c → (c ≡ true → b ≡ true) → count key (filter (λ x. test x.0) es) ≡ count key es
      → count key (cond b (e ∷ filter (λ x. test x.0) es) (filter (λ x. test x.0) es)) ≡ cond c 1 0 + count key es
  within_by true c e es own k rest = cons key e (filter (λ x. test x.0) es) ∙ (λ i. cond (own i) 1 0 + rest i)
  within_by false true e es own k rest = absurd (false≢true (k refl))
  within_by false false e es own k rest = rest ∙ sym (zero-add _)

  pub count-found : (es : List Entry) → count key (filter (λ e. test e.0) es) ≡ count key es
  count-found [] = refl
  count-found (e ∷ es) = within_by (test e.0) (of key e) e es refl (starts key e.0) (count-found es) ∙ sym (cons key e es)
