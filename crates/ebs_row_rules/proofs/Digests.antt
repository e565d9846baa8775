-- Blocks of one stamp, and the digests that are kept of them.
use Rattle.std.proofs.Common.{◌≡◌, ℕ, ◌+◌, ◌<◌, Bool, true, false, true≢false, not, ◌||◌, List, [], ◌∷◌, ◌++◌, length, get_or, take, cond, Option, None, Some, refl, sym, ◌∙◌, ap, subst, arith}
use Rattle.std.specs.Prelude.{◌==◌, nat_eq}
use Rattle.std.specs.List.{list_all, Contains}
use Rattle.std.specs.Ordering.{nat_cmp, eq_by_cmp}
use Rattle.std.specs.Cmp.{nat_cmp_total}
use Rattle.std.specs.Cmp.Lexicographic.{pointwise, same_text}
use Rattle.std.specs.FinMap.{FinMap, get, insert, empty, get-insert, get-empty}
use Rattle.std.proofs.lemmas.List.Folds.{list_any-append, list_any_at}
use Rattle.std.proofs.lemmas.List.Sums.{AllPass-from_list_all, list_all-from_AllPass}
use Rattle.std.proofs.lemmas.List.Elements.{All-contains, All-contains_itself, Contains-append_left, Contains-append_right}
use Rattle.std.proofs.lemmas.List.{take_more}
use Rattle.ebs_model.specs.declared.array.Block.{Block}
use Rattle.ebs_row_rules.specs.Stamps.{are_alike, have_one_digest}
use Rattle.ebs_row_rules.specs.inner.Stamps.{IsDigestOf, is_digest, has_digest}

same_stamp : (q k : ℕ) → eq_by_cmp nat_cmp q k ≡ (k == q)
same_stamp q k = grind arith

alike_from : (q k : ℕ) → (k == q) ≡ true → k ≡ q
alike_from q k h = grind arith

more : (xs : List Block) (b : Block) (n : ℕ) (o : Option (List ℕ)) (t : Bool) → t ≡ (b.stamp == n) → IsDigestOf xs n o → IsDigestOf (xs ++ b ∷ []) n (cond t (Some b.digest) o)
more xs b n o true e h = record { block = b; there = Contains-append_right xs (b ∷ []) b (0, omega arith, refl); stamped = alike_from n b.stamp (sym e); digested = refl }
more xs b n None false e h = list_any-append (λ (x : Block). x.stamp == n) xs (b ∷ []) ∙ rw (h, sym e) refl
more xs b n (Some d) false e h = record { block = h.block; there = Contains-append_left xs (b ∷ []) h.block h.there; stamped = h.stamped; digested = h.digested }

pub digest_push : (m t : FinMap nat_cmp (List ℕ)) (xs : List Block) (i : ℕ) (d : Block) → i < length xs → ((n : ℕ) → IsDigestOf (take i xs) n (get m n)) → t ≡ insert m (get_or xs i d).stamp (get_or xs i d).digest → (n : ℕ) → IsDigestOf (take (i + 1) xs) n (get t n)
digest_push m t xs i d less h e n =
    rw (e, take_more xs i d less, get-insert nat_cmp_total m (get_or xs i d).stamp (get_or xs i d).digest n)
    (more (take i xs) (get_or xs i d) n (get m n) (eq_by_cmp nat_cmp n (get_or xs i d).stamp) (same_stamp n (get_or xs i d).stamp) (h n))

pub no_digests : (m : FinMap nat_cmp (List ℕ)) → m ≡ empty → (n : ℕ) → IsDigestOf [] n (get m n)
no_digests m e n = rw (e, get-empty {X = List ℕ} nat_cmp n) refl

-- two tests agree where each follows from the other
same_bool : (a b : Bool) → (a ≡ true → b ≡ true) → (b ≡ true → a ≡ true) → a ≡ b
same_bool true b f g = sym (f refl)
same_bool false true f g = g refl
same_bool false false f g = refl

own : (n : ℕ) → (n == n) ≡ true
own n = grind arith

own_bytes : (xs : List ℕ) → pointwise nat_eq xs xs ≡ true
own_bytes [] = refl
own_bytes (x ∷ xs) = rw (own x) (own_bytes xs)

last : (b c : Bool) → b ≡ true → (not b || c) ≡ true → c ≡ true
last true c e h = h
last false c e h = absurd (true≢false (sym e))

-- both have the digest that is kept of their stamp
alike : (m : FinMap nat_cmp (List ℕ)) (a b : Block) → has_digest m a ≡ true → has_digest m b ≡ true → are_alike a b ≡ true
alike m a b ha hb = cases (a.stamp == b.stamp) refl
  where
    both : (o : Option (List ℕ)) → is_digest o a.digest ≡ true → is_digest o b.digest ≡ true → pointwise nat_eq a.digest b.digest ≡ true
    both None x y = absurd cc
    both (Some d) x y = subst (λ e. pointwise nat_eq e b.digest ≡ true) (same_text d a.digest (sym x)) y

    cases : (t : Bool) → t ≡ (a.stamp == b.stamp) → (not t || pointwise nat_eq a.digest b.digest) ≡ true
    cases false e = refl
    cases true e = both (get m b.stamp) (subst (λ n. is_digest (get m n) a.digest ≡ true) (alike_from b.stamp a.stamp (sym e)) ha) hb

-- a block is alike to the one whose digest is kept
kept : (xs : List Block) (a : Block) → Contains xs a → list_all (are_alike a) xs ≡ true → (o : Option (List ℕ)) → IsDigestOf xs a.stamp o → is_digest o a.digest ≡ true
kept xs a there h None none =
    absurd (true≢false (sym (list_any_at (λ (b : Block). b.stamp == a.stamp) xs there.0 a there.1 (ap (λ (b : Block). b.stamp == a.stamp) there.2 ∙ own a.stamp)) ∙ none))
kept xs a there h (Some d) of =
    let test : are_alike a of.block ≡ true = All-contains (λ b. are_alike a b ≡ true) xs of.block (AllPass-from_list_all (are_alike a) xs h) of.there in
    let stamped : (a.stamp == of.block.stamp) ≡ true = ap (λ n. a.stamp == n) of.stamped ∙ own a.stamp in
    let digested : a.digest ≡ of.block.digest = same_text a.digest of.block.digest (sym (last (a.stamp == of.block.stamp) (pointwise nat_eq a.digest of.block.digest) stamped test)) in
    subst (λ e. pointwise nat_eq e a.digest ≡ true) (digested ∙ of.digested) (own_bytes a.digest)

pub one_digest : (m : FinMap nat_cmp (List ℕ)) (xs : List Block) → ((n : ℕ) → IsDigestOf xs n (get m n)) → list_all (has_digest m) xs ≡ have_one_digest xs
one_digest m xs of = same_bool _ _ to from
  where
    to : list_all (has_digest m) xs ≡ true → have_one_digest xs ≡ true
    to h = let all = AllPass-from_list_all (has_digest m) xs h in
        list_all-from_AllPass (λ a. list_all (are_alike a) xs) xs (λ k d l. list_all-from_AllPass (are_alike (get_or xs k d)) xs (λ j e q. alike m (get_or xs k d) (get_or xs j e) (all k d l) (all j e q)))

    from : have_one_digest xs ≡ true → list_all (has_digest m) xs ≡ true
    from h = let all = AllPass-from_list_all (λ a. list_all (are_alike a) xs) xs h in
        list_all-from_AllPass (has_digest m) xs (λ k d l. kept xs (get_or xs k d) (All-contains_itself xs k d l) (all k d l) (get m (get_or xs k d).stamp) (of (get_or xs k d).stamp))
