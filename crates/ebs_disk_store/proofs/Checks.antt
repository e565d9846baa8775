-- What a check counts.
use Rattle.std.proofs.Common.{◌≡◌, ℕ, ◌+◌, ◌*◌, ◌<◌, ◌==◌, ◌&&◌, Bool, true, false, not, cond, zero, suc, nat_lt, is_some, arith, length, List, [], ◌∷◌, Option, Some, None, Result, Ok, Err, refl, sym, ap, subst, ◌∙◌}
use Rattle.std.specs.Prelude.{◌≢◌, IfOk}
use Rattle.std.proofs.lemmas.Bool.{false≢true}
use Rattle.std.proofs.lemmas.Bool.Decides.{nat_tests}
use Rattle.std.specs.Ordering.{nat_cmp, is_eq}
use Rattle.std.specs.Cmp.{nat_cmp_total}
use Rattle.std.specs.declared.cmp.Ordering.TheVariants.{Less}
use Rattle.std.specs.FinMap.{FinMap, get, entries, len, len-entries, nat_cmp-IsAntisymmetric}
use Rattle.std.specs.Map.{lookup, keys_of}
use Rattle.std.specs.BTreeMap.{is_at}
use Rattle.std.specs.List.Sorted.{IsStrictlySortedBy}
use Rattle.ebs_tables.proofs.TreeMaps.{get-lookup, entries-sorted}
use Rattle.ebs_tables.proofs.MapEdits.{is_same, tied}
use Rattle.ebs_catalog.proofs.RunCommits.{entries-in}
use Rattle.std.proofs.lemmas.List.Sums.{sum_by-cons}
use Rattle.std.proofs.lemmas.Slice.Eq.{bytes_eq-Decides}
use Rattle.std.specs.List.{count_by, AllByRecursion}
use Rattle.std.specs.Option.{unwrap_or}
use Rattle.std.specs.Str.{bytes_eq}
use Rattle.sha2.specs.Sha256.{sha256}
use Rattle.ebs_world.specs.Image.{Image, Everywhere, Spells}
use Rattle.ebs_world.specs.View.{View, Ran}
use Rattle.ebs_world.specs.declared.area.Area.TheVariants.{Blocks}
use Rattle.ebs_slots.specs.declared.refusal.ReadRefusal.{ReadRefusal}
use Rattle.ebs_slots.specs.declared.refusal.ReadRefusal.TheVariants as refusals
use Rattle.ebs_slots.specs.Slots.{IsBlock}
use Rattle.ebs_slots.specs.inner.Refusals.{Gives}
use Rattle.ebs_recovery.specs.Stands.{bytes_from, bytes_in}
use Rattle.ebs_disk_store.specs.Checked.{differs}
use Rattle.ebs_disk_store.specs.inner.Checked.{judged}

-- ---- counts of entries by their slot

abbrev pub weight : Bool → ℕ
weight b = cond b 1 0

module _ {A : Type 0} (slot_of : A → ℕ) (p : A → Bool) where
  abbrev pub below : ℕ → A → Bool
  below n e = nat_lt (slot_of e) n && p e

  abbrev pub at : ℕ → A → Bool
  at n e = (slot_of e == n) && p e

  one : (n : ℕ) (e : A) (b : Bool) → weight (nat_lt (slot_of e) (n + 1) && b) ≡ weight (nat_lt (slot_of e) n && b) + weight ((slot_of e == n) && b)
  one n e b = grind (arith, nat_tests)

  pub count-more : (n : ℕ) (es : List A) → count_by (below (n + 1)) es ≡ count_by (below n) es + count_by (at n) es
  count-more n [] = refl
  count-more n (e ∷ es) = omega (arith, sum_by-cons (λ x. weight (below (n + 1) x)) e es, sum_by-cons (λ x. weight (below n x)) e es, sum_by-cons (λ x. weight (at n x)) e es, one n e (p e), count-more n es)

  none_below : (e : A) (b : Bool) → weight (nat_lt (slot_of e) 0 && b) ≡ 0
  none_below e b = grind (arith, nat_tests)

  pub count-none : (es : List A) → count_by (below 0) es ≡ 0
  count-none [] = refl
  count-none (e ∷ es) = omega (arith, sum_by-cons (λ x. weight (below 0 x)) e es, none_below e (p e), count-none es)

  is_below : (n : ℕ) (e : A) (b : Bool) → slot_of e < n → weight (nat_lt (slot_of e) n && b) ≡ weight b
  is_below n e b h = grind (arith, nat_tests)

  -- all are below the bound
  pub count-all : (n : ℕ) (es : List A) → AllByRecursion (λ e. slot_of e < n) es → count_by (below n) es ≡ count_by p es
  count-all n [] h = refl
  count-all n (e ∷ es) h = omega (arith, sum_by-cons (λ x. weight (below n x)) e es, sum_by-cons (λ x. weight (p x)) e es, is_below n e (p e) h.0, count-all n es h.1)

  isnt_at : (n : ℕ) (e : A) (b : Bool) → slot_of e ≢ n → weight ((slot_of e == n) && b) ≡ 0
  isnt_at n e b h = grind (arith, nat_tests)

  is_at_it : (n : ℕ) (e : A) (b : Bool) → slot_of e ≡ n → weight ((slot_of e == n) && b) ≡ weight b
  is_at_it n e b h = grind (arith, nat_tests)

  -- none is there
  pub count-other : (n : ℕ) (es : List A) → AllByRecursion (λ e. slot_of e ≢ n) es → count_by (at n) es ≡ 0
  count-other n [] h = refl
  count-other n (e ∷ es) h = omega (arith, sum_by-cons (λ x. weight (at n x)) e es, isnt_at n e (p e) h.0, count-other n es h.1)

and-true : (b : Bool) → b && true ≡ b
and-true true = refl
and-true false = refl

abbrev pub always : {A : Type 0} → A → Bool
always e = true

-- ---- the bytes of a slot

length-bytes : (f : ℕ → ℕ) (at n : ℕ) → length (bytes_from f at n) ≡ n
unfolding bytes_from
length-bytes f at zero = refl
length-bytes f at (suc n) = ap suc (length-bytes f (at + 1) n)

spells-bytes : (f : ℕ → ℕ) (at n : ℕ) → Spells f at (bytes_from f at n)
unfolding bytes_from
spells-bytes f at zero = tt
spells-bytes f at (suc n) = (refl, spells-bytes f (at + 1) n)

pub in-slot : (c : Image) (slot : ℕ) → IsBlock c Blocks slot (bytes_in c (Some slot))
in-slot c slot = record { size = length-bytes (c Blocks) (524288 * slot) 524288; stands = spells-bytes (c Blocks) (524288 * slot) 524288 }

-- ---- what is read

zeros-differ : (kept : Option (List ℕ)) (found digest zeros : List ℕ) → digest ≡ unwrap_or kept zeros → found ≡ digest → false ≡ differs kept found
zeros-differ None found digest zeros is same = refl
zeros-differ (Some d) found digest zeros is same = ap not (sym ((bytes_eq-Decides found d).1 (same ∙ is)))

not-same : (found d : List ℕ) (b : Bool) → bytes_eq found d ≡ b → found ≢ d → true ≡ not (bytes_eq found d)
not-same found d true is other = absurd (other ((bytes_eq-Decides found d).0 is))
not-same found d false is other = sym (ap not is)

kept-differs : (kept : Option (List ℕ)) (found digest zeros : List ℕ) → digest ≡ unwrap_or kept zeros → found ≢ digest → is_some kept ≡ differs kept found
kept-differs None found digest zeros is other = refl
kept-differs (Some d) found digest zeros is other = not-same found d (bytes_eq found d) refl (λ same. other (same ∙ sym is))

pub judges : (read : Result (List ℕ) ReadRefusal) (kept : Option (List ℕ)) (digest zeros : List ℕ) (A : ℕ → Type 0) (B : Type 0) (bytes : ℕ → List ℕ) → digest ≡ unwrap_or kept zeros
    → ((slot : ℕ) → A slot → B → Gives read digest (bytes slot)) → IfOk (judged read (is_some kept)) (λ damaged. (slot : ℕ) → A slot → B → damaged ≡ differs kept (sha256 (bytes slot)))
judges (Ok given) kept digest zeros A B bytes is gives = λ slot a b. zeros-differ kept (sha256 (bytes slot)) digest zeros is (gives slot a b).1
judges (Err refusals.DiskFailed) kept digest zeros A B bytes is gives = tt
judges (Err (refusals.Damaged stored found)) kept digest zeros A B bytes is gives = λ slot a b.
    let g = gives slot a b in kept-differs kept (sha256 (bytes slot)) digest zeros is (λ same. g.2 (g.1 ∙ same))
judges (Err refusals.Memory) kept digest zeros A B bytes is gives = tt

-- ---- the entries of a table of slots

pub weaker : {A : Type 0} (P Q : A → Type 0) → ((x : A) → P x → Q x) → (xs : List A) → AllByRecursion P xs → AllByRecursion Q xs
weaker P Q f [] h = tt
weaker P Q f (x ∷ xs) h = (f x h.0, weaker P Q f xs h.1)

abbrev pub slot_in : ℕ × ℕ → ℕ
slot_in e = e.1

not-less : (k y : ℕ) → nat_cmp k y ≡ Less → y ≢ k
not-less k y h e = false≢true (sym (ap is_eq (ap (nat_cmp k) (sym e) ∙ h)) ∙ tied nat_cmp_total k)

-- no key behind this one has the slot
behind : (key slot : ℕ) (es : List (ℕ × ℕ)) → AllByRecursion (λ y. nat_cmp key y ≡ Less) (keys_of es) → AllByRecursion (λ e. e.1 ≡ slot → e.0 ≡ key) es → AllByRecursion (λ e. e.1 ≢ slot) es
behind key slot [] less only = tt
behind key slot (e ∷ es) less only = (λ is. not-less key e.0 less.0 (only.0 is), behind key slot es less.1 only.1)

count-in : (p : ℕ × ℕ → Bool) (key slot : ℕ) (es : List (ℕ × ℕ)) → IsStrictlySortedBy nat_cmp (keys_of es) → AllByRecursion (λ e. e.1 ≡ slot → e.0 ≡ key) es → lookup (is_at (nat_cmp key)) es ≡ Some slot
    → count_by (at slot_in p slot) es ≡ weight (p (key, slot))
unfolding IsStrictlySortedBy
count-in p key slot [] sorted only found = cc
count-in p key slot (e ∷ es) sorted only found = by (is_at (nat_cmp key) e.0) refl (λ (f : lookup (is_at (nat_cmp key)) es ≡ Some slot). count-in p key slot es sorted.1 only.1 f) found
  where
    by : (b : Bool) → is_at (nat_cmp key) e.0 ≡ b → (lookup (is_at (nat_cmp key)) es ≡ Some slot → count_by (at slot_in p slot) es ≡ weight (p (key, slot)))
        → cond b (Some e.1) (lookup (is_at (nat_cmp key)) es) ≡ Some slot → count_by (at slot_in p slot) (e ∷ es) ≡ weight (p (key, slot))
    by true is rest found =
        let same : key ≡ e.0 = is_same nat_cmp-IsAntisymmetric key e.0 is in
        let here : e.1 ≡ slot = cc in
        let entry : weight (p e) ≡ weight (p (key, slot)) = ap (λ (x : ℕ × ℕ). weight (p x)) (λ i. (sym same i, here i)) in
        let less : AllByRecursion (λ y. nat_cmp key y ≡ Less) (keys_of es) = subst (λ (k : ℕ). AllByRecursion (λ y. nat_cmp k y ≡ Less) (keys_of es)) (sym same) sorted.0 in
        omega (arith, sum_by-cons (λ x. weight (at slot_in p slot x)) e es, is_at_it slot_in p slot e (p e) here, count-other slot_in p slot es (behind key slot es less only.1), entry)
    by false is rest found =
        let other : e.1 ≢ slot = λ here. false≢true (sym is ∙ ap (λ (k : ℕ). is_at (nat_cmp key) k) (only.0 here) ∙ tied nat_cmp_total key) in
        omega (arith, sum_by-cons (λ x. weight (at slot_in p slot x)) e es, isnt_at slot_in p slot e (p e) other, rest found)

module _ (keys : FinMap nat_cmp ℕ) (slot : ℕ) where
  -- no key has the slot
  pub count-free : (p : ℕ × ℕ → Bool) → ((key : ℕ) → get keys key ≢ Some slot) → count_by (at slot_in p slot) (entries keys) ≡ 0
  count-free p none = count-other slot_in p slot (entries keys) (weaker (λ e. get keys e.0 ≡ Some e.1) (λ e. e.1 ≢ slot) (λ e found is. none e.0 (found ∙ ap Some is)) (entries keys) (entries-in nat_cmp_total keys))

  -- one has it
  pub count-one : (p : ℕ × ℕ → Bool) (key : ℕ) → ((k : ℕ) → get keys k ≡ Some slot → k ≡ key) → get keys key ≡ Some slot → count_by (at slot_in p slot) (entries keys) ≡ weight (p (key, slot))
  count-one p key only found = count-in p key slot (entries keys) (entries-sorted nat_cmp keys)
      (weaker (λ e. get keys e.0 ≡ Some e.1) (λ e. e.1 ≡ slot → e.0 ≡ key) (λ e has is. only e.0 (has ∙ ap Some is)) (entries keys) (entries-in nat_cmp_total keys)) (sym (get-lookup nat_cmp keys key) ∙ found)

  pub whole : count_by (λ (e : ℕ × ℕ). e.1 == slot) (entries keys) ≡ count_by (at slot_in always slot) (entries keys)
  whole = ap (λ (f : ℕ × ℕ → Bool). count_by f (entries keys)) (λ i e. sym (and-true (e.1 == slot)) i)

-- each slot is below the top
pub count-keys : (keys : FinMap nat_cmp ℕ) (top : ℕ) (p : ℕ × ℕ → Bool) → ((key slot : ℕ) → get keys key ≡ Some slot → slot < top) → count_by (below slot_in p top) (entries keys) ≡ count_by p (entries keys)
count-keys keys top p keyed = count-all slot_in p top (entries keys) (weaker (λ e. get keys e.0 ≡ Some e.1) (λ e. e.1 < top) (λ e found. keyed e.0 e.1 found) (entries keys) (entries-in nat_cmp_total keys))

all-of : {A : Type 0} (es : List A) → count_by always es ≡ length es
all-of [] = refl
all-of (e ∷ es) = omega (arith, sum_by-cons (λ x. weight (always x)) e es, all-of es)

pub all-keys : (keys : FinMap nat_cmp ℕ) → count_by always (entries keys) ≡ len keys
all-keys keys = all-of (entries keys) ∙ sym (len-entries keys)

-- reads change no bytes
pub reads-same : (old new : View) → Ran Everywhere old new → old.tells ≡ true → new.reads ≡ old.reads
reads-same old new ran told = λ k a i. ran.kept told a i tt k
