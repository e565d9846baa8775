-- Children that are linked from the newest to the oldest and back: the same ones, and one more.
use Rattle.std.proofs.Common.{arith, ◌≡◌, ℕ, ◌<◌, ◌⊎◌, inl, inr, Option, Some, None, sym, ap, ◌∙◌, subst}
use Rattle.ebs_lineage.specs.Kin.{Links, first_of, next_of, newer_of, AreListed}
use Rattle.ebs_lineage.proofs.Changes.{same_or}

pub none_some : {A B : Type 0} (a : A) → None ≡ Some a → B
none_some a e = absurd (cc)

pub some_same : {A : Type 0} (a b : A) → Some a ≡ Some b → a ≡ b
some_same a b e = cc

pub three : (a b : ℕ) → (a < b) ⊎ (a ≡ b) ⊎ (b < a)
three a b = grind arith

pub is_it : (o : Option ℕ) (n : ℕ) → (o ≡ Some n) ⊎ (o ≡ Some n → ⊥)
is_it None n = inr (λ e. none_some n e)
is_it (Some m) n = elim (same_or m n) [ inl e ↦ inl (ap (λ q. Some q) e) | inr off ↦ inr (λ e. off (some_same m n e)) ]

pub is_none : (o : Option ℕ) → (o ≡ None) ⊎ ((c : ℕ) × (o ≡ Some c))
is_none None = inl (λ i. None)
is_none (Some c) = inr (c, λ i. Some c)

-- the same links, and children that are the same
module _ (K L : ℕ → ℕ → Type 0) (links more : Links) (goes : (n d : ℕ) → K n d → L n d) (was : (n d : ℕ) → L n d → K n d)
    (firsts : (n d : ℕ) → K n d → first_of more n ≡ first_of links n) (none_else : (n f : ℕ) → first_of more n ≡ Some f → first_of links n ≡ Some f)
    (nexts : (n d : ℕ) → K n d → next_of more d ≡ next_of links d) (newers : (n d : ℕ) → K n d → newer_of more d ≡ newer_of links d) where
  pub listed-same : AreListed K links → AreListed L more
  listed-same are = record {
    first = λ n f e. goes n f (are.first n f (none_else n f e));
    none = λ n d e kid. are.none n d (sym (firsts n d (was n d kid)) ∙ e) (was n d kid);
    newest = λ n f d e kid h. are.newest n f d (none_else n f e) (was n d kid) h;
    next = λ n d e kid h. let found = are.next n d e (was n d kid) (sym (nexts n d (was n d kid)) ∙ h) in (goes n e found.0, found.1);
    oldest = λ n d c kid h other low. are.oldest n d c (was n d kid) (sym (nexts n d (was n d kid)) ∙ h) (was n c other) low;
    between = λ n d e c kid h other low high. are.between n d e c (was n d kid) (sym (nexts n d (was n d kid)) ∙ h) (was n c other) low high;
    newer = λ n d c kid e.
        let found = are.newer n d c (was n d kid) (sym (newers n d (was n d kid)) ∙ e) in
        (goes n c found.0, nexts n c found.0 ∙ found.1);
    top = λ n d kid e. firsts n d (was n d kid) ∙ are.top n d (was n d kid) (sym (newers n d (was n d kid)) ∙ e);
  }

-- ---- one more

-- what a new child of p is to the children and to the links
pub record IsNewKid (K L : ℕ → ℕ → Type 0) (links linked : Links) (made p : ℕ) : Type 0 where
  pub older : (n d : ℕ) → K n d → (n < made) × (d < made)
  pub alone : (n m d : ℕ) → K n d → K m d → n ≡ m
  pub parent : p < made
  pub was : (n d : ℕ) → L n d → ((n ≡ p) × (d ≡ made)) ⊎ K n d
  pub goes : (n d : ℕ) → K n d → L n d
  pub kid : L p made
  pub no_kids : first_of linked made ≡ None
  pub is_first : first_of linked p ≡ Some made
  pub other_first : (n : ℕ) → (n ≡ made → ⊥) → (n ≡ p → ⊥) → first_of linked n ≡ first_of links n
  pub is_next : next_of linked made ≡ first_of links p
  pub other_next : (d : ℕ) → (d ≡ made → ⊥) → next_of linked d ≡ next_of links d
  pub is_top : newer_of linked made ≡ None
  pub is_newer : (d : ℕ) → first_of links p ≡ Some d → newer_of linked d ≡ Some made
  pub other_newer : (d : ℕ) → (d ≡ made → ⊥) → (first_of links p ≡ Some d → ⊥) → newer_of linked d ≡ newer_of links d

module _ (K L : ℕ → ℕ → Type 0) (links linked : Links) (made p : ℕ) (are : AreListed K links) (new : IsNewKid K L links linked made p) where
  old_kid : (n d : ℕ) → K n d → d ≡ made → ⊥
  old_kid n d kid e = let below : d < made = (new.older n d kid).1 in let same : d ≡ made = e in omega arith

  old_parent : (n d : ℕ) → K n d → n ≡ made → ⊥
  old_parent n d kid e = let below : n < made = (new.older n d kid).0 in let same : n ≡ made = e in omega arith

  first' : (n f : ℕ) → (n ≡ made) ⊎ (n ≡ made → ⊥) → (n ≡ p) ⊎ (n ≡ p → ⊥) → first_of linked n ≡ Some f → L n f
  first' n f (inl a) b e = none_some f (sym (ap (first_of linked) a ∙ new.no_kids) ∙ e)
  first' n f (inr a) (inl b) e =
      let same : made ≡ f = some_same made f (sym (ap (first_of linked) b ∙ new.is_first) ∙ e) in
      subst (λ q. L q f) (sym b) (subst (λ q. L p q) same new.kid)
  first' n f (inr a) (inr b) e = new.goes n f (are.first n f (sym (new.other_first n a b) ∙ e))

  none' : (n d : ℕ) → (n ≡ p) ⊎ (n ≡ p → ⊥) → first_of linked n ≡ None → ((n ≡ p) × (d ≡ made)) ⊎ K n d → ⊥
  none' n d (inl b) e kid = none_some made (sym e ∙ ap (first_of linked) b ∙ new.is_first)
  none' n d (inr b) e (inl is) = b is.0
  none' n d (inr b) e (inr kid) = are.none n d (sym (new.other_first n (old_parent n d kid) b) ∙ e) kid

  newest' : (n f d : ℕ) → (n ≡ p) ⊎ (n ≡ p → ⊥) → first_of linked n ≡ Some f → ((n ≡ p) × (d ≡ made)) ⊎ K n d → f < d → ⊥
  newest' n f d (inl b) e (inl is) h = let same : made ≡ f = some_same made f (sym (ap (first_of linked) b ∙ new.is_first) ∙ e) in let at : d ≡ made = is.1 in omega arith
  newest' n f d (inl b) e (inr kid) h = let same : made ≡ f = some_same made f (sym (ap (first_of linked) b ∙ new.is_first) ∙ e) in let below : d < made = (new.older n d kid).1 in omega arith
  newest' n f d (inr b) e (inl is) h = b is.0
  newest' n f d (inr b) e (inr kid) h = are.newest n f d (sym (new.other_first n (old_parent n d kid) b) ∙ e) kid h

  next' : (n d e : ℕ) → ((n ≡ p) × (d ≡ made)) ⊎ K n d → next_of linked d ≡ Some e → L n e × (e < d)
  next' n d e (inl is) h =
      let kid = are.first p e (sym (ap (next_of linked) is.1 ∙ new.is_next) ∙ h) in
      let at : d ≡ made = is.1 in
      let below : e < made = (new.older p e kid).1 in
      (subst (λ q. L q e) (sym is.0) (new.goes p e kid), omega arith)
  next' n d e (inr kid) h = let found = are.next n d e kid (sym (new.other_next d (old_kid n d kid)) ∙ h) in (new.goes n e found.0, found.1)

  at_parent : (n c : ℕ) → n ≡ p → K n c → K p c
  at_parent n c e kid = subst (λ q. K q c) e kid

  oldest' : (n d c : ℕ) → ((n ≡ p) × (d ≡ made)) ⊎ K n d → next_of linked d ≡ None → ((n ≡ p) × (c ≡ made)) ⊎ K n c → c < d → ⊥
  oldest' n d c (inl is) h (inl that) b = let at : d ≡ made = is.1 in let too : c ≡ made = that.1 in omega arith
  oldest' n d c (inl is) h (inr other) b = are.none p c (sym (ap (next_of linked) is.1 ∙ new.is_next) ∙ h) (at_parent n c is.0 other)
  oldest' n d c (inr kid) h (inl that) b = let too : c ≡ made = that.1 in let below : d < made = (new.older n d kid).1 in omega arith
  oldest' n d c (inr kid) h (inr other) b = are.oldest n d c kid (sym (new.other_next d (old_kid n d kid)) ∙ h) other b

  between' : (n d e c : ℕ) → ((n ≡ p) × (d ≡ made)) ⊎ K n d → next_of linked d ≡ Some e → ((n ≡ p) × (c ≡ made)) ⊎ K n c → e < c → c < d → ⊥
  between' n d e c (inl is) h (inl that) a b = let at : d ≡ made = is.1 in let too : c ≡ made = that.1 in omega arith
  between' n d e c (inl is) h (inr other) a b = are.newest p e c (sym (ap (next_of linked) is.1 ∙ new.is_next) ∙ h) (at_parent n c is.0 other) a
  between' n d e c (inr kid) h (inl that) a b = let too : c ≡ made = that.1 in let below : d < made = (new.older n d kid).1 in omega arith
  between' n d e c (inr kid) h (inr other) a b = are.between n d e c kid (sym (new.other_next d (old_kid n d kid)) ∙ h) other a b

  newer' : (n d c : ℕ) → ((n ≡ p) × (d ≡ made)) ⊎ K n d → newer_of linked d ≡ Some c → L n c × (next_of linked c ≡ Some d)
  newer' n d c (inl is) h = none_some c (sym (ap (newer_of linked) is.1 ∙ new.is_top) ∙ h)
  newer' n d c (inr kid) h = elim (is_it (first_of links p) d) [
    | inl was ↦
        let same : made ≡ c = some_same made c (sym (new.is_newer d was) ∙ h) in
        let mine : n ≡ p = new.alone n p d kid (are.first p d was) in
        (subst (λ (q : ℕ × ℕ). L q.0 q.1) (λ i. (sym mine i, same i)) new.kid, ap (next_of linked) (sym same) ∙ new.is_next ∙ was)
    | inr off ↦
        let found = are.newer n d c kid (sym (new.other_newer d (old_kid n d kid) off) ∙ h) in
        (new.goes n c found.0, new.other_next c (old_kid n c found.0) ∙ found.1)
  ]

  top' : (n d : ℕ) → ((n ≡ p) × (d ≡ made)) ⊎ K n d → newer_of linked d ≡ None → first_of linked n ≡ Some d
  top' n d (inl is) h = ap (first_of linked) is.0 ∙ new.is_first ∙ ap (λ q. Some q) (sym is.1)
  top' n d (inr kid) h = elim (is_it (first_of links p) d) [
    | inl was ↦ none_some made (sym h ∙ new.is_newer d was)
    | inr off ↦
        let found = are.top n d kid (sym (new.other_newer d (old_kid n d kid) off) ∙ h) in
        new.other_first n (old_parent n d kid) (λ e. off (ap (first_of links) (sym e) ∙ found)) ∙ found
  ]

  pub listed-new : AreListed L linked
  listed-new = record {
    first = λ n f e. first' n f (same_or n made) (same_or n p) e;
    none = λ n d e kid. none' n d (same_or n p) e (new.was n d kid);
    newest = λ n f d e kid h. newest' n f d (same_or n p) e (new.was n d kid) h;
    next = λ n d e kid h. next' n d e (new.was n d kid) h;
    oldest = λ n d c kid h other b. oldest' n d c (new.was n d kid) h (new.was n c other) b;
    between = λ n d e c kid h other a b. between' n d e c (new.was n d kid) h (new.was n c other) a b;
    newer = λ n d c kid h. newer' n d c (new.was n d kid) h;
    top = λ n d kid h. top' n d (new.was n d kid) h;
  }
