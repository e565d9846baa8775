-- Lines that grow.
use Rattle.std.proofs.Common.{◌≡◌, ◌≢◌, ◌⊎◌, ℕ, ◌+◌, ◌≤◌, Bool, true, false, List, [], ◌∷◌, ◌++◌, length, filter, cond, ne_eqb, eq-eqb, refl, ap, sym, ◌∙◌, inl, inr, arith, append_assoc, append-nil, length-append, ◌==◌, ◌||◌, ◌&&◌, not, true≢false}
use Rattle.std.proofs.lemmas.List.Elements.{filter-append}
use mathlib.Core.List.{IsPrefix}
use mathlib.Core.Logic.{dite}
use native.Mathlib.Decide.{ℕ_discrete}
use Rattle.ebs_turns.specs.declared.line.Deed.{Deed}
use Rattle.ebs_turns.specs.declared.line.Deed.TheVariants.{Nothing, Takes, Spends}
use Rattle.ebs_turns.specs.declared.line.Turn.{Turn}
use Rattle.ebs_turns.specs.Line.{out_after, is_on, lease_after, turns_of, out_by, is_out, IsDeed}

module _ {A : Type 0} where
  pub prefix_self : (xs : List A) → IsPrefix xs xs
  prefix_self xs = ([], append-nil xs)

  pub prefix_trans : (xs ys zs : List A) → IsPrefix xs ys → IsPrefix ys zs → IsPrefix xs zs
  prefix_trans xs ys zs p q = (p.0 ++ q.0, sym (append_assoc xs p.0 q.0) ∙ (ap (λ w. w ++ q.0) p.1 ∙ q.1))

  pub prefix_more : (xs ys zs : List A) → IsPrefix xs ys → IsPrefix xs (ys ++ zs)
  prefix_more xs ys zs p = prefix_trans xs ys (ys ++ zs) p (zs, refl)

  pub prefix_length : (xs ys : List A) → IsPrefix xs ys → length xs ≤ length ys
  prefix_length xs ys p = omega (arith, sym (ap length p.1) ∙ length-append xs p.0)

  -- of two beginnings of one list the shorter begins the longer
  pub prefix_shorter : (xs ys zs : List A) → IsPrefix xs zs → IsPrefix ys zs → length xs ≤ length ys → IsPrefix xs ys
  prefix_shorter [] ys zs p q le = (ys, refl)
  prefix_shorter (x ∷ xs) [] zs p q le = absurd (omega arith)
  prefix_shorter (x ∷ xs) (y ∷ ys) [] p q le = absurd (cc (p.1))
  prefix_shorter (x ∷ xs) (y ∷ ys) (z ∷ zs) p q le =
      let heads : x ≡ y = cc (p.1, q.1) in
      let rest = prefix_shorter xs ys zs (p.0, cc (p.1)) (q.0, cc (q.1)) (omega arith) in
      (rest.0, cc (heads, rest.1))

  -- a beginning as long as the whole is the whole
  pub whole_prefix : (xs line : List A) → IsPrefix xs line → length line ≤ length xs → xs ≡ line
  whole_prefix [] [] p le = refl
  whole_prefix [] (y ∷ ys) p le = absurd (omega arith)
  whole_prefix (x ∷ xs) [] p le = absurd (cc (p.1))
  whole_prefix (x ∷ xs) (y ∷ ys) p le = let rest = whole_prefix xs ys (p.0, cc (p.1)) (omega arith) in cc (p.1, rest)

  empty : (qs : List A) → length qs ≡ 0 → qs ≡ []
  empty [] e = refl
  empty (a ∷ qs) e = absurd (omega arith)

  no_front : (qs bs : List A) → qs ++ bs ≡ [] → qs ≡ []
  no_front [] bs e = refl
  no_front (a ∷ qs) bs e = cc (e)

  -- one more that isn't picked
  pub unpicked : (p : A → Bool) (xs : List A) (x : A) → p x ≡ false → filter p (xs ++ x ∷ []) ≡ filter p xs
  unpicked p xs x e = filter-append p xs (x ∷ []) ∙ (ap (λ b. filter p xs ++ cond b (x ∷ []) []) e ∙ append-nil (filter p xs))

  -- where nothing of a list is picked, nothing of what begins it is
  pub none_before : (p : A → Bool) (xs ys : List A) → IsPrefix xs ys → filter p ys ≡ [] → filter p xs ≡ []
  none_before p xs ys q e = no_front (filter p xs) (filter p q.0) (sym (filter-append p xs q.0) ∙ (ap (filter p) q.1 ∙ e))

  -- what stands between two lists of which the same is picked
  pub between : (p : A → Bool) (xs ys zs : List A) → IsPrefix xs ys → IsPrefix ys zs → filter p zs ≡ filter p xs → filter p zs ≡ filter p ys
  between p xs ys zs r q e = let a : filter p xs ++ filter p r.0 ≡ filter p ys = sym (filter-append p xs r.0) ∙ ap (filter p) r.1 in
      let b : filter p ys ++ filter p q.0 ≡ filter p zs = sym (filter-append p ys q.0) ∙ ap (filter p) q.1 in
      let c = length-append (filter p xs) (filter p r.0) in let d = length-append (filter p ys) (filter p q.0) in
      let e₁ = ap length e in let a₁ = ap length a in let b₁ = ap length b in let none : filter p q.0 ≡ [] = empty (filter p q.0) (omega arith) in
      sym b ∙ (ap (λ l. filter p ys ++ l) none ∙ append-nil (filter p ys))

or_true : (b : Bool) → (b || true) ≡ true
or_true true = refl
or_true false = refl

or_left : (b c : Bool) → c ≡ false → (b || c) ≡ true → b ≡ true
or_left true c e o = refl
or_left false c e o = sym e ∙ o

and_false : (b c : Bool) → c ≡ true → (b && not c) ≡ false
and_false true true e = refl
and_false true false e = absurd (true≢false (sym e))
and_false false c e = refl

and_left : (b c : Bool) → (b && not c) ≡ true → b ≡ true
and_left true c o = refl
and_left false c o = o

module _ {I : Type 0} where
  pub out_by-append : (l : ℕ) (b : Bool) (xs ys : List (Turn I)) → out_by l b (xs ++ ys) ≡ out_by l (out_by l b xs) ys
  out_by-append l b [] ys = refl
  out_by-append l b (x ∷ xs) ys = out_by-append l (out_after l b x.deed) xs ys

  -- whether a lease is out with one turn more
  pub is_out_more : (l : ℕ) (line : List (Turn I)) (x : Turn I) → is_out l (line ++ x ∷ []) ≡ out_after l (is_out l line) x.deed
  is_out_more l line x = out_by-append l false line (x ∷ [])

  -- the line grows by a turn of another pass
  pub others_turns : (n : ℕ) (line : List (Turn I)) (x : Turn I) → n ≢ x.by → turns_of n (line ++ x ∷ []) ≡ turns_of n line
  others_turns n line x other = unpicked (λ y. n == y.by) line x (ne_eqb n x.by other)

  -- what a lease of the seat whose turn is added, or of another, is then
  pub out_here : (line : List (Turn I)) (n : ℕ) (d : Deed) → IsDeed line n d → ((l : ℕ) → n ≡ l + 1 → is_out l line ≡ true) → (l : ℕ) → lease_after n d ≡ l + 1 → out_after l (is_out l line) d ≡ true
  out_here line n (Takes k) deed old l p = let e : l ≡ k = omega arith in rw (eq-eqb l k e) (or_true (is_out l line))
  out_here line n (Spends k) deed old l p = absurd (omega arith)
  out_here line n Nothing deed old l p = old l p

  pub out_there : (line : List (Turn I)) (n : ℕ) (d : Deed) → IsDeed line n d → (l : ℕ) → is_out l line ≡ true → n ≢ l + 1 → out_after l (is_out l line) d ≡ true
  out_there line n (Takes k) deed l old other = rw old refl
  out_there line n (Spends k) deed l old other = rw (old, ne_eqb l k (λ e. other (omega arith))) refl
  out_there line n Nothing deed l old other = old

  -- another's lease isn't what a turn takes or spends
  pub off_there : (line : List (Turn I)) (n : ℕ) (d : Deed) → IsDeed line n d → (l : ℕ) → is_out l line ≡ true → n ≢ l + 1 → is_on l d ≡ false
  off_there line n (Takes k) deed l old other = ne_eqb l k (λ e. true≢false (sym old ∙ (ap (λ (m : ℕ). is_out m line) e ∙ deed.1)))
  off_there line n (Spends k) deed l old other = ne_eqb l k (λ e. other (omega arith))
  off_there line n Nothing deed l old other = refl

  pub lease_apart : (line : List (Turn I)) (n : ℕ) (d : Deed) → IsDeed line n d → (m : ℕ) → (1 ≤ n → n ≢ m) → ((l : ℕ) → m ≡ l + 1 → is_out l line ≡ true) → 1 ≤ lease_after n d → lease_after n d ≢ m
  lease_apart line n (Takes k) deed m apart held p z = true≢false (sym (held k (sym z)) ∙ deed.1)
  lease_apart line n (Spends k) deed m apart held p z = absurd (omega arith)
  lease_apart line n Nothing deed m apart held p z = apart p z

  -- a lease that is out after the turn was out before, and stays another's, or is the one that was taken
  pub held_cases : (line : List (Turn I)) (n : ℕ) (d : Deed) → IsDeed line n d → (l : ℕ) → out_after l (is_out l line) d ≡ true
      → (lease_after n d ≡ l + 1) ⊎ ((is_out l line ≡ true) × (n ≡ l + 1 → lease_after n d ≡ l + 1))
  held_cases line n (Takes k) deed l o = dite (ℕ_discrete l k) (λ e. inl (omega arith))
      (λ e. let q : is_out l line ≡ true = or_left (is_out l line) (l == k) (ne_eqb l k e) o in inr (q, λ z. absurd (omega arith)))
  held_cases line n (Spends k) deed l o = dite (ℕ_discrete l k)
      (λ e. absurd (true≢false (sym o ∙ and_false (is_out l line) (l == k) (eq-eqb l k e))))
      (λ e. inr (and_left (is_out l line) (l == k) o, λ z. absurd (e (omega arith))))
  held_cases line n Nothing deed l o = inr (o, λ z. z)
