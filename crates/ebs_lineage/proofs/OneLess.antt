-- Children that are linked from the newest to the oldest and back: one less.
use Rattle.std.proofs.Common.{arith, ◌≡◌, ℕ, ◌<◌, ◌⊎◌, inl, inr, Some, None, sym, ap, ◌∙◌, subst}
use Rattle.ebs_lineage.specs.Kin.{Links, first_of, next_of, newer_of, AreListed}
use Rattle.ebs_lineage.proofs.Changes.{same_or}
use Rattle.ebs_lineage.proofs.Listing.{none_some, some_same, three, is_it, is_none}

-- what leaving out a child of p is to the children and to the links
pub record IsLeftOut (K L : ℕ → ℕ → Type 0) (links after : Links) (p d : ℕ) : Type 0 where
  pub kid : K p d
  pub alone : (n m c : ℕ) → K n c → K m c → n ≡ m
  pub was : (n c : ℕ) → L n c → K n c × (c ≡ d → ⊥)
  pub goes : (n c : ℕ) → K n c → (c ≡ d → ⊥) → L n c
  pub first : newer_of links d ≡ None → first_of after p ≡ next_of links d
  pub other_first : (n : ℕ) → ((n ≡ p) × (newer_of links d ≡ None) → ⊥) → first_of after n ≡ first_of links n
  pub next : (c : ℕ) → newer_of links d ≡ Some c → next_of after c ≡ next_of links d
  pub other_next : (c : ℕ) → (newer_of links d ≡ Some c → ⊥) → next_of after c ≡ next_of links c
  pub newer : (e : ℕ) → next_of links d ≡ Some e → newer_of after e ≡ newer_of links d
  pub other_newer : (e : ℕ) → (next_of links d ≡ Some e → ⊥) → newer_of after e ≡ newer_of links e

module _ (K L : ℕ → ℕ → Type 0) (links after : Links) (p d : ℕ) (are : AreListed K links) (out : IsLeftOut K L links after p d) where
  is_top : (n : ℕ) → ((n ≡ p) × (newer_of links d ≡ None)) ⊎ ((n ≡ p) × (newer_of links d ≡ None) → ⊥)
  is_top n = elim (same_or n p) [
    | inr off ↦ inr (λ both. off both.0)
    | inl e ↦ elim (is_none (newer_of links d)) [
      | inl none ↦ inl (e, none)
      | inr (c, is) ↦ inr (λ both. none_some c (sym both.1 ∙ is))
    ]
  ]

  off_by : (a b : ℕ) → a < b → a ≡ b → ⊥
  off_by a b less e = let low : a < b = less in let same : a ≡ b = e in omega arith

  off_over : (a b : ℕ) → b < a → a ≡ b → ⊥
  off_over a b less e = let low : b < a = less in let same : a ≡ b = e in omega arith

  -- the one that comes next below the child, and the one above it
  older_than : (e : ℕ) → next_of links d ≡ Some e → K p e × (e < d)
  older_than e is = are.next p d e out.kid is

  newer_than : (c : ℕ) → newer_of links d ≡ Some c → K p c × (next_of links c ≡ Some d) × (d < c)
  newer_than c is = let found = are.newer p d c out.kid is in (found.0, found.1, (are.next p c d found.0 found.1).1)

  in_p : (n c : ℕ) → n ≡ p → K p c → K n c
  in_p n c e kid = subst (λ q. K q c) (sym e) kid

  to_p : (n c : ℕ) → n ≡ p → K n c → K p c
  to_p n c e kid = subst (λ q. K q c) e kid

  -- no child of p is newer than one that has no newer one
  none_above : newer_of links d ≡ None → (c : ℕ) → K p c → d < c → ⊥
  none_above none c kid high = are.newest p d c (are.top p d out.kid none) kid high

  first' : (n f : ℕ) → first_of after n ≡ Some f → L n f
  first' n f e = elim (is_top n) [
    | inl (same, none) ↦
        let found = older_than f (sym (ap (first_of after) same ∙ out.first none) ∙ e) in
        out.goes n f (in_p n f same found.0) (off_by f d found.1)
    | inr off ↦
        let was = sym (out.other_first n off) ∙ e in
        let kid = are.first n f was in
        out.goes n f kid (λ s.
        let mine : n ≡ p = out.alone n p d (subst (K n) s kid) out.kid in
        elim (is_none (newer_of links d)) [
          | inl none ↦ off (mine, none)
          | inr (c, is) ↦ (let up = newer_than c is in are.newest p d c (ap (first_of links) (sym mine) ∙ was ∙ ap (λ q. Some q) s) up.0 up.2)
        ])
  ]

  none' : (n c : ℕ) → first_of after n ≡ None → K n c → (c ≡ d → ⊥) → ⊥
  none' n c e kid off = elim (is_top n) [
    | inl (same, none) ↦
        let last = sym (ap (first_of after) same ∙ out.first none) ∙ e in
        elim (three c d) [
          | inl low ↦ are.oldest p d c out.kid last (to_p n c same kid) low
          | inr h ↦ elim h [ inl s ↦ off s | inr high ↦ none_above none c (to_p n c same kid) high ]
        ]
    | inr away ↦ are.none n c (sym (out.other_first n away) ∙ e) kid
  ]

  newest' : (n f c : ℕ) → first_of after n ≡ Some f → K n c → (c ≡ d → ⊥) → f < c → ⊥
  newest' n f c e kid off less = elim (is_top n) [
    | inl (same, none) ↦
        let is = sym (ap (first_of after) same ∙ out.first none) ∙ e in
        elim (three c d) [
          | inl low ↦ are.between p d f c out.kid is (to_p n c same kid) less low
          | inr h ↦ elim h [ inl s ↦ off s | inr high ↦ none_above none c (to_p n c same kid) high ]
        ]
    | inr away ↦ are.newest n f c (sym (out.other_first n away) ∙ e) kid less
  ]

  -- the one whose next one the child is, is the newer one of the child
  only_newer : (n c : ℕ) → K n c → next_of links c ≡ Some d → newer_of links d ≡ Some c
  only_newer n c kid is =
      let mine : n ≡ p = out.alone n p d (are.next n c d kid is).0 out.kid in
      let high = (are.next n c d kid is).1 in
      elim (is_none (newer_of links d)) [
        | inl none ↦ absurd (none_above none c (to_p n c mine kid) high)
        | inr (b, up) ↦
            let found = newer_than b up in
            elim (three b c) [
              | inl low ↦ absurd (are.between p c d b (to_p n c mine kid) is found.0 found.2 low)
              | inr h ↦ elim h [
                | inl s ↦ up ∙ ap (λ q. Some q) s
                | inr low ↦ absurd (are.between p b d c found.0 found.1 (to_p n c mine kid) high low)
              ]
            ]
      ]

  next' : (n c e : ℕ) → K n c → next_of after c ≡ Some e → L n e × (e < c)
  next' n c e kid h = elim (is_it (newer_of links d) c) [
    | inl up ↦
        let above = newer_than c up in
        let below = older_than e (sym (out.next c up) ∙ h) in
        let mine : n ≡ p = out.alone n p c kid above.0 in
        let low : e < d = below.1 in
        let high : d < c = above.2 in
        (out.goes n e (in_p n e mine below.0) (off_by e d low), omega arith)
    | inr off ↦
        let found = are.next n c e kid (sym (out.other_next c off) ∙ h) in
        (out.goes n e found.0 (λ s. off (only_newer n c kid (sym (out.other_next c off) ∙ h ∙ ap (λ q. Some q) s))), found.1)
  ]

  oldest' : (n c b : ℕ) → K n c → next_of after c ≡ None → K n b → (b ≡ d → ⊥) → b < c → ⊥
  oldest' n c b kid h other off less = elim (is_it (newer_of links d) c) [
    | inl up ↦
        let above = newer_than c up in
        let mine : n ≡ p = out.alone n p c kid above.0 in
        let last = sym (out.next c up) ∙ h in
        elim (three b d) [
          | inl low ↦ are.oldest p d b out.kid last (to_p n b mine other) low
          | inr q ↦ elim q [ inl s ↦ off s | inr high ↦ are.between p c d b above.0 above.1 (to_p n b mine other) high less ]
        ]
    | inr away ↦ are.oldest n c b kid (sym (out.other_next c away) ∙ h) other less
  ]

  between' : (n c e b : ℕ) → K n c → next_of after c ≡ Some e → K n b → (b ≡ d → ⊥) → e < b → b < c → ⊥
  between' n c e b kid h other off low high = elim (is_it (newer_of links d) c) [
    | inl up ↦
        let above = newer_than c up in
        let mine : n ≡ p = out.alone n p c kid above.0 in
        let is = sym (out.next c up) ∙ h in
        elim (three b d) [
          | inl less ↦ are.between p d e b out.kid is (to_p n b mine other) low less
          | inr q ↦ elim q [ inl s ↦ off s | inr more ↦ are.between p c d b above.0 above.1 (to_p n b mine other) more high ]
        ]
    | inr away ↦ are.between n c e b kid (sym (out.other_next c away) ∙ h) other low high
  ]

  newer' : (n c b : ℕ) → K n c → (c ≡ d → ⊥) → newer_of after c ≡ Some b → L n b × (next_of after b ≡ Some c)
  newer' n c b kid off h = elim (is_it (next_of links d) c) [
    | inl down ↦
        let below = older_than c down in
        let mine : n ≡ p = out.alone n p c kid below.0 in
        let up = sym (out.newer c down) ∙ h in
        let above = newer_than b up in
        (out.goes n b (in_p n b mine above.0) (off_over b d above.2), out.next b up ∙ down)
    | inr away ↦
        let found = are.newer n c b kid (sym (out.other_newer c away) ∙ h) in (
          out.goes n b found.0 (λ s. away (ap (next_of links) (sym s) ∙ found.1)),
          out.other_next b (λ up. off (some_same c d (sym found.1 ∙ (newer_than b up).1))) ∙ found.1,
        )
  ]

  top' : (n c : ℕ) → K n c → (c ≡ d → ⊥) → newer_of after c ≡ None → first_of after n ≡ Some c
  top' n c kid off h = elim (is_it (next_of links d) c) [
    | inl down ↦
        let mine : n ≡ p = out.alone n p c kid (older_than c down).0 in
        ap (first_of after) mine ∙ out.first (sym (out.newer c down) ∙ h) ∙ down
    | inr away ↦
        let found = are.top n c kid (sym (out.other_newer c away) ∙ h) in
        out.other_first n (λ both. off (some_same c d (sym found ∙ ap (first_of links) both.0 ∙ are.top p d out.kid both.1))) ∙ found
  ]

  pub listed-less : AreListed L after
  listed-less = record {
    first = first';
    none = λ n c e kid. let was = out.was n c kid in none' n c e was.0 was.1;
    newest = λ n f c e kid less. let was = out.was n c kid in newest' n f c e was.0 was.1 less;
    next = λ n c e kid h. next' n c e (out.was n c kid).0 h;
    oldest = λ n c b kid h other less. let was = out.was n b other in oldest' n c b (out.was n c kid).0 h was.0 was.1 less;
    between = λ n c e b kid h other low high. let was = out.was n b other in between' n c e b (out.was n c kid).0 h was.0 was.1 low high;
    newer = λ n c b kid h. let was = out.was n c kid in newer' n c b was.0 was.1 h;
    top = λ n c kid h. let was = out.was n c kid in top' n c was.0 was.1 h;
  }
