-- Spellings of which none begins another.
use Rattle.std.proofs.Common.{◌≡◌, ℕ, List, ◌++◌, sym, ◌∙◌, append_assoc, ap}

abbrev pub Apart : {V : Type 0} → (V → Type 0) → (V → List ℕ) → Type 0
Apart fits spelled = (v w : _) (x y : List ℕ) → fits v → fits w → spelled v ++ x ≡ spelled w ++ y → (v ≡ w) × (x ≡ y)

-- one behind the other
pub apart_pair : {A B : Type 0} (fa : A → Type 0) (sa : A → List ℕ) (fb : B → Type 0) (sb : B → List ℕ) → Apart fa sa → Apart fb sb → Apart {V = A × B} (λ p. fa p.0 × fb p.1) (λ p. sa p.0 ++ sb p.1)
apart_pair fa sa fb sb one two v w x y a b e =
    let first = one v.0 w.0 (sb v.1 ++ x) (sb w.1 ++ y) a.0 b.0 (sym (append_assoc (sa v.0) (sb v.1) x) ∙ e ∙ append_assoc (sa w.0) (sb w.1) y) in
    let second = two v.1 w.1 x y a.1 b.1 first.1 in
    (λ i. (first.0 i, second.0 i), second.1)

-- what is seen as another value, and can be had back from it
pub apart_by : {V W : Type 0} (view : V → W) (back : W → V) (fits : W → Type 0) (spelled : W → List ℕ) → ((v : V) → back (view v) ≡ v) → Apart fits spelled → Apart {V = V} (λ v. fits (view v)) (λ v. spelled (view v))
apart_by view back fits spelled same apart v w x y a b e =
    let both = apart (view v) (view w) x y a b e in
    (sym (same v) ∙ ap back both.0 ∙ same w, both.1)
