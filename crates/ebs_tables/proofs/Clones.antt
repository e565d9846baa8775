-- Clones that are the same.
use Rattle.std.proofs.Common.{◌≡◌, List, [], ◌∷◌, refl}
use Rattle.std.specs.List.{AllZip}

module _ {K V : Type 0} (C : K → K → Type 0) (D : V → V → Type 0) (key : (x y : K) → C x y → y ≡ x) (value : (x y : V) → D x y → y ≡ x) where
  pub same_entries : (es fs : List (K × V)) → AllZip (λ p q. C p.0 q.0 × D p.1 q.1) es fs → fs ≡ es
  same_entries [] [] h = refl
  same_entries [] (f ∷ fs) h = absurd h
  same_entries (e ∷ es) [] h = absurd h
  same_entries (e ∷ es) (f ∷ fs) h = λ i. (key e.0 f.0 h.0.0 i, value e.1 f.1 h.0.1 i) ∷ same_entries es fs h.1 i
