-- What a source and a clock in memory hand out.
use Rattle.std.proofs.Common.{◌≡◌, ℕ, zero, suc, ◌+◌, ◌-◌, ◌<◌, ◌≤◌, min, List, [], ◌∷◌, ◌++◌, length, take, drop, map, get_or, Some, refl, sym, ap, ◌∙◌, arith, length-append, length-drop, take-append-drop}
use Rattle.std.proofs.lemmas.List.{take_at, take_all, drop_all}
use Rattle.std.proofs.lemmas.Grind.{common_steps}
use Rattle.ebs_world.specs.Ends.{Ticks}

-- the last argument but one says how much is handed out: no more than is left, than there is room for, and than a piece
pub took : (xs room new : List ℕ) (at count piece : ℕ) → at ≤ length xs → 0 < piece
    → count ≡ min (min (length (take (length xs - at) (drop at xs))) (length room)) piece
    → new ≡ take count (take (length xs - at) (drop at xs))
    → (drop at xs ≡ take count (new ++ drop count room) ++ drop (at + count) xs) × (count ≡ 0 → 0 < length (new ++ drop count room) → drop (at + count) xs ≡ [])
took xs room new at count piece within some is_count is =
    let left : length (drop at xs) ≡ length xs - at = length-drop at xs in
    let all : take (length xs - at) (drop at xs) ≡ drop at xs = take_all _ _ (omega arith) in
    let enough : count ≤ length (drop at xs) = omega (arith, ap length all) in
    let new_is : new ≡ take count (drop at xs) = is ∙ ap (take count) all in
    let new_length : length new ≡ count = grind (arith, common_steps) in
    let front : take count (new ++ drop count room) ≡ new = take_at new (drop count room) count new_length in
    let more : drop count (drop at xs) ≡ drop (at + count) xs = grind (arith, common_steps) in (
      sym (take-append-drop count (drop at xs)) ∙ ap (λ (l : List ℕ). take count (drop at xs) ++ l) more ∙ ap (λ (l : List ℕ). l ++ drop (at + count) xs) (sym new_is ∙ sym front),
      λ none any. drop_all (at + count) xs (omega (arith, ap length all, length-append new (drop count room), length-drop count room)),
    )

pub ticks_on : {M : Type 0} (f : M → ℕ) (xs : List M) (at : ℕ) (m : M) → m ≡ get_or xs at m → at + 1 < length xs → Ticks (Some (map f (drop at xs))) (Some (map f (drop (at + 1) xs))) (f m)
ticks_on f [] at m is more = absurd (omega arith)
ticks_on f (x ∷ []) at m is more = absurd (omega arith)
ticks_on f (x ∷ y ∷ xs) zero m is more = (ap f is, refl)
ticks_on f (x ∷ y ∷ xs) (suc at) m is more = let next : suc at + 1 ≡ suc (at + 1) = omega arith in rw next (ticks_on f (y ∷ xs) at m is (omega arith))
