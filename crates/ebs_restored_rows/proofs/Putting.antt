-- Lists that are put in from their ends.
use Rattle.std.proofs.Common.{◌≡◌, ℕ, List, [], ◌∷◌, ◌++◌, map, refl, sym, ap, ◌∙◌}
use Rattle.std.specs.Ordering.{nat_cmp}
use Rattle.std.specs.FinMap.{FinMap, empty, insert, from_entries}
use Rattle.ebs_restored_rows.specs.Placed.{put_all}

pub put-last : {B X : Type 0} (put : B → X → B) (base : B) (xs : List X) (x : X) → put_all put base (xs ++ x ∷ []) ≡ put_all put (put base x) xs
put-last put base [] x = refl
put-last put base (y ∷ ys) x = ap (λ b. put b y) (put-last put base ys x)

-- with the last one put in, the rest makes the same
pub put-next : {B X : Type 0} (put : B → X → B) (base new : B) (all rest : List X) (x : X) (target : B) → all ≡ rest ++ x ∷ [] → new ≡ put base x → put_all put base all ≡ target → put_all put new rest ≡ target
put-next put base new all rest x target taken is goal =
    ap (λ b. put_all put b rest) is ∙ sym (put-last put base rest x) ∙ ap (put_all put base) (sym taken) ∙ goal

-- indexes of an upload
abbrev pub Indexes : Type 0
Indexes = FinMap nat_cmp (Unit {0})

abbrev pub with_index : Indexes → ℕ → Indexes
with_index put index = insert put index tt

pub all-indexes : (indexes : List ℕ) → put_all with_index empty indexes ≡ from_entries (map (λ i. (i, tt)) indexes)
all-indexes [] = refl
all-indexes (i ∷ rest) = ap (λ m. with_index m i) (all-indexes rest)
