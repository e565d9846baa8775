use Rattle.std.proofs.Common.{◌≡◌, Bool, true, false, cond, List, [], ◌∷◌, ◌&&◌, refl, sym, ap, ◌∙◌}
use Rattle.std.specs.List.{filter}
use Rattle.std.specs.Ordering.{is_le}
use Rattle.ebs_tables.proofs.TreeMaps.{entries-seen}
use Rattle.ebs_tables.proofs.table.Table.from.Goals as goal

drop_true : (b : Bool) → (b && true) ≡ b
drop_true true = refl
drop_true false = refl

same_filter : {X : Type 0} (p q : X → Bool) → ((x : X) → p x ≡ q x) → (xs : List X) → filter p xs ≡ filter q xs
same_filter p q same [] = refl
same_filter p q same (x ∷ xs) = λ i. cond (same x i) (x ∷ same_filter p q same xs i) (same_filter p q same xs i)

pub returns-clause-values : goal.returns-clause-values
returns-clause-values g c =
    let es = c.args.self.now.rows.entries in
    c.range.ensures.between tt
    ∙ same_filter _ _ (λ e. drop_true (is_le (g.K.Ord.cmp c.args.key.now e.0))) es
    ∙ ap (filter (λ e. is_le (g.K.Ord.cmp c.args.key.now e.0))) (sym (entries-seen g.met.K.Ord.total es c.range.ensures.ordered))
