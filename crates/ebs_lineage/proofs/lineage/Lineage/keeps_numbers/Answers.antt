use Rattle.std.proofs.Common.{arith, ◌≡◌, ◌<◌, IsSome, Option, Some, None, refl, ap, subst}
use Rattle.std.proofs.lemmas.Bool.{false≢true}
use Rattle.std.specs.FinMap as map
use Rattle.ebs_lineage.specs.Lines.{Lines, AreLines}
use Rattle.ebs_lineage.proofs.lineage.Lineage.keeps_numbers.Goals as goal

some_of : {A : Type 0} (o : Option A) → IsSome o → (x : A) × (o ≡ Some x)
some_of None h = absurd (false≢true h)
some_of (Some x) h = (x, refl)

pub returns : goal.returns
returns c = λ n there.
    let are = subst (λ (k : Lines). AreLines k.table.nodes k.made) c.self.view_is c.self.invariant.lines in
    let x = some_of (map.get c.args.self.now.table.nodes n) there in
    let below : n < c.args.self.now.made = are.numbers n x.0 x.1 in
    let same : c.self.inside.made ≡ c.args.self.now.made = ap (λ (k : Lines). k.made) c.self.view_is in
    omega arith
