use Rattle.std.proofs.Common.{◌≡◌, ◌<◌, ℕ, is_some, true, Option, Some, None, refl, sym, ap, subst, ◌∙◌}
use Rattle.std.proofs.lemmas.Bool.{false≢true}
use Rattle.std.specs.FinMap as map
use Rattle.ebs_lineage.specs.Lines.{Lines, AreLines}
use Rattle.ebs_lineage.specs.Live.{owner, owner_above}
use Rattle.ebs_lineage.proofs.Arrays.{steps}
use Rattle.ebs_lineage.proofs.Walk.{goes_down}
use Rattle.ebs_lineage.proofs.Kids.{kept-none}
use Rattle.ebs_lineage.proofs.Liveness.{owner-own, owner-none, owner-missing}
use Rattle.ebs_lineage.proofs.lineage.Lineage.keeper_above.Goals as goal

some_of : {A : Type 0} (o : Option A) → is_some o ≡ true → (x : A) × (o ≡ Some x)
some_of None h = absurd (false≢true h)
some_of (Some x) h = (x, refl)

pub loop-at-init : goal.loop-at-init
loop-at-init c = ap (λ (o : Option ℕ). owner_above o (owner c.args.self.now.table.nodes c.args.index)) c.above-at.ensures.parent

pub returns-in_default-get : goal.returns-in_default-get
returns-in_default-get c =
    let l = c.args.self.now in
    let none = sym (c.in_default-get.ensures ∙ ap (λ (k : Lines). map.get k.table.nodes c.in-Some.number) c.self.view_is) in
    sym (ap (λ (o : Option ℕ). owner_above o (owner l.table.nodes c.args.index)) c.in-Some.is ∙ owner-missing l.table.nodes c.args.index c.in-Some.number none) ∙ c.loop-at.invariant

pub returns-then-is_some : goal.returns-then-is_some
returns-then-is_some c =
    let l = c.args.self.now in
    let are = subst (λ (k : Lines). AreLines k.table.nodes k.made) c.self.view_is c.self.invariant.lines in
    let there = sym (c.in-Some-get.ensures ∙ ap (λ (k : Lines). map.get k.table.nodes c.in-Some.number) c.self.view_is) in
    let block = some_of c.get-in-Some.result (sym c.is_some.ensures ∙ c.if-is_some.true) in
    sym (ap (λ (o : Option ℕ). owner_above o (owner l.table.nodes c.args.index)) c.in-Some.is
    ∙ owner-own l.table.nodes l.made are c.args.index c.in-Some.number c.in-Some-get.here.now block.0 there (sym c.get-in-Some.ensures ∙ block.1))
    ∙ c.loop-at.invariant

pub loop-at-preserved : goal.loop-at-preserved
loop-at-preserved c =
    let l = c.args.self.now in
    let are = subst (λ (k : Lines). AreLines k.table.nodes k.made) c.self.view_is c.self.invariant.lines in
    let there = sym (c.in-Some-get.ensures ∙ ap (λ (k : Lines). map.get k.table.nodes c.in-Some.number) c.self.view_is) in
    let none = sym c.get-in-Some.ensures ∙ kept-none c.get-in-Some.result (sym c.is_some.ensures ∙ c.if-is_some.false) in
    sym (ap (λ (o : Option ℕ). owner_above o (owner l.table.nodes c.args.index)) c.in-Some.is
    ∙ owner-none l.table.nodes l.made are c.args.index c.in-Some.number c.in-Some-get.here.now there none)
    ∙ c.loop-at.invariant

pub loop-at-smaller : goal.loop-at-smaller
loop-at-smaller c =
    let l = c.args.self.now in
    let are = subst (λ (k : Lines). AreLines k.table.nodes k.made) c.self.view_is c.self.invariant.lines in
    let there = sym (c.in-Some-get.ensures ∙ ap (λ (k : Lines). map.get k.table.nodes c.in-Some.number) c.self.view_is) in
    subst (λ (o : Option ℕ). steps c.in-Some-get.here.now.parent < steps o) (sym c.in-Some.is) (goes_down l.table.nodes l.made are c.in-Some.number c.in-Some-get.here.now there)

pub returns : goal.returns
returns c = sym (ap (λ (o : Option ℕ). owner_above o (owner c.args.self.now.table.nodes c.args.index)) c.in_default.is) ∙ c.loop-at.invariant
