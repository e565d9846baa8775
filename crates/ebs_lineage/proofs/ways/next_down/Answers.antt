use Rattle.std.proofs.Common.{◌≡◌, ℕ, inl, true, false, Option, Some, None, IfNone, is_some, refl, sym, ◌∙◌}
use Rattle.std.proofs.lemmas.Bool.{false≢true}
use Rattle.ebs_lineage.proofs.Ends.{end-childless, end-forked}
use Rattle.ebs_lineage.proofs.Onward.{kid-way}
use Rattle.ebs_lineage.proofs.ways.next_down.Goals as goal

none_of : (o : Option ℕ) → is_some o ≡ false → o ≡ None
none_of None e = refl
none_of (Some n) e = absurd (false≢true (sym e))

pub returns-in-Some-clause-way : goal.returns-in-Some-clause-way
returns-in-Some-clause-way c = c.requires.ways c.args.number c.in-Some.below (sym c.in-Some.ensures)

pub returns-clause-way : goal.returns-clause-way
returns-clause-way c =
    let last = sym c.next_kid.ensures ∙ none_of c.next_kid.result (sym c.if-is_some.ensures) in
    kid-way c.args.nodes.now.nodes c.args.made c.requires.lines c.args.kin.now.links c.requires.kin c.args.number c.in_ok-kid.kid c.in_ok-here.here.now (sym c.in_ok-here.ensures) c.if-here.false (sym c.in_ok-kid.ensures) last

if_none : {P : Type 0} (o : Option ℕ) → P → IfNone o P
if_none None p = p
if_none (Some n) p = tt

some_of : (o : Option ℕ) → is_some o ≡ true → (n : ℕ) × (o ≡ Some n)
some_of None e = absurd (false≢true e)
some_of (Some n) e = (n, refl)

pub returns-then-here-clause-end : goal.returns-then-here-clause-end
returns-then-here-clause-end c = inl (c.in_ok-here.here.now, sym c.in_ok-here.ensures, c.if-here.true)

pub returns-in_err-kid-clause-end : goal.returns-in_err-kid-clause-end
returns-in_err-kid-clause-end c =
    if_none c.from_residual-in_err-kid.result (end-childless c.args.nodes.now.nodes c.args.made c.requires.lines c.args.kin.now.links c.requires.kin c.args.number (sym c.in_err-kid.ensures))

pub returns-then-is_some-clause-end : goal.returns-then-is_some-clause-end
returns-then-is_some-clause-end c =
    let next = some_of c.next_kid.result (sym c.if-is_some.ensures) in
    end-forked c.args.nodes.now.nodes c.args.made c.requires.lines c.args.kin.now.links c.requires.kin c.args.number c.in_ok-kid.kid next.0 (sym c.in_ok-kid.ensures) (sym c.next_kid.ensures ∙ next.1)
