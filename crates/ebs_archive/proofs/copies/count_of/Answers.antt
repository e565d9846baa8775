use Rattle.std.proofs.Common.{◌≡◌, arith, List, sym, ap, subst, ◌∙◌}
use Rattle.ebs_archive.specs.Keys.{IsFrom}
use Rattle.ebs_archive.proofs.Rows.{other-row}
use Rattle.ebs_archive.proofs.Counts.{Entry, count, none-left}
use Rattle.ebs_archive.proofs.copies.count_of.Goals as goal

pub returns-then-ne : goal.returns-then-ne
returns-then-ne c =
    let key = c.args.key.now in
    let e : Entry = (c.in-Some.copy_key.now, c.in-Some.field-0-1.now) in
    let from = subst (λ (es : List Entry). IsFrom key es) c.in-Some.ensures.steps c.loop-copy_key.invariant.2 in
    let none = ap (count key) c.in-Some.ensures.steps ∙ none-left key e _ from (other-row key e.0 (sym c.ne.ensures ∙ c.if-ne.true)) in
    let so_far = c.loop-copy_key.invariant.0 in
    let all : c.loop-copy_key.count ≡ count key c.into_iter-copy_key-iterator.result = omega (arith, none, so_far) in
    all ∙ ap (count key) c.into_iter-copy_key-iterator.ensures.into_iter_gives
