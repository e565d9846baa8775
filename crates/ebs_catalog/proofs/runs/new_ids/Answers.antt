use Rattle.std.proofs.Common.{◌≡◌, ◌+◌, ◌++◌, suc, [], ◌∷◌, arith, sym, ◌∙◌}
use Rattle.ebs_catalog.proofs.Numbered.{id_at, are-so-many}
use Rattle.ebs_catalog.proofs.runs.new_ids.Goals as goal

pub loop-number-preserved : goal.loop-number-preserved
loop-number-preserved c =
    let (count, at, ids) = c.loop-number.invariant in
    let number : c.new-number.result ≡ c.args.first + count = c.new-number.ensures ∙ at in
    (suc count, omega arith, c.in_ok-push.ensures.ok ∙ (λ i. ids i ++ id_at c.args.account (number i) ∷ []))

pub returns : goal.returns
returns c = λ volumes e.
    let (count, at, ids) = c.loop-number.invariant in
    let all : count ≡ c.args.count = omega arith in
    are-so-many c.args.account c.args.first count c.loop-number.ids ids volumes (e ∙ sym all)
