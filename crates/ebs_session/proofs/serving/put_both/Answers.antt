use Rattle.std.proofs.Common.{ℕ, List, ◌++◌, Option, Result, Ok, Err, OnErr, ap, ◌∙◌, append_assoc}
use Rattle.ebs_world.specs.Ends.{AppendsFront}
use Rattle.ebs_session.proofs.serving.put_both.Goals as goal

-- a front of a text is one of the text with more behind it
front_of_more : (old new : Option (List ℕ)) (text more : List ℕ) → AppendsFront old new text → AppendsFront old new (text ++ more)
front_of_more old new text more (front, (rest, is), writes) = (front, (rest ++ more, ap (λ l. l ++ more) is ∙ append_assoc front rest more), writes)

on_err : {A E : Type 0} (r : Result A E) (P : Type 0) → P → OnErr r P
on_err (Ok x) P p = tt
on_err (Err e) P p = p

pub returns-in_err-put-clause-err : goal.returns-in_err-put-clause-err
returns-in_err-put-clause-err g c = on_err _ _ (front_of_more _ _ c.args.text.now c.args.block.now c.in_err-put.ensures.err)
