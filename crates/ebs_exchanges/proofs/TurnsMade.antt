-- A run of the program is a run of the machine.
use Rattle.std.proofs.Common.{inl, inr, List, [], ◌∷◌, refl, sym, ap, ◌∙◌}
use Rattle.ebs_model.specs.Machine.{Machine}
use Rattle.ebs_model.specs.declared.answer.Answer.{Answer}
use Rattle.ebs_model.specs.Timed.{Timed, after_all}
use Rattle.ebs_exchanges.specs.Exchanges.{Exchange}
use Rattle.ebs_exchanges.specs.Stops.{Point, Does, no_call, starved, unavailable, changed, answered}
use Rattle.ebs_exchanges.specs.ReadBack.{IsRunFrom}
use Rattle.ebs_exchanges.specs.inner.LifeLaws.{RunIsOfCalls}

one_turn : (x : Exchange) (xs : List Exchange) (p next q : Point) → Does p x next → IsRunFrom next.running xs q.running → IsRunFrom p.running (x ∷ xs) q.running
one_turn x xs p next q (no_call refusal is told same) (turns, makes, ends) =
    (turns, inl (inr (inr (refusal, is)), makes), ends ∙ ap (λ (p : Point). after_all p.running turns) same)
one_turn x xs p next q (starved told same) (turns, makes, ends) = (turns, inl (inl told, makes), ends ∙ ap (λ (p : Point). after_all p.running turns) same)
one_turn x xs p next q (unavailable call is told same) (turns, makes, ends) =
    (turns, inl (inr (inl told), makes), ends ∙ ap (λ (p : Point). after_all p.running turns) same)
one_turn x xs p next q (changed call is steps more same) (turns, makes, ends) =
    let t : Timed = record { call = call; reading = record { second = x.reading } } in
    (t ∷ turns, inr (call, turns, is, refl, makes), ends ∙ ap (λ (d : Machine × Answer). after_all d.0 turns) (sym steps))
one_turn x xs p next q (answered call is steps none same) (turns, makes, ends) =
    let t : Timed = record { call = call; reading = record { second = x.reading } } in
    (t ∷ turns, inr (call, turns, is, refl, makes), ends ∙ ap (λ (d : Machine × Answer). after_all d.0 turns) (sym steps))

pub is_of_calls : RunIsOfCalls
is_of_calls p q [] is = ([], refl, ap (λ (p : Point). p.running) is)
is_of_calls p q (x ∷ xs) (next, does, later) = one_turn x xs p next q does (is_of_calls next q xs later)
