-- The running machine beside the recorded one.
use Rattle.std.proofs.Common.{◌≡◌, inl, inr, List, [], ◌∷◌, refl, sym, ap, ◌∙◌, subst, arith}
use Rattle.ebs_model.specs.declared.keys.Moment.{Moment}
use Rattle.ebs_model.specs.declared.request.Call.{Call}
use Rattle.ebs_model.specs.declared.answer.Answer.{Answer}
use Rattle.ebs_model.specs.Step.{step}
use Rattle.ebs_model.specs.Machine.{Machine, advance, moment_of, empty_machine}
use Rattle.ebs_laws.specs.TimeLaws.{TimePassesInParts}
use Rattle.ebs_exchanges.specs.Stops.{Point, no_call, starved, unavailable, changed, answered}
use Rattle.ebs_exchanges.specs.Lives.{Event, exchanged, commanded, restarted, lost, lost_command, aged, at_rest, Happens, Passes}
use Rattle.ebs_exchanges.specs.inner.Lives.{IsLater, same, moved}
use Rattle.ebs_exchanges.specs.inner.LifeLaws.{StopForgetsTimeAlone}
use Rattle.ebs_exchanges.proofs.Machines.{still}

abbrev pub StandsLater : Point → Type 0
StandsLater p = IsLater p.recorded p.running

module _ (parts : TimePassesInParts) where
  -- an answer without a change moves the clock of the running machine alone
  answered_later : (p q : Point) (call : Call) (at : Moment) (answer : Answer) → step p.running call.account at call.request ≡ (q.running, answer) → q.running.changes ≡ p.running.changes → q.recorded ≡ p.recorded → StandsLater p → StandsLater q
  answered_later p q call at answer steps none stays stood = subst (λ (m : Machine). IsLater m q.running) (sym stays) (by stood)
    where
      now : Moment
      now = moment_of p.running at

      moves : q.running ≡ advance p.running now
      moves =
          ap (λ (d : Machine × Answer). d.0) (sym steps)
          ∙ still p.running call.account at call.request (ap (λ (d : Machine × Answer). d.0.changes) steps ∙ none)

      by : StandsLater p → IsLater p.recorded q.running
      by (same is) =
          let clock = ap (λ (m : Machine). m.clock.second) is in
          moved now (omega (arith, clock)) (moves ∙ ap (λ (m : Machine). advance m now) is)
      by (moved at later is) =
          let clock = ap (λ (m : Machine). m.clock.second) is in
          moved now (omega (arith, clock, later)) (moves ∙ ap (λ (m : Machine). advance m now) is ∙ parts p.recorded at now (omega (arith, clock)))

  pub later_on : (e : Event) (p q : Point) → Happens p e q → StandsLater p → StandsLater q
  later_on (exchanged x) p q (no_call refusal makes told stays) stood = subst StandsLater (sym stays) stood
  later_on (exchanged x) p q (starved told stays) stood = subst StandsLater (sym stays) stood
  later_on (exchanged x) p q (unavailable call makes told stays) stood = subst StandsLater (sym stays) stood
  later_on (exchanged x) p q (changed call makes steps more one) stood = same (sym one)
  later_on (exchanged x) p q (answered call makes steps none stays) stood = answered_later p q call (record { second = x.reading }) x.answer steps none stays stood
  later_on (commanded x) p q (inl (steps, inl (more, one))) stood = same (sym one)
  later_on (commanded x) p q (inl (steps, inr (none, stays))) stood = answered_later p q x.call (record { second = x.reading }) x.answer steps none stays stood
  later_on (commanded x) p q (inr (stop, stays)) stood = subst StandsLater (sym stays) stood
  later_on restarted p q is stood = subst StandsLater (sym is) (same refl)
  later_on (lost m second) p q (l, is) stood = same (ap (λ (p : Point). p.running) is)
  later_on (lost_command call second) p q (l, is) stood = same (ap (λ (p : Point). p.running) is)
  later_on (aged second) p q (early, is) stood = subst StandsLater (sym is) (same refl)

  later_run : (es : List Event) (p q : Point) → Passes p es q → StandsLater p → StandsLater q
  later_run [] p q is stood = subst StandsLater (sym is) stood
  later_run (e ∷ es) p q (next, happens, later) stood = later_run es next q later (later_on e p next happens stood)

  pub time_alone : StopForgetsTimeAlone
  time_alone es p (secret, passes) = later_run es (at_rest (empty_machine secret)) p passes (same refl)
