-- Runs and stops, one after the other.
use Rattle.std.proofs.Common.{List, [], ◌∷◌, ◌++◌, map, refl, subst}
use Rattle.ebs_model.specs.Machine.{advance, empty_machine}
use Rattle.ebs_exchanges.specs.Stops.{Point, Along, Does, Obeys}
use Rattle.ebs_exchanges.specs.Lives.{Event, exchanged, commanded, restarted, lost, lost_command, aged, at_rest, Happens, Passes, all_exchanged, all_commanded}
use Rattle.ebs_exchanges.specs.inner.LifeLaws.{LivesOn, LivesAgain, LivesUntold, LivesOnByCommand, CommandIsLost, LivesAged}

pub passes_on : (es fs : List Event) (a b c : Point) → Passes a es b → Passes b fs c → Passes a (es ++ fs) c
passes_on [] fs a b c is more = subst (λ (p : Point). Passes p fs c) is more
passes_on (e ∷ es) fs a b c (next, happens, later) more = (next, happens, passes_on es fs next b c later more)

-- what goes along some of them goes along their events
module _ {X : Type 0} (Part : Point → X → Point → Type 0) (told : X → Event) (happens : (p q : Point) (x : X) → Part p x q → Happens p (told x) q) where
  all_pass : (xs : List X) (p q : Point) → Along Part p xs q → Passes p (map told xs) q
  all_pass [] p q is = is
  all_pass (x ∷ xs) p q (next, part, later) = (next, happens p next x part, all_pass xs next q later)

pub lives_on : LivesOn
lives_on past p q xs (secret, passes) runs = (secret, passes_on past (all_exchanged xs) (at_rest (empty_machine secret)) p q passes (all_pass Does exchanged (λ p q x does. does) xs p q runs))

pub lives_again : LivesAgain
lives_again past p (secret, passes) = (secret, passes_on past (restarted ∷ []) (at_rest (empty_machine secret)) p (at_rest p.recorded) passes (at_rest p.recorded, refl, refl))

pub lives_untold : LivesUntold
lives_untold past p m second next (secret, passes) is =
    (secret, passes_on past (lost m second ∷ []) (at_rest (empty_machine secret)) p (at_rest next) passes (at_rest next, (is, refl), refl))

pub lives_on_by_command : LivesOnByCommand
lives_on_by_command past p q xs (secret, passes) obeys = (secret, passes_on past (all_commanded xs) (at_rest (empty_machine secret)) p q passes (all_pass Obeys commanded (λ p q x obeys. obeys) xs p q obeys))

pub command_is_lost : CommandIsLost
command_is_lost past p call second next (secret, passes) is =
    (secret, passes_on past (lost_command call second ∷ []) (at_rest (empty_machine secret)) p (at_rest next) passes (at_rest next, (is, refl), refl))

pub lives_aged : LivesAged
lives_aged past p second (secret, passes) early =
    let next = at_rest (advance p.recorded (record { second = second })) in
    (secret, passes_on past (aged second ∷ []) (at_rest (empty_machine secret)) p next passes (next, (early, refl), refl))
