-- What a line of turns tells in single cases.
use Rattle.std.proofs.Common.{◌≡◌, ℕ, arith, List, [], ◌∷◌, map, Some, None, refl, ap}
use Rattle.ebs_model.specs.declared.keys.SnapKey.{SnapKey}
use Rattle.ebs_model.specs.declared.keys.Moment.{Moment}
use Rattle.ebs_model.specs.declared.request.Request.TheVariants.{StartSnapshot}
use Rattle.ebs_model.specs.declared.answer.Answer.TheVariants.{Refused}
use Rattle.ebs_model.specs.declared.answer.Refusal.TheVariants.{Damaged}
use Rattle.ebs_model.specs.Machine.{Machine, advance, moment_of}
use Rattle.ebs_model.specs.inner.History.{Entry, Item, entry, tick, fault, blank, move, after_entry, run_line, history, AreRising}

-- calls alone are their own history
history-calls : (es : List Entry) → history (map entry es) ≡ es
history-calls [] = refl
history-calls (e ∷ es) = ap (λ rest. e ∷ rest) (history-calls es)

-- a tick advances the machine, and what has no reading leaves it
ticked : (m : Machine) (reading : Moment) → run_line m (blank ∷ tick reading 0 ∷ move 3 ∷ fault 1 4 5 ∷ []) ≡ advance m (moment_of m reading)
ticked m reading = refl

-- an upload that would begin with a damaged block is none
start-stops : (m : Machine) (pass account : ℕ) (reading : Moment) (size timeout : ℕ) (source : SnapKey) (stored found : List ℕ)
    → after_entry m (record { pass = pass; account = account; reading = reading; request = StartSnapshot size (Some source) None [] None timeout; answer = Refused (Damaged stored found) }) ≡ advance m (moment_of m reading)
start-stops m pass account reading size timeout source stored found = refl

-- faults are counted on, whatever lies between
falling : AreRising 0 (fault 7 0 2 ∷ blank ∷ fault 8 1 3 ∷ []) → ⊥
falling rises = omega (arith, rises)

staying : AreRising 0 (fault 7 2 2 ∷ []) → ⊥
staying rises = omega (arith, rises)

rising : AreRising 0 (fault 7 0 1 ∷ blank ∷ fault 8 1 3 ∷ [])
rising = (omega arith, omega arith, (omega arith, omega arith, tt))

-- a count that stands at the last value of its type has risen as far as it can
full-count : AreRising 0 (fault 7 0 18446744073709551615 ∷ fault 8 18446744073709551615 18446744073709551615 ∷ [])
full-count = (omega arith, omega arith, (omega arith, omega arith, tt))
