-- The laws of lawful machines.
use Rattle.std.specs.Prelude.{◌≡◌, ℕ, ◌≤◌, true, List, Ok}
use Rattle.ebs_model.specs.declared.keys.Moment.{Moment}
use Rattle.ebs_model.specs.declared.request.Request.{Request}
use Rattle.ebs_model.specs.declared.answer.Answer.{Answer}
use Rattle.ebs_model.specs.Quotas.{last_second}
use Rattle.ebs_model.specs.Arrays.{Hash}
use Rattle.ebs_model.specs.Machine.{Machine, empty_machine, advance}
use Rattle.ebs_model.specs.Step.{act, step}
use Rattle.ebs_model.specs.Timed.{Timed, after_all}
use Rattle.ebs_lawful.specs.Calls.{is_within}
use Rattle.ebs_lawful.specs.Lawful.{IsLawful}

abbrev pub EmptyIsLawful : Type 0
EmptyIsLawful = (secret : List ℕ) → IsLawful (empty_machine secret)

-- an accepted call, however digests are found
abbrev pub CallsKeepLaws : Type 0
CallsKeepLaws = (hash : Hash) (m : Machine) (account : ℕ) (request : Request) (n : Machine) (answer : Answer) → is_within request ≡ true → act hash m account request ≡ Ok (n, answer) → IsLawful m → IsLawful n

-- at a moment that isn't before the clock
abbrev pub TimeKeepsLaws : Type 0
TimeKeepsLaws = (m : Machine) (now : Moment) → m.clock.second ≤ now.second → now.second ≤ last_second → IsLawful m → IsLawful (advance m now)

abbrev pub StepsKeepLaws : Type 0
StepsKeepLaws = (m : Machine) (account : ℕ) (reading : Moment) (request : Request) → IsLawful m → IsLawful (step m account reading request).0

abbrev pub RunsAreLawful : Type 0
RunsAreLawful = (secret : List ℕ) (turns : List Timed) → IsLawful (after_all (empty_machine secret) turns)
