-- The laws of arrays.
use Rattle.std.specs.Prelude.{◌≡◌, ℕ, List, Ok}
use Rattle.ebs_model.specs.declared.keys.Moment.{Moment}
use Rattle.ebs_model.specs.declared.request.Request.{Request}
use Rattle.ebs_model.specs.declared.answer.Answer.{Answer}
use Rattle.ebs_model.specs.Arrays.{Hash}
use Rattle.ebs_model.specs.Machine.{Machine, empty_machine, advance}
use Rattle.ebs_model.specs.Step.{act}
use Rattle.ebs_lawful.specs.Arrays.{AreArrays}

abbrev pub EmptyHasArrays : Type 0
EmptyHasArrays = (secret : List ℕ) → AreArrays (empty_machine secret)

-- an accepted call, however digests are found
abbrev pub CallsKeepArrays : Type 0
CallsKeepArrays = (hash : Hash) (m : Machine) (account : ℕ) (request : Request) (n : Machine) (answer : Answer) → act hash m account request ≡ Ok (n, answer) → AreArrays m → AreArrays n

abbrev pub TimeKeepsArrays : Type 0
TimeKeepsArrays = (m : Machine) (now : Moment) → AreArrays m → AreArrays (advance m now)
